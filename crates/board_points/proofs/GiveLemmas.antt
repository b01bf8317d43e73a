-- Rows that give their points to the rows beside them, as a set is filled.
use Rattle.board_points.proofs.Common.{◌≡◌, ◌≢◌, inl, inr, ℕ, ◌+◌, ◌-◌, ◌^◌, ◌<◌, ◌≤◌, ◌⊎◌, ◌&&◌, ◌||◌, Bool, true, false, not, nat_eq, List, length, set, bit_and, bit_or, refl, sym, ap, ◌∙◌, arith, slice_index, subst, w64, length-set, trailing_zeros, or_cases, or_left, or_right, and_parts, and_from, false≢true, cases_eq, cases_Bool, Up, Down, has_bit, is_set, IsAmong, IsClosed, Grows, IsPart, HasBeside, IsTaken, row_above, IsNext, opposite, AreRowsBelow, HaveGiven, HaveGivenBut, IsFilledBut, HaveMore, lacking, bit_xor}
use Rattle.board_points.specs.declared.fill.Direction.{Direction}
use Rattle.board_points.proofs.WordLemmas.{has_bit_apart, has_bit-or, has_bit-and, has_bit-zero, not_in_part, le_from_part}
use Rattle.board_points.proofs.ColumnLemmas.{lowest_left}
use Rattle.board_points.proofs.GrowLemmas.{row_below, set_there, set_elsewhere, each_row, Grows-twice, Grows-row, above_at, seed_of, lacking-more, zero_of, taken_with, from_with, part_with}

-- a row is beside one row in each direction
next_other : (d : Direction) (row next : ℕ) → IsNext d row next → next ≢ row
next_other d row next is = grind arith

next_one : (d : Direction) (row n m : ℕ) → IsNext d row n → IsNext d row m → n ≡ m
next_one d row n m one other = grind arith

back_one : (d : Direction) (row next n : ℕ) → IsNext d row next → IsNext (opposite d) next n → n ≡ row
back_one d row next n there back = grind arith

-- nothing is in a part that is 0
none_in : {X : Type 0} (a b col : ℕ) → bit_and a b ≡ 0 → has_bit a col ≡ true → has_bit b col ≡ true → X
none_in a b col none left right =
    absurd (false≢true (sym (ap (λ w. has_bit w col) none ∙ has_bit-zero col) ∙ has_bit-and a b col ∙ and_from _ _ left right))

-- where a row lacks none of the columns of a word, it has those that the region has
pub has_all : (region here lacks word : ℕ) → ((col : ℕ) → has_bit lacks col ≡ (has_bit region col && not (has_bit here col))) → bit_and lacks word ≡ 0 → (col : ℕ) → has_bit region col ≡ true → has_bit word col ≡ true → has_bit here col ≡ true
has_all region here lacks word lacks_is none col there given =
    elim (cases_Bool (has_bit here col)) [
      | inl is ↦ is
      | inr gone ↦ none_in lacks word col none (lacks_is col ∙ and_from _ _ there (ap (λ b. not b) gone)) given
    ]

given_but : (d : Direction) (region rows : List ℕ) (flags : ℕ) → HaveGiven d region rows flags → HaveGivenBut d region rows flags 0 0
given_but d region rows flags given r n is free col there has = inl (given r n is free col there has)

given_all : (d : Direction) (region rows : List ℕ) (flags : ℕ) → HaveGivenBut d region rows flags 0 0 → HaveGiven d region rows flags
given_all d region rows flags given r n is free col there has = grind (arith, false≢true, has_bit-zero)

-- what a row lacks of the region
pub has_bit_lacked : (region rows : List ℕ) (row : ℕ) → IsAmong (is_set rows) (is_set region) → (col : ℕ) → has_bit (bit_xor (slice_index region row) (slice_index rows row)) col ≡ (has_bit (slice_index region row) col && not (has_bit (slice_index rows row) col))
has_bit_lacked region rows row within col = has_bit_apart _ _ col (λ k is. within (record { col = k; row = row }) is)

-- once a direction has no flagged rows left, the other one's turn comes
pub turned : (d : Direction) (region first rows : List ℕ) (back : ℕ) → IsFilledBut region first rows d 0 back 0 0 → IsFilledBut region first rows (opposite d) back 0 0 0
turned d region first rows back was = grind (arith, given_but, given_all)

-- with no row flagged, all is filled
pub IsClosed-all : (region first rows : List ℕ) → IsFilledBut region first rows Up 0 0 0 0 → IsClosed (is_set region) (is_set rows)
IsClosed-all region first rows done p q (inl (cols, inl up)) there is =
    given_all Up region rows 0 done.ahead q.row p.row up (has_bit-zero q.row) p.col there (ap (has_bit (slice_index rows q.row)) cols ∙ is)
IsClosed-all region first rows done p q (inl (cols, inr down)) there is =
    done.behind q.row p.row down (has_bit-zero q.row) p.col there (ap (has_bit (slice_index rows q.row)) cols ∙ is)
IsClosed-all region first rows done p q (inr (in_row, differ)) there is =
    done.wide p.row p.col q.col differ there (ap (λ r. has_bit (slice_index rows r) q.col) in_row ∙ is)

-- a flagged row, before it gives all that it has
pub IsFilledBut-first : (d : Direction) (region first rows : List ℕ) (flags left back row : ℕ) → IsFilledBut region first rows d flags back 0 0 → has_bit left row ≡ false → ((k : ℕ) → k ≢ row → has_bit left k ≡ has_bit flags k) → IsFilledBut region first rows d left back row (slice_index rows row)
IsFilledBut-first d region first rows flags left back row was gone elsewhere = grind (arith, given_all, cases_eq, false≢true)

-- a row that has given all that it had to give
pub IsFilledBut-last : (d : Direction) (region first rows : List ℕ) (flags back row given : ℕ) → IsFilledBut region first rows d flags back row given → ((next : ℕ) → IsNext d row next → (col : ℕ) → has_bit (slice_index region next) col ≡ true → has_bit given col ≡ true → has_bit (slice_index rows next) col ≡ true) → IsFilledBut region first rows d flags back 0 0
IsFilledBut-last d region first rows flags back row given was taken = grind arith

-- the columns of a row are beside the rows next to it
given_beside : (rows : List ℕ) (row next given : ℕ) → IsPart (has_bit given) (has_bit (slice_index rows row)) → (d : Direction) → IsNext d row next → IsPart (has_bit given) (has_bit (bit_or (row_above rows next) (slice_index rows (next + 1))))
given_beside rows row next given given_in d at col is = grind (arith, above_at, has_bit-or, or_left, or_right)

-- A row gives columns to the next row: `here` has those that the next row lacks, and it takes `taken` of them.
module _ (d : Direction) (region first rows : List ℕ) (flags back row next given here taken : ℕ) (was : IsFilledBut region first rows d flags back row given) (is_next : IsNext d row next) (below : next < length rows) (given_in : IsPart (has_bit given) (has_bit (slice_index rows row))) (here_is : (col : ℕ) → has_bit here col ≡ (has_bit (slice_index region next) col && not (has_bit (slice_index rows next) col))) (in_here : IsPart (has_bit taken) (has_bit here)) (kept : IsPart (has_bit (bit_and here given)) (has_bit taken)) (closed : HasBeside (has_bit here) (has_bit taken)) (least : (set : ℕ → Bool) → HasBeside (has_bit here) set → IsPart (has_bit (bit_and here given)) set → IsPart (has_bit taken) set) where
  abbrev word : ℕ
  word = bit_or (slice_index rows next) taken

  abbrev after : List ℕ
  after = set rows next word

  had : (col : ℕ) → has_bit (slice_index rows next) col ≡ true → has_bit word col ≡ true
  had col is = has_bit-or (slice_index rows next) taken col ∙ or_left _ _ is

  took : (col : ℕ) → has_bit taken col ≡ true → has_bit word col ≡ true
  took col is = has_bit-or (slice_index rows next) taken col ∙ or_right _ _ is

  had_or_took : (col : ℕ) → has_bit word col ≡ true → (has_bit (slice_index rows next) col ≡ true) ⊎ (has_bit taken col ≡ true)
  had_or_took col is = or_cases _ _ (sym (has_bit-or (slice_index rows next) taken col) ∙ is)

  in_region : (col : ℕ) → has_bit here col ≡ true → has_bit (slice_index region next) col ≡ true
  in_region col is = (and_parts _ _ (sym (here_is col) ∙ is)).0

  lacked : (col : ℕ) → has_bit (slice_index region next) col ≡ true → has_bit (slice_index rows next) col ≡ false → has_bit here col ≡ true
  lacked col there gone = here_is col ∙ and_from _ _ there (ap (λ b. not b) gone)

  -- what the row gives is there afterwards
  gave : (col : ℕ) → has_bit (slice_index region next) col ≡ true → has_bit given col ≡ true → has_bit word col ≡ true
  gave col there is = grind (arith, and_from, cases_Bool, had, has_bit-and, lacked, took)

  in_room : IsPart (has_bit word) (has_bit (slice_index region next))
  in_room col is =
      elim (had_or_took col is) [
        | inl own ↦ was.grows.within (record { col = col; row = next }) own
        | inr new ↦ in_region col (in_here col new)
      ]

  from_seed : IsPart (has_bit (seed_of rows region next given)) (has_bit word)
  from_seed col is = grind (arith, and_parts, gave, had, has_bit-and, has_bit-or, or_cases)

  shut : HasBeside (has_bit (slice_index region next)) (has_bit word)
  shut col beside differ there is = grind (arith, cases_Bool, had, took, lacked, had_or_took)

  of_seed : (col : ℕ) → has_bit (slice_index region next) col ≡ true → (has_bit (bit_or (slice_index rows next) given) col ≡ true) → has_bit (seed_of rows region next given) col ≡ true
  of_seed col there is = has_bit-and (bit_or (slice_index rows next) given) (slice_index region next) col ∙ and_from _ _ is there

  in_least : (set : ℕ → Bool) → HasBeside (has_bit (slice_index region next)) set → IsPart (has_bit (seed_of rows region next given)) set → IsPart (has_bit word) set
  in_least set beside part col is =
      elim (had_or_took col is) [
        | inl own ↦
            part col (of_seed col (was.grows.within (record { col = col; row = next }) own) (has_bit-or (slice_index rows next) given col ∙ or_left _ _ own))
        | inr new ↦
            least set (λ c b differ there in_set. beside c b differ (in_region c there) in_set)
            (λ c both.
            let parts = and_parts _ _ (sym (has_bit-and here given c) ∙ both) in
            part c (of_seed c (in_region c parts.0) (has_bit-or (slice_index rows next) given c ∙ or_right _ _ parts.1)))
            col new
      ]

  pub Grows-give : Grows (is_set region) (is_set rows) (is_set after)
  Grows-give = Grows-row rows region next given word below was.grows.within (given_beside rows row next given given_in d is_next) in_room from_seed in_least

  at_next : (r col : ℕ) → r ≡ next → has_bit (slice_index after r) col ≡ has_bit word col
  at_next r col same = set_there rows next word below (record { col = col; row = r }) same

  at_other : (r col : ℕ) → r ≢ next → has_bit (slice_index after r) col ≡ has_bit (slice_index rows r) col
  at_other r col other = set_elsewhere rows next word (record { col = col; row = r }) other

  still : (r col : ℕ) → has_bit (slice_index rows r) col ≡ true → has_bit (slice_index after r) col ≡ true
  still r col is = Grows-give.kept (record { col = col; row = r }) is

  module _ (lacks more : ℕ) (lacks_is : (col : ℕ) → has_bit lacks col ≡ (has_bit (slice_index region row) col && not (has_bit (slice_index rows row) col))) (there : has_bit more next ≡ (has_bit back next || not (nat_eq (bit_and lacks taken) 0))) (elsewhere : (k : ℕ) → k ≢ next → has_bit more k ≡ has_bit back k) where
    -- the next row now gives what it took, and may give some of it back
    pub IsFilledBut-give : IsFilledBut region first after d flags more next taken
    IsFilledBut-give = record {
      all = length-set rows next word ∙ was.all;
      grows = Grows-twice region first rows after was.grows Grows-give;
      wide = each_row (λ r w. HasBeside (has_bit (slice_index region r)) (has_bit w)) rows next word below (λ r _. was.wide r) shut;
      flags_in = was.flags_in;
      back_in = λ r is.
          elim (from_with back more next _ there elsewhere r is) [
            | inl old ↦ was.back_in r old
            | inr same ↦ omega (arith, same, below, was.all)
          ];
      ahead = λ r n step free col room has.
          elim (cases_eq r next) [
            | inl same ↦
                elim (had_or_took col (sym (at_next r col same) ∙ has)) [
                  | inl own ↦
                      elim (was.ahead r n step free col room (ap (λ k. has_bit (slice_index rows k) col) same ∙ own)) [
                        | inl done ↦ inl (still n col done)
                        | inr (at, _) ↦ absurd (next_other d row next is_next (sym same ∙ at))
                      ]
                  | inr new ↦ inr (same, new)
                ]
            | inr other ↦
                elim (was.ahead r n step free col room (sym (at_other r col other) ∙ has)) [
                  | inl done ↦ inl (still n col done)
                  | inr (at, left) ↦
                      (let same : n ≡ next = next_one d row n next (subst (λ k. IsNext d k n) at step) is_next in
                      inl (at_next n col same ∙ gave col (ap (λ k. has_bit (slice_index region k) col) (sym same) ∙ room) left))
                ]
          ];
      behind = λ r n step free col room has.
          let part_gone : (k : ℕ) → has_bit more k ≡ false → has_bit back k ≡ false = λ k gone. not_in_part _ _ k (part_with back more next _ there elsewhere) gone in
          elim (cases_eq r next) [
            | inl same ↦
                (let home : n ≡ row = back_one d row next n is_next (subst (λ k. IsNext (opposite d) k n) same step) in
                let none = zero_of _ (taken_with back more next _ there (ap (has_bit more) (sym same) ∙ free)) in
                elim (had_or_took col (sym (at_next r col same) ∙ has)) [
                  | inl own ↦
                      still n col
                      (was.behind r n step (part_gone r free) col room (ap (λ k. has_bit (slice_index rows k) col) same ∙ own))
                  | inr new ↦
                      still n col
                      (ap (λ k. has_bit (slice_index rows k) col) home
                      ∙ has_all (slice_index region row) (slice_index rows row) lacks taken lacks_is none col (ap (λ k. has_bit (slice_index region k) col) (sym home) ∙ room) new)
                ])
            | inr other ↦
                still n col (was.behind r n step (sym (elsewhere r other) ∙ free) col room (sym (at_other r col other) ∙ has))
          ];
    }

-- The first pass down: the first `count` rows are widened, and each of them has taken what the row above it gives. Of what they lack, the
-- flagged rows can give some to the row above them.
pub record IsSwept (region first rows : List ℕ) (ups count : ℕ) : Type 0 where
  pub all : length rows ≡ length region
  pub grows : Grows (is_set region) (is_set first) (is_set rows)
  pub wide : (row : ℕ) → row < count → HasBeside (has_bit (slice_index region row)) (has_bit (slice_index rows row))
  pub ups_in : AreRowsBelow count ups
  pub up : (row next : ℕ) → IsNext Up row next → row < count → has_bit ups row ≡ false → IsTaken region rows next (slice_index rows row)
  pub down : (row next : ℕ) → IsNext Down row next → next < count → IsTaken region rows next (slice_index rows row)

module _ (region first rows : List ℕ) (ups row above word : ℕ) (was : IsSwept region first rows ups row) (below : row < length rows) (above_is : above ≡ row_above rows row) (within : IsPart (has_bit word) (has_bit (slice_index region row))) (kept : IsPart (has_bit (seed_of rows region row above)) (has_bit word)) (closed : HasBeside (has_bit (slice_index region row)) (has_bit word)) (least : (set : ℕ → Bool) → HasBeside (has_bit (slice_index region row)) set → IsPart (has_bit (seed_of rows region row above)) set → IsPart (has_bit word) set) where
  abbrev swept : List ℕ
  swept = set rows row word

  Grows-sweep : Grows (is_set region) (is_set rows) (is_set swept)
  Grows-sweep = Grows-row rows region row above word below was.grows.within
      (λ col is. has_bit-or (row_above rows row) (slice_index rows (row + 1)) col ∙ or_left _ _ (ap (λ w. has_bit w col) (sym above_is) ∙ is))
      within kept least

  at_row : (r col : ℕ) → r ≡ row → has_bit (slice_index swept r) col ≡ has_bit word col
  at_row r col same = set_there rows row word below (record { col = col; row = r }) same

  off_row : (r col : ℕ) → r ≢ row → has_bit (slice_index swept r) col ≡ has_bit (slice_index rows r) col
  off_row r col other = set_elsewhere rows row word (record { col = col; row = r }) other

  module _ (lacks more : ℕ) (lacks_is : (r : ℕ) → r + 1 ≡ row → (col : ℕ) → has_bit lacks col ≡ (has_bit (slice_index region r) col && not (has_bit (slice_index rows r) col))) (there : has_bit more row ≡ (has_bit ups row || not (nat_eq (bit_and lacks word) 0))) (elsewhere : (k : ℕ) → k ≢ row → has_bit more k ≡ has_bit ups k) where
    pub IsSwept-more : IsSwept region first swept more (row + 1)
    IsSwept-more = record {
      all = length-set rows row word ∙ was.all;
      grows = Grows-twice region first rows swept was.grows Grows-sweep;
      wide = λ r low. each_row (λ r w. r < row + 1 → HasBeside (has_bit (slice_index region r)) (has_bit w)) rows row word below (λ r other low. was.wide r (omega (arith, low, other))) (λ _. closed) r low;
      ups_in = λ r is.
          elim (from_with ups more row _ there elsewhere r is) [
            | inl old ↦ let low = was.ups_in r old in omega (arith, low)
            | inr same ↦ omega (arith, same)
          ];
      up = λ r n step low free col room has.
          (let off : n ≢ row = omega (arith, step, low) in
          off_row n col off
          ∙ elim (cases_eq r row) [
            | inl same ↦
                has_all (slice_index region n) (slice_index rows n) lacks word (lacks_is n (step ∙ same))
                (zero_of _ (taken_with ups more row _ there (ap (has_bit more) (sym same) ∙ free))) col room (sym (at_row r col same) ∙ has)
            | inr other ↦ was.up r n step (omega (arith, low, other)) (sym (elsewhere r other) ∙ free) col room (sym (off_row r col other) ∙ has)
          ]);
      down = λ r n step low col room has.
          (let off : r ≢ row = omega (arith, step, low) in
          elim (cases_eq n row) [
            | inl same ↦
                at_row n col same
                ∙ kept col
                (has_bit-and (bit_or (slice_index rows row) above) (slice_index region row) col
                ∙ and_from _ _
                (has_bit-or (slice_index rows row) above col
                ∙ or_right _ _ (ap (λ w. has_bit w col) above_is ∙ above_at rows row col (record { col = col; row = r }) (step ∙ same) refl (sym (off_row r col off) ∙ has)))
                (ap (λ k. has_bit (slice_index region k) col) (sym same) ∙ room))
            | inr other ↦ off_row n col other ∙ was.down r n step (omega (arith, low, other)) col room (sym (off_row r col off) ∙ has)
          ]);
    }

-- a column that is there is that of a row
pub row_there : (rows : List ℕ) (row col : ℕ) → has_bit (slice_index rows row) col ≡ true → row < length rows
row_there rows row col is = row_below rows (record { col = col; row = row }) is

pub IsFilledBut-swept : (region first rows : List ℕ) (ups count : ℕ) → IsSwept region first rows ups count → length rows ≤ count → count ≤ length rows → IsFilledBut region first rows Up ups 0 0 0
IsFilledBut-swept region first rows ups count was all_rows only_rows = grind (arith, row_there, has_bit-zero, false≢true)

-- more points twice
pub HaveMore-twice : (a b c : List ℕ) (first second third : ℕ) → HaveMore a b first second → HaveMore b c second third → HaveMore a c first third
HaveMore-twice a b c first second third one other = grind arith

-- what the row that was widened last lacks
pub after_sweep : (region rows : List ℕ) (r row word left : ℕ) → r ≡ row → slice_index rows row ≡ word → ((col : ℕ) → has_bit left col ≡ (has_bit (slice_index region row) col && not (has_bit word col))) → (col : ℕ) → has_bit left col ≡ (has_bit (slice_index region r) col && not (has_bit (slice_index rows r) col))
after_sweep region rows r row word left same is left_is col = cc (left_is col)

without_both : (a b c : Bool) → ((a && not b) && not c) ≡ (a && not (b || c))
without_both a b c = grind arith

-- A row that takes columns: `here` has those that it lacks, and `taken` has some of these.
module _ (region rows : List ℕ) (next given here taken : ℕ) (below : next < length rows) (within : IsAmong (is_set rows) (is_set region)) (here_is : (col : ℕ) → has_bit here col ≡ (has_bit (slice_index region next) col && not (has_bit (slice_index rows next) col))) (in_here : IsPart (has_bit taken) (has_bit here)) where
  abbrev grown : ℕ
  grown = bit_or (slice_index rows next) taken

  here_parts : (col : ℕ) → has_bit here col ≡ true → (has_bit (slice_index region next) col ≡ true) × (not (has_bit (slice_index rows next) col) ≡ true)
  here_parts col is = and_parts _ _ (sym (here_is col) ∙ is)

  now_there : (col : ℕ) → has_bit (slice_index (set rows next grown) next) col ≡ has_bit grown col
  now_there col = set_there rows next grown below (record { col = col; row = next }) refl

  pub IsAmong-taken : IsAmong (is_set (set rows next grown)) (is_set region)
  IsAmong-taken p = each_row (λ r w. IsPart (has_bit w) (has_bit (slice_index region r))) rows next grown below (λ r _ col is. within (record { col = col; row = r }) is)
      (λ col is.
      elim (or_cases _ _ (sym (has_bit-or (slice_index rows next) taken col) ∙ is)) [
        | inl own ↦ within (record { col = col; row = next }) own
        | inr new ↦ (here_parts col (in_here col new)).0
      ]) p.row p.col

  pub taken-there : IsPart (has_bit taken) (has_bit (slice_index (set rows next grown) next))
  taken-there col is = now_there col ∙ has_bit-or (slice_index rows next) taken col ∙ or_right _ _ is

  pub left-there : (left : ℕ) → ((col : ℕ) → has_bit left col ≡ (has_bit here col && not (has_bit taken col))) → (col : ℕ) → has_bit left col ≡ (has_bit (slice_index region next) col && not (has_bit (slice_index (set rows next grown) next) col))
  left-there left left_is col = grind (arith, has_bit-or, now_there, without_both)

  pub lacking-taken : bit_and here given ≢ 0 → slice_index region next < 2 ^ 64 → IsPart (has_bit (bit_and here given)) (has_bit taken) → lacking (set rows next grown) < lacking rows
  lacking-taken some room kept =
      let low : here < 2 ^ 64 = omega (arith, room, le_from_part here (slice_index region next) (λ col is. (here_parts col is).0)) in
      let fits = le_from_part grown (slice_index region next) (λ col is. IsAmong-taken (record { col = col; row = next }) (now_there col ∙ is)) in
      let lowest = trailing_zeros w64 (bit_and here given) in
      let there = (lowest_left here (bit_and here given) some low (λ col is. (and_parts _ _ (sym (has_bit-and here given col) ∙ is)).0)).0 in
      let gone = (here_parts lowest (in_here lowest (kept lowest there))).1 in
      lacking-more rows next grown below
      (le_from_part (slice_index rows next) grown (λ col is. has_bit-or (slice_index rows next) taken col ∙ or_left _ _ is)) (omega (arith, fits, room))
      (λ same.
      false≢true
      (sym (ap (λ b. not b) (ap (λ w. has_bit w lowest) (sym same) ∙ has_bit-or (slice_index rows next) taken lowest ∙ or_right _ _ (kept lowest there))) ∙ gone))

-- A row takes from `region` the columns that a row beside it gives: a step of a pass that doesn't look for what is lacking.
module _ (d : Direction) (region rows : List ℕ) (row next given taken : ℕ) (is_next : IsNext d row next) (below : next < length rows) (within : IsAmong (is_set rows) (is_set region)) (given_in : IsPart (has_bit given) (has_bit (slice_index rows row))) (in_room : IsPart (has_bit taken) (has_bit (slice_index region next))) (kept : IsPart (has_bit (bit_and (slice_index region next) given)) (has_bit taken)) (least : (set : ℕ → Bool) → HasBeside (has_bit (slice_index region next)) set → IsPart (has_bit (bit_and (slice_index region next) given)) set → IsPart (has_bit taken) set) where
  abbrev both_words : ℕ
  both_words = bit_or (slice_index rows next) taken

  either : (col : ℕ) → has_bit both_words col ≡ true → (has_bit (slice_index rows next) col ≡ true) ⊎ (has_bit taken col ≡ true)
  either col is = or_cases _ _ (sym (has_bit-or (slice_index rows next) taken col) ∙ is)

  of_own : (col : ℕ) → has_bit (slice_index rows next) col ≡ true → has_bit (seed_of rows region next given) col ≡ true
  of_own col is =
      has_bit-and (bit_or (slice_index rows next) given) (slice_index region next) col
      ∙ and_from _ _ (has_bit-or (slice_index rows next) given col ∙ or_left _ _ is) (within (record { col = col; row = next }) is)

  of_given : (col : ℕ) → has_bit (bit_and (slice_index region next) given) col ≡ true → has_bit (seed_of rows region next given) col ≡ true
  of_given col is = grind (arith, and_from, and_parts, has_bit-and, has_bit-or, or_right)

  in_both : IsPart (has_bit (seed_of rows region next given)) (has_bit both_words)
  in_both col is = grind (arith, and_from, and_parts, has_bit-and, has_bit-or, or_cases, or_left, or_right)

  pub Grows-take : Grows (is_set region) (is_set rows) (is_set (set rows next both_words))
  Grows-take = Grows-row rows region next given both_words below within (given_beside rows row next given given_in d is_next)
      (λ col is. elim (either col is) [ inl own ↦ within (record { col = col; row = next }) own | inr new ↦ in_room col new ])
      in_both
      (λ set beside part col is.
      elim (either col is) [
        | inl own ↦ part col (of_own col own)
        | inr new ↦ least set beside (λ c given_there. part c (of_given c given_there)) col new
      ])

  pub take-there : IsPart (has_bit taken) (has_bit (slice_index (set rows next both_words) next))
  take-there col is =
      set_there rows next both_words below (record { col = col; row = next }) refl
      ∙ has_bit-or (slice_index rows next) taken col
      ∙ or_right _ _ is

-- how many rows there are at most after a row in a direction
abbrev pub rows_ahead : Direction → ℕ → ℕ
rows_ahead Up row = row
rows_ahead Down row = 64 - row
