-- Widening a set of columns: a sum carries from a column on as far as there is region, and steps go back from there.
use Rattle.board_points.proofs.Common.{◌≡◌, ◌⊎◌, inl, inr, ℕ, zero, suc, ◌+◌, ◌-◌, ◌*◌, ◌/◌, ◌%◌, ◌^◌, ◌<◌, ◌≤◌, ◌≢◌, ◌&&◌, Bool, true, false, not, bit_and, bit_or, w64, sym, ap, ◌∙◌, arith, rules, mod-eq_of_lt, pow_pos, bit_at, bit_not, trailing_zeros, and-false, or_cases, or_left, or_right, and_parts, and_from, false≢true, cases_lt, cases_Bool, common_steps, mod-pow-add, mod_below, has_bit, IsPart, HasBeside, HasNext, IsWidened, two-pow-succ, bit_xor, add-mod, add-mod_left}
use Rattle.board_points.proofs.WordLemmas.{has_bit_apart, has_bit-or, has_bit-and, has_bit-without, has_bit-low, has_bit-right, bit_at-there, bit_at-gone, column_below, has_bit-zero, le_from_part}
use Rattle.board_points.proofs.ColumnLemmas.{lowest_left}

-- a word with one column more of it
low-more : (n c : ℕ) → n % 2 ^ suc c ≡ bit_at n c * 2 ^ c + n % 2 ^ c
low-more n c =
    let width : suc c ≡ 1 + c = omega arith in ap (λ k. n % 2 ^ k) width ∙ mod-pow-add n 1 c

low-set : (n c : ℕ) → has_bit n c ≡ true → n % 2 ^ suc c ≡ 2 ^ c + n % 2 ^ c
low-set n c is = grind (arith, common_steps, bit_at-there, low-more)

low-unset : (n c : ℕ) → has_bit n c ≡ false → n % 2 ^ suc c ≡ n % 2 ^ c
low-unset n c none = grind (arith, common_steps, bit_at-gone, low-more)

low-below : (n c : ℕ) → n % 2 ^ c < 2 ^ c
low-below n c = mod_below n (2 ^ c) (pow_pos c)

-- where nothing is carried into a column of the one word alone, the sum has it
sum_has : (region seed c : ℕ) → has_bit region c ≡ true → has_bit seed c ≡ false → region % 2 ^ c + seed % 2 ^ c < 2 ^ c → has_bit (region + seed) c ≡ true
sum_has region seed c is none low =
    elim (cases_Bool (has_bit (region + seed) c)) [
      | inl there ↦ there
      | inr lacks ↦
          let first = low-set region c is in
          let second = low-unset seed c none in
          let fits : region % 2 ^ suc c + seed % 2 ^ suc c < 2 ^ suc c = omega (arith, two-pow-succ c, first, second, low) in
          let below = low-below (region + seed) c in
          absurd (omega (arith, first, second, add-mod region seed (2 ^ suc c) ∙ mod-eq_of_lt fits, low-unset (region + seed) c lacks, below))
    ]

-- where something is carried into a column of the one word alone, the sum lacks it
sum_lacks : (region seed c : ℕ) → has_bit region c ≡ true → has_bit seed c ≡ false → 2 ^ c ≤ region % 2 ^ c + seed % 2 ^ c → has_bit (region + seed) c ≡ false
sum_lacks region seed c is none carries =
    elim (cases_Bool (has_bit (region + seed) c)) [
      | inl there ↦
          let double = two-pow-succ c in
          let second = low-unset seed c none in
          let region_low = low-below region c in
          let seed_low = low-below seed c in
          let rest = region % 2 ^ c + seed % 2 ^ c - 2 ^ c in
          let all : region % 2 ^ suc c + seed % 2 ^ suc c ≡ 2 ^ suc c + rest = omega (arith, double, low-set region c is, second, carries) in
          let fits : rest < 2 ^ suc c = omega (arith, double, region_low, seed_low, carries) in
          let whole : (region + seed) % 2 ^ suc c ≡ rest = add-mod region seed (2 ^ suc c) ∙ ap (λ n. n % 2 ^ suc c) all ∙ add-mod_left (2 ^ suc c) rest ∙ mod-eq_of_lt fits in
          absurd (omega (arith, whole, low-set (region + seed) c there, region_low, seed_low, carries))
      | inr lacks ↦ lacks
    ]

module _ (region seed : ℕ) (low : region < 2 ^ 64) (part : IsPart (has_bit seed) (has_bit region)) where
  -- what a sum carries to: the columns of the seed, and those of the region that the sum lacks
  abbrev pub carried : ℕ
  carried = bit_or (bit_and region (bit_not w64 ((region + seed) % 2 ^ 64))) seed

  carried-within : IsPart (has_bit carried) (has_bit region)
  carried-within c is = grind (arith, common_steps, and_parts, has_bit-and, has_bit-or, or_cases)

  carried-kept : IsPart (has_bit seed) (has_bit carried)
  carried-kept c is = has_bit-or _ seed c ∙ or_right _ _ is

  sum_fits : (region + seed) % 2 ^ 64 < 2 ^ 64
  sum_fits = mod_below (region + seed) (2 ^ 64) (pow_pos 64)

  -- a column that isn't one of the seed has something carried into it
  far_or_own : (c : ℕ) → has_bit carried c ≡ true → ((has_bit region c ≡ true) × (has_bit seed c ≡ false) × (2 ^ c ≤ region % 2 ^ c + seed % 2 ^ c)) ⊎ (has_bit seed c ≡ true)
  far_or_own c is =
      elim (cases_Bool (has_bit seed c)) [
        | inl own ↦ inr own
        | inr none ↦
            elim (or_cases _ _ (sym (has_bit-or _ seed c) ∙ is)) [
              | inl far ↦
                  (let in_room = (and_parts _ _ (sym (has_bit-and region _ c) ∙ far)).0 in
                  let column = column_below 64 region c low in_room in
                  elim (cases_lt (region % 2 ^ c + seed % 2 ^ c) (2 ^ c)) [
                    | inl quiet ↦
                        let sum_there : has_bit ((region + seed) % 2 ^ 64) c ≡ true = has_bit-low (region + seed) c column ∙ sum_has region seed c in_room none quiet in
                        absurd (false≢true (sym (ap (λ b. not b) sum_there) ∙ (and_parts _ _ (sym (has_bit-without region ((region + seed) % 2 ^ 64) c sum_fits column) ∙ far)).1))
                    | inr carries ↦ inl (in_room, none, carries)
                  ])
              | inr own ↦ inr own
            ]
      ]

  module _ (set : ℕ → Bool) (beside : HasBeside (has_bit region) set) (there : IsPart (has_bit seed) set) where
    -- where something is carried into a column, the set has the one before it
    carry_from : (c : ℕ) → 2 ^ c ≤ region % 2 ^ c + seed % 2 ^ c → (d : ℕ) × (d + 1 ≡ c) × (set d ≡ true)
    carry_from zero carries =
        let unit : 2 ^ 0 ≡ 1 = omega arith in
        absurd (omega (arith, low-below region 0, low-below seed 0, unit, carries))
    carry_from (suc c) carries =
        let double = two-pow-succ c in
        let seed_low = low-below seed c in (
          c,
          omega arith,
          elim (cases_Bool (has_bit seed c)) [
            | inl own ↦ there c own
            | inr none ↦
                let second = low-unset seed c none in
                elim (cases_Bool (has_bit region c)) [
                  | inl is ↦
                      let before = carry_from c (omega (arith, double, low-set region c is, second, carries)) in
                      beside c before.0 (inr before.1) is before.2
                  | inr lacks ↦
                      absurd (omega (arith, double, low-unset region c lacks, second, carries, low-below region c, seed_low))
                ]
          ],
        )

    carried-least : IsPart (has_bit carried) set
    carried-least c is = grind (arith, common_steps, carry_from, far_or_own)

  -- from each column something is carried into the next
  carries-next : (c : ℕ) → has_bit carried c ≡ true → 2 ^ suc c ≤ region % 2 ^ suc c + seed % 2 ^ suc c
  carries-next c is = grind (arith, common_steps, far_or_own, low-set, low-unset, two-pow-succ)

  carried-next : HasNext (has_bit region) (has_bit carried)
  carried-next c is in_room =
      let column = column_below 64 region (suc c) low in_room in
      elim (cases_Bool (has_bit seed (suc c))) [
        | inl own ↦ carried-kept (suc c) own
        | inr none ↦
            let lacks : has_bit ((region + seed) % 2 ^ 64) (suc c) ≡ false = has_bit-low (region + seed) (suc c) column ∙ sum_lacks region seed (suc c) in_room none (carries-next c is) in
            has_bit-or _ seed (suc c)
            ∙ or_left _ _
            (has_bit-without region ((region + seed) % 2 ^ 64) (suc c) sum_fits column
            ∙ and_from _ _ in_room (ap (λ b. not b) lacks))
      ]

  pub IsWidened-carried : IsWidened region seed carried
  IsWidened-carried = search (rules, carried-kept, carried-least, carried-next, carried-within)

-- a set with more columns of the region, each just before one of its own
module _ (region seed word before : ℕ) (widened : IsWidened region seed word) (in_room : IsPart (has_bit before) (has_bit region)) (next : (c : ℕ) → has_bit before c ≡ true → has_bit word (suc c) ≡ true) where
  before_or_own : (c : ℕ) → has_bit (bit_or word before) c ≡ true → (has_bit word c ≡ true) ⊎ (has_bit before c ≡ true)
  before_or_own c is = or_cases _ _ (sym (has_bit-or word before c) ∙ is)

  keeps : IsPart (has_bit word) (has_bit (bit_or word before))
  keeps c is = has_bit-or word before c ∙ or_left _ _ is

  pub IsWidened-before : IsWidened region seed (bit_or word before)
  IsWidened-before = record {
    within = λ c is. elim (before_or_own c is) [ inl own ↦ widened.within c own | inr far ↦ in_room c far ];
    kept = λ c is. keeps c (widened.kept c is);
    next = λ c is there.
        keeps (suc c)
        (elim (before_or_own c is) [ inl own ↦ widened.next c own there | inr far ↦ next c far ]);
    least = λ set beside part c is.
        elim (before_or_own c is) [
          | inl own ↦ widened.least set beside part c own
          | inr far ↦ beside c (suc c) (inl (omega arith)) (in_room c far) (widened.least set beside part (suc c) (next c far))
        ];
  }

-- the columns of the region that a set lacks, and which of them are just before one of its own
abbrev pub AreLeft : ℕ → ℕ → ℕ → Type 0
AreLeft region word left = (c : ℕ) → has_bit left c ≡ (has_bit region c && not (has_bit word c))

pub in_before : (word left c : ℕ) → has_bit (bit_and (word / 2 ^ 1) left) c ≡ true → (has_bit word (suc c) ≡ true) × (has_bit left c ≡ true)
in_before word left c is = grind (arith, common_steps, and_parts, has_bit-and, has_bit-right)

pub HasBeside-none : (region seed word left : ℕ) → IsWidened region seed word → AreLeft region word left → bit_and (word / 2 ^ 1) left ≡ 0 → HasBeside (has_bit region) (has_bit word)
HasBeside-none region seed word left widened left_is none c d (inl right) in_room is =
    elim (cases_Bool (has_bit word c)) [
      | inl own ↦ own
      | inr gone ↦
          absurd (false≢true
          (sym (ap (λ w. has_bit w c) none ∙ has_bit-zero c)
          ∙ has_bit-and (word / 2 ^ 1) left c
          ∙ and_from _ _ (has_bit-right word c ∙ ap (has_bit word) (omega (arith, right)) ∙ is) (left_is c ∙ and_from _ _ in_room (ap (λ b. not b) gone))))
    ]
HasBeside-none region seed word left widened left_is none c d (inr after) in_room is =
    let at : c ≡ suc d = omega (arith, after) in
    ap (has_bit word) at ∙ widened.next d is (ap (has_bit region) (sym at) ∙ in_room)

-- what is left once a set has some of it
pub AreLeft-before : (region word left before : ℕ) → AreLeft region word left → IsPart (has_bit before) (has_bit left) → AreLeft region (bit_or word before) (bit_xor left before)
AreLeft-before region word left before left_is part c =
    let next_is = has_bit_apart left before c part in grind (arith, common_steps, has_bit-or, left_is, next_is)

pub fewer_left : (left before : ℕ) → before ≢ 0 → before < 2 ^ 64 → IsPart (has_bit before) (has_bit left) → bit_xor left before < left
fewer_left left before some low part =
    let there = (lowest_left before before some low (λ _ is. is)).0 in
    let lowest = trailing_zeros w64 before in
    let next_is : AreLeft left before (bit_xor left before) = λ c. has_bit_apart left before c part in
    let gone : has_bit (bit_xor left before) lowest ≡ false = next_is lowest ∙ ap (λ b. has_bit left lowest && not b) there ∙ and-false (has_bit left lowest) in
    let differs : bit_xor left before ≢ left = λ same. false≢true (sym gone ∙ ap (λ w. has_bit w lowest) same ∙ part lowest there) in
    omega (arith, le_from_part (bit_xor left before) left (λ c is. (and_parts _ _ (sym (next_is c) ∙ is)).0), differs)
