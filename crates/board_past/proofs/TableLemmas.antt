-- The table by which colourings are looked up.
use Rattle.board_past.proofs.Common.{◌≡◌, ℕ, ◌+◌, ◌*◌, ◌<◌, ◌≤◌, ◌^◌, bit_xor, Bool, true, false, if◌then◌else◌, List, [], ◌∷◌, ◌++◌, Option, None, Some, IfSome, length, length-append, get_or, reverse, Contains, inl, inr, refl, sym, ap, subst, ◌∙◌, arith, eq-eqb, ne_eqb, bit_at, cases_Bool, reverse-append, same_Some, Point, has_bit, Trie, Agree, nodes_of, item_count, capacity_of, IsTrie, IsNearest, IsOpening, IsParting, Colour, play, Grid, WIDTH, Table, Held, PastColourings, all_of, newest_grid, present_stretch, stretch_of, with_next, IsNumber, hash_of, HasHashes, hash_in_key, key_bits, start_of, since, keys_of, print_of, prints_of, HasRoomForNext, IsAsleepTable, IsAwakeTable, IsGap, IsPrintOfNext, IsTable, LinksNext, most_to_link, vec_capacity, GrowsTable, agree_self, agree_less, parts_as, trie_same, opening_same, IsWayTo, child_at, way_nearest}
use Rattle.board_past.specs.declared.past.print_past.table.Gap.{Gap}
use Rattle.key_trie.specs.declared.trie.Slot.{Slot}
use Rattle.board_past.proofs.NumberLemmas.{since-newest, since-older, at-newest, at-older, cases-number, start-since, start-before}
pub use Rattle.board_past.proofs.NumberLemmas.{number_there, side-number, has_number, has_colouring}
use Rattle.board_past.proofs.KeyLemmas.{print_bit, front_same, front_agrees, head_agrees, whole_same}
use Rattle.board_past.proofs.PrintLemmas.{print_small}
use Rattle.board_past.proofs.PrintPastLemmas.{same_length, print-number}
use Rattle.key_trie.proofs.KeyLemmas.{same_bit, other_bits}

-- Keys of numbers.

keys-newest : (hashed : Bool) (x : Held) (xs : List Held) (number : ℕ) → number ≡ length xs → keys_of hashed (x ∷ xs) number ≡ key_bits (start_of (x ∷ xs)) (print_of x.colouring) (hash_in_key hashed x.colouring) x.colouring
keys-newest hashed x xs number e = ap (λ (t : Bool). if t then key_bits (start_of (x ∷ xs)) (print_of x.colouring) (hash_in_key hashed x.colouring) x.colouring else keys_of hashed xs number) (eq-eqb number (length xs) e)

pub keys-older : (hashed : Bool) (x : Held) (xs : List Held) (number : ℕ) → number < length xs → keys_of hashed (x ∷ xs) number ≡ keys_of hashed xs number
keys-older hashed x xs number h = ap (λ (t : Bool). if t then key_bits (start_of (x ∷ xs)) (print_of x.colouring) (hash_in_key hashed x.colouring) x.colouring else keys_of hashed xs number) (ne_eqb number (length xs) (λ e. omega (arith, e, h)))

key_of_number : (hashed : Bool) (held : List Held) (number : ℕ) (g : Grid) → number < length held → IsNumber held number g → keys_of hashed held number ≡ key_bits (start_of (since number held)) (print_of g) (hash_in_key hashed g) g
key_of_number hashed [] number g low is = absurd (omega (arith, low))
key_of_number hashed (x ∷ xs) number g low is = elim (cases-number x xs number g low is) [
  | inl newest ↦
      keys-newest hashed x xs number newest.0
      ∙ ap (λ (y : Grid). key_bits (start_of (x ∷ xs)) (print_of y) (hash_in_key hashed y) y) newest.1
      ∙ ap (λ n. key_bits n (print_of g) (hash_in_key hashed g) g) (sym (ap (λ n. start_of (since n (x ∷ xs))) newest.0 ∙ ap start_of (since-newest x xs)))
  | inr older ↦
      keys-older hashed x xs number older.0 ∙ key_of_number hashed xs number g older.0 older.1
      ∙ ap (λ n. key_bits n (print_of g) (hash_in_key hashed g) g) (sym (ap start_of (since-older number x xs older.0)))
]

-- the first bits of a number's key are those of its print
print_at : (hashed : Bool) (held : List Held) (number : ℕ) (g : Grid) → number < length held → IsNumber held number g → (position : ℕ) → position < 64 → keys_of hashed held number position ≡ has_bit (print_of g) position
print_at hashed held number g low at position h =
    ap (λ (x : ℕ → Bool). x position) (key_of_number hashed held number g low at) ∙ print_bit (start_of (since number held)) (print_of g) (hash_in_key hashed g) g position h

pub keys-print : (hashed : Bool) (next : Held) (held : List Held) (print position : ℕ) → print_of next.colouring ≡ print → position < 64 → keys_of hashed (next ∷ held) (length held) position ≡ has_bit print position
keys-print hashed next held print position is h = print_at hashed (next ∷ held) (length held) next.colouring (omega arith) (at-newest next held) position h ∙ ap (λ m. has_bit m position) is

-- the key of a colouring that goes on with the present stretch
pub keys-next : (hashed : Bool) (held : List Held) (g : Grid) → keys_of hashed (record { colouring = g; begins = false } ∷ held) (length held) ≡ key_bits (start_of held) (print_of g) (hash_in_key hashed g) g
keys-next hashed held g = keys-newest hashed (record { colouring = g; begins = false }) held (length held) refl

-- with one colouring more, and with one less, the others have the same keys
pub linked_before : (hashed : Bool) (next : Held) (held : List Held) (trie : Trie) → item_count trie ≤ length held → IsTrie WIDTH (keys_of hashed held) trie → IsTrie WIDTH (keys_of hashed (next ∷ held)) trie
linked_before hashed next held trie few is = trie_same WIDTH (item_count trie) (keys_of hashed held) (keys_of hashed (next ∷ held)) (nodes_of trie) (λ i h. sym (keys-older hashed next held i (omega (arith, h, few)))) is

pub linked_after : (hashed : Bool) (newest : Held) (older : List Held) (trie : Trie) → item_count trie ≤ length older → IsTrie WIDTH (keys_of hashed (newest ∷ older)) trie → IsTrie WIDTH (keys_of hashed older) trie
linked_after hashed newest older trie few is = trie_same WIDTH (item_count trie) (keys_of hashed (newest ∷ older)) (keys_of hashed older) (nodes_of trie) (λ i h. keys-older hashed newest older i (omega (arith, h, few))) is

-- What a table of these colourings tells.
module _ (held : List Held) (table : Table) (is : IsAwakeTable held table) where
  pub tabled : length table.prints.items ≡ length held
  tabled = same_length held table.prints.items is.printed

  -- a number's print
  pub print_there : (number : ℕ) (g : Grid) → number < length held → IsNumber held number g → get_or table.prints.items number 0 ≡ print_of g
  print_there number g low at = print-number held table.prints.items is.printed number g low at

  -- the key that is made for a number: its front is right, and if it is made from the colouring, so is the rest
  pub key_made : (number start print hash : ℕ) (any : Grid) → number < length held → start ≡ start_of (since number held) → print ≡ get_or table.prints.items number 0
      → Agree (key_bits start print hash any) (keys_of table.hashed held number) 128 × (IsNumber held number any → hash ≡ hash_in_key table.hashed any → key_bits start print hash any ≡ keys_of table.hashed held number)
  key_made number start print hash any low starts printed =
      let there = number_there held number low in
      let key : (g : Grid) → IsNumber held number g → key_bits start print (hash_in_key table.hashed g) g ≡ keys_of table.hashed held number = λ g at.
      ap (λ n. key_bits n print (hash_in_key table.hashed g) g) starts ∙ ap (λ n. key_bits (start_of (since number held)) n (hash_in_key table.hashed g) g) (printed ∙ print_there number g low at) ∙ sym (key_of_number table.hashed held number g low at) in (
        subst (λ x. Agree (key_bits start print hash any) x 128) (key there.0 there.1) (front_agrees start start print print hash (hash_in_key table.hashed there.0) any there.0 refl refl),
        λ at hashed. ap (λ n. key_bits start print n any) hashed ∙ key any at,
      )

  -- if it is made with the number's hash, its head is right
  pub head_made : (number start print hash : ℕ) (any : Grid) → number < length held → start ≡ start_of (since number held) → print ≡ get_or table.prints.items number 0
      → ((g : Grid) → IsNumber held number g → hash ≡ hash_in_key table.hashed g) → Agree (key_bits start print hash any) (keys_of table.hashed held number) 192
  head_made number start print hash any low starts printed is_hash =
      let there = number_there held number low in
      let right = key_made number start print hash there.0 low starts printed in
      subst (λ x. Agree (key_bits start print hash any) x 192) (right.1 there.1 (is_hash there.0 there.1)) (head_agrees start print hash any there.0)

  -- if a number's key is that of a colouring that goes on with the present stretch, the stretch has it
  pub repeats : (start print hash near : ℕ) (grid g : Grid) → start ≡ start_of held → start < 2 ^ 64 → print ≡ print_of grid → near < length held → IsNumber held near g
      → g.side ≡ grid.side → grid.side ≤ 52 → length g.cells ≡ g.side * g.side → length grid.cells ≡ grid.side * grid.side
      → Agree (key_bits start print hash grid) (keys_of table.hashed held near) WIDTH → Contains (stretch_of held) grid
  repeats start print hash near grid g starts small printed near_in at side few cells cells' agree =
      let same : Agree (key_bits start print hash grid) (key_bits (start_of (since near held)) (print_of g) (hash_in_key table.hashed g) g) WIDTH =
      subst (λ x. Agree (key_bits start print hash grid) x WIDTH) (key_of_number table.hashed held near g near_in at) agree in
      let before = start-before held near near_in in
      let front = front_same start (start_of (since near held)) print (print_of g) hash (hash_in_key table.hashed g) grid g small (omega (arith, before, near_in, tabled, is.room, is.most))
      (subst (λ m. m < 2 ^ 64) (sym printed) (print_small grid)) (print_small g) (agree_less 128 (omega arith) same) in
      let whole = whole_same start (start_of (since near held)) print (print_of g) hash (hash_in_key table.hashed g) grid g (sym side) few cells' cells same in
      has_colouring held near grid (omega (arith, before, front.0, starts)) near_in (at ∙ ap (λ (x : Grid). Some x) (sym whole))

  -- Where the next colouring comes in, if its print parts it from the item that a look-up for the print finds.
  pub gap_parts : (next : Held) (print near position : ℕ) (any : Grid) (key : ℕ → Bool) → print_of next.colouring ≡ print → item_count table.trie ≡ length held → key ≡ key_bits 0 print 0 any → IsNearest (keys_of table.hashed (next ∷ held)) table.trie key 64 near → position < 64
      → ((p : ℕ) → p < position → bit_at (bit_xor print (get_or table.prints.items near 0)) p ≡ 0) → bit_at (bit_xor print (get_or table.prints.items near 0)) position ≡ 1
      → Agree key (keys_of table.hashed (next ∷ held) (length held)) (position + 1) × IsParting (item_count table.trie) (keys_of table.hashed (next ∷ held)) (keys_of table.hashed (next ∷ held) (length held)) near position
  gap_parts next print near position any key is_print all is_key n low same differ =
      let other = get_or table.prints.items near 0 in
      let near_in : near < length held = omega (arith, n.there, all) in
      let there = number_there held near near_in in
      let key_print : (p : ℕ) → p < 64 → key p ≡ has_bit print p = λ p h. ap (λ (x : ℕ → Bool). x p) is_key ∙ print_bit 0 print 0 any p h in
      let near_print : (p : ℕ) → p < 64 → keys_of table.hashed (next ∷ held) near p ≡ has_bit other p = λ p h.
      print_at table.hashed (next ∷ held) near there.0 (omega (arith, near_in)) (at-older next held near_in there.1) p h ∙ ap (λ m. has_bit m p) (sym (print_there near there.0 near_in there.1)) in
      parts_as n (keys_of table.hashed (next ∷ held) (length held)) (keys_of table.hashed (next ∷ held) near) position low
      (record { each = λ p h. key_print p h ∙ sym (keys-print table.hashed next held print p is_print h) }) (agree_self (keys_of table.hashed (next ∷ held) near) 64)
      (record { each = λ p h. key_print p (omega (arith, h, low)) ∙ same_bit print other p (same p h) ∙ sym (near_print p (omega (arith, h, low))) })
      (λ e. other_bits print other position differ (sym (key_print position low) ∙ e ∙ near_print position low))

-- what a descent comes to is one of the items
pub found_in : {key : ℕ → Bool} {end child : ℕ} {slot : Slot} (held : List Held) (table : Table) → IsAwakeTable held table → ((width : ℕ) (keys : ℕ → ℕ → Bool) → IsTrie width keys table.trie → IsWayTo keys table.trie key end slot) → end ≤ WIDTH → child ≡ child_at table.trie slot → child < item_count table.trie
found_in {key} {end} {child} {slot} held table is way within at =
    let keys = keys_of table.hashed held in
    omega (arith, at, (way_nearest WIDTH keys table.trie is.linked slot (way WIDTH keys is.linked) within).there)

-- the same prints, and a trie of as many colourings or of more
pub tabled_with : (held : List Held) (table after : Table) → IsAwakeTable held table → after.prints.items ≡ table.prints.items → after.hashes ≡ table.hashes → after.room_asleep ≡ table.room_asleep
    → length table.prints.items ≤ capacity_of after.trie → capacity_of after.trie < 2 ^ 32 → item_count after.trie ≤ length table.prints.items → IsTrie WIDTH (keys_of after.hashed held) after.trie → IsAwakeTable held after
tabled_with held table after is prints hashes awake room most few trie = grind arith

-- one colouring more is in the trie, and keys stay as they are
one_linked : (old new : Table) → new.prints.items ≡ old.prints.items → new.hashed ≡ old.hashed → item_count new.trie ≡ item_count old.trie + 1 → item_count old.trie < length old.prints.items → most_to_link new < most_to_link old
one_linked old new prints hashed next more = grind (arith, cases_Bool)

-- keys get hashes, and no colouring is in the trie
pub all_anew : (old new : Table) → new.prints.items ≡ old.prints.items → old.hashed ≡ false → new.hashed ≡ true → most_to_link new < most_to_link old
all_anew old new prints off on = rw (prints, off, on) (omega arith)

-- the hashes that are kept are right once there is one colouring more
pub hashes_more : (next : Held) (held : List Held) (hashes : List ℕ) → HasHashes held hashes → HasHashes (next ∷ held) hashes
hashes_more next held hashes is = grind (arith, cases-number)

-- one colouring more is in the trie, and other hashes may be kept
pub links_with : (held : List Held) (old hashing : Table) (trie : Trie) → IsAwakeTable held (record old { hashes = hashing.hashes }) → item_count old.trie < length old.prints.items
    → capacity_of trie ≡ capacity_of old.trie → item_count trie ≡ item_count old.trie + 1 → IsTrie WIDTH (keys_of old.hashed held) trie → LinksNext held old (record old { trie = trie; hashes = hashing.hashes })
links_with held old hashing trie is more room next linked =
    let new = record old { trie = trie; hashes = hashing.hashes } in
    record {
      table = tabled_with held (record old { hashes = hashing.hashes }) new is refl refl refl (omega (arith, is.room, room)) (omega (arith, is.most, room)) (omega (arith, next, more)) linked;
      fewer = one_linked old new refl refl next more;
      prints = refl {A = List ℕ};
    }

-- a number has one colouring, and so one hash
pub at_number : (held : List Held) (number : ℕ) (one other : Grid) → IsNumber held number one → IsNumber held number other → hash_of one ≡ hash_of other
at_number held number one other at too = ap hash_of (same_Some one other (sym at ∙ too))

-- one colouring more
pub tabled_more : (held : List Held) (table after : Table) (next : Held) (print : ℕ) → IsAwakeTable held table → print ≡ print_of next.colouring → after.prints.items ≡ table.prints.items ++ print ∷ [] → after.room_asleep ≡ table.room_asleep
    → length table.prints.items < capacity_of after.trie → capacity_of after.trie < 2 ^ 32 → item_count after.trie ≤ length table.prints.items + 1 → IsTrie WIDTH (keys_of after.hashed (next ∷ held)) after.trie → HasHashes (next ∷ held) after.hashes.items → IsAwakeTable (next ∷ held) after
tabled_more held table after next print is printed pushed awake room most few trie kept = grind (arith, length-append, reverse-append)

-- a table that sleeps has none of its colourings, so it sleeps with any others that it has room for
asleep_with : (held other : List Held) (table : Table) → length other ≤ table.room_asleep → IsAsleepTable held table → IsAsleepTable other table
asleep_with held other table fits is = grind arith

pub asleep_more : (held : List Held) (table : Table) (next : Held) → IsAsleepTable held table → HasRoomForNext held table → IsAsleepTable (next ∷ held) table
asleep_more held table next is room = asleep_with held (next ∷ held) table (omega (arith, room.asleep is.asleep)) is

pub asleep_less : (table : Table) (newest : Held) (older : List Held) → IsAsleepTable (newest ∷ older) table → IsAsleepTable older table
asleep_less table newest older is = asleep_with (newest ∷ older) older table (omega (arith, is.fits)) is

pub printed_back : (prints left : List ℕ) (last : ℕ) (newest : Held) (older : List Held) → prints ≡ left ++ last ∷ [] → reverse prints ≡ prints_of (newest ∷ older) → reverse left ≡ prints_of older
printed_back prints left last newest older parts printed =
    let turned : ◌≡◌ {A = List ℕ} (last ∷ reverse left) (print_of newest.colouring ∷ prints_of older) = sym (reverse-append left (last ∷ [])) ∙ ap (λ (xs : List ℕ). reverse xs) (sym parts) ∙ printed in
    cc

-- if a colouring that goes on with the present stretch has a gap, the stretch doesn't have it
pub gap_lacks : (held : List Held) (table : Table) (g : Grid) (gap : Gap) → IsGap held table (record { colouring = g; begins = false }) gap → ¬ Contains (stretch_of held) g
gap_lacks held table g gap is has =
    let h = has_number held g has in
    let next : Held = record { colouring = g; begins = false } in
    let same : keys_of table.hashed (next ∷ held) h.0 ≡ keys_of table.hashed (next ∷ held) (length held) =
    keys-older table.hashed next held h.0 h.1 ∙ key_of_number table.hashed held h.0 g h.1 h.3
    ∙ ap (λ n. key_bits n (print_of g) (hash_in_key table.hashed g) g) (start-since held h.0 h.2 h.1)
    ∙ sym (keys-next table.hashed held g) in
    is.opens.part.best h.0 (omega (arith, is.all, h.1)) (subst (λ x. Agree (keys_of table.hashed (next ∷ held) h.0) x (gap.position + 1)) same (agree_self (keys_of table.hashed (next ∷ held) h.0) (gap.position + 1)))

-- so a stone that makes it brings no colouring back
pub gap_never : (was past : PastColourings) (k : Colour) (p : Point) (table : Table) (gap : Gap) → was ≡ past → IsGap (all_of was) table (with_next was (play (newest_grid was) k p) false).newest gap
    → ¬ Contains (present_stretch past) (play (newest_grid past) k p)
gap_never was past k p table gap same is =
    subst (λ (x : PastColourings). ¬ Contains (present_stretch x) (play (newest_grid x) k p)) same (gap_lacks (all_of was) table (play (newest_grid was) k p) gap is)

-- with the same nodes and keys, a gap is at the same slot
pub gap_same : (held : List Held) (one other : Table) (next : Held) (gap : Option Gap) → nodes_of other.trie ≡ nodes_of one.trie → other.hashed ≡ one.hashed → IfSome gap (IsGap held one next) → IfSome gap (IsGap held other next)
gap_same held one other next None same keys is = is
gap_same held one other next (Some gap) same keys is = record {
  all = rw same is.all;
  within = is.within;
  opens = subst (λ hashed. IsOpening (keys_of hashed (next ∷ held)) other.trie (keys_of hashed (next ∷ held) (length held)) gap.slot gap.position) (sym keys) (opening_same same is.opens);
  bit = subst (λ hashed. keys_of hashed (next ∷ held) (length held) gap.position ≡ gap.bit) (sym keys) is.bit;
  hash = is.hash;
}

-- A call that changes the room alone leaves a table of the same colourings.
module _ (held : List Held) (old new : Table) (asleep : IsAsleepTable held old → IsAsleepTable held new) (awake : IsAwakeTable held old → IsAwakeTable held new) where
  pub table_same : IsTable held old → IsTable held new
  table_same (inl is) = inl (asleep is)
  table_same (inr is) = inr (awake is)

  pub print_same : (next : Held) (print : Option ℕ) → IsPrintOfNext held old next print → IsPrintOfNext held new next print
  print_same next None is = record { awake = tt; asleep = asleep is.asleep }
  print_same next (Some number) is = record { awake = (awake is.awake.0, is.awake.1); asleep = tt }

-- a sleeping table is still right if it only gets more room; it may count on `room` if the trie and the prints have that
pub asleep_grown : (held : List Held) (old new : Table) (room : ℕ) → GrowsTable old new → old.room_asleep ≤ room → room ≤ capacity_of new.trie → room ≤ vec_capacity new.prints → IsAsleepTable held old → IsAsleepTable held (record new { room_asleep = room })
asleep_grown held old new room grows more trie prints is = grind arith

-- so is an awake one
pub awake_grown : (held : List Held) (old new : Table) → GrowsTable old new → IsAwakeTable held old → IsAwakeTable held new
awake_grown held old new grows is =
    tabled_with held old new is grows.prints grows.hashes grows.asleep (omega (arith, is.room, grows.room)) grows.most (rw grows.nodes is.few) (rw (grows.nodes, grows.hashed) is.linked)

-- there is room in the trie for all colourings, and no more prints than these
pub table_fits : (held : List Held) (table : Table) → IsTable held table → (length table.prints.items ≤ length held) × (length held ≤ capacity_of table.trie)
table_fits held table (inl is) = (rw is.no_prints (omega arith), omega (arith, is.fits, is.room))
table_fits held table (inr is) = (omega (arith, tabled held table is), omega (arith, is.room, tabled held table is))

-- so many colourings that a number of 32 bits counts them
pub few_all : (held : List Held) (table : Table) → IsTable held table → length held < 2 ^ 32
few_all held table (inl is) = omega (arith, is.fits, is.room, is.most)
few_all held table (inr is) = omega (arith, is.room, is.most, tabled held table is)

-- a table without prints sleeps
pub sleeps : (held : List Held) (table : Table) → IsTable held table → length table.prints.items ≡ 0 → 0 < length held → IsAsleepTable held table
sleeps held table (inl is) none some = is
sleeps held table (inr is) none some = absurd (omega (arith, none, some, tabled held table is))

-- a table that got its prints
pub awoken : (held : List Held) (old new : Table) → IsAsleepTable held old → reverse new.prints.items ≡ prints_of held → new.trie ≡ old.trie → new.hashes ≡ old.hashes → new.room_asleep ≡ 0 → IsAwakeTable held new
awoken held old new is printed trie hashes awake = grind (arith, same_length)

-- a table with prints is awake
pub with_prints : (held : List Held) (table : Table) → IsTable held table → 0 < length table.prints.items → IsAwakeTable held table
with_prints held table (inl is) some = absurd (omega (arith, some, ap (λ (xs : List ℕ). length xs) is.no_prints))
with_prints held table (inr is) some = is
