-- The print of a colouring as a number in base 31: the numbers of its rows, and of the words of its stones.
use Rattle.board_past.proofs.Common.{◌≡◌, ◌≢◌, inl, inr, ℕ, zero, suc, ◌+◌, ◌-◌, ◌*◌, ◌/◌, ◌%◌, ◌^◌, ◌<◌, ◌≤◌, ◌&&◌, Bool, true, false, cond, bit_and, List, slice_index, length, get_or, set, take, refl, sym, subst, ap, ◌∙◌, arith, fold, add-mul, mul-add, suc-mul, pow_pos, take_all, get_or-set_same, get_or-set_other, length-set, set-set, bit_at, cases_Bool, cases_eq, set-get_or, bit_at-zero, bit_at_cat_high, bit_at_cat_low, Point, IsOn, index_of, has_bit, is_set, Cell, Black, White, Empty, same_cell, Grid, cell_at, with_cell, code, print_of, in_base, row_number, word_number, row_within, number_within, cell_at-with_cell, bit_same, mod-add-mod, add-mod-mod, add-mul-mod_self_left, mod-add-div, pow-succ', zero-mod, mod_below, mul-mod, mul-mod_second, shr_split, index_below, bit_at-there, bit_at-gone, bit_at-mod, has_bit-and, has_bit-zero}
use Rattle.std.proofs.Math.Bool.{and-true, and-false}
use Rattle.std.proofs.lemmas.List.Sums.{fold_more}

pub in_base-more : (base n : ℕ) (d : ℕ → ℕ) → in_base base (n + 1) d ≡ base * in_base base n d + d n
in_base-more base n d = let next : n + 1 ≡ suc n = omega arith in ap (λ m. in_base base m d) next

-- numbers with the same digits
pub in_base-same : (base n : ℕ) (d e : ℕ → ℕ) → ((i : ℕ) → i < n → d i ≡ e i) → in_base base n d ≡ in_base base n e
in_base-same base zero d e same = refl
in_base-same base (suc n) d e same =
    rw (in_base-same base n d e (λ i low. same i (omega (arith, low))), same n (omega arith)) refl

in_base-none : (n : ℕ) → in_base 31 n (λ i. 0) ≡ 0
in_base-none zero = refl
in_base-none (suc n) = omega (arith, in_base-none n)

-- one digit that is greater by a number
in_base-greater : (n k x : ℕ) (d e : ℕ → ℕ) → k < n → ((i : ℕ) → i < n → i ≢ k → d i ≡ e i) → e k ≡ d k + x → in_base 31 n e ≡ in_base 31 n d + x * 31 ^ (n - 1 - k)
in_base-greater zero k x d e low others is = absurd (omega (arith, low))
in_base-greater (suc n) k x d e low others is =
    elim (cases_eq k n) [
      | inl last ↦
          let before = in_base-same 31 n d e (λ i h. others i (omega (arith, h)) (λ e. omega (arith, h, e, last))) in
          let none : suc n - 1 - k ≡ 0 = omega (arith, last) in
          rw none (omega (arith, before, is, ap e last, ap d last))
      | inr other ↦
          let before = in_base-greater n k x d e (omega (arith, low, other)) (λ i h. others i (omega (arith, h))) is in
          let one_less : suc n - 1 - k ≡ suc (n - 1 - k) = omega (arith, low, other) in
          rw (one_less, pow-succ' 31 (n - 1 - k)) (omega (arith, before, others n (omega arith) (λ e. other (sym e))))
    ]

-- Numbers that leave the same remainder.
module _ (m : ℕ) where
  same_mod : (x y z w : ℕ) → x + m * y ≡ z + m * w → x % m ≡ z % m
  same_mod x y z w e = sym (add-mul-mod_self_left x m y) ∙ ap (λ n. n % m) e ∙ add-mul-mod_self_left z m w

  same_sum : (a b c d : ℕ) → a % m ≡ b % m → c % m ≡ d % m → (a + c) % m ≡ (b + d) % m
  same_sum a b c d e f =
      sym (mod-add-mod a m c) ∙ ap (λ n. (n + c) % m) e ∙ mod-add-mod b m c
      ∙ sym (add-mod-mod b c m) ∙ ap (λ n. (b + n) % m) f ∙ add-mod-mod b d m

  -- a number with one digit more
  pub digit_more : (base number digit : ℕ) → (number % m * (base % m) % m + digit % m) % m ≡ (base * number + digit) % m
  digit_more base number digit =
      add-mod-mod (number % m * (base % m) % m) digit m
      ∙ ap (λ n. (n + digit) % m) (sym (mul-mod number base m))
      ∙ mod-add-mod (number * base) m digit
      ∙ ap (λ n. (n + digit) % m) (omega arith)

-- what is left if some is cleared
cleared_away : (all rest less m : ℕ) → less % m < m → all ≡ rest + less → (all % m + (m - less % m)) % m ≡ rest % m
cleared_away all rest less m small same =
    same_mod m (all % m + (m - less % m)) (all / m) rest (less / m + 1)
    (omega (arith, same, small, mod-add-div all m, mod-add-div less m))

-- The number of a grid.

-- what each cell does to a fold modulo a number
abbrev pub next_cell : ℕ → ℕ → Cell → ℕ
next_cell m print cell = (31 * print + code cell) % m

abbrev digits : List Cell → ℕ → ℕ
digits cells i = code (get_or cells i Empty)

fold_number : (m : ℕ) (cells : List Cell) (n : ℕ) → n ≤ length cells → fold (next_cell m) 0 (take n cells) ≡ in_base 31 n (digits cells) % m
fold_number m cells zero few = sym (zero-mod m)
fold_number m cells (suc n) few =
    let next : suc n ≡ n + 1 = omega arith in
    let digit = digits cells n in
    let number = in_base 31 n (digits cells) in
    ap (λ i. fold (next_cell m) 0 (take i cells)) next
    ∙ fold_more (next_cell m) 0 cells n Empty (omega (arith, few))
    ∙ ap (λ x. (31 * x + digit) % m) (fold_number m cells n (omega (arith, few)))
    ∙ sym (mod-add-mod (31 * (number % m)) m digit)
    ∙ ap (λ x. (x + digit) % m) (mul-mod_second 31 number m)
    ∙ mod-add-mod (31 * number) m digit

whole_number : (m : ℕ) (cells : List Cell) → fold (next_cell m) 0 cells ≡ in_base 31 (length cells) (digits cells) % m
whole_number m cells =
    sym (ap (λ (l : List Cell). fold (next_cell m) 0 l) (take_all (length cells) cells (omega arith)))
    ∙ fold_number m cells (length cells) (omega arith)

pub print_small : (g : Grid) → print_of g < 2 ^ 64
unfolding print_of
print_small g = subst (λ n. n < 2 ^ 64) (sym (whole_number (2 ^ 64) g.cells)) (mod_below (in_base 31 (length g.cells) (digits g.cells)) (2 ^ 64) (pow_pos 64))

-- a number by two groups of its digits
in_base-parts : (m n : ℕ) (d : ℕ → ℕ) → in_base 31 (m + n) d ≡ 31 ^ n * in_base 31 m d + in_base 31 n (λ i. d (m + i))
in_base-parts m zero d = let all : m + 0 ≡ m = omega arith in ap (λ k. in_base 31 k d) all ∙ omega arith
in_base-parts m (suc n) d =
    let next : m + suc n ≡ suc (m + n) = omega arith in
    ap (λ k. in_base 31 k d) next
    ∙ ap (λ x. 31 * x + d (m + n)) (in_base-parts m n d)
    ∙ rw (pow-succ' 31 n) (omega arith)

-- a number by rows of digits
in_base-rows : (side rows : ℕ) (d : ℕ → ℕ) → in_base 31 (rows * side) d ≡ in_base (31 ^ side) rows (λ row. in_base 31 side (λ col. d (row * side + col)))
in_base-rows side zero d = let none : 0 * side ≡ 0 = omega arith in ap (λ k. in_base 31 k d) none
in_base-rows side (suc rows) d =
    ap (λ k. in_base 31 k d) (suc-mul rows side)
    ∙ in_base-parts (rows * side) side d
    ∙ ap (λ x. 31 ^ side * x + in_base 31 side (λ col. d (rows * side + col))) (in_base-rows side rows d)

pub print_by_rows : (g : Grid) → length g.cells ≡ g.side * g.side → print_of g ≡ in_base (31 ^ g.side) g.side (row_number g) % 2 ^ 64
unfolding print_of
print_by_rows g all =
    whole_number (2 ^ 64) g.cells
    ∙ ap (λ n. in_base 31 n (digits g.cells) % 2 ^ 64) all
    ∙ ap (λ n. n % 2 ^ 64) (in_base-rows g.side g.side (digits g.cells))

-- what a black stone and a white stone count, modulo 2^64
pub counted_once : (n : ℕ) → n % 2 ^ 64 % 2 ^ 64 ≡ (1 * n) % 2 ^ 64
counted_once n = omega arith

pub counted_twice : (n : ℕ) → n % 2 ^ 64 * 2 % 2 ^ 64 % 2 ^ 64 ≡ (2 * n) % 2 ^ 64
counted_twice n = omega arith

-- a stone on an empty point adds its code times a power of 31
pub stone_added : (g : Grid) (p : Point) (stone : Cell) → IsOn g.side p → cell_at g p ≡ Empty → length g.cells ≡ g.side * g.side → (print added : ℕ) → print ≡ print_of g → added % 2 ^ 64 ≡ (code stone * 31 ^ (g.side * g.side - 1 - index_of g.side p)) % 2 ^ 64 → (print + added) % 2 ^ 64 ≡ print_of (with_cell g p stone)
unfolding print_of
stone_added g p stone on empty all print added is adds =
    let at = index_of g.side p in
    let made = set g.cells at stone in
    let points = g.side * g.side in
    let below : at < points = index_below g.side p on in
    let weight = 31 ^ (points - 1 - at) in
    let old = in_base 31 points (digits g.cells) in
    let grown : in_base 31 points (digits made) ≡ old + code stone * weight =
    in_base-greater points at (code stone) (digits g.cells) (digits made) below
    (λ i low other. ap code (sym (get_or-set_other g.cells at i stone Empty other)))
    (ap code (get_or-set_same g.cells at stone Empty (omega (arith, below, all))) ∙ omega (arith, ap code empty)) in
    same_sum (2 ^ 64) print old added (code stone * weight) (ap (λ n. n % 2 ^ 64) (is ∙ whole_number (2 ^ 64) g.cells ∙ ap (λ n. in_base 31 n (digits g.cells) % 2 ^ 64) all) ∙ omega arith) adds
    ∙ ap (λ n. n % 2 ^ 64) (sym grown)
    ∙ ap (λ n. in_base 31 n (digits made) % 2 ^ 64) (sym (length-set g.cells at stone ∙ all))
    ∙ sym (whole_number (2 ^ 64) made)

-- a point that is emptied takes the code of its cell times that power away
pub cell_removed : (g : Grid) (p : Point) → IsOn g.side p → length g.cells ≡ g.side * g.side → (print removed : ℕ) → print ≡ print_of g → removed < 2 ^ 64 → removed % 2 ^ 64 ≡ (code (cell_at g p) * 31 ^ (g.side * g.side - 1 - index_of g.side p)) % 2 ^ 64 → (print + (2 ^ 64 - removed)) % 2 ^ 64 ≡ print_of (with_cell g p Empty)
cell_removed g p on all print removed is small removes =
    let at = index_of g.side p in
    let left = with_cell g p Empty in
    let back : with_cell left p (cell_at g p) ≡ g =
    ap (λ (cells : List Cell). record g { cells = cells }) (set-set g.cells at Empty (cell_at g p) ∙ set-get_or g.cells at Empty) in
    let after : (print_of left + removed) % 2 ^ 64 ≡ print_of g =
    stone_added left p (cell_at g p) on (cell_at-with_cell g p Empty on all) (length-set g.cells at Empty ∙ all) (print_of left) removed refl removes ∙ ap print_of back in
    omega (arith, after, is, print_small left, small)

-- The numbers of words.

code_by_bits : (c : Cell) (black white col : ℕ) → has_bit black col ≡ same_cell c Black → has_bit white col ≡ same_cell c White → code c ≡ bit_at black col + 2 * bit_at white col
code_by_bits c black white col b w = grind (arith, bit_at-gone, bit_at-there)

in_base-both : (n : ℕ) (d a b : ℕ → ℕ) → ((i : ℕ) → i < n → d i ≡ a i + 2 * b i) → in_base 31 n d ≡ in_base 31 n a + 2 * in_base 31 n b
in_base-both zero d a b is = refl
in_base-both (suc n) d a b is = omega (arith, in_base-both n d a b (λ i low. is i (omega (arith, low))), is n (omega arith))

-- the number of cells by the words of the stones
pub cells_by_words : (side black white : ℕ) (cell : ℕ → Cell) → ((col : ℕ) → col < side → has_bit black col ≡ same_cell (cell col) Black) → ((col : ℕ) → col < side → has_bit white col ≡ same_cell (cell col) White) → in_base 31 side (λ col. code (cell col)) ≡ word_number side black + 2 * word_number side white
cells_by_words side black white cell b w = grind (arith, code_by_bits, in_base-both)

-- the number of a row
pub row_by_words : (g : Grid) (row side black white : ℕ) → g.side ≡ side
    → ((col : ℕ) → col < side → has_bit black col ≡ same_cell (cell_at g (record { col = col; row = row })) Black)
    → ((col : ℕ) → col < side → has_bit white col ≡ same_cell (cell_at g (record { col = col; row = row })) White)
    → row_number g row ≡ word_number side black + 2 * word_number side white
row_by_words g row side black white is b w =
    ap (λ n. in_base 31 n (λ col. code (cell_at g (record { col = col; row = row })))) is
    ∙ cells_by_words side black white (λ col. cell_at g (record { col = col; row = row })) b w

-- the number of those cells of a row that a word has
same_within : (word in_word : Bool) (c wanted : Cell) → same_cell Empty wanted ≡ false → word ≡ same_cell c wanted → (word && in_word) ≡ same_cell (cond in_word c Empty) wanted
same_within word in_word c wanted stone is = grind (arith, and-false, and-true)

pub row_within_words : (g : Grid) (row columns side black white : ℕ) → g.side ≡ side
    → ((col : ℕ) → col < side → has_bit black col ≡ same_cell (cell_at g (record { col = col; row = row })) Black)
    → ((col : ℕ) → col < side → has_bit white col ≡ same_cell (cell_at g (record { col = col; row = row })) White)
    → row_within g columns row ≡ word_number side (bit_and black columns) + 2 * word_number side (bit_and white columns)
row_within_words g row columns side black white is b w =
    ap (λ n. in_base 31 n (λ col. code (cell col))) is
    ∙ cells_by_words side (bit_and black columns) (bit_and white columns) cell
    (λ col low. has_bit-and black columns col ∙ same_within (has_bit black col) (has_bit columns col) (cell_at g (record { col = col; row = row })) Black refl (b col low))
    (λ col low. has_bit-and white columns col ∙ same_within (has_bit white col) (has_bit columns col) (cell_at g (record { col = col; row = row })) White refl (w col low))
  where
    cell : ℕ → Cell
    cell col = cond (has_bit columns col) (cell_at g (record { col = col; row = row })) Empty

pub none_within : (g : Grid) (row : ℕ) → row_within g 0 row ≡ 0
none_within g row =
    in_base-same 31 g.side (λ col. code (cond (has_bit 0 col) (cell_at g (record { col = col; row = row })) Empty)) (λ i. 0)
    (λ col low. ap (λ b. code (cond b (cell_at g (record { col = col; row = row })) Empty)) (has_bit-zero col))
    ∙ in_base-none g.side

-- a number that is the sum of two, digit by digit
in_base-split : (base n : ℕ) (d a b : ℕ → ℕ) → ((i : ℕ) → i < n → d i ≡ a i + b i) → in_base base n d ≡ in_base base n a + in_base base n b
in_base-split base zero d a b is = refl
in_base-split base (suc n) d a b is =
    let before = in_base-split base n d a b (λ i low. is i (omega (arith, low))) in
    let times : base * in_base base n d ≡ base * in_base base n a + base * in_base base n b = ap (λ x. base * x) before ∙ mul-add base (in_base base n a) (in_base base n b) in
    omega (arith, times, is n (omega arith))

-- a print without the stones that are cleared
module _ (g full left : Grid) (cleared : List ℕ) (full_side : full.side ≡ g.side) (left_side : left.side ≡ g.side) (gone : (p : Point) → IsOn g.side p → is_set cleared p ≡ true → (cell_at left p ≡ Empty) × (cell_at full p ≡ cell_at g p)) (stays : (p : Point) → IsOn g.side p → is_set cleared p ≡ false → cell_at full p ≡ cell_at left p) where
  cell_left : (p : Point) → IsOn g.side p → code (cell_at full p) ≡ code (cell_at left p) + code (cond (is_set cleared p) (cell_at g p) Empty)
  cell_left p on = grind (arith, cases_Bool)

  number_left : in_base (31 ^ g.side) g.side (row_number full) ≡ in_base (31 ^ g.side) g.side (row_number left) + number_within g cleared
  number_left =
      in_base-split (31 ^ g.side) g.side (row_number full) (row_number left) (λ row. row_within g (slice_index cleared row) row)
      (λ row low.
      ap (λ n. in_base 31 n (λ col. code (cell_at full (record { col = col; row = row })))) full_side
      ∙ in_base-split 31 g.side (λ col. code (cell_at full (record { col = col; row = row }))) (λ col. code (cell_at left (record { col = col; row = row })))
      (λ col. code (cond (is_set cleared (record { col = col; row = row })) (cell_at g (record { col = col; row = row })) Empty))
      (λ col col_low. cell_left (record { col = col; row = row }) (col_low, low))
      ∙ ap (λ n. in_base 31 n (λ col. code (cell_at left (record { col = col; row = row }))) + row_within g (slice_index cleared row) row) (sym left_side))

  pub print_left : length full.cells ≡ full.side * full.side → length left.cells ≡ left.side * left.side → (print less : ℕ) → print ≡ print_of full → less ≡ number_within g cleared % 2 ^ 64 → (print + (2 ^ 64 - less)) % 2 ^ 64 ≡ print_of left
  print_left all all_left print less is less_is =
      let m = 2 ^ 64 in
      let number = in_base (31 ^ g.side) g.side (row_number full) in
      let rest = in_base (31 ^ g.side) g.side (row_number left) in
      ap (λ n. (n + (m - less)) % m) (is ∙ print_by_rows full all ∙ ap (λ n. in_base (31 ^ n) n (row_number full) % m) full_side)
      ∙ ap (λ n. (number % m + (m - n)) % m) less_is
      ∙ cleared_away number rest (number_within g cleared) m (mod_below (number_within g cleared) m (pow_pos 64)) number_left
      ∙ ap (λ n. in_base (31 ^ n) n (row_number left) % m) (sym left_side)
      ∙ sym (print_by_rows left all_left)

-- a word without one of its columns
word_without : (side word next col : ℕ) → col < side → has_bit word col ≡ true → has_bit next col ≡ false → ((k : ℕ) → k ≢ col → has_bit next k ≡ has_bit word k) → word_number side word ≡ word_number side next + 31 ^ (side - 1 - col)
word_without side word next col low is gone others =
    in_base-greater side col 1 (bit_at next) (bit_at word) low (λ k h other. bit_same next word k (others k other)) (omega (arith, bit_at-there word col is, bit_at-gone next col gone))
    ∙ omega arith

pub no_column : (side : ℕ) → word_number side 0 ≡ 0
no_column side = in_base-same 31 side (bit_at 0) (λ i. 0) (λ i low. bit_at-zero i) ∙ in_base-none side

-- a word that has one column
pub one_column : (side word next col : ℕ) → col < side → has_bit word col ≡ true → has_bit next col ≡ false → ((k : ℕ) → k ≢ col → has_bit next k ≡ has_bit word k) → next ≡ 0 → word_number side word ≡ 31 ^ (side - 1 - col)
one_column side word next col low is gone others none =
    word_without side word next col low is gone others ∙ ap (λ n. word_number side n + 31 ^ (side - 1 - col)) none ∙ omega (arith, no_column side)

-- a word that is shifted up: it has digits 0 before its own
pub shifted_number : (side up word : ℕ) → up + side ≤ 64 → word_number (up + side) (word * 2 ^ up % 2 ^ 64) ≡ word_number side word
shifted_number side up word few =
    let shifted = word * 2 ^ up % 2 ^ 64 in
    let none : in_base 31 up (bit_at shifted) ≡ 0 =
    in_base-same 31 up (bit_at shifted) (λ i. 0)
    (λ i low.
    bit_at-mod (word * 2 ^ up) 64 i (omega (arith, low, few))
    ∙ ap (λ n. bit_at n i) (omega arith)
    ∙ bit_at_cat_low word up 0 i low ∙ bit_at-zero i)
    ∙ in_base-none up in
    let own : in_base 31 side (λ i. bit_at shifted (up + i)) ≡ word_number side word =
    in_base-same 31 side (λ i. bit_at shifted (up + i)) (bit_at word)
    (λ i low.
    bit_at-mod (word * 2 ^ up) 64 (up + i) (omega (arith, low, few))
    ∙ ap (λ n. bit_at n (up + i)) (omega arith)
    ∙ bit_at_cat_high word up 0 (up + i) (pow_pos up) (omega arith) ∙ ap (bit_at word) (omega arith)) in
    in_base-parts up side (bit_at shifted)
    ∙ ap (λ n. 31 ^ side * n + in_base 31 side (λ i. bit_at shifted (up + i))) none
    ∙ omega (arith, own)

-- a word by bytes, with one byte more; `left` has the bytes from it on
pub byte_more : (word left bytes : ℕ) → ((i : ℕ) → bit_at left i ≡ bit_at word (8 * bytes + i)) → word_number (8 * (bytes + 1)) word ≡ 31 ^ 8 * word_number (8 * bytes) word + word_number 8 left
byte_more word left bytes rest =
    let more : 8 * (bytes + 1) ≡ 8 * bytes + 8 = omega arith in
    ap (λ n. word_number n word) more
    ∙ in_base-parts (8 * bytes) 8 (bit_at word)
    ∙ ap (λ n. 31 ^ 8 * word_number (8 * bytes) word + n) (sym (in_base-same 31 8 (bit_at left) (λ i. bit_at word (8 * bytes + i)) (λ i low. rest i)))

pub byte_less : (word left bytes : ℕ) → ((i : ℕ) → bit_at left i ≡ bit_at word (8 * bytes + i)) → (i : ℕ) → bit_at (left / 2 ^ 8) i ≡ bit_at word (8 * (bytes + 1) + i)
byte_less word left bytes rest i =
    ap (bit_at (left / 2 ^ 8)) (omega arith)
    ∙ sym (bit_at_cat_high (left / 2 ^ 8) 8 (left % 2 ^ 8) (8 + i) (mod_below left (2 ^ 8) (pow_pos 8)) (omega arith))
    ∙ ap (λ n. bit_at n (8 + i)) (shr_split left 8)
    ∙ rest (8 + i)
    ∙ ap (bit_at word) (omega arith)

-- the numbers of both colours, of which some is left out
pub sum_of_both : (black white m : ℕ) → (black % m + 2 * (white % m)) % m ≡ (black + 2 * white) % m
sum_of_both black white m =
    mod-add-mod black m (2 * (white % m))
    ∙ sym (add-mod-mod black (2 * (white % m)) m) ∙ ap (λ n. (black + n) % m) (mul-mod_second 2 white m) ∙ add-mod-mod black (2 * white) m

-- what comes after a point
module _ (side row col : ℕ) (in_row : col < side) (in_column : row < side) where
  rows_left : (side - row) * side + row * side ≡ side * side
  rows_left = grind (arith, add-mul)

  pub points_left : (side - row) * side - 1 - col ≡ side * side - 1 - (row * side + col)
  points_left = omega (arith, rows_left)
