use Rattle.sgf_properties.proofs.Common.{◌≡◌, ◌≢◌, ◌<◌, ◌-◌, ℕ, true, false, List, [], ◌∷◌, ◌++◌, length, get_or, take, drop, arith, text_of, is_pair, unescaped, after_backslash, take_rest, common_steps}
use Rattle.sgf_properties.proofs.text.decode_front.Goals as goal

-- a line break of two bytes, an escaped one, another escaped byte, and another byte in front
pair_in_front : (s : List ℕ) → is_pair (get_or s 0 0) (get_or s 1 0) ≡ true → text_of s ≡ 10 ∷ text_of (take (length s - 2) (drop 2 s))
pair_in_front s h = rw take_rest (grind (arith, common_steps))

escaped_pair_in_front : (s : List ℕ) → (get_or s 0 0 ≡ 92) × (is_pair (get_or s 1 0) (get_or s 2 0) ≡ true) → text_of s ≡ text_of (take (length s - 3) (drop 3 s))
escaped_pair_in_front s h = rw take_rest (grind (arith, common_steps))

escaped_in_front : (xs s : List ℕ) → (1 < length s) × (get_or s 0 0 ≡ 92) × (2 < length s → is_pair (get_or s 1 0) (get_or s 2 0) ≡ false) × (after_backslash (get_or s 1 0) ≡ xs) →
    text_of s ≡ xs ++ text_of (take (length s - 2) (drop 2 s))
escaped_in_front xs s h = rw take_rest (grind (arith, common_steps))

byte_in_front : (x : ℕ) (s : List ℕ) → (0 < length s) × (get_or s 0 0 ≢ 92) × (1 < length s → is_pair (get_or s 0 0) (get_or s 1 0) ≡ false) × (unescaped (get_or s 0 0) ≡ x) →
    text_of s ≡ x ∷ text_of (take (length s - 1) (drop 1 s))
byte_in_front x s h = rw take_rest (grind (arith, common_steps))

pub returns-in-92-clause-decoded : goal.returns-in-92-clause-decoded
returns-in-92-clause-decoded c = escaped_pair_in_front c.args.raw.now (grind arith)

pub returns-in-92-2-clause-decoded : goal.returns-in-92-2-clause-decoded
returns-in-92-2-clause-decoded c = escaped_in_front [] c.args.raw.now (grind arith)

pub returns-in-92-3-clause-decoded : goal.returns-in-92-3-clause-decoded
returns-in-92-3-clause-decoded c = escaped_in_front (_ ∷ []) c.args.raw.now (grind arith)

pub returns-in-13-clause-decoded : goal.returns-in-13-clause-decoded
returns-in-13-clause-decoded c = pair_in_front c.args.raw.now (grind arith)

pub returns-in-13-2-clause-decoded : goal.returns-in-13-2-clause-decoded
returns-in-13-2-clause-decoded c = byte_in_front _ c.args.raw.now (grind arith)

pub returns-in-len1-up-clause-decoded : goal.returns-in-len1-up-clause-decoded
returns-in-len1-up-clause-decoded c = byte_in_front _ c.args.raw.now (grind arith)
