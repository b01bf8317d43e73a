-- Segments that are kept: with one more, and up to the last one of a sequence.
use Rattle.sgf_outline.proofs.Common.{◌≡◌, ℕ, ◌+◌, ◌<◌, ◌≤◌, true, false, List, [], ◌∷◌, ◌++◌, length, drop, get_or, slice_range, refl, sym, ap, ◌∙◌, append_assoc, append-nil, rules, cases_lt, drop_all, drop_more, KeptSegment, start_by, is_last_by, IsCopiedFirst, AreTold, AreWhole}

module _ (t : List ℕ) where
  -- the text of a kept segment
  abbrev pub text_by : KeptSegment → List ℕ
  text_by kept = slice_range t (start_by kept) kept.end

  module _ (new : KeptSegment) (rises : start_by new ≤ new.end) (within : new.end ≤ length t) where
    first-copied : (kept : KeptSegment) (written rest : List ℕ) → IsCopiedFirst t kept written rest → IsCopiedFirst t kept (written ++ text_by new) (rest ++ text_by new)
    first-copied kept written rest is =
        record { rises = is.rises; within = is.within; are = ap (λ s. s ++ text_by new) is.are ∙ append_assoc (text_by kept) rest (text_by new) }

    last-copied : (told : List ℕ) → told ≡ [] → IsCopiedFirst t new (told ++ text_by new) []
    last-copied told none = record { rises = rises; within = within; are = ap (λ s. s ++ text_by new) none ∙ sym (append-nil (text_by new)) }

    -- one more, which isn't the last one of its sequence
    pub told-more : (segments : List KeptSegment) (told : List ℕ) → is_last_by new ≡ false → AreTold t segments told → AreTold t (segments ++ new ∷ []) (told ++ text_by new)
    told-more [] told other none = ([], last-copied told none, other, refl)
    told-more (kept ∷ more) told other (rest, is, earlier, are) =
        (rest ++ text_by new, first-copied kept told rest is, earlier, told-more more rest other are)

    -- the last one
    pub told-whole : (segments : List KeptSegment) (told : List ℕ) → is_last_by new ≡ true → AreTold t segments told → AreWhole t (segments ++ new ∷ []) (told ++ text_by new)
    told-whole [] told last none = search (rules, last-copied)
    told-whole (kept ∷ more) told last (rest, is, earlier, are) = search (rules, first-copied, (told-whole more rest last are))

  -- others after them
  pub whole-grown : (segments others : List KeptSegment) (written : List ℕ) → AreWhole t segments written → AreWhole t (segments ++ others) written
  whole-grown [] others written none = absurd none
  whole-grown (kept ∷ more) others written (rest, is, last, next) = (rest, is, last, λ other. whole-grown more others rest (next other))

  -- there is a first one
  pub whole-within : (segments : List KeptSegment) (index : ℕ) (written : List ℕ) → AreWhole t (drop index segments) written → index < length segments
  whole-within segments index written whole = search (rules, cases_lt, drop_all)

  pub whole-first : (segments : List KeptSegment) (index : ℕ) (written : List ℕ) (kept : KeptSegment) → AreWhole t (drop index segments) written → kept ≡ get_or segments index kept
      → AreWhole t (kept ∷ drop (index + 1) segments) written
  whole-first segments index written kept whole here = search (rules, drop_more, whole-within)
