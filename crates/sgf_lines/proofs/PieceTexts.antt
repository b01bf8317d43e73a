-- A text in pieces is appended to, closed and cut back.
use Rattle.sgf_lines.proofs.Common.{◌≡◌, ℕ, zero, suc, ◌+◌, ◌-◌, List, [], ◌∷◌, ◌++◌, length, take, drop, slice_get, refl, sym, ap, ◌∙◌, arith, append_assoc, append-nil, rules, unwrap_or, take-append-drop, length-append, concat, take-append_seam, drop-append_seam, common_steps, concat-append, PiecesState, pushed, closed, cut, pieces_from, rest_from, AreEnds}
use Rattle.sgf_outline.specs.Written.{ends_from}

-- ---- the ends of pieces

ends-append : (start : ℕ) (ps qs : List (List ℕ)) → ends_from start (ps ++ qs) ≡ ends_from start ps ++ ends_from (start + length (concat ps)) qs
ends-append start [] qs = ap (λ k. ends_from k qs) (omega arith)
ends-append start (p ∷ ps) qs = grind (arith, common_steps, length-append, ends-append (start + length p) ps qs)

ends-take : (count start : ℕ) (ps : List (List ℕ)) → take count (ends_from start ps) ≡ ends_from start (take count ps)
ends-take zero start ps = refl
ends-take (suc count) start [] = refl
ends-take (suc count) start (p ∷ ps) = ap (λ es. (start + length p) ∷ es) (ends-take count (start + length p) ps)

length-ends : (start : ℕ) (ps : List (List ℕ)) → length (ends_from start ps) ≡ length ps
length-ends start [] = refl
length-ends start (p ∷ ps) = ap suc (length-ends (start + length p) ps)

last-end : (start : ℕ) (ps : List (List ℕ)) → unwrap_or (slice_get (start ∷ ends_from start ps) (length ps)) 0 ≡ start + length (concat ps)
last-end start [] = omega arith
last-end start (p ∷ ps) = last-end (start + length p) ps ∙ omega (arith, length-append p (concat ps))

last_is : (ps : List (List ℕ)) → unwrap_or (slice_get (ends_from 0 ps) (length (ends_from 0 ps) - 1)) 0 ≡ length (concat ps)
last_is [] = refl
last_is (p ∷ ps) =
    let before : suc (length (ends_from (0 + length p) ps)) - 1 ≡ length ps = omega (arith, length-ends (0 + length p) ps) in
    ap (λ k. unwrap_or (slice_get ((0 + length p) ∷ ends_from (0 + length p) ps) k) 0) before ∙ last-end (0 + length p) ps ∙ omega (arith, length-append p (concat ps))

-- ---- pieces are seen by their ends

abbrev pub seen : List ℕ → List ℕ → PiecesState
seen ends text = record { pieces = pieces_from 0 ends text; begun = rest_from 0 ends text }

-- the pieces and what is begun are the whole text
pub whole : (start : ℕ) (ends text : List ℕ) → concat (pieces_from start ends text) ++ rest_from start ends text ≡ text
whole start [] text = refl
whole start (end ∷ ends) text = grind (arith, common_steps, append_assoc, take-append-drop, whole end ends (drop (end - start) text))

pieces_again : (start : ℕ) (ps : List (List ℕ)) (begun : List ℕ) → pieces_from start (ends_from start ps) (concat ps ++ begun) ≡ ps
pieces_again start [] begun = refl
pieces_again start (p ∷ ps) begun = grind (arith, common_steps, append_assoc, drop-append_seam, take-append_seam, pieces_again (start + length p) ps begun)

rest_again : (start : ℕ) (ps : List (List ℕ)) (begun : List ℕ) → rest_from start (ends_from start ps) (concat ps ++ begun) ≡ begun
rest_again start [] begun = refl
rest_again start (p ∷ ps) begun = grind (arith, common_steps, append_assoc, drop-append_seam, rest_again (start + length p) ps begun)

-- a text with its ends is seen so
abbrev pub IsSeen : List ℕ → List ℕ → PiecesState → Type 0
IsSeen ends text state = (seen ends text ≡ state) × AreEnds ends text

is_seen : (ends text : List ℕ) (ps : List (List ℕ)) (begun : List ℕ) → ends ≡ ends_from 0 ps → text ≡ concat ps ++ begun → IsSeen ends text (record { pieces = ps; begun = begun })
is_seen ends text ps begun e t = search (rules, pieces_again, rest_again)

module _ (ends text : List ℕ) (h : AreEnds ends text) where
  abbrev ps : List (List ℕ)
  ps = pieces_from 0 ends text

  abbrev begun : List ℕ
  begun = rest_from 0 ends text

  parts : text ≡ concat (pieces_from 0 ends text) ++ rest_from 0 ends text
  parts = sym (whole 0 ends text)

  pub count_seen : length (pieces_from 0 ends text) ≡ length ends
  count_seen = sym (ap length h ∙ length-ends 0 (pieces_from 0 ends text))

  pub seen_pushed : (more : List ℕ) → IsSeen ends (text ++ more) (pushed (seen ends text) more)
  seen_pushed more = is_seen ends (text ++ more) ps (begun ++ more) h (ap (λ t. t ++ more) parts ∙ append_assoc (concat ps) begun more)

  pub seen_closed : (last : ℕ) → last ≡ length text → IsSeen (ends ++ last ∷ []) text (closed (seen ends text))
  seen_closed last is = grind (arith, common_steps, length-append (concat ps) begun, ends-append 0 ps (begun ∷ []), append-nil begun, append-nil (concat (ps ++ begun ∷ [])), concat-append ps (begun ∷ []), parts, is_seen)

  -- only the first pieces are left
  pub seen_cut : (count end : ℕ) → end ≡ unwrap_or (slice_get (take count ends) (length (take count ends) - 1)) 0 → IsSeen (take count ends) (take end text) (cut count (seen ends text))
  seen_cut count end is =
      let front = take count ps in
      let later = concat (drop count ps) ++ begun in
      let ends_are : take count ends ≡ ends_from 0 front = ap (take count) h ∙ ends-take count 0 ps in
      let at : end ≡ length (concat front) = is ∙ ap (λ es. unwrap_or (slice_get es (length es - 1)) 0) ends_are ∙ last_is front in
      let split : text ≡ concat front ++ later =
      parts ∙ ap (λ qs. concat qs ++ begun) (sym (take-append-drop count ps)) ∙ ap (λ t. t ++ begun) (concat-append front (drop count ps)) ∙ append_assoc (concat front) (concat (drop count ps)) begun in
      is_seen (take count ends) (take end text) front [] ends_are
      (ap (λ k. take k text) at ∙ ap (take (length (concat front))) split ∙ take-append_seam (concat front) later ∙ sym (append-nil (concat front)))
