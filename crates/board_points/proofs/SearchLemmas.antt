-- What a search keeps as points are found.
use Rattle.board_points.proofs.Common.{◌≡◌, ◌⊎◌, inl, inr, ℕ, zero, suc, ◌+◌, ◌*◌, ◌<◌, ◌≤◌, Bool, true, false, List, [], ◌∷◌, length, get_or, take, set, refl, sym, ap, ◌∙◌, subst, arith, IsTrue, get_or-set_same, length-set, common_steps, length_push, take_more_set, Contains-append_left, Contains-push, sum_by-set, count_by-le-length, Point, Marking, is_marked, marked_count, with_mark, IsOn, index_of, Searched, IsSound, Finds, ◌++◌, length-take-le}
use Rattle.board_points.proofs.PointLemmas.{index_below, index_of-injective}

-- points found after others
pub Finds-then : (A B C : Point → Type 0) (s t u : Searched) → Finds A s t → Finds B t u → ((p : Point) → IsOn s.marking.side p → C p → A p ⊎ B p) → ((p : Point) → IsOn s.marking.side p → A p ⊎ B p → C p) → Finds C s u
Finds-then A B C s t u first next parts both = grind (arith, common_steps)

-- the same points found, as another set
pub Finds-same : (A B : Point → Type 0) (s t : Searched) → ((p : Point) → IsOn s.marking.side p → A p → B p) → ((p : Point) → IsOn s.marking.side p → B p → A p) → Finds A s t → Finds B s t
Finds-same A B s t to from finds = grind (arith, common_steps)

-- a mark that is set stays so
set_keeps : (xs : List Bool) (i j : ℕ) → get_or xs j false ≡ true → get_or (set xs i true) j false ≡ true
set_keeps [] i j h = h
set_keeps (x ∷ xs) zero zero h = refl
set_keeps (x ∷ xs) zero (suc j) h = h
set_keeps (x ∷ xs) (suc i) zero h = h
set_keeps (x ∷ xs) (suc i) (suc j) h = set_keeps xs i j h

-- a mark that was not there is the one that was set
set_only : (xs : List Bool) (i j : ℕ) → get_or (set xs i true) j false ≡ true → (j ≡ i) ⊎ (get_or xs j false ≡ true)
set_only [] i j h = inr h
set_only (x ∷ xs) zero zero h = inl refl
set_only (x ∷ xs) zero (suc j) h = inr h
set_only (x ∷ xs) (suc i) zero h = inr h
set_only (x ∷ xs) (suc i) (suc j) h = elim (set_only xs i j h) [ inl e ↦ inl (ap suc e) | inr before ↦ inr before ]

-- a point that isn't marked is found
module _ (s : Searched) (p : Point) (sound : IsSound s) (on : IsOn s.marking.side p) (not_yet : is_marked s.marking p ≡ false) where
  abbrev next : Searched
  next = record { marking = with_mark s.marking p; waiting = s.waiting ++ p ∷ [] }

  below : index_of s.marking.side p < length s.marking.marks
  below = rw sound.all (index_below s.marking.side p on)

  marked : IsTrue (is_marked next.marking p)
  marked = get_or-set_same s.marking.marks (index_of s.marking.side p) true false below

  counted : marked_count next.marking ≡ marked_count s.marking + 1
  counted = grind (arith, common_steps, below, sum_by-set)

  pub IsSound-next : IsSound next
  IsSound-next = grind (arith, common_steps, counted, length-set, length_push, marked, set_keeps)

  pub Finds-next : (wanted : Bool) → IsTrue wanted → Finds (λ q. IsTrue wanted × (q ≡ p)) s next
  Finds-next wanted is = record {
    side = refl;
    all = length-set s.marking.marks (index_of s.marking.side p) true;
    kept = λ q h. set_keeps s.marking.marks _ _ h;
    found = λ q at h. rw h.1 marked;
    only = λ q at h.
        elim (set_only s.marking.marks _ _ h) [
          | inl same ↦ let it : q ≡ p = index_of-injective s.marking.side q p at on same in
              inr ((is, it), rw it (Contains-push s.waiting p))
          | inr before ↦ inl before
        ];
    waiting = λ q h. Contains-append_left s.waiting (p ∷ []) q h;
    counted = omega (arith, counted, length_push s.waiting p);
  }

  -- fewer wait than the grid has points
  pub room : length s.waiting < s.marking.side * s.marking.side
  room = grind (arith, common_steps, count_by-le-length, counted, length-set)

-- the search that the front of an array holds
abbrev pub held : Marking → List Point → ℕ → Searched
held m ps n = record { marking = m; waiting = take n ps }

-- a point is found that wasn't: what holds of the array
pub record IsOffered (marks : Marking) (ps : List Point) (n : ℕ) (p : Point) (s : Searched) : Type 0 where
  pub place : n < length ps
  pub sound : IsSound (held marks (set ps n p) (n + 1))
  pub finds : (wanted : Bool) → IsTrue wanted → Finds (λ q. IsTrue wanted × (q ≡ p)) s (held marks (set ps n p) (n + 1))

pub offered : (m marks : Marking) (ps : List Point) (n : ℕ) (s : Searched) (p : Point) → held m ps n ≡ s → m.side * m.side ≤ length ps → n ≤ length ps → IsSound (held m ps n) → IsOn s.marking.side p → is_marked m p ≡ false → marks ≡ with_mark m p → IsOffered marks ps n p s
offered m marks ps n s p is fits within sound on not_yet marked =
    let old = held m ps n in
    let on_m : IsOn m.side p = subst (λ x. IsOn x.marking.side p) (sym is) on in
    let place : n < length ps = omega (arith, room old p sound on_m not_yet, length-take-le n ps within) in
    let new : record { marking = with_mark m p; waiting = take n ps ++ p ∷ [] } ≡ held marks (set ps n p) (n + 1) =
    ap (λ x. record { marking = x; waiting = take n ps ++ p ∷ [] }) (sym marked) ∙ ap (λ l. record { marking = marks; waiting = l }) (sym (take_more_set ps n p place)) in
    subst (λ x. IsOffered marks ps n p x) is
    (record {
      place = place;
      sound = subst IsSound new (IsSound-next old p sound on_m not_yet);
      finds = λ wanted w. subst (λ x. Finds (λ q. IsTrue wanted × (q ≡ p)) old x) new (Finds-next old p sound on_m not_yet wanted w);
    })
