-- The last node below each node, in file order.
use Rattle.sgf_tree.proofs.Common.{common_steps, ◌≡◌, ℕ, zero, suc, ◌+◌, ◌-◌, ◌<◌, ◌≤◌, ◌⊎◌, inl, inr, true, false, All, List, [], ◌∷◌, ◌++◌, length, get_or, slice_get, Option, Some, None, refl, sym, ap, subst, ◌∙◌, arith, length-append, cases_lt, get_or_append_left, get_or-append_right, All-nil, All-cons, All-append, slice_get-get_or, OrderedNode, further_nodes, nodes_from, ordered_nodes, IsAtOrBelow, itself, below, IsLastBelow, Node, Games, no_games, game, node_count, lasts, parent_in, parent_in-within, parent_in-left, parent_in-right, parent_in-further, length-further_nodes, length-nodes_from, parent-within, parent_at-lt, starts_from, first-start}
use Rattle.sgf_outline.proofs.Lists.{slice_get-left, slice_get-right, get_or-joined}
use Rattle.sgf_tree.proofs.Stacks.{length-lasts}

-- each node of games below p has a parent
abbrev HasParent : OrderedNode → Type 0
HasParent r = (q : ℕ) × (r.parent ≡ Some q)

further-parents : (last : ℕ) (ns : List Node) → All HasParent (further_nodes last ns)
further-parents last [] = All-nil HasParent
further-parents last (n ∷ ns) = All-cons HasParent (record { node = n; parent = Some last; opens = false }) (further_nodes (last + 1) ns) (last, refl) (further-parents (last + 1) ns)

parents : (at p : ℕ) (g : Games) → All HasParent (nodes_from at (Some p) g)
parents at p no_games = All-nil HasParent
parents at p (game first more low high) =
    let last : ℕ = at + length more in
    let under : List OrderedNode = nodes_from (last + 1) (Some last) low in
    let next : List OrderedNode = nodes_from (last + 1 + node_count low) (Some p) high in
    All-cons HasParent (record { node = first; parent = Some p; opens = true }) ((further_nodes at more ++ under) ++ next) (p, refl)
    (All-append HasParent (further_nodes at more ++ under) next (All-append HasParent (further_nodes at more) under (further-parents at more) (parents (last + 1) last low)) (parents (last + 1 + node_count low) p high))

-- and it is p or one of these nodes
has-parent : (at p : ℕ) (g : Games) (k : ℕ) → p < at → k < node_count g → (q : ℕ) × (parent_in (nodes_from at (Some p) g) k ≡ Some (Some q)) × (p ≤ q) × (q < at + k)
has-parent at p g k lt within =
    let rs : List OrderedNode = nodes_from at (Some p) g in
    let some : OrderedNode = record { node = record { place = 0; properties = [] }; parent = None; opens = true } in
    let inside : k < length rs = omega (arith, length-nodes_from at (Some p) g) in
    let (q, is) = parents at p g k some inside in
    let h : parent_in rs k ≡ Some (Some q) = rw (slice_get-get_or rs k some inside) (ap Some is) in
    elim (parent-within at (Some p) g k q h) [ inl same ↦ let e : p ≡ q = cc in (q, h, omega arith, omega arith) | inr w ↦ (q, h, omega (arith, w.from), w.before) ]

-- The nodes from n to last: each but n has its parent among them, and no later node has. The first node of the list has the number `at`.
record IsSpanBelow (at : ℕ) (rs : List OrderedNode) (n last : ℕ) : Type 0 where
  pub from : at ≤ n
  pub rises : n ≤ last
  pub within : last < at + length rs
  pub inside : (j : ℕ) → n < at + j → at + j ≤ last → (q : ℕ) × (parent_in rs j ≡ Some (Some q)) × (n ≤ q) × (q < at + j)
  pub outside : (j q : ℕ) → last < at + j → parent_in rs j ≡ Some (Some q) → (q < n) ⊎ (last < q)

-- the same in a longer list, if no node of its second part is below one of the first
span-left : (at : ℕ) (xs ys : List OrderedNode) (n last : ℕ) → ((j q : ℕ) → parent_in ys j ≡ Some (Some q) → (q < at) ⊎ (at + length xs ≤ q)) → IsSpanBelow at xs n last → IsSpanBelow at (xs ++ ys) n last
span-left at xs ys n last apart w = record {
  from = w.from;
  rises = w.rises;
  within = omega (arith, w.within, length-append xs ys);
  inside = λ j lo hi. rw (parent_in-left xs ys j (omega (arith, w.within))) (w.inside j lo hi);
  outside = λ j q lo h. elim (cases_lt j (length xs)) [
    | inl lt ↦ w.outside j q lo (sym (parent_in-left xs ys j lt) ∙ h)
    | inr le ↦
        elim (apart (j - length xs) q (sym (parent_in-right xs ys j (j - length xs) (omega arith)) ∙ h)) [
          | inl low ↦ inl (omega (arith, w.from))
          | inr high ↦ inr (omega (arith, w.within))
        ]
  ];
}

span-right : (at start : ℕ) (xs ys : List OrderedNode) (n last : ℕ) → start ≡ at + length xs → IsSpanBelow start ys n last → IsSpanBelow at (xs ++ ys) n last
span-right at start xs ys n last e w = record {
  from = omega (arith, w.from);
  rises = w.rises;
  within = omega (arith, w.within, length-append xs ys);
  inside = λ j lo hi.
      let there = w.inside (j - length xs) (omega (arith, w.from)) (omega (arith, w.from)) in
      (there.0, parent_in-right xs ys j (j - length xs) (omega (arith, w.from)) ∙ there.1, there.2, omega (arith, there.3, w.from));
  outside = λ j q lo h. w.outside (j - length xs) q (omega (arith, w.from, w.rises)) (sym (parent_in-right xs ys j (j - length xs) (omega (arith, w.from, w.rises))) ∙ h);
}

-- the numbers `starts` begin sequences, and the `lasts` are the last nodes below their nodes
module _ (at : ℕ) (rs : List OrderedNode) where
  abbrev AreLast : List ℕ → List ℕ → ℕ → Type 0
  AreLast starts lasts end = (k l n : ℕ) → get_or starts k 0 ≤ n → n < get_or starts (k + 1) end → slice_get lasts k ≡ Some l → IsSpanBelow at rs n l

  last-cons : (s l : ℕ) (starts lasts : List ℕ) (end : ℕ) → ((n : ℕ) → s ≤ n → n < get_or starts 0 end → IsSpanBelow at rs n l) → AreLast starts lasts end → AreLast (s ∷ starts) (l ∷ lasts) end
  last-cons s l starts lasts end first more zero m n from to h = let same : l ≡ m = cc in subst (IsSpanBelow at rs n) same (first n from to)
  last-cons s l starts lasts end first more (suc k) m n from to h =
      let e : suc k + 1 ≡ suc (k + 1) = omega arith in more k m n from (subst (λ i. n < get_or (s ∷ starts) i end) e to) h

  last-append : (ss us ls ms : List ℕ) (mid end : ℕ) → length ls ≡ length ss → get_or us 0 end ≡ mid → AreLast ss ls mid → AreLast us ms end → AreLast (ss ++ us) (ls ++ ms) end
  last-append ss us ls ms mid end count first one two k l n from to h =
      elim (cases_lt k (length ss)) [
        | inl lt ↦
            one k l n (omega (arith, from, get_or_append_left ss us 0 k lt)) (omega (arith, to, get_or-joined ss us (k + 1) end mid (omega arith) first)) (sym (slice_get-left ls ms k (omega arith)) ∙ h)
        | inr le ↦
            let j : ℕ = k - length ss in
            let e : k + 1 - length ss ≡ j + 1 = omega arith in
            two j l n (omega (arith, from, get_or-append_right ss us (length ss) k 0 refl le)) (omega (arith, to, get_or-append_right ss us (length ss) (k + 1) end refl (omega arith), ap (λ i. get_or us i end) e))
            (sym (slice_get-right ls ms k j (omega arith)) ∙ h)
      ]

module _ (at : ℕ) (p : Option ℕ) (first : Node) (more : List Node) (low high : Games) (before : (q : ℕ) → p ≡ Some q → q < at) where
  abbrev last_own : ℕ
  last_own = at + length more

  abbrev own : List OrderedNode
  own = record { node = first; parent = p; opens = true } ∷ further_nodes at more

  abbrev under : List OrderedNode
  under = nodes_from (last_own + 1) (Some last_own) low

  abbrev next : List OrderedNode
  next = nodes_from (last_own + 1 + node_count low) p high

  owns : length own ≡ suc (length more)
  owns = ap suc (length-further_nodes at more)

  boths : length (own ++ under) ≡ suc (length more) + node_count low
  boths = omega (arith, length-append own under, owns, length-nodes_from (last_own + 1) (Some last_own) low)

  -- no node after the game is below one of its nodes
  apart : (j q : ℕ) → parent_in next j ≡ Some (Some q) → (q < at) ⊎ (at + length (own ++ under) ≤ q)
  apart j q h =
      elim (parent-within (last_own + 1 + node_count low) p high j q h) [ inl same ↦ inl (before q same) | inr w ↦ inr (omega (arith, boths, w.from)) ]

  -- an own node of the game
  own-span : (n : ℕ) → at ≤ n → n ≤ last_own → IsSpanBelow at (own ++ under) n (last_own + node_count low)
  own-span n from to = record {
    from = from;
    rises = omega arith;
    within = omega (arith, boths);
    inside = λ j lo hi.
        elim (cases_lt j (length own)) [
          | inl in_own ↦
              let i : ℕ = j - 1 in
              let e : j ≡ suc i = omega arith in
              (at + i, parent_in-left own under j in_own ∙ ap (parent_in own) e ∙ parent_in-further at more i (omega (arith, owns)), omega arith, omega arith)
          | inr past ↦
              let there = has-parent (last_own + 1) last_own low (j - length own) (omega arith) (omega (arith, owns)) in
              (there.0, parent_in-right own under j (j - length own) (omega arith) ∙ there.1, omega (arith, there.2), omega (arith, there.3, owns))
        ];
    outside = λ j q lo h. absurd (omega (arith, boths, parent_in-within (own ++ under) j (Some q) h));
  }

-- the last one below each node of a sequence
lasts-are : (at : ℕ) (p : Option ℕ) (g : Games) → ((q : ℕ) → p ≡ Some q → q < at) → AreLast at (nodes_from at p g) (starts_from at g) (lasts at g) (at + node_count g)
lasts-are at p no_games before = λ k l n from to h. absurd (cc)
lasts-are at p (game first more low high) before =
    let last : ℕ = at + length more in
    let start : ℕ = last + 1 + node_count low in
    let xs : List OrderedNode = own at p first more low high before ++ under at p first more low high before in
    let ys : List OrderedNode = next at p first more low high before in
    let e : at + 1 + length more ≡ last + 1 = omega arith in
    let end : start + node_count high ≡ at + node_count (game first more low high) = omega arith in
    let both = boths at p first more low high before in
    let left = λ (n l : ℕ). span-left at xs ys n l (apart at p first more low high before) in
    let begins : get_or (starts_from start high) 0 (start + node_count high) ≡ start = first-start start (start + node_count high) high refl in
    subst (λ i. AreLast at (xs ++ ys) (at ∷ (starts_from (last + 1) low ++ starts_from start high)) ((last + node_count low) ∷ (lasts i low ++ lasts (i + node_count low) high)) (at + node_count (game first more low high))) (sym e)
    (subst (AreLast at (xs ++ ys) (at ∷ (starts_from (last + 1) low ++ starts_from start high)) ((last + node_count low) ∷ (lasts (last + 1) low ++ lasts start high))) end
    (last-cons at (xs ++ ys) at (last + node_count low) (starts_from (last + 1) low ++ starts_from start high) (lasts (last + 1) low ++ lasts start high) (start + node_count high)
    (λ n from to. left n (last + node_count low) (own-span at p first more low high before n from
    (omega (arith, to, get_or-joined (starts_from (last + 1) low) (starts_from start high) 0 (start + node_count high) start (omega arith) begins, first-start (last + 1) start low refl))))
    (last-append at (xs ++ ys) (starts_from (last + 1) low) (starts_from start high) (lasts (last + 1) low) (lasts start high) start (start + node_count high) (length-lasts (last + 1) (last + 1) low) begins
    (λ k l n from to h. left n l (span-right at (last + 1) (own at p first more low high before) (under at p first more low high before) n l (omega (arith, owns at p first more low high before))
    (lasts-are (last + 1) (Some last) low (λ q same. let is : last ≡ q = cc in omega arith) k l n from to h)))
    (λ k l n from to h. span-right at start xs ys n l (omega (arith, both)) (lasts-are start p high (λ q same. omega (arith, before q same)) k l n from to h)))))

module _ (c : Games) (n last : ℕ) (span : IsSpanBelow 0 (ordered_nodes c) n last) where
  -- the nodes of a span are under the first one
  span-under : (steps j : ℕ) → j ≤ n + steps → n ≤ j → j ≤ last → IsAtOrBelow c n j
  span-under zero j few lo hi = let same : n ≡ j = omega arith in subst (IsAtOrBelow c n) same itself
  span-under (suc steps) j few lo hi =
      elim (cases_lt n j) [
        | inl lt ↦
            let up = span.inside j (omega arith) (omega arith) in
            below up.1 (span-under steps up.0 (omega (arith, up.3)) up.2 (omega (arith, up.3)))
        | inr le ↦ let same : n ≡ j = omega arith in subst (IsAtOrBelow c n) same itself
      ]

  -- and no others are
  span-greatest : (j : ℕ) → IsAtOrBelow c n j → (n ≤ j) × (j ≤ last)
  span-greatest j itself = (omega arith, span.rises)
  span-greatest j (below {parent = q} h under) =
      let up = span-greatest q under in grind (arith, common_steps, cases_lt last j, span.outside j q, parent_at-lt c j q h)

pub lasts-below : (c : Games) (k l n : ℕ) → get_or (starts_from 0 c) k 0 ≤ n → n < get_or (starts_from 0 c) (k + 1) (node_count c) → slice_get (lasts 0 c) k ≡ Some l → IsLastBelow c n l
lasts-below c k l n from to h =
    let span = lasts-are 0 None c (λ q same. absurd (cc)) k l n from (subst (λ e. n < get_or (starts_from 0 c) (k + 1) e) (omega arith) to) h in
    record {
      under = span-under c n l span (l - n) l (omega (arith, span.rises)) span.rises (omega arith);
      greatest = λ j under. (span-greatest c n l span j under).1;
    }
