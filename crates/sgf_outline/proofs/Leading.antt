-- A move and other properties after it.
use Rattle.sgf_outline.proofs.Common.{rules, ◌≡◌, ◌≢◌, ℕ, ◌+◌, ◌<◌, ◌≤◌, IsTrue, All, List, [], ◌∷◌, ◌++◌, length, get_or, drop, slice_range, sym, subst, arith, common_steps, All-nil, All-push, properties_in, IsValueEnd, IsValue, games_in, EndsNode, is_upper, no_white_space, no_letter, upper, prop_value, no_value, IsProperty, property, AreProperties, no_property, properties, Property, IsOtherProperty, AreOtherProperties, AreOthers, IsLedNode, IsEmptyNode, IsNodeEnd, node_in, nodes_between, IsTraversal, byte-at, properties-in, properties-more}
use Rattle.sgf_outline.specs.Lead.{IsOtherName, IsLedBy}
use Rattle.sgf_outline.proofs.LoneNodes.{lone, spelled, ends-node, nothing-skipped}
use Rattle.sgf_outline.proofs.Traversing.{past-node}

-- a name of two capitals, and a value
module _ (t : List ℕ) (start close : ℕ) (bracket : get_or t (start + 2) 0 ≡ 91) (value : IsValueEnd t (start + 3) close) where
  abbrev other : Property
  other = record { name = get_or t start 0 ∷ get_or t (start + 1) 0 ∷ []; first = slice_range t (start + 3) close; more = [] }

  other-spelled : IsTrue (is_upper (get_or t start 0)) → IsTrue (is_upper (get_or t (start + 1) 0)) → IsProperty other (drop start t) (drop (close + 1) t)
  other-spelled first second =
      let here : drop start t ≡ get_or t start 0 ∷ get_or t (start + 1) 0 ∷ 91 ∷ drop (start + 3) t = grind (arith, common_steps, byte-at) in
      let closed : drop close t ≡ 93 ∷ drop (close + 1) t = grind (arith, common_steps, byte-at) in
      subst (λ u. IsProperty other u (drop (close + 1) t)) (sym here)
      (property no_white_space first (upper second no_letter) (prop_value no_white_space (subst (IsValue (slice_range t (start + 3) close) (drop (start + 3) t)) closed value.spelled)) no_value)

  pub other-property : (names : List (List ℕ)) → IsTrue (is_upper (get_or t start 0)) → IsTrue (is_upper (get_or t (start + 1) 0))
      → All (λ known. get_or t start 0 ∷ get_or t (start + 1) 0 ∷ [] ≢ known) names → IsOtherProperty names t start (close + 1)
  other-property names first second none = search (rules, other-spelled)

-- such properties, one after another
module _ (names : List (List ℕ)) (t : List ℕ) where
  pub others_none : (at : ℕ) → at ≤ length t → AreOtherProperties names t at at
  others_none at le = record { within = le; properties = []; spelled = no_property; named = All-nil (λ (property : Property). IsOtherName names property.name) }

  pub others_more : (at mid end : ℕ) → AreOtherProperties names t at mid → IsOtherProperty names t mid end → AreOtherProperties names t at end
  others_more at mid end before one =
      record {
        within = one.within;
        properties = before.properties ++ one.property ∷ [];
        spelled = properties-more before.spelled one.spelled;
        named = All-push (λ (property : Property). IsOtherName names property.name) before.properties one.property before.named one.named;
      }

  -- the last one, right before the end of the node
  pub others_end : (at end : ℕ) → AreOtherProperties names t at end → EndsNode t end → AreOthers names t at end
  others_end at end all ends = grind (arith, common_steps, nothing-skipped)

  -- none after a move that is a node by itself
  pub others_nothing : EndsNode t 6 → AreOthers names t 6 6
  others_nothing ends = others_end 6 6 (others_none 6 (omega (arith, ends.within))) ends

-- the properties of the node
module _ (names : List (List ℕ)) (s : List ℕ) (next : ℕ) (is : IsLedNode names s next) where
  abbrev all : List Property
  all = lone s is.front ∷ is.others.properties.properties

  all-spelled : AreProperties all (drop 1 s) (drop is.others.end s)
  all-spelled = properties (spelled s is.front) is.others.properties.spelled

  pub led-properties : IsLedBy names (lone s is.front) (properties_in (drop 1 s))
  led-properties = search (rules, properties-in, all-spelled, ends-node)

-- a traversal goes on past it, and past a node without properties, in a text in which the node is at `at`
module _ (t : List ℕ) (at number end : ℕ) (w : IsTraversal t at number end) (more : number < end) where
  abbrev Passed : ℕ → Type 0
  Passed next =
      (nodes_between (games_in t) number end ≡ node_in t at ∷ nodes_between (games_in t) (number + 1) end) × IsTraversal t (at + next) (number + 1) end × (properties_in (drop (at + next) t) ≡ [])

  pub led-next : (names : List (List ℕ)) (next : ℕ) → IsLedNode names (drop at t) next → Passed next
  led-next names next is = past-node t at number end w more is.others.end next is.begins (all-spelled names (drop at t) next is) is.others.ends

  pub empty-next : IsEmptyNode (drop at t) → Passed 1 × (properties_in (drop 1 (drop at t)) ≡ [])
  empty-next is =
      let ended : IsNodeEnd (drop at t) 1 1 = record { white_space = nothing-skipped (drop at t) 1 is.ends.within is.ends.above; inside = is.ends.within; below = is.ends.below } in
      (past-node t at number end w more 1 1 is.begins no_property ended, properties-in no_property (ends-node (drop at t) 1 1 ended))
