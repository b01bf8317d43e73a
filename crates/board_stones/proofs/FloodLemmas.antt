-- Once no point of a flood waits, exactly what reaches the colour is marked.
use Rattle.board_stones.proofs.Common.{◌≡◌, ◌⊎◌, inl, inr, List, [], ◌∷◌, length, sym, ap, ◌∙◌, subst, arith, common_steps, IsTrue, Contains, Point, is_marked, IsOn, Searched, Finds, Cell, Grid, Leads, Reaches, ReachesThrough, IsUnderWay, AreAdjacent-sym}
use Rattle.std.proofs.Common.{◌++◌}
use Rattle.std.proofs.lemmas.List.Elements.{Contains-push_cases}
use Rattle.board_stones.proofs.ReachingLemmas.{Leads-on, step_kind, path_by_step}

-- a neighbour reaches the colour through a point that reaches it
reached_through : (g : Grid) (k : Cell) (p q : Point) → IsOn g.side p → IsOn g.side q → ReachesThrough g k p q → Reaches g k p → Reaches g k q
reached_through g k p q on at through way =
    path_by_step g k q p at (AreAdjacent-sym p q through.0) on (elim through.1 [ inl there ↦ inr there | inr same ↦ inl (sym same) ]) way

-- a point that waited is looked at
pub IsUnderWay-step : (g : Grid) (k : Cell) (s t u : Searched) (p : Point) → IsUnderWay g k s → IsOn g.side p → IsTrue (is_marked s.marking p) → s.waiting ≡ t.waiting ++ p ∷ [] → t.marking ≡ s.marking → Finds (ReachesThrough g k p) t u → IsUnderWay g k u
IsUnderWay-step g k s t u p way on marked cleared same finds = record {
  side = finds.side ∙ ap (λ m. m.side) same ∙ way.side;
  all = finds.all ∙ ap (λ m. length m.marks) same ∙ way.all;
  begun = λ q at there. kept q (way.begun q at there);
  reach = λ q at is. elim (only q at is) [ inl old ↦ way.reach q at old | inr new ↦ reached_through g k p q on at new.0 (way.reach p on marked) ];
  closed = λ a b at by is through.
      elim (only a at is) [
        | inl old ↦
            elim (way.closed a b at by old through) [
              | inl waits ↦
                  elim (Contains-push_cases t.waiting p a (subst (λ l. Contains l a) cleared waits)) [
                    | inl still ↦ inl (finds.waiting a still)
                    | inr it ↦ inr (finds.found b (on_t b by) (subst (λ x. ReachesThrough g k x b) (sym it) through))
                  ]
              | inr found ↦ inr (kept b found)
            ]
        | inr new ↦ inl new.1
      ];
}
  where
    on_t : (q : Point) → IsOn g.side q → IsOn t.marking.side q
    on_t q at = subst (λ n. IsOn n q) (sym (ap (λ m. m.side) same ∙ way.side)) at

    kept : (q : Point) → IsTrue (is_marked s.marking q) → IsTrue (is_marked u.marking q)
    kept q is = finds.kept q (subst (λ m. IsTrue (is_marked m q)) (sym same) is)

    only : (q : Point) → IsOn g.side q → IsTrue (is_marked u.marking q) → IsTrue (is_marked s.marking q) ⊎ (ReachesThrough g k p q × Contains u.waiting q)
    only q at is =
        elim (finds.only q (on_t q at) is) [ inl old ↦ inl (subst (λ m. IsTrue (is_marked m q)) same old) | inr new ↦ inr new ]

-- once no point waits, all that reaches the colour is found
pub complete : (g : Grid) (k : Cell) (s : Searched) → IsUnderWay g k s → s.waiting ≡ [] → (own : Cell) (p : Point) (path : List Point) → Leads g own k p path → IsTrue (is_marked s.marking p)
complete g k s way none own p [] leads = way.begun p leads.0 leads.1
complete g k s way none own p (q ∷ path) leads =
    let found = complete g k s way none own q path leads.3 in
    grind (arith, common_steps, AreAdjacent-sym, step_kind, Leads-on, way)
