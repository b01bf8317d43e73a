-- The answer is only there for speed.
use Rattle.sgf_tree.proofs.Common.{[], ◌∷◌, ◌++◌, ap, ◌∙◌, append_assoc, rules, unclosed_nodes, ordered_places}
use Rattle.sgf_tree.proofs.numbered.NumberedVisitor.node.Goals as goal

pub returns : goal.returns
returns c = record {
  kept = λ text k coming holds within. record {
    sequences = search rules;
    places_are =
        c.in_ok-push.ensures.items ∙ ap (λ places. places ++ c.args.place ∷ []) holds.places_are
        ∙ append_assoc (ordered_places (unclosed_nodes k.closed k.unclosed)) coming.places (c.args.place ∷ []);
    lasts_are = holds.lasts_are;
  };
}
