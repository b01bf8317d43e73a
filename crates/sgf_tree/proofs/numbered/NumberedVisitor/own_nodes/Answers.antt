use Rattle.sgf_tree.proofs.Common.{refl, on_ok_weaker, copied-as}
use Rattle.sgf_tree.proofs.KeptNodes.{nodes-opened}
use Rattle.sgf_tree.proofs.numbered.NumberedVisitor.own_nodes.Goals as goal

pub own_nodes-requires-clause-few : goal.own_nodes-requires-clause-few
own_nodes-requires-clause-few c =
    let (text, k, g, are, copied, few) = c.requires.few in
    (text, k, g, are, copied-as _ _ text c.args.own.first c.args.own.segment _ (λ told holds. holds.sequences) copied, few)

pub returns : goal.returns
returns c = record {
  kept = on_ok_weaker c.own_nodes.result
      (λ kept text k g are copied none.
      nodes-opened text c.args.self.now _ k g copied.told copied.kept none
      (kept text k g are (copied-as _ _ text c.args.own.first c.args.own.segment _ (λ told holds. holds.sequences) copied) none) refl c.in_ok-push.ensures.items)
      c.own_nodes.ensures.kept;
}
