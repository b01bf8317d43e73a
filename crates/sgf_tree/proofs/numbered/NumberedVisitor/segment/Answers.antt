use Rattle.std.proofs.lemmas.Result.{on_ok_weaker}
use Rattle.sgf_tree.proofs.numbered.NumberedVisitor.segment.Goals as goal

pub returns : goal.returns
returns c = record {
  kept = on_ok_weaker c.segment.result
      (λ kept text k coming holds within. record {
        sequences = kept text k coming holds.sequences within;
        places_are = holds.places_are;
        lasts_are = holds.lasts_are;
      })
      c.segment.ensures.kept;
}
