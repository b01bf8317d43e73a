use Rattle.board_past.proofs.Common.{◌≡◌, ◌∷◌, [], Bool, not, true, false, length, length-append, refl, sym, ap, arith, or_parts}
use Rattle.board_past.proofs.ChangesLemmas.{kept_none, kept_more, kept_same}
use Rattle.board_past.proofs.past.print_past.changes.keep_rows.Goals as goal
use Rattle.board_past.proofs.past.print_past.changes.keep_rows.Goals.{then-apart, else-apart}

is_same : (b : Bool) → not b ≡ false → b ≡ true
is_same true e = refl
is_same false e = sym e

pub loop-row-init : goal.loop-row-init
loop-row-init c = record { kept = kept_none c.args.old.now c.args.new.now c.args.all c.args.changes.now.items; room = omega (arith, c.requires.room) }

pub loop-row-preserved : goal.loop-row-preserved
loop-row-preserved c =
    let was = c.loop-row.invariant in
    elim c.if-apart.branch [
      | then-apart w ↦
          let adds = w.keep_row.ensures.row in
          rw w.changes-is (record {
            kept = kept_more was.kept adds;
            room = omega (arith, was.room, w.keep_row.ensures.room, ap length adds.added, length-append c.loop-row.changes.items (adds.change ∷ []));
          })
      | else-apart w ↦
          let parts = or_parts _ _ w.if-apart.false in
          rw w.changes-is (record {
            kept = kept_same was.kept parts.0 (c.has_same_row.ensures (is_same _ parts.1));
            room = omega (arith, was.room);
          })
    ]
