-- All nodes stand before the end of the last sequence.
use Rattle.sgf_outline.proofs.Common.{◌+◌, ◌-◌, ◌/◌, arith, rules, get_or_default, get_or_past, node_count, sequence_starts}
use Rattle.sgf_outline.proofs.Outlined.{starts-first}
use Rattle.sgf_outline.proofs.outline.Outline.sequence_of.Goals as goal

pub halves-init : goal.halves-init
halves-init c =
    let first = starts-first c.args.self.now c.args.number c.requires in
    search (rules, starts-first, get_or_past)

pub halves-preserved : goal.halves-preserved
halves-preserved c =
    let middle = c.halves.low + (c.halves.high - c.halves.low) / 2 in
    let end = get_or_default (sequence_starts c.args.self.now) middle (node_count c.args.self.now) 0 (omega arith) in
    record { order = omega arith; within = omega arith; start = c.halves.invariant.start; end = omega (arith, end) }
