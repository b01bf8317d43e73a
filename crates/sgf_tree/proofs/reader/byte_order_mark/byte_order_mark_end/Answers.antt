use Rattle.std.proofs.Common.{rules}
use Rattle.sgf_tree.proofs.ByteOrderMark.{first_faulty}
use Rattle.sgf_tree.proofs.reader.byte_order_mark.byte_order_mark_end.Goals as goal
use Rattle.sgf_tree.proofs.reader.byte_order_mark.byte_order_mark_end.Goals.{then-text-lt2-via-then-text-lt2, then-text-lt2-via-else-text-lt2+then-text-2}

pub returns-then-text-lt2-clause-fault : goal.returns-then-text-lt2-clause-fault
returns-then-text-lt2-clause-fault c = search (rules, first_faulty, then-text-lt2-via-then-text-lt2, then-text-lt2-via-else-text-lt2+then-text-2)
