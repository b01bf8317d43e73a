-- The operations of the values so far were appended.
use Rattle.judged_lines.proofs.Common.{◌≡◌, ◌++◌, ℕ, List, map, Some, All, length, values, IsRectOn, SetupOp, operations}
use Rattle.judged_lines.proofs.judging.contents.push_rectangles.Given as goal

abbrev pub invariant-loop-raw : goal.invariant-loop-raw
invariant-loop-raw l =
    (front : List (List ℕ)) × (ops : List SetupOp) × (front ++ l.values ≡ values l.property)
    × (operations (map (λ raw. record { cell = l.cell; raw = raw }) front) l.size ≡ Some ops) × (l.operations.items ≡ l.fn.operations.items ++ ops)
    × (All (λ (op : SetupOp). IsRectOn l.size op.area) l.fn.operations.items → All (λ (op : SetupOp). IsRectOn l.size op.area) l.operations.items)

abbrev pub decreases-loop-raw : goal.decreases-loop-raw
decreases-loop-raw l = length l.values
