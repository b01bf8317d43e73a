-- How far a text was read: words of the contracts inside `reader`.
use Rattle.std.specs.Prelude.{◌≡◌, ℕ, List, take, Some}
use Rattle.sgf_outline.specs.Machine.{MachineState, start, run}
use Rattle.sgf_tree.specs.Refusal.{IsFaultyAt}
use Rattle.sgf_tree.specs.declared.fault.ReadFault.{ReadFault}
use Rattle.sgf_tree.specs.declared.fault.ReadFault.TheVariants.{TooLong, NotSgf, Memory}

-- after the first `at` bytes the machine has this state
abbrev pub ComesTo : List ℕ → ℕ → MachineState → Type 0
ComesTo text at state = run 0 start (take at text) ≡ Some state

-- the fault is the first one of the text, unless memory was refused; the text isn't too long
abbrev pub IsTrueFault : List ℕ → ReadFault → Type 0
IsTrueFault text TooLong = ⊥
IsTrueFault text (NotSgf at) = IsFaultyAt text at
IsTrueFault text Memory = Unit {0}
