-- What a failure to read says of the text.
use Rattle.std.specs.Prelude.{ℕ, List}
use Rattle.sgf_outline.specs.Tree.{Games}
use Rattle.sgf_outline.specs.Spelling.{Spells}
use Rattle.sgf_tree.specs.FirstFault.{IsFirstFault}
use Rattle.sgf_tree.specs.declared.fault.ReadFault.{ReadFault}
use Rattle.sgf_tree.specs.declared.fault.ReadFault.TheVariants.{TooLong, NotSgf, Memory}

-- the text spells no collection, and its first fault is at the offset `at`
pub record IsFaultyAt (text : List ℕ) (at : ℕ) : Type 0 where
  pub unspelled : (games : Games) → ¬ Spells games text
  pub first_fault : IsFirstFault text at

-- if the fault is NotSgf, the text is faulty at the offset of the fault
abbrev pub IsFaultyWhereNotSgf : List ℕ → ReadFault → Type 0
IsFaultyWhereNotSgf text TooLong = Unit {0}
IsFaultyWhereNotSgf text (NotSgf at) = IsFaultyAt text at
IsFaultyWhereNotSgf text Memory = Unit {0}
