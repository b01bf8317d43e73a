-- The pieces of the nodes that are held are left.
use Rattle.sgf_lines.proofs.Common.{◌≡◌, ℕ, List, take, ap, ◌∙◌, rules, GameKind, LegalNode, ScriptState, script_back, script_of}
use Rattle.sgf_lines.proofs.Scripts.{script_cut}
use Rattle.sgf_lines.proofs.form.script.ScriptStepKeeper.keep.Goals as goal

cut_back : (old new : ScriptState) (held : ℕ) (kind : GameKind) (taken : List LegalNode) → old ≡ script_of kind taken → new ≡ script_back held old → new ≡ script_of kind (take held taken)
cut_back old new held kind taken is back = back ∙ ap (script_back held) is ∙ script_cut kind taken held

pub returns-then-held-gt0-clause-kept : goal.returns-then-held-gt0-clause-kept
returns-then-held-gt0-clause-kept c = λ some kind taken is. cut_back c.args.self.now _ c.args.held kind taken is (search rules)
