-- The machine refuses a byte exactly where a text stops being the front of a text of the grammar.
use Rattle.sgf_tree.proofs.Common.{◌≡◌, ℕ, ◌+◌, ◌<◌, ◌≤◌, List, ◌++◌, length, get_or, take, Some, None, option_and_then, ap, sym, ◌∙◌, ⊎_elim, arith, take-take, take_all, cases_lt, common_steps, none-some, option_and_then_some, MachineState, start, next_state, run, accepted, collection_of, Spells, Games}
use Rattle.sgf_tree.specs.FirstFault.{BeginsCollection, IsFirstFault}
use Rattle.sgf_tree.proofs.Run.{run-append, run-through, run-front, run-take-more, refused-front, collection-run}
use Rattle.sgf_tree.proofs.AcceptedSpelled.{accepted-spelled}
use Rattle.sgf_tree.proofs.Completable.{reached, complete}
use Rattle.sgf_tree.proofs.SpelledAccepted.{spelled-accepted}

-- a text that spells a collection is taken to a state
pub spelled-runs : (c : Games) (t : List ℕ) → Spells c t → (z : MachineState) × (run 0 start t ≡ Some z)
unfolding collection_of
spelled-runs c t h = grind (arith, common_steps, option_and_then_some, spelled-accepted)

-- so is each front of one
pub begins-runs : (t : List ℕ) → BeginsCollection t → (z : MachineState) × (run 0 start t ≡ Some z)
begins-runs t (more, c, all, h) = grind (arith, common_steps, spelled-runs, option_and_then_some, run-append)

-- a text that is taken to a state is such a front
pub runs-begins : (t : List ℕ) (z : MachineState) → run 0 start t ≡ Some z → BeginsCollection t
unfolding collection_of
runs-begins t z h =
    let (more, all, k) = complete z (reached 0 start z t h tt) in
    let (c, f) = k (0 + length t) in (more, c, all, accepted-spelled c (t ++ more) (ap (option_and_then accepted) (run-through 0 start z t more h) ∙ f))

-- a front that is refused begins no text, nor does a longer one
begins-below : (t : List ℕ) (at : ℕ) → run 0 start (take (at + 1) t) ≡ None → (n : ℕ) → BeginsCollection (take n t) → n ≤ at
begins-below t at h n b =
    let (z, e) = begins-runs (take n t) b in
    let (y, f) = run-front (at + 1) (take n t) z e in
    grind (arith, common_steps, cases_lt at n, none-some, take-take (at + 1) n t)

pub refused-fault : (t : List ℕ) (at : ℕ) (z : MachineState) → at < length t → run 0 start (take at t) ≡ Some z
    → next_state at z (get_or t at 0) ≡ None → IsFirstFault t at × ((c : Games) → Spells c t → ⊥)
unfolding collection_of
refused-fault t at z lt h s =
    let r : run 0 start (take (at + 1) t) ≡ None = run-take-more t at z lt h ∙ s in grind (arith, common_steps, run-take-more, runs-begins, begins-below, none-some, refused-front, spelled-accepted)

pub ended-fault : (t : List ℕ) (z : MachineState) → run 0 start t ≡ Some z → accepted z ≡ None
    → IsFirstFault t (length t) × ((c : Games) → Spells c t → ⊥)
ended-fault t z h a = grind (arith, common_steps, take_all, runs-begins, none-some, collection-run, spelled-accepted)
