-- How the properties of a node are read, one after another.
use Rattle.sgf_tree.proofs.Common.{◌≡◌, ℕ, ◌+◌, ◌<◌, false, IsTrue, List, [], ◌∷◌, length, get_or, Some, None, Started, MachineState, in_name, after_node, ended, next_state, accepted, is_white_space, is_upper, ComesTo, StandsAfterNode}
use Rattle.sgf_tree.proofs.Run.{run-take-step}

module _ (t : List ℕ) where
  -- the machine stands in a node that is `whole` so far, and not before white space: an upper-case letter begins the next property, another byte ends the node
  pub record StandsInNode (at : ℕ) (whole : Started) : Type 0 where
    pub state : MachineState
    pub reached : ComesTo t at state
    pub name : (b : ℕ) → IsTrue (is_upper b) → next_state at state b ≡ Some (in_name whole (b ∷ []))
    pub next : at < length t → is_white_space (get_or t at 0) ≡ false → is_upper (get_or t at 0) ≡ false → next_state at state (get_or t at 0) ≡ after_node at (ended whole) (get_or t at 0)
    pub unaccepted : accepted state ≡ None

  pub node-done : (at : ℕ) (whole : Started) → StandsInNode at whole → (at < length t → is_white_space (get_or t at 0) ≡ false) → (at < length t → is_upper (get_or t at 0) ≡ false) → StandsAfterNode t at whole
  node-done at whole stands white upper = record { state = stands.state; reached = stands.reached; next = λ lt. stands.next lt (white lt) (upper lt); unaccepted = stands.unaccepted }

  pub node-name : (at : ℕ) (whole : Started) → StandsInNode at whole → at < length t → IsTrue (is_upper (get_or t at 0)) → ComesTo t (at + 1) (in_name whole (get_or t at 0 ∷ []))
  node-name at whole stands lt capital = run-take-step t at stands.state (in_name whole (get_or t at 0 ∷ [])) stands.reached lt (stands.name (get_or t at 0) capital)
