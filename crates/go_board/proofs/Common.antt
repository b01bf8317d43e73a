-- What the proofs of this crate import together: words of specs, types, and lemmas of the standard library.
pub use Rattle.std.proofs.lemmas.List.{get_or-reverse, length-reverse, reverse-append}
pub use Rattle.std.proofs.Common.{[], ap, arith, Bool, cond, Contains, Decides, Err, false, get_or, IsErrOf, IsTrue, length, length-append, List, None, Ok, OnErr, Option, refl, Result, reverse, rules, slice_index_or, Some, subst, suc, sym, true, ℕ, ◌++◌, ◌+◌, ◌-◌, ◌<◌, ◌↔◌, ◌∙◌, ◌∷◌, ◌≡◌, ◌≤◌}
pub use Rattle.std.proofs.lemmas.Grind.{common_steps}
pub use Rattle.std.proofs.lemmas.Bool.{false≢true}
pub use Rattle.std.specs.Int.{from_bool}
pub use Rattle.board_stones.proofs.RectangleLemmas.{side-with_rectangles}
pub use Rattle.board_stones.proofs.SettledLemmas.{side_play}
pub use Rattle.go_board.specs.declared.referee.Call.{Call}
pub use Rattle.board_stones.specs.declared.stones.Colour.{Colour}
pub use Rattle.board_stones.specs.Clearing.{play}
pub use Rattle.board_stones.specs.Grid.{empty_grid, Grid}
pub use Rattle.board_past.specs.Past.{AllHaveSide, HaveSide, Held, newest_grid, only, PastColourings, present_stretch, WasEmptied, with_next}
pub use Rattle.go_board.specs.declared.fault.TurnFault.TheVariants.{Illegal}
pub use Rattle.go_board.specs.declared.reason.Reason.{Reason}
pub use Rattle.go_board.specs.declared.reason.Reason.TheVariants.{BadPoint, BadSetup, Mixed, Occupied, Over, Repeat, Turn, TwoMoves}
pub use Rattle.go_board.specs.declared.referee.Earlier.{Earlier}
pub use Rattle.go_board.specs.declared.referee.plays.Play.TheVariants.{Stone}
pub use Rattle.go_board.specs.Reason.{Forbids, is_occupied, is_repeat, IsFirstReason, must_move, rank_of, reason_of, same_grid}
pub use Rattle.go_board.specs.State.{begun, followed_by, HadSameBoardSince, is_over, set_up, State, States}
pub use Rattle.go_board.specs.inner.Earlier.{grew, IsRefereeKept, MayOnlyRepeat, past_before, past_of_older, state_of, states_before, states_of, turn_count, turned, turns_before}
