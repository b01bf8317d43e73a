-- Going over the nodes of a sequence on the text.
use Rattle.std.specs.Prelude.{ℕ, ◌-◌, ◌≤◌, List, drop, length}
use Rattle.std.specs.List.{range_with_len}
use Rattle.sgf_outline.specs.Tree.{Node, Games, node_count}
use Rattle.sgf_outline.specs.Spelling.{is_white_space, AreNodes}
use Rattle.sgf_outline.specs.FileOrder.{nodes_at}
use Rattle.sgf_outline.specs.Machine.{games_in}
use Rattle.sgf_properties.specs.Front.{NoPropertyFollows, ArePropertiesIn}
use Rattle.sgf_properties.specs.Offsets.{IsSpan}

-- the nodes from one number on and before another
abbrev pub nodes_between : Games → ℕ → ℕ → List Node
nodes_between games number end = nodes_at games (range_with_len number (end - number))

-- What is left of a sequence stands at the front: some properties, if there are any, and then these nodes, up to the end of the sequence. The whole
-- text has `whole` bytes.
pub record IsRest (whole : ℕ) (nodes : List Node) (text : List ℕ) : Type 0 where
  pub held : ArePropertiesIn text
  pub past : List ℕ
  pub further : AreNodes whole nodes held.rest past
  pub ends : NoPropertyFollows past

-- Some of the last nodes of a sequence of the text are left, from this number on. Before them come the properties at `at`, if there are any.
pub record IsTraversal (text : List ℕ) (at number end : ℕ) : Type 0 where
  pub rises : number ≤ end
  pub within : end ≤ node_count (games_in text)
  pub stands : IsSpan is_white_space text at at
  pub left : IsRest (length text) (nodes_between (games_in text) number end) (drop at text)
