-- What is kept of the line before a cursor: its judgement, and its legal nodes. How many nodes are played for it.
use Rattle.std.specs.Prelude.{◌≡◌, ℕ, ◌+◌, ◌-◌, ◌<◌, ◌≤◌, List, length, Result, OnOk}
use Rattle.sgf_outline.specs.Tree.{Node}
use Rattle.judged_lines.specs.JudgedGames.{GameKind, game_kind, root_properties}
use Rattle.judged_lines.specs.Verdict.{Verdict, judged_on, verdict_of}
use Rattle.judged_lines.specs.Walk.{LegalNode, legal_on}
use Rattle.judged_lines.specs.Judgement.{Judgement, judging}
use Rattle.tree_lines.specs.Following.{nodes_before}
use Rattle.tree_lines.specs.Sequences.{SequencesState}

-- in a game of this kind these nodes were judged, and the legal ones of them are held
pub record HasJudged (holds : GameKind → List LegalNode → Type 0) (kind : GameKind) (nodes : List Node) (judgement : Judgement) : Type 0 where
  pub judged : judgement ≡ judging kind nodes
  pub taken : holds kind (legal_on kind nodes)

-- the line before a cursor was judged
abbrev pub HoldsLine : (GameKind → List LegalNode → Type 0) → Judgement → SequencesState → Type 0
HoldsLine holds judgement cursor = HasJudged holds (game_kind (root_properties (nodes_before cursor.at))) (nodes_before cursor.at) judgement

-- and its verdict is held
pub record HoldsVerdict (holds : GameKind → List LegalNode → Type 0) (judgement : Judgement) (verdict : Verdict) (cursor : SequencesState) : Type 0 where
  pub some : 0 < length cursor.ends
  pub line : HoldsLine holds judgement cursor
  pub verdict_is : verdict ≡ verdict_of (nodes_before cursor.at)

-- how many nodes are judged of a line whose first `held` nodes are judged already
abbrev pub fresh_plays : List Node → ℕ → ℕ
fresh_plays nodes held = length (judged_on (game_kind (root_properties nodes)) nodes) - held

-- The plays rose from `old` to `new` by `count`. If memory was refused, they rose by at most `count`.
pub record PlaysUpTo {A E : Type 0} (old new count : ℕ) (result : Result A E) : Type 0 where
  pub not_fewer : old ≤ new
  pub not_more : new ≤ old + count
  pub each : OnOk result (new ≡ old + count)
