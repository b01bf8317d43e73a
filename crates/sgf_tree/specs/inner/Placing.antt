-- How the places of all nodes are kept, and for each sequence the last node below it.
use Rattle.std.specs.Prelude.{◌≡◌, ℕ, List, ◌++◌, map}
use Rattle.sgf_outline.specs.FileOrder.{OrderedNode}
use Rattle.sgf_outline.specs.Machine.{Stack}
use Rattle.sgf_tree.specs.inner.GamesRead.{unclosed_nodes, unclosed_lasts}
use Rattle.sgf_outline.specs.OwnNodes.{Coming}
use Rattle.sgf_outline.specs.Outlining.{HoldsSequences}
use Rattle.sgf_tree.specs.declared.numbered.Numbered.{Numbered}

-- the places of ordered nodes
abbrev pub ordered_places : List OrderedNode → List ℕ
ordered_places nodes = map (λ (ordered : OrderedNode). ordered.node.place) nodes

-- what a reader keeps is right for the games of a stack, and for what has come of a further game
pub record HoldsNodes (text : List ℕ) (kept : Numbered) (stack : Stack) (coming : Coming) : Type 0 where
  pub sequences : HoldsSequences text kept.sequences stack coming
  pub places_are : kept.places.items ≡ ordered_places (unclosed_nodes stack.closed stack.unclosed) ++ coming.places
  pub lasts_are : kept.last_nodes.items ≡ unclosed_lasts stack.closed stack.unclosed
