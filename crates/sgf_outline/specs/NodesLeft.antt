-- What is left of a sequence whose nodes are gone over one after another.
use Rattle.std.specs.Prelude.{List}
use Rattle.sgf_outline.specs.Tree.{Property, Node}

-- the properties that are left of the node that was taken off last, and the nodes after it
pub record NodesLeft : Type 0 where
  pub properties : List Property
  pub nodes : List Node
