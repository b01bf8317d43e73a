-- A move and other properties after it, as they stand in a text: words of the contracts in `quick::lead`.
use Rattle.std.specs.Prelude.{◌≡◌, ℕ, ◌<◌, ◌≤◌, List, drop, All, length, slice_index}
use Rattle.sgf_properties.specs.Bytes.{semicolon, capital_a}
use Rattle.sgf_outline.specs.Tree.{Property}
use Rattle.sgf_outline.specs.Lead.{IsOtherName}
use Rattle.sgf_outline.specs.Spelling.{is_white_space, IsProperty, AreProperties}
use Rattle.sgf_properties.specs.Offsets.{IsSpan, IsPropertyEnd}
use Rattle.sgf_outline.specs.Move.{IsMove, EndsNode}

-- after any white space at `at` comes, at `next`, a byte that is less than every letter and bracket
pub record IsNodeEnd (text : List ℕ) (at next : ℕ) : Type 0 where
  pub white_space : IsSpan is_white_space text at next
  pub inside : next < length text
  pub below : slice_index text next < capital_a

-- the text begins like `;B[pd]`, and then the property ends
pub record IsLoneFront (text : List ℕ) : Type 0 where
  pub front : IsMove text 1
  pub ends : IsPropertyEnd text 6

-- a property whose name isn't among these stands from `at` to `end`
pub record IsOtherProperty (names : List (List ℕ)) (text : List ℕ) (at end : ℕ) : Type 0 where
  pub rises : at < end
  pub within : end ≤ length text
  pub property : Property
  pub spelled : IsProperty property (drop at text) (drop end text)
  pub named : IsOtherName names property.name

-- such properties stand from `at` to `end`
pub record AreOtherProperties (names : List (List ℕ)) (text : List ℕ) (at end : ℕ) : Type 0 where
  pub within : end ≤ length text
  pub properties : List Property
  pub spelled : AreProperties properties (drop at text) (drop end text)
  pub named : All (λ property. IsOtherName names property.name) properties

-- such properties stand from `at` up to the end of a node, after which white space may stand up to `next`
pub record AreOthers (names : List (List ℕ)) (text : List ℕ) (at next : ℕ) : Type 0 where
  pub end : ℕ
  pub properties : AreOtherProperties names text at end
  pub ends : IsNodeEnd text end next

-- the text begins like `;B[pd]`, and then come such properties, up to the end of the node and of the white space after it
pub record IsLedNode (names : List (List ℕ)) (text : List ℕ) (next : ℕ) : Type 0 where
  pub begins : slice_index text 0 ≡ semicolon
  pub front : IsMove text 1
  pub others : AreOthers names text 6 next

-- the text begins with a node that has no properties, and a byte that ends it
pub record IsEmptyNode (text : List ℕ) : Type 0 where
  pub begins : slice_index text 0 ≡ semicolon
  pub ends : EndsNode text 1
