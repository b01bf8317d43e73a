-- Which texts spell a collection: the EBNF of SGF FF[4], from Collection down to Node. The rest of it is in `Spelling.antt` of the crate
-- `sgf_properties`: Property = PropIdent PropValue { PropValue }, and PropValue = "[" value "]". In each relation `s` is the text from the
-- beginning of a thing on, and `r` is the text after the thing. `t`, `u`, `w` and the longer names are the text after one of its parts.
use Rattle.std.specs.Prelude.{◌≡◌, ℕ, ◌+◌, List, [], ◌∷◌, length}
use Rattle.sgf_properties.specs.Bytes.{open_parenthesis, close_parenthesis, semicolon, byte_ef, byte_bb, byte_bf}
use Rattle.sgf_outline.specs.Tree.{Property, Node, Games, no_games, game}
pub use Rattle.sgf_properties.specs.Spelling.{is_white_space, is_upper, is_lower, WhiteSpace, no_white_space, white_space, Letters, no_letter, upper, lower, IsPropValue, prop_value, ArePropValues, no_value, value, IsProperty, property, AreProperties, no_property, properties}

-- Node = ";" { Property }. Its place is the number of bytes before the `;`, in a text of `whole` bytes.
pub data IsNode (whole : ℕ) : Node → List ℕ → List ℕ → Type 0 where
  node : {place : ℕ} {ps : List Property} {s t r : List ℕ} → WhiteSpace s (semicolon ∷ t) → place + length (semicolon ∷ t) ≡ whole → AreProperties ps t r
      → IsNode whole (record { place = place; properties = ps }) s r

-- { Node }
pub data AreNodes (whole : ℕ) : List Node → List ℕ → List ℕ → Type 0 where
  no_node : {s : List ℕ} → AreNodes whole [] s s
  nodes : {n : Node} {ns : List Node} {s t r : List ℕ} → IsNode whole n s t → AreNodes whole ns t r → AreNodes whole (n ∷ ns) s r

-- { GameTree }, where GameTree = "(" Node { Node } { GameTree } ")"
pub data AreGames (whole : ℕ) : Games → List ℕ → List ℕ → Type 0 where
  no_game : {s : List ℕ} → AreGames whole no_games s s
  games : {first : Node} {more : List Node} {below after : Games} {s inside further children end outside r : List ℕ}
      → WhiteSpace s (open_parenthesis ∷ inside) → IsNode whole first inside further → AreNodes whole more further children
      → AreGames whole below children end → WhiteSpace end (close_parenthesis ∷ outside) → AreGames whole after outside r
      → AreGames whole (game first more below after) s r

-- the UTF-8 byte order mark, at most once, at the very start (this project's choice)
pub data ByteOrderMark : List ℕ → List ℕ → Type 0 where
  no_byte_order_mark : {s : List ℕ} → ByteOrderMark s s
  byte_order_mark : {s : List ℕ} → ByteOrderMark (byte_ef ∷ byte_bb ∷ byte_bf ∷ s) s

-- Collection = GameTree { GameTree }, then white space up to the end: the text `t` spells the collection
pub data Spells : Games → List ℕ → Type 0 where
  spells : {first : Node} {more : List Node} {below after : Games} {t s r : List ℕ}
      → ByteOrderMark t s → AreGames (length t) (game first more below after) s r → WhiteSpace r []
      → Spells (game first more below after) t
