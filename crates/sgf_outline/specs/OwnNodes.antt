-- The own nodes of a game, as a reader comes to know them.
use Rattle.std.specs.Prelude.{◌≡◌, ℕ, ◌-◌, ◌<◌, ◌≤◌, List, [], ◌∷◌, ◌++◌, length, map, get_or, slice_range}
use Rattle.sgf_outline.specs.Tree.{Node}
use Rattle.sgf_outline.specs.Machine.{UnclosedGame, Stack}
use Rattle.sgf_outline.specs.declared.limit.TheConstants.{MAX_LENGTH}
use Rattle.sgf_outline.specs.declared.layout.OwnNodes.{OwnNodes}
use Rattle.sgf_outline.specs.declared.layout.Segment.{Segment}

-- the own nodes of an unclosed game
abbrev pub own_of : UnclosedGame → List Node
own_of unclosed_game = unclosed_game.first ∷ unclosed_game.more

-- where their `;` are
abbrev pub places_of : List Node → List ℕ
places_of nodes = map (λ (node : Node). node.place) nodes

-- the stack with one more unclosed game
abbrev pub with_game : Stack → UnclosedGame → Stack
with_game stack unclosed_game = record { closed = stack.closed; unclosed = unclosed_game ∷ stack.unclosed }

-- what has come of a game that isn't on the stack yet: the places of its own nodes, and the texts of the segments that have ended, joined
pub record Coming : Type 0 where
  pub places : List ℕ
  pub told : List ℕ

abbrev pub nothing : Coming
nothing = record { places = []; told = [] }

abbrev pub with_place : Coming → ℕ → Coming
with_place coming place = record { places = coming.places ++ place ∷ []; told = coming.told }

abbrev pub with_text : Coming → List ℕ → Coming
with_text coming text = record { places = coming.places; told = coming.told ++ text }

abbrev pub coming_of : List Node → List ℕ → Coming
coming_of nodes told = record { places = places_of nodes; told = told }

-- With the present segment after those that the visitor was told of, all that is `written` is copied. If no other one began after `first`,
-- it was told of none.
pub record IsCopied (keeps : List ℕ → Type 0) (text : List ℕ) (first : ℕ) (present : Segment) (written : List ℕ) : Type 0 where
  pub told : List ℕ
  pub kept : keeps told
  pub are : told ++ slice_range text present.start present.end ≡ written
  pub alone : present.start ≡ first → told ≡ []
  pub low : first ≤ present.start
  pub rises : present.start ≤ present.end
  pub within : present.end ≤ length text

-- The bytes from `from` to `to` may be copied after a segment.
pub record MayGoOn (segment : Segment) (from to : ℕ) : Type 0 where
  pub rises : segment.start ≤ segment.end
  pub after : segment.end ≤ from
  pub goes : from ≤ to
  pub low : to ≤ MAX_LENGTH

-- a part of a node was read, for which the sgf form writes `part`: it is copied after what was copied before
abbrev pub Copies : (Stack → Coming → Type 0) → (Stack → Coming → Type 0) → List ℕ → Segment → Segment → List ℕ → Type 0
Copies kept keeps text before after part =
    (stack : Stack) (places : List ℕ) (first : ℕ) (written : List ℕ)
    → IsCopied (λ told. kept stack (record { places = places; told = told })) text first before written
    → IsCopied (λ told. keeps stack (record { places = places; told = told })) text first after (written ++ part)

-- the same at the beginning of the node at this place
abbrev pub CopiesNode : (Stack → Coming → Type 0) → (Stack → Coming → Type 0) → List ℕ → ℕ → Segment → Segment → List ℕ → Type 0
CopiesNode kept keeps text place before after part =
    (stack : Stack) (places : List ℕ) (first : ℕ) (written : List ℕ)
    → IsCopied (λ told. kept stack (record { places = places; told = told })) text first before written
    → IsCopied (λ told. keeps stack (record { places = places ++ place ∷ []; told = told })) text first after (written ++ part)

-- what is known of the own nodes of a game that were read, perhaps of none
pub record AreOwnNodes (own : OwnNodes) (nodes : List Node) : Type 0 where
  pub counted : own.count ≡ length nodes
  pub first_is : (default : Node) → 0 < length nodes → (get_or nodes 0 default).place ≡ own.first
  pub last_is : (default : Node) → 0 < length nodes → (get_or nodes (length nodes - 1) default).place ≡ own.last
  pub ends : own.last ≤ own.segment.end
