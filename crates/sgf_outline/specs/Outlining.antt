-- How a table holds the sequences of a collection. Their nodes are found on the text again.
use Rattle.std.specs.Prelude.{◌≡◌, ℕ, ◌/◌, ◌%◌, ◌==◌, ◌≤◌, Bool, true, false, if◌then◌else◌, List, [], ◌∷◌, ◌++◌, length, drop, get_or, slice_get, slice_range, Option, Some, None}
use Rattle.std.specs.List.{flat_map}
use Rattle.sgf_outline.specs.Tree.{Node, game_count, node_count}
use Rattle.sgf_outline.specs.Spelling.{Spells}
use Rattle.sgf_outline.specs.Written.{node_text}
use Rattle.sgf_outline.specs.Machine.{Stack, games_in}
use Rattle.sgf_outline.specs.Unclosed.{unclosed_count, whole}
use Rattle.sgf_outline.specs.Listing.{Listed, unclosed_list}
use Rattle.sgf_outline.specs.OwnNodes.{Coming, nothing}
use Rattle.sgf_outline.specs.declared.limit.TheConstants.{MAX_LENGTH}
use Rattle.sgf_outline.specs.declared.sequences.TheConstants.{ROOT, WRITTEN, LAST}
use Rattle.sgf_outline.specs.declared.sequences.KeptSegment.{KeptSegment}
use Rattle.sgf_outline.specs.declared.sequences.Sequence.{Sequence}
use Rattle.sgf_outline.specs.declared.sequences.Sequences.{Sequences}

-- the number of the sequence that it goes on from; None if it begins a game of the collection
abbrev pub outer_by : Sequence → Option ℕ
outer_by sequence = if sequence.outer_and_flags / ROOT % 2 == 1 then None else Some (sequence.outer_and_flags % ROOT)

-- the number of the game that it begins
abbrev pub game_by : Sequence → ℕ
game_by sequence = sequence.outer_and_flags % ROOT

-- whether the sgf form is known to write it as it stands in the text
abbrev pub is_written_by : Sequence → Bool
is_written_by sequence = sequence.outer_and_flags / WRITTEN == 1

-- the nodes of a listed sequence
abbrev pub nodes_of : Listed → List Node
nodes_of sequence = sequence.first ∷ sequence.more

-- where a kept segment begins, and whether it is the last one of its sequence
abbrev pub start_by : KeptSegment → ℕ
start_by kept = kept.start_and_flag % LAST

abbrev pub is_last_by : KeptSegment → Bool
is_last_by kept = kept.start_and_flag / LAST == 1

-- what the sgf form copies from the text, if it copies this segment and then `rest`
pub record IsCopiedFirst (text : List ℕ) (kept : KeptSegment) (written rest : List ℕ) : Type 0 where
  pub rises : start_by kept ≤ kept.end
  pub within : kept.end ≤ length text
  pub are : written ≡ slice_range text (start_by kept) kept.end ++ rest

-- it copies these segments, none of which is the last one of its sequence
abbrev pub AreTold : List ℕ → List KeptSegment → List ℕ → Type 0
AreTold text [] told = told ≡ []
AreTold text (kept ∷ more) told = (rest : List ℕ) × IsCopiedFirst text kept told rest × (is_last_by kept ≡ false) × AreTold text more rest

-- it copies these segments up to the last one of a sequence
abbrev pub AreWhole : List ℕ → List KeptSegment → List ℕ → Type 0
AreWhole text [] written = ⊥
AreWhole text (kept ∷ more) written =
    (rest : List ℕ) × IsCopiedFirst text kept written rest × (is_last_by kept ≡ true → rest ≡ []) × (is_last_by kept ≡ false → AreWhole text more rest)

-- it copies the segments from this index on for the nodes
abbrev pub HasSegments : List ℕ → List KeptSegment → ℕ → List Node → Type 0
HasSegments text segments index nodes = AreWhole text (drop index segments) (flat_map node_text nodes)

-- What the table keeps of a sequence is right. If it isn't written as it stands, `end` is the index of its first segment.
pub record IsKept (text : List ℕ) (segments : List KeptSegment) (kept : Sequence) (sequence : Listed) : Type 0 where
  pub number_is : kept.number ≡ sequence.number
  pub outer_is : outer_by kept ≡ sequence.outer
  pub ordinal_is : sequence.outer ≡ None → game_by kept ≡ sequence.ordinal
  pub first_is : kept.first ≡ sequence.first.place
  pub last_is : kept.last ≡ (get_or (nodes_of sequence) (length sequence.more) sequence.first).place
  pub rises : is_written_by kept ≡ true → kept.first ≤ kept.end
  pub within : is_written_by kept ≡ true → kept.end ≤ length text
  pub written : is_written_by kept ≡ true → slice_range text kept.first kept.end ≡ flat_map node_text (nodes_of sequence)
  pub segmented : is_written_by kept ≡ false → HasSegments text segments kept.end (nodes_of sequence)

-- the table keeps these sequences
pub record AreKept (text : List ℕ) (segments : List KeptSegment) (table : List Sequence) (sequences : List Listed) : Type 0 where
  pub count : length table ≡ length sequences
  pub each : (index : ℕ) (kept : Sequence) (sequence : Listed) → slice_get table index ≡ Some kept → slice_get sequences index ≡ Some sequence
      → IsKept text segments kept sequence

-- what a reader keeps is right for the games of a stack, and for what has come of a further game
pub record HoldsSequences (text : List ℕ) (kept : Sequences) (stack : Stack) (coming : Coming) : Type 0 where
  pub are : AreKept text kept.segments.items kept.table.items (unclosed_list stack.closed stack.unclosed).sequences
  pub nodes_counted : kept.nodes ≡ unclosed_count stack.closed stack.unclosed
  pub games_counted : kept.games ≡ game_count stack.closed
  pub innermost_is : kept.innermost ≡ (unclosed_list stack.closed stack.unclosed).innermost
  pub few : length kept.segments.items ≤ MAX_LENGTH
  pub begun_within : kept.begun ≤ length kept.segments.items
  pub told : AreTold text (drop kept.begun kept.segments.items) coming.told

-- the table is that of the collection that the text spells
pub record IsOutlined (text : List ℕ) (kept : Sequences) : Type 0 where
  pub short : length text ≤ MAX_LENGTH
  pub spelled : Spells (games_in text) text
  pub few : node_count (games_in text) ≤ length text
  pub held : HoldsSequences text kept (whole (games_in text)) nothing
