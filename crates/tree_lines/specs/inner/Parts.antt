-- A line as its parts in memory, which are sequences. What searches for sequences find.
use Rattle.std.specs.Prelude.{◌≡◌, ◌≢◌, ℕ, ◌+◌, ◌-◌, ◌<◌, ◌≤◌, List, [], ◌∷◌, ◌++◌, length, get_or, slice_get, map, take, Option, Some, None, MatchOption, refl}
use Rattle.std.specs.List.{flat_map, range_with_len}
use Rattle.std.specs.Coded.{Coded, code_by, coded×, coded_ℕ, coded_list}
use Rattle.sgf_outline.specs.Tree.{Games, node_count}
use Rattle.sgf_outline.specs.FileOrder.{place_at, parent_at, IsLeaf, sequence_starts, sequence_start, sequence_end, sequence_numbers}
use Rattle.sgf_outline.specs.inner.TreeCode.{games_code}
use Rattle.tree_lines.specs.Sequences.{SequencesState, nodes_in}
use Rattle.tree_lines.specs.inner.PathTo.{HasNoLeaf}
use Rattle.tree_lines.specs.inner.Standing.{IsAfterLeaf}
use Rattle.tree_lines.specs.declared.sequence_cursor.Front.{Front}

-- the state is stored as its parts
abbrev pub sequences_state_code : Coded SequencesState
sequences_state_code =
    code_by (Games × (ℕ × List ℕ)) (coded× games_code (coded× coded_ℕ (coded_list coded_ℕ)))
    (λ state. (state.at.games, (state.at.index, state.ends))) (λ p. record { at = record { games = p.0; index = p.1.0 }; ends = p.1.1 }) (λ _. refl)

-- the number of the first node of a sequence; the node count, if there are no more than that many sequences
abbrev pub first_of : Games → ℕ → ℕ
first_of games sequence = get_or (sequence_starts games) sequence (node_count games)

-- how many nodes a sequence has
abbrev pub sequence_length : Games → ℕ → ℕ
sequence_length games sequence = sequence_end games sequence - sequence_start games sequence

-- a sequence of a line, and how many nodes the line has up to its end
pub record Part : Type 0 where
  pub sequence : ℕ
  pub end : ℕ

-- the sequences with these numbers, one after the other, as parts of a line; `start` nodes stand before them
abbrev pub parts_of : Games → ℕ → List ℕ → List Part
parts_of games start [] = []
parts_of games start (sequence ∷ others) =
    record { sequence = sequence; end = start + sequence_length games sequence } ∷ parts_of games (start + sequence_length games sequence) others

-- the numbers of the nodes of parts of a line, one part after the other
abbrev pub part_numbers : Games → List Part → List ℕ
part_numbers games parts = flat_map (λ part. sequence_numbers games part.sequence) parts

abbrev pub part_ends : List Part → List ℕ
part_ends parts = map (λ part. part.end) parts

-- Sequences of a collection, one after the other. Each part ends where its nodes end on the line; `start` nodes stand before the first part.
abbrev pub AreParts : Games → ℕ → List Part → Type 0
AreParts games start [] = Unit {0}
AreParts games start (part ∷ parts) =
    (part.sequence < length (sequence_starts games)) × (part.end ≡ start + sequence_length games part.sequence) × AreParts games part.end parts

-- Where a cursor stands. It goes on from the sequence `next`, and the parts are the line before the first node of that sequence.
pub record IsAfterSequences (games : Games) (next : ℕ) (parts : List Part) : Type 0 where
  pub within : next ≤ length (sequence_starts games)
  pub stands : IsAfterLeaf games (first_of games next) (part_numbers games parts)
  pub are : AreParts games 0 parts

-- What a cursor keeps of that: the numbers of the sequences of the line, and how many nodes they have.
pub record IsCursorKept (games : Games) (next : ℕ) (path : List ℕ) (nodes : ℕ) : Type 0 where
  pub after : IsAfterSequences games next (parts_of games 0 path)
  pub count : nodes ≡ length (part_numbers games (parts_of games 0 path))

-- the first sequence from `from` on that ends in a leaf
pub record IsNextEnd (games : Games) (from sequence : ℕ) : Type 0 where
  pub from_there : from ≤ sequence
  pub within : sequence < length (sequence_starts games)
  pub is_leaf : IsLeaf games (sequence_end games sequence - 1)
  pub first : HasNoLeaf games (first_of games from) (sequence_end games sequence - 1)

-- the next sequence that ends in a leaf; None if there is none
abbrev pub IsEndSearch : Games → ℕ → Option ℕ → Type 0
IsEndSearch games from found = MatchOption found (HasNoLeaf games (first_of games from) (node_count games)) (IsNextEnd games from)

-- The first parts, up to and including the last one that is the sequence `outer`. No part, if there is no such sequence or no part is it.
pub record IsUpTo (parts : List Part) (outer : ℕ) (front : Front) : Type 0 where
  pub within : front.sequences ≤ length parts
  pub count : front.nodes ≡ nodes_in (part_ends parts) front.sequences
  pub others : (i : ℕ) (part : Part) → front.sequences ≤ i → slice_get parts i ≡ Some part → part.sequence ≢ outer
  pub last : (i : ℕ) (part : Part) → front.sequences ≡ i + 1 → slice_get parts i ≡ Some part → part.sequence ≡ outer

abbrev pub IsFrontUpTo : List Part → Option ℕ → Front → Type 0
IsFrontUpTo parts None front = front ≡ record { sequences = 0; nodes = 0 }
IsFrontUpTo parts (Some outer) front = IsUpTo parts outer front

-- The new parts are the first `kept` old ones, and then the sequences from `first` on and before `end`.
pub record GoesDown (games : Games) (old : List Part) (kept first end : ℕ) (new : List Part) : Type 0 where
  pub kept_is : take kept new ≡ take kept old
  pub count : length new ≡ kept + (end - first)
  pub numbers : part_numbers games new ≡ part_numbers games (take kept old) ++ range_with_len (first_of games first) (first_of games end - first_of games first)
  pub parts : AreParts games 0 new

-- the sequence that this one goes on from, which ends with the parent of its first node; None if it begins a game of the collection
abbrev pub IsAbove : Games → ℕ → Option ℕ → Type 0
IsAbove games sequence found =
    MatchOption found (parent_at games (sequence_start games sequence) ≡ Some None)
    (λ above. (above < sequence) × (parent_at games (sequence_start games sequence) ≡ Some (Some (sequence_end games above - 1))))

-- the parts from the root to the end of a sequence, each going on from the one before it; above the first there are none
pub data ArePartsTo (games : Games) : Option ℕ → List Part → Type 0 where
  top : ArePartsTo games None []
  step : {sequence : ℕ} {above : Option ℕ} {front parts : List Part} → sequence < length (sequence_starts games) → IsAbove games sequence above → ArePartsTo games above front
      → parts ≡ front ++ record { sequence = sequence; end = length (part_numbers games front) + sequence_length games sequence } ∷ []
      → ArePartsTo games (Some sequence) parts

-- the numbers of the sequences from the root to the end of a sequence, and how many nodes they have
abbrev pub IsWayTo : Games → ℕ → List ℕ → ℕ → Type 0
IsWayTo games sequence path nodes =
    ArePartsTo games (Some sequence) (parts_of games 0 path) × (nodes ≡ length (part_numbers games (parts_of games 0 path)))

-- how many sequences and nodes the line to the end of a sequence has
abbrev pub MeasuresTo : Games → ℕ → Front → Type 0
MeasuresTo games sequence line =
    (parts : List Part) × ArePartsTo games (Some sequence) parts × (line.sequences ≡ length parts) × (line.nodes ≡ length (part_numbers games parts))

-- the first sequence whose last node isn't before a place; the number of sequences, if all of them are
pub record IsFirstFrom (games : Games) (place sequence : ℕ) : Type 0 where
  pub within : sequence ≤ length (sequence_starts games)
  pub before : (earlier here : ℕ) → earlier < sequence → place_at games (sequence_end games earlier - 1) ≡ Some here → here < place
  pub after : (here : ℕ) → sequence < length (sequence_starts games) → place_at games (sequence_end games sequence - 1) ≡ Some here → place ≤ here
