-- How the properties of a node were read: words of the contracts in `reader::properties`.
use Rattle.std.specs.Prelude.{◌≡◌, ◌≢◌, ℕ, ◌+◌, ◌<◌, ◌≤◌, false, IsTrue, List, [], ◌∷◌, length, slice_index, slice_range, None}
use Rattle.std.specs.List.{flat_map}
use Rattle.sgf_properties.specs.Bytes.{open_bracket}
use Rattle.sgf_outline.specs.Tree.{Property}
use Rattle.sgf_outline.specs.Written.{property_text}
use Rattle.sgf_outline.specs.Spelling.{is_white_space, is_upper}
use Rattle.sgf_outline.specs.Machine.{Stack, Started, MachineState, in_node, in_name, in_value, after_value, after_node, ended, next_state, accepted}
use Rattle.sgf_tree.specs.inner.Progress.{ComesTo, IsTrueFault}
use Rattle.sgf_outline.specs.OwnNodes.{Coming, Copies}
use Rattle.sgf_properties.specs.Offsets.{IsSpan, IsBracket, IsValueEnd, ArePoints}
use Rattle.sgf_properties.specs.KeptLengths.{AreKeptLengths}
use Rattle.sgf_properties.specs.declared.value.LongValue.{LongValue}
use Rattle.sgf_outline.specs.declared.limit.TheConstants.{MAX_LENGTH}
use Rattle.sgf_tree.specs.declared.fault.ReadFault.{ReadFault}
use Rattle.sgf_tree.specs.declared.reader.properties.PartRead.{PartRead}

-- after any white space at `end` comes a byte that doesn't begin a value
pub record AreValuesEnded (text : List ℕ) (end next : ℕ) : Type 0 where
  pub white_space : IsSpan is_white_space text end next
  pub other : slice_index text next ≢ open_bracket

-- A raw value may be read at `at`. The text isn't too long, and the lengths that were kept are right.
pub record MayReadValue (text : List ℕ) (at : ℕ) (long : List LongValue) : Type 0 where
  pub short : length text ≤ MAX_LENGTH
  pub within : at ≤ length text
  pub kept : AreKeptLengths text long

-- Values were read, of which the first begins with the `[` at `at`. The `]` of the last one is at `close`, and all before it are like `[pd]`.
-- The lengths that are kept then are right.
pub record AreValuesRead (text : List ℕ) (at : ℕ) (long : List LongValue) (close : ℕ) : Type 0 where
  pub last : ℕ
  pub points : ArePoints text at last
  pub stands : IsBracket text last
  pub ends : IsValueEnd text (last + 1) close
  pub kept : AreKeptLengths text long

-- A property begins where the part before it ends, which is not before the end of its segment. The text isn't too long.
pub record BeginsProperty (text : List ℕ) (before : PartRead) : Type 0 where
  pub short : length text ≤ MAX_LENGTH
  pub within : before.end < length text
  pub capital : IsTrue (is_upper (slice_index text before.end))
  pub rises : before.segment.start ≤ before.segment.end
  pub after : before.segment.end ≤ before.end

-- this stands from one offset to another
abbrev pub StandsIn : List ℕ → ℕ → ℕ → List ℕ → Type 0
StandsIn text from to written = slice_range text from to ≡ written

-- The identifier that begins at `start` was read up to a `[`. `Wrote` holds of what the sgf form writes for it.
pub record IsNameRead (Wrote : List ℕ → Type 0) (text : List ℕ) (start bracket : ℕ) : Type 0 where
  pub rises : start < bracket
  pub stands : IsBracket text bracket
  pub reached : (node : Started) → ComesTo text (start + 1) (in_name node (slice_index text start ∷ []))
      → (name : List ℕ) × ComesTo text (bracket + 1) (in_value node name [] []) × Wrote name

-- The identifier that begins at the end of `before` was read up to the `[` at the end of `read`. What the sgf form writes for it is copied.
pub record IsNameCopied (kept keeps : Stack → Coming → Type 0) (text : List ℕ) (before read : PartRead) : Type 0 where
  pub rises : read.segment.start ≤ read.segment.end
  pub after : read.segment.end ≤ read.end
  pub name : IsNameRead (Copies kept keeps text before.segment read.segment) text before.end read.end

-- The property whose identifier begins at `start` was read. White space may follow it, and then comes a byte that begins no value. `Wrote` holds of
-- what the sgf form writes for it.
pub record IsPropertyRead (Wrote : List ℕ → Type 0) (text : List ℕ) (start text_end end : ℕ) : Type 0 where
  pub rises : start < text_end
  pub white_space : IsSpan is_white_space text text_end end
  pub no_value : end < length text → slice_index text end ≢ open_bracket
  pub reached : (node : Started) → ComesTo text (start + 1) (in_name node (slice_index text start ∷ []))
      → (property : Property) × ComesTo text end (after_value node property) × Wrote (property_text property)

-- the machine has read a node up to `end`, and takes only what may come after a node
pub record StandsAfterNode (text : List ℕ) (end : ℕ) (whole : Started) : Type 0 where
  pub state : MachineState
  pub reached : ComesTo text end state
  pub next : end < length text → next_state end state (slice_index text end) ≡ after_node end (ended whole) (slice_index text end)
  pub unaccepted : accepted state ≡ None

-- the node with these properties
abbrev pub with_properties : Started → List Property → Started
with_properties node properties = record { stack = node.stack; opens = node.opens; place = node.place; properties = properties }

-- The properties of a node that begin at `at`, perhaps none, were read. White space may follow them, and then comes a byte that begins no property,
-- and no value of the last property. `Wrote` holds of what the sgf form writes for them.
pub record ArePropertiesRead (Wrote : List ℕ → Type 0) (text : List ℕ) (at text_end end : ℕ) : Type 0 where
  pub rises : at ≤ text_end
  pub white_space : IsSpan is_white_space text text_end end
  pub no_property : end < length text → is_upper (slice_index text end) ≡ false
  pub reached : (node : Started) → node.properties ≡ [] → ComesTo text at (in_node node)
      → (properties : List Property) × StandsAfterNode text end (with_properties node properties) × Wrote (flat_map property_text properties)

-- if `at` is just after the `[` of a value, the fault is the first one of the text
abbrev pub IsFaultInValue : List ℕ → ℕ → ReadFault → Type 0
IsFaultInValue text at fault =
    (node : Started) (name : List ℕ) (before : List (List ℕ)) → ComesTo text at (in_value node name before []) → IsTrueFault text fault

-- the same of a value after values like `[pd]` that begin at `at`, perhaps none
pub record IsFaultInValues (text : List ℕ) (at : ℕ) (fault : ReadFault) : Type 0 where
  pub last : ℕ
  pub points : ArePoints text at last
  pub stands : IsBracket text last
  pub in_value : IsFaultInValue text (last + 1) fault

-- the same, if a name began with the letter at `start`
abbrev pub IsFaultInProperty : List ℕ → ℕ → ReadFault → Type 0
IsFaultInProperty text start fault =
    (node : Started) → ComesTo text (start + 1) (in_name node (slice_index text start ∷ [])) → IsTrueFault text fault

-- the same, if `at` is in a node that has no properties yet
abbrev pub IsFaultInNode : List ℕ → ℕ → ReadFault → Type 0
IsFaultInNode text at fault = (node : Started) → node.properties ≡ [] → ComesTo text at (in_node node) → IsTrueFault text fault
