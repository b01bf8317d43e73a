-- The table by which past colourings are looked up: their prints, and a trie of the keys of the oldest ones.
use Rattle.std.specs.Prelude.{◌≡◌, ◌≢◌, ◌⊎◌, ℕ, ◌+◌, ◌-◌, ◌<◌, ◌≤◌, ◌^◌, if◌then◌else◌, List, [], ◌∷◌, Bool, Option, IfSome, IfNone, MatchOption, length, reverse}
use Rattle.std.specs.Vec.{vec_capacity}
use Rattle.board_past.specs.declared.past.print_past.table.Gap.{Gap}
use Rattle.board_past.specs.declared.past.print_past.key.TheConstants.{WIDTH}
use Rattle.board_past.specs.declared.past.print_past.table.Table.{Table}
use Rattle.board_past.specs.Past.{Held}
use Rattle.board_past.specs.inner.Hash.{hash_of, HasHashes}
use Rattle.board_past.specs.inner.Key.{keys_of}
use Rattle.board_past.specs.inner.Print.{print_of, prints_of}
use Rattle.key_trie.specs.Key.{Agree}
use Rattle.key_trie.specs.Trie.{nodes_of, item_count, capacity_of, IsTrie, IsOpening}

-- The table of these colourings, newest first, if it is awake: it has their prints. The trie has as many of the oldest ones as it has
-- items, and there is room for all.
pub record IsAwakeTable (held : List Held) (table : Table) : Type 0 where
  pub awake : table.room_asleep ≡ 0
  pub printed : reverse table.prints.items ≡ prints_of held
  pub few : item_count table.trie ≤ length table.prints.items
  pub linked : IsTrie WIDTH (keys_of table.hashed held) table.trie
  pub room : length table.prints.items ≤ capacity_of table.trie
  pub most : capacity_of table.trie < 2 ^ 32
  pub kept : HasHashes held table.hashes.items

-- the table of these colourings, if it sleeps: it has no prints and no items, but room for all
pub record IsAsleepTable (held : List Held) (table : Table) : Type 0 where
  pub asleep : 0 < table.room_asleep
  pub fits : length held ≤ table.room_asleep
  pub no_prints : table.prints.items ≡ []
  pub no_items : nodes_of table.trie ≡ []
  pub room : table.room_asleep ≤ capacity_of table.trie
  pub prints_room : table.room_asleep ≤ vec_capacity table.prints
  pub most : capacity_of table.trie < 2 ^ 32
  pub kept : (any : List Held) → HasHashes any table.hashes.items

-- the table of these colourings
abbrev pub IsTable : List Held → Table → Type 0
IsTable held table = IsAsleepTable held table ⊎ IsAwakeTable held table

-- the table has room for one more colouring than these
pub record HasRoomForNext (held : List Held) (table : Table) : Type 0 where
  pub prints : length held < vec_capacity table.prints
  pub trie : length held < capacity_of table.trie
  pub asleep : 0 < table.room_asleep → length held < table.room_asleep

-- the table may have got more room, and nothing else is changed
pub record GrowsTable (old new : Table) : Type 0 where
  pub nodes : nodes_of new.trie ≡ nodes_of old.trie
  pub room : capacity_of old.trie ≤ capacity_of new.trie
  pub most : capacity_of new.trie < 2 ^ 32
  pub prints : new.prints.items ≡ old.prints.items
  pub prints_room : vec_capacity old.prints ≤ vec_capacity new.prints
  pub hashed : new.hashed ≡ old.hashed
  pub hashes : new.hashes ≡ old.hashes
  pub asleep : new.room_asleep ≡ old.room_asleep

-- the print of the next colouring if the table is awake, and none if it sleeps
pub record IsPrintOfNext (held : List Held) (table : Table) (next : Held) (print : Option ℕ) : Type 0 where
  pub awake : IfSome print (λ number. IsAwakeTable held table × (number ≡ print_of next.colouring))
  pub asleep : IfNone print (IsAsleepTable held table)

-- the first position where two keys differ
abbrev pub IsFirstApart : (ℕ → Bool) → (ℕ → Bool) → Option ℕ → Type 0
IsFirstApart one other position = MatchOption position (Agree one other WIDTH) (λ position. (position < WIDTH) × Agree one other position × (one position ≢ other position))

-- the trie doesn't have all of these colourings yet
pub record HasUnlinked (held : List Held) (now : Table) : Type 0 where
  pub table : IsAwakeTable held now
  pub more : item_count now.trie < length now.prints.items

-- how many colourings there are still to be put into the trie at most: once more all, as long as keys have no hashes
abbrev pub most_to_link : Table → ℕ
most_to_link table =
    let left : ℕ = length table.prints.items - item_count table.trie in
    if table.hashed then left else length table.prints.items + 1 + left

-- there is less to be put into the trie, and the prints stay
pub record LinksNext (held : List Held) (old new : Table) : Type 0 where
  pub table : IsAwakeTable held new
  pub fewer : most_to_link new < most_to_link old
  pub prints : new.prints.items ≡ old.prints.items

-- where the next colouring comes into the trie of a table, which has all of these
pub record IsGap (held : List Held) (table : Table) (next : Held) (gap : Gap) : Type 0 where
  pub all : item_count table.trie ≡ length held
  pub within : gap.position < WIDTH
  pub opens : IsOpening (keys_of table.hashed (next ∷ held)) table.trie (keys_of table.hashed (next ∷ held) (length held)) gap.slot gap.position
  pub bit : keys_of table.hashed (next ∷ held) (length held) gap.position ≡ gap.bit
  pub hash : gap.hash ≢ 0 → gap.hash ≡ hash_of next.colouring
