-- A trie of keys, each a string of bits: a look-up descends by the bits of a key, to the one item that it may equal.
-- Item number `item`, counted from 0 at the oldest, has the node with its number. The node's depth is 1 more than the position where
-- the item parted from all earlier items; it is 0 if the item parted nowhere: the first item, and one that equals an earlier one.
-- A slot is a side of a node. It names a node below if that is deeper than its own, and otherwise an item.
use Rattle.std.specs.Prelude.{◌≡◌, ◌≢◌, ◌⊎◌, ℕ, zero, suc, ◌+◌, ◌-◌, ◌^◌, ◌<◌, ◌≤◌, ◌==◌, Bool, false, if◌then◌else◌, List, [], length, take, slice_index_or, slice_set}
use Rattle.std.specs.Vec.{vec_capacity}
use Rattle.key_trie.specs.declared.trie.Node.{Node}
use Rattle.key_trie.specs.declared.trie.Slot.{Slot}
use Rattle.key_trie.specs.declared.trie.Trie.{Trie}
use Rattle.key_trie.specs.Key.{Agree}

-- an item is under a slot: it has the bits of the node's item before the node's position, and the slot's side there
pub record IsUnder (bit : ℕ → ℕ → Bool) (depth : ℕ → ℕ) (node : ℕ) (side : Bool) (item : ℕ) : Type 0 where
  pub path : Agree (bit item) (bit node) (depth node - 1)
  pub turn : 0 < depth node → bit item (depth node - 1) ≡ side

-- one of the slots of the first `count` nodes: node 0 has one slot, each other node that parted somewhere has two
pub record IsSlot (count : ℕ) (depth : ℕ → ℕ) (node : ℕ) (side : Bool) : Type 0 where
  pub there : node < count
  pub real : 0 < node → 0 < depth node
  pub one : depth node ≡ 0 → side ≡ false

-- how far the items under a slot are alike: to the position of the node that it names, or wholly if it names an item
abbrev pub IsReach : ℕ → ℕ → ℕ → ℕ → Type 0
IsReach width above below reach = ((above < below) × (reach ≡ below - 1)) ⊎ ((below ≤ above) × (reach ≡ width))

-- what a slot may name: something under it, and all items under the slot are like that as far as said above
pub record IsChild (width count : ℕ) (bit : ℕ → ℕ → Bool) (depth : ℕ → ℕ) (node : ℕ) (side : Bool) (child : ℕ) : Type 0 where
  pub there : child < count
  pub under : IsUnder bit depth node side child
  pub reach : ℕ
  pub far : IsReach width (depth node) (depth child) reach
  pub alike : (item : ℕ) → item < count → IsUnder bit depth node side item → Agree (bit item) (bit child) reach

-- the first `count` nodes are a trie of the first `count` items, whose keys have `width` bits
pub record IsTree (width count : ℕ) (bit : ℕ → ℕ → Bool) (depth : ℕ → ℕ) (child : ℕ → Bool → ℕ) : Type 0 where
  pub root : 0 < count → depth 0 ≡ 0
  pub within : (node : ℕ) → node < count → depth node ≤ width
  pub children : (node : ℕ) (side : Bool) → IsSlot count depth node side → IsChild width count bit depth node side (child node side)
  -- no two nodes stand at one position behind the same bits
  pub alone : (one other : ℕ) → one < count → other < count → 0 < depth one → depth one ≡ depth other
      → Agree (bit one) (bit other) (depth one - 1) → one ≡ other

-- The slot where a descent by the bits of `key` ends, before that position. Items that are as `key` before the position are under it. If an
-- item isn't under it, then all items under it are as `key` at least as far as that item is.
pub record IsOnWay (count : ℕ) (bit : ℕ → ℕ → Bool) (depth : ℕ → ℕ) (key : ℕ → Bool) (end node : ℕ) (side : Bool) : Type 0 where
  pub slot : IsSlot count depth node side
  pub low : depth node ≤ end
  pub all : (item : ℕ) → item < count → Agree (bit item) key end → IsUnder bit depth node side item
  pub best : (item position : ℕ) → item < count → Agree (bit item) key position
      → IsUnder bit depth node side item ⊎ ((other : ℕ) → other < count → IsUnder bit depth node side other → Agree (bit other) key position)

-- An item is as `key` up to a position, and not there. No item is as `key` any farther.
pub record IsParting (count : ℕ) (bit : ℕ → ℕ → Bool) (key : ℕ → Bool) (item position : ℕ) : Type 0 where
  pub there : item < count
  pub same : Agree (bit item) key position
  pub differ : bit item position ≢ key position
  pub best : (other : ℕ) → other < count → Agree (bit other) key (position + 1) → ⊥

-- Nodes as they are kept. Item number `n` has node number `n`.

abbrev pub no_node : Node
no_node = record { depth = 0; up_side = false; up = 0; off = 0; on = 0 }

abbrev pub node_at : List Node → ℕ → Node
node_at nodes number = slice_index_or nodes number no_node

abbrev pub depth_of : List Node → ℕ → ℕ
depth_of nodes number = (node_at nodes number).depth

-- what a node names on a side
abbrev pub named : Node → Bool → ℕ
named node side = if side then node.on else node.off

abbrev pub child_of : List Node → ℕ → Bool → ℕ
child_of nodes number side = named (node_at nodes number) side

-- the node with another child on that side
abbrev pub with_child : Node → Bool → ℕ → Node
with_child node side child = if side then record node { on = child } else record node { off = child }

-- the nodes with another child at that slot
abbrev pub with_named : List Node → ℕ → Bool → ℕ → List Node
with_named nodes number side child = slice_set nodes number (with_child (node_at nodes number) side child)

-- what the newest node's slot named before: what the node names beside its own item
abbrev pub displaced : ℕ → Node → ℕ
displaced number node = if node.off == number then node.on else node.off

-- the nodes without the newest one, each as it was before that one was added
abbrev pub without_newest : List Node → List Node
without_newest nodes =
    let number : ℕ = length nodes - 1 in
    let newest : Node = node_at nodes number in
    let front : List Node = take number nodes in
    if newest.up == number then front else with_named front newest.up newest.up_side (displaced number newest)

-- The trie.

abbrev pub nodes_of : Trie → List Node
nodes_of trie = trie.nodes.items

abbrev pub item_count : Trie → ℕ
item_count trie = length (nodes_of trie)

-- how many items there is room for
abbrev pub capacity_of : Trie → ℕ
capacity_of trie = vec_capacity trie.nodes

-- there is room for one item more, and its number fits into 32 bits
pub record HasRoom (trie : Trie) : Type 0 where
  pub few : item_count trie < 2 ^ 32
  pub room : item_count trie < capacity_of trie

-- the slot is one of a node of the trie
abbrev pub IsIn : Trie → Slot → Type 0
IsIn trie slot = slot.node < item_count trie

-- what the slot names
abbrev pub child_at : Trie → Slot → ℕ
child_at trie slot = child_of (nodes_of trie) slot.node slot.side

-- what the slot names lies no nearer than that position, if it is a node below
abbrev pub StopsBefore : Trie → Slot → ℕ → Type 0
StopsBefore trie slot end =
    depth_of (nodes_of trie) slot.node < depth_of (nodes_of trie) (child_at trie slot) → end < depth_of (nodes_of trie) (child_at trie slot)

-- A descent by the bits of `key` ends at the slot, before the position `end`.
pub record IsWayTo (keys : ℕ → ℕ → Bool) (trie : Trie) (key : ℕ → Bool) (end : ℕ) (slot : Slot) : Type 0 where
  pub way : IsOnWay (item_count trie) keys (depth_of (nodes_of trie)) key end slot.node slot.side
  pub stop : StopsBefore trie slot end

-- Where a descent by the bits of `key` stands after so many steps: the depth of the node that it left, and what it comes to.
abbrev pub after_steps : List Node → (ℕ → Bool) → ℕ → ℕ × ℕ
after_steps nodes key zero = (0, child_of nodes 0 false)
after_steps nodes key (suc steps) =
    let below : ℕ = (after_steps nodes key steps).1 in
    (depth_of nodes below, child_of nodes below (key (depth_of nodes below - 1)))

-- after so many steps, the descent passes one more node, before the position `end`
abbrev pub GoesOn : List Node → (ℕ → Bool) → ℕ → ℕ → Type 0
GoesOn nodes key end steps =
    let here : ℕ × ℕ = after_steps nodes key steps in
    (here.0 < depth_of nodes here.1) × (depth_of nodes here.1 ≤ end)

-- a descent by the bits of `key` passes at least so many nodes before the position `end`
abbrev pub Passes : Trie → (ℕ → Bool) → ℕ → ℕ → Type 0
Passes trie key end count = (steps : ℕ) → steps < count → GoesOn (nodes_of trie) key end steps

-- before the position `end`, an item is as a key at least as far as any other item is
pub record IsNearest (keys : ℕ → ℕ → Bool) (trie : Trie) (key : ℕ → Bool) (end near : ℕ) : Type 0 where
  pub there : near < item_count trie
  pub equal : (item : ℕ) → item < item_count trie → Agree (keys item) key end → Agree (keys near) key end
  pub parts : (position : ℕ) → position < end → Agree (keys near) key position → keys near position ≢ key position → IsParting (item_count trie) keys key near position

-- the slot where an item with these bits comes in: the item parts from the others at that position
pub record IsOpening (keys : ℕ → ℕ → Bool) (trie : Trie) (bits : ℕ → Bool) (slot : Slot) (position : ℕ) : Type 0 where
  pub item : ℕ
  pub there : IsSlot (item_count trie) (depth_of (nodes_of trie)) slot.node slot.side
  pub low : depth_of (nodes_of trie) slot.node ≤ position
  pub under : IsUnder keys (depth_of (nodes_of trie)) slot.node slot.side item
  pub stop : StopsBefore trie slot position
  pub part : IsParting (item_count trie) keys bits item position

-- The nodes are a trie of the first `count` items; `keys` has the key of each. Without the newest node they are a trie of one item less.
abbrev pub IsTrieOf : ℕ → ℕ → (ℕ → ℕ → Bool) → List Node → Type 0
IsTrieOf width zero keys nodes = nodes ≡ []
IsTrieOf width (suc count) keys nodes =
    (length nodes ≡ suc count)
    × IsTree width (suc count) keys (depth_of nodes) (child_of nodes)
    × ((node_at nodes count).up ≤ count)
    × IsTrieOf width count keys (without_newest nodes)

-- it is a trie of its items, whose keys are these, and have `width` bits
abbrev pub IsTrie : ℕ → (ℕ → ℕ → Bool) → Trie → Type 0
IsTrie width keys trie = IsTrieOf width (item_count trie) keys (nodes_of trie)
