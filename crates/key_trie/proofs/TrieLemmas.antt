-- The trie: descents, and the nodes as they are kept.
use Rattle.key_trie.proofs.Common.{◌≡◌, ◌≢◌, ◌⊎◌, ℕ, zero, suc, ◌+◌, ◌-◌, ◌<◌, ◌≤◌, Bool, true, false, not, List, length, inl, inr, refl, sym, subst, ◌∙◌, arith, true≢false, cases_lt, cases_order, false≢true, Node, Slot, Trie, Agree, IsUnder, IsSlot, IsReach, IsChild, IsTree, IsOnWay, IsWayTo, IsNearest, IsParting, IsOpening, IsTrieOf, IsTrie, nodes_of, item_count, child_at, depth_of, child_of, without_newest}

-- Keys.

pub agree_self : (x : ℕ → Bool) (end : ℕ) → Agree x x end
agree_self x end = record { each = λ p h. refl }

pub agree_back : {x y : ℕ → Bool} {end : ℕ} → Agree x y end → Agree y x end
agree_back a = record { each = λ p h. sym (a.each p h) }

pub agree_on : {x y z : ℕ → Bool} {end : ℕ} → Agree x y end → Agree y z end → Agree x z end
agree_on a b = record { each = λ p h. a.each p h ∙ b.each p h }

pub agree_less : {x y : ℕ → Bool} {end : ℕ} (less : ℕ) → less ≤ end → Agree x y end → Agree x y less
agree_less less few a = record { each = λ p h. a.each p (omega (arith, h, few)) }

pub agree_more : {x y : ℕ → Bool} {end : ℕ} (more : ℕ) → more ≤ end + 1 → Agree x y end → x end ≡ y end → Agree x y more
agree_more {x} {y} {end} more few a e = grind (arith, cases_lt)

pub other_bit : (x y : Bool) → x ≢ y → x ≡ not y
other_bit x y apart = grind arith

pub not_itself : (x : Bool) → x ≡ not x → ⊥
not_itself x e = grind (arith, false≢true, true≢false)

pub cases_same : (x y : Bool) → (x ≡ y) ⊎ (x ≢ y)
cases_same x y = grind (arith, false≢true, true≢false)

pub inner_reach : {w above below reach : ℕ} → IsReach w above below reach → above < below → reach ≡ below - 1
inner_reach {w} {above} {below} {reach} far inner = elim far [ inl is ↦ is.1 | inr other ↦ absurd (omega (arith, other.0, inner)) ]

-- a descent that stops before a position ends where all items under the slot are alike up to it
pub stop_reach : {w above below reach : ℕ} (end : ℕ) → IsReach w above below reach → (above < below → end < below) → end ≤ w → end ≤ reach
stop_reach {w} {above} {below} {reach} end far stop within = grind arith

-- Items under one slot.

module _ {b : ℕ → ℕ → Bool} {d : ℕ → ℕ} {i : ℕ} {s : Bool} where
  -- what is like an item under a slot as far as the node goes is under it
  pub under_as : {l : ℕ} (j : ℕ) → IsUnder b d i s l → Agree (b j) (b l) (d i) → IsUnder b d i s j
  under_as {l} j u a = grind arith

  -- two items under a slot are alike as far as the node goes
  pub under_both : {j l : ℕ} → IsUnder b d i s j → IsUnder b d i s l → Agree (b j) (b l) (d i)
  under_both {j} {l} u v = grind (arith, cases_lt)

-- What a trie tells.
module _ {w n : ℕ} {b : ℕ → ℕ → Bool} {d : ℕ → ℕ} {k : ℕ → Bool → ℕ} (tree : IsTree w n b d k) where
  -- The descent.

  pub way_begins : (key : ℕ → Bool) (end : ℕ) → 0 < n → IsOnWay n b d key end 0 false
  way_begins key end some = grind (arith, tree)

  pub way_goes_on : {key : ℕ → Bool} {end i : ℕ} {s : Bool} (below : ℕ) (side : Bool) → IsOnWay n b d key end i s
      → below ≡ k i s → d i < d below → d below ≤ end → side ≡ key (d below - 1) → IsOnWay n b d key end below side
  way_goes_on {key} {end} {i} {s} below side way is deeper within turn =
      let child : IsChild w n b d i s below = subst (λ x. IsChild w n b d i s x) (sym is) (tree.children i s way.slot) in
      let reach : child.reach ≡ d below - 1 = inner_reach child.far deeper in
      let front : (j : ℕ) → j < n → IsUnder b d i s j → Agree (b j) (b below) (d below - 1) = λ j h u. agree_less (d below - 1) (omega (arith, reach)) (child.alike j h u) in
      let higher : (j : ℕ) → IsUnder b d below side j → IsUnder b d i s j = λ j u. under_as j child.under (agree_less (d i) (omega (arith, deeper)) u.path) in
      record {
        slot = record { there = child.there; real = λ h. omega (arith, deeper); one = λ e. absurd (omega (arith, deeper, e)) };
        low = within;
        all = λ j h a. record {
          path = front j h (way.all j h a);
          turn = λ some. a.each (d below - 1) (omega (arith, some, within)) ∙ sym turn;
        };
        best = λ j p h a. elim (way.best j p h a) [
          | inl above ↦ elim (cases_same (b j (d below - 1)) side) [
            | inl same ↦ inl (record { path = front j h above; turn = λ some. same })
            | inr parts ↦
                let few : p ≤ d below - 1 = elim (cases_lt (d below - 1) p) [
                  | inl far ↦ absurd (parts (a.each (d below - 1) far ∙ sym turn))
                  | inr near ↦ near
                ] in
                inr (λ o less u. agree_on (agree_less p few (agree_on u.path (agree_back (front j h above)))) a)
          ]
          | inr other ↦ inr (λ o less u. other o less (higher o u))
        ];
      }

  -- what the slot names is an item, or its node
  pub way_names : {key : ℕ → Bool} {end i : ℕ} {s : Bool} → IsOnWay n b d key end i s → k i s < n
  way_names {key} {end} {i} {s} way = (tree.children i s way.slot).there

  -- where a descent ends, an item that is as the key is as what the slot names
  pub way_equal : {key : ℕ → Bool} {end i : ℕ} {s : Bool} → IsOnWay n b d key end i s → (d i < d (k i s) → end < d (k i s)) → end ≤ w
      → (j : ℕ) → j < n → Agree (b j) key end → Agree (b (k i s)) key end
  way_equal {key} {end} {i} {s} way stop within j h a = grind (arith, agree_back, agree_less, agree_on, stop_reach, tree)

  -- and if what the slot names parts from the key, no item is as the key any farther
  pub way_parts : {key : ℕ → Bool} {end i : ℕ} {s : Bool} (position : ℕ) → IsOnWay n b d key end i s → (d i < d (k i s) → end < d (k i s)) → end ≤ w
      → position < end → Agree (b (k i s)) key position → b (k i s) position ≢ key position → IsParting n b key (k i s) position
  way_parts {key} {end} {i} {s} position way stop within low same differ = grind (arith, stop_reach, tree)

  -- Two slots over one item.

  -- if one is at a deeper node, the other names a node that is no deeper than that
  above : {i o l : ℕ} {s t : Bool} → IsSlot n d i s → IsSlot n d o t → IsUnder b d i s l → IsUnder b d o t l → d i < d o → (d i < d (k i s)) × (d (k i s) ≤ d o)
  above {i} {o} {l} {s} {t} slot other u v less =
      let position = d o - 1 in
      let child = tree.children i s slot in
      let at : (side : Bool) → IsSlot n d o side = λ side. record { there = other.there; real = other.real; one = λ e. absurd (omega (arith, e, less)) } in
      let on = tree.children o true (at true) in
      let off = tree.children o false (at false) in
      let under : (j : ℕ) → Agree (b j) (b o) position → IsUnder b d i s j = λ j a. under_as j u (agree_less (d i) (omega (arith, less)) (agree_on a (agree_back v.path))) in
      let near : child.reach ≤ position = elim (cases_lt position child.reach) [
        | inr near ↦ near
        | inl far ↦ absurd (true≢false (
            sym (on.under.turn (omega (arith, less)))
            ∙ (child.alike (k o true) on.there (under (k o true) on.under.path)).each position far
            ∙ sym ((child.alike (k o false) off.there (under (k o false) off.under.path)).each position far)
            ∙ off.under.turn (omega (arith, less))
            ))
      ] in
      elim child.far [
        | inl inner ↦ (inner.0, omega (arith, inner.1, inner.0, near, less))
        | inr leaf ↦ absurd (omega (arith, leaf.1, near, less, tree.within o other.there))
      ]

  first_node : {i : ℕ} {s : Bool} → IsSlot n d i s → d i ≤ 0 → i ≡ 0
  first_node {i} slot none = grind (arith, cases_lt)

  -- at nodes of one depth they are one slot
  same_slot : {i o l : ℕ} {s t : Bool} → IsSlot n d i s → IsSlot n d o t → IsUnder b d i s l → IsUnder b d o t l → d i ≡ d o → (i ≡ o) × (s ≡ t)
  same_slot {i} {o} {l} {s} {t} slot other u v same = grind (arith, agree_back, agree_on, cases_lt, first_node, tree)

  pub two_slots : {i o l : ℕ} {s t : Bool} → IsSlot n d i s → IsSlot n d o t → IsUnder b d i s l → IsUnder b d o t l → (i ≡ o → s ≢ t)
      → ((d i < d o) × (d i < d (k i s)) × (d (k i s) ≤ d o)) ⊎ ((d o < d i) × (d o < d (k o t)) × (d (k o t) ≤ d i))
  two_slots {i} {o} {l} {s} {t} slot other u v apart = elim (cases_order (d i) (d o)) [
    | inl same ↦ let e = same_slot slot other u v same in absurd (apart e.0 e.1)
    | inr differ ↦ elim differ [
      | inl less ↦ let f = above slot other u v less in inl (less, f.0, f.1)
      | inr more ↦ let f = above other slot v u more in inr (more, f.0, f.1)
    ]
  ]

-- Tries of the same items.

module _ {b b' : ℕ → ℕ → Bool} {d d' : ℕ → ℕ} {i : ℕ} {s : Bool} where
  pub under_same : {j : ℕ} → b j ≡ b' j → b i ≡ b' i → d i ≡ d' i → IsUnder b d i s j → IsUnder b' d' i s j
  under_same {j} item node depth u = grind arith

pub same_tree : {w n : ℕ} {b b' : ℕ → ℕ → Bool} {d d' : ℕ → ℕ} {k : ℕ → Bool → ℕ} → IsTree w n b d k
    → ((i : ℕ) → i < n → b i ≡ b' i) → ((i : ℕ) → i < n → d i ≡ d' i) → IsTree w n b' d' k
same_tree {w} {n} {b} {b'} {d} {d'} {k} tree keys depths = grind (arith, under_same)

-- The nodes as they are kept.

-- nodes that are a trie of some items make a tree of them
pub trie_tree : {w : ℕ} (n : ℕ) (keys : ℕ → ℕ → Bool) (nodes : List Node) → IsTrieOf w n keys nodes → 0 < n → IsTree w n keys (depth_of nodes) (child_of nodes)
trie_tree {w} zero keys nodes trie some = absurd (omega (arith, some))
trie_tree {w} (suc n) keys nodes trie some = trie.1

pub trie_length : (w n : ℕ) (keys : ℕ → ℕ → Bool) (nodes : List Node) → IsTrieOf w n keys nodes → length nodes ≡ n
trie_length w n keys nodes trie = grind arith

-- without the newest item
pub trie_back : (w : ℕ) (keys : ℕ → ℕ → Bool) (nodes : List Node) → 0 < length nodes → IsTrieOf w (length nodes) keys nodes
    → IsTrieOf w (length (without_newest nodes)) keys (without_newest nodes)
trie_back w keys nodes some trie = grind (arith, trie_length)

-- other keys of which those items have the same
pub trie_same : (w n : ℕ) (keys others : ℕ → ℕ → Bool) (nodes : List Node) → ((i : ℕ) → i < n → keys i ≡ others i) → IsTrieOf w n keys nodes → IsTrieOf w n others nodes
trie_same w zero keys others nodes same trie = trie
trie_same w (suc n) keys others nodes same trie =
    (trie.0, same_tree trie.1 same (λ i h. refl), trie.2, trie_same w n keys others (without_newest nodes) (λ i h. same i (omega (arith, h))) trie.3)

module _ (w : ℕ) (keys : ℕ → ℕ → Bool) (trie : Trie) (is : IsTrie w keys trie) {key : ℕ → Bool} {end : ℕ} (slot : Slot) (descent : IsWayTo keys trie key end slot) where
  tree : IsTree w (item_count trie) keys (depth_of (nodes_of trie)) (child_of (nodes_of trie))
  tree = trie_tree (item_count trie) keys (nodes_of trie) is (omega (arith, descent.way.slot.there))

  -- and so does an item that parts behind the last node of the descent
  pub end_opens : {bits : ℕ → Bool} (position : ℕ) → position < end → depth_of (nodes_of trie) slot.node ≤ position → IsParting (item_count trie) keys bits (child_at trie slot) position → IsOpening keys trie bits slot position
  end_opens {bits} position before low part = grind (arith, tree)

  -- what the slot at its end names is as the key at least as far as any other item is
  pub way_nearest : end ≤ w → IsNearest keys trie key end (child_at trie slot)
  way_nearest within = grind (arith, tree, way_equal, way_names, way_parts)

-- Where an item parts, of whose bits and of the nearest item's only those before the end are known.
pub parts_as : {keys : ℕ → ℕ → Bool} {trie : Trie} {key : ℕ → Bool} {end near : ℕ} → IsNearest keys trie key end near → (bits other : ℕ → Bool) (position : ℕ) → position < end → Agree key bits end → Agree other (keys near) end
    → Agree key other position → key position ≢ other position → Agree key bits (position + 1) × IsParting (item_count trie) keys bits near position
parts_as {keys} {trie} {key} {end} {near} n bits other position low as_bits as_near same differ =
    let parting = n.parts position low (agree_back (agree_on same (agree_less position (omega (arith, low)) as_near))) (λ e. differ (sym (as_near.each position low ∙ e))) in
    let so_far = agree_less (position + 1) (omega (arith, low)) as_bits in (
      so_far,
      record {
        there = parting.there;
        same = agree_on parting.same (agree_less position (omega (arith, low)) as_bits);
        differ = λ e. parting.differ (e ∙ sym (as_bits.each position low));
        best = λ j h a. parting.best j h (agree_on a (agree_back so_far));
      },
    )

-- with the same nodes, an item comes in at the same slot
pub opening_same : {keys : ℕ → ℕ → Bool} {bits : ℕ → Bool} {slot : Slot} {position : ℕ} {one other : Trie} → nodes_of other ≡ nodes_of one → IsOpening keys one bits slot position → IsOpening keys other bits slot position
opening_same same opening = grind arith
