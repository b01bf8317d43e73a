-- One item more comes into a trie.
use Rattle.key_trie.proofs.Common.{◌≡◌, ◌≢◌, ℕ, suc, ◌+◌, ◌-◌, ◌<◌, ◌≤◌, ◌==◌, Bool, false, not, if◌then◌else◌, List, [], ◌∷◌, ◌++◌, length, take, length-append, inl, inr, refl, sym, ap, subst, ◌∙◌, arith, below_more, eq-eqb, ne_eqb, get_or-set_same, get_or-set_other, set-set, length-set, cases_lt, cases_eq, get_or_append_left, set-get_or, Node, Slot, Trie, Agree, IsUnder, IsSlot, IsChild, IsTree, IsParting, IsOpening, IsTrieOf, IsTrie, nodes_of, item_count, no_node, node_at, depth_of, child_of, named, with_child, with_named, displaced, without_newest}
use Rattle.std.proofs.Math.Seq.{get_or-append_seam, take-append_seam}
use Rattle.key_trie.proofs.TrieLemmas.{agree_back, agree_less, agree_more, agree_on, agree_self, cases_same, inner_reach, not_itself, other_bit, same_tree, stop_reach, trie_tree, two_slots, under_as, under_both, under_same}

-- One item more.

-- a slot that keeps what it names
grown : {w n : ℕ} {b : ℕ → ℕ → Bool} {d : ℕ → ℕ} {o r : ℕ} {t : Bool} (child : IsChild w n b d o t r) → (IsUnder b d o t n → Agree (b n) (b r) child.reach) → IsChild w (n + 1) b d o t r
grown {w} {n} {b} {d} {o} {r} {t} child new = grind arith

-- Item `n` parts from item `l` at position `p`, and from no item later. The slot is where the descent by its bits ends before that
-- position.
module _ {w n : ℕ} {b : ℕ → ℕ → Bool} {d : ℕ → ℕ} {k : ℕ → Bool → ℕ} (tree : IsTree w n b d k) {i l p : ℕ} {s : Bool} (slot : IsSlot n d i s) (low : d i ≤ p) (stop : d i < d (k i s) → p < d (k i s)) (under : IsUnder b d i s l) (part : IsParting n b (b n) l p) (within : p < w) (depth : d n ≡ p + 1) where
  near : p ≤ (tree.children i s slot).reach
  near = stop_reach p (tree.children i s slot).far stop (omega (arith, within))

  front : (j : ℕ) → j < n → IsUnder b d i s j → Agree (b j) (b n) p
  front j h u = grind (arith, agree_back, agree_less, agree_on, near)

  -- no node is at that position behind the same bits
  no_node_there : (o : ℕ) → o < n → d o ≡ p + 1 → Agree (b o) (b n) p → ⊥
  no_node_there o h e a =
      let side = b n p in
      let child = tree.children o side (record { there = h; real = λ x. omega (arith, e); one = λ x. absurd (omega (arith, e, x)) }) in
      let position : d o - 1 ≡ p = omega (arith, e) in
      part.best (k o side) child.there
      (agree_more (p + 1) (omega arith) (agree_on (agree_less p (omega (arith, position)) child.under.path) a)
      (subst (λ m. b (k o side) m ≡ side) position (child.under.turn (omega (arith, e)))))

  abbrev IsAlone : ℕ → ℕ → Type 0
  IsAlone x y = 0 < d x → d x ≡ d y → Agree (b x) (b y) (d x - 1) → x ≡ y

  apart_from : (o : ℕ) → o < n → d o ≡ d n → Agree (b o) (b n) (d o - 1) → o ≡ n
  apart_from o before same a =
      let at : d o ≡ p + 1 = same ∙ depth in
      absurd (no_node_there o before at (agree_less p (omega (arith, at)) a))

  deep : d i < d (k i s) → p + 1 < d (k i s)
  deep inner = grind (arith, cases_lt, front, no_node_there)

  turned : b (k i s) p ≡ not (b n p)
  turned = grind (arith, deep, other_bit)

  -- another slot over the new item
  elsewhere : (o : ℕ) (t : Bool) (other : IsSlot n d o t) → (i ≡ o → s ≢ t) → IsUnder b d o t n → Agree (b n) (b (k o t)) (tree.children o t other).reach
  elsewhere o t other apart new =
      let child = tree.children o t other in
      let few : d o ≤ p = elim (cases_lt p (d o)) [
        | inl far ↦ absurd (part.best (k o t) child.there (agree_less (p + 1) (omega (arith, far)) (under_both child.under new)))
        | inr few ↦ few
      ] in
      let over : IsUnder b d o t l = under_as l new (agree_less (d o) few part.same) in
      elim (two_slots tree slot other under over apart) [
        | inl x ↦ absurd (omega (arith, stop x.1, x.2, few))
        | inr x ↦
            let reach : child.reach ≡ d (k o t) - 1 = inner_reach child.far x.1 in
            agree_on (agree_less child.reach (omega (arith, reach, x.2, low)) (agree_back part.same)) (child.alike l part.there over)
      ]

  here : IsChild w (n + 1) b d i s n
  here = record {
    there = omega arith;
    under = under_as n under (agree_less (d i) low (agree_back part.same));
    reach = p;
    far = inl (omega (arith, low, depth), omega (arith, depth));
    alike = below_more (λ x. IsUnder b d i s x → Agree (b x) (b n) p) n front (λ u. agree_self (b n) p);
  }

  own : IsChild w (n + 1) b d n (b n p) n
  own =
      let position : d n - 1 ≡ p = omega (arith, depth) in
      record {
        there = omega arith;
        under = record { path = agree_self (b n) (d n - 1); turn = λ some. ap (b n) position };
        reach = w;
        far = inr (omega arith, refl);
        alike = below_more (λ x. IsUnder b d n (b n p) x → Agree (b x) (b n) w) n
            (λ j before u. absurd (part.best j before (agree_more (p + 1) (omega arith) (subst (λ m. Agree (b j) (b n) m) position u.path) (subst (λ m. b j m ≡ b n p) position (u.turn (omega (arith, depth)))))))
            (λ u. agree_self (b n) w);
      }

  rest : IsChild w (n + 1) b d n (not (b n p)) (k i s)
  rest =
      let r = k i s in
      let child = tree.children i s slot in
      let position : d n - 1 ≡ p = omega (arith, depth) in
      record {
        there = omega (arith, child.there);
        under = record {
          path = agree_less (d n - 1) (omega (arith, position)) (front r child.there child.under);
          turn = λ some. subst (λ m. b r m ≡ not (b n p)) (sym position) turned;
        };
        reach = child.reach;
        far = elim child.far [
          | inl is ↦ inl (omega (arith, depth, deep is.0), is.1)
          | inr is ↦ inr (omega (arith, depth, low, is.0), is.1)
        ];
        alike = below_more (λ x. IsUnder b d n (not (b n p)) x → Agree (b x) (b r) child.reach) n
            (λ j before u. child.alike j before (under_as j under (agree_less (d i) low (agree_on (subst (λ m. Agree (b j) (b n) m) position u.path) (agree_back part.same)))))
            (λ u. absurd (not_itself (b n p) (subst (λ m. b n m ≡ not (b n p)) position (u.turn (omega (arith, depth))))));
      }

  pub parted_tree : (k' : ℕ → Bool → ℕ) → k' i s ≡ n → k' n (b n p) ≡ n → k' n (not (b n p)) ≡ k i s
      → ((o : ℕ) (t : Bool) → o < n → (i ≡ o → s ≢ t) → k' o t ≡ k o t) → IsTree w (n + 1) b d k'
  parted_tree k' to_new to_own to_rest others = record {
    root = λ some. tree.root (omega (arith, slot.there));
    within = below_more (λ x. d x ≤ w) n tree.within (omega (arith, depth, within));
    children = λ o t at. below_more (λ x. IsSlot (n + 1) d x t → IsChild w (n + 1) b d x t (k' x t)) n (kept t) (λ _. newest t) o at.there at;
    alone = λ one other h g. below_more (λ x. IsAlone x other) n (λ x before. below_more (λ y. IsAlone x y) n (λ y. tree.alone x y before) (λ _ same. apart_from x before same) other g)
        (below_more (λ y. IsAlone n y) n (λ y before _ same a. sym (apart_from y before (sym same) (subst (λ m. Agree (b y) (b n) (m - 1)) same (agree_back a)))) (λ _ _ _. refl) other g) one h;
  }
    where
      newest : (t : Bool) → IsChild w (n + 1) b d n t (k' n t)
      newest t = elim (cases_same t (b n p)) [
        | inl same ↦ subst (λ x. IsChild w (n + 1) b d n x (k' n x)) (sym same) (subst (λ x. IsChild w (n + 1) b d n (b n p) x) (sym to_own) own)
        | inr other ↦ subst (λ x. IsChild w (n + 1) b d n x (k' n x)) (sym (other_bit t (b n p) other)) (subst (λ x. IsChild w (n + 1) b d n (not (b n p)) x) (sym to_rest) rest)
      ]

      kept : (t : Bool) (o : ℕ) → o < n → IsSlot (n + 1) d o t → IsChild w (n + 1) b d o t (k' o t)
      kept t o before at =
          let old : IsSlot n d o t = record { there = before; real = at.real; one = at.one } in
          let stays : (i ≡ o → s ≢ t) → IsChild w (n + 1) b d o t (k' o t) = λ apart.
          subst (λ x. IsChild w (n + 1) b d o t x) (sym (others o t before apart)) (grown (tree.children o t old) (elsewhere o t old apart))
          in
          elim (cases_eq i o) [
            | inr apart ↦ stays (λ e. absurd (apart e))
            | inl same_node ↦ elim (cases_same s t) [
              | inr apart ↦ stays (λ e. apart)
              | inl same_side ↦
                  let goes : IsChild w (n + 1) b d i s (k' i s) = subst (λ x. IsChild w (n + 1) b d i s x) (sym to_new) here in
                  subst (λ x. IsChild w (n + 1) b d x t (k' x t)) same_node (subst (λ x. IsChild w (n + 1) b d i x (k' i x)) same_side goes)
            ]
          ]

-- Item `n` equals item `l`: no slot changes.
pub repeated_tree : {w n : ℕ} {b : ℕ → ℕ → Bool} {d : ℕ → ℕ} {k : ℕ → Bool → ℕ} (tree : IsTree w n b d k) {l : ℕ} → l < n → Agree (b l) (b n) w → d n ≡ 0
    → (k' : ℕ → Bool → ℕ) → ((o : ℕ) (t : Bool) → o < n → k' o t ≡ k o t) → IsTree w (n + 1) b d k'
repeated_tree {w} {n} {b} {d} {k} tree {l} there same depth k' kept = record {
  root = λ some. tree.root (omega (arith, there));
  within = below_more (λ x. d x ≤ w) n tree.within (omega (arith, depth));
  children = λ o t at. below_more (λ x. IsSlot (n + 1) d x t → IsChild w (n + 1) b d x t (k' x t)) n
      (λ o before at.
      let old : IsSlot n d o t = record { there = before; real = at.real; one = at.one } in
      let child = tree.children o t old in
      let few : child.reach ≤ w = elim child.far [ inl is ↦ omega (arith, is.1, tree.within (k o t) child.there) | inr is ↦ omega (arith, is.1) ] in
      subst (λ x. IsChild w (n + 1) b d o t x) (sym (kept o t before)) (grown child (λ new.
      agree_on (agree_less child.reach few (agree_back same)) (child.alike l there (under_as l new (agree_less (d o) (tree.within o before) same))))))
      (λ at. absurd (omega (arith, at.real (omega (arith, there)), depth))) o at.there at;
  alone = λ one other h g. below_more (λ x. 0 < d x → d x ≡ d other → Agree (b x) (b other) (d x - 1) → x ≡ other) n
      (λ x before. below_more (λ y. 0 < d x → d x ≡ d y → Agree (b x) (b y) (d x - 1) → x ≡ y) n (λ y. tree.alone x y before) (λ some same_depth _. absurd (omega (arith, some, same_depth, depth))) other g)
      (λ some _ _. absurd (omega (arith, some, depth))) one h;
}

-- the first item
pub first_tree : (w : ℕ) (b : ℕ → ℕ → Bool) (d : ℕ → ℕ) (k : ℕ → Bool → ℕ) → d 0 ≡ 0 → k 0 false ≡ 0 → IsTree w 1 b d k
first_tree w b d k depth named = record {
  root = λ some. depth;
  within = λ o h. let e : o ≡ 0 = omega (arith, h) in subst (λ x. d x ≤ w) (sym e) (omega (arith, depth));
  children = λ o t at.
      let e : o ≡ 0 = omega (arith, at.there) in
      let side : t ≡ false = at.one (ap d e ∙ depth) in
      subst (λ x. IsChild w 1 b d x t (k x t)) (sym e) (subst (λ x. IsChild w 1 b d 0 x (k 0 x)) (sym side) (subst (λ x. IsChild w 1 b d 0 false x) (sym named) (record {
        there = omega arith;
        under = record { path = agree_self (b 0) (d 0 - 1); turn = λ some. absurd (omega (arith, some, depth)) };
        reach = w;
        far = inr (omega arith, refl);
        alike = λ j h u. let f : j ≡ 0 = omega (arith, h) in subst (λ x. Agree (b x) (b 0) w) (sym f) (agree_self (b 0) w);
      })));
  alone = λ one other h g some same a. omega (arith, h, g);
}

depth-with_child : (node : Node) (s : Bool) (x : ℕ) → (with_child node s x).depth ≡ node.depth
depth-with_child node s x = grind arith

named-with_child : (node : Node) (s : Bool) (x : ℕ) → named (with_child node s x) s ≡ x
named-with_child node s x = grind arith

named-with_other : (node : Node) (s t : Bool) (x : ℕ) → s ≢ t → named (with_child node s x) t ≡ named node t
named-with_other node s t x apart = grind arith

with_child-back : (node : Node) (s : Bool) (x : ℕ) → with_child (with_child node s x) s (named node s) ≡ node
with_child-back node s x = grind arith

-- what a slot named, named again
named-back : (nodes : List Node) (i : ℕ) (s : Bool) (x : ℕ) → i < length nodes → with_named (with_named nodes i s x) i s (child_of nodes i s) ≡ nodes
named-back nodes i s x h = grind (arith, get_or-set_same, set-get_or, set-set, with_child-back)

abbrev undone : ℕ → Node → List Node → List Node
undone number newest front = if newest.up == number then front else with_named front newest.up newest.up_side (displaced number newest)

-- without a node at the end, the nodes are as it says
without_last : (older : List Node) (node : Node) (n : ℕ) → length older ≡ n → without_newest (older ++ node ∷ []) ≡ undone n node older
without_last older node n count =
    let nodes = older ++ node ∷ [] in
    let number : length nodes - 1 ≡ n = omega (arith, length-append older (node ∷ []), count) in
    let newest : node_at nodes n ≡ node = subst (λ m. node_at nodes m ≡ node) count (get_or-append_seam older node [] no_node) in
    let rest : take n nodes ≡ older = subst (λ m. take m nodes ≡ older) count (take-append_seam older (node ∷ [])) in
    ap (λ m. undone m (node_at nodes m) (take m nodes)) number
    ∙ ap (λ (one : Node). undone n one (take n nodes)) newest
    ∙ ap (λ (xs : List Node). undone n node xs) rest

-- the node of an item that parts from the others at a position, at the end of the descent by its bits
pub record IsParted (nodes : List Node) (key : ℕ → Bool) (position i : ℕ) (s : Bool) (node : Node) : Type 0 where
  pub depth : node.depth ≡ position + 1
  pub up : node.up ≡ i
  pub up_side : node.up_side ≡ s
  pub own : named node (key position) ≡ length nodes
  pub rest : named node (not (key position)) ≡ child_of nodes i s

displaced-parted : (node : Node) (side : Bool) (n r : ℕ) → named node side ≡ n → named node (not side) ≡ r → r < n → displaced n node ≡ r
displaced-parted node side n r own rest less = grind (arith, eq-eqb, ne_eqb)

module _ {w : ℕ} (keys : ℕ → ℕ → Bool) (before : Trie) (trie : IsTrie w keys before) (some : 0 < item_count before) where
  pub trie_parted : {p : ℕ} {slot : Slot} (node : Node) → IsOpening keys before (keys (item_count before)) slot p → p < w → IsParted (nodes_of before) (keys (item_count before)) p slot.node slot.side node
      → IsTrieOf w (item_count before + 1) keys (with_named (nodes_of before) slot.node slot.side (item_count before) ++ node ∷ [])
  trie_parted {p} {slot} node opening within parted =
      let nodes = nodes_of before in
      let n = length nodes in
      let i = slot.node in
      let s = slot.side in
      let tree = trie_tree n keys nodes trie some in
      let front = with_named nodes i s n in
      let new = front ++ node ∷ [] in
      let d = depth_of new in
      let old = opening.there in
      let all : length front ≡ n = length-set nodes i (with_child (node_at nodes i) s n) in
      let at : (o : ℕ) → o < n → node_at new o ≡ node_at front o = λ o h. get_or_append_left front (node ∷ []) no_node o (omega (arith, h, all)) in
      let changed : node_at front i ≡ with_child (node_at nodes i) s n = get_or-set_same nodes i (with_child (node_at nodes i) s n) no_node old.there in
      let other : (o : ℕ) → o ≢ i → node_at front o ≡ node_at nodes o = λ o apart. get_or-set_other nodes i o (with_child (node_at nodes i) s n) no_node apart in
      let last : node_at new n ≡ node = subst (λ m. node_at new m ≡ node) all (get_or-append_seam front node [] no_node) in
      let depths : (o : ℕ) → o < n → depth_of nodes o ≡ d o = λ o h. sym (ap (λ (x : Node). x.depth) (at o h) ∙ elim (cases_eq o i) [
        | inl same ↦ ap (λ m. depth_of front m) same ∙ ap (λ (x : Node). x.depth) changed ∙ depth-with_child (node_at nodes i) s n ∙ ap (λ m. depth_of nodes m) (sym same)
        | inr apart ↦ ap (λ (x : Node). x.depth) (other o apart)
      ]) in
      let to_new : child_of new i s ≡ n = ap (λ (x : Node). named x s) (at i old.there ∙ changed) ∙ named-with_child (node_at nodes i) s n in
      let others : (o : ℕ) (t : Bool) → o < n → (i ≡ o → s ≢ t) → child_of new o t ≡ child_of nodes o t = λ o t h apart. ap (λ (x : Node). named x t) (at o h) ∙ elim (cases_eq o i) [
        | inl same ↦ ap (λ m. child_of front m t) same ∙ ap (λ (x : Node). named x t) changed ∙ named-with_other (node_at nodes i) s t n (apart (sym same)) ∙ ap (λ m. child_of nodes m t) (sym same)
        | inr elsewhere_too ↦ ap (λ (x : Node). named x t) (other o elsewhere_too)
      ] in
      let depth_new : d n ≡ p + 1 = ap (λ (x : Node). x.depth) last ∙ parted.depth in
      let to_own : child_of new n (keys n p) ≡ n = ap (λ (x : Node). named x (keys n p)) last ∙ parted.own in
      let to_rest : child_of new n (not (keys n p)) ≡ child_of nodes i s = ap (λ (x : Node). named x (not (keys n p))) last ∙ parted.rest in
      let tree_new = same_tree {b' = keys} {d' = d} tree (λ j h. refl) depths in
      let here_depth = depths i old.there in
      let child = tree.children i s old in
      let child_depth = depths (child_of nodes i s) child.there in
      let at_slot : IsSlot n d i s = record { there = old.there; real = λ h. omega (arith, old.real h, here_depth); one = λ e. old.one (omega (arith, e, here_depth)) } in
      let under : IsUnder keys d i s opening.item = under_same refl refl here_depth opening.under in
      let grown_tree : IsTree w (n + 1) keys d (child_of new) = parted_tree tree_new at_slot (omega (arith, opening.low, here_depth)) (λ inner. omega (arith, opening.stop (omega (arith, inner, here_depth, child_depth)), child_depth)) under opening.part within depth_new
      (child_of new) to_new to_own to_rest others in
      let undo : without_newest new ≡ nodes =
      without_last front node n all
      ∙ ap (λ (t : Bool). if t then front else with_named front node.up node.up_side (displaced n node)) (ne_eqb node.up n (λ e. omega (arith, e, parted.up, old.there)))
      ∙ ap (λ m. with_named front m node.up_side (displaced n node)) parted.up
      ∙ ap (λ (t : Bool). with_named front i t (displaced n node)) parted.up_side
      ∙ ap (λ m. with_named front i s m) (displaced-parted node (keys n p) n (child_of nodes i s) parted.own parted.rest child.there)
      ∙ named-back nodes i s n old.there in
      let next : n + 1 ≡ suc n = omega arith in
      subst (λ m. IsTrieOf w m keys new) (sym next) (
        omega (arith, length-append front (node ∷ []), all),
        subst (λ m. IsTree w m keys d (child_of new)) next grown_tree,
        subst (λ (x : Node). x.up ≤ n) (sym last) (omega (arith, parted.up, old.there)),
        subst (λ (xs : List Node). IsTrieOf w n keys xs) (sym undo) trie,
      )

  -- an item that equals an earlier one
  pub trie_repeated : {l : ℕ} (node : Node) → l < item_count before → Agree (keys l) (keys (item_count before)) w → node.depth ≡ 0 → node.up ≡ item_count before → IsTrieOf w (item_count before + 1) keys (nodes_of before ++ node ∷ [])
  trie_repeated {l} node there same depth up =
      let nodes = nodes_of before in
      let n = length nodes in
      let new = nodes ++ node ∷ [] in
      let d = depth_of new in
      let at : (o : ℕ) → o < n → node_at new o ≡ node_at nodes o = λ o h. get_or_append_left nodes (node ∷ []) no_node o h in
      let last : node_at new n ≡ node = get_or-append_seam nodes node [] no_node in
      let tree_new = same_tree {b' = keys} {d' = d} (trie_tree n keys nodes trie some) (λ j h. refl) (λ o h. sym (ap (λ (x : Node). x.depth) (at o h))) in
      let grown_tree = repeated_tree tree_new there same (ap (λ (x : Node). x.depth) last ∙ depth) (child_of new) (λ o t h. ap (λ (x : Node). named x t) (at o h)) in
      let undo : without_newest new ≡ nodes =
      without_last nodes node n refl
      ∙ ap (λ (t : Bool). if t then nodes else with_named nodes node.up node.up_side (displaced n node)) (eq-eqb node.up n up) in
      let next : n + 1 ≡ suc n = omega arith in
      subst (λ m. IsTrieOf w m keys new) (sym next) (
        omega (arith, length-append nodes (node ∷ [])),
        subst (λ m. IsTree w m keys d (child_of new)) next grown_tree,
        subst (λ (x : Node). x.up ≤ n) (sym last) (omega (arith, up)),
        subst (λ (xs : List Node). IsTrieOf w n keys xs) (sym undo) trie,
      )

pub trie_first : (w : ℕ) (keys : ℕ → ℕ → Bool) (node : Node) → node.depth ≡ 0 → node.up ≡ 0 → node.off ≡ 0 → IsTrieOf w 1 keys (node ∷ [])
trie_first w keys node depth up off =
    (refl, first_tree w keys (depth_of (node ∷ [])) (child_of (node ∷ [])) depth off, omega (arith, up), without_last [] node 0 refl ∙ ap (λ (t : Bool). if t then [] else with_named [] node.up node.up_side (displaced 0 node)) (eq-eqb node.up 0 up))
