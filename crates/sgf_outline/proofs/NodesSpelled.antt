-- Each node's properties are spelled in the text from its `;` on.
use Rattle.sgf_outline.proofs.Common.{◌≡◌, ◌≢◌, ℕ, ◌+◌, ◌-◌, false, List, ◌∷◌, length, drop, All, Option, Some, None, refl, arith, rules, common_steps, All-nil, All-cons, All-append, NoPropertyFollows, OrderedNode, further_nodes, nodes_from, ordered_nodes, is_white_space, is_upper, WhiteSpace, AreProperties, IsNode, node, AreNodes, no_node, nodes, AreGames, no_game, games, Spells, spells, Node, Games, node_count, IsEnd, all, tail, end-drop, end-WhiteSpace, white-not_upper, white-not_bracket, white-byte}
use Rattle.sgf_outline.proofs.Ends.{end-IsNode, end-AreNodes, end-AreGames, end-ByteOrderMark}

-- a byte that is neither ends a node
module _ (b : ℕ) (not_white_space : is_white_space b ≡ false) (not_bracket : b ≢ 91) (not_upper : is_upper b ≡ false) where
  pub ends-at : {r t : List ℕ} → WhiteSpace r (b ∷ t) → NoPropertyFollows r
  ends-at w c u v = grind (arith, common_steps, white-byte, white-not_bracket, white-not_upper)

pub ends-nodes : {whole : ℕ} {ns : List Node} {below : Games} {s r v x : List ℕ} → AreNodes whole ns s r → AreGames whole below r v → WhiteSpace v (41 ∷ x) → NoPropertyFollows s
ends-nodes no_node no_game w = ends-at 41 refl (λ e. absurd (omega arith)) refl w
ends-nodes no_node (games w n ns below v after) x = ends-at 40 refl (λ e. absurd (omega arith)) refl w
ends-nodes (nodes (node w h ps) ns) below x = ends-at 59 refl (λ e. absurd (omega arith)) refl w

module _ (t : List ℕ) where
  -- the properties of a node stand after its `;`
  pub record IsNodeSpelled (n : Node) : Type 0 where
    pub begins : drop n.place t ≡ 59 ∷ drop (n.place + 1) t
    pub rest : List ℕ
    pub spelled : AreProperties n.properties (drop (n.place + 1) t) rest
    pub ends : NoPropertyFollows rest

  node-spelled : {n : Node} {s r : List ℕ} → IsNode (length t) n s r → IsEnd t s → NoPropertyFollows r → IsNodeSpelled n
  node-spelled {r = r} (node {place} {ps} {t = u} w e own) end ends =
      let dropped = end-drop (tail (end-WhiteSpace w end)) in
      let white = end-drop (end-WhiteSpace w end) in
      let at : place + 1 ≡ length t - length u = omega (arith, e) in
      let here : place ≡ length t - length (59 ∷ u) = omega (arith, e) in
      grind (arith, common_steps)

  abbrev Spelled : OrderedNode → Type 0
  Spelled r = IsNodeSpelled r.node

  further-spelled : {ns : List Node} {below : Games} {s r v x : List ℕ} (last : ℕ) → AreNodes (length t) ns s r → AreGames (length t) below r v → WhiteSpace v (41 ∷ x) → IsEnd t s → All Spelled (further_nodes last ns)
  further-spelled last no_node below w end = All-nil Spelled
  further-spelled last (nodes {n} {ns} n_is ns_are) below w end =
      search (rules, All-cons, node-spelled, ends-nodes, (further-spelled (last + 1) ns_are below w (end-IsNode n_is end)))

  games-spelled : {g : Games} {s r : List ℕ} (at : ℕ) (parent : Option ℕ) → AreGames (length t) g s r → IsEnd t s → All Spelled (nodes_from at parent g)
  games-spelled at parent no_game end = All-nil Spelled
  games-spelled at parent (games {first} {more} {below} {after} w n ns low v next) end =
      let last : ℕ = at + length more in
      let first_end = tail (end-WhiteSpace w end) in
      let low_end = end-AreNodes ns (end-IsNode n first_end) in
      let under : List OrderedNode = nodes_from (last + 1) (Some last) below in
      let later : List OrderedNode = nodes_from (last + 1 + node_count below) parent after in
      search (rules, tail, end-WhiteSpace, end-AreNodes, end-IsNode, All-cons, node-spelled, ends-nodes, All-append, further-spelled, (games-spelled (last + 1) (Some last) low low_end), (games-spelled (last + 1 + node_count below) parent next (tail (end-WhiteSpace v (end-AreGames low low_end)))))

  pub ordered-spelled : (c : Games) → Spells c t → All Spelled (ordered_nodes c)
  ordered-spelled c (spells m are end) = games-spelled 0 None are (end-ByteOrderMark m all)
