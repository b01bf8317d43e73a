-- What is left after a node, or after games, is an end of what was left before.
use Rattle.sgf_outline.proofs.Common.{ℕ, List, IsNode, node, AreNodes, no_node, nodes, AreGames, no_game, games, ByteOrderMark, no_byte_order_mark, byte_order_mark, Node, Games, IsEnd, tail, end-WhiteSpace, end-AreProperties}

module _ {t : List ℕ} where
  pub end-IsNode : {whole : ℕ} {n : Node} {s r : List ℕ} → IsNode whole n s r → IsEnd t s → IsEnd t r
  end-IsNode (node w h ps) e = end-AreProperties ps (tail (end-WhiteSpace w e))

  pub end-AreNodes : {whole : ℕ} {ns : List Node} {s r : List ℕ} → AreNodes whole ns s r → IsEnd t s → IsEnd t r
  end-AreNodes no_node e = e
  end-AreNodes (nodes n ns) e = end-AreNodes ns (end-IsNode n e)

  pub end-AreGames : {whole : ℕ} {g : Games} {s r : List ℕ} → AreGames whole g s r → IsEnd t s → IsEnd t r
  end-AreGames no_game e = e
  end-AreGames (games w n ns below v after) e =
      end-AreGames after (tail (end-WhiteSpace v (end-AreGames below (end-AreNodes ns (end-IsNode n (tail (end-WhiteSpace w e)))))))

  pub end-ByteOrderMark : {s r : List ℕ} → ByteOrderMark s r → IsEnd t s → IsEnd t r
  end-ByteOrderMark no_byte_order_mark e = e
  end-ByteOrderMark byte_order_mark e = tail (tail (tail e))
