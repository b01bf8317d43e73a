use Rattle.board_stones.proofs.Common.{◌≡◌, ◌*◌, ap, ◌∙◌, List, ℕ, length, true, subst, length-set, Point, index_of, is_set, Colour, play, has_unreaching, stone_of, Grid, with_cell, IsWithout, Clears}
use Rattle.board_stones.proofs.SettledLemmas.{settled_by_play}
use Rattle.board_stones.proofs.ClearedLemmas.{same_without}
use Rattle.board_stones.proofs.board.Board.place_and_clear.Goals as goal

played : (g h i : Grid) (k : Colour) (p : Point) (rows : List ℕ) → length g.cells ≡ g.side * g.side → h ≡ with_cell g p (stone_of k) → IsWithout h i (λ q. is_set rows q ≡ true) → Clears g k p rows → i ≡ play g k p
played g h i k p rows all here is takes =
    same_without (with_cell g p (stone_of k)) i (play g k p) rows (length-set g.cells (index_of g.side p) (stone_of k) ∙ all)
    (subst (λ x. IsWithout x i (λ q. is_set rows q ≡ true)) here is)
    takes.played

pub set_settled-requires : goal.set_settled-requires
set_settled-requires c = λ _.
    ap has_unreaching (played c.args.self.now _ _ c.args.colour c.args.point _ c.has_all_cells.ensures.all c.add.ensures c.empty_set.ensures c.requires.cleared)
    ∙ settled_by_play c.args.self.now c.args.colour c.args.point

pub returns : goal.returns
returns c =
    c.set_settled.ensures
    ∙ played c.args.self.now _ _ c.args.colour c.args.point _ c.has_all_cells.ensures.all c.add.ensures c.empty_set.ensures c.requires.cleared
