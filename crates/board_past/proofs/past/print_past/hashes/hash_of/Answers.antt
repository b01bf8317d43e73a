use Rattle.board_past.proofs.Common.{◌≡◌, ℕ, suc, ◌+◌, ◌++◌, List, ap, subst, ◌∙◌, arith, w64, from_be_bytes, Black, White, same_cell, cell_at, columns_bytes, columns_of, hash_of, rows_bytes, Holds512}
use Rattle.sha2.specs.Sha512.{sha512}
use Rattle.board_past.proofs.HashLemmas.{number_is}
use Rattle.board_past.proofs.past.print_past.hashes.hash_of.Goals as goal

pub loop-row-preserved : goal.loop-row-preserved
loop-row-preserved c =
    let g = c.args.board.now in
    let row = c.loop-row.row in
    let side = c.side-side.result in
    let black = c.columns_of in
    let white = c.columns_of-in-loop-row in
    let before = rows_bytes g row in
    let all : side ≡ g.side = omega (arith, c.side-side.ensures.value, c.size.ensures) in
    let black_is : black.result ≡ columns_of g Black row =
    number_is g.side black.result (λ col. same_cell (cell_at g (record { col = col; row = row })) Black) black.ensures.within black.ensures.off in
    let white_is : white.result ≡ columns_of g White row =
    number_is g.side white.result (λ col. same_cell (cell_at g (record { col = col; row = row })) White) white.ensures.within white.ensures.off in
    let holds = c.add_columns-in-loop-row.ensures (before ++ columns_bytes side black.result) (c.add_columns.ensures before c.loop-row.invariant) in
    let next : suc row ≡ row + 1 = omega arith in
    let bytes : before ++ columns_bytes side black.result ++ columns_bytes side white.result ≡ rows_bytes g (row + 1) =
    ap (λ n. before ++ columns_bytes n black.result ++ columns_bytes n white.result) all
    ∙ ap (λ n. before ++ columns_bytes g.side n ++ columns_bytes g.side white.result) black_is
    ∙ ap (λ n. before ++ columns_bytes g.side (columns_of g Black row) ++ columns_bytes g.side n) white_is
    ∙ ap (λ n. rows_bytes g n) next in
    subst (λ (message : List ℕ). Holds512 c.add_columns-in-loop-row.new.hasher message) bytes holds

pub returns : goal.returns
unfolding hash_of
returns c =
    let g = c.args.board.now in
    let all : c.loop-row.row ≡ g.side = omega (arith, c.loop-row-test.false, c.loop-row.auto.row-end, c.side-side.ensures.value, c.size.ensures) in
    c.from_be_bytes.ensures
    ∙ ap (λ (digest : List ℕ). from_be_bytes w64 digest) (c.finalize-digest.ensures (rows_bytes g c.loop-row.row) c.loop-row.invariant ∙ ap (λ n. sha512 (rows_bytes g n)) all)
