-- The print, computed on worked examples.
use Rattle.board_past.proofs.Common.{◌≡◌, ◌%◌, ◌^◌, refl, Black as B, White as W, empty_grid, with_cell, print_of}

-- the low 14 bits of prints: black on `me` alone and on `yy` alone, white on `ca` alone
black_on_me : print_of (with_cell (empty_grid 25) (record { col = 12; row = 4 }) B) % 2 ^ 14 ≡ 1
unfolding print_of
black_on_me = refl

black_on_yy : print_of (with_cell (empty_grid 25) (record { col = 24; row = 24 }) B) % 2 ^ 14 ≡ 1
unfolding print_of
black_on_yy = refl

white_on_ca : print_of (with_cell (empty_grid 3) (record { col = 2; row = 0 }) W) % 2 ^ 14 ≡ 13954
unfolding print_of
white_on_ca = refl
