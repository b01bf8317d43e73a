-- The definitions, computed on worked examples: texts that name points, and vertices.
use Rattle.board_points.proofs.Common.{◌≡◌, [], ◌∷◌, refl, Some, point_value, rect_value, vertex_of, None}

-- `ZZ`, `Aa`, `aA`
ZZ_on_52 : point_value (90 ∷ 90 ∷ []) 52 ≡ Some (record { col = 51; row = 51 })
unfolding point_value
ZZ_on_52 = refl

Aa_on_26 : point_value (65 ∷ 97 ∷ []) 26 ≡ None
unfolding point_value
Aa_on_26 = refl

Aa_on_27 : point_value (65 ∷ 97 ∷ []) 27 ≡ Some (record { col = 26; row = 0 })
unfolding point_value
Aa_on_27 = refl

aA_on_25 : point_value (97 ∷ 65 ∷ []) 25 ≡ None
unfolding point_value
aA_on_25 = refl

-- `aa:ca` is the top row, `ab:ba` has its corners the wrong way round
top_row : rect_value (97 ∷ 97 ∷ 58 ∷ 99 ∷ 97 ∷ []) 3 ≡ Some (record { first = record { col = 0; row = 0 }; last = record { col = 2; row = 0 } })
unfolding rect_value
top_row = refl

other_corners : rect_value (97 ∷ 98 ∷ 58 ∷ 98 ∷ 97 ∷ []) 3 ≡ None
unfolding rect_value
other_corners = refl

-- J1 and Z25
J1_on_9 : vertex_of (record { col = 8; row = 8 }) 9 ≡ record { letter = 74; row = 1 }
unfolding vertex_of
J1_on_9 = refl

Z25_on_25 : vertex_of (record { col = 24; row = 0 }) 25 ≡ record { letter = 90; row = 25 }
unfolding vertex_of
Z25_on_25 = refl
