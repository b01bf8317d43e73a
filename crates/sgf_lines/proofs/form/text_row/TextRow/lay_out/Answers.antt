-- The row shows the line's place, its game and the number of its nodes.
use Rattle.sgf_lines.proofs.Common.{Line, Verdict, place_of, row_of, verdict_text, ◌≡◌, ◌∙◌, [], ◌∷◌, ◌++◌, List, ℕ, Some, append_assoc, decimal, codes, length, ap, arith, rules, drop_all}
use Rattle.sgf_lines.proofs.form.text_row.TextRow.lay_out.Goals as goal

row_made : (line : Line) (told : Verdict) (place game count : ℕ) (text : List ℕ)
    → Some (place_of line) ≡ Some place → Some line.game_number ≡ Some game → count ≡ length line.nodes
    → text ≡ decimal place ++ (32 ∷ (decimal game ++ (32 ∷ (decimal count ++ (32 ∷ (verdict_text told ++ (10 ∷ []))))))) → text ≡ row_of line told ++ codes "\n"
row_made line told place game count text p g n is = search (rules, append_assoc)

pub returns-clause-text : goal.returns-clause-text
returns-clause-text c = λ line before.
    row_made line c.args.verdict _ _ _ _ (rw before at c.place.ensures) (rw before at c.game.ensures) (rw before at c.len.ensures.nodes)
    (c.put_number-3.ensures.text ∙ ap (λ t. decimal c.place.result ++ t) (c.put-4.ensures.text
    ∙ ap (λ t. 32 ∷ t) (c.put_number-2.ensures.text ∙ ap (λ t. decimal c.game.result ++ t) (c.put-3.ensures.text
    ∙ ap (λ t. 32 ∷ t) (c.put_number.ensures.text ∙ ap (λ t. decimal c.len.result ++ t) (c.put-2.ensures.text
    ∙ ap (λ t. 32 ∷ t) (c.put_verdict.ensures.text ∙ ap (λ t. verdict_text c.args.verdict ++ t) (c.put.ensures.text
    ∙ ap (λ t. 10 ∷ t) (drop_all 160 c.args.self.now.bytes (search rules))))))))))

pub put-requires : goal.put-requires
put-requires c = omega arith

pub put_verdict-requires : goal.put_verdict-requires
put_verdict-requires c = omega arith

pub put-requires-2 : goal.put-requires-2
put-requires-2 c = omega arith

pub put_number-requires : goal.put_number-requires
put_number-requires c = omega arith

pub put-requires-3 : goal.put-requires-3
put-requires-3 c = omega arith

pub put_number-requires-2 : goal.put_number-requires-2
put_number-requires-2 c = omega arith

pub put-requires-4 : goal.put-requires-4
put-requires-4 c = omega arith

pub put_number-requires-3 : goal.put_number-requires-3
put_number-requires-3 c = omega arith

pub returns-clause-room : goal.returns-clause-room
returns-clause-room c = omega arith
