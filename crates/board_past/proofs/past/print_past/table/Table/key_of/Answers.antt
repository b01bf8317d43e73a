use Rattle.board_past.proofs.Common.{◌≡◌, ℕ, Bool, ◌∙◌, get_or, subst, sym, arith, Agree, all_of, IsNumber, bits_of, hash_in_key, keys_of, get_or_default_zero}
use Rattle.board_past.proofs.TableLemmas.{tabled, head_made, key_made}
use Rattle.board_past.proofs.past.print_past.table.Table.key_of.Goals as goal
use Rattle.board_past.proofs.past.print_past.table.Table.key_of.Goals.{After-new}

printed : (c : After-new) → c.index.result.now ≡ get_or c.args.self.now.prints.items c.args.number 0
printed c = c.index.ensures ∙ get_or_default_zero c.args.self.now.prints.items c.args.number c.index.result.now (omega (arith, c.requires.number, tabled (all_of c.args.past.now) c.args.self.now c.requires.table))

made : (c : After-new) → Agree (bits_of c.new.result) (keys_of c.args.self.now.hashed (all_of c.args.past.now) c.args.number) 128
    × (IsNumber (all_of c.args.past.now) c.args.number c.args.board.now → c.args.hash ≡ hash_in_key c.args.self.now.hashed c.args.board.now → bits_of c.new.result ≡ keys_of c.args.self.now.hashed (all_of c.args.past.now) c.args.number)
made c =
    let t = c.args.self.now in
    let held = all_of c.args.past.now in
    let number = c.args.number in
    subst (λ (key : ℕ → Bool). Agree key (keys_of t.hashed held number) 128 × (IsNumber held number c.args.board.now → c.args.hash ≡ hash_in_key c.args.self.now.hashed c.args.board.now → key ≡ keys_of t.hashed held number)) (sym c.new.ensures)
    (key_made held t c.requires.table number c.start_at.result c.index.result.now c.args.hash c.args.board.now c.requires.number c.start_at.ensures
    (printed c))

pub returns-clause-front : goal.returns-clause-front
returns-clause-front c = (made (goal.at.returns-clause-front c).After-new).0

pub returns-clause-whole : goal.returns-clause-whole
returns-clause-whole c = (made (goal.at.returns-clause-whole c).After-new).1

pub returns-clause-head : goal.returns-clause-head
returns-clause-head c =
    let w = (goal.at.returns-clause-head c).After-new in
    let t = c.args.self.now in
    let held = all_of c.args.past.now in
    λ right. subst (λ (key : ℕ → Bool). Agree key (keys_of t.hashed held c.args.number) 192) (sym c.new.ensures)
    (head_made held t c.requires.table c.args.number c.start_at.result c.index.result.now c.args.hash c.args.board.now c.requires.number c.start_at.ensures (printed w) right)
