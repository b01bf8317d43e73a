use Rattle.board_past.proofs.Common.{Bool, if◌then◌else◌, inr, sym, ap, ◌∙◌, arith, all_of, hash_of}
use Rattle.board_past.proofs.TableLemmas.{at_number, few_all}
use Rattle.board_past.proofs.past.print_past.table.Table.take_hash.Goals as goal

pub returns-then-known-ne0-clause-hash : goal.returns-then-known-ne0-clause-hash
returns-then-known-ne0-clause-hash c = λ grid at.
    c.kept_hash-known.ensures (all_of c.args.past.now) grid c.requires.table.kept at c.if-known-ne0.true ∙ ap (λ (on : Bool). if on then hash_of grid else 0) (sym c.if-not-self.false)

pub returns-clause-hash : goal.returns-clause-hash
returns-clause-hash c = λ grid at.
    c.hash_of-hash.ensures ∙ at_number (all_of c.args.past.now) c.args.number c.board_at.result grid c.board_at.ensures at ∙ ap (λ (on : Bool). if on then hash_of grid else 0) (sym c.if-not-self.false)

pub returns-clause-table : goal.returns-clause-table
returns-clause-table c =
    let held = all_of c.args.past.now in
    let is = c.requires.table in
    let kept = c.keep_hash.ensures held c.requires.number is.kept (λ grid at some. c.hash_of-hash.ensures ∙ at_number held c.args.number c.board_at.result grid c.board_at.ensures at) in
    record { awake = is.awake; printed = is.printed; few = is.few; linked = is.linked; room = is.room; most = is.most; kept = kept }

pub keep_hash-requires : goal.keep_hash-requires
keep_hash-requires c = omega (arith, few_all (all_of c.args.past.now) c.args.self.now (inr c.requires.table), c.requires.number)
