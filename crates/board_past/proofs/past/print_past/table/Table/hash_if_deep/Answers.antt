use Rattle.board_past.proofs.Common.{refl, arith, rules, WIDTH}
use Rattle.board_past.proofs.TableLemmas.{tabled_with}
use Rattle.board_past.proofs.past.print_past.table.Table.hash_if_deep.Goals as goal

-- these are only there for speed
pub returns-clause-table : goal.returns-clause-table
returns-clause-table c = λ held is.
    tabled_with held c.args.self.now _ is refl refl refl (omega (arith, is.room, c.clear.ensures.room)) (omega (arith, is.most, c.clear.ensures.room)) (omega (arith, c.clear.ensures.none)) (c.clear.ensures.trie WIDTH _)

pub returns-clause-hashed : goal.returns-clause-hashed
returns-clause-hashed c = search rules
