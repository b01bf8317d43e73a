use Rattle.key_trie.proofs.Common.{sym, ◌∙◌, arith, item_count}
use Rattle.key_trie.proofs.trie.Trie.insert_parted.Goals as goal

pub returns-clause-trie : goal.returns-clause-trie
returns-clause-trie g c = λ width keys end trie within descent before same parting.
    let opens = c.opening-slot.ensures.opening width keys (keys (item_count c.args.self.now)) end trie descent before same parting in
    c.insert.ensures.trie width keys trie within opens (sym (c.bit.ensures ∙ same.each c.args.position (omega arith)))
