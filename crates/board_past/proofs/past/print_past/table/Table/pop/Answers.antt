use Rattle.board_past.proofs.Common.{◌≡◌, ◌<◌, ◌≤◌, inr, inl, ◌-◌, ◌++◌, ◌∷◌, [], List, ℕ, Option, Some, length, length-append, get_or, refl, ap, ◌∙◌, arith, rules, option_to_list, Trie, item_count, capacity_of, IsTrie, WIDTH, Held, keys_of, IsAwakeTable, IsTable}
use Rattle.board_past.proofs.TableLemmas.{asleep_less, sleeps, with_prints, tabled, printed_back, linked_after}
use Rattle.board_past.proofs.past.print_past.table.Table.pop.Goals as goal
use Rattle.board_past.proofs.past.print_past.table.Table.pop.Goals.{After-forget_hashes}

-- the table sleeps
pub returns-then-is_empty : goal.returns-then-is_empty
returns-then-is_empty c = λ newest older is.
    let none : length c.args.self.now.prints.items ≡ 0 = search rules in
    inl (asleep_less c.args.self.now newest older (sleeps (newest ∷ older) c.args.self.now is none (omega arith)))

module _ (c : After-forget_hashes) (newest : Held) (older : List Held) (any : IsTable (newest ∷ older) c.args.self.now) where
  pub is : IsAwakeTable (newest ∷ older) c.args.self.now
  is = let some : 0 < length c.args.self.now.prints.items = search rules in with_prints (newest ∷ older) c.args.self.now any some

  abbrev last : ℕ
  last = get_or c.args.self.now.prints.items (length c.args.self.now.prints.items - 1) 0

  parts : c.args.self.now.prints.items ≡ c.pop.new.self.items ++ last ∷ []
  parts = let popped : c.pop.result ≡ Some last = search (rules, c.pop.ensures.value) in c.pop.ensures.items ∙ ap (λ (o : Option ℕ). c.pop.new.self.items ++ option_to_list o) popped

  pub count : length c.pop.new.self.items ≡ length older
  count = omega (arith, ap (λ (xs : List ℕ). length xs) parts, length-append c.pop.new.self.items (last ∷ []), tabled (newest ∷ older) c.args.self.now is)

  pub awake : (trie : Trie) → item_count trie ≤ length older → capacity_of trie ≡ capacity_of c.args.self.now.trie → IsTrie WIDTH (keys_of c.args.self.now.hashed (newest ∷ older)) trie
      → IsTable older (record c.args.self.now { prints = c.pop.new.self; trie = trie; hashes = c.forget_hashes.new.kept })
  awake trie few room linked = inr (record {
    awake = is.awake;
    printed = printed_back c.args.self.now.prints.items c.pop.new.self.items last newest older parts is.printed;
    few = omega (arith, count, few);
    linked = linked_after c.args.self.now.hashed newest older trie few linked;
    room = omega (arith, room, is.room, count, tabled (newest ∷ older) c.args.self.now is);
    most = omega (arith, room, is.most);
    kept = c.forget_hashes.ensures.some newest older is.kept (omega (arith, count, c.len.ensures, c.pop.new.self.ok.0));
  })

pub returns-then-len : goal.returns-then-len
returns-then-len c = λ newest older any.
    let w = (goal.at.returns-then-len c).After-forget_hashes in
    let trie = is w newest older any in
    awake w newest older any c.take_back.new.self (omega (arith, c.take_back.ensures.fewer, trie.few, tabled (newest ∷ older) c.args.self.now trie)) c.take_back.ensures.room (c.take_back.ensures.trie WIDTH _ trie.linked)

pub returns-else-len : goal.returns-else-len
returns-else-len c = λ newest older any.
    let w = (goal.at.returns-else-len c).After-forget_hashes in
    awake w newest older any c.args.self.now.trie (omega (arith, c.if-len.false, c.len-2.ensures, c.len-3.ensures, count w newest older any, c.pop.new.self.ok.0)) refl (is w newest older any).linked
