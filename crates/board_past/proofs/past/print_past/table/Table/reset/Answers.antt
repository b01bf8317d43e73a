use Rattle.board_past.proofs.Common.{◌<◌, ◌≤◌, ◌^◌, inl, inr, refl, length, rules, arith, vec_capacity, nil_from_length, capacity_of}
use Rattle.board_past.proofs.TableLemmas.{tabled}
use Rattle.board_past.proofs.past.print_past.table.Table.reset.Goals as goal

pub returns : goal.returns
returns c = λ first.
    let t = c.args.self.now in
    let most : capacity_of t.trie < 2 ^ 32 = elim c.requires.1 [ inl asleep ↦ asleep.most | inr awake ↦ awake.most ] in
    let room : 1 ≤ capacity_of t.trie = elim c.requires.1 [
      | inl asleep ↦ omega (arith, asleep.fits, asleep.room, c.requires.2)
      | inr awake ↦ omega (arith, awake.room, tabled c.requires.0 t awake, c.requires.2)
    ] in
    let fits : length t.prints.items ≤ vec_capacity t.prints = search rules in
    let prints_room : 1 ≤ vec_capacity t.prints = elim c.requires.1 [
      | inl asleep ↦ omega (arith, asleep.fits, asleep.prints_room, c.requires.2)
      | inr awake ↦ omega (arith, fits, tabled c.requires.0 t awake, c.requires.2)
    ] in
    let both = c.room_of_both-self.ensures.least 1 (omega (arith, prints_room, c.clear-2.ensures.capacity)) (omega (arith, room, c.clear.ensures.room)) in
    inl (record {
      asleep = both;
      fits = both;
      no_prints = search rules;
      no_items = nil_from_length _ c.clear.ensures.none;
      room = c.room_of_both-self.ensures.trie;
      prints_room = c.room_of_both-self.ensures.prints;
      most = omega (arith, most, c.clear.ensures.room);
      kept = c.forget_hashes.ensures.none refl;
    })
