-- What the table of sequences keeps: with one more sequence, and after a game that ends.
use Rattle.sgf_outline.proofs.Common.{◌≡◌, ℕ, ◌+◌, ◌-◌, ◌/◌, ◌%◌, ◌<◌, ◌≤◌, Bool, true, false, cond, List, [], ◌∷◌, ◌++◌, length, get_or, drop, slice_get, slice_range, Option, Some, None, refl, sym, ap, subst, ◌∙◌, arith, length-append, rules, eqb, eqb-true, flat_map, common_steps, drop-append-le, slice_get-get_or, slice_get_within, Segment, KeptSegment, Sequence, Sequences, Listed, unclosed_list, UnclosedGame, Stack, after_game, whole_game, close, outer_by, start_by, is_last_by, AreTold, AreWhole, HasSegments, IsKept, AreKept, HoldsSequences, Coming, nothing, with_text, coming_of, IsCopied, AreOwnNodes, own_of, with_game, Node, Games, no_games, unclosed_count, node_text}
use Rattle.std.proofs.Math.Seq.{drop-length}
use Rattle.sgf_outline.specs.declared.layout.OwnNodes.{OwnNodes}
use Rattle.sgf_outline.proofs.GameEnds.{add_games, game-ends, unclosed_games-least, unclosed_count-closed, game_count-closed}
use Rattle.sgf_outline.proofs.Listed.{before, own, unclosed_list-least, unclosed_list-nodes, list-closed, innermost-closed}
use Rattle.sgf_outline.proofs.Lists.{slice_get-pushed, slice_get-right}
use Rattle.sgf_outline.proofs.SegmentsKept.{told-more, told-whole, whole-grown, whole-within}

-- whether the sgf form writes all the nodes as they stand in the text
abbrev pub is_written : OwnNodes → Bool
is_written own = eqb own.segment.start own.first

-- a word that a number and the flags of a sequence are kept in
pub record Packs (word : ℕ) (written : Bool) (outer : Option ℕ) (ordinal : ℕ) : Type 0 where
  pub outer_is : cond (eqb (word / 1073741824 % 2) 1) None (Some (word % 1073741824)) ≡ outer
  pub ordinal_is : outer ≡ None → word % 1073741824 ≡ ordinal
  pub written_is : eqb (word / 2147483648) 1 ≡ written

-- a flag above a number
pub flag-above : (flagged : Bool) (flag number : ℕ) → flag ≡ cond flagged 2147483648 0 → number < 2147483648 → eqb ((number + flag) / 2147483648) 1 ≡ flagged
flag-above true flag number is low = let one : (number + flag) / 2147483648 ≡ 1 = omega arith in rw one refl
flag-above false flag number is low = let none : (number + flag) / 2147483648 ≡ 0 = omega arith in rw none refl

pub below-flag : (flagged : Bool) (flag number : ℕ) → flag ≡ cond flagged 2147483648 0 → number < 2147483648 → (number + flag) % 2147483648 ≡ number
below-flag true flag number is low = omega arith
below-flag false flag number is low = omega arith

flag-even : (written : Bool) (flag : ℕ) → flag ≡ cond written 2147483648 0 → (k : ℕ) × (flag ≡ k + k) × (k % 1073741824 ≡ 0)
flag-even true flag is = (1073741824, is, refl)
flag-even false flag is = (0, is, refl)

-- of a sequence that goes on from another one
pub packs-outer : (written : Bool) (flag outer ordinal : ℕ) → flag ≡ cond written 2147483648 0 → outer < 1073741824 → Packs (outer + flag) written (Some outer) ordinal
packs-outer written flag outer ordinal is low = grind (arith, common_steps, flag-even, flag-above)

-- of a sequence that begins a game
pub packs-root : (written : Bool) (flag ordinal : ℕ) → flag ≡ cond written 2147483648 0 → ordinal < 1073741824 → Packs (ordinal + 1073741824 + flag) written None ordinal
packs-root written flag ordinal is low = grind (arith, common_steps, flag-even, flag-above)

module _ (text : List ℕ) where
  -- what is kept stays right with more segments
  segments-grown : (segments more : List KeptSegment) (index : ℕ) (nodes : List Node) → HasSegments text segments index nodes → HasSegments text (segments ++ more) index nodes
  segments-grown segments more index nodes whole = search (rules, whole-within, drop-append-le, whole-grown)

  kept-grown : (segments more : List KeptSegment) (table : List Sequence) (sequences : List Listed) → AreKept text segments table sequences → AreKept text (segments ++ more) table sequences
  kept-grown segments more table sequences are = record {
    count = are.count;
    each = λ i k s here there. let is = are.each i k s here there in search (rules, segments-grown);
  }

  -- one more sequence
  kept-pushed : (segments : List KeptSegment) (table : List Sequence) (sequences : List Listed) (kept : Sequence) (sequence : Listed)
      → AreKept text segments table sequences → IsKept text segments kept sequence → AreKept text segments (table ++ kept ∷ []) (sequences ++ sequence ∷ [])
  kept-pushed segments table sequences kept sequence are is = record {
    count = omega (arith, are.count, length-append table (kept ∷ []), length-append sequences (sequence ∷ []));
    each = λ i k s here there. grind (arith, common_steps, slice_get-pushed table kept k i here, slice_get-pushed sequences sequence s i there, slice_get_within, are.each i k s);
  }

  own-kept : (own : OwnNodes) (g : UnclosedGame) (segments : List KeptSegment) (begun end number word ordinal : ℕ) (outer : Option ℕ)
      → AreOwnNodes own (own_of g) → own.first ≤ own.segment.end → own.segment.end ≤ length text
      → (is_written own ≡ true → slice_range text own.first own.segment.end ≡ flat_map node_text (own_of g)) → (is_written own ≡ false → HasSegments text segments begun (own_of g))
      → end ≡ cond (is_written own) own.segment.end begun → Packs word (is_written own) outer ordinal
      → IsKept text segments (record { first = own.first; last = own.last; end = end; number = number; outer_and_flags = word })
      (record { first = g.first; more = g.more; number = number; outer = outer; ordinal = ordinal })
  own-kept own g segments begun end number word ordinal outer are rises within written segmented ends packs =
      let last : length (own_of g) - 1 ≡ length g.more = omega arith in
      let known : eqb (word / 2147483648) 1 ≡ true → (is_written own ≡ true) × (end ≡ own.segment.end) = λ e.
      let is : is_written own ≡ true = sym packs.written_is ∙ e in
      (is, ends ∙ ap (λ b. cond b own.segment.end begun) is) in
      record {
        number_is = refl;
        outer_is = packs.outer_is;
        ordinal_is = packs.ordinal_is;
        first_is = sym (are.first_is g.first (omega arith));
        last_is = sym (subst (λ n. (get_or (own_of g) n g.first).place ≡ own.last) last (are.last_is g.first (omega arith)));
        rises = λ e. omega (arith, (known e).1, rises);
        within = λ e. omega (arith, (known e).1, within);
        written = λ e. rw (known e).1 (written (known e).0);
        segmented = λ e.
            let is : is_written own ≡ false = sym packs.written_is ∙ e in
            let at : end ≡ begun = ends ∙ ap (λ b. cond b own.segment.end begun) is in
            rw at (segmented is);
      }

  module _ (kept : Sequences) where
    -- the sequence that the innermost unclosed game begins with
    innermost-kept : (closed : Games) (g : UnclosedGame) (gs : List UnclosedGame) (coming : Coming) (d : Sequence) → HoldsSequences text kept (record { closed = closed; unclosed = g ∷ gs }) coming
        → let i : ℕ = length (unclosed_list closed gs).sequences in (i < length kept.table.items) × (outer_by (get_or kept.table.items i d) ≡ (unclosed_list closed gs).innermost)
    innermost-kept closed g gs coming d holds =
        let i : ℕ = length (before closed gs) in
        let here : slice_get (unclosed_list closed (g ∷ gs)).sequences i ≡ slice_get (own closed g gs) 0 = slice_get-right (before closed gs) (own closed g gs) i 0 (omega arith) in
        let lt : i < length kept.table.items = omega (arith, holds.are.count, length-append (before closed gs) (own closed g gs)) in
        (lt, (holds.are.each i (get_or kept.table.items i d) _ (slice_get-get_or kept.table.items i d lt) here).outer_is)

    pub innermost-within : (k : Stack) (coming : Coming) (i : ℕ) → HoldsSequences text kept k coming → kept.innermost ≡ Some i → i < length kept.table.items
    innermost-within k coming i = in_parts k.closed k.unclosed
      where
        in_parts : (closed : Games) (gs : List UnclosedGame) → HoldsSequences text kept (record { closed = closed; unclosed = gs }) coming → kept.innermost ≡ Some i → i < length kept.table.items
        in_parts closed [] holds is = let none : kept.innermost ≡ None = holds.innermost_is in absurd (cc)
        in_parts closed (g ∷ gs) holds is = grind (arith, common_steps, before, length-append, own)

    -- there are no more sequences and games than nodes
    pub sequences-few : (k : Stack) (coming : Coming) → HoldsSequences text kept k coming → (length kept.table.items ≤ unclosed_count k.closed k.unclosed) × (kept.games ≤ unclosed_count k.closed k.unclosed)
    sequences-few k coming holds = grind (arith, common_steps, unclosed_list-least, unclosed_games-least)

    -- the word of a new sequence
    module _ (written : Bool) (outer flag : ℕ) (root : kept.innermost ≡ None → outer ≡ kept.games + 1 + 1073741824) (goes_on : (i : ℕ) → kept.innermost ≡ Some i → outer ≡ i)
        (flagged : flag ≡ cond written 2147483648 0) (few : length kept.table.items ≤ 67108864) (few_games : kept.games ≤ 67108864) where
      pub packs-new : (k : Stack) (coming : Coming) → HoldsSequences text kept k coming
          → Packs (outer + flag) written (unclosed_list k.closed k.unclosed).innermost (unclosed_list k.closed k.unclosed).next_ordinal
      packs-new k coming = in_parts k.closed k.unclosed
        where
          in_parts : (closed : Games) (gs : List UnclosedGame) → HoldsSequences text kept (record { closed = closed; unclosed = gs }) coming
              → Packs (outer + flag) written (unclosed_list closed gs).innermost (unclosed_list closed gs).next_ordinal
          in_parts closed [] holds = grind (arith, common_steps, packs-root)
          in_parts closed (g ∷ gs) holds = grind (arith, common_steps, before, innermost-within, packs-outer)

    -- one more segment
    pub segment-kept : (after : Sequences) (segment : Segment) → after ≡ record kept { segments = after.segments } → length after.segments.items ≤ 67108864
        → after.segments.items ≡ kept.segments.items ++ record { start_and_flag = segment.start + 0; end = segment.end } ∷ [] → segment.start ≤ segment.end → segment.end ≤ 67108864
        → (k : Stack) (coming : Coming) → HoldsSequences text kept k coming → segment.end ≤ length text
        → HoldsSequences text after k (with_text coming (slice_range text segment.start segment.end))
    segment-kept after segment is few pushed rises low k coming holds within =
        let new : KeptSegment = record { start_and_flag = segment.start + 0; end = segment.end } in
        let start : start_by new ≡ segment.start = below-flag false 0 segment.start refl (omega arith) in
        let other : is_last_by new ≡ false = flag-above false 0 segment.start refl (omega arith) in
        let begun : after.begun ≡ kept.begun = ap (λ (s : Sequences). s.begun) is in
        let table : after.table ≡ kept.table = ap (λ (s : Sequences). s.table) is in
        record {
          are = rw (pushed, table) (kept-grown kept.segments.items (new ∷ []) kept.table.items _ holds.are);
          nodes_counted = ap (λ (s : Sequences). s.nodes) is ∙ holds.nodes_counted;
          games_counted = ap (λ (s : Sequences). s.games) is ∙ holds.games_counted;
          innermost_is = ap (λ (s : Sequences). s.innermost) is ∙ holds.innermost_is;
          few = few;
          begun_within = omega (arith, begun, holds.begun_within, ap length pushed, length-append kept.segments.items (new ∷ []));
          told =
              rw (pushed, begun, drop-append-le kept.begun kept.segments.items (new ∷ []) holds.begun_within)
              (subst (λ i. AreTold text (drop kept.begun kept.segments.items ++ new ∷ []) (coming.told ++ slice_range text i segment.end)) start
              (told-more text new (omega arith) within (drop kept.begun kept.segments.items) coming.told other holds.told));
        }

    -- one more game is unclosed
    module _ (after : Sequences) (own : OwnNodes) (more : List KeptSegment) (segments_are : after.segments.items ≡ kept.segments.items ++ more)
        (last_is : is_written own ≡ false → more ≡ record { start_and_flag = own.segment.start + 2147483648; end = own.segment.end } ∷ [])
        (few : length after.segments.items ≤ 67108864) (low : own.segment.end ≤ 67108864) where
      -- the segments of its nodes
      own-segments : (k : Stack) (g : UnclosedGame) → IsCopied (λ told. HoldsSequences text kept k (coming_of (own_of g) told)) text own.first own.segment (flat_map node_text (own_of g))
          → is_written own ≡ false → HasSegments text after.segments.items kept.begun (own_of g)
      own-segments k g copied other =
          let new : KeptSegment = record { start_and_flag = own.segment.start + 2147483648; end = own.segment.end } in
          let under : own.segment.start < 2147483648 = omega (arith, copied.rises) in
          let start : start_by new ≡ own.segment.start = below-flag true 2147483648 own.segment.start refl under in
          let last : is_last_by new ≡ true = flag-above true 2147483648 own.segment.start refl under in
          let whole = told-whole text new (omega (arith, start, copied.rises)) copied.within (drop kept.begun kept.segments.items) copied.told last copied.kept.told in
          rw (segments_are, last_is other, drop-append-le kept.begun kept.segments.items (new ∷ []) copied.kept.begun_within)
          (subst (AreWhole text (drop kept.begun kept.segments.items ++ new ∷ [])) (ap (λ i. copied.told ++ slice_range text i own.segment.end) start ∙ copied.are) whole)

      pub sequences-opened : (end word : ℕ) (k : Stack) (g : UnclosedGame) → AreOwnNodes own (own_of g)
          → IsCopied (λ told. HoldsSequences text kept k (coming_of (own_of g) told)) text own.first own.segment (flat_map node_text (own_of g)) → g.below ≡ no_games
          → end ≡ cond (is_written own) own.segment.end kept.begun
          → Packs word (is_written own) (unclosed_list k.closed k.unclosed).innermost (unclosed_list k.closed k.unclosed).next_ordinal
          → after.table.items ≡ kept.table.items ++ record { first = own.first; last = own.last; end = end; number = kept.nodes; outer_and_flags = word } ∷ []
          → after.begun ≡ length after.segments.items
          → after.nodes ≡ kept.nodes + own.count → after.games ≡ kept.games → after.innermost ≡ Some (length kept.table.items) → HoldsSequences text after (with_game k g) nothing
      sequences-opened end word k g are copied none ends packs table_is begun_is nodes_are games_are innermost_is =
          let holds = copied.kept in
          let number : kept.nodes ≡ (unclosed_list k.closed k.unclosed).nodes = holds.nodes_counted ∙ sym (unclosed_list-nodes k.closed k.unclosed) in
          let written : is_written own ≡ true → slice_range text own.first own.segment.end ≡ flat_map node_text (own_of g) = λ is.
          let at : own.segment.start ≡ own.first = eqb-true own.segment.start own.first is in
          ap (λ i. slice_range text i own.segment.end) (sym at) ∙ ap (λ s. s ++ slice_range text own.segment.start own.segment.end) (sym (copied.alone at)) ∙ copied.are in
          let it = own-kept own g after.segments.items kept.begun end kept.nodes word (unclosed_list k.closed k.unclosed).next_ordinal (unclosed_list k.closed k.unclosed).innermost are
          (omega (arith, copied.low, copied.rises)) copied.within written (own-segments k g copied) ends packs in
          let earlier : AreKept text after.segments.items kept.table.items (unclosed_list k.closed k.unclosed).sequences =
          rw segments_are (kept-grown kept.segments.items more kept.table.items _ holds.are) in
          record {
            are = rw (table_is, none, ← number) (kept-pushed after.segments.items kept.table.items (unclosed_list k.closed k.unclosed).sequences _ _ earlier it);
            nodes_counted = rw none (omega (arith, nodes_are, holds.nodes_counted, are.counted));
            games_counted = games_are ∙ holds.games_counted;
            innermost_is = innermost_is ∙ ap Some holds.are.count;
            few = few;
            begun_within = omega (arith, begun_is);
            told = subst (λ segments. AreTold text segments []) (sym (ap (λ n. drop n after.segments.items) begun_is ∙ drop-length after.segments.items)) refl;
          }

    -- a game that ends: the sequence of the game around it is innermost then
    module _ (after : Sequences) (outer : (i : ℕ) → kept.innermost ≡ Some i → (d : Sequence) × (after ≡ record kept { innermost = outer_by (get_or kept.table.items i d) })) where
      module _ (depth games : ℕ) (is_games : games ≡ after.games + cond (eqb depth 0) 1 0) where
        abbrev Ends : Stack → Stack → Type 0
        Ends k next =
            HoldsSequences text kept k nothing → length k.unclosed ≡ depth + 1
            → HoldsSequences text (record { table = after.table; segments = after.segments; begun = after.begun; nodes = after.nodes; games = games; innermost = after.innermost }) next nothing

        each-ended : (closed : Games) (g : UnclosedGame) (gs : List UnclosedGame) → Ends (record { closed = closed; unclosed = g ∷ gs }) (add_games closed gs (whole_game g))
        each-ended closed g gs holds is_unclosed =
            let (d, is) = outer (length (before closed gs)) holds.innermost_is in
            record {
              are = rw is (subst (AreKept text kept.segments.items kept.table.items) (sym (list-closed closed g gs)) holds.are);
              nodes_counted = ap (λ (s : Sequences). s.nodes) is ∙ holds.nodes_counted ∙ sym (unclosed_count-closed closed g gs);
              games_counted = omega (arith, is_games, ap (λ (s : Sequences). s.games) is, holds.games_counted, game_count-closed closed g gs depth is_unclosed);
              innermost_is = ap (λ (s : Sequences). s.innermost) is ∙ (innermost-kept closed g gs nothing d holds).1 ∙ sym (innermost-closed closed g gs);
              few = rw is holds.few;
              begun_within = rw is holds.begun_within;
              told = rw is holds.told;
            }

        pub sequences-ended : (k next : Stack) → close k ≡ Some (after_game next) → Ends k next
        sequences-ended = game-ends Ends each-ended
