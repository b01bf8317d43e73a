use Rattle.sgf_outline.proofs.Common.{◌≡◌, ℕ, ◌+◌, ◌<◌, ◌≤◌, cond, false, List, [], ◌∷◌, ◌++◌, length, None, Some, refl, sym, ap, ◌∙◌, arith, append-nil, rules, false≢true, KeptSegment, Sequences, eq-eqb, ne_eqb}
use Rattle.sgf_outline.proofs.KeptSequences.{is_written, innermost-within, sequences-few, packs-new, sequences-opened}
use Rattle.sgf_outline.proofs.sequences.SequencesVisitor.own_nodes.Goals.{in-Some, in-None, then-own, else-own+in_ok-push_segment, Joined-own}
use Rattle.sgf_outline.proofs.sequences.SequencesVisitor.own_nodes.Goals as goal

pub overflow_cast-number : goal.overflow_cast-number
overflow_cast-number c = search (rules, sequences-few)

pub overflow_add-outer : goal.overflow_add-outer
overflow_add-outer c = search (rules, sequences-few)

pub overflow_add-outer-in-None : goal.overflow_add-outer-in-None
overflow_add-outer-in-None c = search (rules, sequences-few)

pub overflow_add-outer-2 : goal.overflow_add-outer-2
overflow_add-outer-2 c =
    let (text, k, g, are, copied, few) = c.requires.few in
    let h = sequences-few text c.args.self.now k _ copied.kept in
    let low : c.match-self.outer < 2147483648 = elim c.match-self.branch [
      | in-Some w ↦ omega (arith, h, w.outer-is, innermost-within text c.args.self.now k _ w.in-Some.outer copied.kept w.in-Some.is)
      | in-None w ↦ omega (arith, h, w.outer-is)
    ] in
    elim c.if-own.branch [
      | then-own w ↦ omega (arith, low, ap (λ (p : ℕ × ℕ). p.1) w.end-is)
      | else-own+in_ok-push_segment w ↦ omega (arith, low, ap (λ (p : ℕ × ℕ). p.1) w.end-is)
    ]

-- where the segments of the next game begin
few-kept : (c : Joined-own) → length c.if-own.self.segments.items ≤ 67108864
few-kept c = search rules

pub returns : goal.returns
returns c =
    let kept = c.args.self.now in
    let own = c.args.own in
    let after = c.if-own.self in
    let (text', k', g', are', copied', few') = c.requires.few in
    let h = sequences-few text' kept k' _ copied'.kept in
    let few : length kept.table.items ≤ 67108864 = omega (arith, h) in
    let few_games : kept.games ≤ 67108864 = omega (arith, h) in
    let count : c.len-number.result ≡ length kept.table.items = omega (arith, c.len-number.ensures, kept.table.ok.0) in
    let begun : c.len.result ≡ length after.segments.items = omega (arith, c.len.ensures, after.segments.ok.0) in
    let same : after ≡ record kept { segments = after.segments } = search rules in
    let flag = c.if-own.end.1 in
    let flagged : flag ≡ cond (is_written own) 2147483648 0 = search (rules, eq-eqb, ne_eqb) in
    let ends : c.if-own.end.0 ≡ cond (is_written own) own.segment.end kept.begun = search (rules, eq-eqb, ne_eqb) in
    let grown : (more : List KeptSegment) × (after.segments.items ≡ kept.segments.items ++ more)
    × (is_written own ≡ false → more ≡ record { start_and_flag = own.segment.start + 2147483648; end = own.segment.end } ∷ []) = elim c.if-own.branch [
      | then-own w ↦ ([], rw (w.self-is, append-nil) refl, λ other. absurd (false≢true (sym other ∙ eq-eqb _ _ w.if-own.true)))
      | else-own+in_ok-push_segment w ↦ (_, rw w.self-is w.in_ok-push_segment.ensures.pushed, λ _. refl)
    ] in
    let root : kept.innermost ≡ None → c.match-self.outer ≡ kept.games + 1 + 1073741824 = search rules in
    let goes_on : (i : ℕ) → kept.innermost ≡ Some i → c.match-self.outer ≡ i = search rules in
    let table : after.table ≡ kept.table = ap (λ (s : Sequences). s.table) same in
    let nodes : after.nodes ≡ kept.nodes = ap (λ (s : Sequences). s.nodes) same in
    record {
      kept = λ text k g are copied none.
          let packs = packs-new text kept (is_written own) c.match-self.outer flag root goes_on flagged few few_games k _ copied.kept in
          sequences-opened text kept _ own grown.0 grown.1 grown.2 (few-kept (goal.at.returns c).Joined-own) c.requires.low c.if-own.end.0 (c.match-self.outer + flag) k g are copied none ends packs
          (c.in_ok-push.ensures.items ∙ rw (table, nodes) refl) begun (rw nodes refl) (ap (λ (s : Sequences). s.games) same) (ap Some count);
    }
