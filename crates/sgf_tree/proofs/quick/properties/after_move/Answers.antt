use Rattle.sgf_tree.proofs.Common.{◌≡◌, ◌+◌, subst, arith, StandsIn}
use Rattle.sgf_tree.proofs.ShortProperties.{after-move, read-to-more, read-to-end, stands-join, so-far-more, so-far-done}
use Rattle.sgf_tree.proofs.quick.properties.after_move.Goals as goal

pub near-init : goal.near-init
near-init c = record { within = omega (arith, c.requires.value.within); so_far = after-move c.args.text.now c.args.at c.requires }

pub near-preserved : goal.near-preserved
near-preserved c =
    let is = c.in-Some.ensures.short in
    record { within = omega (arith, is.within); so_far = read-to-more c.args.text.now c.args.at c.near.end c.near.invariant.so_far c.in-Some.close is }

pub returns-then-text-end-lt65 : goal.returns-then-text-end-lt65
returns-then-text-end-lt65 c =
    let t = c.args.text.now in
    read-to-end t c.args.at (c.in-Some.close + 1) (read-to-more t c.args.at c.near.end c.near.invariant.so_far c.in-Some.close c.in-Some.ensures.short)
    (record { within = c.in-Some.ensures.goes_on; above = c.if-text-end-gt32.true; below = c.if-text-end-lt65.true })

pub properties-preserved : goal.properties-preserved
properties-preserved c =
    let t = c.args.text.now in
    let at = c.args.at in
    let before = c.properties.read in
    let so_far = c.properties.invariant in
    let next = c.in_ok-read.read in
    let is = c.in_ok-read.ensures in
    let (within, capital) = c.capital_at.ensures.stands c.properties-test.true in
    let same : before.text_end ≡ before.end = omega (arith, so_far.white_space.rises) in
    so-far-more t at (StandsIn t at before.text_end) (StandsIn t before.end next.text_end) (StandsIn t at next.text_end) before.text_end before.end next.text_end next.end so_far within capital is
    (λ u v first last. stands-join t at before.end next.text_end (omega (arith, so_far.rises, so_far.white_space.rises)) (omega (arith, is.rises)) u v (subst (λ i. StandsIn t at i u) same first) last)

pub returns : goal.returns
returns c =
    let read = c.properties.read in
    so-far-done c.args.text.now c.args.at (StandsIn c.args.text.now c.args.at read.text_end) read.text_end read.end c.properties.invariant (c.capital_at.ensures.other c.properties-test.false)
