use Rattle.std.proofs.Common.{◌<◌, ◌≤◌, None, length, refl, arith}
use Rattle.std.proofs.lemmas.List.{get_or_read}
use Rattle.victim_pick.proofs.Setting.{counted_below}
use Rattle.victim_pick.proofs.Walk.{walk_begins, walk_goes_on, walk_ends}
use Rattle.victim_pick.proofs.lists.Lists.first_of.Goals as goal

pub loop-step-init : goal.loop-step-init
loop-step-init c =
    let v = c.self.inside in
    let fits : c.args.count ≤ v.pages = rw (← c.self.view_is) at c.requires in
    let at = c.index-at.result.now in
    let in_firsts : c.args.count < length v.firsts.items = omega (arith, fits, c.self.invariant.firsts_len) in
    λ are. walk_begins v.pages v.counts.items v.firsts.items v.nexts.items v.befores.items c.args.erases.now c.args.count None at are fits
    refl (get_or_read v.firsts.items c.args.count at in_firsts c.index-at.ensures None)

pub returns-in_default : goal.returns-in_default
returns-in_default c =
    let v = c.self.inside in
    rw (← c.self.view_is) (
    walk_ends v.counts.items c.args.erases.now c.self.invariant.place c.args.count c.loop-step._step c.loop-step.first c.loop-step.at
    (c.loop-step.invariant c.self.invariant) c.in_default.not-Some
    )

pub index-at-requires-in-loop-step : goal.index-at-requires-in-loop-step
index-at-requires-in-loop-step c =
    let v = c.self.inside in
    let here = (c.loop-step.invariant c.self.invariant).at_in c.in-Some.block c.in-Some.is in
    omega (arith, counted_below v.counts.items c.in-Some.block c.args.count here, c.self.invariant.nexts_len, v.nexts.ok.0)

pub loop-step-preserved : goal.loop-step-preserved
loop-step-preserved c =
    let v = c.self.inside in
    let next = c.index-at-in-loop-step.result.now in
    let here = (c.loop-step.invariant c.self.invariant).at_in c.in-Some.block c.in-Some.is in
    let below : c.in-Some.block < length v.nexts.items = omega (
      arith,
      counted_below v.counts.items c.in-Some.block c.args.count here,
      c.self.invariant.nexts_len,
    ) in
    λ are. walk_goes_on v.pages v.counts.items v.firsts.items v.nexts.items v.befores.items c.args.erases.now c.args.count c.loop-step._step
    c.in-Some.block c.earlier.result c.loop-step.first c.loop-step.at next are (c.loop-step.invariant are) c.in-Some.is
    (get_or_read v.nexts.items c.in-Some.block next below c.index-at-in-loop-step.ensures None) c.earlier.ensures

pub returns : goal.returns
returns c =
    let v = c.self.inside in
    let walked = c.loop-step.invariant c.self.invariant in
    rw (← c.self.view_is) (
    walk_ends v.counts.items c.args.erases.now c.self.invariant.place c.args.count c.loop-step._step c.loop-step.first c.loop-step.at walked
    (λ block is. omega (
      arith,
      walked.near_end block is,
      c.loop-step-test.false,
      c.len-step-end.ensures,
      c.self.invariant.nexts_len,
      v.nexts.ok.0,
    ))
    )
