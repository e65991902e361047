use Rattle.std.proofs.Common.{◌≡◌, ◌<◌, Result, sym, subst, ◌∙◌, arith}
use Rattle.die_log.specs.Model.Start.{Start}
use Rattle.ongoing_log.specs.Ongoing.{Ongoing, clock_of}
use Rattle.ongoing_die.specs.declared.answers.Taken.{Taken}
use Rattle.ongoing_die.specs.declared.refusals.AskAtStop.{AskAtStop}
use Rattle.ongoing_die.specs.Standing.{OngoingParts, StandsAs}
use Rattle.ongoing_die.specs.AsksAhead.{of_ask}
use Rattle.ongoing_die.specs.OngoingCalls.{HasBegun, IsOngoingAskAt}
use Rattle.ongoing_die.proofs.AskingAhead.{over, at_present, at_before}
use Rattle.ongoing_die.proofs.NextLives.{plan_then, same_plan}
use Rattle.ongoing_die.proofs.ongoing_die.OngoingDie.ask_at_as.Goals as goal

pub returns-then-at-clock-clause-ask : goal.returns-then-at-clock-clause-ask
returns-then-at-clock-clause-ask g c first d s =
    let b = c.in-Ok.ensures.ok first d s in
    let clock : c.clock-clock.result ≡ clock_of d = c.clock-clock.ensures.clock first d b.stands b.runs in (
      over first c.args.self.now.die.terms c.args.self.now.die.life d c.args.kind c.args.task c.args.ops.now c.args.at (omega (arith, c.if-at-clock.true, clock)),
      b,
    )

pub returns-then-at-clock-2-clause-ask : goal.returns-then-at-clock-2-clause-ask
returns-then-at-clock-2-clause-ask g c first d s =
    let b = c.in-Ok.ensures.ok first d s in
    let clock : c.clock-clock.result ≡ clock_of d = c.clock-clock.ensures.clock first d b.stands b.runs in
    subst (λ (r : Result Taken AskAtStop). IsOngoingAskAt c.args.kind c.args.caller c.args.task c.args.ops.now c.args.at first d r c.args.self.now c.ask_as.new.self)
    (sym c.of_ask.ensures)
    (at_before c.args.kind c.args.caller c.args.task c.args.ops.now c.args.at first d c.args.self.now c.go_on.new.self c.ask_as.new.self b (of_ask c.ask_as.result)
    (at_present c.args.kind c.args.caller c.args.task c.args.ops.now c.args.at first d c.go_on.new.self c.ask_as.new.self
    (omega (arith, c.if-at-clock-2.true, clock)) c.ask_as.result (c.ask_as.ensures.ask first d b.stands)))

pub returns-clause-ask : goal.returns-clause-ask
returns-clause-ask g c first d s =
    let b = c.in-Ok.ensures.ok first d s in
    at_before c.args.kind c.args.caller c.args.task c.args.ops.now c.args.at first d c.args.self.now c.go_on.new.self c.ask_later.new.self b c.ask_later.result
    (c.ask_later.ensures.ask first d b.stands)
