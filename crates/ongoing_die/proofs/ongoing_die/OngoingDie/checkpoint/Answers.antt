use Rattle.std.proofs.Common.{ℕ, List, map, arith}
use Rattle.std.proofs.lemmas.List.{length-map}
use Rattle.slot_types.specs.declared.plans.DiePlan.{DiePlan}
use Rattle.slot_core.specs.Resumptions.{resumed_start}
use Rattle.planned_die.specs.Resuming.{lacked}
use Rattle.ongoing_die.specs.Standing.{OngoingParts, ask_in}
use Rattle.ongoing_die.proofs.Lacking.{in_no_slots}
use Rattle.ongoing_die.proofs.OverAllLives.{few_wait}
use Rattle.ongoing_die.proofs.Shutting.{shut}
use Rattle.ongoing_die.proofs.ongoing_die.OngoingDie.checkpoint.Goals as goal

pub returns-clause-goes_on : goal.returns-clause-goes_on
returns-clause-goes_on g c =
    let before : OngoingParts g.row.N.Denot = record { die = c.self.inside.die; waiting = map ask_in c.self.inside.waiting.items } in
    let plan : DiePlan = before.die.core.start.plan in
    let balances : List ℕ = c.in-Ok.taken.balances in
    rw (← c.self.view_is) (λ first d s.
    shut first d before s c.in-Ok.ensures.may.runs c.in-Ok.ensures.may.quiet c.in-None.ensures.none
    (c.a_die_goes_on_after_each_end.ensures.shut_down first before.die.terms before.die.life) (lacked plan balances) (in_no_slots plan balances)
    (resumed_start before.die.core.start.plan c.in-Ok.taken (g.N.Nand.blocks before.die.core.device)) c.in-Ok.ensures.goes_on)

pub returns-clause-stocked : goal.returns-clause-stocked
returns-clause-stocked g c =
    let long = c.self.invariant.0.long in
    rw (← c.self.view_is) (λ over held. c.in-Ok.ensures.stocked over (λ task lt. (held task lt, long.jobs task lt)))

pub first_waiting-requires : goal.first_waiting-requires
first_waiting-requires g c =
    let i = c.self.invariant.0 in
    omega (
      arith,
      few_wait i.first i.ongoing (record { die = c.self.inside.die; waiting = map ask_in c.self.inside.waiting.items }) i.stands,
      length-map c.self.inside.waiting.items ask_in,
    )
