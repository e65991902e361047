use Rattle.std.proofs.Common.{◌≡◌, [], length, map, replicate, None, ap, sym, subst, ◌∙◌, arith}
use Rattle.slot_types.specs.declared.plans.DiePlan.{DiePlan}
use Rattle.demand_rules.specs.declared.terms.Terms.{Terms}
use Rattle.die_log.specs.Model.Lives.{Lives}
use Rattle.slot_core.specs.Core.{Core}
use Rattle.planned_die.specs.Planned.{Planned, HasLived}
use Rattle.planned_die.specs.Resuming.{lacked}
use Rattle.ongoing_die.specs.Standing.{ask_in, HaveRoom}
use Rattle.ongoing_die.specs.OngoingPlans.{IsFirstTooLate}
use Rattle.ongoing_die.proofs.Lasting.{long_enough}
use Rattle.ongoing_die.proofs.ResumedDies.{begun_stands, alone}
use Rattle.ongoing_die.proofs.Quiet.{quiet_none}
use Rattle.ongoing_die.proofs.ongoing_die.OngoingDie.resume.Goals as goal

pub invariant_of-result : goal.invariant_of-result
invariant_of-result g c =
    let die : Planned g.row.N.Denot = c.in-Ok.die in
    let of_plan : die.core.start.plan ≡ c.args.plan = ap (λ (core : Core g.row.N.Denot). core.start.plan) c.in-Ok.ensures.ok in
    let empty : die.core.log ≡ [] = ap (λ (core : Core g.row.N.Denot). core.log) c.in-Ok.ensures.ok in
    let long = long_enough die c.terms.result.now c.life.result c.terms.ensures c.life.ensures c.in-Ok.ensures.life.some c.in-None.ensures.none in
    let none = c.in-Ok-none_waiting.ensures.none ∙ ap (λ (t : Terms). replicate (length t.tasks) None) c.terms-2.ensures in
    let stands = alone c.args.plan die of_plan c.in-Ok.ensures.begins.1 empty long (map ask_in c.in-Ok-none_waiting.waiting.items) none
    c.a_die_goes_on_after_each_end.ensures.begins (lacked c.args.plan c.args.checkpoint.now.balances) c.in-Ok.ensures.begins.2
    c.in-Ok.ensures.lived in (
      record { long = long; first = die.core.start; ongoing = _; stands = stands },
      subst (λ (t : Terms). HaveRoom t c.in-Ok-none_waiting.waiting.items) c.terms-2.ensures c.in-Ok-none_waiting.ensures.room,
      quiet_none (record { die = die; waiting = map ask_in c.in-Ok-none_waiting.waiting.items }),
    )

pub returns-clause-stands : goal.returns-clause-stands
returns-clause-stands g c =
    let die : Planned g.row.N.Denot = c.in-Ok.die in
    let of_plan : die.core.start.plan ≡ c.args.plan = ap (λ (core : Core g.row.N.Denot). core.start.plan) c.in-Ok.ensures.ok in
    let empty : die.core.log ≡ [] = ap (λ (core : Core g.row.N.Denot). core.log) c.in-Ok.ensures.ok in
    let long = long_enough die c.terms.result.now c.life.result c.terms.ensures c.life.ensures c.in-Ok.ensures.life.some c.in-None.ensures.none in
    let none = c.in-Ok-none_waiting.ensures.none ∙ ap (λ (t : Terms). replicate (length t.tasks) None) c.terms-2.ensures in
    alone c.args.plan die of_plan c.in-Ok.ensures.begins.1 empty long (map ask_in c.in-Ok-none_waiting.waiting.items) none
    c.a_die_goes_on_after_each_end.ensures.begins (lacked c.args.plan c.args.checkpoint.now.balances) c.in-Ok.ensures.begins.2
    c.in-Ok.ensures.lived

pub returns-clause-goes_on : goal.returns-clause-goes_on
returns-clause-goes_on g c first past after counts =
    let die : Planned g.row.N.Denot = c.in-Ok.die in
    let of_plan : die.core.start.plan ≡ c.args.plan = ap (λ (core : Core g.row.N.Denot). core.start.plan) c.in-Ok.ensures.ok in
    let empty : die.core.log ≡ [] = ap (λ (core : Core g.row.N.Denot). core.log) c.in-Ok.ensures.ok in
    let long = long_enough die c.terms.result.now c.life.result c.terms.ensures c.life.ensures c.in-Ok.ensures.life.some c.in-None.ensures.none in
    let none = c.in-Ok-none_waiting.ensures.none ∙ ap (λ (t : Terms). replicate (length t.tasks) None) c.terms-2.ensures in
    begun_stands c.args.plan die of_plan c.in-Ok.ensures.begins.1 empty long (map ask_in c.in-Ok-none_waiting.waiting.items) none
    c.a_die_goes_on_after_each_end.ensures.begins first past after
    (subst (λ (l : Lives). HasLived die l) (sym counts) c.in-Ok.ensures.lived)

pub returns-clause-mounted : goal.returns-clause-mounted
returns-clause-mounted g c full first past after counts =
    let die : Planned g.row.N.Denot = c.in-Ok.die in
    let of_plan : die.core.start.plan ≡ c.args.plan = ap (λ (core : Core g.row.N.Denot). core.start.plan) c.in-Ok.ensures.ok in
    let empty : die.core.log ≡ [] = ap (λ (core : Core g.row.N.Denot). core.log) c.in-Ok.ensures.ok in
    let long = long_enough die c.terms.result.now c.life.result c.terms.ensures c.life.ensures c.in-Ok.ensures.life.some c.in-None.ensures.none in
    let none = c.in-Ok-none_waiting.ensures.none ∙ ap (λ (t : Terms). replicate (length t.tasks) None) c.terms-2.ensures in
    begun_stands c.args.plan die of_plan c.in-Ok.ensures.begins.1 empty long (map ask_in c.in-Ok-none_waiting.waiting.items) none
    c.a_die_goes_on_after_each_end.ensures.begins first past after
    (subst (λ (l : Lives). HasLived die l) (sym counts) (c.in-Ok.ensures.full full))

pub returns-clause-none_waits : goal.returns-clause-none_waits
returns-clause-none_waits g c =
    let die : Planned g.row.N.Denot = c.in-Ok.die in
    let of_plan : die.core.start.plan ≡ c.args.plan = ap (λ (core : Core g.row.N.Denot). core.start.plan) c.in-Ok.ensures.ok in
    c.in-Ok-none_waiting.ensures.none
    ∙ (ap (λ (t : Terms). replicate (length t.tasks) None) c.terms-2.ensures
    ∙ ap (λ n. replicate n None) (c.in-Ok.ensures.lived.kept.demand.has.one_each ∙ ap (λ (p : DiePlan). length p.caps) of_plan))

pub first_too_late-requires : goal.first_too_late-requires
first_too_late-requires g c = omega (
  arith,
  ap (λ (t : Terms). length t.tasks) c.terms.ensures,
  c.in-Ok.ensures.lived.kept.demand.has.one_each,
  c.in-Ok.ensures.lived.kept.opens.bound.limits.few_tasks,
)

pub returns-clause-life : goal.returns-clause-life
returns-clause-life g c = record { is_life = c.in-Ok.ensures.life; longer = c.in-Ok.ensures.longer }

pub returns-in-Some-clause-refused : goal.returns-in-Some-clause-refused
returns-in-Some-clause-refused g c = (
  c.in-Ok.ensures.fits,
  c.in-Ok.ensures.passes.0,
  c.in-Ok.ensures.passes.1,
  c.in-Ok.ensures.stocked,
  (
    c.in-Ok.die.life,
    record { is_life = c.in-Ok.ensures.life; longer = c.in-Ok.ensures.longer },
    subst (λ n. IsFirstTooLate c.args.terms n c.in-Some.task) c.life.ensures
        (subst (λ (t : Terms). IsFirstTooLate t c.life.result c.in-Some.task) (c.terms.ensures ∙ c.in-Ok.ensures.begins.0) c.in-Some.ensures.some),
  ),
)

pub returns-in-Err-none_waiting-clause-refused : goal.returns-in-Err-none_waiting-clause-refused
returns-in-Err-none_waiting-clause-refused g c = (c.in-Ok.ensures.shape, c.in-Ok.ensures.fits.all_else)
