use Rattle.std.proofs.Common.{◌≡◌, [], length, map, replicate, None, ap, subst, ◌∙◌, arith}
use Rattle.demand_rules.specs.declared.terms.Terms.{Terms}
use Rattle.plan_rules.specs.Bound.{MeetsBound}
use Rattle.die_log.specs.Model.Start.{Start, fresh}
use Rattle.slot_core.specs.Core.{Core}
use Rattle.planned_die.specs.Planned.{Planned}
use Rattle.ongoing_die.specs.Standing.{ask_in, HaveRoom}
use Rattle.ongoing_die.specs.OngoingPlans.{IsFirstTooLate}
use Rattle.ongoing_die.proofs.Lasting.{long_enough}
use Rattle.ongoing_die.proofs.NewDies.{starts_full, waits_as, new_stands}
use Rattle.ongoing_die.proofs.Quiet.{quiet_none}
use Rattle.ongoing_die.proofs.ongoing_die.OngoingDie.new.Goals as goal

pub invariant_of-result : goal.invariant_of-result
invariant_of-result g c =
    let die : Planned g.row.N.Denot = c.in-Ok.die in
    let starts : die.core.start ≡ fresh c.args.plan = ap (λ (core : Core g.row.N.Denot). core.start) c.in-Ok.ensures.ok in
    let empty : die.core.log ≡ [] = ap (λ (core : Core g.row.N.Denot). core.log) c.in-Ok.ensures.ok in
    let long = long_enough die c.terms.result.now c.life.result c.terms.ensures c.life.ensures c.in-Ok.ensures.life.some c.in-None.ensures.none in
    let k = c.a_die_goes_on_by_itself.ensures.begins (fresh c.args.plan) die.terms die.life long
    (starts_full c.args.plan die c.in-Ok.ensures.lived starts c.in-Ok.ensures.begins.1 empty) in
    let none = c.in-Ok-none_waiting.ensures.none ∙ ap (λ (t : Terms). replicate (length t.tasks) None) c.terms-2.ensures in
    let stands = new_stands c.args.plan die c.in-Ok.ensures.lived starts c.in-Ok.ensures.begins.1 empty (map ask_in c.in-Ok-none_waiting.waiting.items) none k in (
      record { long = long; first = fresh c.args.plan; ongoing = _; stands = stands },
      subst (λ (t : Terms). HaveRoom t c.in-Ok-none_waiting.waiting.items) c.terms-2.ensures c.in-Ok-none_waiting.ensures.room,
      quiet_none (record { die = die; waiting = map ask_in c.in-Ok-none_waiting.waiting.items }),
    )

pub returns-clause-stands : goal.returns-clause-stands
returns-clause-stands g c =
    let die : Planned g.row.N.Denot = c.in-Ok.die in
    let starts : die.core.start ≡ fresh c.args.plan = ap (λ (core : Core g.row.N.Denot). core.start) c.in-Ok.ensures.ok in
    let empty : die.core.log ≡ [] = ap (λ (core : Core g.row.N.Denot). core.log) c.in-Ok.ensures.ok in
    let long = long_enough die c.terms.result.now c.life.result c.terms.ensures c.life.ensures c.in-Ok.ensures.life.some c.in-None.ensures.none in
    let k = c.a_die_goes_on_by_itself.ensures.begins (fresh c.args.plan) die.terms die.life long
    (starts_full c.args.plan die c.in-Ok.ensures.lived starts c.in-Ok.ensures.begins.1 empty) in
    let none = c.in-Ok-none_waiting.ensures.none ∙ ap (λ (t : Terms). replicate (length t.tasks) None) c.terms-2.ensures in
    new_stands c.args.plan die c.in-Ok.ensures.lived starts c.in-Ok.ensures.begins.1 empty (map ask_in c.in-Ok-none_waiting.waiting.items) none k

pub returns-clause-none_waits : goal.returns-clause-none_waits
returns-clause-none_waits g c =
    let die : Planned g.row.N.Denot = c.in-Ok.die in
    let starts : die.core.start ≡ fresh c.args.plan = ap (λ (core : Core g.row.N.Denot). core.start) c.in-Ok.ensures.ok in
    let empty : die.core.log ≡ [] = ap (λ (core : Core g.row.N.Denot). core.log) c.in-Ok.ensures.ok in
    let none = c.in-Ok-none_waiting.ensures.none ∙ ap (λ (t : Terms). replicate (length t.tasks) None) c.terms-2.ensures in
    waits_as c.args.plan die c.in-Ok.ensures.lived starts c.in-Ok.ensures.begins.1 empty (map ask_in c.in-Ok-none_waiting.waiting.items) none

pub first_too_late-requires : goal.first_too_late-requires
first_too_late-requires g c = omega (
  arith,
  ap (λ (t : Terms). length t.tasks) c.terms.ensures,
  c.in-Ok.ensures.lived.kept.demand.has.one_each,
  c.in-Ok.ensures.lived.kept.opens.bound.limits.few_tasks,
)

pub returns-clause-life : goal.returns-clause-life
returns-clause-life g c = record { is_life = c.in-Ok.ensures.life; longer = c.in-Ok.ensures.longer }

pub returns-in-Some-clause-refused : goal.returns-in-Some-clause-refused
returns-in-Some-clause-refused g c =
    let starts : c.in-Ok.die.core.start ≡ fresh c.args.plan = ap (λ (core : Core g.row.N.Denot). core.start) c.in-Ok.ensures.ok in (
      subst (λ (s : Start). MeetsBound s.plan) starts c.in-Ok.ensures.lived.kept.opens.bound,
      c.in-Ok.ensures.passes.0,
      c.in-Ok.ensures.passes.1,
      (
        c.in-Ok.die.life,
        record { is_life = c.in-Ok.ensures.life; longer = c.in-Ok.ensures.longer },
        subst (λ n. IsFirstTooLate c.args.terms n c.in-Some.task) c.life.ensures
            (subst (λ (t : Terms). IsFirstTooLate t c.life.result c.in-Some.task) (c.terms.ensures ∙ c.in-Ok.ensures.begins.0) c.in-Some.ensures.some),
      ),
    )
