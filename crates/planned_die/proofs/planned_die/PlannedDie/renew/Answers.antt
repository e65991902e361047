use Rattle.std.proofs.Common.{map, ◌≤◌, ◌+◌, ◌∷◌, length, ap, sym, ◌∙◌, arith}
use Rattle.std.proofs.lemmas.Grind.{common_steps}
use Rattle.die_log.specs.Model.Log.{now}
use Rattle.planned_die.specs.Remembered.{jobs_of}
use Rattle.planned_die.specs.Planned.{Planned}
use Rattle.planned_die.proofs.NextLife.{ended, not_left}
use Rattle.slot_core.specs.Core.{Core}
use Rattle.planned_die.proofs.Passing.{kept_later}
use Rattle.planned_die.proofs.Lived.{next_lived}
use Rattle.planned_die.proofs.Reserved.{renewed_reserved}
use Rattle.planned_die.proofs.Quiet.{quiet_at_once}
use Rattle.planned_die.proofs.planned_die.PlannedDie.renew.Goals as goal

pub invariant_of-self : goal.invariant_of-self
invariant_of-self g c =
    let die : Planned g.row.N.Denot = record {
      core = c.self.inside.core;
      terms = c.self.inside.terms;
      life = c.self.inside.life;
      entered = c.self.inside.entered;
      first = c.self.inside.first;
      asked = map jobs_of c.self.inside.asked.items;
    } in
    let over : c.self.inside.life ≤ now c.self.inside.core.log = omega (arith, c.now-now.ensures, c.if-now-self.false) in (
      record {
        reserved = renewed_reserved die.terms die.life die.core c.renew.new.self c.in-Ok.ensures.ok c.self.invariant.0.reserved;
        earlier = c.self.inside.core.log ∷ c.self.invariant.0.earlier;
        lived = next_lived die c.self.invariant.0.earlier c.self.invariant.0.lived
            (ended die.core die.terms c.self.invariant.0.earlier die.life die.entered c.self.invariant.0.lived.kept over) c.renew.new.self
            (c.self.inside.first + c.from.result) c.in-Ok.ensures.ok (omega (arith, c.from.ensures, c.now-now.ensures));
        early = c.if-next-gt-LAST_BEGINNING.false;
        asked_early = c.self.invariant.0.asked_early;
        one_each = c.self.invariant.0.one_each ∙ sym (ap (λ (core : Core g.row.N.Denot). length core.start.plan.caps) c.in-Ok.ensures.ok);
      },
      kept_later die.terms (die.first + now die.core.log) _ c.self.inside.asked.items
          (omega (arith, c.from.ensures, c.now-now.ensures, ap (λ (core : Core g.row.N.Denot). now core.log) c.in-Ok.ensures.ok)) c.self.invariant.1,
      c.self.invariant.2,
      quiet_at_once die.terms.tasks _,
    )

pub unreachable-requires : goal.unreachable-requires
unreachable-requires g c =
    let over : c.self.inside.life ≤ now c.self.inside.core.log = omega (arith, c.now-now.ensures, c.if-now-self.false) in
    not_left c.self.inside.core c.self.inside.terms c.self.invariant.0.earlier c.self.inside.life c.self.inside.entered
    c.self.invariant.0.lived.kept over c.in-Err-NotQuiet.field-0 c.in-Err-NotQuiet.field-0-0 c.in-Err-NotQuiet.ensures.refused
    c.in-Err-NotQuiet.field-0-is

pub returns-in-Ok-clause-lived : goal.returns-in-Ok-clause-lived
returns-in-Ok-clause-lived g c =
    let die : Planned g.row.N.Denot = record {
      core = c.self.inside.core;
      terms = c.self.inside.terms;
      life = c.self.inside.life;
      entered = c.self.inside.entered;
      first = c.self.inside.first;
      asked = map jobs_of c.self.inside.asked.items;
    } in
    let over : c.self.inside.life ≤ now c.self.inside.core.log = omega (arith, c.now-now.ensures, c.if-now-self.false) in
    rw (← c.self.view_is) (λ earlier h. next_lived die earlier h
    (ended die.core die.terms c.self.invariant.0.earlier die.life die.entered c.self.invariant.0.lived.kept over) c.renew.new.self
    (c.self.inside.first + c.from.result) c.in-Ok.ensures.ok (omega (arith, c.from.ensures, c.now-now.ensures)))

pub invariant_of-self-in-Err-WornOut : goal.invariant_of-self-in-Err-WornOut
invariant_of-self-in-Err-WornOut g c = grind (arith, common_steps)

pub overflow_add-next : goal.overflow_add-next
overflow_add-next g c = grind (arith, common_steps)

pub returns-in-Err-WornOut-clause-refused : goal.returns-in-Err-WornOut-clause-refused
returns-in-Err-WornOut-clause-refused g c = grind (arith, common_steps)

pub returns-in-Err-WornOut-clause-unchanged : goal.returns-in-Err-WornOut-clause-unchanged
returns-in-Err-WornOut-clause-unchanged g c = grind (arith, common_steps)

pub returns-in-Ok-clause-ended : goal.returns-in-Ok-clause-ended
returns-in-Ok-clause-ended g c = grind (arith, common_steps)

pub returns-in-Ok-clause-may : goal.returns-in-Ok-clause-may
returns-in-Ok-clause-may g c = grind (arith, common_steps)

pub returns-in-Ok-clause-ok : goal.returns-in-Ok-clause-ok
returns-in-Ok-clause-ok g c = grind (arith, common_steps)

pub returns-then-is_stopped-clause-refused : goal.returns-then-is_stopped-clause-refused
returns-then-is_stopped-clause-refused g c = grind (arith, common_steps)

pub returns-then-next-gt-LAST_BEGINNING-clause-refused : goal.returns-then-next-gt-LAST_BEGINNING-clause-refused
returns-then-next-gt-LAST_BEGINNING-clause-refused g c = grind (arith, common_steps)

pub returns-then-now-self-clause-refused : goal.returns-then-now-self-clause-refused
returns-then-now-self-clause-refused g c = grind (arith, common_steps)

pub unreachable-requires-in-Err-DieStopped : goal.unreachable-requires-in-Err-DieStopped
unreachable-requires-in-Err-DieStopped g c = grind (arith, common_steps)
