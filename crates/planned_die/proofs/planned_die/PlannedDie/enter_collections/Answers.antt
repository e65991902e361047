use Rattle.std.proofs.Common.{map, ◌≡◌, ◌+◌, length, ap, sym, subst, ◌∙◌, arith}
use Rattle.die_log.specs.Model.Log.{now}
use Rattle.die_log.specs.Model.Lives.{Lives}
use Rattle.slot_core.specs.Core.{Core}
use Rattle.planned_die.specs.Remembered.{jobs_of}
use Rattle.planned_die.specs.Planned.{Planned, HasLived}
use Rattle.planned_die.specs.PlannedCalls.{with_own, with_all_own}
use Rattle.planned_die.proofs.Passing.{kept_later}
use Rattle.planned_die.proofs.Lived.{own_lived}
use Rattle.planned_die.specs.OwnCollections.{AreQuiet}
use Rattle.planned_die.proofs.planned_die.PlannedDie.enter_collections.Goals as goal

pub returns-clause-entered : goal.returns-clause-entered
returns-clause-entered g c =
    let die : Planned g.row.N.Denot = record {
      core = c.self.inside.core;
      terms = c.self.inside.terms;
      life = c.self.inside.life;
      entered = c.self.inside.entered;
      first = c.self.inside.first;
      asked = map jobs_of c.self.inside.asked.items;
    } in
    let came : c.enter_rest.new.core ≡ with_all_own c.args.caller die =
    c.enter_rest.ensures.entered ∙ ap (λ n. with_own c.args.caller die.terms die.core die.entered n) c.enter_rest.ensures.all in
    rw (← c.self.view_is) (record {
      ran = sym c.is_stopped.ensures ∙ c.if-is_stopped.false;
      early = omega (arith, c.now.ensures, c.if-now-self.false);
      came = (λ i. record die { core = came i; entered = c.enter_rest.ensures.all i });
      slot_stays = c.enter_rest.ensures.slot_stays;
    })

pub returns-clause-lived : goal.returns-clause-lived
returns-clause-lived g c =
    let die : Planned g.row.N.Denot = record {
      core = c.self.inside.core;
      terms = c.self.inside.terms;
      life = c.self.inside.life;
      entered = c.self.inside.entered;
      first = c.self.inside.first;
      asked = map jobs_of c.self.inside.asked.items;
    } in
    let between : (earlier : Lives) → HasLived die earlier → HasLived (record die { core = c.enter_rest.new.core; entered = c.enter_rest.new.entered }) earlier =
    λ earlier h. own_lived die earlier h c.args.caller die.entered c.enter_rest.new.entered c.enter_rest.new.core c.enter_rest.ensures.entered
    c.enter_rest.ensures.slot_stays (c.enter_rest.ensures.kept earlier h.kept) in
    rw (← c.self.view_is) (λ earlier h. between earlier h)

pub invariant_of-self : goal.invariant_of-self
invariant_of-self g c =
    let die : Planned g.row.N.Denot = record {
      core = c.self.inside.core;
      terms = c.self.inside.terms;
      life = c.self.inside.life;
      entered = c.self.inside.entered;
      first = c.self.inside.first;
      asked = map jobs_of c.self.inside.asked.items;
    } in
    let p = c.self.invariant.0 in (
      record {
        reserved = c.enter_rest.ensures.reserved;
        earlier = p.earlier;
        lived = own_lived die p.earlier p.lived c.args.caller die.entered c.enter_rest.new.entered c.enter_rest.new.core
            c.enter_rest.ensures.entered c.enter_rest.ensures.slot_stays (c.enter_rest.ensures.kept p.earlier p.lived.kept);
        early = p.early;
        asked_early = p.asked_early;
        one_each = p.one_each ∙ sym (ap (λ (core : Core g.row.N.Denot). length core.start.plan.caps) c.enter_rest.ensures.entered);
      },
      kept_later die.terms (die.first + now die.core.log) _ c.self.inside.asked.items (omega (arith, c.enter_rest.ensures.slot_stays)) c.self.invariant.1,
      c.self.invariant.2,
      subst (λ n. AreQuiet die.terms.tasks n c.self.inside.quiet) (sym c.enter_rest.ensures.slot_stays) c.self.invariant.3,
    )
