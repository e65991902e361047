use Rattle.std.proofs.Common.{map, ◌+◌, ◌≡◌, ◌<◌, ◌∷◌, false, length, ap, sym, subst, ◌∙◌, arith}
use Rattle.die_log.specs.Model.Log.{Log, now, carried_slots}
use Rattle.die_log.specs.Model.Start.{Start}
use Rattle.die_log.specs.Model.Lives.{Lives}
use Rattle.slot_core.specs.Core.{Core}
use Rattle.planned_log.specs.Asks.{asked_by}
use Rattle.planned_die.specs.Remembered.{jobs_of}
use Rattle.planned_die.specs.Planned.{Planned, HasLived}
use Rattle.std.proofs.lemmas.List.{length_push}
use Rattle.planned_die.proofs.Passing.{kept_later}
use Rattle.planned_die.proofs.Slotting.{slot_keeps, refused_keeps, refused_log, only_fault, slotted, unslotted}
use Rattle.planned_die.proofs.Reserved.{slotted_reserved, refused_reserved}
use Rattle.planned_die.proofs.Lived.{own_lived, slot_lived, moved}
use Rattle.planned_die.specs.OwnCollections.{AreQuiet}
use Rattle.planned_die.proofs.planned_die.PlannedDie.fill_slot.Goals as goal

pub returns-in-Ok-clause-slot : goal.returns-in-Ok-clause-slot
returns-in-Ok-clause-slot g c = rw (← c.self.view_is)
    (slotted g.N.Nand.ends g.N.Nand.failures g.N.Nand.never_fails c.self.inside.terms c.self.inside.first (map jobs_of c.self.inside.asked.items) c.args.caller
    c.self.inside.entered c.enter_rest.new.entered c.self.inside.life c.self.inside.core c.enter_rest.new.core c.fill_slot.new.self
    c.enter_rest.ensures.entered c.enter_rest.ensures.all c.fill_slot.new.reply (omega (arith, c.now-now.ensures, c.if-now-self.false)) c.in-Ok.ensures)

pub returns-in-Err-clause-slot : goal.returns-in-Err-clause-slot
returns-in-Err-clause-slot g c =
    let f = c.self.inside in
    let p = c.self.invariant.0 in
    let all : c.enter_rest.new.entered ≡ length c.enter_rest.new.core.start.plan.caps = c.enter_rest.ensures.all
    ∙ sym (ap (λ (core : Core g.row.N.Denot). length core.start.plan.caps) c.enter_rest.ensures.entered) in
    let runs : f.core.stopped ≡ false = sym c.is_stopped.ensures ∙ c.if-is_stopped.false in
    let fault = only_fault g.N.Nand.ends g.N.Nand.failures g.N.Nand.never_fails f.terms p.earlier f.life c.enter_rest.new.entered c.args.caller
    c.in-Err.refusal c.enter_rest.new.core c.fill_slot.new.self (c.enter_rest.ensures.kept p.earlier p.lived.kept) all
    (omega (arith, c.enter_rest.ensures.slot_stays, c.now-now.ensures, c.if-now-self.false))
    (ap (λ (core : Core g.row.N.Denot). core.stopped) c.enter_rest.ensures.entered ∙ runs) c.enter_rest.ensures.reserved c.in-Err.ensures in
    rw (← c.self.view_is)
    (unslotted g.N.Nand.ends g.N.Nand.failures g.N.Nand.never_fails c.self.inside.terms c.self.inside.first (map jobs_of c.self.inside.asked.items) c.args.caller
    c.self.inside.entered c.enter_rest.new.entered c.self.inside.life c.self.inside.core c.enter_rest.new.core c.fill_slot.new.self
    c.enter_rest.ensures.entered c.enter_rest.ensures.all c.in-Err.refusal runs
    (omega (arith, c.now-now.ensures, c.if-now-self.false)) fault c.in-Err.ensures)

pub returns-in-Ok-clause-lived : goal.returns-in-Ok-clause-lived
returns-in-Ok-clause-lived g c =
    let die : Planned g.row.N.Denot = record {
      core = c.self.inside.core;
      terms = c.self.inside.terms;
      life = c.self.inside.life;
      entered = c.self.inside.entered;
      first = c.self.inside.first;
      asked = map jobs_of c.self.inside.asked.items;
    } in
    let between : (earlier : Lives) → HasLived die earlier → HasLived (record die { core = c.enter_rest.new.core; entered = c.enter_rest.new.entered }) earlier =
    λ earlier h. own_lived die earlier h c.args.caller die.entered c.enter_rest.new.entered c.enter_rest.new.core c.enter_rest.ensures.entered
    c.enter_rest.ensures.slot_stays (c.enter_rest.ensures.kept earlier h.kept) in
    let all : c.enter_rest.new.entered ≡ length c.enter_rest.new.core.start.plan.caps = c.enter_rest.ensures.all
    ∙ sym (ap (λ (core : Core g.row.N.Denot). length core.start.plan.caps) c.enter_rest.ensures.entered) in
    let early : now c.enter_rest.new.core.log < die.life = omega (arith, c.enter_rest.ensures.slot_stays, c.now-now.ensures, c.if-now-self.false) in
    let lived : (earlier : Lives) → HasLived die earlier → HasLived (record die { core = c.fill_slot.new.self; entered = 0 }) earlier =
    λ earlier h. slot_lived (record die { core = c.enter_rest.new.core; entered = c.enter_rest.new.entered }) earlier (between earlier h)
    g.N.Nand.ends g.N.Nand.failures g.N.Nand.never_fails c.args.caller c.fill_slot.new.self c.fill_slot.new.reply c.in-Ok.ensures
    (slot_keeps g.N.Nand.ends g.N.Nand.failures g.N.Nand.never_fails die.terms earlier die.life c.enter_rest.new.entered c.args.caller
    c.fill_slot.new.reply c.enter_rest.new.core c.fill_slot.new.self (c.enter_rest.ensures.kept earlier h.kept) all early c.in-Ok.ensures) in
    rw (← c.self.view_is) (λ earlier h. lived earlier h)

pub returns-in-Err-clause-lived : goal.returns-in-Err-clause-lived
returns-in-Err-clause-lived g c =
    let die : Planned g.row.N.Denot = record {
      core = c.self.inside.core;
      terms = c.self.inside.terms;
      life = c.self.inside.life;
      entered = c.self.inside.entered;
      first = c.self.inside.first;
      asked = map jobs_of c.self.inside.asked.items;
    } in
    let between : (earlier : Lives) → HasLived die earlier → HasLived (record die { core = c.enter_rest.new.core; entered = c.enter_rest.new.entered }) earlier =
    λ earlier h. own_lived die earlier h c.args.caller die.entered c.enter_rest.new.entered c.enter_rest.new.core c.enter_rest.ensures.entered
    c.enter_rest.ensures.slot_stays (c.enter_rest.ensures.kept earlier h.kept) in
    let logs = refused_log g.N.Nand.ends g.N.Nand.failures g.N.Nand.never_fails c.args.caller c.in-Err.refusal c.enter_rest.new.core
    c.fill_slot.new.self c.in-Err.ensures in
    let lived : (earlier : Lives) → HasLived die earlier → HasLived (record die { core = c.fill_slot.new.self; entered = c.enter_rest.new.entered }) earlier =
    λ earlier h. moved (record die { core = c.enter_rest.new.core; entered = c.enter_rest.new.entered }) earlier (between earlier h) c.fill_slot.new.self
    c.enter_rest.new.entered c.in-Err.ensures.start_stays
    (refused_keeps g.N.Nand.ends g.N.Nand.failures g.N.Nand.never_fails die.terms earlier die.life c.enter_rest.new.entered c.args.caller
    c.in-Err.refusal c.enter_rest.new.core c.fill_slot.new.self (c.enter_rest.ensures.kept earlier h.kept) c.in-Err.ensures)
    (omega (arith, ap now logs)) (λ task. ap (λ (l : Log). asked_by task (l ∷ earlier)) logs) in
    rw (← c.self.view_is) (λ earlier h. lived earlier h)

pub invariant_of-self : goal.invariant_of-self
invariant_of-self g c =
    let die : Planned g.row.N.Denot = record {
      core = c.self.inside.core;
      terms = c.self.inside.terms;
      life = c.self.inside.life;
      entered = c.self.inside.entered;
      first = c.self.inside.first;
      asked = map jobs_of c.self.inside.asked.items;
    } in
    let between : (earlier : Lives) → HasLived die earlier → HasLived (record die { core = c.enter_rest.new.core; entered = c.enter_rest.new.entered }) earlier =
    λ earlier h. own_lived die earlier h c.args.caller die.entered c.enter_rest.new.entered c.enter_rest.new.core c.enter_rest.ensures.entered
    c.enter_rest.ensures.slot_stays (c.enter_rest.ensures.kept earlier h.kept) in
    let all : c.enter_rest.new.entered ≡ length c.enter_rest.new.core.start.plan.caps = c.enter_rest.ensures.all
    ∙ sym (ap (λ (core : Core g.row.N.Denot). length core.start.plan.caps) c.enter_rest.ensures.entered) in
    let early : now c.enter_rest.new.core.log < die.life = omega (arith, c.enter_rest.ensures.slot_stays, c.now-now.ensures, c.if-now-self.false) in
    let lived : (earlier : Lives) → HasLived die earlier → HasLived (record die { core = c.fill_slot.new.self; entered = 0 }) earlier =
    λ earlier h. slot_lived (record die { core = c.enter_rest.new.core; entered = c.enter_rest.new.entered }) earlier (between earlier h)
    g.N.Nand.ends g.N.Nand.failures g.N.Nand.never_fails c.args.caller c.fill_slot.new.self c.fill_slot.new.reply c.in-Ok.ensures
    (slot_keeps g.N.Nand.ends g.N.Nand.failures g.N.Nand.never_fails die.terms earlier die.life c.enter_rest.new.entered c.args.caller
    c.fill_slot.new.reply c.enter_rest.new.core c.fill_slot.new.self (c.enter_rest.ensures.kept earlier h.kept) all early c.in-Ok.ensures) in
    let next : now c.fill_slot.new.self.log ≡ c.now-now.result + 1 = omega (
      arith,
      c.enter_rest.ensures.slot_stays,
      c.now-now.ensures,
      ap now c.in-Ok.ensures.ended.logged,
      length_push (carried_slots c.enter_rest.new.core.log) c.fill_slot.new.reply.ran,
    ) in (
      record {
        reserved = slotted_reserved die.terms die.life g.N.Nand.ends g.N.Nand.failures g.N.Nand.never_fails c.args.caller c.enter_rest.new.core
            c.fill_slot.new.self c.fill_slot.new.reply c.in-Ok.ensures c.enter_rest.ensures.reserved;
        earlier = c.self.invariant.0.earlier;
        lived = lived c.self.invariant.0.earlier c.self.invariant.0.lived;
        early = c.self.invariant.0.early;
        asked_early = c.self.invariant.0.asked_early;
        one_each = c.self.invariant.0.one_each ∙ sym (ap (λ (t : Start). length t.plan.caps) c.in-Ok.ensures.start_stays ∙ ap (λ (core : Core g.row.N.Denot). length core.start.plan.caps) c.enter_rest.ensures.entered);
      },
      kept_later die.terms (die.first + now die.core.log) _ c.self.inside.asked.items (omega (arith, c.enter_rest.ensures.slot_stays, ap now c.in-Ok.ensures.ended.logged, length_push (carried_slots c.enter_rest.new.core.log) c.fill_slot.new.reply.ran)) c.self.invariant.1,
      c.self.invariant.2,
      subst (λ n. AreQuiet die.terms.tasks n c.still_quiet-self-inside.result) (sym next)
          (subst (λ ts. AreQuiet ts (c.now-now.result + 1) c.still_quiet-self-inside.result) c.as_slice.ensures c.still_quiet-self-inside.ensures.quiet),
    )

pub invariant_of-self-in-Err : goal.invariant_of-self-in-Err
invariant_of-self-in-Err g c =
    let die : Planned g.row.N.Denot = record {
      core = c.self.inside.core;
      terms = c.self.inside.terms;
      life = c.self.inside.life;
      entered = c.self.inside.entered;
      first = c.self.inside.first;
      asked = map jobs_of c.self.inside.asked.items;
    } in
    let between : (earlier : Lives) → HasLived die earlier → HasLived (record die { core = c.enter_rest.new.core; entered = c.enter_rest.new.entered }) earlier =
    λ earlier h. own_lived die earlier h c.args.caller die.entered c.enter_rest.new.entered c.enter_rest.new.core c.enter_rest.ensures.entered
    c.enter_rest.ensures.slot_stays (c.enter_rest.ensures.kept earlier h.kept) in
    let logs = refused_log g.N.Nand.ends g.N.Nand.failures g.N.Nand.never_fails c.args.caller c.in-Err.refusal c.enter_rest.new.core
    c.fill_slot.new.self c.in-Err.ensures in
    let lived : (earlier : Lives) → HasLived die earlier → HasLived (record die { core = c.fill_slot.new.self; entered = c.enter_rest.new.entered }) earlier =
    λ earlier h. moved (record die { core = c.enter_rest.new.core; entered = c.enter_rest.new.entered }) earlier (between earlier h) c.fill_slot.new.self
    c.enter_rest.new.entered c.in-Err.ensures.start_stays
    (refused_keeps g.N.Nand.ends g.N.Nand.failures g.N.Nand.never_fails die.terms earlier die.life c.enter_rest.new.entered c.args.caller
    c.in-Err.refusal c.enter_rest.new.core c.fill_slot.new.self (c.enter_rest.ensures.kept earlier h.kept) c.in-Err.ensures)
    (omega (arith, ap now logs)) (λ task. ap (λ (l : Log). asked_by task (l ∷ earlier)) logs) in (
      record {
        reserved = refused_reserved die.terms die.life g.N.Nand.ends g.N.Nand.failures g.N.Nand.never_fails c.args.caller c.enter_rest.new.core
            c.fill_slot.new.self c.in-Err.refusal c.in-Err.ensures c.enter_rest.ensures.reserved;
        earlier = c.self.invariant.0.earlier;
        lived = lived c.self.invariant.0.earlier c.self.invariant.0.lived;
        early = c.self.invariant.0.early;
        asked_early = c.self.invariant.0.asked_early;
        one_each = c.self.invariant.0.one_each ∙ sym (ap (λ (t : Start). length t.plan.caps) c.in-Err.ensures.start_stays ∙ ap (λ (core : Core g.row.N.Denot). length core.start.plan.caps) c.enter_rest.ensures.entered);
      },
      kept_later die.terms (die.first + now die.core.log) _ c.self.inside.asked.items (omega (arith, c.enter_rest.ensures.slot_stays, ap now logs)) c.self.invariant.1,
      c.self.invariant.2,
      subst (λ n. AreQuiet die.terms.tasks n c.self.inside.quiet) (sym (ap now logs ∙ c.enter_rest.ensures.slot_stays)) c.self.invariant.3,
    )

pub still_quiet-self-inside-requires-clause-quiet : goal.still_quiet-self-inside-requires-clause-quiet
still_quiet-self-inside-requires-clause-quiet g c =
    subst (λ ts. AreQuiet ts c.now-now.result c.self.inside.quiet) (sym c.as_slice.ensures)
    (subst (λ n. AreQuiet c.self.inside.terms.tasks n c.self.inside.quiet) (sym c.now-now.ensures) c.self.invariant.3)
