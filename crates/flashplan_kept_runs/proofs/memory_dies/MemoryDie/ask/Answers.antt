use Rattle.std.proofs.Common.{◌≡◌, false, [], None, Some, sym, subst, ◌∙◌}
use Rattle.slot_types.specs.declared.events.Event.TheVariants as events
use Rattle.flash_die.specs.Memory.{Memory}
use Rattle.die_log.specs.Model.Log.{now}
use Rattle.planned_die.specs.Planned.{Planned}
use Rattle.flashplan_kept_runs.specs.declared.refusals.RowRefusal.TheVariants as rows
use Rattle.flashplan_kept_runs.specs.KeptDies.{HasMoved, kept_of}
use Rattle.flashplan_kept_runs.specs.KeptRows.{has_other_times, row_moves, row_refusal}
use Rattle.flashplan_kept_runs.proofs.Slots.{asked_moved, asked_runs, asked_unrefused, plan_moved, plan_refused, plan_runs}
use Rattle.flashplan_kept_runs.proofs.memory_dies.MemoryDie.ask.Goals as goal

pub invariant_of-self : goal.invariant_of-self
invariant_of-self c =
    let die : Planned Memory = c.self.inside.die in
    let k = c.self.invariant in
    let h = c.in-Err.ensures.ask [] k.lived in
    let times = subst (λ (p : Planned Memory). has_other_times p.terms (now p.core.log) c.args.task c.args.release c.args.due ≡ false)
    (sym c.self.view_is) (sym c.has_other_times.ensures ∙ c.if-has_other_times.false) in
    plan_runs die c.ask.new.self k c.args.task c.args.release c.args.due c.args.ops.now times c.in-Err.refusal h.0 h.1

pub returns-in-Err-clause-refused : goal.returns-in-Err-clause-refused
returns-in-Err-clause-refused c =
    let die : Planned Memory = c.self.inside.die in
    let k = c.self.invariant in
    let h = c.in-Err.ensures.ask [] k.lived in
    let times = subst (λ (p : Planned Memory). has_other_times p.terms (now p.core.log) c.args.task c.args.release c.args.due ≡ false)
    (sym c.self.view_is) (sym c.has_other_times.ensures ∙ c.if-has_other_times.false) in
    subst (λ (p : Planned Memory). Some (rows.Ask c.in-Err.refusal)
    ≡ row_refusal (kept_of p) (events.Submit c.args.task c.args.release c.args.due c.args.ops.now)) c.self.view_is
    (plan_refused die c.ask.new.self k c.args.task c.args.release c.args.due c.args.ops.now times c.in-Err.refusal h.0 h.1)

pub returns-in-Err-clause-moved : goal.returns-in-Err-clause-moved
returns-in-Err-clause-moved c =
    let die : Planned Memory = c.self.inside.die in
    let k = c.self.invariant in
    let h = c.in-Err.ensures.ask [] k.lived in
    let times = subst (λ (p : Planned Memory). has_other_times p.terms (now p.core.log) c.args.task c.args.release c.args.due ≡ false)
    (sym c.self.view_is) (sym c.has_other_times.ensures ∙ c.if-has_other_times.false) in
    subst (λ (p : Planned Memory). HasMoved (row_moves p.terms (now p.core.log)
    (events.Submit c.args.task c.args.release c.args.due c.args.ops.now)) (kept_of p) (kept_of c.ask.new.self)) c.self.view_is
    (plan_moved die c.ask.new.self k c.args.task c.args.release c.args.due c.args.ops.now times c.in-Err.refusal h.0 h.1)

pub invariant_of-self-2 : goal.invariant_of-self-2
invariant_of-self-2 c =
    let die : Planned Memory = c.self.inside.die in
    let k = c.self.invariant in
    let h = c.in-Ok.ensures.ask [] k.lived in
    let times = subst (λ (p : Planned Memory). has_other_times p.terms (now p.core.log) c.args.task c.args.release c.args.due ≡ false)
    (sym c.self.view_is) (sym c.has_other_times.ensures ∙ c.if-has_other_times.false) in
    asked_runs die c.ask.new.self k c.args.task c.args.release c.args.due c.args.ops.now times c.in-Ok.number h
    (c.ask.ensures.lived [] k.lived)

pub returns-clause-refused : goal.returns-clause-refused
returns-clause-refused c =
    let die : Planned Memory = c.self.inside.die in
    let k = c.self.invariant in
    let h = c.in-Ok.ensures.ask [] k.lived in
    let times = subst (λ (p : Planned Memory). has_other_times p.terms (now p.core.log) c.args.task c.args.release c.args.due ≡ false)
    (sym c.self.view_is) (sym c.has_other_times.ensures ∙ c.if-has_other_times.false) in
    subst (λ (p : Planned Memory). None
    ≡ row_refusal (kept_of p) (events.Submit c.args.task c.args.release c.args.due c.args.ops.now)) c.self.view_is
    (asked_unrefused die c.ask.new.self k c.args.task c.args.release c.args.due c.args.ops.now times c.in-Ok.number h)

pub returns-clause-moved : goal.returns-clause-moved
returns-clause-moved c =
    let die : Planned Memory = c.self.inside.die in
    let k = c.self.invariant in
    let h = c.in-Ok.ensures.ask [] k.lived in
    let times = subst (λ (p : Planned Memory). has_other_times p.terms (now p.core.log) c.args.task c.args.release c.args.due ≡ false)
    (sym c.self.view_is) (sym c.has_other_times.ensures ∙ c.if-has_other_times.false) in
    subst (λ (p : Planned Memory). HasMoved (row_moves p.terms (now p.core.log)
    (events.Submit c.args.task c.args.release c.args.due c.args.ops.now)) (kept_of p) (kept_of c.ask.new.self)) c.self.view_is
    (asked_moved die c.ask.new.self k c.args.task c.args.release c.args.due c.args.ops.now times c.in-Ok.number h)
