use Rattle.std.proofs.Common.{rules, ◌≡◌, ◌<◌, ◌∙◌, Err, ap, refl, subst, sym}
use Rattle.slot_types.specs.declared.events.Event.TheVariants as events
use Rattle.slot_types.specs.declared.limits.TheConstants.{MAX_SLOT}
use Rattle.die_log.specs.Model.Log.{now}
use Rattle.flash_die.specs.Memory.{Memory}
use Rattle.slot_core.specs.Core.{Core}
use Rattle.flashplan_script_runs.specs.RunningDies.{RefusesSlot, running_of}
use Rattle.flashplan_script_runs.proofs.Calls.{slot_refused, stays_well}
use Rattle.flashplan_store_compare.proofs.store_dies.StoreDie.step.Goals.{then-reply-self, else-reply-self}
use Rattle.flashplan_store_compare.proofs.store_dies.StoreDie.step.Goals as goal

pub returns-in_err-reply-clause-took : goal.returns-in_err-reply-clause-took
returns-in_err-reply-clause-took c =
    let why = c.in_err-reply.field-0.0 in
    let refused : c.from_residual.result ≡ Err why = search rules in
    rw refused (
    subst (λ (core : Core Memory). RefusesSlot why (running_of core) (running_of c.slot.new.self)) c.deref_mut.ensures.value
    (slot_refused why c.deref_mut.result.now c.slot.new.self
    (subst (λ (core : Core Memory). now core.log < MAX_SLOT) (sym c.deref_mut.ensures.value) c.requires) c.in_err-reply.ensures)
    )

pub returns-in_err-reply-clause-well : goal.returns-in_err-reply-clause-well
returns-in_err-reply-clause-well c = λ well.
    (stays_well events.Slot (Err c.in_err-reply.field-0.0) c.deref_mut.result.now c.slot.new.self c.in_err-reply.ensures
    (refl, ap (λ (core : Core Memory). core.stopped) c.deref_mut.ensures.value ∙ well)).1

pub returns-clause-well : goal.returns-clause-well
returns-clause-well c = λ well. elim c.if-reply-self.branch [
  | then-reply-self w ↦ rw w.self-is (c.in_ok-reply.ensures.ended.runs)
  | else-reply-self w ↦ rw w.self-is (c.in_ok-reply.ensures.ended.runs)
]
