-- A die whose device has a call left for each slot of its life isn't stopped.
use Rattle.std.proofs.Common.{◌≡◌, ◌<◌, ◌≤◌, ℕ, zero, suc, ◌+◌, Bool, true, false, ap, sym, subst, ◌∙◌, inl, inr, refl, arith, Option, Some, None, Ok, Err}
use Rattle.slot_types.specs.Arrivals.{IsArrival}
use Rattle.slot_types.specs.declared.events.Event.{Event}
use Rattle.slot_types.specs.declared.events.Event.TheVariants as events
use Rattle.slot_types.specs.declared.limits.TheConstants.{MAX_SLOT}
use Rattle.slot_types.specs.declared.refusals.Refusal.{Refusal}
use Rattle.slot_types.specs.declared.replies.Reply.TheVariants as replies
use Rattle.slot_types.specs.declared.replies.SlotReply.{SlotReply}
use Rattle.die_log.specs.Model.Log.{now}
use Rattle.flash_die.specs.Fuse.{EndsAsFused, Fuse}
use Rattle.flash_die.specs.Memory.{Memory}
use Rattle.flash_die.specs.declared.nand.NandCall.{NandCall}
use Rattle.slot_core.specs.Calls.{IsCall, RefusesCall, call_for}
use Rattle.slot_core.specs.Core.{Core}
use Rattle.slot_core.specs.Needs.{IsOnlyCall}
use Rattle.flashplan_script_runs.proofs.Calls.{not_both, slot_carried}
use Rattle.flashplan_watched_runs.specs.Failing.{RunsWell, calls_of}
use Rattle.flashplan_watched_runs.specs.declared.failing.FailAt.{FailAt}

-- the device below the fuse makes each call well
abbrev EndsWell : Memory → NandCall → Bool → Memory → Type 0
EndsWell before call well after = well ≡ true

-- one whose device isn't to fail begins so
pub begins_well : (die : Core (Fuse Memory)) (fail : Option FailAt) (number : ℕ) → fail ≡ None → die.stopped ≡ false
    → die.device.left ≡ calls_of fail number → RunsWell die
begins_well die fail number none runs left =
    let all : die.device.left ≡ calls_of None number = left ∙ ap (λ (f : Option FailAt). calls_of f number) none in
    (runs, omega (arith, all))

no_slot : {A : Type 0} (event : Event) → IsArrival event → event ≡ events.Slot → A
no_slot event arrives is = absurd (subst IsArrival is arrives)

-- one call of a slot at most is used up
left_after : (needed : Option NandCall) (before after : Fuse Memory) → IsOnlyCall (EndsAsFused EndsWell) needed true before after
    → before.left ≤ after.left + 1
left_after None before after same = omega (arith, ap (λ (f : Fuse Memory). f.left) same)
left_after (Some call) before after ends = by before.left refl
  where
    by : (left : ℕ) → before.left ≡ left → before.left ≤ after.left + 1
    by zero is = omega (arith, is)
    by (suc left) is = omega (arith, (ends.lasting (λ none. absurd (omega (arith, is, none)))).left)

module _ {failures : Fuse Memory → ℕ} where
  pub slot_well : (reply : SlotReply) (before after : Core (Fuse Memory))
      → IsCall (EndsAsFused EndsWell) failures false 0 events.Slot (Ok (replies.Slot reply)) before after → RunsWell before → RunsWell after
  slot_well reply before after call well = (
    call.ended.runs,
    omega (
      arith,
      well.1,
      (slot_carried reply before after call).counted,
      left_after (call_for events.Slot before.start before.log) before.device after.device call.device.made,
    ),
  )

  pub refused_well : (refusal : Refusal) (before after : Core (Fuse Memory)) → now before.log < MAX_SLOT
      → IsCall (EndsAsFused EndsWell) failures false 0 events.Slot (Err refusal) before after → RunsWell before → RunsWell after
  refused_well refusal before after few call well = by call.ended
    where
      by : RefusesCall events.Slot refusal before after → RunsWell after
      by (inl h) = subst RunsWell (sym h.unchanged) well
      by (inr (inl h)) = subst RunsWell (sym h.unchanged) well
      by (inr (inr (inl h))) =
          let made = call.device.failed (ap (λ (e : Refusal). Err e) h.refusal_is) in
          let blown : false ≡ true = (made.ended.lasting (λ none. absurd (omega (arith, few, well.1, none)))).inner in
          absurd cc
      by (inr (inr (inr h))) = not_both before.stopped well.0 h.was_stopped

  pub taken_well : (event : Event) (number : ℕ) (before after : Core (Fuse Memory)) → IsArrival event
      → IsCall (EndsAsFused EndsWell) failures false 0 event (Ok (replies.Taken number)) before after → RunsWell before → RunsWell after
  taken_well (events.Submit task release due ops) number before after arrives call well =
      (call.ended.runs, omega (arith, well.1, ap now call.ended.logged, ap (λ (f : Fuse Memory). f.left) call.device.made))
  taken_well (events.Collect task release due) number before after arrives call well =
      (call.ended.runs, omega (arith, well.1, ap now call.ended.logged, ap (λ (f : Fuse Memory). f.left) call.device.made))
  taken_well events.Slot number before after arrives call well = absurd arrives

  -- a job or a collection that is refused changes nothing
  pub untaken_well : (event : Event) (refusal : Refusal) (before after : Core (Fuse Memory)) → IsArrival event
      → IsCall (EndsAsFused EndsWell) failures false 0 event (Err refusal) before after → RunsWell before → RunsWell after
  untaken_well event refusal before after arrives call well = by call.ended
    where
      by : RefusesCall event refusal before after → RunsWell after
      by (inl h) = subst RunsWell (sym h.unchanged) well
      by (inr (inl h)) = subst RunsWell (sym h.unchanged) well
      by (inr (inr (inl h))) = no_slot event arrives h.slot
      by (inr (inr (inr h))) = not_both before.stopped well.0 h.was_stopped
