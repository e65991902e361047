-- A die that keeps its plan begins where a mount has ended, or doesn't.
use Rattle.std.proofs.Common.{◌≡◌, ◌≢◌, ◌⊎◌, ℕ, Bool, true, false, List, Option, Some, Result, Ok, Err, sym, ap, subst, ◌∙◌, inl, inr}
use Rattle.std.specs.Prelude.{IfErr, IfOk, is_some, vec_capacity}
use Rattle.std.proofs.lemmas.Bool.{true≢false}
use Rattle.slot_types.specs.declared.pages.PageData.{PageData}
use Rattle.slot_types.specs.declared.plans.DiePlan.{DiePlan}
use Rattle.demand_rules.specs.declared.terms.Terms.{Terms}
use Rattle.die_checkpoint.specs.declared.checkpoint.Checkpoint.{Checkpoint}
use Rattle.die_mount.specs.declared.mounted.Mounted.{Mounted}
use Rattle.die_mount.specs.declared.stage.MountCall.{MountCall}
use Rattle.die_mount.specs.declared.stage.Stage.{Stage}
use Rattle.die_mount.specs.declared.stage.Stage.TheVariants as stage
use Rattle.die_mount.specs.Ending.{IsEndOf}
use Rattle.die_mount.specs.Mounting.{Mounting, call_at}
use Rattle.planned_die.specs.declared.lacks.Shortage.{Shortage}
use Rattle.planned_die.specs.declared.resumptions.PlanResumeRefusal.TheVariants as plans
use Rattle.ongoing_die.specs.declared.refusals.OngoingResumeRefusal.{OngoingResumeRefusal}
use Rattle.ongoing_die.specs.declared.refusals.OngoingResumeRefusal.TheVariants as refuses
use Rattle.ongoing_die.specs.Resuming.{RefusesOngoingResume, out_of_memory}
use Rattle.stepped_plan.specs.Resuming.{GoesOnPlanned}
use Rattle.flash_c.specs.declared.kept.KeptDie.{KeptDie}
use Rattle.flash_c.specs.Planned.{HasRoom}
use Rattle.flash_c.specs.declared.recoveries.Recovery.{Recovery}
use Rattle.flash_c.specs.declared.recoveries.Recovery.TheVariants as recovery
use Rattle.flash_c.specs.PlannedResuming.{BeginsKept, IsOver, IsUnbegun, KeepsAt, NoneKeeps}

module _ (m : Mounting) (end : Mounted) (plan : DiePlan) (terms : Terms) (longest : ℕ) (is : IsEndOf m end) (same : plan ≡ m.plan) where
  pub keeps_at : (names : List PageData) (kept : KeptDie) → m.stage ≡ stage.Done → GoesOnPlanned plan terms longest end.checkpoint names kept.plan
      → kept.plan.part ≡ record { aside = end.aside; serial = end.next; stands = false } → HasRoom terms (vec_capacity kept.ops) → KeepsAt m terms longest names kept
  keeps_at names kept ended on part room = record {
    ended = ended;
    end = end;
    is = is;
    goes_on = subst (λ (p : DiePlan). GoesOnPlanned p terms longest end.checkpoint names kept.plan) same on;
    part = part;
    room = room;
  }

  pub none_keeps : (refusal : OngoingResumeRefusal) → (refusal ≢ out_of_memory → RefusesOngoingResume plan terms longest end.checkpoint plan.shape refusal)
      → refusal ≢ out_of_memory → NoneKeeps m terms longest refusal
  none_keeps refusal h other = record {
    end = end;
    is = is;
    refused = subst (λ (p : DiePlan). RefusesOngoingResume p terms longest end.checkpoint p.shape refusal) same (h other);
  }

  -- its balances are full
  pub balances_full : end.checkpoint.balances ≡ plan.caps
  balances_full = ap (λ (c : Checkpoint). c.balances) is.checkpoint ∙ sym (ap (λ (p : DiePlan). p.caps) same)

  -- what was made, in a box
  pub keeps_boxed : {B : Type 0} (result : Result B OngoingResumeRefusal) (made : Result KeptDie OngoingResumeRefusal) (value : B → KeptDie)
      (names : List PageData) → m.stage ≡ stage.Done → IfOk result (λ b. made ≡ Ok (value b))
      → IfOk made (λ kept. GoesOnPlanned plan terms longest end.checkpoint names kept.plan)
      → IfOk made (λ kept. kept.plan.part ≡ record { aside = end.aside; serial = end.next; stands = false })
      → IfOk made (λ kept. HasRoom terms (vec_capacity kept.ops)) → IfOk result (λ b. KeepsAt m terms longest names (value b))
  keeps_boxed (Ok b) made value names ended box on part room = keeps_at names (value b) ended
      (subst (λ (r : Result KeptDie OngoingResumeRefusal). IfOk r (λ k. GoesOnPlanned plan terms longest end.checkpoint names k.plan)) box on)
      (subst (λ (r : Result KeptDie OngoingResumeRefusal). IfOk r (λ k. k.plan.part ≡ record { aside = end.aside; serial = end.next; stands = false })) box part)
      (subst (λ (r : Result KeptDie OngoingResumeRefusal). IfOk r (λ k. HasRoom terms (vec_capacity k.ops))) box room)
  keeps_boxed (Err e) made value names ended box on part room = tt

  pub refuses_boxed : {B : Type 0} (result : Result B OngoingResumeRefusal) (made : Result KeptDie OngoingResumeRefusal)
      → IfErr result (λ refusal. (refusal ≡ out_of_memory) ⊎ (made ≡ Err refusal))
      → IfErr made (λ refusal. refusal ≢ out_of_memory → RefusesOngoingResume plan terms longest end.checkpoint plan.shape refusal)
      → IfErr result (λ refusal. refusal ≢ out_of_memory → NoneKeeps m terms longest refusal)
  refuses_boxed (Ok b) made box h = tt
  refuses_boxed (Err r) made (inl memory) h = λ other. absurd (other memory)
  refuses_boxed (Err r) made (inr is) h = none_keeps r (subst (λ (x : Result KeptDie OngoingResumeRefusal). IfErr x
      (λ s. s ≢ out_of_memory → RefusesOngoingResume plan terms longest end.checkpoint plan.shape s)) is h)

-- whether a task has too few pages
is_short : OngoingResumeRefusal → Bool
is_short (refuses.Plan (plans.NotStocked shortage)) = true
is_short _ = false

-- out of memory isn't that
pub memory_stocks : (r : OngoingResumeRefusal) → r ≡ out_of_memory → (shortage : Shortage) → r ≢ refuses.Plan (plans.NotStocked shortage)
unfolding is_short
memory_stocks r memory shortage is = true≢false (sym (ap is_short is) ∙ ap is_short memory)

pub stocked_boxed : {B : Type 0} (result : Result B OngoingResumeRefusal) (made : Result KeptDie OngoingResumeRefusal)
    → IfErr result (λ refusal. (refusal ≡ out_of_memory) ⊎ (made ≡ Err refusal))
    → IfErr made (λ refusal. (shortage : Shortage) → refusal ≢ refuses.Plan (plans.NotStocked shortage))
    → IfErr result (λ refusal. (shortage : Shortage) → refusal ≢ refuses.Plan (plans.NotStocked shortage))
stocked_boxed (Ok b) made box h = tt
stocked_boxed (Err r) made (inl memory) h = memory_stocks r memory
stocked_boxed (Err r) made (inr is) h = subst (λ (x : Result KeptDie OngoingResumeRefusal). IfErr x
    (λ s. (shortage : Shortage) → s ≢ refuses.Plan (plans.NotStocked shortage))) is h

-- Where a mount is

-- a mount that has calls has ended where none comes any more
pub calls_over : (r : Recovery) (m : Mounting) → r ≡ recovery.Calls m → m.stage ≢ stage.Done → ¬ IsOver r
calls_over r m is more over = more (subst IsOver is over)

-- a die that begins there
pub begins_kept : (r : Recovery) (m : Mounting) (terms : Terms) (longest : ℕ) (names : List PageData) (kept : KeptDie) → r ≡ recovery.Calls m
    → KeepsAt m terms longest names kept → BeginsKept r terms longest names kept
begins_kept r m terms longest names kept is h = subst (λ (x : Recovery). BeginsKept x terms longest names kept) (sym is) h

pub unbegun_of : (r : Recovery) (m : Mounting) (terms : Terms) (longest : ℕ) (refusal : OngoingResumeRefusal) → r ≡ recovery.Calls m
    → (refusal ≢ out_of_memory → NoneKeeps m terms longest refusal)
    → ((shortage : Shortage) → refusal ≢ refuses.Plan (plans.NotStocked shortage)) → IsUnbegun r terms longest (Some refusal)
unbegun_of r m terms longest refusal is h stocked =
    subst (λ (x : Recovery). IsUnbegun x terms longest (Some refusal)) (sym is) (h, stocked)

-- a call that comes yet
pub not_done : (n : ℕ) (s : Stage) (call : Option MountCall) → call ≡ call_at n s → is_some call ≡ true → s ≢ stage.Done
not_done n s call is some done =
    true≢false (sym some ∙ (ap (λ (o : Option MountCall). is_some o) is ∙ ap (λ (x : Stage). is_some (call_at n x)) done))
