-- Why a part isn't mounted, and why one that stands is.
use Rattle.std.proofs.Common.{◌≡◌, ◌⊎◌, ℕ, ◌<◌, true, List, get_or, Result, Ok, Err, ap, sym, ◌∙◌, subst, inl, inr, arith}
use Rattle.std.specs.Prelude.{IfErr, IfOk, OnOk, is_err}
use Rattle.std.proofs.lemmas.Bool.{cases_eq, true≢false}
use Rattle.slot_types.specs.declared.pages.PageData.{PageData}
use Rattle.slot_types.specs.declared.plans.DiePlan.{DiePlan}
use Rattle.slot_types.specs.declared.plans.Shape.{Shape}
use Rattle.die_log.specs.Model.Start.{blank_page}
use Rattle.labelled_die.specs.Scanning.{RefusesScan}
use Rattle.labelled_die.specs.declared.scanning.PartFault.{PartFault}
use Rattle.labelled_die.specs.declared.scanning.PartFault.TheVariants as scans
use Rattle.power_loss.specs.Aside.{StandsOnPart, part_of}
use Rattle.power_loss.specs.Labels.{FitPlan, Shown}
use Rattle.power_loss.specs.Mounted.{all_count}
use Rattle.power_loss.specs.Recovery.{CanUndo, FindsNoneIn, without_block}
use Rattle.power_loss.proofs.TwoMounts.{content_at}
use Rattle.device_mount.specs.Parts.{IsPlanOf, KeepsPage}
use Rattle.device_mount.specs.Refusals.{NeedsEachBlock, RefusesBegin, RefusesMount, refusal_of}
use Rattle.device_mount.specs.declared.refusals.MountRefusal.{MountRefusal}
use Rattle.device_mount.specs.declared.refusals.MountRefusal.TheVariants as faults
use Rattle.device_mount.proofs.Keeping.{has_label}

-- the scan was refused
pub by_scan : (plan : DiePlan) (shape : Shape) (seen : Shown) (failures : ℕ) (fault : PartFault) → RefusesScan plan shape seen failures fault
    → RefusesMount plan shape seen failures (refusal_of fault)
by_scan plan shape seen failures scans.BadPlan h = h
by_scan plan shape seen failures scans.OtherShape h = h
by_scan plan shape seen failures scans.NoMemory h = h
by_scan plan shape seen failures (scans.OtherLabel block cell) h = ((h.0, h.1), h.2)
by_scan plan shape seen failures scans.DeviceFault h = ((h.0, h.1), h.2)

-- no mount was made by it
pub by_begin : (plan : DiePlan) (shape : Shape) (seen : Shown) (failures : ℕ) (IsIdle : Type 0) (refusal : MountRefusal) → IsPlanOf plan shape
    → (FitPlan (part_of plan) seen → IsIdle) → RefusesBegin IsIdle refusal → RefusesMount plan shape seen failures refusal
by_begin plan shape seen failures IsIdle faults.BadPlan of idle h = absurd h
by_begin plan shape seen failures IsIdle faults.OtherShape of idle h = absurd h
by_begin plan shape seen failures IsIdle faults.NoMemory of idle h = of
by_begin plan shape seen failures IsIdle (faults.OtherLabel block cell) of idle h = absurd h
by_begin plan shape seen failures IsIdle faults.NoIdleBlock of idle h = (of, λ fit. absurd (h (idle fit)))
by_begin plan shape seen failures IsIdle faults.DeviceFault of idle h = absurd h

-- A part that stands

module _ (plan : DiePlan) (pages : List PageData) (seen : Shown) (stands : StandsOnPart plan pages all_count seen) (h : NeedsEachBlock (part_of plan) seen) where
  -- the block that can be undone is the newest one
  newest_is : (b : ℕ) → CanUndo (part_of plan) pages all_count seen b → b ≡ h.newest
  newest_is b can = by_case (cases_eq b h.newest)
    where
      none : (b ≡ h.newest → ⊥) → FindsNoneIn (part_of plan) all_count seen b
      none apart page lt q e in_b =
          let f = has_label page seen q e in
          let n = h.is_newest in
          omega (
            arith,
            can.newer q n.place f.0 n.label f.1 n.stands in_b (λ (is : n.place.block ≡ b). apart (sym is ∙ n.own)),
            n.newest q f.0 f.1 (λ (is : q.block ≡ h.newest). apart (sym in_b ∙ is)),
          )

      by_case : (b ≡ h.newest) ⊎ (b ≡ h.newest → ⊥) → b ≡ h.newest
      by_case (inl is) = is
      by_case (inr apart) = absurd (h.none_idle b can.stands (none apart))

  -- without it each page is found
  keeps : (b : ℕ) → CanUndo (part_of plan) pages all_count seen b → (page : ℕ) → page < plan.logical → KeepsPage seen b page
  keeps b can page lt =
      sym (content_at all_count plan.logical (without_block b seen) page lt)
      ∙ (ap (λ (ps : List PageData). get_or ps page blank_page) (can.others ∙ sym stands.found)
      ∙ content_at all_count plan.logical seen page lt)

  pub needs_none : ⊥
  needs_none = by_room stands.room
    where
      by_room : ((b : ℕ) × (b < (part_of plan).shape.blocks) × FindsNoneIn (part_of plan) all_count seen b)
          ⊎ ((b : ℕ) × CanUndo (part_of plan) pages all_count seen b) → ⊥
      by_room (inl free) = h.none_idle free.0 free.1 free.2
      by_room (inr undo) =
          h.loses.2 (subst (λ (b : ℕ). KeepsPage seen b h.loses.0) (newest_is undo.0 undo.1) (keeps undo.0 undo.1 h.loses.0 h.loses.1))

pub stands_well : (plan : DiePlan) (shape : Shape) (pages : List PageData) (seen : Shown) (failures : ℕ) → StandsOnPart plan pages all_count seen
    → RefusesMount plan shape seen failures faults.NoIdleBlock → ⊥
stands_well plan shape pages seen failures stands h = needs_none plan pages seen stands (h.1 stands.fit)

-- what is so whatever was returned
pub on_ok_so : {X E P : Type 0} (r : Result X E) → P → OnOk r P
on_ok_so (Ok x) p = p
on_ok_so (Err e) p = tt

pub ok_both : {X E : Type 0} {P Q R : X → Type 0} (r : Result X E) → ((x : X) → P x → Q x → R x) → IfOk r P → IfOk r Q → IfOk r R
ok_both (Ok x) f p q = f x p q
ok_both (Err e) f p q = tt

-- where a call failed, what it ensures of that is so
pub of_err : {A E P : Type 0} (r : Result A E) → is_err r ≡ true → IfErr r (λ _. P) → P
of_err (Ok x) fails h = absurd (true≢false (sym fails))
of_err (Err e) fails h = h
