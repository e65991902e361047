-- What a store is made of, and what becomes of its passes where it closes.
use Rattle.std.specs.Prelude.{◌≡◌, ℕ, zero, suc, ◌+◌, ◌<◌, ◌≤◌, ◌⊎◌, Bool, true, false, List, [], ◌∷◌, length, All, Some, Result}
use Rattle.slot_types.specs.Shapes.{IsShape}
use Rattle.slot_types.specs.declared.plans.DiePlan.{DiePlan}
use Rattle.slot_types.specs.declared.plans.Shape.{Shape}
use Rattle.slot_types.specs.declared.events.Event.{Event}
use Rattle.slot_types.specs.declared.replies.Reply.{Reply}
use Rattle.slot_types.specs.declared.refusals.Refusal.{Refusal}
use Rattle.slot_types.specs.declared.refusals.Refusal.TheVariants.{NoMemory, PassesOut}
use Rattle.plan_rules.specs.Bound.{MeetsBound}
use Rattle.turn_lock.specs.Views.{PassView, IsSamePass}
use Rattle.turn_lock.specs.Log.{AllBy}
use Rattle.turn_lock.specs.Passes.{IsOut}
use Rattle.slot_core.specs.Core.{Core}
use Rattle.slot_core.specs.declared.renewals.RenewalRefusal.{RenewalRefusal}
use Rattle.slot_core.specs.Renewals.{MayBeRenewed, RefusesRenewal, renewed_core}
use Rattle.die_log.specs.Results.Promises.{KeepsPromises}
use Rattle.die_service.specs.declared.refused.RefusedAt.{RefusedAt}
use Rattle.die_service.specs.Logs.{log_of, calls_of}
use Rattle.die_service.specs.Replies.{HasExactLog}
use Rattle.die_log.specs.Model.Start.{Start}

-- each device has the shape of the die in its place; a die or a device that is alone in its place fits
abbrev pub Fit : List DiePlan → List Shape → Type 0
Fit (plan ∷ plans) (shape ∷ shapes) = (shape ≡ plan.shape) × Fit plans shapes
Fit _ _ = Unit {0}

-- the number of dies and their shapes are within their limits, and the devices have these shapes
pub record IsShaped (plans : List DiePlan) (shapes : List Shape) : Type 0 where
  pub some_dies : 1 ≤ length plans
  pub few_dies : length plans ≤ 8
  pub shaped : All (λ plan. IsShape plan.shape) plans
  pub fit : Fit plans shapes

-- each die has a device, and a plan within its bound
pub record HasUsablePlans (plans : List DiePlan) (devices : ℕ) : Type 0 where
  pub one_each : devices ≡ length plans
  pub bound : All MeetsBound plans

-- nothing was done on the die since its log began, and it isn't stopped
pub record IsAtStart {N : Type 0} (die : Core N) : Type 0 where
  pub no_call : die.log ≡ []
  pub runs : die.stopped ≡ false

-- each die was renewed
abbrev pub AreRenewed : {N : Type 0} → List (Core N) → List (Core N) → Type 0
AreRenewed [] [] = Unit {0}
AreRenewed (die ∷ dies) (after ∷ afters) = MayBeRenewed die × (after ≡ renewed_core die) × AreRenewed dies afters
AreRenewed _ _ = ⊥

-- the first of the dies that may not be renewed has this place, and is refused so
abbrev pub IsFirstNotRenewable : {N : Type 0} → List (Core N) → ℕ → RenewalRefusal → Type 0
IsFirstNotRenewable (die ∷ dies) zero refusal = RefusesRenewal die refusal
IsFirstNotRenewable (die ∷ dies) (suc place) refusal = MayBeRenewed die × IsFirstNotRenewable dies place refusal
IsFirstNotRenewable _ _ _ = ⊥

-- a store may have `dies` dies
abbrev pub IsDieCount : ℕ → Type 0
IsDieCount dies = (1 ≤ dies) × (dies ≤ 8)

-- a pass of a die, as clauses see it
abbrev pub DiePass : Type 0
DiePass = PassView Event (Result Reply RefusedAt) Start

-- the pass was answered that `out` passes are out
abbrev pub IsReported : DiePass → ℕ → DiePass → Type 0
IsReported p out q = IsSamePass p q × IsOut HasExactLog p.view out q.view

-- the passes were answered in order that none is out, until one was answered that some are; the later ones are as they
-- were
abbrev pub AreReported : List DiePass → ℕ → List DiePass → Type 0
AreReported [] out [] = out ≡ 0
AreReported (p ∷ ps) out (q ∷ qs) = (IsReported p 0 q × AreReported ps out qs) ⊎ ((0 < out) × IsReported p out q × (qs ≡ ps))
AreReported _ _ _ = ⊥

-- the store stays open: the refusal has the number of passes out on the first die that has any; or no die has, and
-- memory is refused
abbrev pub StayOpen : List DiePass → Refusal → List DiePass → Type 0
StayOpen ps refusal qs = ((out : ℕ) × (0 < out) × (refusal ≡ PassesOut out) × AreReported ps out qs) ⊎ ((refusal ≡ NoMemory) × AreReported ps 0 qs)

-- all passes that were made are this one and those that were joined into it
abbrev pub AllJoined : DiePass → Type 0
AllJoined pass = (made : ℕ) × (pass.view.made ≤ made) × (made ≡ 1 + length pass.view.joined)

-- A die that was closed with this pass: no other pass of it was left, and its log is just what the pass had seen. All
-- that is promised of a log is kept: it is exact, hence legal, and at every moment of it the greatest lateness so far
-- is least.
pub record IsClosedWith {N : Type 0} (pass : DiePass) (die : Core N) : Type 0 where
  pub log_is : die.log ≡ log_of pass.view.seen
  pub promised : KeepsPromises die.start die.log
  pub about_is : pass.view.about ≡ Some die.start
  pub all_joined : AllJoined pass
  pub by_own : AllBy (pass.view.number ∷ pass.view.joined) (calls_of die.log)

-- a die whose log is just what the pass has seen, which was its only one; it isn't stopped where its device never fails
pub record HasLogOf {N : Type 0} (never_fails : Bool) (pass : DiePass) (die : Core N) : Type 0 where
  pub calls_are : calls_of die.log ≡ pass.view.seen
  pub promised : KeepsPromises die.start die.log
  pub runs : never_fails ≡ true → die.stopped ≡ false
  pub about_is : pass.view.about ≡ Some die.start
  pub all_joined : AllJoined pass
  pub by_own : AllBy (pass.view.number ∷ pass.view.joined) (calls_of die.log)
