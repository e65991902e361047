-- Whether events keep to a plan, event by event: what `keeps_plan` computes. `Keeping` says what it means.
use Rattle.std.specs.Prelude.{ℕ, ◌+◌, ◌%◌, ◌==◌, ◌&&◌, ◌||◌, not, nat_lt, nat_le, Bool, true, false, if◌then◌else◌}
use Rattle.std.specs.Prelude.{List, [], ◌∷◌, length, IsTrue}
use Rattle.std.specs.List.{list_all}
use Rattle.slot_types.specs.declared.plans.DiePlan.{DiePlan}
use Rattle.slot_types.specs.declared.limits.TheConstants.{MAX_SLOT}
use Rattle.slot_types.specs.declared.events.Op.{Op}
use Rattle.slot_types.specs.declared.events.Event.{Event}
use Rattle.slot_types.specs.declared.events.Event.TheVariants as events
use Rattle.slot_types.specs.declared.plans.Times.{Times}
use Rattle.plan_rules.specs.Times.{times_of}
use Rattle.slot_types.specs.Operations.{page_of, writes}

-- a job that comes in slot `now`
abbrev pub planned_job : DiePlan → Times → ℕ → ℕ → ℕ → ℕ → List Op → Bool
planned_job plan times now task release due ops =
    let t = times_of times task in
    nat_lt task (length plan.caps)
    && (release == now)
    && (due == release + t.period)
    && nat_le due MAX_SLOT
    && nat_le 1 (length ops)
    && nat_le (length ops) t.work
    && list_all (λ op. nat_lt (page_of op) plan.logical) ops
    && nat_le (writes ops) t.writes

-- a collection that comes in slot `now`, where `end` slots are carried out
abbrev pub planned_collection : DiePlan → Times → ℕ → ℕ → ℕ → ℕ → ℕ → Bool
planned_collection plan times end now task release due =
    let t = times_of times task in
    nat_lt task (length plan.caps)
    && (release == now)
    && (release % t.collect_period == 0)
    && nat_lt release end
    && (due == release + t.collect_period)
    && nat_le due MAX_SLOT

-- all jobs and collections are planned
abbrev pub planned_from : DiePlan → Times → ℕ → ℕ → List Event → Bool
planned_from plan times end now [] = true
planned_from plan times end now (events.Submit task release due ops ∷ rest) =
    planned_job plan times now task release due ops && planned_from plan times end now rest
planned_from plan times end now (events.Collect task release due ∷ rest) =
    planned_collection plan times end now task release due && planned_from plan times end now rest
planned_from plan times end now (events.Slot ∷ rest) = planned_from plan times end (now + 1) rest

-- no job of the task is released before `from`, nor less than a period after the one before it
abbrev pub apart_from : ℕ → ℕ → ℕ → List Event → Bool
apart_from task period from [] = true
apart_from task period from (events.Submit other release due ops ∷ rest) =
    if other == task then nat_le from release && apart_from task period (release + period) rest else apart_from task period from rest
apart_from task period from (events.Collect other release due ∷ rest) = apart_from task period from rest
apart_from task period from (events.Slot ∷ rest) = apart_from task period from rest

-- the task has one collection in each slot at which the plan has one, and no two in any slot; `seen` tells whether one
-- came in slot `now` already
abbrev pub is_due_at : ℕ → ℕ → Bool
is_due_at period now = (now % period == 0) && nat_le (now + period) MAX_SLOT

abbrev pub collected_from : ℕ → ℕ → ℕ → Bool → List Event → Bool
collected_from task period now seen [] = true
collected_from task period now seen (events.Submit other release due ops ∷ rest) = collected_from task period now seen rest
collected_from task period now seen (events.Collect other release due ∷ rest) =
    if other == task then not seen && collected_from task period now true rest else collected_from task period now seen rest
collected_from task period now seen (events.Slot ∷ rest) =
    (seen || not (is_due_at period now)) && collected_from task period (now + 1) false rest

-- one task
abbrev pub IsTaskKept : Times → ℕ → List Event → Type 0
IsTaskKept times task all =
    let t = times_of times task in
    IsTrue (apart_from task t.period 0 all) × IsTrue (collected_from task t.collect_period 0 false all)
