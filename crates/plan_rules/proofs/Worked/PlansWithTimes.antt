-- A plan with times that passes its test, and two that don't.
use Rattle.std.proofs.Common.{◌≡◌, ℕ, None, [], ◌∷◌, refl, arith}
use Rattle.std.proofs.lemmas.List.Elements.{All-from_recursion}
use Rattle.slot_types.specs.declared.plans.DiePlan.{DiePlan}
use Rattle.slot_types.specs.declared.plans.TaskTimes.{TaskTimes}
use Rattle.slot_types.specs.declared.plans.Times.{Times}
use Rattle.plan_rules.specs.Times.{IsTaskTimes, HasTimes, Passes, demand, collection_work}

-- a die with four blocks for two pages and one task
abbrev pub small : ℕ → DiePlan
small cap = record { shape = record { blocks = 4; pages = 4; erase_slots = 3 }; logical = 2; alpha = 2; caps = cap ∷ []; times = None }

-- a job with `work` operations in ten slots, one of them a write, and a collection in twenty
abbrev pub work_in_ten : ℕ → TaskTimes
work_in_ten work = record { period = 10; collect_period = 20; work = work; writes = 1 }

abbrev pub each_ten : ℕ → Times
each_ten work = record { common = 20; tasks = work_in_ten work ∷ [] }

pub in_limits : IsTaskTimes (work_in_ten 2)
in_limits = record {
  some_period = omega arith;
  few_period = omega arith;
  some_collect_period = omega arith;
  few_collect_period = omega arith;
  some_work = omega arith;
  few_work = omega arith;
  few_writes = omega arith;
}

pub has_times : HasTimes (small 6) (each_ten 2)
has_times = record {
  one_each = refl;
  some_common = omega arith;
  few_common = omega arith;
  each = All-from_recursion IsTaskTimes (work_in_ten 2 ∷ []) (in_limits, tt);
}

-- a collection takes seven slots at most
seven : collection_work (small 6) ≡ 7
seven = refl

-- four slots for two jobs, and seven for one collection
load : demand (small 6) (each_ten 2) ≡ 11
load = refl

pub passes : Passes (small 6) (each_ten 2)
passes = record {
  timed = has_times;
  sustained = (record { period_divides = refl; collect_period_divides = refl; regained = omega arith; stocked = omega arith }, tt);
  fits = omega arith;
}

-- with seven operations a job the demand is more than the slots
too_much : demand (small 6) (each_ten 7) ≡ 21
too_much = refl

overloaded : Passes (small 6) (each_ten 7) → ⊥
overloaded h = omega (arith, h.fits)

-- with a cap of five pages the task runs short
understocked : Passes (small 5) (each_ten 2) → ⊥
understocked h = omega (arith, h.sustained.0.stocked)
