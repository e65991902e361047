-- A die that keeps its plan itself, as its callers see it.
use Rattle.std.specs.Prelude.{◌≡◌, ℕ, ◌+◌, ◌≤◌, ◌∷◌, List, length, All}
use Rattle.demand_rules.specs.declared.terms.Terms.{Terms}
use Rattle.die_log.specs.Model.Log.{now}
use Rattle.die_log.specs.Model.Lives.{Lives, all_slots}
use Rattle.slot_core.specs.Core.{Core, Reserved, IsWithin, with_slots, with_arrivals}
use Rattle.planned_log.specs.Lives.{most_arrivals, came_in}
use Rattle.planned_log.specs.Laws.{IsKept}
use Rattle.planned_die.specs.declared.memory.AskedJob.{AskedJob}
use Rattle.planned_die.specs.Remembered.{CountAs}

-- the die below, what its tasks may ask for, how many slots a life has, of how many tasks the collections of the present
-- slot have come, in which slot of the clock of all lives the present life began, and by task which of the jobs that it
-- asked for the die remembers, the newest last
pub record Planned (N : Type 0) : Type 0 where
  pub core : Core N
  pub terms : Terms
  pub life : ℕ
  pub entered : ℕ
  pub first : ℕ
  pub asked : List (List AskedJob)

-- The die has had these lives before the present one: its log keeps the plan after them, the clock went on through them,
-- and from now on what it remembers counts as what its tasks asked for in all lives does.
pub record HasLived {N : Type 0} (die : Planned N) (earlier : Lives) : Type 0 where
  pub kept : IsKept die.core.start die.terms earlier die.life die.entered die.core.log
  pub began : die.first ≡ all_slots earlier
  pub counts : CountAs die.core.start.plan die.terms (die.first + now die.core.log) die.asked (die.core.log ∷ earlier)

-- what a life takes at most: its slots, and as many jobs and collections, and operations, as may come in it
abbrev pub of_life : Terms → ℕ → Reserved
of_life terms life = record { slots = life; arrivals = most_arrivals terms life; operations = most_arrivals terms life }

-- Memory is reserved for all that is left of a life: with the slots that were carried out, and with what came, it is that
-- of a whole one at least. And so it will be in the next life.
pub record IsReservedFor {N : Type 0} (terms : Terms) (life : ℕ) (core : Core N) : Type 0 where
  pub slots : life ≤ core.reserved.slots + now core.log
  pub arrivals : most_arrivals terms life ≤ core.reserved.arrivals + came_in core.log
  pub operations : most_arrivals terms life ≤ core.reserved.operations + came_in core.log
  pub lasts : IsWithin (of_life terms life) core.lasting

-- a die with memory for a life
abbrev pub with_life : {N : Type 0} → Terms → ℕ → Core N → Core N
with_life terms life core = with_slots life (with_arrivals (most_arrivals terms life) (most_arrivals terms life) core)

-- it has had some, the clock is far from its end, and it has memory for its life
pub record IsPlanned {N : Type 0} (die : Planned N) : Type 0 where
  pub reserved : IsReservedFor die.terms die.life die.core
  pub earlier : Lives
  pub lived : HasLived die earlier
  pub early : die.first ≤ 2305843009213693952
  pub asked_early : All (All (λ j. j.at ≤ 4611686018427387904)) die.asked
  pub one_each : length die.asked ≡ length die.core.start.plan.caps
