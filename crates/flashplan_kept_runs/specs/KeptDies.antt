-- A die that keeps its plan, in its first life, as one that runs the rows of a script.
use Rattle.std.specs.Prelude.{◌≡◌, ℕ, ◌≤◌, false, All, List, [], map}
use Rattle.slot_types.specs.declared.plans.DiePlan.{DiePlan}
use Rattle.slot_types.specs.declared.limits.TheConstants.{MAX_SLOT}
use Rattle.demand_rules.specs.declared.terms.Terms.{Terms}
use Rattle.terms_texts.specs.declared.stores.DieTerms.{DieTerms}
use Rattle.die_log.specs.Model.Log.{Log}
use Rattle.die_log.specs.Model.Start.{Start, fresh}
use Rattle.slot_core.specs.Core.{Core}
use Rattle.planned_log.specs.Moves.{Move, after_moves}
use Rattle.planned_die.specs.NewPlans.{IsSomeLife}
use Rattle.planned_die.specs.Planned.{HasLived, Planned}

-- where its log starts, its terms, and how many slots its life has
pub record KeptStart : Type 0 where
  pub start : Start
  pub terms : Terms
  pub life : ℕ

-- and its log
pub record KeptDie : Type 0 where
  pub begun : KeptStart
  pub log : Log

abbrev pub kept_of : {N : Type 0} → Planned N → KeptDie
kept_of die = record { begun = record { start = die.core.start; terms = die.terms; life = die.life }; log = die.core.log }

abbrev pub begins_of : List KeptDie → List KeptStart
begins_of dies = map (λ (die : KeptDie). die.begun) dies

abbrev pub cores_of : {N : Type 0} → List (Planned N) → List (Core N)
cores_of {N} dies = map (λ (die : Planned N). die.core) dies

abbrev pub HasEmptyLog : KeptDie → Type 0
HasEmptyLog die = die.log ≡ []

-- each has a life of at least `slots` slots
abbrev pub AreWithin : ℕ → List KeptDie → Type 0
AreWithin slots dies = All (λ (begun : KeptStart). slots ≤ begun.life) (begins_of dies)

-- the longest life of a plan
pub record IsLongestLife (plan : DiePlan) (terms : Terms) (life : ℕ) : Type 0 where
  pub is_life : IsSomeLife plan terms MAX_SLOT life
  pub longest : (other : ℕ) → IsSomeLife plan terms MAX_SLOT other → other ≤ life

-- a die begins fresh by a plan with terms, and has the longest life
pub record BeginsBy (plan : DieTerms) (begun : KeptStart) : Type 0 where
  pub start_is : begun.start ≡ fresh plan.plan
  pub terms_are : begun.terms ≡ plan.terms
  pub life_is : IsLongestLife plan.plan plan.terms begun.life

-- The log after moves in the first life

abbrev pub log_after : KeptStart → Log → List Move → Log
log_after begun log moves = after_moves begun.start begun.terms [] begun.life log moves

-- these moves were made, and nothing else
pub record HasMoved (moves : List Move) (before after : KeptDie) : Type 0 where
  pub begun_stays : after.begun ≡ before.begun
  pub moved : after.log ≡ log_after before.begun before.log moves

-- it runs, in its first life, in which its log keeps the plan; no collection of the present slot has come
pub record RunsInFirstLife {N : Type 0} (die : Planned N) : Type 0 where
  pub runs : die.core.stopped ≡ false
  pub lived : HasLived die []
  pub whole : die.entered ≡ 0
