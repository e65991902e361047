-- What is reported of a script.
use Rattle.std.specs.Prelude.{◌≡◌, ℕ, List, length, Ok, Option, Some, IfSome, slice_get, take}
use Rattle.slot_types.specs.declared.plans.DiePlan.{DiePlan}
use Rattle.slot_types.specs.declared.plans.Times.{Times}
use Rattle.script_texts.specs.Script.{script_of}
use Rattle.script_texts.specs.declared.script_rows.ScriptItem.{ScriptItem}
use Rattle.task_script.specs.Feeds.{feed_of}
use Rattle.task_script.specs.PlannedRuns.{RowsKeepPlan, events_of_rows}
use Rattle.flashplan_arrivals.specs.PlannedScripts.{IsPlannedScript}
use Rattle.flashplan_breaches.specs.Breaches.{IsBreach}
use Rattle.flashplan_breaches.specs.declared.breaches.Breach.{Breach}
use Rattle.flashplan_keeping.specs.declared.verdicts.Verdict.{Verdict}
use Rattle.flashplan_keeping.specs.declared.verdicts.Verdict.TheVariants as verdict

-- the text is a script for the dies of a store and `slots` slots, and a condition of a die's plan doesn't hold of the
-- events that its rows make
pub record IsBrokenScript (plans : List DiePlan) (slots : ℕ) (text : List ℕ) (die : ℕ) (breach : Breach) : Type 0 where
  pub items : List ScriptItem
  pub said : script_of (length plans) slots text ≡ Ok items
  pub plan : DiePlan
  pub there : slice_get plans die ≡ Some plan
  pub times : Times
  pub timed : plan.times ≡ Some times
  pub broken : IsBreach plan times (events_of_rows slots (feed_of items die)) breach

-- the text is such a script, and the rows of a die keep its plan, with times that pass their test
pub record KeepsOn (plans : List DiePlan) (slots : ℕ) (text : List ℕ) (die : ℕ) : Type 0 where
  pub items : List ScriptItem
  pub said : script_of (length plans) slots text ≡ Ok items
  pub kept : (plan : DiePlan) → slice_get plans die ≡ Some plan → RowsKeepPlan plan slots (feed_of items die)

-- what a verdict says
abbrev pub Says : List DiePlan → ℕ → List ℕ → Verdict → Type 0
Says plans slots text verdict.Kept = IsPlannedScript plans slots text
Says plans slots text (verdict.Broken b) = IsBrokenScript plans slots text b.die b.breach

-- the front of a text that is read of a script: one byte more than a script may have
abbrev pub IsFrontOf : Option (List ℕ) → List ℕ → Type 0
IsFrontOf text front = IfSome text (λ bytes. front ≡ take 67108865 bytes)
