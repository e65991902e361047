-- Exact logs of dies.
use Rattle.std.specs.Prelude.{⊤, List, [], ◌∷◌}
use Rattle.plan_rules.specs.Bound.{MeetsBound}
use Rattle.slot_types.specs.declared.plans.DiePlan.{DiePlan}
use Rattle.die_log.specs.Model.Answers.{IsExact}
use Rattle.task_script.specs.LogPages.{HasPages}
use Rattle.task_script.specs.DieRuns.{DieRun}
use Rattle.die_log.specs.Model.Start.{fresh}

-- by die, an exact log of a plan within its bound, whose jobs were asked to write pages
abbrev pub AreExact : List DiePlan → List DieRun → Type 0
AreExact [] [] = ⊤
AreExact (plan ∷ plans) (run ∷ runs) = MeetsBound plan × IsExact (fresh plan) run.log × HasPages run.log × AreExact plans runs
AreExact _ _ = ⊥
