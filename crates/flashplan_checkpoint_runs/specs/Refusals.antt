-- Why dies don't start, and why they aren't run.
use Rattle.std.specs.Prelude.{◌≡◌, ◌≢◌, ◌⊎◌, List, ◌∷◌, length, position, IsSome, Option, Some, None}
use Rattle.slot_types.specs.declared.plans.DiePlan.{DiePlan}
use Rattle.slot_types.specs.declared.refusals.Refusal.TheVariants.{NoMemory}
use Rattle.checkpoint_texts.specs.SavedDies.{checkpoint_of}
use Rattle.checkpoint_texts.specs.declared.saved.SavedDie.{SavedDie}
use Rattle.die_checkpoint.specs.Faults.{HasCheckpointFault}
use Rattle.script_texts.specs.Script.{Script}
use Rattle.flashplan_script_runs.specs.ScriptRuns.{RefusesScript}
use Rattle.flashplan_checkpoint_runs.specs.SavedDies.{FitsDie, HaveBytes, is_bare}
use Rattle.flashplan_checkpoint_runs.specs.declared.faults.RunFault.{RunFault}
use Rattle.flashplan_checkpoint_runs.specs.declared.faults.RunFault.TheVariants as faults

-- a die doesn't go on as it was saved: it doesn't fit its plan; or it does, and a page that lies in a cell has no bytes; or memory
-- ran out
abbrev pub RefusesDie : DiePlan → SavedDie → RunFault → Type 0
RefusesDie plan die (faults.Unfit number line fault) = HasCheckpointFault plan (checkpoint_of die) fault
RefusesDie plan die (faults.NoBytes number line page) = FitsDie plan die × IsSome (position is_bare die.pages)
RefusesDie plan die (faults.Refused refusal) = refusal ≡ NoMemory
RefusesDie plan die _ = ⊥

-- so it is of the first die that doesn't go on
abbrev pub RefusesFirst : List DiePlan → List SavedDie → RunFault → Type 0
RefusesFirst (plan ∷ plans) (die ∷ dies) fault =
    RefusesDie plan die fault ⊎ (FitsDie plan die × HaveBytes die.pages × RefusesFirst plans dies fault)
RefusesFirst _ _ fault = ⊥

-- dies don't go on as they were saved: there are more or fewer than plans; or as many, and one doesn't go on; or memory ran out
abbrev pub RefusesSaved : List DiePlan → List SavedDie → RunFault → Type 0
RefusesSaved plans dies (faults.Refused refusal) = refusal ≡ NoMemory
RefusesSaved plans dies (faults.OtherStore saved count) = length dies ≢ length plans
RefusesSaved plans dies fault = (length dies ≡ length plans) × RefusesFirst plans dies fault

-- dies don't start: they were saved, and don't go on; or memory ran out
abbrev pub RefusesStart : List DiePlan → Option (List SavedDie) → RunFault → Type 0
RefusesStart plans None fault = fault ≡ faults.Refused NoMemory
RefusesStart plans (Some dies) fault = RefusesSaved plans dies fault

-- Nor are they run: they don't start; or the script, where it is known, has this fault; or memory ran out, or the reader failed.
abbrev pub RefusesRun : List DiePlan → Option (List SavedDie) → Option Script → RunFault → Type 0
RefusesRun plans saved script (faults.Refused refusal) = RefusesScript script refusal
RefusesRun plans saved script fault = RefusesStart plans saved fault
