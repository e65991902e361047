-- Why dies don't start, and why they aren't run.
use Rattle.std.proofs.Common.{◌≡◌, List, ◌∷◌, length, inl, inr, refl, sym, subst, ap, Option, Some, None}
use Rattle.slot_types.specs.declared.plans.DiePlan.{DiePlan}
use Rattle.slot_types.specs.declared.refusals.Refusal.{Refusal}
use Rattle.slot_types.specs.declared.refusals.Refusal.TheVariants.{NoMemory}
use Rattle.checkpoint_texts.specs.SavedDies.{checkpoint_of}
use Rattle.checkpoint_texts.specs.declared.saved.SavedDie.{SavedDie}
use Rattle.die_checkpoint.specs.Faults.{HasCheckpointFault}
use Rattle.die_checkpoint.specs.declared.fault.CheckpointFault.{CheckpointFault}
use Rattle.script_texts.specs.Script.{Script}
use Rattle.flashplan_checkpoint_runs.specs.Refusals.{RefusesDie, RefusesFirst, RefusesRun, RefusesSaved, RefusesStart}
use Rattle.flashplan_checkpoint_runs.specs.SavedDies.{FitsDie, HaveBytes}
use Rattle.flashplan_checkpoint_runs.specs.declared.faults.RunFault.{RunFault}
use Rattle.flashplan_checkpoint_runs.specs.declared.faults.RunFault.TheVariants as faults

-- Dies that were saved

-- those before a die go on, where that of the rest is that of all
abbrev pub AreLeft : (plans : List DiePlan) (dies : List SavedDie) (left : List DiePlan) (saved : List SavedDie) → Type 0
AreLeft plans dies left saved = (fault : RunFault) → RefusesFirst left saved fault → RefusesFirst plans dies fault

pub left_as : (plans : List DiePlan) (dies : List SavedDie) (left other : List DiePlan) (saved others : List SavedDie) → left ≡ other
    → saved ≡ others → AreLeft plans dies left saved → AreLeft plans dies other others
left_as plans dies left other saved others is are all fault rest =
    all fault (subst (λ (l : List DiePlan). RefusesFirst l saved fault) (sym is)
    (subst (λ (l : List SavedDie). RefusesFirst other l fault) (sym are) rest))

pub one_goes_on : (plans : List DiePlan) (dies : List SavedDie) (plan : DiePlan) (die : SavedDie) (left : List DiePlan) (saved : List SavedDie)
    → FitsDie plan die → HaveBytes die.pages → AreLeft plans dies (plan ∷ left) (die ∷ saved) → AreLeft plans dies left saved
one_goes_on plans dies plan die left saved fits have all fault rest = all fault (inr (fits, have, rest))

-- the fault of one is that of the store
pub one_refuses : (plans : List DiePlan) (dies : List SavedDie) (plan : DiePlan) (die : SavedDie) (left : List DiePlan) (saved : List SavedDie)
    (fault : RunFault) → length dies ≡ length plans → AreLeft plans dies (plan ∷ left) (die ∷ saved) → RefusesDie plan die fault
    → RefusesSaved plans dies fault
one_refuses plans dies plan die left saved (faults.Refused refusal) many all refuses = refuses
one_refuses plans dies plan die left saved (faults.Text fault) many all refuses = absurd refuses
one_refuses plans dies plan die left saved (faults.OtherStore count others) many all refuses = absurd refuses
one_refuses plans dies plan die left saved (faults.Unfit number line fault) many all refuses =
    (many, all (faults.Unfit number line fault) (inl refuses))
one_refuses plans dies plan die left saved (faults.NoBytes number line page) many all refuses =
    (many, all (faults.NoBytes number line page) (inl refuses))

-- Dies that start and run

pub memory_refuses_start : (plans : List DiePlan) (saved : Option (List SavedDie)) (fault : RunFault) → fault ≡ faults.Refused NoMemory
    → RefusesStart plans saved fault
memory_refuses_start plans None fault is = is
memory_refuses_start plans (Some dies) fault is = subst (RefusesSaved plans dies) (sym is) refl

abbrev refusal_in : RunFault → Refusal → Refusal
refusal_in (faults.Refused refusal) other = refusal
refusal_in _ other = other

pub start_refuses_run : (plans : List DiePlan) (saved : Option (List SavedDie)) (script : Option Script) (fault : RunFault)
    → RefusesStart plans saved fault → RefusesRun plans saved script fault
start_refuses_run plans None script (faults.Refused refusal) is = inl (inl (ap (λ (f : RunFault). refusal_in f refusal) is))
start_refuses_run plans (Some dies) script (faults.Refused refusal) is = inl (inl is)
start_refuses_run plans saved script (faults.Text fault) refuses = refuses
start_refuses_run plans saved script (faults.OtherStore count others) refuses = refuses
start_refuses_run plans saved script (faults.Unfit number line fault) refuses = refuses
start_refuses_run plans saved script (faults.NoBytes number line page) refuses = refuses
