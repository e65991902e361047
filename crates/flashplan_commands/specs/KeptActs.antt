-- Runs on dies that keep their plans.
use Rattle.std.specs.Prelude.{ℕ, List, map, Option}
use Rattle.std.specs.List.{AllZip}
use Rattle.std.specs.Io.KnownBytes.{Appends}
use Rattle.slot_types.specs.declared.plans.DiePlan.{DiePlan}
use Rattle.flash_die.specs.Memory.{Memory}
use Rattle.plan_texts.specs.PlanReading.{IsStoreOf}
use Rattle.terms_texts.specs.TermsReading.{IsStoreOf as IsTermsStoreOf}
use Rattle.terms_texts.specs.declared.stores.DieTerms.{DieTerms}
use Rattle.report_texts.specs.ReportText.{report_text}
use Rattle.task_script.specs.StoreRuns.{reports_of}
use Rattle.planned_die.specs.Planned.{Planned}
use Rattle.flashplan_kept_runs.specs.KeptDies.{cores_of, kept_of}
use Rattle.flashplan_kept_runs.specs.KeptPlans.{IsKeptPlan}
use Rattle.flashplan_kept_runs.specs.KeptRuns.{IsKeptRun}
use Rattle.flashplan_commands.specs.PlanKinds.{ByKind}

-- the plans that dies keep, of the store that a text with times makes: each has the terms that its times mean
pub record KeepsTimes (plan : Option (List ℕ)) (kept : List DieTerms) : Type 0 where
  pub store : List DiePlan
  pub made : IsStoreOf plan store
  pub kept_are : AllZip IsKeptPlan store kept

-- the plans that dies keep of a text, with terms or without
abbrev pub ReadsKept : Option (List ℕ) → List DieTerms → Type 0
ReadsKept plan kept = ByKind plan (IsTermsStoreOf plan kept) (KeepsTimes plan kept)

-- The report is printed of dies that began fresh by the plans that were read, and kept them while they ran the script
-- that was read and `slots` slots: each of their jobs that is due by then was done by its deadline.
pub record PrintsKeptRun (plan script : Option (List ℕ)) (slots : ℕ) (old new : Option (List ℕ)) : Type 0 where
  pub plans : List DieTerms
  pub read : ReadsKept plan plans
  pub dies : List (Planned Memory)
  pub ran : IsKeptRun plans script slots (map kept_of dies)
  pub written : Appends old new (report_text (reports_of 0 (cores_of dies)))
