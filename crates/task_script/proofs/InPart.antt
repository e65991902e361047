-- A run whose report wasn't written whole.
use Rattle.std.proofs.Common.{◌≡◌, ℕ, List, [], Bool, Option, Some, refl, inr}
use Rattle.std.specs.Prelude.{All, length}
use Rattle.slot_types.specs.declared.refusals.Refusal.{Refusal}
use Rattle.slot_types.specs.declared.refusals.Refusal.TheVariants.{WriteFault}
use Rattle.slot_types.specs.declared.plans.DiePlan.{DiePlan}
use Rattle.plan_rules.specs.Bound.{MeetsBound}
use Rattle.report_texts.specs.ReportText.{report_text}
use Rattle.text_base.specs.Flags.{SetsFlag}
use Rattle.text_base.specs.Writing.{AppendsPart, RefusesOrCuts}
use Rattle.report_texts.specs.TextSoFar.{TextSoFar}
use Rattle.task_script.specs.Feeds.{RefusesScript}
use Rattle.task_script.specs.PlannedRuns.{RunsSo}
use Rattle.task_script.specs.TextRuns.{RanScript}
use Rattle.task_script.specs.declared.run_counts.RunCount.{RunCount}
use Rattle.task_script.proofs.AsPlanned.{runs_as_planned}

-- the writer failed, a front of the report of this run was written, and not the whole
pub refuses_or_cuts : {W : Type 0} (contents : W → Option (List ℕ)) (has_failed : W → Option Bool) (text : Option (List ℕ))
    (plans : List DiePlan) (slots : ℕ) (said : List TextSoFar) (count : RunCount) (old new : W) (refusal : Refusal)
    → All MeetsBound plans → (r : RanScript text plans slots said count)
    → AppendsPart (contents old) (contents new) (report_text r.report) → SetsFlag (has_failed old) (has_failed new) → refusal ≡ WriteFault
    → RefusesOrCuts contents has_failed (RefusesScript text (length plans) slots) (RunsSo text plans slots) old new refusal
refuses_or_cuts contents has_failed text plans slots said count old new refusal bound r part failed is =
    inr (record {
      refusal_is = is;
      failed = failed;
      part = (
        report_text r.report,
        (count, runs_as_planned text plans slots said count (Some []) (Some (report_text r.report)) bound r refl),
        part,
      );
    })
