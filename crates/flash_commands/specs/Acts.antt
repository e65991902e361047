-- What a command prints, and its status; and what it leaves where it is refused.
use Rattle.std.specs.Prelude.{◌≡◌, ◌≢◌, ◌↔◌, ◌++◌, ⊤, ℕ, Bool, true, length, List, Option, Some, IfSome, Ok, Err, ◌⊎◌}
use Rattle.std.specs.List.{list_any}
use Rattle.std.specs.Io.KnownBytes.{Appends}
use Rattle.slot_types.specs.declared.plans.DiePlan.{DiePlan}
use Rattle.slot_types.specs.declared.refusals.Refusal.{Refusal}
use Rattle.plan_texts.specs.PlanReading.{IsStoreOf, RefusesPlanOf}
use Rattle.text_base.specs.Readings.{IsOutside}
use Rattle.report_texts.specs.ReportOf.{report_of}
use Rattle.text_base.specs.Writing.{RefusesOrCuts}
use Rattle.report_texts.specs.declared.reports.DieReport.{DieReport}
use Rattle.flash_commands.specs.Audit.{audit_status, audit_text, is_refused}
use Rattle.flash_commands.specs.Figures.{plan_text}
use Rattle.task_script.specs.PlannedRuns.{RunsAsPlanned}
use Rattle.task_script.specs.Feeds.{RefusesScript}
use Rattle.task_script.specs.declared.run_counts.RunCount.{RunCount}
use Rattle.example_texts.specs.declared.built_in.TheConstants.{PLAN, SCRIPT, SLOTS}
use Rattle.flash_commands.specs.declared.commands.Command.{Command}
use Rattle.flash_commands.specs.declared.commands.Command.TheVariants as command
use Rattle.flash_commands.specs.declared.faults.Fault.{Fault}
use Rattle.flash_commands.specs.declared.faults.Fault.TheVariants.{Certificate, NotText, Refused, Words}

-- the report of a text, where the text is known
abbrev pub IsReportOf : Option (List ℕ) → List DieReport → Type 0
IsReportOf text report = IfSome text (λ bytes. report_of bytes ≡ Ok report)

-- why no report is audited: memory ran out, or the reader failed, or the text has it
abbrev pub RefusesAudit : Option (List ℕ) → Refusal → Type 0
RefusesAudit text refusal = IsOutside refusal ⊎ IfSome text (λ bytes. report_of bytes ≡ Err refusal)

-- the audit of the report that was read is printed, and this is its status
abbrev pub PrintsAudit : Option (List ℕ) → Option (List ℕ) → Option (List ℕ) → ℕ → Type 0
PrintsAudit text old new status = (report : List DieReport) × IsReportOf text report × Appends old new (audit_text report)
    × (status ≡ audit_status report)

-- so it is, whatever the status
abbrev pub AuditsSome : Option (List ℕ) → Option (List ℕ) → Option (List ℕ) → Type 0
AuditsSome text old new = (status : ℕ) × PrintsAudit text old new status

-- the figures of the plan that was read are printed
abbrev pub PrintsFigures : Option (List ℕ) → Option (List ℕ) → Option (List ℕ) → Type 0
PrintsFigures text old new = (store : List DiePlan) × IsStoreOf text store × Appends old new (plan_text store)

-- the report of a run is printed: of the script that was read, on the store of the plan that was read; and each die
-- whose rows keep its plan went as planned: no lateness in its report is above 0, and no row of it was refused but out
-- of memory, or after one that was
pub record PrintsRun (plan script : Option (List ℕ)) (slots : ℕ) (old new : Option (List ℕ)) : Type 0 where
  pub store : List DiePlan
  pub read : IsStoreOf plan store
  pub count : RunCount
  pub as_planned : RunsAsPlanned script store slots count old new

-- why nothing is run: the plan is refused, which is read first; or the script is, for the dies of the plan that was read
abbrev pub RefusesRun : Option (List ℕ) → Option (List ℕ) → ℕ → Refusal → Type 0
RefusesRun plan script slots refusal =
    RefusesPlanOf plan refusal ⊎ ((store : List DiePlan) × IsStoreOf plan store × RefusesScript script (length store) slots refusal)

-- a command printed what it is to print of what it read, and this is its status
abbrev pub Prints : Command → Option (List ℕ) → Option (List ℕ) → Option (List ℕ) → Option (List ℕ) → ℕ → Type 0
Prints (command.Audit report) first second old new status = PrintsAudit first old new status
Prints (command.Plan plan) first second old new status = PrintsFigures first old new × (status ≡ 0)
Prints (command.Run plan script slots workers) first second old new status = PrintsRun first second slots.count old new × (status ≡ 0)
Prints command.Alone first second old new status = PrintsRun (Some PLAN.now) (Some SCRIPT.now) SLOTS old new × (status ≡ 0)

-- why a command is refused
abbrev pub Refuses : Command → Option (List ℕ) → Option (List ℕ) → Refusal → Type 0
Refuses (command.Audit report) first second refusal = RefusesAudit first refusal
Refuses (command.Plan plan) first second refusal = RefusesPlanOf first refusal
Refuses (command.Run plan script slots workers) first second refusal = RefusesRun first second slots.count refusal
Refuses command.Alone first second refusal = RefusesRun (Some PLAN.now) (Some SCRIPT.now) SLOTS refusal

-- what a command prints, whatever its status
abbrev pub PrintsSome : Command → Option (List ℕ) → Option (List ℕ) → Option (List ℕ) → Option (List ℕ) → Type 0
PrintsSome c first second old new = (status : ℕ) × Prints c first second old new status

-- why a command is refused, and nothing was written; or its writer failed, and took a front of what it prints
abbrev pub IsRefusedFor : {W : Type 0} → (W → Option (List ℕ)) → (W → Option Bool) → Command → Option (List ℕ) → Option (List ℕ)
    → W → W → Refusal → Type 0
IsRefusedFor contents has_failed c first second old new refusal =
    RefusesOrCuts contents has_failed (Refuses c first second) (PrintsSome c first second) old new refusal

abbrev pub IsRefused : {W : Type 0} → (W → Option (List ℕ)) → (W → Option Bool) → Command → Option (List ℕ) → Option (List ℕ)
    → W → W → Type 0
IsRefused contents has_failed c first second old new =
    (refusal : Refusal) × IsRefusedFor contents has_failed c first second old new refusal

-- so much of a fault: it is a refusal, of which these say why it comes and what it leaves; or a refused certificate
abbrev pub IsFaultOf : (Refusal → Type 0) → Fault → Type 0
IsFaultOf is (Refused refusal) = is refusal
IsFaultOf is (Words error) = ⊥
IsFaultOf is NotText = ⊥
IsFaultOf is Certificate = ⊤

-- the report that a text has is read, its audit is after what was there, whole, and a certificate of it is refused
abbrev pub FindsRefused : (text old new : List ℕ) → Type 0
FindsRefused text old new = (report : List DieReport) × (report_of text ≡ Ok report) × (new ≡ old ++ audit_text report)
    × (list_any is_refused report ≡ true)

-- where the report's text is known, and what was written, the status is 3 exactly where that is so
abbrev pub SaysRefused : Option (List ℕ) → Option (List ℕ) → Option (List ℕ) → ℕ → Type 0
SaysRefused (Some text) (Some old) (Some new) status = (status ≡ 3) ↔ FindsRefused text old new
SaysRefused _ _ _ status = ⊤

-- so it is of an audit; no other command ends with 3
abbrev pub HasThree : Command → Option (List ℕ) → Option (List ℕ) → Option (List ℕ) → ℕ → Type 0
HasThree (command.Audit report) first old new status = SaysRefused first old new status
HasThree _ first old new status = status ≢ 3
