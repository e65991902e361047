-- What comes of a script on the dies of a store.
use Rattle.std.specs.Prelude.{◌≡◌, ◌==◌, ⊤, ℕ, ◌<◌, ◌+◌, if◌then◌else◌, List, [], ◌∷◌, flat_map, length, Option}
use Rattle.std.specs.Io.KnownBytes.{Appends}
use Rattle.slot_types.specs.declared.plans.DiePlan.{DiePlan}
use Rattle.script_texts.specs.AskedPages.{RowsHavePages}
use Rattle.report_texts.specs.ReportText.{report_text}
use Rattle.report_texts.specs.TextSoFar.{TextSoFar, joined_text}
use Rattle.script_texts.specs.declared.script_rows.ScriptItem.{ScriptItem}
use Rattle.report_texts.specs.declared.reports.DieReport.{DieReport}
use Rattle.task_script.specs.DieReports.{die_report_of}
use Rattle.task_script.specs.DieRuns.{DieRun, IsScriptRun}
use Rattle.task_script.specs.Feeds.{AreInTime, AreItemsOf, feed_of}
use Rattle.task_script.specs.RunCounts.{count_of}
use Rattle.task_script.specs.declared.run_counts.RowEnd.{RowEnd}
use Rattle.task_script.specs.declared.run_counts.RunCount.{RunCount}
use Rattle.die_log.specs.Model.Start.{fresh}

-- by die, from this number on, a run of its rows
abbrev pub AreRuns : ℕ → (ℕ → List ScriptItem) → ℕ → List DiePlan → List DieRun → Type 0
AreRuns slots feed die [] [] = ⊤
AreRuns slots feed die (plan ∷ plans) (run ∷ runs) = IsScriptRun plan slots (feed die) run × AreRuns slots feed (die + 1) plans runs
AreRuns slots feed die _ _ = ⊥

-- a die without rows has no report
abbrev pub with_rows : DieReport → List DieReport → List DieReport
with_rows die report = if length die.rows == 0 then report else die ∷ report

-- the reports of the dies that have rows, numbered from this number on
abbrev pub reports_from : ℕ → List DiePlan → List DieRun → List DieReport
reports_from die (plan ∷ plans) (run ∷ runs) = with_rows (die_report_of (fresh plan) run.log die) (reports_from (die + 1) plans runs)
reports_from die _ _ = []

-- what became of all rows, die by die
abbrev pub ends_of : List DieRun → List RowEnd
ends_of runs = flat_map (λ (run : DieRun). run.ends) runs

-- each die of the store ran all its slots with its rows of the script, what those write are pages, the rows are
-- counted, and what is written is the report of the dies' exact logs
pub record RunsText (text : Option (List ℕ)) (plans : List DiePlan) (slots : ℕ) (count : RunCount) (old new : Option (List ℕ)) : Type 0
  where
    pub items : List ScriptItem
    pub script : AreItemsOf text (length plans) slots items
    pub pages : (die : ℕ) → die < length plans → RowsHavePages (feed_of items die)
    pub runs : List DieRun
    pub ran : AreRuns slots (feed_of items) 0 plans runs
    pub counted : count ≡ count_of (ends_of runs)
    pub written : Appends old new (report_text (reports_from 0 plans runs))

-- While the dies run

-- these dies ran, these are their reports, and `count` counts their rows that were accepted and refused
pub record DiesHaveRun (slots : ℕ) (feed : ℕ → List ScriptItem) (plans : List DiePlan) (report : List DieReport) (count : RunCount) : Type 0
  where
    pub runs : List DieRun
    pub ran : AreRuns slots feed 0 plans runs
    pub reported : report ≡ reports_from 0 plans runs
    pub counted : count ≡ count_of (ends_of runs)

-- each die of the store ran all its slots with its rows of the script, and these are the parts of the dies' report
pub record RanScript (text : Option (List ℕ)) (plans : List DiePlan) (slots : ℕ) (parts : List TextSoFar) (count : RunCount) : Type 0 where
  pub items : List ScriptItem
  pub script : AreItemsOf text (length plans) slots items
  pub in_time : AreInTime (length plans) slots items
  pub report : List DieReport
  pub ran : DiesHaveRun slots (feed_of items) plans report count
  pub said_is : joined_text parts ≡ report_text report
