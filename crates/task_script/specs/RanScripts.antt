-- A script that was read and sent to its dies, and what came of these.
use Rattle.std.specs.Prelude.{◌≡◌, ◌≢◌, ⊤, nat_le, ℕ, ◌≤◌, All, List, [], ◌∷◌, ◌++◌, Option, Some, None, Result, Ok, Err, if◌then◌else◌, length, map, sum_by}
use Rattle.std.specs.List.{AllZip}
use Rattle.slot_types.specs.declared.plans.DiePlan.{DiePlan}
use Rattle.slot_types.specs.declared.refusals.Refusal.{Refusal}
use Rattle.die_service.specs.Runners.{SentTo, sent_to}
use Rattle.report_texts.specs.TextSoFar.{TextSoFar}
use Rattle.script_texts.specs.ScriptLeft.{dies_of, line_of, reader_failed, script_rows_left, slots_of}
use Rattle.script_texts.specs.RowTexts.{RowText}
use Rattle.script_texts.specs.declared.scripts.ScriptReader.{ScriptReader}
use Rattle.task_script.specs.DieTexts.{report_parts}
use Rattle.task_script.specs.RowDies.{core_of}
use Rattle.task_script.specs.RowRunners.{IsFreshOf, MayFollow, RunsBatches, rows_of_batches, rows_sent, until_of}
use Rattle.task_script.specs.RowTexts.{EndsWithReader, HasReadTexts, order_of}
use Rattle.task_script.specs.RunCounts.{count_of, rows_in, sum_of_counts}
use Rattle.task_script.specs.declared.feeds.ReadEnd.{ReadEnd}
use Rattle.task_script.specs.declared.feeds.ReadEnd.TheVariants.{Ended, More}
use Rattle.task_script.specs.declared.row_batches.RowBatch.{RowBatch}
use Rattle.task_script.specs.declared.row_dies.RowDie.{RowDie}
use Rattle.task_script.specs.declared.row_runners.RowRunner.{RowRunner}
use Rattle.task_script.specs.declared.run_counts.RunCount.{RunCount}
use Rattle.task_script.specs.declared.sending.RanRows.{RanRows}

-- dies of these plans have each run the batches in its place
abbrev pub AllRan : List DiePlan → List (List RowBatch) → List RowRunner → Type 0
AllRan [] [] [] = Unit {0}
AllRan (plan ∷ plans) (batches ∷ sents) (runner ∷ runners) = RunsBatches plan batches runner.die × AllRan plans sents runners
AllRan _ _ _ = ⊥

-- Each was sent its rows, with this slot up to which they are run

abbrev pub batch_with : ℕ → List RowText → RowBatch
batch_with until rows = record { rows = rows; until = until }

abbrev pub sent_more : ℕ → List (List RowText) → List (SentTo RowRunner RowBatch) → List (SentTo RowRunner RowBatch)
sent_more until (own ∷ rows) (s ∷ sents) = sent_to s.first (s.batches ++ batch_with until own ∷ []) ∷ sent_more until rows sents
sent_more until _ sents = sents

-- each may be sent its rows
abbrev pub MayAllFollow : ℕ → List (List RowText) → List (SentTo RowRunner RowBatch) → Type 0
MayAllFollow until [] [] = ⊤
MayAllFollow until (own ∷ rows) (s ∷ sents) = MayFollow s.batches (batch_with until own) × MayAllFollow until rows sents
MayAllFollow until _ _ = ⊥

-- only the last of these batches runs up to a slot of its own
abbrev pub LastAlone : List RowBatch → Type 0
LastAlone [] = ⊤
LastAlone (b ∷ []) = ⊤
LastAlone (b ∷ c ∷ batches) = (b.until ≡ 0) × LastAlone (c ∷ batches)

-- nothing was sent
abbrev pub NoneSent : List (SentTo RowRunner RowBatch) → Type 0
NoneSent sents = All (λ (s : SentTo RowRunner RowBatch). s.batches ≡ []) sents

-- The rows of a script were read, up to its end, a fault or a failing reader, and each runner was sent its own: where the
-- script ended, up to this slot at least
pub record AreSent {S : Type 0} (remaining : S → Option (List ℕ)) (slots : ℕ) (script left : ScriptReader S)
    (before after : List (SentTo RowRunner RowBatch)) (end : ReadEnd) : Type 0 where
  pub firsts : map (λ (s : SentTo RowRunner RowBatch). s.first) after ≡ map (λ (s : SentTo RowRunner RowBatch). s.first) before
  pub rows : HasReadTexts (script_rows_left remaining script) (script_rows_left remaining left) (dies_of script) (slots_of script)
      (line_of script) (line_of left) (rows_sent after) end
  pub last : end ≡ Ended → All (λ (s : SentTo RowRunner RowBatch). until_of s.batches ≡ slots) after
  pub few : All (λ (s : SentTo RowRunner RowBatch). length (rows_of_batches s.batches) ≤ 8192024576) after
  pub alone : All (λ (s : SentTo RowRunner RowBatch). LastAlone s.batches) after
  pub failed : EndsWithReader (reader_failed left) end
  pub over : end ≢ More

-- The rows of a script were read, up to its end, a fault or a failing reader, and sent to dies of these plans, which have
-- run them: where the script ended, up to this slot at least
pub record HasRanRows {S : Type 0} (remaining : S → Option (List ℕ)) (plans : List DiePlan) (slots : ℕ) (script : ScriptReader S)
    (ran : RanRows S) : Type 0 where
  pub sents : List (List RowBatch)
  pub dies : AllRan plans sents ran.dies.items
  pub rows : HasReadTexts (script_rows_left remaining script) (script_rows_left remaining ran.script) (dies_of script) (slots_of script)
      (line_of script) (line_of ran.script) (map rows_of_batches sents) ran.end
  pub last : ran.end ≡ Ended → All (λ (batches : List RowBatch). until_of batches ≡ slots) sents
  pub few : All (λ (batches : List RowBatch). length (rows_of_batches batches) ≤ 8192024576) sents
  pub failed : EndsWithReader (reader_failed ran.script) ran.end
  pub over : ran.end ≢ More

-- so it was for these runners, of whatever plans they are fresh dies
abbrev pub HasRanFrom : {S : Type 0} → (S → Option (List ℕ)) → List RowRunner → ℕ → ScriptReader S → RanRows S → Type 0
HasRanFrom remaining runners slots script ran =
    (plans : List DiePlan) → AllZip IsFreshOf plans runners → HasRanRows remaining plans slots script ran

-- Which refusal is reported

-- of a refusal that is known, if any, and that of one die more the one that is reported
abbrev pub with_die : {A : Type 0} → Option Refusal → Result A Refusal → Option Refusal
with_die known (Ok x) = known
with_die None (Err e) = Some e
with_die (Some first) (Err e) = if nat_le (order_of first) (order_of e) then Some first else Some e

-- so of all dies
abbrev pub with_dies : {A : Type 0} → Option Refusal → List (Result A Refusal) → Option Refusal
with_dies known [] = known
with_dies known (die ∷ dies) = with_dies (with_die known die) dies

-- At the end

abbrev pub die_or : Result RowDie Refusal → List RowDie → List RowDie
die_or (Ok die) dies = die ∷ dies
die_or (Err e) dies = dies

-- the dies of runners that weren't refused
abbrev pub dies_in : List RowRunner → List RowDie
dies_in [] = []
dies_in (r ∷ runners) = die_or r.die (dies_in runners)

-- the rows of dies are counted, those of one after those of another
abbrev pub joined_after : RunCount → List RowDie → RunCount
joined_after count [] = count
joined_after count (die ∷ dies) = joined_after (sum_of_counts count die.count) dies

-- how many rows were counted, of all dies
abbrev pub total_rows : List RowDie → ℕ
total_rows dies = sum_by (λ (die : RowDie). rows_in die.count) dies

-- these are the parts of the report of dies, and `count` counts their rows that were accepted and refused
pub record AreReported (dies : List RowDie) (parts : List TextSoFar) (count : RunCount) : Type 0 where
  pub said : parts ≡ report_parts (map core_of dies)
  pub counted : count ≡ joined_after (count_of []) dies
