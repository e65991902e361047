-- What a worker of a script's run has, and the batches that are sent to it.
use Rattle.std.specs.Prelude.{◌≡◌, ◌⊎◌, ℕ, ◌≤◌, max, List, [], ◌∷◌, All, flat_map, length, map, Result, Ok, Err}
use Rattle.slot_types.specs.declared.limits.TheConstants.{MAX_SLOT}
use Rattle.slot_types.specs.declared.plans.DiePlan.{DiePlan}
use Rattle.slot_types.specs.declared.refusals.Refusal.{Refusal}
use Rattle.slot_types.specs.declared.refusals.Refusal.TheVariants.{NoMemory}
use Rattle.die_service.specs.Runners.{SentTo}
use Rattle.script_texts.specs.RowTexts.{RowText}
use Rattle.script_texts.specs.declared.script_rows.ScriptItem.{ScriptItem}
use Rattle.task_script.specs.RowDies.{HasCome, HasRunOn}
use Rattle.task_script.specs.RowTexts.{AreOfOneDie, read_of}
use Rattle.task_script.specs.declared.row_batches.RowBatch.{RowBatch}
use Rattle.task_script.specs.declared.row_dies.RowDie.{RowDie}
use Rattle.task_script.specs.declared.row_runners.RowRunner.{RowRunner}

-- Batches

-- the rows of batches, one after the other
abbrev pub rows_of_batches : List RowBatch → List RowText
rows_of_batches batches = flat_map (λ (batch : RowBatch). batch.rows) batches

-- the slot up to which they are run, at the least
unfoldable pub until_of : List RowBatch → ℕ
until_of [] = 0
until_of (batch ∷ batches) = max batch.until (until_of batches)

-- these rows come by the last slot that a die reaches
abbrev pub AreInReach : List RowText → Type 0
AreInReach rows = All (λ (row : RowText). row.head.at ≤ MAX_SLOT) rows

-- A batch may be sent after these: it is of one die and short, and runs up to no slot that a die doesn't reach; they are
-- few and short, and none of them has an `until`.
pub record MayFollow (before : List RowBatch) (batch : RowBatch) : Type 0 where
  pub one_die : AreOfOneDie batch.rows
  pub in_reach : AreInReach batch.rows
  pub within : batch.until ≤ MAX_SLOT
  pub short : length batch.rows ≤ 8192
  pub few : length before ≤ 1000002
  pub all_short : All (λ (b : RowBatch). length b.rows ≤ 8192) before
  pub goes_on : until_of before ≡ 0

-- the rows that were sent to each
abbrev pub rows_sent : List (SentTo RowRunner RowBatch) → List (List RowText)
rows_sent sents = map (λ (s : SentTo RowRunner RowBatch). rows_of_batches s.batches) sents

-- Runners

-- a batch was read and run; or memory ran out, or one of its rows is the first at fault
abbrev pub RanBatch : RowDie → RowBatch → Result RowDie Refusal → Type 0
RanBatch old batch (Ok new) = (items : List ScriptItem) × (read_of batch.rows ≡ Ok items) × HasRunOn batch.until items old new
RanBatch old batch (Err e) = (e ≡ NoMemory) ⊎ (read_of batch.rows ≡ Err e)

-- as a call answers it: after a refusal nothing is said of the die
abbrev pub RunsBatch : RowBatch → RowDie → Result Unit Refusal → RowDie → Type 0
RunsBatch batch old (Ok _) new = RanBatch old batch (Ok new)
RunsBatch batch old (Err e) new = RanBatch old batch (Err e)

-- so it was, unless the die's run was refused before
abbrev pub RunsOnDie : Result RowDie Refusal → RowBatch → Result RowDie Refusal → Type 0
RunsOnDie (Ok old) batch new = RanBatch old batch new
RunsOnDie (Err e) batch new = new ≡ Err e

abbrev pub RunsOn : RowRunner → RowBatch → RowRunner → Type 0
RunsOn old batch new = RunsOnDie old.die batch new.die

-- a die of this plan has read and run these batches; or memory ran out, or one of their rows is the first at fault
abbrev pub RunsBatches : DiePlan → List RowBatch → Result RowDie Refusal → Type 0
RunsBatches plan batches (Ok die) =
    (items : List ScriptItem) × (read_of (rows_of_batches batches) ≡ Ok items) × HasCome plan items (until_of batches) die
RunsBatches plan batches (Err e) = (e ≡ NoMemory) ⊎ (read_of (rows_of_batches batches) ≡ Err e)

-- a die of this plan that has run nothing
abbrev pub IsFreshOf : DiePlan → RowRunner → Type 0
IsFreshOf plan runner = RunsBatches plan [] runner.die

abbrev pub IsFresh : RowRunner → Type 0
IsFresh runner = (plan : DiePlan) × IsFreshOf plan runner
