-- A table that a job or a collection entered, by its head, is sound.
use Rattle.std.proofs.Common.{◌≡◌, ℕ, ◌<◌, ◌++◌, Bool, true, false, cond, refl, List, [], ◌∷◌, length, set, Option}
use Rattle.slot_types.specs.declared.events.JobHead.{JobHead}
use Rattle.slot_types.specs.declared.events.Op.{Op}
use Rattle.slot_types.specs.declared.limits.TheConstants.{MAX_JOBS}
use Rattle.job_table.specs.Jobs.{JobRecord}
use Rattle.job_table.specs.Table.{is_collecting}
use Rattle.job_table.specs.Entering.{job_of, marks_with}
use Rattle.job_table.specs.QueuedKeys.{Lines}
use Rattle.job_table.specs.SoundTable.{IsSoundTable}
use Rattle.job_table.proofs.Tables.{HasEntered, job_sound, collection_sound}

pub entered_sound : (jobs : List JobRecord) (head : JobHead) (ops : List Op) (clock : ℕ) (ended : Bool) (collecting : List Bool)
    (lines lines' : Lines) (worst : Option ℕ)
    → ended ≡ false → length jobs < MAX_JOBS
    → (head.collects ≡ true → (ops ≡ []) × (head.task < length collecting) × (is_collecting jobs head.task ≡ false))
    → HasEntered jobs (job_of head ops) clock lines.waiting lines'.waiting lines.ready lines'.ready
    → IsSoundTable jobs clock ended collecting lines worst
    → IsSoundTable (jobs ++ job_of head ops ∷ []) clock ended (marks_with head collecting) lines' worst
entered_sound jobs head ops clock ended collecting lines lines' worst runs few may entered sound = by head.collects refl
  where
    by : (b : Bool) → head.collects ≡ b
        → IsSoundTable (jobs ++ job_of head ops ∷ []) clock ended (cond b (set collecting head.task true) collecting) lines' worst
    by true e = collection_sound jobs (job_of head ops) clock ended collecting lines lines' worst runs few refl e (may e).1 (may e).2 entered sound
    by false e = job_sound jobs (job_of head ops) clock ended collecting lines lines' worst few refl e (λ _. entered) sound
