-- How many slots of a log carried what.
use Rattle.std.specs.Prelude.{◌≡◌, ℕ, ◌+◌, ◌==◌, ◌&&◌, ◌<◌, cond, Bool, true, false, is_none, [], ◌∷◌, length, Option, Some, None, get_or}
use Rattle.slot_types.specs.declared.acts.Act.{Act}
use Rattle.slot_types.specs.declared.acts.Act.TheVariants as does
use Rattle.slot_types.specs.declared.replies.Reply.{Reply}
use Rattle.slot_types.specs.declared.replies.Reply.TheVariants as replies
use Rattle.die_log.specs.Model.Flash.{ran_by}
use Rattle.die_log.specs.Model.Log.{Carried, Job, Log, job_at}
use Rattle.flashplan_run_figures.specs.SlotCounts.{NOTHING, capped}
use Rattle.flashplan_run_figures.specs.declared.counts.DieCounts.{DieCounts}
use Rattle.flashplan_run_figures.specs.declared.slot_counts.SlotCounts.{SlotCounts}
use Rattle.flashplan_watched_runs.specs.Wear.{slots_of}

-- Acts

-- an operation of a job
abbrev pub is_operation : Act → Bool
is_operation (does.Read page bytes) = true
is_operation (does.Write page bytes) = true
is_operation (does.Trim page) = true
is_operation _ = false

-- what a collection reads or programs
abbrev pub is_copying : Act → Bool
is_copying (does.CopyRead page) = true
is_copying (does.CopyProgram page) = true
is_copying _ = false

abbrev pub is_erasing : Act → Bool
is_erasing (does.Erase block) = true
is_erasing _ = false

abbrev pub is_writing : Act → Bool
is_writing (does.Write page bytes) = true
is_writing _ = false

abbrev pub is_programming : Act → Bool
is_programming (does.CopyProgram page) = true
is_programming _ = false

-- Slots

abbrev pub is_own : ℕ → Option Job → Bool
is_own task None = false
is_own task (Some j) = j.task == task

-- the job or collection of this number is one of the task, if one is asked for
abbrev pub is_for : Option ℕ → Log → ℕ → Bool
is_for None past number = true
is_for (Some task) past number = is_own task (job_at past number)

-- this was carried, for that task
abbrev pub carries : (Act → Bool) → Option ℕ → Log → Carried → Bool
carries is task past None = false
carries is task past (Some did) = is_for task past did.0 && is did.1

-- how many slots of a log carried this for a task, or for any
abbrev pub slots_for : (Act → Bool) → Option ℕ → Log → ℕ
slots_for is task [] = 0
slots_for is task (e ∷ past) = cond (carries is task past (ran_by e.reply)) 1 0 + slots_for is task past

abbrev pub slot_counts : Option ℕ → Log → SlotCounts
slot_counts task log = record {
  jobs = capped (slots_for is_operation task log);
  copies = capped (slots_for is_copying task log);
  erases = capped (slots_for is_erasing task log);
  written = capped (slots_for is_writing task log);
  copied = capped (slots_for is_programming task log);
}

-- a slot that carried nothing
abbrev pub is_idle : Reply → Bool
is_idle (replies.Slot s) = is_none s.ran
is_idle _ = false

-- these are the counts of a log of a die with `tasks` tasks
pub record AreCountsOf (tasks : ℕ) (log : Log) (counts : DieCounts) : Type 0 where
  pub all : counts.all ≡ slot_counts None log
  pub count : length counts.tasks.items ≡ tasks
  pub each : (task : ℕ) → task < tasks → get_or counts.tasks.items task NOTHING ≡ slot_counts (Some task) log
  pub idle : counts.idle ≡ capped (slots_of is_idle log)
