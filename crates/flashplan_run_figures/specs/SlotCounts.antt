-- How many slots carried what.
use Rattle.std.specs.Prelude.{◌≡◌, ℕ, ◌+◌, ◌==◌, min, if◌then◌else◌, Bool, false, List, Option, Some, None, option_map, slice_get}
use Rattle.slot_types.specs.declared.acts.Act.{Act}
use Rattle.slot_types.specs.declared.acts.Act.TheVariants as does
use Rattle.flashplan_run_figures.specs.declared.slot_counts.SlotCounts.{SlotCounts}

-- a count of 32 bits, which stays at the greatest one
abbrev pub capped : ℕ → ℕ
capped n = min n 4294967295

abbrev pub one_more : ℕ → ℕ
one_more n = capped (n + 1)

abbrev pub NOTHING : SlotCounts
NOTHING = record { jobs = 0; copies = 0; erases = 0; written = 0; copied = 0 }

-- the counts, and a slot that carried this act
abbrev pub after_act : Act → SlotCounts → SlotCounts
after_act (does.Read page bytes) c = record c { jobs = one_more c.jobs }
after_act (does.Write page bytes) c = record c { jobs = one_more c.jobs; written = one_more c.written }
after_act (does.Trim page) c = record c { jobs = one_more c.jobs }
after_act (does.CopyRead page) c = record c { copies = one_more c.copies }
after_act (does.CopyProgram page) c = record c { copies = one_more c.copies; copied = one_more c.copied }
after_act (does.Erase block) c = record c { erases = one_more c.erases }

-- the same where it is so
abbrev pub after_act_if : Bool → Act → SlotCounts → SlotCounts
after_act_if is act c = if is then after_act act c else c

-- the task, if there is one, is this one
abbrev pub is_task : Option ℕ → ℕ → Bool
is_task None task = false
is_task (Some t) task = t == task

-- by task the counts after a slot of this one
abbrev pub AreAfterAct : Option ℕ → Act → List SlotCounts → List SlotCounts → Type 0
AreAfterAct of act old new =
    (task : ℕ) → slice_get new task ≡ option_map (after_act_if (is_task of task) act) (slice_get old task)
