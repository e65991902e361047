-- What is done, what waits, and who is late.
use Rattle.std.specs.Prelude.{ℕ, ◌+◌, ◌&&◌, ◌||◌, ◌==◌, not, nat_lt, nat_le, Bool, true, false, if◌then◌else◌, List, [], ◌∷◌, length, drop}
use Rattle.std.specs.Prelude.{Option, Some, None, filter, count_by, sum_by, ℤ, int_lt, ◌≤◌, ◌≤ℤ◌, Contains, IsTrue}
use Rattle.std.specs.List.{list_any, reduce}
use Rattle.slot_types.specs.declared.plans.DiePlan.{DiePlan}
use Rattle.slot_types.specs.declared.acts.Act.{Act}
use Rattle.slot_types.specs.declared.acts.Act.TheVariants as does
use Rattle.slot_types.specs.Operations.{writes}
use Rattle.late_cert.specs.Schedule as slots
use Rattle.die_log.specs.Model.Log.{Log, Job, jobs, now, is_waived, acts, act_of, work}
use Rattle.die_log.specs.Model.Flash.{ran_by, Cells, cells, block_of_page}
use Rattle.die_log.specs.Model.Start.{Start}

-- Done

abbrev pub is_erase : Act → Bool
is_erase (does.Erase block) = true
is_erase _ = false

abbrev pub is_copy_program : Act → Bool
is_copy_program (does.CopyProgram page) = true
is_copy_program _ = false

-- these acts are all of a job's operations, or have all slots of a collection's erase
abbrev pub are_all : DiePlan → Job → List Act → Bool
are_all plan j own = if j.collects then count_by is_erase own == plan.shape.erase_slots else length own == length j.ops

abbrev pub is_done : DiePlan → Log → Job → Bool
is_done plan log j = are_all plan j (acts j.number log)

-- Waiting

-- released, not done and not waived
abbrev pub is_ready : DiePlan → Log → Job → Bool
is_ready plan log j = nat_le j.release (now log) && not (is_done plan log j) && not (is_waived log j.number)

abbrev pub ready : DiePlan → Log → List Job
ready plan log = filter (is_ready plan log) (jobs log)

-- the smaller key goes first
abbrev pub goes_first : Job → Job → Bool
goes_first i j = nat_lt i.due j.due || ((i.due == j.due) && nat_lt i.number j.number)

-- the one with the least key
abbrev pub least : List Job → Option Job
least waiting = reduce (λ best j. if goes_first j best then j else best) waiting

-- the task has a collection that is neither done nor waived
abbrev pub is_collecting : DiePlan → Log → ℕ → Bool
is_collecting plan log task =
    list_any (λ j. j.collects && (j.task == task) && not (is_done plan log j) && not (is_waived log j.number)) (jobs log)

-- Lateness

abbrev pub ended_by : Option Act → ℕ → ℕ → ℕ
ended_by None earlier slot = earlier
ended_by (Some act) earlier slot = slot + 1

-- 1 + the last slot that names it
abbrev pub completion : ℕ → Log → ℕ
completion number [] = 0
completion number (e ∷ past) = ended_by (act_of number (ran_by e.reply)) (completion number past) (now past)

abbrev pub lateness_of : Log → Job → ℤ
lateness_of log j = slots.lateness_of (completion j.number log) j.due

-- later, or as late and completed first, or in the same slot the smaller number
abbrev pub is_worse : Log → Job → Job → Bool
is_worse log i j =
    int_lt (lateness_of log j) (lateness_of log i)
    || (not (int_lt (lateness_of log i) (lateness_of log j))
    && (nat_lt (completion i.number log) (completion j.number log)
    || ((completion i.number log == completion j.number log) && nat_lt i.number j.number)))

-- the done job or collection with the greatest lateness, of equal ones the one completed first
abbrev pub worst : DiePlan → Log → Option Job
worst plan log = reduce (λ best j. if is_worse log j best then j else best) (filter (is_done plan log) (jobs log))

-- the same said of each done one: none is later, none of the same lateness was completed before, and none of the same
-- lateness and completion has a smaller number
pub record IsWorst (plan : DiePlan) (log : Log) (j : Job) : Type 0 where
  pub stands : Contains (jobs log) j
  pub done : IsTrue (is_done plan log j)
  pub latest : (i : Job) → Contains (jobs log) i → IsTrue (is_done plan log i) → lateness_of log i ≤ℤ lateness_of log j
  pub first : (i : Job) → Contains (jobs log) i → IsTrue (is_done plan log i) → lateness_of log j ≤ℤ lateness_of log i
      → completion j.number log ≤ completion i.number log
  pub least : (i : Job) → Contains (jobs log) i → IsTrue (is_done plan log i) → lateness_of log j ≤ℤ lateness_of log i
      → completion i.number log ≤ completion j.number log → j.number ≤ i.number

-- Collections

-- the block that an act shows to be its collection's
abbrev pub block_shown : Cells → Act → Option ℕ
block_shown c (does.CopyRead page) = block_of_page c page
block_shown c (does.Erase block) = Some block
block_shown c _ = None

-- once known, the block stays; else the act that was carried after this log may show it
abbrev pub shown_by : Start → Log → Option ℕ → Option Act → Option ℕ
shown_by start past (Some b) act = Some b
shown_by start past None None = None
shown_by start past None (Some act) = block_shown (cells start past) act

-- the block that a begun collection collects: its first act shows it
abbrev pub victim_of : Start → ℕ → Log → Option ℕ
victim_of start number [] = None
victim_of start number (e ∷ past) = shown_by start past (victim_of start number past) (act_of number (ran_by e.reply))

-- Owed

-- the writes of accepted jobs that are not yet carried
abbrev pub owed_writes : Log → ℕ
owed_writes log = sum_by (λ j. writes (drop (work j.number log) j.ops)) (jobs log)
