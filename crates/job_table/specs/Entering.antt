-- A job or a collection is accepted, by its head.
use Rattle.std.specs.Prelude.{◌≡◌, ◌<◌, Bool, true, false, if◌then◌else◌, List, [], slice_set}
use Rattle.slot_types.specs.declared.events.JobHead.{JobHead}
use Rattle.slot_types.specs.declared.events.Op.{Op}
use Rattle.job_table.specs.Jobs.{JobRecord, new_record}
use Rattle.job_table.specs.Table.{Table, is_collecting}

-- what a head asks for, with the operations beside it, has not begun
abbrev pub job_of : JobHead → List Op → JobRecord
job_of head ops = new_record head.collects head.task head.release head.due ops

-- if it is a collection, it has no operations, and its task is one of the table's and has no pending one
abbrev pub MayEnter : Table → JobHead → List Op → Type 0
MayEnter table head ops = head.collects ≡ true
    → (ops ≡ []) × (head.task < table.tasks) × (is_collecting table.jobs head.task ≡ false)

-- by task whether it has a pending collection, from then on
abbrev pub marks_with : JobHead → List Bool → List Bool
marks_with head marks = if head.collects then slice_set marks head.task true else marks
