-- A die's lives: its logs, each of which starts at what the one before it left.
use Rattle.std.specs.Prelude.{◌≡◌, ℕ, ◌==◌, ◌&&◌, Bool, false, if◌then◌else◌, List, [], ◌∷◌, ◌++◌, length, Option, Some, None, is_some}
use Rattle.std.specs.Prelude.{slice_index_or, unwrap_or, sum_by, count_by}
use Rattle.std.specs.List.{filter_map, last_or}
use Rattle.slot_types.specs.declared.plans.DiePlan.{DiePlan}
use Rattle.slot_types.specs.declared.pages.PageData.{PageData}
use Rattle.slot_types.specs.declared.acts.Act.TheVariants as does
use Rattle.slot_types.specs.declared.replies.Reply.{Reply}
use Rattle.slot_types.specs.declared.replies.Reply.TheVariants as replies
use Rattle.late_cert.specs.declared.rows.JobRow.{JobRow}
use Rattle.late_cert.specs.Schedule.{Slots}
use Rattle.late_cert.specs.JoinedRows.{joined_rows, joined_slots}
use Rattle.die_log.specs.Model.Log.{Log, Carried, jobs, now, carried_slots}
use Rattle.die_log.specs.Model.Start.{Start, blank_page}
use Rattle.die_log.specs.Model.Work.{is_erase}
use Rattle.die_log.specs.Model.Answers.{IsExact}
use Rattle.die_log.specs.Model.Opening.{IsQuiet, renewed_start}
use Rattle.die_log.specs.Model.Rows.{rows, carried_numbers}

-- the logs of a die, one a life, the newest first: after a log lie those before it
abbrev pub Lives : Type 0
Lives = List Log

-- where the next life starts: at what the newest log left, or else where the die's first log did
abbrev pub start_after : Start → Lives → Start
start_after first [] = first
start_after first (log ∷ earlier) = renewed_start (start_after first earlier) log

-- each log is exact from its start, and ended at a quiet moment: all was done or waived
abbrev pub HaveEnded : Start → Lives → Type 0
HaveEnded first [] = Unit {0}
HaveEnded first (log ∷ earlier) =
    HaveEnded first earlier × IsExact (start_after first earlier) log × IsQuiet (start_after first earlier) log

-- each log is exact from its start, and all but the newest have ended
abbrev pub AreLives : Start → Lives → Type 0
AreLives first [] = Unit {0}
AreLives first (log ∷ earlier) = HaveEnded first earlier × IsExact (start_after first earlier) log

-- the log is that of one life, and these came before it
abbrev pub HasLife : Lives → Log → Lives → Type 0
HasLife lives log earlier = (later : Lives) × (lives ≡ later ++ log ∷ earlier)

-- Pages

-- what was carried in all slots, the first one first
abbrev pub all_carried : Lives → List Carried
all_carried [] = []
all_carried (log ∷ earlier) = all_carried earlier ++ carried_slots log

-- what a slot left on the page, if it wrote or trimmed it
abbrev pub content_left_on : ℕ → Carried → Option PageData
content_left_on page None = None
content_left_on page (Some (n, does.Write p bytes)) = if p == page then Some bytes else None
content_left_on page (Some (n, does.Trim p)) = if p == page then Some blank_page else None
content_left_on page (Some (n, _)) = None

-- what the last finished write or trim of the page left on it, in whichever life; or else what stood there at first
abbrev pub last_content : Start → Lives → ℕ → PageData
last_content first lives page =
    let found = last_or None (filter_map (content_left_on page) (all_carried lives)) in
    unwrap_or found (slice_index_or first.contents page blank_page)

-- Time: each life begins in the slot after the last one of the life before it

-- how many slots and how many jobs and collections there were
abbrev pub all_slots : Lives → ℕ
all_slots lives = sum_by now lives

abbrev pub all_jobs : Lives → ℕ
all_jobs lives = sum_by (λ log. length (jobs log)) lives

-- the rows of all lives, with releases, deadlines and completions in the slots of them all, and a number of its own for
-- each job
abbrev pub rows_of_all : DiePlan → Lives → List JobRow
rows_of_all plan [] = []
rows_of_all plan (log ∷ earlier) =
    joined_rows (all_jobs earlier) (all_slots earlier) (rows_of_all plan earlier) (rows plan log)

-- the numbers carried, by slot
abbrev pub numbers_of_all : Lives → Slots
numbers_of_all [] = []
numbers_of_all (log ∷ earlier) = joined_slots (all_jobs earlier) (numbers_of_all earlier) (carried_numbers log)

-- Wear

-- the slot carried an erase of the block
abbrev pub erases_block : ℕ → Carried → Bool
erases_block block None = false
erases_block block (Some (n, does.Erase b)) = b == block
erases_block block (Some (n, _)) = false

-- and that was the last slot of its collection
abbrev pub ends_erase : ℕ → Reply → Bool
ends_erase block (replies.Slot s) = is_some s.finished && erases_block block s.ran
ends_erase block _ = false

-- how many erases of the block were finished in a log
abbrev pub erases_in : ℕ → Log → ℕ
erases_in block log = count_by (λ e. ends_erase block e.reply) log

-- the slot carried an erase, of whichever block
abbrev pub carries_erase : Carried → Bool
carries_erase None = false
carries_erase (Some (n, act)) = is_erase act

abbrev pub ends_some_erase : Reply → Bool
ends_some_erase (replies.Slot s) = is_some s.finished && carries_erase s.ran
ends_some_erase _ = false

-- how many erases were finished in a log, of all blocks together
abbrev pub all_erases_in : Log → ℕ
all_erases_in log = count_by (λ e. ends_some_erase e.reply) log

-- how many collections were taken
abbrev pub collections_taken : Log → ℕ
collections_taken log = count_by (λ j. j.collects) (jobs log)
