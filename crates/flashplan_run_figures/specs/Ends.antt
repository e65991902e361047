-- How many jobs and collections of a die came to what.
use Rattle.std.specs.Prelude.{◌≡◌, ℕ, ◌==◌, ◌&&◌, ◌||◌, not, if◌then◌else◌, Bool, true, false, List, Option, Some, None, count_by}
use Rattle.std.specs.Prelude.{ℤ, int_lt, pos}
use Rattle.std.specs.List.{filter_map}
use Rattle.flashplan_run_figures.specs.SlotCounts.{capped}
use Rattle.flashplan_run_figures.specs.declared.ends.EndCounts.{EndCounts}
use Rattle.flashplan_run_figures.specs.declared.ends.Ended.{Ended}
use Rattle.flashplan_run_figures.specs.declared.ends.Ended.TheVariants as ended
use Rattle.flashplan_run_figures.specs.declared.ends.JobEnd.{JobEnd}
use Rattle.flashplan_run_figures.specs.declared.ends.Kind.{Kind}
use Rattle.flashplan_run_figures.specs.declared.ends.Kind.TheVariants as kind

-- it was done after its deadline, or waits past it
abbrev pub has_missed : Ended → Bool
has_missed (ended.Waiting late) = late
has_missed (ended.Done lateness) = int_lt (pos 0) lateness
has_missed _ = false

abbrev pub is_waiting : Ended → Bool
is_waiting (ended.Waiting late) = true
is_waiting _ = false

abbrev pub is_done : Ended → Bool
is_done (ended.Done lateness) = true
is_done _ = false

abbrev pub is_waived : Ended → Bool
is_waived ended.Waived = true
is_waived _ = false

abbrev pub is_refused : Ended → Bool
is_refused ended.Refused = true
is_refused _ = false

-- a job or a collection of this kind
abbrev pub is_kind : Kind → JobEnd → Bool
is_kind kind.DoneJob end = not end.collects && is_done end.ended
is_kind kind.RefusedJob end = not end.collects && is_refused end.ended
is_kind kind.WaitingJob end = not end.collects && is_waiting end.ended
is_kind kind.LateJob end = not end.collects && has_missed end.ended
is_kind kind.DoneCollection end = end.collects && is_done end.ended
is_kind kind.WaivedCollection end = end.collects && is_waived end.ended
is_kind kind.WaitingCollection end = end.collects && is_waiting end.ended
is_kind kind.RefusedCollection end = end.collects && is_refused end.ended

-- one of a task, or of any
abbrev pub is_of : Option ℕ → JobEnd → Bool
is_of None end = true
is_of (Some task) end = end.task == task

-- how many of a task, or of any, are of this kind
abbrev pub how_many : Option ℕ → Kind → List JobEnd → ℕ
how_many task k ends = capped (count_by (λ end. is_of task end && is_kind k end) ends)

-- how many of a task, or of any, came to what
pub record AreEndCounts (task : Option ℕ) (ends : List JobEnd) (counts : EndCounts) : Type 0 where
  pub done : counts.done ≡ how_many task kind.DoneJob ends
  pub waiting : counts.waiting ≡ how_many task kind.WaitingJob ends
  pub refused : counts.refused ≡ how_many task kind.RefusedJob ends
  pub late : counts.late ≡ how_many task kind.LateJob ends
  pub collected : counts.collected ≡ how_many task kind.DoneCollection ends
  pub waived : counts.waived ≡ how_many task kind.WaivedCollection ends
  pub collecting : counts.collecting ≡ how_many task kind.WaitingCollection ends
  pub uncollected : counts.uncollected ≡ how_many task kind.RefusedCollection ends

-- Lateness

abbrev pub done_late_by : Ended → Option ℤ
done_late_by (ended.Done lateness) = Some lateness
done_late_by _ = None

-- how late a job of this task, or of any, was done
abbrev pub late_by : Option ℕ → JobEnd → Option ℤ
late_by task end = if end.collects || not (is_of task end) then None else done_late_by end.ended

abbrev pub lateness_in : Option ℕ → List JobEnd → List ℤ
lateness_in task ends = filter_map (late_by task) ends
