-- The head after those that are waived before it.
use Rattle.std.proofs.Common.{◌≡◌, ℕ, Bool, true, false, refl, sym, ap, ◌∙◌, List, [], ◌∷◌, ◌++◌, slice_get, Option, Some, None}
use Rattle.std.proofs.Common.{option_map, length, ◌⊎◌, inl, inr}
use Rattle.std.proofs.lemmas.Bool.{cases_eq}
use Rattle.std.proofs.lemmas.Option.{same_Some}
use Rattle.due_queue.specs.declared.keys.Key.{Key}
use Rattle.due_queue.specs.declared.keys.WaitKey.{WaitKey}
use Rattle.due_queue.specs.Queue.{beyond, first_of, rest_of, IsRising}
use Rattle.due_queue.specs.Keys.{is_due_before}
use Rattle.slot_types.specs.declared.replies.Waived.{Waived}
use Rattle.job_table.specs.declared.stages.Stage.TheVariants as stages
use Rattle.job_table.specs.Jobs.{JobRecord, is_pending, with_stage}
use Rattle.job_table.specs.Heads.{WereHeads, with_waived}
use Rattle.job_table.specs.SoundTable.{QueuesAgree, marks_after}
use Rattle.job_table.specs.Order.{IsHead, NothingReady}
use Rattle.job_table.specs.Table.{Table}
use Rattle.job_table.specs.Waivers.{jobs_after_waiver, jobs_after_waivers}
use Rattle.job_table.proofs.Changed.{changed_here, changed_elsewhere}
use Rattle.job_table.proofs.Heads.{number_is_head, no_number_ready}
use Rattle.job_table.proofs.Tables.{over_running}

-- the queues of a table with these waived
pub record RunsAfter (table : Table) (ws : List Waived) (waiting : List WaitKey) (ready : List Key) : Type 0 where
  pub marks : List Bool
  pub runs : QueuesAgree (jobs_after_waivers table.jobs ws) table.clock marks waiting (beyond (length ws) ready)
  pub rising : IsRising is_due_before (beyond (length ws) ready)

rest_rises : (ready : List Key) → IsRising is_due_before ready → IsRising is_due_before (rest_of ready)
rest_rises [] rising = tt
rest_rises (k ∷ ks) rising = rising.1

pub runs_after : (table : Table) (ws : List Waived) (marks : List Bool) (waiting : List WaitKey) (ready : List Key) → WereHeads table ws
    → IsRising is_due_before ready → QueuesAgree table.jobs table.clock marks waiting ready → RunsAfter table ws waiting ready
runs_after table [] marks waiting ready heads rising runs = record { marks = marks; runs = runs; rising = rising }
runs_after table (w ∷ ws) marks waiting ready heads rising runs =
    let again = runs_after (record table { jobs = jobs_after_waiver table.jobs w }) ws (marks_after (slice_get table.jobs w.number) marks) waiting
    (rest_of ready) heads.1 (rest_rises ready rising)
    (over_running table w.number (stages.Waived w.given) marks waiting ready heads.0 refl rising runs) in
    record { marks = again.marks; runs = again.runs; rising = again.rising }

pub head_after : (table : Table) (ws : List Waived) (marks : List Bool) (waiting : List WaitKey) (ready : List Key) (n : ℕ) → WereHeads table ws
    → IsRising is_due_before ready → QueuesAgree table.jobs table.clock marks waiting ready
    → Some n ≡ option_map (λ (k : Key). k.number) (first_of (beyond (length ws) ready)) → IsHead (with_waived table ws) n
head_after table ws marks waiting ready n heads rising runs is =
    let then = runs_after table ws marks waiting ready heads rising runs in
    number_is_head (with_waived table ws) waiting (beyond (length ws) ready) n then.runs.queued then.runs.later then.rising is

pub none_after : (table : Table) (ws : List Waived) (marks : List Bool) (waiting : List WaitKey) (ready : List Key) → WereHeads table ws
    → IsRising is_due_before ready → QueuesAgree table.jobs table.clock marks waiting ready
    → None ≡ option_map (λ (k : Key). k.number) (first_of (beyond (length ws) ready)) → NothingReady (with_waived table ws)
none_after table ws marks waiting ready heads rising runs is =
    let then = runs_after table ws marks waiting ready heads rising runs in
    no_number_ready (with_waived table ws) waiting (beyond (length ws) ready) then.runs.queued then.runs.later is

-- one more head
pub WereHeads-push : (table : Table) (ws : List Waived) (w : Waived) → WereHeads table ws → IsHead (with_waived table ws) w.number
    → WereHeads table (ws ++ w ∷ [])
WereHeads-push table [] w heads head = (head, tt)
WereHeads-push table (v ∷ ws) w heads head = (
  heads.0,
  WereHeads-push (record table { jobs = jobs_after_waiver table.jobs v }) ws w heads.1 head,
)

-- who is pending though these are waived is none of them
pub pending_stays : (jobs : List JobRecord) (ws : List Waived) (n : ℕ) (job : JobRecord) → slice_get (jobs_after_waivers jobs ws) n ≡ Some job
    → is_pending job.stage ≡ true → slice_get jobs n ≡ Some job
pending_stays jobs [] n job at waits = at
pending_stays jobs (w ∷ ws) n job at waits = by_number (cases_eq n w.number) (pending_stays (jobs_after_waiver jobs w) ws n job at waits)
  where
    gone : (o : Option JobRecord) → option_map (with_stage (stages.Waived w.given)) o ≡ Some job → ⊥
    gone None e = cc
    gone (Some r) e =
        let it = same_Some (with_stage (stages.Waived w.given) r) job e in
        let over : is_pending job.stage ≡ false = ap (λ (x : JobRecord). is_pending x.stage) (sym it) in
        cc

    by_number : (n ≡ w.number) ⊎ (n ≡ w.number → ⊥) → slice_get (jobs_after_waiver jobs w) n ≡ Some job → slice_get jobs n ≡ Some job
    by_number (inl same) e = absurd (gone (slice_get jobs w.number) (sym (changed_here jobs w.number (with_stage (stages.Waived w.given)))
        ∙ (ap (slice_get (jobs_after_waiver jobs w)) (sym same) ∙ e)))
    by_number (inr other) e = sym (changed_elsewhere jobs w.number (with_stage (stages.Waived w.given)) n other) ∙ e
