-- The log stays marked where the worst was done, as a die's jobs come and go.
use Rattle.std.proofs.Common.{◌≡◌, ℕ, Bool, true, false, cond, List, [], ◌∷◌, ◌++◌, Option, Some, None, option_map, refl, ap, sym, ◌∙◌}
use Rattle.std.proofs.Common.{subst, length, slice_get}
use Rattle.std.specs.Prelude.{IsTrue, ◌↔◌, MatchOption, Result, Ok, Err, OnOk, OnErr}
use Rattle.std.proofs.lemmas.Bool.{true≢false, false≢true}
use Rattle.std.proofs.lemmas.Option.{none-some}
use Rattle.std.proofs.lemmas.List.{length-map}
use Rattle.slot_types.specs.declared.plans.DiePlan.{DiePlan}
use Rattle.slot_types.specs.declared.refusals.Refusal.{Refusal}
use Rattle.slot_types.specs.declared.replies.Waived.{Waived}
use Rattle.slot_types.specs.declared.acts.Act.{Act}
use Rattle.slot_types.specs.declared.acts.Act.TheVariants as does
use Rattle.job_table.specs.declared.stages.Stage.TheVariants.{Done, Waived as Gone}
use Rattle.job_table.specs.Jobs.{JobRecord, is_done, with_one_more_slot, with_stage, new_collection}
use Rattle.job_table.specs.Table.{Table, changed_at, with_job}
use Rattle.job_table.specs.Order.{IsHead}
use Rattle.job_table.specs.Waivers.{WerePending, jobs_after_waiver, jobs_after_waivers}
use Rattle.job_table.specs.Worst.{IsWorst, NothingDone, is_worse, IsDoneAt, IsWorstBeside}
use Rattle.job_table.proofs.Changed.{changed_here, changed_elsewhere, push_before, same_at}
use Rattle.job_table.proofs.Tables.{head_undone}
use Rattle.job_table.proofs.Worsts.{undone_worst, pushed_worst, worst_of_others, worst_alone, worst_now, worst_stays, one_worst}
use Rattle.event_log.specs.Notes.{Note}
use Rattle.event_log.specs.Slots.{carried_in}
use Rattle.event_log.specs.NoteRecords.{stands_alone}
use Rattle.event_log.specs.Entries.{entries_of}
use Rattle.die_log.specs.Model.Log.{Log, now, carried_slots}
use Rattle.die_log.specs.Model.Start.{Start, over}
use Rattle.slot_core.specs.Records.{job_records}
use Rattle.slot_core.specs.MarkedWorst.{completion_of, completion_at, MarksWorst}
use Rattle.slot_core.specs.declared.head_step.HeadStep.{HeadStep}
use Rattle.slot_core.specs.HeadSteps.{after_read, table_after_step, deed_by}
use Rattle.slot_core.proofs.Slotting.{turn_change}
use Rattle.slot_core.proofs.Telling.{numbers_reported}

-- no job yet
pub marks_none : MarksWorst [] 0
marks_none = record { worst = None; is = λ n job at. absurd (none-some job at); done = tt }

-- Nobody is done

pub marks_push : (jobs : List JobRecord) (job : JobRecord) (m : ℕ) → is_done job.stage ≡ false → MarksWorst jobs m
    → MarksWorst (jobs ++ job ∷ []) m
marks_push jobs job m undone marks = record {
  worst = marks.worst;
  is = pushed_worst jobs job marks.worst undone marks.is;
  done = same marks.worst marks.is marks.done;
}
  where
    same : (w : Option ℕ) → MatchOption w (NothingDone jobs) (IsWorst jobs)
        → MatchOption w (Unit {0}) (λ n. completion_at jobs n ≡ m) → MatchOption w (Unit {0}) (λ n. completion_at (jobs ++ job ∷ []) n ≡ m)
    same None is done = tt
    same (Some n) is done = ap completion_of (push_before jobs job n is.worst is.is_at ∙ sym is.is_at) ∙ done

-- a collection came, or the table stays
pub marks_collect : (r : Result ℕ Refusal) (t u : Table) (task release due m k : ℕ) → OnOk r (u ≡ with_job t (new_collection task release due))
    → OnErr r (u ≡ t) → k ≡ m → MarksWorst t.jobs m → MarksWorst u.jobs k
marks_collect (Ok number) t u task release due m k made stays same marks = rw (made, same)
    (marks_push t.jobs (new_collection task release due) m refl marks)
marks_collect (Err refusal) t u task release due m k made stays same marks = rw (stays, same) marks

pub marks_change : (jobs : List JobRecord) (n : ℕ) (change : JobRecord → JobRecord) (m : ℕ)
    → ((job : JobRecord) → slice_get jobs n ≡ Some job → (is_done job.stage ≡ false) × (is_done (change job).stage ≡ false))
    → MarksWorst jobs m → MarksWorst (changed_at jobs n change) m
marks_change jobs n change m undone marks = record {
  worst = marks.worst;
  is = undone_worst jobs n change marks.worst undone marks.is;
  done = same marks.worst marks.is marks.done;
}
  where
    same : (w : Option ℕ) → MatchOption w (NothingDone jobs) (IsWorst jobs)
        → MatchOption w (Unit {0}) (λ k. completion_at jobs k ≡ m) → MatchOption w (Unit {0}) (λ k. completion_at (changed_at jobs n change) k ≡ m)
    same None is done = tt
    same (Some w) is done =
        ap completion_of (changed_elsewhere jobs n change w (λ here. true≢false (sym is.done
        ∙ (undone is.worst (ap (slice_get jobs) (sym here) ∙ is.is_at)).0))) ∙ done

pub marks_waivers : (jobs : List JobRecord) (ws : List Waived) (m : ℕ) → WerePending jobs ws → MarksWorst jobs m
    → MarksWorst (jobs_after_waivers jobs ws) m
marks_waivers jobs [] m were marks = marks
marks_waivers jobs (w ∷ ws) m were marks =
    marks_waivers (jobs_after_waiver jobs w) ws m were.1 (marks_change jobs w.number (with_stage (Gone w.given)) m undone marks)
  where
    undone : (job : JobRecord) → slice_get jobs w.number ≡ Some job
        → (is_done job.stage ≡ false) × (is_done (with_stage (Gone w.given) job).stage ≡ false)
    undone job at = (
      ap (λ (j : JobRecord). is_done j.stage) (same_at w.number w.number jobs job were.0.job refl at were.0.is_at)
          ∙ ap is_done were.0.pending_is,
      refl,
    )

-- as a slot finds the table after it waived these
pub marks_chosen : (start : Start) (plan same : DiePlan) (log : Log) (jobs later : List JobRecord) (ws : List Waived) (m : ℕ) → same ≡ plan
    → jobs ≡ job_records (over plan start) log → later ≡ jobs_after_waivers (job_records (over same start) log) ws
    → WerePending (job_records (over same start) log) ws → MarksWorst jobs m → MarksWorst later m
marks_chosen start plan same log jobs later ws m plan_is jobs_are were pending marks =
    subst (λ (js : List JobRecord). MarksWorst js m) (sym were) (marks_waivers (job_records (over same start) log) ws m pending
    (subst (λ (js : List JobRecord). MarksWorst js m) (jobs_are
    ∙ sym (ap (λ (p : DiePlan). job_records (over p start) log) plan_is)) marks))

-- One is done

-- the mark after it: where it is the worst, its completion
marks_done : (jobs : List JobRecord) (n : ℕ) (change : JobRecord → JobRecord) (m : ℕ) (b : Bool)
    → ((job : JobRecord) → slice_get jobs n ≡ Some job → is_done job.stage ≡ false) → IsDoneAt (changed_at jobs n change) n
    → (b ≡ true → IsWorst (changed_at jobs n change) n) → (IsWorst (changed_at jobs n change) n → b ≡ true) → MarksWorst jobs m
    → MarksWorst (changed_at jobs n change) (cond b (completion_at (changed_at jobs n change) n) m)
marks_done jobs n change m true undone here is from marks = record { worst = Some n; is = is refl; done = refl }
marks_done jobs n change m false undone here is from marks = by_worst marks.worst marks.is marks.done
  where
    later : List JobRecord
    later = changed_at jobs n change

    by_rank : (w : ℕ) (beside : IsWorstBeside later n w) → completion_at jobs w ≡ m → (r : Bool) → is_worse n here.job w beside.worst ≡ r
        → MarksWorst later m
    by_rank w beside done true worse = absurd (false≢true (from (worst_now later n w here beside worse)))
    by_rank w beside done false not_worse = record {
      worst = Some w;
      is = worst_stays later n w here beside not_worse;
      done = ap completion_of (changed_elsewhere jobs n change w beside.other_one) ∙ done;
    }

    by_worst : (w : Option ℕ) → MatchOption w (NothingDone jobs) (IsWorst jobs)
        → MatchOption w (Unit {0}) (λ k. completion_at jobs k ≡ m) → MarksWorst later m
    by_worst None none done = absurd (false≢true (from (worst_alone later n here (worst_of_others jobs n change None undone none))))
    by_worst (Some w) worst done =
        let beside : IsWorstBeside later n w = worst_of_others jobs n change (Some w) undone worst in
        by_rank w beside done (is_worse n here.job w beside.worst) refl

act_keeps_stage : (act : Act) (r : JobRecord) → is_done (after_read act (with_one_more_slot r)).stage ≡ is_done r.stage
act_keeps_stage (does.Read page bytes) r = refl
act_keeps_stage (does.Write page bytes) r = refl
act_keeps_stage (does.Trim page) r = refl
act_keeps_stage (does.CopyRead page) r = refl
act_keeps_stage (does.CopyProgram page) r = refl
act_keeps_stage (does.Erase block) r = refl

-- after a step of the head, which says whether it made it the worst
pub marks_step : (t : Table) (n : ℕ) (turn : HeadStep) (completion m slots : ℕ) (b : Bool) → IsHead t n → slots ≡ completion
    → (IsTrue b ↔ (IsTrue turn.last × IsWorst (table_after_step t n turn completion).jobs n)) → MarksWorst t.jobs m
    → MarksWorst (table_after_step t n turn completion).jobs (cond b slots m)
marks_step t n turn completion m slots b head slots_are said marks =
    subst (λ (u : Table). MarksWorst u.jobs (cond b slots m)) (sym (turn_change t n turn completion)) (by_last turn.last said_so)
  where
    step : Bool → JobRecord → JobRecord
    step last r = cond last (with_stage (Done completion turn.given) (after_read turn.act (with_one_more_slot r)))
        (after_read turn.act (with_one_more_slot r))

    said_so : IsTrue b ↔ (IsTrue turn.last × IsWorst (changed_at t.jobs n (step turn.last)) n)
    said_so = subst (λ (u : Table). IsTrue b ↔ (IsTrue turn.last × IsWorst u.jobs n)) (turn_change t n turn completion) said

    undone : (job : JobRecord) → slice_get t.jobs n ≡ Some job → is_done job.stage ≡ false
    undone = head_undone t n head

    at : (last : Bool) → slice_get (changed_at t.jobs n (step last)) n ≡ Some (step last head.head)
    at last = changed_here t.jobs n (step last) ∙ ap (option_map (step last)) head.is_at

    by_last : (last : Bool) → (IsTrue b ↔ (IsTrue last × IsWorst (changed_at t.jobs n (step last)) n))
        → MarksWorst (changed_at t.jobs n (step last)) (cond b slots m)
    by_last true so =
        subst (λ (k : ℕ). MarksWorst (changed_at t.jobs n (step true)) (cond b k m)) (ap completion_of (at true) ∙ sym slots_are)
        (marks_done t.jobs n (step true) m b undone (record { job = step true head.head; is_at = at true; done = refl })
        (λ e. (so.0 e).1) (λ w. so.1 (refl, w)) marks)
    by_last false so = unmarked b (λ e. false≢true (so.0 e).0)
      where
        kept : MarksWorst (changed_at t.jobs n (step false)) m
        kept = marks_change t.jobs n (step false) m (λ job here. (undone job here, act_keeps_stage turn.act job ∙ undone job here)) marks

        unmarked : (c : Bool) → (c ≡ true → ⊥) → MarksWorst (changed_at t.jobs n (step false)) (cond c slots m)
        unmarked true never = absurd (never refl)
        unmarked false never = kept

-- no later event counts as one record with the last act of a job or collection
pub last_alone : (number place : ℕ) (last : Bool) (act : Act) → last ≡ true → stands_alone (deed_by number place last act) ≡ true
last_alone number place true (does.Read page bytes) e = refl
last_alone number place true (does.Write page bytes) e = refl
last_alone number place true (does.Trim page) e = refl
last_alone number place true (does.CopyRead page) e = refl
last_alone number place true (does.CopyProgram page) e = refl
last_alone number place true (does.Erase block) e = refl
last_alone number place false act e = absurd (false≢true e)

-- the slots of the events are those of the log that they tell
pub slots_reported : (js : List JobRecord) (notes : List Note) → length (carried_in notes) ≡ now (entries_of js notes)
slots_reported js notes = sym (ap length (numbers_reported js notes)) ∙ length-map (carried_slots (entries_of js notes)) _

-- Where it is asked

-- the worst one was done with as many slots as there were at the mark
pub marks_is : (jobs : List JobRecord) (n m : ℕ) → MarksWorst jobs m → IsWorst jobs n → completion_at jobs n ≡ m
marks_is jobs n m marks worst = by_worst marks.worst marks.is marks.done
  where
    by_worst : (w : Option ℕ) → MatchOption w (NothingDone jobs) (IsWorst jobs)
        → MatchOption w (Unit {0}) (λ k. completion_at jobs k ≡ m) → completion_at jobs n ≡ m
    by_worst None none done = absurd (true≢false (sym worst.done ∙ none n worst.worst worst.is_at))
    by_worst (Some w) is done = ap (completion_at jobs) (one_worst jobs n w worst is) ∙ done
