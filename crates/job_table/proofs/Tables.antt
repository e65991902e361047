-- What is always true of a table stays true.
use Rattle.std.proofs.Common.{◌≡◌, ◌≢◌, ℕ, suc, ◌+◌, ◌<◌, ◌≤◌, Bool, true, false, cond, if◌then◌else◌, ◌&&◌, ◌==◌, nat_lt, refl, sym, ap}
use Rattle.std.proofs.Common.{◌∙◌, subst, arith, List, [], ◌∷◌, ◌++◌, length, get_or, set, slice_get, Option, Some, None, option_map}
use Rattle.std.proofs.Common.{MatchOption, count_by, inl, inr, get_or-set_same, get_or-set_other, length-append}
use Rattle.std.proofs.Math.ListN.{length-set}
use Rattle.std.proofs.lemmas.Bool.{cases_eq}
use Rattle.std.proofs.lemmas.Bool.Decides.{nat_tests}
use Rattle.std.proofs.lemmas.List.Sums.{sum_by_push}
use Rattle.slot_types.specs.declared.limits.TheConstants.{MAX_JOBS}
use Rattle.slot_types.specs.declared.pages.PageData.{PageData}
use Rattle.due_queue.specs.declared.keys.Key.{Key}
use Rattle.due_queue.specs.declared.keys.WaitKey.{WaitKey}
use Rattle.due_queue.specs.Queue.{with_key, rest_of, IsRising}
use Rattle.due_queue.specs.Keys.{is_due_before, is_released_before}
use Rattle.due_queue.proofs.Inserted.{every-inserted, length-inserted}
use Rattle.job_table.specs.declared.stages.Stage.{Stage}
use Rattle.job_table.specs.declared.stages.Stage.TheVariants as stages
use Rattle.job_table.specs.Jobs.{JobRecord, is_pending, is_done, with_stage, with_one_more_slot, with_read}
use Rattle.job_table.specs.Table.{Table, changed_at, is_collection_of, is_collecting}
use Rattle.job_table.specs.Order.{due_key, IsHead}
use Rattle.job_table.specs.QueuedKeys.{Lines, AreQueued, AreLater}
use Rattle.job_table.specs.Order.{release_key}
use Rattle.job_table.specs.Worst.{IsWorst, NothingDone, IsDoneAt}
use Rattle.job_table.specs.SoundTable.{marks_after, QueuesAgree, IsSoundTable}
use Rattle.job_table.proofs.Changed.{length-changed_at, changed_here, one_if, count_by-changed_at, list_any-none, list_any-some, push_cases}
use Rattle.job_table.proofs.Changed.{same_at}
use Rattle.job_table.proofs.Keyed.{IsQuiet, changed_cases, quiet_queues, end_first, enter_waiting, enter_ready}
use Rattle.job_table.proofs.Heads.{BeginsWith, head_is_first, ready_pending}
use Rattle.job_table.proofs.Worsts.{undone_worst, pushed_worst}

pub pending_undone : (s : Stage) → is_pending s ≡ true → is_done s ≡ false
pending_undone stages.Pending h = refl
pending_undone (stages.Done completion given) h = absurd cc
pending_undone (stages.Waived given) h = refl

-- Marks

abbrev one_of : Bool → ℕ
one_of b = cond b 1 0

both_true : (b : Bool) → one_of (b && true) ≡ one_of b
both_true true = refl
both_true false = refl

none_true : (b : Bool) → one_of (b && false) ≡ 0
none_true true = refl
none_true false = refl

at_most_one : (b : Bool) → one_of b ≤ 1
at_most_one true = omega arith
at_most_one false = omega arith

same_task : (a b : ℕ) → a ≡ b → one_of (a == b) ≡ 1
same_task a b e = grind (arith, nat_tests)

other_task : (a b : ℕ) → a ≢ b → one_of (a == b) ≡ 0
other_task a b e = grind (arith, nat_tests)

pub mark_is : (jobs : List JobRecord) (clock : ℕ) (collecting : List Bool) (waiting : List WaitKey) (ready : List Key) (task : ℕ)
    → QueuesAgree jobs clock collecting waiting ready → task < length collecting
    → get_or collecting task false ≡ is_collecting jobs task
mark_is jobs clock collecting waiting ready task running lt = by (get_or collecting task false) refl
  where
    by : (b : Bool) → get_or collecting task false ≡ b → b ≡ is_collecting jobs task
    by true e = sym (list_any-some (is_collection_of task) jobs (let h = running.marks task lt ∙ ap (λ v. cond v 1 0) e in omega arith))
    by false e = sym (list_any-none (is_collection_of task) jobs (running.marks task lt ∙ ap (λ v. cond v 1 0) e))

-- A job goes on

pub carried_quiet : IsQuiet with_one_more_slot
carried_quiet = record {
  stage_is = λ job. refl;
  release_is = λ job. refl;
  due_is = λ job. refl;
  collects_is = λ job. refl;
  task_is = λ job.
      refl;
}

pub quiet_sound : (jobs : List JobRecord) (n : ℕ) (change : JobRecord → JobRecord) (job : JobRecord) (clock : ℕ) (ended : Bool)
    (collecting : List Bool) (lines : Lines) (worst : Option ℕ)
    → IsQuiet change → slice_get jobs n ≡ Some job → is_pending job.stage ≡ true
    → IsSoundTable jobs clock ended collecting lines worst → IsSoundTable (changed_at jobs n change) clock ended collecting lines worst
quiet_sound jobs n change job clock ended collecting lines worst quiet at_n pending_n sound =
    let len = length-changed_at jobs n change in
    let few = sound.few in
    record {
      few = rw len sound.few;
      running = λ e. let r = sound.running e in record {
        queued = quiet_queues jobs n change clock lines.waiting lines.ready quiet r.queued;
        later = r.later;
        few_wait = rw len r.few_wait;
        tasks = λ m other at_m collects_m.
            elim (changed_cases jobs n change m other at_m) [
              | inl h ↦ r.tasks m other h.1 collects_m
              | inr h ↦
                  let lt = r.tasks m h.1.0 h.1.1 (sym (quiet.collects_is h.1.0) ∙ ap (λ j. j.collects) h.1.2 ∙ collects_m) in
                  let same : h.1.0.task ≡ other.task = sym (quiet.task_is h.1.0) ∙ ap (λ j. j.task) h.1.2 in
                  rw (sym same) lt
            ];
        marks = λ task lt.
            let p = is_collection_of task in
            let same : is_collection_of task (change job)
            ≡ is_collection_of task job = rw (quiet.collects_is job, quiet.task_is job, quiet.stage_is job) refl in
            let one : one_if p (change job) ≡ one_if p job = ap (λ b. cond b 1 0) same in
            let count = count_by-changed_at p jobs n change job at_n in
            let was = r.marks task lt in
            omega arith;
      };
      worst_is = undone_worst jobs n change worst
          (λ other at_other.
          let e : job ≡ other = same_at n n jobs job other refl at_n at_other in
          let undone : is_done other.stage ≡ false = pending_undone other.stage (ap (λ j. is_pending j.stage) (sym e) ∙ pending_n) in
          (undone, ap is_done (quiet.stage_is other) ∙ undone))
          sound.worst_is;
    }

-- The head is over

length-unmarked : (o : Option JobRecord) (collecting : List Bool) → length (marks_after o collecting) ≡ length collecting
length-unmarked None collecting = refl
length-unmarked (Some job) collecting = by job.collects
  where
    by : (b : Bool) → length (if b then set collecting job.task false else collecting) ≡ length collecting
    by true = length-set collecting job.task false
    by false = refl

-- the marks count the pending collections, of which one is over
over_marks : (jobs : List JobRecord) (n : ℕ) (s : Stage) (job : JobRecord) (collecting : List Bool) (task : ℕ) → slice_get jobs n ≡ Some job
    → is_pending job.stage ≡ true → is_pending s ≡ false
    → task < length collecting → count_by (is_collection_of task) jobs ≡ (if get_or collecting task false then 1 else 0)
    → (collects : Bool) → job.collects ≡ collects
    → count_by (is_collection_of task) (changed_at jobs n (with_stage s))
    ≡ (if get_or (if collects then set collecting job.task false else collecting) task false then 1 else 0)
over_marks jobs n s job collecting task at_n pending_n over lt was false is =
    let p = is_collection_of task in
    let before : one_if p job ≡ 0 = ap (λ b. cond (b && (job.task == task) && is_pending job.stage) 1 0) is in
    let after : one_if p (with_stage s job) ≡ 0 = ap (λ b. cond (b && (job.task == task) && is_pending s) 1 0) is in
    let count = count_by-changed_at p jobs n (with_stage s) job at_n in
    omega arith
over_marks jobs n s job collecting task at_n pending_n over lt was true is =
    let p = is_collection_of task in
    let before : one_if p job ≡ one_of (job.task == task) = rw (is, pending_n) (both_true (job.task == task)) in
    let after : one_if p (with_stage s job) ≡ 0 = rw (is, over) (none_true (job.task == task)) in
    let count = count_by-changed_at p jobs n (with_stage s) job at_n in
    elim (cases_eq task job.task) [
      | inl same ↦
          let here = same_task job.task task (sym same) in
          let lt' : job.task < length collecting = omega arith in
          let read : get_or (set collecting job.task false) task false
          ≡ false = ap (λ t. get_or (set collecting job.task false) t false) same
          ∙ get_or-set_same collecting job.task false false lt' in
          rw read (let small = at_most_one (get_or collecting task false) in omega arith)
      | inr differs ↦
          let here = other_task job.task task (λ e. differs (sym e)) in
          let read : get_or (set collecting job.task false) task false
          ≡ get_or collecting task false = get_or-set_other collecting job.task task false false differs in
          rw read (omega arith)
    ]

pub over_running : (table : Table) (n : ℕ) (s : Stage) (collecting : List Bool) (waiting : List WaitKey) (ready : List Key)
    → IsHead table n → is_pending s ≡ false → IsRising is_due_before ready
    → QueuesAgree table.jobs table.clock collecting waiting ready
    → QueuesAgree (changed_at table.jobs n (with_stage s)) table.clock (marks_after (slice_get table.jobs n) collecting) waiting (rest_of ready)
over_running table n s collecting waiting ready head over rising r =
    let b : BeginsWith n ready = head_is_first table waiting ready n r.queued r.later rising head in
    let rest_is : rest_of ready ≡ b.rest = ap rest_of b.ready_is in
    let q = end_first table.jobs n (with_stage s) table.clock waiting b.first b.rest b.number_is (λ job. over)
    (subst (IsRising is_due_before) b.ready_is rising) (subst (λ l. AreQueued table.jobs table.clock waiting l) b.ready_is r.queued) in
    let marks_len : length (marks_after (slice_get table.jobs n) collecting)
    ≡ length collecting = length-unmarked (slice_get table.jobs n) collecting in
    record {
      queued = rw rest_is q;
      later = r.later;
      few_wait = rw length-changed_at r.few_wait;
      tasks = λ m other at_m collects_m.
          rw marks_len
          (elim (changed_cases table.jobs n (with_stage s) m other at_m) [
            | inl h ↦ r.tasks m other h.1 collects_m
            | inr h ↦
                let lt = r.tasks m h.1.0 h.1.1 (ap (λ j. j.collects) h.1.2 ∙ collects_m) in
                let same : h.1.0.task ≡ other.task = ap (λ j. j.task) h.1.2 in
                rw (sym same) lt
          ]);
      marks = λ task lt.
          let lt' : task < length collecting = rw marks_len at lt in
          rw head.is_at (over_marks table.jobs n s head.head collecting task head.is_at (ready_pending table.clock head.head head.ready)
          over lt' (r.marks task lt') head.head.collects refl);
    }

-- everything but who is worst
pub over_sound : (table : Table) (n : ℕ) (s : Stage) (ended : Bool) (collecting : List Bool) (lines lines' : Lines)
    (worst worst' : Option ℕ)
    → ended ≡ false → IsHead table n → is_pending s ≡ false → IsRising is_due_before lines.ready
    → lines'.waiting ≡ lines.waiting → lines'.ready ≡ rest_of lines.ready
    → IsSoundTable table.jobs table.clock ended collecting lines worst
    → MatchOption worst' (NothingDone (changed_at table.jobs n (with_stage s))) (IsWorst (changed_at table.jobs n (with_stage s)))
    → IsSoundTable (changed_at table.jobs n (with_stage s)) table.clock ended (marks_after (slice_get table.jobs n) collecting) lines' worst'
over_sound table n s ended collecting lines lines' worst worst' runs head over rising waiting_is ready_is sound worst_is = record {
  few = rw length-changed_at sound.few;
  running = λ e. rw (waiting_is, ready_is) (over_running table n s collecting lines.waiting lines.ready head over rising (sound.running e));
  worst_is = worst_is;
}

-- the head isn't done yet
pub head_undone : (table : Table) (n : ℕ) → IsHead table n → (job : JobRecord) → slice_get table.jobs n ≡ Some job → is_done job.stage
    ≡ false
head_undone table n head job at_n =
    let e : head.head ≡ job = same_at n n table.jobs head.head job refl head.is_at at_n in
    pending_undone job.stage (ap (λ j. is_pending j.stage) (sym e) ∙ ready_pending table.clock head.head head.ready)

-- the head that was done
pub head_done : (table : Table) (n : ℕ) (s : Stage) → IsHead table n → is_done s ≡ true
    → IsDoneAt (changed_at table.jobs n (with_stage s)) n
head_done table n s head done = record {
  job = with_stage s head.head;
  is_at = changed_here table.jobs n (with_stage s) ∙ ap (option_map (with_stage s)) head.is_at;
  done = done;
}

pub read_quiet : (bytes : PageData) → IsQuiet (λ job. with_read bytes (with_one_more_slot job))
read_quiet bytes = record {
  stage_is = λ job. refl;
  release_is = λ job. refl;
  due_is = λ job. refl;
  collects_is = λ job. refl;
  task_is = λ
      job. refl;
}

-- A job is accepted

-- the queues with the new key in one of them
pub record HasEntered (jobs : List JobRecord) (job : JobRecord) (clock : ℕ) (waiting waiting' : List WaitKey) (ready ready' : List Key) :
    Type 0 where
  pub queued : AreQueued (jobs ++ job ∷ []) clock waiting' ready'
  pub later : AreLater clock waiting'
  pub few_wait : length waiting' ≤ suc (length waiting)

pub has_entered : (jobs : List JobRecord) (job : JobRecord) (clock : ℕ) (waiting waiting' : List WaitKey) (ready ready' : List Key)
    → is_pending job.stage ≡ true
    → waiting' ≡ (if nat_lt clock job.release then with_key is_released_before (release_key (length jobs) job) waiting else waiting)
    → ready' ≡ (if nat_lt clock job.release then ready else with_key is_due_before (due_key (length jobs) job) ready)
    → AreQueued jobs clock waiting ready → AreLater clock waiting
    → HasEntered jobs job clock waiting waiting' ready ready'
has_entered jobs job clock waiting waiting' ready ready' pending_job waiting_is ready_is q later = by (nat_lt clock job.release) refl
    waiting_is ready_is
  where
    by : (b : Bool) → nat_lt clock job.release ≡ b
        → waiting' ≡ (if b then with_key is_released_before (release_key (length jobs) job) waiting else waiting)
        → ready' ≡ (if b then ready else with_key is_due_before (due_key (length jobs) job) ready)
        → HasEntered jobs job clock waiting waiting' ready ready'
    by true e f g =
        let lt : clock < job.release = grind (arith, nat_tests) in
        rw (f, g) (record {
          queued = enter_waiting jobs job clock waiting ready pending_job q;
          later = every-inserted is_released_before (λ (w : WaitKey). clock < w.release) (release_key (length jobs) job) waiting lt later;
          few_wait = let len = length-inserted is_released_before (release_key (length jobs) job) waiting in omega arith;
        })
    by false e f g =
        let le : job.release ≤ clock = grind (arith, nat_tests) in
        rw (f, g) (record {
          queued = enter_ready jobs job clock waiting ready pending_job le q;
          later = later;
          few_wait = omega arith;
        })

count_push : (p : JobRecord → Bool) (jobs : List JobRecord) (job : JobRecord) → count_by p (jobs ++ job ∷ [])
    ≡ count_by p jobs + one_if p job
count_push p jobs job = sum_by_push (one_if p) jobs job

-- a job that has not begun
pub job_sound : (jobs : List JobRecord) (job : JobRecord) (clock : ℕ) (ended : Bool) (collecting : List Bool) (lines lines' : Lines)
    (worst : Option ℕ)
    → length jobs < MAX_JOBS → job.stage ≡ stages.Pending → job.collects ≡ false
    → (ended ≡ false → HasEntered jobs job clock lines.waiting lines'.waiting lines.ready lines'.ready)
    → IsSoundTable jobs clock ended collecting lines worst → IsSoundTable (jobs ++ job ∷ []) clock ended collecting lines' worst
job_sound jobs job clock ended collecting lines lines' worst few pending_is collects_not entered sound =
    let len = length-append jobs (job ∷ []) in
    record {
      few = omega arith;
      running = λ e. let r = sound.running e in let h = entered e in record {
        queued = h.queued;
        later = h.later;
        few_wait = let f = h.few_wait in let g = r.few_wait in omega arith;
        tasks = λ m other at_m collects_m.
            elim (push_cases jobs job m other at_m) [
              | inl h ↦ r.tasks m other h collects_m
              | inr h ↦ absurd (let e = ap (λ j. j.collects) (sym h.1) ∙ collects_not in cc)
            ];
        marks = λ task lt.
            let p = is_collection_of task in
            let none : one_if p job ≡ 0 = ap (λ b. cond (b && (job.task == task) && is_pending job.stage) 1 0) collects_not in
            let count = count_push p jobs job in
            let was = r.marks task lt in
            omega arith;
      };
      worst_is = pushed_worst jobs job worst (ap is_done pending_is) sound.worst_is;
    }

-- a collection for a task that has none
pub collection_sound : (jobs : List JobRecord) (job : JobRecord) (clock : ℕ) (ended : Bool) (collecting : List Bool) (lines lines' : Lines)
    (worst : Option ℕ)
    → ended ≡ false → length jobs < MAX_JOBS → job.stage ≡ stages.Pending → job.collects ≡ true
    → job.task < length collecting → is_collecting jobs job.task ≡ false
    → HasEntered jobs job clock lines.waiting lines'.waiting lines.ready lines'.ready
    → IsSoundTable jobs clock ended collecting lines worst → IsSoundTable (jobs ++ job ∷ []) clock ended (set collecting job.task true) lines' worst
collection_sound jobs job clock ended collecting lines lines' worst runs few pending_is collects_it in_range single h sound =
    let r = sound.running runs in
    let len = length-append jobs (job ∷ []) in
    let marks_len = length-set collecting job.task true in
    record {
      few = omega arith;
      running = λ _. record {
        queued = h.queued;
        later = h.later;
        few_wait = let f = h.few_wait in let g = r.few_wait in omega arith;
        tasks = λ m other at_m collects_m.
            elim (push_cases jobs job m other at_m) [
              | inl g ↦ rw marks_len (r.tasks m other g collects_m)
              | inr g ↦ let same : job.task ≡ other.task = ap (λ j. j.task) g.1 in rw (sym same, marks_len) in_range
            ];
        marks = λ task lt.
            let p = is_collection_of task in
            let lt' : task < length collecting = rw marks_len at lt in
            let one : one_if p job ≡ one_of (job.task == task) = rw (collects_it, pending_is) (both_true (job.task == task)) in
            let count = count_push p jobs job in
            let was = r.marks task lt' in
            elim (cases_eq task job.task) [
              | inl same ↦
                  let here = same_task job.task task (sym same) in
                  let unmarked_is : get_or collecting task false
                  ≡ false = mark_is jobs clock collecting lines.waiting lines.ready task r lt' ∙ ap (is_collecting jobs) same
                  ∙ single in
                  let none : count_by p jobs ≡ 0 = was ∙ ap (λ b. cond b 1 0) unmarked_is in
                  let read : get_or (set collecting job.task true) task false
                  ≡ true = ap (λ t. get_or (set collecting job.task true) t false) same
                  ∙ get_or-set_same collecting job.task true false in_range in
                  rw read (omega arith)
              | inr differs ↦
                  let here = other_task job.task task (λ e. differs (sym e)) in
                  let read : get_or (set collecting job.task true) task false
                  ≡ get_or collecting task false = get_or-set_other collecting job.task task true false differs in
                  rw read (omega arith)
            ];
      };
      worst_is = pushed_worst jobs job worst (ap is_done pending_is) sound.worst_is;
    }
