-- The queues keep the keys of the pending jobs.
use Rattle.std.proofs.Common.{◌≡◌, ◌≢◌, ℕ, zero, suc, ◌<◌, ◌≤◌, true, false, refl, sym, ap, ◌∙◌, arith, List, [], ◌∷◌, ◌++◌, length}
use Rattle.std.proofs.Common.{slice_get, Some, Contains, ◌⊎◌, inl, inr}
use Rattle.std.specs.List.{AllByRecursion}
use Rattle.std.proofs.lemmas.Option.{slice_get_within}
use Rattle.due_queue.specs.declared.keys.Key.{Key}
use Rattle.due_queue.specs.declared.keys.WaitKey.{WaitKey}
use Rattle.due_queue.specs.Queue.{with_key, IsRising}
use Rattle.due_queue.specs.Keys.{is_due_before, is_released_before}
use Rattle.due_queue.proofs.Inserted.{every, every-inserted}
use Rattle.job_table.specs.Jobs.{JobRecord, is_pending}
use Rattle.job_table.specs.Table.{changed_at}
use Rattle.job_table.specs.Order.{due_key}
use Rattle.job_table.specs.QueuedKeys.{IsWaitingKey, IsReleasedKey, AreQueued, AreLater}
use Rattle.job_table.specs.Order.{release_key}
use Rattle.job_table.proofs.Changed.{changed_elsewhere, push_before, push_here, push_cases, same_at}
use Rattle.job_table.proofs.Members.{both, inserted_member, inserted_keeps, not_contained}
use Rattle.job_table.proofs.Orders.{later_release, not_before_same, not_due_before_same}

-- a key stays in order where its job stands in another list

pub moved_wait : (jobs other : List JobRecord) (k : WaitKey) (h : IsWaitingKey jobs k) → slice_get other k.number ≡ Some h.job
    → IsWaitingKey other k
moved_wait jobs other k h is_at = record { job = h.job; is_at = is_at; pending_is = h.pending_is; release_is = h.release_is }

pub moved_stand : (jobs other : List JobRecord) (clock : ℕ) (k : Key) (h : IsReleasedKey jobs clock k) → slice_get other k.number ≡ Some h.job
    → IsReleasedKey other clock k
moved_stand jobs other clock k h is_at = record {
  job = h.job;
  is_at = is_at;
  pending_is = h.pending_is;
  due_is = h.due_is;
  released =
      h.released;
}

-- Time passes

-- A job is released

-- those that come after a key have other numbers
others_wait : (jobs : List JobRecord) (w : WaitKey) (ws : List WaitKey) → IsWaitingKey jobs w
    → AllByRecursion (λ later. is_released_before w later ≡ true) ws → AllByRecursion (IsWaitingKey jobs) ws
    → AllByRecursion (λ (v : WaitKey). v.number ≢ w.number) ws
others_wait jobs w ws here rising waits =
    both (λ later. is_released_before w later ≡ true) (IsWaitingKey jobs) (λ (v : WaitKey). v.number ≢ w.number)
    (λ v before there same.
    let e : there.job ≡ here.job = same_at v.number w.number jobs there.job here.job same there.is_at here.is_at in
    let f : w.release ≡ v.release = here.release_is ∙ ap (λ j. j.release) (sym e) ∙ sym there.release_is in
    let g : is_released_before w v ≡ false = not_before_same w v f (sym same) in
    cc)
    ws rising waits

-- no key with its number stands among the released ones
pub absent_key : (jobs : List JobRecord) (now : ℕ) (w : WaitKey) (ws : List WaitKey) (ready : List Key) (due : ℕ)
    → AreQueued jobs now (w ∷ ws) ready → Contains ready (record { due = due; number = w.number }) → ⊥
absent_key jobs now w ws ready due q =
    not_contained (record { due = due; number = w.number }) ready
    (every (λ (k : Key). w.number ≢ k.number) (λ k. k ≢ record { due = due; number = w.number })
    (λ k other same. other (sym (ap (λ (k : Key). k.number) same))) ready q.apart.0)

pub release_one : (jobs : List JobRecord) (now : ℕ) (w : WaitKey) (ws : List WaitKey) (ready : List Key) (due : ℕ)
    → w.release ≤ now
    → ((job : JobRecord) → slice_get jobs w.number ≡ Some job → due ≡ job.due)
    → IsRising is_released_before (w ∷ ws)
    → AreQueued jobs now (w ∷ ws) ready
    → AreQueued jobs now ws (with_key is_due_before (record { due = due; number = w.number }) ready)
release_one jobs now w ws ready due le due_is rising q =
    let here : IsWaitingKey jobs w = q.waits.0 in
    let key : Key = record { due = due; number = w.number } in
    let same_due : due ≡ here.job.due = due_is here.job here.is_at in
    let others = others_wait jobs w ws here rising.0 q.waits.1 in
    record {
      waits = q.waits.1;
      stands = every-inserted is_due_before (IsReleasedKey jobs now) key ready
          (record {
            job = here.job;
            is_at = here.is_at;
            pending_is = here.pending_is;
            due_is = same_due;
            released = let e = here.release_is
                in omega arith;
          })
          q.stands;
      each = λ n job at_n pending_n.
          elim (q.each n job at_n pending_n) [
            | inl (inl e) ↦
                let number_is : w.number ≡ n = ap (λ (v : WaitKey). v.number) e in
                let job_is : here.job ≡ job = same_at w.number n jobs here.job job number_is here.is_at at_n in
                let key_is : key ≡ due_key n job = λ i. record { due = (same_due ∙ ap (λ j. j.due) job_is) i; number = number_is i } in
                inr (rw (sym key_is) (inserted_member is_due_before key ready))
            | inl (inr h) ↦ inl h
            | inr h ↦ inr (inserted_keeps is_due_before key (due_key n job) ready h)
          ];
      apart = both (λ (v : WaitKey). v.number ≢ w.number) (λ (v : WaitKey). AllByRecursion (λ (k : Key). v.number ≢ k.number) ready)
          (λ (v : WaitKey). AllByRecursion (λ (k : Key). v.number ≢ k.number) (with_key is_due_before key ready))
          (λ v other rest. every-inserted is_due_before (λ (k : Key). v.number ≢ k.number) key ready other rest) ws others q.apart.1;
    }

-- where the first is released later, all are
pub all_later : (now : ℕ) (w : WaitKey) (ws : List WaitKey) → now < w.release → IsRising is_released_before (w ∷ ws) → AreLater now (w ∷ ws)
all_later now w ws lt rising = (
  lt,
  every (λ later. is_released_before w later ≡ true) (λ (v : WaitKey). now < v.release)
      (λ v before. let h = later_release w v before in omega arith) ws rising.0,
)

-- A job is accepted

pub not_waiting : (jobs : List JobRecord) (clock : ℕ) (waiting : List WaitKey) (ready : List Key) (release : ℕ)
    → AreQueued jobs clock waiting ready → Contains waiting (record { release = release; number = length jobs }) → ⊥
not_waiting jobs clock waiting ready release q =
    not_contained (record { release = release; number = length jobs }) waiting
    (every (IsWaitingKey jobs) (λ k. k ≢ record { release = release; number = length jobs })
    (λ k here same. let lt = slice_get_within jobs k.number here.job here.is_at in let e : k.number
    ≡ length jobs = ap (λ (v : WaitKey). v.number) same in omega arith)
    waiting q.waits)

pub not_ready : (jobs : List JobRecord) (clock : ℕ) (waiting : List WaitKey) (ready : List Key) (due : ℕ)
    → AreQueued jobs clock waiting ready → Contains ready (record { due = due; number = length jobs }) → ⊥
not_ready jobs clock waiting ready due q =
    not_contained (record { due = due; number = length jobs }) ready
    (every (IsReleasedKey jobs clock) (λ k. k ≢ record { due = due; number = length jobs })
    (λ k here same. let lt = slice_get_within jobs k.number here.job here.is_at in let e : k.number
    ≡ length jobs = ap (λ (v : Key). v.number) same in omega arith)
    ready q.stands)

waits_on : (jobs : List JobRecord) (job : JobRecord) (waiting : List WaitKey) → AllByRecursion (IsWaitingKey jobs) waiting
    → AllByRecursion (IsWaitingKey (jobs ++ job ∷ [])) waiting
waits_on jobs job waiting all =
    every (IsWaitingKey jobs) (IsWaitingKey (jobs ++ job ∷ []))
    (λ k h. moved_wait jobs (jobs ++ job ∷ []) k h (push_before jobs job k.number h.job h.is_at)) waiting all

stands_on : (jobs : List JobRecord) (job : JobRecord) (clock : ℕ) (ready : List Key) → AllByRecursion (IsReleasedKey jobs clock) ready
    → AllByRecursion (IsReleasedKey (jobs ++ job ∷ []) clock) ready
stands_on jobs job clock ready all =
    every (IsReleasedKey jobs clock) (IsReleasedKey (jobs ++ job ∷ []) clock)
    (λ k h. moved_stand jobs (jobs ++ job ∷ []) clock k h (push_before jobs job k.number h.job h.is_at)) ready all

-- into the wait list
pub enter_waiting : (jobs : List JobRecord) (job : JobRecord) (clock : ℕ) (waiting : List WaitKey) (ready : List Key)
    → is_pending job.stage ≡ true
    → AreQueued jobs clock waiting ready
    → AreQueued (jobs ++ job ∷ []) clock (with_key is_released_before (release_key (length jobs) job) waiting) ready
enter_waiting jobs job clock waiting ready pending_job q =
    let key : WaitKey = release_key (length jobs) job in
    record {
      waits = every-inserted is_released_before (IsWaitingKey (jobs ++ job ∷ [])) key waiting
          (record { job = job; is_at = push_here jobs job; pending_is = pending_job; release_is = refl })
          (waits_on jobs job waiting q.waits);
      stands = stands_on jobs job clock ready q.stands;
      each = λ n other at_n pending_n.
          elim (push_cases jobs job n other at_n) [
            | inl h ↦ elim (q.each n other h pending_n) [
              | inl g ↦ inl (inserted_keeps is_released_before key (release_key n other) waiting g)
              | inr g ↦ inr g
            ]
            | inr h ↦
                let key_is : key ≡ release_key n other = λ i. record { release = (h.1 i).release; number = (sym h.0) i } in
                inl (rw (sym key_is) (inserted_member is_released_before key waiting))
          ];
      apart = every-inserted is_released_before (λ (w : WaitKey). AllByRecursion (λ (k : Key). w.number ≢ k.number) ready) key waiting
          (every (IsReleasedKey jobs clock) (λ (k : Key). length jobs ≢ k.number)
          (λ k h same. let lt = slice_get_within jobs k.number h.job h.is_at in omega arith) ready q.stands)
          q.apart;
    }

-- among the released ones
pub enter_ready : (jobs : List JobRecord) (job : JobRecord) (clock : ℕ) (waiting : List WaitKey) (ready : List Key)
    → is_pending job.stage ≡ true → job.release ≤ clock
    → AreQueued jobs clock waiting ready
    → AreQueued (jobs ++ job ∷ []) clock waiting (with_key is_due_before (due_key (length jobs) job) ready)
enter_ready jobs job clock waiting ready pending_job le q =
    let key : Key = due_key (length jobs) job in
    record {
      waits = waits_on jobs job waiting q.waits;
      stands = every-inserted is_due_before (IsReleasedKey (jobs ++ job ∷ []) clock) key ready
          (record { job = job; is_at = push_here jobs job; pending_is = pending_job; due_is = refl; released = le })
          (stands_on jobs job clock ready q.stands);
      each = λ n other at_n pending_n.
          elim (push_cases jobs job n other at_n) [
            | inl h ↦ elim (q.each n other h pending_n) [
              | inl g ↦ inl g
              | inr g ↦ inr (inserted_keeps is_due_before key (due_key n other) ready g)
            ]
            | inr h ↦
                let key_is : key ≡ due_key n other = λ i. record { due = (h.1 i).due; number = (sym h.0) i } in
                inr (rw (sym key_is) (inserted_member is_due_before key ready))
          ];
      apart = both (IsWaitingKey jobs) (λ (w : WaitKey). AllByRecursion (λ (k : Key). w.number ≢ k.number) ready)
          (λ (w : WaitKey). AllByRecursion (λ (k : Key). w.number ≢ k.number) (with_key is_due_before key ready))
          (λ w h rest. every-inserted is_due_before (λ (k : Key). w.number ≢ k.number) key ready
          (λ same. let lt = slice_get_within jobs w.number h.job h.is_at in omega arith) rest)
          waiting q.waits q.apart;
    }

-- A job goes on

-- a change that leaves alone what the keys and the marks are made of
pub record IsQuiet (change : JobRecord → JobRecord) : Type 0 where
  pub stage_is : (job : JobRecord) → (change job).stage ≡ job.stage
  pub release_is : (job : JobRecord) → (change job).release ≡ job.release
  pub due_is : (job : JobRecord) → (change job).due ≡ job.due
  pub collects_is : (job : JobRecord) → (change job).collects ≡ job.collects
  pub task_is : (job : JobRecord) → (change job).task ≡ job.task

-- a job of the changed list is one of the list, changed or not
pub changed_cases : (jobs : List JobRecord) (n : ℕ) (change : JobRecord → JobRecord) (m : ℕ) (other : JobRecord)
    → slice_get (changed_at jobs n change) m ≡ Some other
    → ((m ≢ n) × (slice_get jobs m ≡ Some other)) ⊎ ((m ≡ n) × ((job : JobRecord) × (slice_get jobs m ≡ Some job) × (change job ≡ other)))
changed_cases [] n change m other e = absurd cc
changed_cases (j ∷ jobs) zero change zero other e = inr (refl, (j, refl, cc))
changed_cases (j ∷ jobs) zero change (suc m) other e = inl ((λ same. omega arith), e)
changed_cases (j ∷ jobs) (suc n) change zero other e = inl ((λ same. omega arith), e)
changed_cases (j ∷ jobs) (suc n) change (suc m) other e =
    elim (changed_cases jobs n change m other e) [
      | inl h ↦ inl ((λ same. h.0 (omega arith)), h.1)
      | inr h ↦ inr (ap suc h.0, h.1)
    ]

-- each job of the list is in the changed list, changed or not
pub changed_image : (jobs : List JobRecord) (n : ℕ) (change : JobRecord → JobRecord) (m : ℕ) (job : JobRecord) → slice_get jobs m ≡ Some job
    → ((m ≢ n) × (slice_get (changed_at jobs n change) m ≡ Some job))
    ⊎ ((m ≡ n) × (slice_get (changed_at jobs n change) m ≡ Some (change job)))
changed_image [] n change m job e = absurd cc
changed_image (j ∷ jobs) zero change zero job e = let same : j ≡ job = cc in inr (refl, ap (λ x. Some (change x)) same)
changed_image (j ∷ jobs) zero change (suc m) job e = inl ((λ same. omega arith), e)
changed_image (j ∷ jobs) (suc n) change zero job e = inl ((λ same. omega arith), e)
changed_image (j ∷ jobs) (suc n) change (suc m) job e =
    elim (changed_image jobs n change m job e) [
      | inl h ↦ inl ((λ same. h.0 (omega arith)), h.1)
      | inr h ↦ inr (ap suc h.0, h.1)
    ]

pub quiet_queues : (jobs : List JobRecord) (n : ℕ) (change : JobRecord → JobRecord) (clock : ℕ) (waiting : List WaitKey) (ready : List Key)
    → IsQuiet change → AreQueued jobs clock waiting ready → AreQueued (changed_at jobs n change) clock waiting ready
quiet_queues jobs n change clock waiting ready quiet q = record {
  waits = every (IsWaitingKey jobs) (IsWaitingKey (changed_at jobs n change))
      (λ k h. elim (changed_image jobs n change k.number h.job h.is_at) [
        | inl g ↦ moved_wait jobs (changed_at jobs n change) k h g.1
        | inr g ↦ record {
          job = change h.job;
          is_at = g.1;
          pending_is = ap is_pending (quiet.stage_is h.job)
              ∙ h.pending_is;
          release_is = h.release_is ∙ sym (quiet.release_is h.job);
        }
      ]) waiting q.waits;
  stands = every (IsReleasedKey jobs clock) (IsReleasedKey (changed_at jobs n change) clock)
      (λ k h. elim (changed_image jobs n change k.number h.job h.is_at) [
        | inl g ↦ moved_stand jobs (changed_at jobs n change) clock k h g.1
        | inr g ↦ record {
          job = change h.job;
          is_at = g.1;
          pending_is = ap is_pending (quiet.stage_is h.job)
              ∙ h.pending_is;
          due_is = h.due_is ∙ sym (quiet.due_is h.job);
          released = rw (quiet.release_is h.job) h.released;
        }
      ]) ready q.stands;
  each = λ m other at_m pending_m.
      elim (changed_cases jobs n change m other at_m) [
        | inl h ↦ q.each m other h.1 pending_m
        | inr h ↦
            let job : JobRecord = h.1.0 in
            let is : change job ≡ other = h.1.2 in
            let pending_job : is_pending job.stage ≡ true = ap is_pending (sym (quiet.stage_is job) ∙ ap (λ j. j.stage) is) ∙ pending_m in
            let release_same : release_key m job ≡ release_key m other = λ i. record
            { release = (sym (quiet.release_is job) ∙ ap (λ j. j.release) is) i; number = m } in
            let due_same : due_key m job ≡ due_key m other = λ i. record
            { due = (sym (quiet.due_is job) ∙ ap (λ j. j.due) is) i; number = m } in
            rw (sym release_same, sym due_same) (q.each m job h.1.1 pending_job)
      ];
  apart = q.apart;
}

-- The first is over

pub end_first : (jobs : List JobRecord) (n : ℕ) (change : JobRecord → JobRecord) (clock : ℕ) (waiting : List WaitKey) (k : Key)
    (ks : List Key)
    → k.number ≡ n
    → ((job : JobRecord) → is_pending (change job).stage ≡ false)
    → IsRising is_due_before (k ∷ ks)
    → AreQueued jobs clock waiting (k ∷ ks)
    → AreQueued (changed_at jobs n change) clock waiting ks
end_first jobs n change clock waiting k ks number_is over rising q =
    let first : IsReleasedKey jobs clock k = q.stands.0 in
    let wait_else = every (λ (w : WaitKey). AllByRecursion (λ (l : Key). w.number ≢ l.number) (k ∷ ks)) (λ (w : WaitKey). w.number ≢ n)
    (λ w h same. h.0 (same ∙ sym number_is)) waiting q.apart in
    let stand_else = both (λ later. is_due_before k later ≡ true) (IsReleasedKey jobs clock) (λ (l : Key). l.number ≢ n)
    (λ l before there same.
    let e : there.job ≡ first.job = same_at l.number k.number jobs there.job first.job (same ∙ sym number_is) there.is_at first.is_at in
    let f : k.due ≡ l.due = first.due_is ∙ ap (λ j. j.due) (sym e) ∙ sym there.due_is in
    let g : is_due_before k l ≡ false = not_due_before_same k l f (number_is ∙ sym same) in
    cc)
    ks rising.0 q.stands.1 in
    record {
      waits = both (λ (w : WaitKey). w.number ≢ n) (IsWaitingKey jobs) (IsWaitingKey (changed_at jobs n change))
          (λ w other h. moved_wait jobs (changed_at jobs n change) w h (changed_elsewhere jobs n change w.number other ∙ h.is_at)) waiting
          wait_else q.waits;
      stands = both (λ (l : Key). l.number ≢ n) (IsReleasedKey jobs clock) (IsReleasedKey (changed_at jobs n change) clock)
          (λ l other h. moved_stand jobs (changed_at jobs n change) clock l h (changed_elsewhere jobs n change l.number other ∙ h.is_at)) ks
          stand_else q.stands.1;
      each = λ m other at_m pending_m.
          elim (changed_cases jobs n change m other at_m) [
            | inl h ↦ elim (q.each m other h.1 pending_m) [
              | inl g ↦ inl g
              | inr (inl e) ↦ absurd (h.0 (sym (ap (λ (l : Key). l.number) e) ∙ number_is))
              | inr (inr g) ↦ inr g
            ]
            | inr h ↦ absurd (let e : is_pending other.stage ≡ false = ap (λ j. is_pending j.stage) (sym h.1.2) ∙ over h.1.0 in cc)
          ];
      apart = every (λ (w : WaitKey). AllByRecursion (λ (l : Key). w.number ≢ l.number) (k ∷ ks))
          (λ (w : WaitKey). AllByRecursion (λ (l : Key). w.number ≢ l.number) ks) (λ w h. h.1) waiting q.apart;
    }
