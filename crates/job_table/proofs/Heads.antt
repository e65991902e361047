-- The first of the queue is the head, and the head is the first of the queue.
use Rattle.std.proofs.Common.{◌≡◌, ℕ, ◌<◌, ◌≤◌, Bool, true, false, refl, sym, ap, ◌∙◌, arith, ◌&&◌, nat_le, List, [], ◌∷◌, slice_get, Some}
use Rattle.std.proofs.Common.{None, option_map, inl, inr}
use Rattle.std.proofs.lemmas.Bool.Decides.{nat_tests}
use Rattle.due_queue.specs.declared.keys.Key.{Key}
use Rattle.due_queue.specs.declared.keys.WaitKey.{WaitKey}
use Rattle.due_queue.specs.Queue.{IsRising, first_of}
use Rattle.due_queue.specs.Keys.{is_due_before}
use Rattle.job_table.specs.Jobs.{JobRecord, is_pending}
use Rattle.job_table.specs.Table.{Table, changed_at}
use Rattle.job_table.specs.Order.{is_ready, due_key, goes_before, IsHead, NothingReady}
use Rattle.job_table.specs.QueuedKeys.{IsAmong, IsReleasedKey, AreQueued, AreLater}
use Rattle.job_table.specs.Order.{release_key}
use Rattle.job_table.proofs.Changed.{changed_here}
use Rattle.job_table.proofs.Keyed.{IsQuiet, changed_cases}
use Rattle.job_table.proofs.Members.{at_member}
use Rattle.job_table.proofs.Orders.{due_strict, due_irreflexive}

pub ready_released : (clock : ℕ) (job : JobRecord) → is_ready clock job ≡ true → job.release ≤ clock
ready_released clock job h = grind (arith, nat_tests)

pub ready_pending : (clock : ℕ) (job : JobRecord) → is_ready clock job ≡ true → is_pending job.stage ≡ true
ready_pending clock job h = grind (arith, nat_tests)

pub ready_by : (clock : ℕ) (job : JobRecord) → job.release ≤ clock → is_pending job.stage ≡ true → is_ready clock job ≡ true
ready_by clock job h g = grind (arith, nat_tests)

-- a ready job has its key among the released ones
pub ready_among : (table : Table) (waiting : List WaitKey) (ready : List Key) → AreQueued table.jobs table.clock waiting ready
    → AreLater table.clock waiting
    → (n : ℕ) (job : JobRecord) → slice_get table.jobs n ≡ Some job → is_ready table.clock job ≡ true → IsAmong (due_key n job) ready
ready_among table waiting ready q later n job at_n ready_n =
    elim (q.each n job at_n (ready_pending table.clock job ready_n)) [
      | inl h ↦
          absurd (let lt : table.clock < job.release = at_member (λ (w : WaitKey). table.clock < w.release) (release_key n job) waiting
          later h in
          let le = ready_released table.clock job ready_n in omega arith)
      | inr h ↦ h
    ]

pub first_is_head : (table : Table) (waiting : List WaitKey) (k : Key) (ks : List Key) → AreQueued table.jobs table.clock waiting (k ∷ ks)
    → AreLater table.clock waiting → IsRising is_due_before (k ∷ ks) → IsHead table k.number
first_is_head table waiting k ks q later rising =
    let first : IsReleasedKey table.jobs table.clock k = q.stands.0 in
    let key_is : k ≡ due_key k.number first.job = λ i. record { due = first.due_is i; number = k.number } in
    record {
      head = first.job;
      is_at = first.is_at;
      ready = ready_by table.clock first.job first.released first.pending_is;
      first = λ m other at_m ready_m.
          ap (λ l. is_due_before (due_key m other) l) (sym key_is)
          ∙ elim (ready_among table waiting (k ∷ ks) q later m other at_m ready_m) as (λ v. is_due_before (due_key m other) k ≡ false) [
            | inl e ↦ ap (λ l. is_due_before l k) (sym e) ∙ due_irreflexive k
            | inr h ↦ due_strict.one_way k (due_key m other)
                (at_member (λ later. is_due_before k later ≡ true) (due_key m other) ks rising.0 h)
          ];
    }

pub none_ready : (table : Table) (waiting : List WaitKey) → AreQueued table.jobs table.clock waiting [] → AreLater table.clock waiting
    → NothingReady table
none_ready table waiting q later n job at_n = by (is_ready table.clock job) refl
  where
    by : (b : Bool) → is_ready table.clock job ≡ b → is_ready table.clock job ≡ false
    by true e = absurd (ready_among table waiting [] q later n job at_n e)
    by false e = e

-- the number that the queue answers, if it does, is the head's
pub number_is_head : (table : Table) (waiting : List WaitKey) (ready : List Key) (n : ℕ) → AreQueued table.jobs table.clock waiting ready
    → AreLater table.clock waiting → IsRising is_due_before ready
    → Some n ≡ option_map (λ (k : Key). k.number) (first_of ready) → IsHead table n
number_is_head table waiting [] n q later rising e = absurd cc
number_is_head table waiting (k ∷ ks) n q later rising e = let same : n
    ≡ k.number = cc in rw same (first_is_head table waiting k ks q later rising)

pub no_number_ready : (table : Table) (waiting : List WaitKey) (ready : List Key) → AreQueued table.jobs table.clock waiting ready
    → AreLater table.clock waiting
    → None ≡ option_map (λ (k : Key). k.number) (first_of ready) → NothingReady table
no_number_ready table waiting [] q later e = none_ready table waiting q later
no_number_ready table waiting (k ∷ ks) q later e = absurd cc

-- the queue begins with the head
pub record BeginsWith (number : ℕ) (ready : List Key) : Type 0 where
  pub first : Key
  pub rest : List Key
  pub ready_is : ready ≡ first ∷ rest
  pub number_is : first.number ≡ number

pub head_is_first : (table : Table) (waiting : List WaitKey) (ready : List Key) (n : ℕ) → AreQueued table.jobs table.clock waiting ready
    → AreLater table.clock waiting → IsRising is_due_before ready → IsHead table n → BeginsWith n ready
head_is_first table waiting [] n q later rising head = absurd (ready_among table waiting [] q later n head.head head.is_at head.ready)
head_is_first table waiting (k ∷ ks) n q later rising head =
    let first : IsReleasedKey table.jobs table.clock k = q.stands.0 in
    let key_is : k ≡ due_key k.number first.job = λ i. record { due = first.due_is i; number = k.number } in
    let before : goes_before k.number first.job n head.head
    ≡ false = head.first k.number first.job first.is_at (ready_by table.clock first.job first.released first.pending_is) in
    record {
      first = k;
      rest = ks;
      ready_is = refl;
      number_is = elim (ready_among table waiting (k ∷ ks) q later n head.head head.is_at head.ready) [
        | inl e ↦ ap (λ (l : Key). l.number) e
        | inr h ↦ absurd (
            let e = at_member (λ later. is_due_before k later ≡ true) (due_key n head.head) ks rising.0 h in
            let f : is_due_before k (due_key n head.head)
            ≡ is_due_before (due_key k.number first.job) (due_key n head.head) = ap (λ l. is_due_before l (due_key n head.head)) key_is
            in
            cc)
      ];
    }

-- a head stays the head where its work goes on
pub head_goes_on : (table : Table) (n : ℕ) (change : JobRecord → JobRecord) → IsQuiet change → IsHead table n
    → IsHead (record table { jobs = changed_at table.jobs n change }) n
head_goes_on table n change quiet head =
    let ready_same : (job : JobRecord) → is_ready table.clock (change job)
    ≡ is_ready table.clock job = λ job. ap (λ r. nat_le r table.clock && is_pending (change job).stage) (quiet.release_is job)
    ∙ ap (λ s. nat_le job.release table.clock && is_pending s) (quiet.stage_is job) in
    let key_same : (m : ℕ) (job : JobRecord) → due_key m (change job)
    ≡ due_key m job = λ m job i. record { due = quiet.due_is job i; number = m } in
    record {
      head = change head.head;
      is_at = changed_here table.jobs n change ∙ ap (λ o. option_map change o) head.is_at;
      ready = ready_same head.head ∙ head.ready;
      first = λ m other at_m ready_m.
          elim (changed_cases table.jobs n change m other at_m) [
            | inl h ↦ ap (λ k. is_due_before (due_key m other) k) (key_same n head.head) ∙ head.first m other h.1 ready_m
            | inr h ↦
                ap (λ k. is_due_before (due_key m other) k) (key_same n head.head)
                ∙ ap (λ k. is_due_before k (due_key n head.head)) (ap (due_key m) (sym h.1.2) ∙ key_same m h.1.0)
                ∙ head.first m h.1.0 h.1.1 (sym (ready_same h.1.0) ∙ ap (is_ready table.clock) h.1.2 ∙ ready_m)
          ];
    }
