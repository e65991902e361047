-- The first key of those that wait is that of the job that is released next.
use Rattle.std.proofs.Common.{◌≡◌, ℕ, ◌<◌, ◌≤◌, Bool, true, false, refl, sym, ap, ◌∙◌, arith, List, [], ◌∷◌, slice_get, Some}
use Rattle.std.proofs.Common.{None, option_map, inl, inr, subst}
use Rattle.std.proofs.lemmas.Bool.Decides.{nat_tests}
use Rattle.due_queue.specs.declared.keys.Key.{Key}
use Rattle.due_queue.specs.declared.keys.WaitKey.{WaitKey}
use Rattle.due_queue.specs.Queue.{IsRising, first_of}
use Rattle.due_queue.specs.Keys.{is_released_before}
use Rattle.job_table.specs.Jobs.{JobRecord, is_pending}
use Rattle.job_table.specs.Table.{Table}
use Rattle.job_table.specs.Order.{is_waiting, due_key, release_key, IsNextReleased, NothingWaiting}
use Rattle.job_table.specs.QueuedKeys.{IsAmong, IsReleasedKey, IsWaitingKey, AreQueued, AreLater}
use Rattle.job_table.proofs.Members.{at_member}
use Rattle.job_table.proofs.Orders.{release_strict, not_before_same}

waiting_later : (clock : ℕ) (job : JobRecord) → is_waiting clock job ≡ true → clock < job.release
waiting_later clock job h = grind (arith, nat_tests)

waiting_pending : (clock : ℕ) (job : JobRecord) → is_waiting clock job ≡ true → is_pending job.stage ≡ true
waiting_pending clock job h = grind (arith, nat_tests)

waiting_by : (clock : ℕ) (job : JobRecord) → clock < job.release → is_pending job.stage ≡ true → is_waiting clock job ≡ true
waiting_by clock job h g = grind (arith, nat_tests)

-- a released key is not later than the clock
standing_released : (jobs : List JobRecord) (clock n : ℕ) (job : JobRecord) (k : Key) → slice_get jobs n ≡ Some job → k ≡ due_key n job
    → IsReleasedKey jobs clock k → job.release ≤ clock
standing_released jobs clock n job k at_n key_is s =
    let same : job ≡ s.job = same_some job s.job (sym at_n ∙ (ap (λ (l : Key). slice_get jobs l.number) (sym key_is) ∙ s.is_at)) in
    rw same s.released
  where
    same_some : (x y : JobRecord) → Some x ≡ Some y → x ≡ y
    same_some x y e = cc

-- a job that waits has its key among those that wait
waiting_among : (table : Table) (waiting : List WaitKey) (ready : List Key) → AreQueued table.jobs table.clock waiting ready
    → (n : ℕ) (job : JobRecord) → slice_get table.jobs n ≡ Some job → is_waiting table.clock job ≡ true
    → IsAmong (release_key n job) waiting
waiting_among table waiting ready q n job at_n waits_n =
    elim (q.each n job at_n (waiting_pending table.clock job waits_n)) [
      | inl h ↦ h
      | inr h ↦
          absurd (let s = at_member (IsReleasedKey table.jobs table.clock) (due_key n job) ready q.stands h in
          let le = standing_released table.jobs table.clock n job (due_key n job) at_n refl s in
          let lt = waiting_later table.clock job waits_n in omega arith)
    ]

pub first_is_next : (table : Table) (k : WaitKey) (ks : List WaitKey) (ready : List Key) → AreQueued table.jobs table.clock (k ∷ ks) ready
    → AreLater table.clock (k ∷ ks) → IsRising is_released_before (k ∷ ks) → IsNextReleased table k.number
first_is_next table k ks ready q later rising =
    let first : IsWaitingKey table.jobs k = q.waits.0 in
    let key_is : k ≡ release_key k.number first.job = λ i. record { release = first.release_is i; number = k.number } in
    record {
      job = first.job;
      is_at = first.is_at;
      waits = waiting_by table.clock first.job (subst (λ r. table.clock < r) first.release_is later.0) first.pending_is;
      first = λ m other at_m waits_m.
          ap (λ l. is_released_before (release_key m other) l) (sym key_is)
          ∙ elim (waiting_among table (k ∷ ks) ready q m other at_m waits_m) as (λ v. is_released_before (release_key m other) k ≡ false) [
            | inl e ↦ ap (λ l. is_released_before l k) (sym e) ∙ not_before_same k k refl refl
            | inr h ↦ release_strict.one_way k (release_key m other)
                (at_member (λ later. is_released_before k later ≡ true) (release_key m other) ks rising.0 h)
          ];
    }

none_waits : (table : Table) (ready : List Key) → AreQueued table.jobs table.clock [] ready → NothingWaiting table
none_waits table ready q n job at_n = by (is_waiting table.clock job) refl
  where
    by : (b : Bool) → is_waiting table.clock job ≡ b → is_waiting table.clock job ≡ false
    by true e = absurd (waiting_among table [] ready q n job at_n e)
    by false e = e

pub number_is_next : (table : Table) (waiting : List WaitKey) (ready : List Key) (n : ℕ) → AreQueued table.jobs table.clock waiting ready
    → AreLater table.clock waiting → IsRising is_released_before waiting
    → Some n ≡ option_map (λ (k : WaitKey). k.number) (first_of waiting) → IsNextReleased table n
number_is_next table [] ready n q later rising e = absurd cc
number_is_next table (k ∷ ks) ready n q later rising e = let same : n ≡ k.number = cc in
    rw same (first_is_next table k ks ready q later rising)

pub no_number_waits : (table : Table) (waiting : List WaitKey) (ready : List Key) → AreQueued table.jobs table.clock waiting ready
    → None ≡ option_map (λ (k : WaitKey). k.number) (first_of waiting) → NothingWaiting table
no_number_waits table [] ready q e = none_waits table ready q
no_number_waits table (k ∷ ks) ready q e = absurd cc
