-- Were a job late, each slot from some one on up to its deadline would be needed for what was released in these slots and
-- is due in them; where each window has room for that, none is.
use Rattle.std.proofs.Common.{◌≡◌, ℕ, suc, ◌-◌, ◌<◌, ◌≤◌, ◌==◌, ◌&&◌, nat_le, Bool, true, false, cond, List, [], ◌∷◌, length, take}
use Rattle.std.proofs.Common.{Option, Some, None, is_some, unwrap_or, option_map, count_by, refl, sym, ap, subst, ◌∙◌, inl, inr, arith}
use Rattle.std.proofs.Common.{slice_get, pos, ◌-ℤ◌, ◌≤ℤ◌}
use Rattle.std.specs.Prelude.{Contains}
use Rattle.std.specs.List.{AllByRecursion}
use Rattle.std.proofs.lemmas.Bool.{true≢false, cases_Bool, cases_lt, both_ways, and_from, eqb-false, le-leb, eq-eqb}
use Rattle.std.proofs.lemmas.Int.{ints}
use Rattle.std.proofs.lemmas.List.{length-map}
use Rattle.std.proofs.lemmas.List.Sums.{sum_by-take-le}
use Rattle.slot_types.specs.declared.plans.DiePlan.{DiePlan}
use Rattle.slot_types.specs.declared.acts.Act.{Act}
use Rattle.plan_rules.specs.Times.{collection_work}
use Rattle.late_cert.specs.Schedule.{slot_at, is_named, work_in, completion_in}
use Rattle.late_cert.specs.Rows.{row_of, number_in, is_done_in, is_known, release_of, due_of, completion_of}
use Rattle.late_cert.specs.Rows as of_rows
use Rattle.late_cert.specs.BusyInterval.{is_within, IsBusyInterval, CarriesLeastKeys, start_of, jobs_of}
use Rattle.late_cert.proofs.Counting.{slot-at-end}
use Rattle.late_cert.proofs.Binds.{end-le-length}
use Rattle.late_cert.proofs.Keys.{within-true, named-some}
use Rattle.late_cert.proofs.Window.{busy_interval-is}
use Rattle.late_cert.proofs.Least.{busy_interval-carries}
use Rattle.die_log.specs.Model.Log.{Log, Job, jobs, carried_slots, now, acts, work, is_waived}
use Rattle.die_log.specs.Model.Work.{is_erase, are_all, is_done, completion}
use Rattle.die_log.specs.Model.Answers.{IsExact}
use Rattle.die_log.specs.Model.Rows.{row_for, rows, carried_numbers}
use Rattle.die_log.specs.Results.InTime.{IsInTime}
use Rattle.die_log.proofs.LogInvariants.OneMoreEntry.{contained, any_contained, number_at}
use Rattle.die_log.proofs.Legal.Exact.{stands_well}
use Rattle.die_log.proofs.Least.Lookups.{row_in, row_at}
use Rattle.die_log.proofs.Least.Exact.{least_keys}
use Rattle.die_log.proofs.Least.Certificates.{row_stands, done_unwaived}
use Rattle.die_log.proofs.Bounds.Exact.{are_bounded, bounded_work}
use Rattle.die_log.proofs.Planned.Carrying.{filled, one_after, carries_one, count_carried, sum_by_less, work_carried}
use Rattle.die_log.specs.Model.Start.{Start}
use Rattle.die_log.specs.Model.Opening.{IsOpening}
use Rattle.die_log.specs.Results.Windows.{is_in_window, slots_of, asked_of, HasRoom}

-- Work

-- the numbers of an unfinished job or collection
unfinished_job : (plan : DiePlan) (j : Job) (own : List Act) → j.collects ≡ false → are_all plan j own ≡ false
    → (length own == length j.ops) ≡ false
unfinished_job plan j own kind h = subst (λ b. cond b (count_by is_erase own == plan.shape.erase_slots) (length own == length j.ops)
    ≡ false) kind h

unfinished_collection : (start : Start) (j : Job) (own : List Act) → j.collects ≡ true → are_all start.plan j own ≡ false
    → (count_by is_erase own == start.plan.shape.erase_slots) ≡ false
unfinished_collection start j own kind h = subst (λ b. cond b (count_by is_erase own == start.plan.shape.erase_slots) (length own == length j.ops)
    ≡ false) kind h

module _ (start : Start) (log : Log) (bound : IsOpening start) (exact : IsExact start log) where
  abbrev most_is : (j : Job) (b : Bool) → j.collects ≡ b → slots_of start.plan j ≡ cond b (collection_work start.plan) (length j.ops)
  most_is j b kind = ap (λ c. cond c (collection_work start.plan) (length j.ops)) kind

  -- nothing takes more slots than its own operations, or the most of a collection
  few_slots : (j : Job) → Contains (jobs log) j → work j.number log ≤ slots_of start.plan j
  few_slots j stands = elim (cases_Bool j.collects) [
    | inl kind ↦ omega (arith, most_is j true kind, bounded_work start bound log exact j stands kind)
    | inr kind ↦ omega (arith, most_is j false kind, ((stands_well start bound log exact).0.of_jobs j stands kind).within)
  ]

  -- and what isn't done took fewer
  fewer_slots : (j : Job) → Contains (jobs log) j → is_done start.plan log j ≡ false → work j.number log < slots_of start.plan j
  fewer_slots j stands undone = elim (cases_Bool j.collects) [
    | inl kind ↦ (
        let h = are_bounded start bound log exact j stands kind in
        let left : count_by is_erase (acts j.number log)
        < start.plan.shape.erase_slots = unequal (count_by is_erase (acts j.number log)) start.plan.shape.erase_slots h.erases
        (unfinished_collection start j (acts j.number log) kind undone) in
        omega (arith, most_is j true kind, h.copies, h.reads, h.total, left))
    | inr kind ↦ (
        let within = ((stands_well start bound log exact).0.of_jobs j stands kind).within in
        let left : work j.number log < length j.ops = unequal (work j.number log) (length j.ops) within
        (unfinished_job start.plan j (acts j.number log) kind undone) in
        omega (arith, most_is j false kind, left))
  ]
    where
      unequal : (a b : ℕ) → a ≤ b → (a == b) ≡ false → a < b
      unequal a b le apart = elim (cases_lt a b) [ inl less ↦ less | inr more ↦ absurd (eqb-false a b apart (omega (arith, le, more))) ]

-- Rows

-- the job of a row
record IsRowOf (plan : DiePlan) (log : Log) (k : ℕ) : Type 0 where
  job : Job
  stands : Contains (jobs log) job
  number : job.number ≡ k
  row : row_of (rows plan log) k ≡ Some (row_for plan log job)

row_by : (plan : DiePlan) (log : Log) (k : ℕ) (o : Option Job) (gone : Bool) → slice_get (jobs log) k ≡ o
    → ((i : Job) → o ≡ Some i → i.number ≡ k)
    → row_of (rows plan log) k ≡ row_in (row_for plan log) gone o → is_known (rows plan log) k ≡ true → IsRowOf plan log k
row_by plan log k None gone at numbered row known = absurd (true≢false (sym known ∙ ap is_some row))
row_by plan log k (Some i) true at numbered row known = absurd (true≢false (sym known ∙ ap is_some row))
row_by plan log k (Some i) false at numbered row known = record
    { job = i; stands = contained (jobs log) k i at; number = numbered i refl; row = row }

job_of_row : (start : Start) (log : Log) (k : ℕ) → IsOpening start → IsExact start log → is_known (rows start.plan log) k ≡ true
    → IsRowOf start.plan log k
job_of_row start log k bound exact known =
    let numbered = (stands_well start bound log exact).0.numbered in
    row_by start.plan log k (slice_get (jobs log) k) (is_waived log k) refl (λ i at. omega (arith, number_at 0 (jobs log) k i numbered at))
    (row_at (row_for start.plan log) (is_waived log) (jobs log) k (λ i. refl) numbered) known

completion_if : (b : Bool) (n : ℕ) → b ≡ true → unwrap_or (cond b (Some n) None) 0 ≡ n
completion_if true n e = refl
completion_if false n e = absurd (true≢false (sym e))

done_if : (b : Bool) (n : ℕ) → is_some (cond b (Some n) None) ≡ b
done_if true n = refl
done_if false n = refl

-- A late job

-- a job or collection that wasn't waived, is due by now, and isn't done by its deadline
record IsLate (start : Start) (log : Log) (j : Job) : Type 0 where
  stands : Contains (jobs log) j
  unwaived : is_waived log j.number ≡ false
  due_by_now : j.due ≤ now log
  beyond : is_done start.plan log j ≡ true → j.due < completion j.number log

module _ (start : Start) (log : Log) (bound : IsOpening start) (exact : IsExact start log) (j : Job) (late : IsLate start log j) where
  keys : CarriesLeastKeys (rows start.plan log) (carried_numbers log)
  keys = least_keys start bound log exact

  long_enough : j.due ≤ length (carried_numbers log)
  long_enough = omega (arith, late.due_by_now, length-map (carried_slots log) (λ c. option_map (λ ran. ran.0) c))

  row : row_of (rows start.plan log) j.number ≡ Some (row_for start.plan log j)
  row = row_stands start log j bound exact late.stands late.unwaived

  due_is : due_of (rows start.plan log) j.number ≡ j.due
  due_is = ap (number_in (λ r. r.due)) row

  release_is : release_of (rows start.plan log) j.number ≡ j.release
  release_is = ap (number_in (λ r. r.release)) row

  done_is : of_rows.is_done (rows start.plan log) j.number ≡ is_done start.plan log j
  done_is = ap is_done_in row ∙ done_if (is_done start.plan log j) (completion j.number log)

  completion_is : is_done start.plan log j ≡ true → completion_of (rows start.plan log) j.number ≡ completion j.number log
  completion_is done = ap (number_in (λ r. unwrap_or r.completion 0)) row
      ∙ completion_if (is_done start.plan log j) (completion j.number log) done

  -- the slots before the deadline that carried nothing but keys up to that of the job
  abbrev since : ℕ
  since = start_of (rows start.plan log) (carried_numbers log) j.number j.due

  busy_interval : IsBusyInterval (rows start.plan log) (carried_numbers log) j.number since j.due (jobs_of (rows start.plan log) (carried_numbers log) since j.due)
  busy_interval = busy_interval-is (rows start.plan log) (carried_numbers log) j.number j.due keys.rising

  -- from the release on the job itself waited
  from_release : since ≤ j.release
  from_release = elim (cases_lt j.release since) [
    | inl after ↦ (
        let before : ℕ = since - 1 in
        let is : since ≡ suc before = omega (arith, after) in
        let ordered : since ≤ j.due = busy_interval.ordered in
        let waits : is_within (rows start.plan log) j.number (slot_at (carried_numbers log) before) ≡ true =
        keys.least before j.number (omega (arith, is, ordered, long_enough)) (ap is_some row) (omega (arith, release_is, after, is))
        (λ done. (let done_then : is_done start.plan log j ≡ true = sym done_is
        ∙ done in omega (arith, completion_is done_then, late.beyond done_then, is, ordered))) in
        absurd (both_ways (is_within (rows start.plan log) j.number (slot_at (carried_numbers log) before)) (busy_interval.least before is) waits))
    | inr not_after ↦ not_after
  ]

  -- each slot of the busy interval carried what was released in it and is due by then
  each_slot : (t : ℕ) → since ≤ t → t < j.due → carries_one (is_in_window since j.due) (jobs log) (slot_at (carried_numbers log) t) ≡ true
  each_slot t from below =
      let w = within-true (rows start.plan log) j.number (slot_at (carried_numbers log) t) (busy_interval.carries t from below) in
      let inside = busy_interval-carries (rows start.plan log) (carried_numbers log) keys j.number since j.due
      (jobs_of (rows start.plan log) (carried_numbers log) since j.due) busy_interval t w.number from below w.carries in
      let i = job_of_row start log w.number bound exact w.known in
      let released : since ≤ i.job.release = omega (arith, inside.0, ap (number_in (λ r. r.release)) i.row) in
      let due_by : i.job.due ≤ j.due = omega (arith, inside.1, ap (number_in (λ r. r.due)) i.row, due_is) in
      any_contained (λ k. is_in_window since j.due k && is_named k.number (slot_at (carried_numbers log) t)) (jobs log) i.job i.stands
      (and_from (is_in_window since j.due i.job) (is_named i.job.number (slot_at (carried_numbers log) t))
      (and_from (nat_le since i.job.release) (nat_le i.job.due j.due) (le-leb since i.job.release released) (le-leb i.job.due j.due due_by))
      (ap (is_named i.job.number) w.carries ∙ eq-eqb i.job.number w.number i.number))

  -- the slots that a job or collection had before the deadline
  abbrev had : Job → ℕ
  had i = work_in (take j.due (carried_numbers log)) i.number

  had_within : (i : Job) → had i ≤ work i.number log
  had_within i = omega (arith, sum_by-take-le (λ o. cond (is_named i.number o) 1 0) (carried_numbers log) j.due, work_carried i.number log)

  -- the job itself had fewer slots before its deadline than it may take
  missed : had j < slots_of start.plan j
  missed = elim (cases_Bool (is_done start.plan log j)) [
    | inl done ↦ (
        let ends : completion_in (carried_numbers log) j.number
        ≡ completion j.number log = omega (arith, keys.completes j.number (done_is ∙ done), completion_is done) in
        let last : ℕ = completion_in (carried_numbers log) j.number - 1 in
        let is : completion_in (carried_numbers log) j.number ≡ suc last = omega (arith, ends, late.beyond done) in
        let carries = named-some j.number (slot_at (carried_numbers log) last)
        (slot-at-end (is_named j.number) (carried_numbers log) last is) in
        let fewer : had j < work_in (carried_numbers log) j.number = one_after j.number (carried_numbers log) j.due last
        (omega (arith, is, ends, late.beyond done)) carries in
        omega (arith, fewer, work_carried j.number log, few_slots start log bound exact j late.stands))
    | inr undone ↦ omega (arith, had_within j, fewer_slots start log bound exact j late.stands undone)
  ]

  each_asked : AllByRecursion (λ i. cond (is_in_window since j.due i) (had i) 0 ≤ asked_of start.plan since j.due i) (jobs log)
  each_asked = all_contained (jobs log) (λ i stands. if_inside (is_in_window since j.due i) (had i) (slots_of start.plan i)
      (omega (arith, had_within i, few_slots start log bound exact i stands)))
    where
      if_inside : (b : Bool) (n m : ℕ) → n ≤ m → cond b n 0 ≤ cond b m 0
      if_inside true n m le = le
      if_inside false n m le = omega arith

      all_contained : {P : Job → Type 0} (js : List Job) → ((i : Job) → Contains js i → P i) → AllByRecursion P js
      all_contained [] h = tt
      all_contained (i ∷ js) h = (h i (0, omega arith, refl), all_contained js (λ k c. h k (suc c.0, omega (arith, c.1), c.2)))

  own_window : is_in_window since j.due j ≡ true
  own_window = and_from (nat_le since j.release) (nat_le j.due j.due) (le-leb since j.release from_release)
      (le-leb j.due j.due (omega arith))

  -- so all that the window was asked for is more than it has
  too_much : HasRoom start.plan log → ⊥
  too_much room =
      let full = filled (carries_one (is_in_window since j.due) (jobs log)) (carried_numbers log) since j.due long_enough each_slot in
      let counted = count_carried (is_in_window since j.due) (jobs log) (take j.due (carried_numbers log)) in
      let ordered : since ≤ j.due = busy_interval.ordered in
      let own : cond (is_in_window since j.due j) (had j) 0
      < asked_of start.plan since j.due j = if_own (is_in_window since j.due j) (had j) (slots_of start.plan j) own_window missed in
      let less = sum_by_less (λ i. cond (is_in_window since j.due i) (had i) 0) (asked_of start.plan since j.due) (jobs log) j late.stands
      each_asked own in
      omega (arith, full, counted, ordered, less, room since j.due ordered late.due_by_now)
    where
      if_own : (b : Bool) (n m : ℕ) → b ≡ true → n < m → cond b n 0 < cond b m 0
      if_own true n m e lt = lt
      if_own false n m e lt = absurd (true≢false (sym e))

-- Logs

none_late : (start : Start) (log : Log) → IsOpening start → IsExact start log → HasRoom start.plan log → (j : Job) → IsLate start log j → ⊥
none_late start log bound exact room j late = too_much start log bound exact j late room

ended_by_now : (start : Start) (log : Log) (j : Job) → IsOpening start → IsExact start log → Contains (jobs log) j → is_done start.plan log j
    ≡ true → completion j.number log ≤ now log
ended_by_now start log j bound exact stands done =
    let keys = least_keys start bound log exact in
    let row = row_stands start log j bound exact stands (done_unwaived start log j bound exact stands done) in
    let done_row : of_rows.is_done (rows start.plan log) j.number ≡ true = ap is_done_in row
    ∙ (done_if (is_done start.plan log j) (completion j.number log) ∙ done) in
    let is : completion_of (rows start.plan log) j.number ≡ completion j.number log = ap (number_in (λ r. unwrap_or r.completion 0)) row
    ∙ completion_if (is_done start.plan log j) (completion j.number log) done in
    omega (
      arith,
      is,
      keys.completes j.number done_row,
      end-le-length (is_named j.number) (carried_numbers log),
      length-map (carried_slots log)
          (λ c. option_map (λ ran. ran.0) c),
    )

not_late : (c d : ℕ) → c ≤ d → (pos c -ℤ pos d) ≤ℤ pos 0
not_late c d h = omega (arith, ints)

-- a log each window of which has room is in time
pub in_time : (start : Start) (log : Log) → IsOpening start → IsExact start log → HasRoom start.plan log → IsInTime start.plan log
in_time start log bound exact room = record {
  due_by_now = λ j stands due. elim (cases_Bool (is_waived log j.number)) [
    | inl gone ↦ inr gone
    | inr unwaived ↦ elim (cases_Bool (is_done start.plan log j)) [
      | inl done ↦ inl done
      | inr undone ↦ absurd (none_late start log bound exact room j
          (record { stands = stands; unwaived = unwaived; due_by_now = due; beyond = λ done. absurd (true≢false (sym done ∙ undone)) }))
    ]
  ];
  never_late = λ j stands done. not_late (completion j.number log) j.due (elim (cases_lt j.due (completion j.number log)) [
    | inl late ↦ absurd (none_late start log bound exact room j
        (record {
          stands = stands;
          unwaived = done_unwaived start log j bound exact stands done;
          due_by_now = omega (arith, late, ended_by_now start log j bound exact stands done);
          beyond = λ same. late;
        }))
    | inr soon ↦ omega (arith, soon)
  ]);
}
