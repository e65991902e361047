-- Slots that carried least keys went to work that was due no later, while a job waited.
use Rattle.std.proofs.Common.{◌≡◌, ℕ, suc, ◌+◌, ◌-◌, ◌<◌, ◌≤◌, ◌&&◌, not, nat_le, Bool, true, false, cond, List, length, Some, None, option_map, is_some}
use Rattle.std.proofs.Common.{count_by, sum_by, arith, refl, sym, ap, subst, ◌∙◌, inl, inr}
use Rattle.std.proofs.lemmas.Bool.{true≢false, cases_lt, both_ways}
use Rattle.std.proofs.lemmas.Bool.Decides.{nat_tests}
use Rattle.std.proofs.lemmas.List.{length-map}
use Rattle.std.proofs.lemmas.List.Kept.{AllPairs-from_increasing}
use Rattle.late_cert.specs.declared.rows.JobRow.{JobRow}
use Rattle.late_cert.specs.Schedule.{Slots, slot_at, work_in}
use Rattle.late_cert.specs.Rows.{is_known, is_done_in, number_in, release_of, work_of}
use Rattle.late_cert.specs.Rows.{is_done as is_done_row}
use Rattle.late_cert.specs.Bound.{is_listed}
use Rattle.late_cert.specs.BusyInterval.{is_within, IsBusyInterval, CarriesLeastKeys, start_of, jobs_of}
use Rattle.late_cert.proofs.Counting.{is_one_of, count-jobs, sum-same}
use Rattle.late_cert.proofs.Binds.{listed-at}
use Rattle.late_cert.proofs.Keys.{within-true}
use Rattle.late_cert.proofs.Window.{count-window, busy_interval-is}
use Rattle.late_cert.proofs.Least.{busy_interval-key, busy_interval-released}
use Rattle.die_log.specs.Model.Log.{Log, Job, Carried, jobs, now, carried_slots, work, is_waived}
use Rattle.die_log.specs.Model.Work.{is_done, completion}
use Rattle.die_log.specs.Model.Rows.{rows, carried_numbers}
use Rattle.die_log.specs.Model.Start.{Start}
use Rattle.die_log.specs.Model.Answers.{IsExact}
use Rattle.die_log.specs.Model.Opening.{IsOpening}
use Rattle.die_log.specs.Results.Overdue.{IsOverload, ServesOneMore, NoneServesByThen, WaitsForTooMuch}
use Rattle.die_log.proofs.Least.Exact.{least_keys}
use Rattle.die_log.proofs.Least.Certificates.{row_stands}
use Rattle.die_log.proofs.Overload.Counts.{served-later}

-- In rows and slots

-- a job that waits was released in its busy interval up to the present slot
waits-within : (rows : List JobRow) (c : Slots) → CarriesLeastKeys rows c → (j start : ℕ) (jobs : List ℕ)
    → is_known rows j ≡ true → is_done_row rows j ≡ false → release_of rows j ≤ length c
    → IsBusyInterval rows c j start (length c) jobs → start ≤ release_of rows j
waits-within rows c h j start jobs known undone released s =
    elim (cases_lt (release_of rows j) start) [
      | inl early ↦
          let u : ℕ = start - 1 in
          let is : start ≡ suc u = omega arith in
          let ordered : start ≤ length c = s.ordered in
          let below : u < length c = omega arith in
          let within : is_within rows j (slot_at c u) ≡ true =
          h.least u j below known (omega arith) (λ done. absurd (both_ways (is_done_row rows j) undone done)) in
          absurd (both_ways (is_within rows j (slot_at c u)) (s.least u is) within)
      | inr late ↦ late
    ]

overloads : (rows : List JobRow) (c : Slots) → CarriesLeastKeys rows c → (j start : ℕ) (jobs : List ℕ)
    → is_known rows j ≡ true → is_done_row rows j ≡ false → release_of rows j ≤ length c
    → IsBusyInterval rows c j start (length c) jobs → IsOverload rows c j (length c) start jobs
overloads rows c h j start jobs known undone released s =
    let n : ℕ = length c in
    let from : (k : ℕ) → is_listed jobs k ≡ true → start ≤ release_of rows k =
    (λ k l. let q = (s.listed k).0 l in busy_interval-released rows c h j start n jobs s q.0 k q.1 q.2 q.3) in
    let carried : (t : ℕ) → start ≤ t → t < n → (k : ℕ) × (slot_at c t ≡ Some k) × (is_listed jobs k ≡ true) =
    (λ t a b.
    let w = within-true rows j (slot_at c t) (s.carries t a b) in
    (w.number, w.carries, (s.listed w.number).1 (t, a, b, w.carries))) in
    let works : (k : ℕ) → is_listed jobs k ≡ true → work_of rows k ≡ work_in c k =
    (λ k l. let q = (s.listed k).0 l in h.works k (h.known q.0 k q.3)) in
    let total : sum_by (work_of rows) jobs ≡ sum_by (work_in c) jobs = sum-same (work_of rows) (work_in c) jobs works in
    let counted : count_by (is_one_of jobs) c ≡ sum_by (work_in c) jobs = count-jobs jobs c (AllPairs-from_increasing jobs s.rising) in
    let window : count_by (is_one_of jobs) c + start ≡ n =
    count-window (is_one_of jobs) c start n s.ordered (omega arith)
    (λ t a b. let k = carried t a b in ap (is_one_of jobs) k.1 ∙ k.2)
    (λ t a l.
    let k = listed-at jobs (slot_at c t) l in
    let r : start ≤ release_of rows k.0 = from k.0 k.2 in
    let r' : release_of rows k.0 ≤ t = h.released t k.0 k.1 in
    (omega arith, a)) in
    record {
      own = waits-within rows c h j start jobs known undone released s;
      rising = s.rising;
      released = from;
      due_by = λ k l. let q = (s.listed k).0 l in (busy_interval-key rows c j q.0 k (s.carries q.0 q.1 q.2) q.3).deadlines;
      filled = carried;
      sum = omega (arith, total, counted, window);
    }

-- In logs

parts : (a b c : Bool) → ((a && not b) && not c) ≡ true → (a ≡ true) × (b ≡ false) × (c ≡ false)
parts true false false h = (refl, refl, refl)
parts true false true h = absurd (true≢false (sym h))
parts true true c h = absurd (true≢false (sym h))
parts false b c h = absurd (true≢false (sym h))

undone_row : (b : Bool) (j : Job) (n w : ℕ) → b ≡ false → is_done_in
    (Some (record { number = j.number; release = j.release; due = j.due; work = w; completion = cond b (Some n) None })) ≡ false
undone_row false j n w e = refl
undone_row true j n w e = absurd (true≢false e)

pub too_much : (start : Start) → IsOpening start → (log : Log) → IsExact start log → WaitsForTooMuch start.plan log
too_much start bound log exact j stands ready =
    let p = parts (nat_le j.release (now log)) (is_done start.plan log j) (is_waived log j.number) ready in
    let keys = least_keys start bound log exact in
    let all = rows start.plan log in
    let c = carried_numbers log in
    let row = row_stands start log j bound exact stands p.2 in
    let len : length c ≡ now log = length-map (carried_slots log) (λ (x : Carried). option_map (λ ran. ran.0) x) in
    let known : is_known all j.number ≡ true = ap {B = Bool} is_some row in
    let undone : is_done_row all j.number ≡ false =
    ap is_done_in row ∙ undone_row (is_done start.plan log j) j (completion j.number log) (work j.number log) p.1 in
    let release : release_of all j.number ≡ j.release = ap (number_in (λ r. r.release)) row in
    let early : j.release ≤ now log = grind (arith, nat_tests, p.0) in
    let from : ℕ = start_of all c j.number (length c) in
    let others : List ℕ = jobs_of all c from (length c) in
    let over : IsOverload all c j.number (length c) from others = overloads all c keys j.number from others known undone
    (omega (arith, release, early, len)) (busy_interval-is all c j.number (length c) keys.rising) in
    let binds = λ (f : Slots) (serves : ServesOneMore all j.number others f).
    served-later all f j.number from (length c) others
    (busy_interval-is all c j.number (length c) keys.rising).ordered over.rising over.own over.released over.sum serves in
    record {
      start = from;
      others = others;
      overload = subst (λ (n : ℕ). IsOverload all c j.number n from others) len over;
      binds = subst (λ (n : ℕ). NoneServesByThen all j.number n others) len binds;
    }
