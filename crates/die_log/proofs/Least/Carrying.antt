-- A slot carries the least key of those that then wait, and changes one row.
use Rattle.std.proofs.Common.{◌≡◌, ℕ, ◌+◌, ◌≤◌, ◌==◌, ◌||◌, ◌&&◌, nat_lt, nat_le, not, Bool, true, false, cond, List, [], ◌∷◌, ◌++◌, length}
use Rattle.std.proofs.Common.{map, Option, Some, None, is_some, unwrap_or, option_map, refl, ap, sym, subst, ◌∙◌, inl, inr, arith}
use Rattle.std.proofs.Common.{slice_get}
use Rattle.std.specs.Prelude.{Contains}
use Rattle.std.proofs.lemmas.Bool.{true≢false, cases_eq, ne_eqb, and_parts, and_from, not-true, not_from_false, leb-true, le-leb, or_parts}
use Rattle.std.proofs.lemmas.Bool.Decides.{nat_tests}
use Rattle.std.proofs.lemmas.List.{length-map, length_push, map-append}
use Rattle.std.proofs.lemmas.List.Folds.{list_any-append}
use Rattle.slot_types.specs.declared.plans.DiePlan.{DiePlan}
use Rattle.slot_types.specs.declared.acts.Act.{Act}
use Rattle.slot_types.specs.declared.replies.Waived.{Waived}
use Rattle.slot_types.specs.declared.replies.Entry.{Entry}
use Rattle.late_cert.specs.declared.rows.JobRow.{JobRow}
use Rattle.late_cert.specs.Rows.{row_of, number_in, is_done_in, is_known, is_done, release_of, due_of}
use Rattle.late_cert.specs.BusyInterval.{is_within, key_at_most}
use Rattle.late_cert.specs.Moments.{CarriesSlot}
use Rattle.die_log.specs.Model.Log.{Log, Job, Carried, jobs, carried_slots, now, waived_collections, act_of, acts, is_waived}
use Rattle.die_log.specs.Model.Flash.{ran_by}
use Rattle.die_log.specs.Model.Work.{are_all, is_ready, goes_first, completion}
use Rattle.die_log.specs.Model.Work as status
use Rattle.die_log.specs.Results.Legal.{is_among, NothingWaits}
use Rattle.die_log.specs.Invariants.RunningCollections.{AreNumbered}
use Rattle.die_log.specs.Model.Rows.{row_for, rows, carried_numbers}
use Rattle.die_log.proofs.LogInvariants.OneMoreEntry.{act_own, act_other, acts_stay, acts_grow, contained, number_at}
use Rattle.die_log.proofs.Tokens.Waivers.{Waits}
use Rattle.die_log.proofs.Tokens.Slots.{slot_entry}
use Rattle.die_log.proofs.Least.Lookups.{rows_by, row_in, rows_rise, row_at}
use Rattle.die_log.proofs.Least.Steps.{IsCarried, carries_by}

-- Rows before and after a slot

-- a row by the acts and the completion of its job
abbrev row_of_acts : DiePlan → Job → List Act → ℕ → JobRow
row_of_acts plan i own ends = record {
  number = i.number;
  release = i.release;
  due = i.due;
  work = length own;
  completion = cond
      (are_all plan i own) (Some ends) None;
}

-- what was not carried keeps its row
same_row : (plan : DiePlan) (e : Entry) (past : Log) (i : Job) → act_of i.number (ran_by e.reply) ≡ None → row_for plan (e ∷ past) i
    ≡ row_for plan past i
same_row plan e past i none =
    ap (λ own. row_of_acts plan i own (completion i.number (e ∷ past))) (acts_stay i.number e past none)
    ∙ ap (λ o. row_of_acts plan i (acts i.number past) (status.ended_by o (completion i.number past) (now past))) none

unnamed_same : (plan : DiePlan) (e : Entry) (past : Log) (k : ℕ) (o : Option Job) (w : Bool) → ((i : Job) → o ≡ Some i → i.number ≡ k)
    → act_of k (ran_by e.reply) ≡ None → row_in (row_for plan (e ∷ past)) w o ≡ row_in (row_for plan past) w o
unnamed_same plan e past k None w numbered none = refl
unnamed_same plan e past k (Some i) w numbered none =
    ap (λ (r : JobRow). row_in (λ j. r) w (Some i)) (same_row plan e past i (ap (λ n. act_of n (ran_by e.reply)) (numbered i refl) ∙ none))

number_of : (js : List Job) (k : ℕ) (i : Job) → AreNumbered 0 js → slice_get js k ≡ Some i → i.number ≡ k
number_of js k i numbered e = omega (arith, number_at 0 js k i numbered e)

ends_at : (b : Bool) (n : ℕ) → is_some (cond b (Some n) None) ≡ true → unwrap_or (cond b (Some n) None) 0 ≡ n
ends_at true n h = refl
ends_at false n h = absurd cc

-- Who is passed over

-- a released row that is not done is of a job that is ready, if it was not waived before
ready_if : (plan : DiePlan) (past : Log) (i : Job) → i.release ≤ now past → status.is_done plan past i ≡ false → is_waived past i.number
    ≡ false → is_ready plan past i ≡ true
ready_if plan past i released undone unwaived =
    and_from (nat_le i.release (now past) && not (status.is_done plan past i)) (not (is_waived past i.number))
    (and_from (nat_le i.release (now past)) (not (status.is_done plan past i)) (le-leb i.release (now past) released)
    (not_from_false (status.is_done plan past i) undone))
    (not_from_false (is_waived past i.number) unwaived)

-- below, `gone` are those waived before the slot, or in it
abbrev pub gone_by : Log → List Waived → ℕ → Bool
gone_by past ws n = is_among n (waived_collections past ++ ws)

parts_of_gone : (past : Log) (ws : List Waived) (n : ℕ) → gone_by past ws n ≡ false → (is_waived past n ≡ false) × (is_among n ws ≡ false)
parts_of_gone past ws n h = or_parts (is_waived past n) (is_among n ws) (sym (list_any-append (λ w. w.number == n) (waived_collections past) ws) ∙ h)

-- a known row is of a job that was not waived
record IsOf (plan : DiePlan) (past : Log) (ws : List Waived) (k : ℕ) : Type 0 where
  job : Job
  stands : slice_get (jobs past) k ≡ Some job
  unwaived : gone_by past ws k ≡ false
  row : row_of (rows_by (row_for plan past) (gone_by past ws) (jobs past)) k ≡ Some (row_for plan past job)

known_by : (plan : DiePlan) (past : Log) (ws : List Waived) (k : ℕ) (o : Option Job) (w : Bool) → slice_get (jobs past) k ≡ o
    → gone_by past ws k ≡ w
    → row_of (rows_by (row_for plan past) (gone_by past ws) (jobs past)) k ≡ row_in (row_for plan past) w o
    → is_some (row_in (row_for plan past) w o) ≡ true → IsOf plan past ws k
known_by plan past ws k None w stands gone row h = absurd (true≢false (sym h))
known_by plan past ws k (Some i) true stands gone row h = absurd (true≢false (sym h))
known_by plan past ws k (Some i) false stands gone row h = record { job = i; stands = stands; unwaived = gone; row = row }

known_of : (plan : DiePlan) (past : Log) (ws : List Waived) (k : ℕ) → AreNumbered 0 (jobs past)
    → is_known (rows_by (row_for plan past) (gone_by past ws) (jobs past)) k ≡ true → IsOf plan past ws k
known_of plan past ws k numbered h =
    let at = row_at (row_for plan past) (gone_by past ws) (jobs past) k (λ j. refl) numbered in
    known_by plan past ws k (slice_get (jobs past) k) (gone_by past ws k) refl refl at (sym (ap is_some at) ∙ h)

undone_of : (b : Bool) (n : ℕ) → is_some (cond b (Some n) None) ≡ false → b ≡ false
undone_of true n h = absurd (true≢false h)
undone_of false n h = refl

-- a job that is passed over waits
waits_then : (plan : DiePlan) (past : Log) (ws : List Waived) (k : ℕ) (f : IsOf plan past ws k) → AreNumbered 0 (jobs past)
    → is_done (rows_by (row_for plan past) (gone_by past ws) (jobs past)) k ≡ false
    → release_of (rows_by (row_for plan past) (gone_by past ws) (jobs past)) k ≤ now past
    → (is_ready plan past f.job ≡ true) × (is_among f.job.number ws ≡ false)
waits_then plan past ws k f numbered undone released =
    let number : f.job.number ≡ k = number_of (jobs past) k f.job numbered f.stands in
    let parts = parts_of_gone past ws f.job.number (ap (gone_by past ws) number ∙ f.unwaived) in
    let not_done : status.is_done plan past f.job ≡ false = undone_of (status.is_done plan past f.job) (completion f.job.number past)
    (sym (ap is_done_in f.row) ∙ undone) in
    let by_now : f.job.release ≤ now past = subst (λ n. n ≤ now past) (ap (number_in (λ r. r.release)) f.row) released in
    (ready_if plan past f.job by_now not_done parts.0, parts.1)

-- Keys

key_is : (hd hn d n : ℕ) → (nat_lt d hd || ((d == hd) && nat_lt n hn)) ≡ false → key_at_most hd hn d n ≡ true
key_is hd hn d n h = grind (arith, nat_tests)

-- an idle slot

abbrev Now : Log → ℕ
Now past = length (carried_numbers past)

now_is : (past : Log) → Now past ≡ now past
now_is past = length-map (carried_slots past) (λ c. option_map (λ ran. ran.0) c)

abbrev pub after_waivers_rows : DiePlan → Log → List Waived → List JobRow
after_waivers_rows plan past ws = rows_by (row_for plan past) (gone_by past ws) (jobs past)

unnamed_row : (plan : DiePlan) (past : Log) (caller slot : ℕ) (ws : List Waived) (ran : Carried) (finished : Option ℕ) (k : ℕ)
    → AreNumbered 0 (jobs past) → act_of k ran ≡ None
    → row_of (rows plan (slot_entry caller slot ws ran finished ∷ past)) k ≡ row_of (after_waivers_rows plan past ws) k
unnamed_row plan past caller slot ws ran finished k numbered none =
    let e : Entry = slot_entry caller slot ws ran finished in
    row_at (row_for plan (e ∷ past)) (gone_by past ws) (jobs past) k (λ j. refl) numbered
    ∙ (unnamed_same plan e past k (slice_get (jobs past) k) (gone_by past ws k) (λ i is. number_of (jobs past) k i numbered is) none
    ∙ sym (row_at (row_for plan past) (gone_by past ws) (jobs past) k (λ j. refl) numbered))

pub carries_nothing : (plan : DiePlan) (past : Log) (caller slot : ℕ) (ws : List Waived) (finished : Option ℕ) → AreNumbered 0 (jobs past)
    → NothingWaits plan past ws
    → CarriesSlot (after_waivers_rows plan past ws) (rows plan (slot_entry caller slot ws None finished ∷ past)) (carried_numbers past) None
carries_nothing plan past caller slot ws finished numbered nobody =
    let e : Entry = slot_entry caller slot ws None finished in
    carries_by (after_waivers_rows plan past ws) (rows plan (e ∷ past)) (carried_numbers past) None
    (rows_rise (row_for plan (e ∷ past)) (gone_by past ws) (jobs past) (λ j. refl) numbered)
    (λ k. inr (record { unnamed = refl; same = unnamed_row plan past caller slot ws None finished k numbered refl }))
    least
  where
    least : (k : ℕ) → is_known (after_waivers_rows plan past ws) k ≡ true → is_done (after_waivers_rows plan past ws) k ≡ false
        → release_of (after_waivers_rows plan past ws) k ≤ Now past → is_within (after_waivers_rows plan past ws) k None ≡ true
    least k known undone released =
        let f = known_of plan past ws k numbered known in
        let w = waits_then plan past ws k f numbered undone (omega (arith, released, now_is past)) in
        absurd (true≢false (sym (nobody f.job (contained (jobs past) k f.job f.stands) w.0) ∙ w.1))

-- a slot in which j acts

-- the row of the head, before its slot and after it
head_row : (plan : DiePlan) (past : Log) (ws : List Waived) (row : Job → JobRow) (j : Job) (k : ℕ) → ((i : Job) → (row i).number ≡ i.number)
    → AreNumbered 0 (jobs past) → Waits plan past (waived_collections past ++ ws) j → k ≡ j.number
    → row_of (rows_by row (gone_by past ws) (jobs past)) k ≡ Some (row j)
head_row plan past ws row j k named numbered w is =
    let stands : slice_get (jobs past) k ≡ Some j = ap (slice_get (jobs past)) is ∙ w.known in
    let stays : gone_by past ws k ≡ false = ap (gone_by past ws) is ∙ w.new in
    row_at row (gone_by past ws) (jobs past) k named numbered
    ∙ (ap (λ (b : Bool). row_in row b (slice_get (jobs past) k)) stays ∙ ap (row_in row false) stands)

carried_row : (plan : DiePlan) (past : Log) (caller slot : ℕ) (ws : List Waived) (finished : Option ℕ) (j : Job) (act : Act) (k : ℕ)
    → AreNumbered 0 (jobs past) → Waits plan past (waived_collections past ++ ws) j → k ≡ j.number
    → IsCarried (after_waivers_rows plan past ws) (rows plan (slot_entry caller slot ws (Some (j.number, act)) finished ∷ past)) (Now past)
    (Some j.number) k
carried_row plan past caller slot ws finished j act k numbered w is =
    let e : Entry = slot_entry caller slot ws (Some (j.number, act)) finished in
    let parts = and_parts (nat_le j.release (now past) && not (status.is_done plan past j)) (not (is_waived past j.number)) w.ready in
    let inner = and_parts (nat_le j.release (now past)) (not (status.is_done plan past j)) parts.0 in
    let released : j.release ≤ now past = leb-true j.release (now past) inner.0 in
    let ends : completion j.number (e ∷ past) ≡ now past + 1 = ap (λ o. status.ended_by o (completion j.number past) (now past))
    (act_own j.number act) in
    let own : acts j.number (e ∷ past) ≡ acts j.number past ++ act ∷ [] = acts_grow j.number e past act (act_own j.number act) in
    record {
      is = ap (λ (n : ℕ). Some n) (sym is);
      old = row_for plan past j;
      new = row_for plan (e ∷ past) j;
      before = head_row plan past ws (row_for plan past) j k (λ i. refl) numbered w is;
      after = head_row plan past ws (row_for plan (e ∷ past)) j k (λ i. refl) numbered w is;
      undone = ap (λ (b : Bool). cond b (Some (completion j.number past)) None) (not-true (status.is_done plan past j) inner.1);
      released = omega (arith, released, now_is past);
      release = refl;
      due = refl;
      work = ap (λ (l : List Act). length l) own ∙ length_push (acts j.number past) act;
      ends = λ h. omega (arith, ends_at (status.is_done plan (e ∷ past) j) (completion j.number (e ∷ past)) h, ends, now_is past);
    }

pub carries_head : (plan : DiePlan) (past : Log) (caller slot : ℕ) (ws : List Waived) (finished : Option ℕ) (j : Job) (act : Act)
    → AreNumbered 0 (jobs past) → Waits plan past (waived_collections past ++ ws) j
    → ((i : Job) → Contains (jobs past) i → is_ready plan past i ≡ true → is_among i.number ws ≡ false → goes_first i j ≡ false)
    → CarriesSlot (after_waivers_rows plan past ws) (rows plan (slot_entry caller slot ws (Some (j.number, act)) finished ∷ past))
    (carried_numbers past) (Some j.number)
carries_head plan past caller slot ws finished j act numbered w first =
    let e : Entry = slot_entry caller slot ws (Some (j.number, act)) finished in
    carries_by (after_waivers_rows plan past ws) (rows plan (e ∷ past)) (carried_numbers past) (Some j.number)
    (rows_rise (row_for plan (e ∷ past)) (gone_by past ws) (jobs past) (λ i. refl) numbered)
    (λ k. elim (cases_eq k j.number) [
      | inl is ↦ inl (carried_row plan past caller slot ws finished j act k numbered w is)
      | inr apart ↦ inr (record {
        unnamed = ne_eqb k j.number apart;
        same = unnamed_row plan past caller slot ws (Some (j.number, act)) finished k numbered
            (act_other j.number k act (λ x. apart (sym x)));
      })
    ])
    least
  where
    head : row_of (after_waivers_rows plan past ws) j.number ≡ Some (row_for plan past j)
    head = head_row plan past ws (row_for plan past) j j.number (λ i. refl) numbered w refl

    least : (k : ℕ) → is_known (after_waivers_rows plan past ws) k ≡ true → is_done (after_waivers_rows plan past ws) k ≡ false
        → release_of (after_waivers_rows plan past ws) k ≤ Now past → is_within (after_waivers_rows plan past ws) k (Some j.number) ≡ true
    least k known undone released =
        let f = known_of plan past ws k numbered known in
        let v = waits_then plan past ws k f numbered undone (omega (arith, released, now_is past)) in
        let number : f.job.number ≡ k = number_of (jobs past) k f.job numbered f.stands in
        let beyond : key_at_most j.due j.number f.job.due f.job.number
        ≡ true = key_is j.due j.number f.job.due f.job.number (first f.job (contained (jobs past) k f.job f.stands) v.0 v.1) in
        and_from (is_known (after_waivers_rows plan past ws) j.number)
        (key_at_most (due_of (after_waivers_rows plan past ws) j.number) j.number (due_of (after_waivers_rows plan past ws) k) k)
        (ap is_some head)
        (ap (λ (d : ℕ). key_at_most d j.number (due_of (after_waivers_rows plan past ws) k) k) (ap (number_in (λ r. r.due)) head)
        ∙ (ap (λ (d : ℕ). key_at_most j.due j.number d k) (ap (number_in (λ r. r.due)) f.row)
        ∙ (ap (λ (n : ℕ). key_at_most j.due j.number f.job.due n) (sym number) ∙ beyond)))

-- the slots with one more
pub carried_more : (past : Log) (ran : Carried) → map (λ c. option_map (λ r. r.0) c) (carried_slots past ++ ran ∷ []) ≡ carried_numbers past
    ++ option_map (λ r. r.0) ran ∷ []
carried_more past ran = map-append (λ c. option_map (λ r. r.0) c) (carried_slots past) (ran ∷ [])
