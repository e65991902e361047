-- What a table's records say of a log: which jobs are done, and who is worst.
use Rattle.std.proofs.Common.{◌≡◌, ℕ, ◌+◌, ◌≤◌, ◌==◌, ◌||◌, ◌&&◌, not, nat_lt, nat_le, Bool, true, false, cond, List, [], ◌∷◌, Option, Some}
use Rattle.std.proofs.Common.{None, option_map, refl, ap, sym, ◌∙◌, subst, slice_get, arith, pos, ◌-ℤ◌, ◌≤ℤ◌}
use Rattle.std.specs.Prelude.{Contains, int_lt, ℤ, is_some}
use Rattle.std.specs.List.{list_any}
use Rattle.std.proofs.lemmas.Bool.{true≢false, false_from_ne_true}
use Rattle.std.proofs.lemmas.Bool.Decides.{nat_tests}
use Rattle.std.proofs.lemmas.Int.{ints}
use Rattle.std.proofs.lemmas.Option.{same_Some}
use Rattle.slot_types.specs.declared.replies.Waived.{Waived}
use Rattle.late_cert.specs.Rows.{is_done_in}
use Rattle.job_table.specs.declared.stages.Stage.TheVariants as stages
use Rattle.job_table.specs.Jobs.{JobRecord}
use Rattle.job_table.specs.Jobs as kept
use Rattle.job_table.specs.Worst as table
use Rattle.job_table.proofs.Worsts.{one_worst}
use Rattle.die_log.specs.Model.Log.{Log, Job, jobs, job_at, waived_collections, is_waived}
use Rattle.die_log.specs.Model.Work.{is_done, completion, lateness_of, worst, IsWorst}
use Rattle.die_log.specs.Model.Answers.{IsExact}
use Rattle.die_log.specs.Invariants.RunningCollections.{AreNumbered}
use Rattle.die_log.specs.Model.Rows.{row_for}
use Rattle.die_log.proofs.Legal.Exact.{stands_well}
use Rattle.die_log.proofs.LogInvariants.OneMoreEntry.{stands_at, number_at, contained}
use Rattle.die_log.proofs.Least.Lookups.{row_in, row_at}
use Rattle.die_log.proofs.Least.Worst.{worst_is}
use Rattle.die_log.proofs.Least.Certificates.{done_certified, no_worst, nothing_done}
use Rattle.slot_core.specs.Records.{record_with, job_records, waiver_among, stage_by, pages_given}
use Rattle.slot_core.specs.Outcomes.{worst_from, worst_of, worst_as}
use Rattle.slot_core.proofs.Heading.{slice_get-map, slice_get-mapped}
use Rattle.die_log.specs.Model.Start.{Start}
use Rattle.die_log.specs.Model.Opening.{IsOpening}

-- a record is that of a job of the log
pub record_at : (start : Start) (log : Log) (js : List JobRecord) (n : ℕ) (r : JobRecord) → js ≡ job_records start log → slice_get js n ≡ Some r
    → (j : Job) × (job_at log n ≡ Some j) × (record_with start log (waived_collections log) j ≡ r)
record_at start log js n r are at = slice_get-mapped (record_with start log (waived_collections log)) (jobs log) n r
    (ap (λ (rs : List JobRecord). slice_get rs n) (sym are) ∙ at)

-- Done ones

-- a job was waived exactly where it has a waiver
pub waiver_stands : (n : ℕ) (ws : List Waived) → is_some (waiver_among n ws) ≡ list_any (λ w. w.number == n) ws
waiver_stands n [] = refl
waiver_stands n (w ∷ ws) = by_case (w.number == n) (waiver_stands n ws)
  where
    by_case : (b : Bool) → is_some (waiver_among n ws) ≡ list_any (λ v. v.number == n) ws → is_some (cond b (Some w) (waiver_among n ws))
        ≡ (b || list_any (λ v. v.number == n) ws)
    by_case true h = refl
    by_case false h = h

none_of : {X : Type 0} (o : Option X) → is_some o ≡ false → o ≡ None
none_of None e = refl
none_of (Some x) e = absurd (true≢false e)

-- what is done was not waived, for it has a row
unwaived_done : (start : Start) (log : Log) (j : Job) → IsOpening start → IsExact start log → Contains (jobs log) j → is_done start.plan log j
    ≡ true → waiver_among j.number (waived_collections log) ≡ None
unwaived_done start log j bound exact stands done = none_of (waiver_among j.number (waived_collections log)) (waiver_stands j.number (waived_collections log)
    ∙ false_from_ne_true (is_waived log j.number) has_row)
  where
    numbered : AreNumbered 0 (jobs log)
    numbered = (stands_well start bound log exact).0.numbered

    has_row : is_waived log j.number ≡ true → ⊥
    has_row gone =
        true≢false (sym (done_certified start log j bound exact stands done).2.own.done
        ∙ ap is_done_in (row_at (row_for start.plan log) (is_waived log) (jobs log) j.number (λ i. refl) numbered
        ∙ (ap (λ (b : Bool). row_in (row_for start.plan log) b (slice_get (jobs log) j.number)) gone
        ∙ ap (row_in (row_for start.plan log) true) (stands_at (jobs log) j numbered stands))))

-- so its record is that of a done job
done_stage : (start : Start) (log : Log) (j : Job) → IsOpening start → IsExact start log → Contains (jobs log) j → is_done start.plan log j ≡ true
    → (record_with start log (waived_collections log) j).stage ≡ stages.Done (completion j.number log) (pages_given start j.number log)
done_stage start log j bound exact stands done =
    ap (λ (o : Option Waived). stage_by o (is_done start.plan log j) (completion j.number log) (pages_given start j.number log))
    (unwaived_done start log j bound exact stands done)
    ∙ ap (λ (b : Bool). stage_by None b (completion j.number log) (pages_given start j.number log)) done

done_by : (o : Option Waived) (b : Bool) (c g : ℕ) → kept.is_done (stage_by o b c g) ≡ true → b ≡ true
done_by (Some w) b c g e = absurd (true≢false (sym e))
done_by None true c g e = refl
done_by None false c g e = absurd (true≢false (sym e))

done_in_log : (start : Start) (log : Log) (j : Job) → kept.is_done (record_with start log (waived_collections log) j).stage ≡ true → is_done start.plan log j
    ≡ true
done_in_log start log j e = done_by (waiver_among j.number (waived_collections log)) (is_done start.plan log j) (completion j.number log)
    (pages_given start j.number log) e

-- The worst

-- below, a job by its completion, its deadline and its number
abbrev worse : ℕ → ℕ → ℕ → ℕ → ℕ → ℕ → Bool
worse c d n c' d' n' =
    int_lt (pos c' -ℤ pos d') (pos c -ℤ pos d) || (not (int_lt (pos c -ℤ pos d) (pos c' -ℤ pos d'))
    && (nat_lt c c' || ((c == c') && nat_lt n n')))

at_most : (m n : ℕ) → nat_le m n ≡ true → m ≤ n
at_most m n h = grind (arith, nat_tests)

as_late : (c d c' d' : ℕ) → nat_le (c' + d) (c + d') ≡ true → (pos c' -ℤ pos d') ≤ℤ (pos c -ℤ pos d)
as_late c d c' d' h = let k = at_most (c' + d) (c + d') h in omega (arith, ints)

no_later : (c d c' d' : ℕ) → (pos c -ℤ pos d) ≤ℤ (pos c' -ℤ pos d') → c + d' ≤ c' + d
no_later c d c' d' h = omega (arith, ints)

earlier_is : (c d n c' d' n' : ℕ) → c + d' ≤ c' + d → nat_le (c' + d) (c + d') ≡ false → worse c d n c' d' n' ≡ false
earlier_is c d n c' d' n' h k = grind (arith, ints, nat_tests)

ended_is : (c d n c' d' n' : ℕ) → c + d' ≤ c' + d → c' ≤ c → nat_le c c' ≡ false → worse c d n c' d' n' ≡ false
ended_is c d n c' d' n' h k l = grind (arith, ints, nat_tests)

greater_is : (c d n c' d' n' : ℕ) → c + d' ≤ c' + d → c' ≤ c → n' ≤ n → worse c d n c' d' n' ≡ false
greater_is c d n c' d' n' h k l = grind (arith, ints, nat_tests)

not_worse : (c d n c' d' n' : ℕ) → (pos c -ℤ pos d) ≤ℤ (pos c' -ℤ pos d')
    → ((pos c' -ℤ pos d') ≤ℤ (pos c -ℤ pos d) → c' ≤ c) → ((pos c' -ℤ pos d') ≤ℤ (pos c -ℤ pos d) → c ≤ c' → n' ≤ n) → worse c d n c' d' n'
    ≡ false
not_worse c d n c' d' n' latest first least = by_late (nat_le (c' + d) (c + d')) refl
  where
    by_end : (b : Bool) → nat_le c c' ≡ b → (pos c' -ℤ pos d') ≤ℤ (pos c -ℤ pos d) → worse c d n c' d' n' ≡ false
    by_end true e late = greater_is c d n c' d' n' (no_later c d c' d' latest) (first late) (least late (at_most c c' e))
    by_end false e late = ended_is c d n c' d' n' (no_later c d c' d' latest) (first late) e

    by_late : (b : Bool) → nat_le (c' + d) (c + d') ≡ b → worse c d n c' d' n' ≡ false
    by_late true e = by_end (nat_le c c') refl (as_late c d c' d' e)
    by_late false e = earlier_is c d n c' d' n' (no_later c d c' d' latest) e

-- the worst of the log is the worst of its records
pub worst_record : (start : Start) (log : Log) (j : Job) → IsOpening start → IsExact start log → worst start.plan log ≡ Some j
    → table.IsWorst (job_records start log) j.number
worst_record start log j bound exact is = record {
  worst = record_with start log (waived_collections log) j;
  is_at = slice_get-map (record_with start log (waived_collections log)) (jobs log) j.number j (stands_at (jobs log) j numbered w.stands);
  done = ap kept.is_done (done_stage start log j bound exact w.stands w.done);
  most = no_worse;
}
  where
    numbered : AreNumbered 0 (jobs log)
    numbered = (stands_well start bound log exact).0.numbered

    w : IsWorst start.plan log j
    w = worst_is start.plan log j is

    beside : (i : Job) → Contains (jobs log) i → is_done start.plan log i ≡ true
        → table.is_worse i.number (record_with start log (waived_collections log) i) j.number (record_with start log (waived_collections log) j) ≡ false
    beside i stands done =
        rw (done_stage start log i bound exact stands done) (rw (done_stage start log j bound exact w.stands w.done)
        (not_worse (completion i.number log) i.due i.number (completion j.number log) j.due j.number (w.latest i stands done)
        (w.first i stands done) (w.least i stands done)))

    no_worse : (m : ℕ) (other : JobRecord) → slice_get (job_records start log) m ≡ Some other → kept.is_done other.stage ≡ true
        → table.is_worse m other j.number (record_with start log (waived_collections log) j) ≡ false
    no_worse m other at done =
        let i = record_at start log (job_records start log) m other refl at in
        let number : i.0.number ≡ m = omega (arith, number_at 0 (jobs log) m i.0 numbered i.1) in
        let done_job : is_done start.plan log i.0 ≡ true = done_in_log start log i.0 (ap (λ (r : JobRecord). kept.is_done r.stage) i.2 ∙ done) in
        subst (λ (r : JobRecord). table.is_worse m r j.number (record_with start log (waived_collections log) j) ≡ false) i.2
        (subst (λ (n : ℕ). table.is_worse n (record_with start log (waived_collections log) i.0) j.number (record_with start log (waived_collections log) j) ≡ false)
        number
        (beside i.0 (contained (jobs log) m i.0 i.1) done_job))

-- what the table answers is the worst of the log
pub worst_found : (start : Start) (log : Log) (js : List JobRecord) (n : ℕ) (late : ℤ) → IsOpening start → IsExact start log → js
    ≡ job_records start log → table.IsWorst js n → table.lateness_at js n ≡ Some late
    → Some (worst_as n late) ≡ worst_of start.plan log
worst_found start log js n late bound exact are found lateness = by_worst (worst start.plan log) refl
  where
    found_in : table.IsWorst (job_records start log) n
    found_in = subst (λ (rs : List JobRecord). table.IsWorst rs n) are found

    by_worst : (o : Option Job) → worst start.plan log ≡ o → Some (worst_as n late) ≡ option_map (worst_from log) o
    by_worst None e =
        let i = record_at start log (job_records start log) n found_in.worst refl found_in.is_at in
        absurd (true≢false (sym (done_in_log start log i.0 (ap (λ (r : JobRecord). kept.is_done r.stage) i.2 ∙ found_in.done))
        ∙ no_worst start.plan log e i.0 (contained (jobs log) n i.0 i.1)))
    by_worst (Some j) e =
        let w : IsWorst start.plan log j = worst_is start.plan log j e in
        let of_log = worst_record start log j bound exact e in
        let number : n ≡ j.number = one_worst (job_records start log) n j.number found_in of_log in
        let late_is : Some late ≡ Some (lateness_of log j) =
        sym lateness ∙ (ap (λ (rs : List JobRecord). table.lateness_at rs n) are ∙ (ap (table.lateness_at (job_records start log)) number
        ∙ (ap (option_map kept.lateness_of) (slice_get-map (record_with start log (waived_collections log)) (jobs log) j.number j
        (stands_at (jobs log) j (stands_well start bound log exact).0.numbered w.stands))
        ∙ ap (λ s. Some (pos (kept.completion_in s) -ℤ pos j.due)) (done_stage start log j bound exact w.stands w.done)))) in
        ap Some (ap (λ (k : ℕ). worst_as k late) number ∙ ap (worst_as j.number) (same_Some late (lateness_of log j) late_is))

pub worst_missing : (start : Start) (log : Log) (js : List JobRecord) → IsOpening start → IsExact start log → js ≡ job_records start log
    → table.NothingDone js → None ≡ worst_of start.plan log
worst_missing start log js bound exact are none = ap (option_map (worst_from log)) (sym (nothing_done start.plan log undone))
  where
    none_in : table.NothingDone (job_records start log)
    none_in = subst table.NothingDone are none

    undone : (j : Job) → Contains (jobs log) j → is_done start.plan log j ≡ false
    undone j stands = false_from_ne_true (is_done start.plan log j)
        (λ done. true≢false (sym (ap kept.is_done (done_stage start log j bound exact stands done))
        ∙ none_in j.number (record_with start log (waived_collections log) j)
        (slice_get-map (record_with start log (waived_collections log)) (jobs log) j.number j
        (stands_at (jobs log) j (stands_well start bound log exact).0.numbered stands))))
