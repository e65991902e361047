-- What is carried next is read off the table, and where nothing is, the log is quiet.
use Rattle.std.proofs.Common.{◌≡◌, ℕ, suc, ◌<◌, ◌≤◌, ◌&&◌, not, nat_le, nat_lt, Bool, true, false, cond, List, [], ◌∷◌, ◌++◌, Some, None}
use Rattle.std.proofs.Common.{refl, ap, sym, ◌∙◌, subst, length, map, filter, slice_get, arith, inl, inr}
use Rattle.std.specs.Prelude.{Contains, IsTrue, IfSome, IfNone, Option, ◌⊎◌}
use Rattle.std.proofs.lemmas.Bool.{true≢false}
use Rattle.std.proofs.lemmas.Bool.Decides.{nat_tests}
use Rattle.std.proofs.lemmas.List.{append-nil}
use Rattle.std.proofs.lemmas.Option.{slice_get-get_or, slice_get_within, get_or_from_slice_get, same_Some}
use Rattle.slot_types.specs.declared.replies.Waived.{Waived}
use Rattle.job_table.specs.Jobs.{JobRecord, is_pending}
use Rattle.job_table.specs.Table.{Table}
use Rattle.job_table.specs.Order as table
use Rattle.die_log.specs.Model.Start.{Start}
use Rattle.die_log.specs.Model.Log.{Log, Job, jobs, now, waived_collections, is_waived}
use Rattle.die_log.specs.Model.Work.{is_done, ready, least}
use Rattle.die_log.specs.Model.Opening.{IsQuiet}
use Rattle.die_log.specs.Invariants.RunningCollections.{AreNumbered}
use Rattle.die_log.proofs.Legal.Exact.{stands_well}
use Rattle.die_log.proofs.LogInvariants.OneMoreEntry.{number_at, stands_at}
use Rattle.slot_core.specs.Records.{record_with, job_records}
use Rattle.slot_core.specs.Renewals.{is_coming, is_released_before, IsReleasedNext, IsNextCarried}
use Rattle.slot_core.specs.Device.{FlashState}
use Rattle.slot_core.specs.Agreement.{AgreeWithLog}
use Rattle.slot_core.specs.WithinSlot.{without_waived}
use Rattle.slot_core.proofs.Heading.{slice_get-map, slice_get-mapped, pending_is, head_least, nothing_least, table_at}

unwaived_none : (js : List Job) → without_waived [] js ≡ js
unwaived_none [] = refl
unwaived_none (j ∷ js) = ap (λ (l : List Job). j ∷ l) (unwaived_none js)

module _ (start : Start) (past : Log) (like : Table) where
  -- the table of a log at its present slot
  abbrev here : Table
  here = record like { clock = now past; jobs = job_records start past }

  here_is : table_at like start past [] ≡ here
  here_is = ap (λ (ws : List Waived). record like { clock = now past; jobs = map (record_with start past ws) (jobs past) })
      (append-nil (waived_collections past))

  least_of : least (without_waived [] (ready start.plan past)) ≡ least (ready start.plan past)
  least_of = ap least (unwaived_none (ready start.plan past))

  head_next : (n : ℕ) → AreNumbered 0 (jobs past) → table.IsHead here n → IsNextCarried start.plan past n
  head_next n numbered h =
      let f = slice_get-mapped (record_with start past (waived_collections past)) (jobs past) n h.head h.is_at in
      record {
        job = f.0;
        number_is = omega (arith, number_at 0 (jobs past) n f.0 numbered f.1);
        next = inl (sym least_of ∙ head_least start past [] like n f.0 numbered f.1
            (subst (λ (t : Table). table.IsHead t n) (sym here_is) h));
      }

  -- a record waits for its release where its job is coming
  waiting_is : (j : Job) → table.is_waiting (now past) (record_with start past (waived_collections past) j) ≡ is_coming start.plan past j
  waiting_is j = ap (λ (b : Bool). nat_lt (now past) j.release && b) (pending_is start past (waived_collections past) j)

  released_next : (n : ℕ) → AreNumbered 0 (jobs past) → table.NothingReady here → table.IsNextReleased here n → IsNextCarried start.plan past n
  released_next n numbered nothing h =
      let f = slice_get-mapped (record_with start past (waived_collections past)) (jobs past) n h.job h.is_at in
      let number : f.0.number ≡ n = omega (arith, number_at 0 (jobs past) n f.0 numbered f.1) in
      record {
        job = f.0;
        number_is = number;
        next = inr (
          sym least_of ∙ nothing_least start past [] like (subst table.NothingReady (sym here_is) nothing),
          record {
            stands = (n, slice_get_within (jobs past) n f.0 f.1, get_or_from_slice_get (jobs past) n f.0 f.0 f.1);
            coming = sym (waiting_is f.0) ∙ (ap (table.is_waiting (now past)) f.2 ∙ h.waits);
            first = λ i stands coming.
                subst (λ (k : ℕ × ℕ). is_released_before i (record f.0 { release = k.0; number = k.1 }) ≡ false)
                (λ x. ((sym (ap (λ (r : JobRecord). r.release) f.2)) x, (sym number) x))
                (h.first i.number (record_with start past (waived_collections past) i)
                (slice_get-map (record_with start past (waived_collections past)) (jobs past) i.number i (stands_at (jobs past) i numbered stands))
                (waiting_is i ∙ coming));
          },
        );
      }

  over_by : (le lt done gone : Bool) → (le ≡ false → lt ≡ true) → (le && (not done && not gone)) ≡ false
      → (lt && (not done && not gone)) ≡ false → IsTrue done ⊎ IsTrue gone
  over_by le lt true gone or h g = inl refl
  over_by le lt false true or h g = inr refl
  over_by true lt false false or h g = absurd (true≢false h)
  over_by false lt false false or h g = absurd (true≢false (sym (ap (λ (b : Bool). b && true) (or refl)) ∙ g))

  late_or : (release : ℕ) → nat_le release (now past) ≡ false → nat_lt (now past) release ≡ true
  late_or release h = grind (arith, nat_tests)

  quiet_by : table.NothingReady here → table.NothingWaiting here → IsQuiet start past
  quiet_by unready unwaiting j stands =
      let at = slice_get-get_or (jobs past) stands.0 j stands.1 ∙ ap Some stands.2 in
      let kept = slice_get-map (record_with start past (waived_collections past)) (jobs past) stands.0 j at in
      over_by (nat_le j.release (now past)) (nat_lt (now past) j.release) (is_done start.plan past j) (is_waived past j.number)
      (late_or j.release)
      (sym (ap (λ (b : Bool). nat_le j.release (now past) && b) (pending_is start past (waived_collections past) j))
      ∙ unready stands.0 (record_with start past (waived_collections past) j) kept)
      (sym (waiting_is j) ∙ unwaiting stands.0 (record_with start past (waived_collections past) j) kept)

-- The table of a die, asked at its present slot

module _ (start : Start) (log : Log) (present : ℕ) (kept : Table) (failed : Bool) (f : FlashState) (t : Table)
    (k : AgreeWithLog start log present kept failed f) (is : t ≡ record kept { clock = present }) where
  at_present : t ≡ here start log kept
  at_present = is ∙ (λ i. record kept { clock = k.now_is i; jobs = k.jobs_are i })

  numbered : AreNumbered 0 (jobs log)
  numbered = (stands_well start k.bound log k.exact).0.numbered

  pub next_reported : (o : Option ℕ) → IfSome o (λ n. table.IsHead t n ⊎ (table.NothingReady t × table.IsNextReleased t n))
      → IfSome o (IsNextCarried start.plan log)
  next_reported None h = tt
  next_reported (Some n) (inl head) = head_next start log kept n numbered
      (subst (λ (u : Table). table.IsHead u n) at_present head)
  next_reported (Some n) (inr (nothing, later)) = released_next start log kept n numbered
      (subst table.NothingReady at_present nothing) (subst (λ (u : Table). table.IsNextReleased u n) at_present later)

  pub quiet_reported : (o : Option ℕ) → IfNone o (table.NothingReady t × table.NothingWaiting t) → IfNone o (IsQuiet start log)
  quiet_reported (Some n) h = tt
  quiet_reported None (nothing, none) = quiet_by start log kept (subst table.NothingReady at_present nothing)
      (subst table.NothingWaiting at_present none)
