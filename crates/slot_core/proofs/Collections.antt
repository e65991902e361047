-- What one more entry of a log does to the collections that its volume runs.
use Rattle.std.proofs.Common.{◌≡◌, ◌≢◌, ◌⊎◌, ℕ, ◌<◌, ◌==◌, ◌&&◌, not, Bool, true, false, List, [], ◌∷◌, Option, Some, None, refl, ap, sym}
use Rattle.std.proofs.Common.{◌∙◌, subst, inl, inr, zero, suc, length, length-set, slice_set, replicate, arith}
use Rattle.std.specs.Prelude.{Contains}
use Rattle.std.specs.List.{last_or}
use Rattle.std.proofs.lemmas.Bool.{true≢false, cases_eq, and_from, not_from_false, eq-eqb}
use Rattle.std.proofs.lemmas.List.{get_or-set_same, get_or-set_other, length-replicate}
use Rattle.std.proofs.lemmas.Option.{same_Some, none-some}
use Rattle.slot_types.specs.declared.plans.DiePlan.{DiePlan}
use Rattle.slot_types.specs.declared.acts.Act.{Act}
use Rattle.slot_types.specs.declared.replies.Entry.{Entry}
use Rattle.flash_volume.specs.declared.collection.Collection.{Collection}
use Rattle.flash_volume.specs.Running.{running_of}
use Rattle.die_log.specs.Model.Log.{Log, Job, jobs, job_at, act_of, acts, is_waived, work}
use Rattle.die_log.specs.Model.Flash.{ran_by}
use Rattle.die_log.specs.Model.Work.{is_done}
use Rattle.die_log.specs.Model.Answers.{is_running, buffer_after}
use Rattle.die_log.specs.Invariants.TrueAccounts.{is_pending, AreTrueAccounts}
use Rattle.die_log.specs.Invariants.RunningCollections.{AreNumbered, RunsOnBlock}
use Rattle.die_log.proofs.LogInvariants.OneMoreEntry.{acts_stay, act_other, same_job, stands_at}
use Rattle.die_log.proofs.LogInvariants.AfterNoAct.{runs_says, runs_later, runs_before}
use Rattle.die_log.proofs.Tokens.Searches.{first_with, finds_it}
use Rattle.slot_core.specs.Device.{FlashState, IsRunningCollection, AreRunning}
use Rattle.slot_core.specs.WithinSlot.{OthersRun}
use Rattle.die_log.specs.Model.Start.{Start}

-- The list by task

pub own_running : (running : List (Option Collection)) (task : ℕ) (o : Option Collection) → task < length running
    → running_of (slice_set running task o) task ≡ o
own_running running task o lt = get_or-set_same running task o None lt

pub other_running : (running : List (Option Collection)) (task other : ℕ) (o : Option Collection) → other ≢ task
    → running_of (slice_set running task o) other ≡ running_of running other
other_running running task other o apart = get_or-set_other running task other o None apart

none_of : (n task : ℕ) (c : Collection) → running_of (replicate n None) task ≡ Some c → ⊥
none_of zero task c e = none-some c e
none_of (suc n) zero c e = none-some c e
none_of (suc n) (suc task) c e = none_of n task c e

pub none_running : (start : Start) → AreRunning start [] (replicate (length start.plan.caps) None)
none_running start = record {
  len = length-replicate (length start.plan.caps) None;
  each = λ task c e. absurd (none_of (length start.plan.caps) task c e);
  all = λ j b r. absurd (omega (arith, r.stands.1));
}

-- One pending collection a task

no_work : (l : List Act) → l ≡ [] → 0 < length l → ⊥
no_work l e h = omega (arith, h, ap (λ (x : List Act). length x) e)

-- what runs is pending
pub running_pending : (start : Start) (past : Log) (j : Job) → AreTrueAccounts start past → is_running start.plan past j ≡ true
    → is_pending start.plan (λ n. acts n past) (is_waived past) j ≡ true
running_pending start past j h is = by_waived (is_waived past j.number) refl
  where
    by_waived : (b : Bool) → is_waived past j.number ≡ b → is_pending start.plan (λ n. acts n past) (is_waived past) j ≡ true
    by_waived true e = absurd (no_work (acts j.number past) (h.idle_waived j.number e) (runs_says start.plan j (acts j.number past) is).begun)
    by_waived false e =
        let runs = runs_says start.plan j (acts j.number past) is in
        and_from (j.collects && not (is_done start.plan past j)) (not (is_waived past j.number))
        (and_from j.collects (not (is_done start.plan past j)) runs.collects (not_from_false (is_done start.plan past j) runs.undone))
        (not_from_false (is_waived past j.number) e)

-- two pending collections of one task are one
pub one_pending : (start : Start) (past : Log) (i j : Job) → AreTrueAccounts start past → job_at past i.number ≡ Some i → job_at past j.number
    ≡ Some j
    → is_pending start.plan (λ n. acts n past) (is_waived past) i ≡ true → is_pending start.plan (λ n. acts n past) (is_waived past) j ≡ true → i.task
    ≡ j.task → i ≡ j
one_pending start past i j h at_i at_j pending_i pending_j same =
    same_Some i j (sym (found i at_i pending_i same) ∙ found j at_j pending_j refl)
  where
    test : Job → Bool
    test x = (x.task == j.task) && is_pending start.plan (λ n. acts n past) (is_waived past) x

    found : (x : Job) → job_at past x.number ≡ Some x → is_pending start.plan (λ n. acts n past) (is_waived past) x ≡ true → x.task ≡ j.task
        → first_with test (jobs past) ≡ Some x
    found x at is e = finds_it test (jobs past) x.number x (h.one_each j.task) at
        (and_from (x.task == j.task) (is_pending start.plan (λ n. acts n past) (is_waived past) x) (eq-eqb x.task j.task e) is)

-- Entries

no_act : (n : ℕ) (e : Entry) → ran_by e.reply ≡ None → act_of n (ran_by e.reply) ≡ None
no_act n e none = ap (act_of n) none

later_run : (start : Start) (e : Entry) (past : Log) (task : ℕ) (c : Collection) (j : Job) → act_of j.number (ran_by e.reply) ≡ None
    → Contains (jobs (e ∷ past)) j → IsRunningCollection start past task c j → IsRunningCollection start (e ∷ past) task c j
later_run start e past task c j quiet there r = record {
  runs = runs_later start e past j c.victim quiet there r.runs;
  task_is = r.task_is;
  holds = r.holds ∙ ap (λ (own : List Act). buffer_after (last_or None own)) (sym (acts_stay j.number e past quiet));
}

-- an entry that carried nothing, after which nobody runs that didn't before
pub running_quiet : (start : Start) (e : Entry) (past : Log) (running : List (Option Collection)) → ran_by e.reply ≡ None
    → ((j : Job) → Contains (jobs past) j → Contains (jobs (e ∷ past)) j)
    → ((j : Job) → Contains (jobs (e ∷ past)) j → is_running start.plan (e ∷ past) j ≡ true → Contains (jobs past) j)
    → AreRunning start past running → AreRunning start (e ∷ past) running
running_quiet start e past running none later before r = record {
  len = r.len;
  each = λ task c at. let old = r.each task c at in (
    old.0,
    later_run start e past task c old.0 (no_act old.0.number e none)
        (later old.0 old.1.runs.stands) old.1,
  );
  all = λ j b runs. r.all j b (runs_before start e past j b (no_act j.number e none) (before j runs.stands runs.running) runs);
}

-- the head's collection runs on, or is done
abbrev pub OwnRun : Start → Log → Job → List (Option Collection) → Type 0
OwnRun start log j running =
    ((c : Collection) × (running_of running j.task ≡ Some c) × IsRunningCollection start log j.task c j)
    ⊎ ((running_of running j.task ≡ None) × (is_running start.plan log j ≡ false))

-- an entry that carried the head's act
pub running_acted : (start : Start) (e : Entry) (past : Log) (j : Job) (act : Act) (f : FlashState) (after : List (Option Collection))
    → ran_by e.reply ≡ Some (j.number, act) → jobs (e ∷ past) ≡ jobs past
    → AreNumbered 0 (jobs past) → Contains (jobs past) j → OthersRun start past j f → length after ≡ length start.plan.caps
    → ((task : ℕ) → (j.collects ≡ true → task ≢ j.task) → running_of after task ≡ running_of f.running task)
    → (j.collects ≡ true → OwnRun start (e ∷ past) j after) → AreRunning start (e ∷ past) after
running_acted start e past j act f after ran same numbered stands others len rest own = record {
  len = len;
  each = λ task c at. each_by task c at j.collects refl (cases_eq task j.task);
  all = λ i b runs. all_by i b runs (cases_eq i.number j.number);
}
  where
    quiet : (i : Job) → i.number ≢ j.number → act_of i.number (ran_by e.reply) ≡ None
    quiet i apart = ap (act_of i.number) ran ∙ act_other j.number i.number act (λ x. apart (sym x))

    there : (i : Job) → Contains (jobs past) i → Contains (jobs (e ∷ past)) i
    there i h = subst (λ (js : List Job). Contains js i) (sym same) h

    each_other : (task : ℕ) (c : Collection) → running_of after task ≡ Some c → (apart : j.collects ≡ true → task ≢ j.task) → (i : Job)
        × IsRunningCollection start (e ∷ past) task c i
    each_other task c at apart =
        let old = others.each task c apart (sym (rest task apart) ∙ at) in (
          old.0,
          later_run start e past task c old.0 (quiet old.0 (λ number. differs old.0 old.1 number)) (there old.0 old.1.runs.stands) old.1,
        )
      where
        differs : (i : Job) → IsRunningCollection start past task c i → i.number ≡ j.number → ⊥
        differs i r number =
            let it : i ≡ j = same_job (jobs past) i j numbered r.runs.stands stands number in
            let collects : j.collects ≡ true = subst (λ (x : Job). x.collects ≡ true) it
            (runs_says start.plan i (acts i.number past) r.runs.running).collects in
            apart collects (sym r.task_is ∙ ap (λ (x : Job). x.task) it)

    each_own : (task : ℕ) (c : Collection) → running_of after task ≡ Some c → task ≡ j.task → OwnRun start (e ∷ past) j after → (i : Job)
        × IsRunningCollection start (e ∷ past) task c i
    each_own task c at is (inl x) =
        let c_is : c ≡ x.0 = same_Some c x.0 (sym at ∙ (ap (running_of after) is ∙ x.1)) in
        (j, rw c_is (rw is x.2))
    each_own task c at is (inr x) = absurd (none-some c (sym x.0 ∙ (ap (running_of after) (sym is) ∙ at)))

    each_by : (task : ℕ) (c : Collection) → running_of after task ≡ Some c → (b : Bool) → j.collects ≡ b → (task ≡ j.task)
        ⊎ (task ≡ j.task → ⊥) → (i : Job) × IsRunningCollection start (e ∷ past) task c i
    each_by task c at false plain is = each_other task c at (λ h. absurd (true≢false (sym h ∙ plain)))
    each_by task c at true collects (inl is) = each_own task c at is (own collects)
    each_by task c at true collects (inr apart) = each_other task c at (λ h. apart)

    all_own : (b : ℕ) → RunsOnBlock start (e ∷ past) j b → OwnRun start (e ∷ past) j after → (c : Collection) × (running_of after j.task ≡ Some c)
        × (c.victim ≡ b)
    all_own b runs (inl x) = (x.0, x.1, same_Some x.0.victim b (sym x.2.runs.victim ∙ runs.victim))
    all_own b runs (inr x) = absurd (true≢false (sym runs.running ∙ x.1))

    all_by : (i : Job) (b : ℕ) → RunsOnBlock start (e ∷ past) i b → (i.number ≡ j.number) ⊎ (i.number ≡ j.number → ⊥) → (c : Collection)
        × (running_of after i.task ≡ Some c) × (c.victim ≡ b)
    all_by i b runs (inl number) =
        let it : i ≡ j = same_job (jobs past) i j numbered (subst (λ (js : List Job). Contains js i) same runs.stands) stands number in
        rw it (all_own b (subst (λ (x : Job). RunsOnBlock start (e ∷ past) x b) it runs)
        (own (subst (λ (x : Job). x.collects ≡ true) it (runs_says start.plan i (acts i.number (e ∷ past)) runs.running).collects)))
    all_by i b runs (inr apart) =
        let old = others.all i b apart (runs_before start e past i b (quiet i apart)
        (subst (λ (js : List Job). Contains js i) same runs.stands) runs) in
        (old.1.0, rest i.task old.0 ∙ old.1.1, old.1.2)

-- Before the head acts

-- of the collections that run, those that aren't the head's are of other tasks
pub others_run : (start : Start) (past : Log) (j : Job) (f : FlashState) → AreTrueAccounts start past → AreNumbered 0 (jobs past)
    → job_at past j.number ≡ Some j → (j.collects ≡ true → is_pending start.plan (λ n. acts n past) (is_waived past) j ≡ true)
    → AreRunning start past f.running → OthersRun start past j f
others_run start past j f h numbered at pending_j r = record {
  len = r.len;
  each = λ task c apart at_task. r.each task c at_task;
  all = λ i b apart runs. (
    λ collects same. apart (ap (λ (x : Job). x.number)
        (one_pending start past i j h (stands_at (jobs past) i numbered runs.stands) at (running_pending start past i h runs.running)
        (pending_j collects) same)),
    r.all i b runs,
  );
}

-- nor does a collection that takes its victim change them
pub others_begun : (start : Start) (past : Log) (j : Job) (f g : FlashState) (o : Option Collection) → j.collects ≡ true → g.running
    ≡ slice_set f.running j.task o → OthersRun start past j f → OthersRun start past j g
others_begun start past j f g o collects is others = record {
  len = ap length is ∙ (length-set f.running j.task o ∙ others.len);
  each = λ task c apart at. others.each task c apart (sym (other_running f.running j.task task o (apart collects))
      ∙ (ap (λ (l : List (Option Collection)). running_of l task) (sym is) ∙ at));
  all = λ i b apart runs.
      let old = others.all i b apart runs in (
        old.0,
        (
          old.1.0,
          ap (λ (l : List (Option Collection)). running_of l i.task) is
              ∙ (other_running f.running j.task i.task o (old.0 collects) ∙ old.1.1),
          old.1.2,
        ),
      );
}

-- a task whose pending collection has not begun runs none
pub runs_none : (start : Start) (past : Log) (j : Job) (running : List (Option Collection)) → AreTrueAccounts start past → AreNumbered 0 (jobs past)
    → job_at past j.number ≡ Some j → is_pending start.plan (λ n. acts n past) (is_waived past) j ≡ true
    → work j.number past ≡ 0 → AreRunning start past running → running_of running j.task ≡ None
runs_none start past j running h numbered at pending_j fresh r = by_found (running_of running j.task) refl
  where
    by_found : (o : Option Collection) → running_of running j.task ≡ o → o ≡ None
    by_found None e = refl
    by_found (Some c) e =
        let i = r.each j.task c e in
        let same = one_pending start past i.0 j h (stands_at (jobs past) i.0 numbered i.1.runs.stands) at
        (running_pending start past i.0 h i.1.runs.running) pending_j i.1.task_is in
        absurd (omega (
          arith,
          (runs_says start.plan i.0 (acts i.0.number past) i.1.runs.running).begun,
          fresh,
          ap
              (λ (x : Job). work x.number past) same,
        ))
