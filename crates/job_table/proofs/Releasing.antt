-- A step of letting the released ones go ahead, and its end.
use Rattle.std.proofs.Common.{◌≡◌, ℕ, suc, ◌+◌, ◌<◌, ◌≤◌, Bool, true, false, cond, nat_le, refl, sym, ap, ◌∙◌, subst, arith, List, [], ◌∷◌}
use Rattle.std.proofs.Common.{length, get_or, Some, None}
use Rattle.std.proofs.lemmas.Option.{get_or_from_slice_get}
use Rattle.std.proofs.lemmas.Bool.Decides.{nat_tests}
use Rattle.due_queue.specs.declared.keys.Key.{Key}
use Rattle.due_queue.specs.declared.keys.WaitKey.{WaitKey}
use Rattle.due_queue.specs.Queue.{with_key, first_of, rest_of, IsRising}
use Rattle.due_queue.specs.Keys.{is_due_before, is_released_before, released_by}
use Rattle.due_queue.proofs.Inserted.{rising-inserted}
use Rattle.job_table.specs.Jobs.{JobRecord}
use Rattle.job_table.specs.QueuedKeys.{IsRoomy, AreQueued, AreLater}
use Rattle.job_table.proofs.Keyed.{release_one, absent_key, all_later}
use Rattle.job_table.proofs.Orders.{due_strict}

-- what was popped was first, and is released
pub record IsPopped (now : ℕ) (old rest : List WaitKey) (w : WaitKey) : Type 0 where
  pub old_is : old ≡ w ∷ rest
  pub released : w.release ≤ now

kept_key : (now : ℕ) (k w : WaitKey) → Some w ≡ cond (nat_le k.release now) (Some k) None → (k ≡ w) × (nat_le k.release now ≡ true)
kept_key now k w e = by (nat_le k.release now) refl e
  where
    by : (b : Bool) → nat_le k.release now ≡ b → Some w ≡ cond b (Some k) None → (k ≡ w) × (nat_le k.release now ≡ true)
    by true f e = (cc, f)
    by false f e = absurd cc

pub popped : (now : ℕ) (old rest : List WaitKey) (w : WaitKey) → Some w ≡ released_by now (first_of old)
    → rest ≡ rest_of old
    → IsPopped now old rest w
popped now [] rest w e f = absurd cc
popped now (k ∷ ks) rest w e f =
    let h = kept_key now k w e in
    record {
      old_is = ap (λ v. v ∷ ks) h.0 ∙ ap (λ l. w ∷ l) (sym f);
      released = let g : k.release ≡ w.release = ap (λ (v : WaitKey). v.release) h.0 in let t = h.1 in grind (arith, nat_tests);
    }

pub record IsStep (jobs : List JobRecord) (now : ℕ) (old rest : List WaitKey) (ready ready' : List Key) (spare : ℕ) : Type 0 where
  pub roomy : IsRoomy rest ready' spare
  pub queued : AreQueued jobs now rest ready'
  pub one_fewer : length old ≡ suc (length rest)

pub release_step : (jobs : List JobRecord) (now : ℕ) (old rest : List WaitKey) (ready : List Key) (spare spare' : ℕ) (w : WaitKey)
    (job : JobRecord) (due : ℕ)
    → Some w ≡ released_by now (first_of old) → rest ≡ rest_of old
    → job ≡ get_or jobs w.number job → due ≡ job.due
    → spare' + 1 ≡ spare
    → IsRoomy old ready spare
    → AreQueued jobs now old ready
    → IsStep jobs now old rest ready (with_key is_due_before (record { due = due; number = w.number }) ready) spare'
release_step jobs now old rest ready spare spare' w job due first_is rest_is read due_is less roomy queued =
    let pop = popped now old rest w first_is rest_is in
    let key : Key = record { due = due; number = w.number } in
    let rising : IsRising is_released_before (w ∷ rest) = subst (IsRising is_released_before) pop.old_is roomy.waiting_rises in
    let q : AreQueued jobs now (w ∷ rest) ready = subst (λ l. AreQueued jobs now l ready) pop.old_is queued in
    let len : length old ≡ suc (length rest) = ap length pop.old_is in
    record {
      roomy = record {
        waiting_rises = rising.1;
        ready_rises = rising-inserted is_due_before due_strict key ready (absent_key jobs now w rest ready due q) roomy.ready_rises;
        room = let h : length old ≤ spare = roomy.room in omega arith;
      };
      queued = release_one jobs now w rest ready due pop.released
          (λ other at_w. due_is ∙ ap (λ j. j.due) (read ∙ get_or_from_slice_get jobs w.number other job at_w)) rising q;
      one_fewer = len;
    }

-- where none is popped, all are released later
pub none_popped : (now : ℕ) (old : List WaitKey) → None ≡ released_by now (first_of old)
    → IsRising is_released_before old
    → AreLater now old
none_popped now [] e rising = tt
none_popped now (k ∷ ks) e rising = all_later now k ks (by (nat_le k.release now) refl e) rising
  where
    by : (b : Bool) → nat_le k.release now ≡ b → None ≡ cond b (Some k) None → now < k.release
    by true f e = absurd cc
    by false f e = grind (arith, nat_tests)
