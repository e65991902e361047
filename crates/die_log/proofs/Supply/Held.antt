-- A job that is done has no writes left, and a task whose collections are all closed has none pending.
use Rattle.std.proofs.Common.{◌≡◌, ℕ, zero, suc, ◌≤◌, ◌==◌, ◌&&◌, not, Bool, true, false, cond, List, [], ◌∷◌, length, drop, sum_by}
use Rattle.std.proofs.Common.{count_by, Some, refl, ap, sym, ◌∙◌, inl, inr, arith, slice_get}
use Rattle.std.specs.Prelude.{Contains}
use Rattle.std.proofs.lemmas.Bool.{true≢false, eqb-true, and_parts, not-true}
use Rattle.std.proofs.lemmas.List.{drop_all}
use Rattle.std.proofs.lemmas.List.Sums.{sum_by-cons}
use Rattle.slot_types.specs.declared.plans.DiePlan.{DiePlan}
use Rattle.slot_types.specs.declared.acts.Act.{Act}
use Rattle.slot_types.specs.declared.events.Op.{Op}
use Rattle.die_log.specs.Model.Log.{Log, Job, jobs, now, acts, is_waived}
use Rattle.slot_types.specs.Operations.{writes}
use Rattle.die_log.specs.Model.Work.{are_all, is_done, is_erase}
use Rattle.die_log.specs.Invariants.TrueAccounts.{is_pending}
use Rattle.die_log.specs.Results.InTime.{IsInTime}
use Rattle.die_log.specs.Results.Supply.{pending_at}
use Rattle.die_log.proofs.Tokens.Sums.{one_if}
use Rattle.die_log.proofs.LogInvariants.OneMoreEntry.{contained}

pub sum_zero : {X : Type 0} (f : X → ℕ) (xs : List X) → ((k : ℕ) (x : X) → slice_get xs k ≡ Some x → f x ≡ 0) → sum_by f xs ≡ 0
sum_zero f [] h = refl
sum_zero f (x ∷ xs) h = omega (arith, sum_by-cons f x xs, h zero x refl, sum_zero f xs (λ k y e. h (suc k) y e))

-- Jobs

pub none_left : (n : ℕ) (ops : List Op) → length ops ≤ n → writes (drop n ops) ≡ 0
none_left n ops le = ap writes (drop_all n ops le)

pub all_done : (plan : DiePlan) (j : Job) (own : List Act) → j.collects ≡ false → are_all plan j own ≡ true → length own ≡ length j.ops
all_done plan j own kind is = by_kind j.collects kind is
  where
    by_kind : (b : Bool) → b ≡ false → (cond b (count_by is_erase own == plan.shape.erase_slots) (length own == length j.ops)) ≡ true
        → length own ≡ length j.ops
    by_kind true k h = absurd (true≢false k)
    by_kind false k h = eqb-true (length own) (length j.ops) h

-- Collections

-- all collections of a task that are due are done or waived, so none of them is pending
pub pending_none : (plan : DiePlan) (log : Log) (t : ℕ) → IsInTime plan log
    → ((j : Job) → Contains (jobs log) j → j.collects ≡ true → j.task ≡ t → j.due ≤ now log) → pending_at plan log t ≡ 0
pending_none plan log t in_time due_by = sum_zero (λ j. one_if ((j.task == t) && is_pending plan (λ n. acts n log) (is_waived log) j))
    (jobs log) (λ k j e. ap one_if (each k j e _ refl))
  where
    each : (k : ℕ) (j : Job) → slice_get (jobs log) k ≡ Some j → (b : Bool)
        → ((j.task == t) && is_pending plan (λ n. acts n log) (is_waived log) j) ≡ b
        → ((j.task == t) && is_pending plan (λ n. acts n log) (is_waived log) j) ≡ false
    each k j e false is = is
    each k j e true is =
        let task = and_parts (j.task == t) (is_pending plan (λ n. acts n log) (is_waived log) j) is in
        let gone = and_parts (j.collects && not (is_done plan log j)) (not (is_waived log j.number)) task.1 in
        let done = and_parts j.collects (not (is_done plan log j)) gone.0 in
        elim (in_time.due_by_now j (contained (jobs log) k j e) (due_by j (contained (jobs log) k j e) done.0 (eqb-true j.task t task.0))) [
          | inl over ↦ absurd (true≢false (sym over ∙ not-true (is_done plan log j) done.1))
          | inr waived ↦ absurd (true≢false (sym waived ∙ not-true (is_waived log j.number) gone.1))
        ]
