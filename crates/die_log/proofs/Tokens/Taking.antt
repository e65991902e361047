-- A job or collection that is taken keeps the accounts true.
use Rattle.std.proofs.Common.{◌≡◌, ℕ, ◌+◌, ◌<◌, ◌≤◌, ◌==◌, ◌&&◌, not, Bool, true, false, cond, eqb, List, [], ◌∷◌, ◌++◌, length, drop}
use Rattle.std.proofs.Common.{count_by, inl, inr, refl, ap, sym, ◌∙◌, arith}
use Rattle.std.specs.List.{AllByRecursion, list_any}
use Rattle.std.proofs.lemmas.Bool.{cases_eq, leb-false, ltb-false, or_parts, ne_eqb}
use Rattle.std.proofs.lemmas.List.Sums.{sum_by-cons, sum_by_push}
use Rattle.slot_types.specs.declared.acts.Act.{Act}
use Rattle.slot_types.specs.declared.events.Op.{Op}
use Rattle.slot_types.specs.declared.events.Event.TheVariants as events
use Rattle.die_log.specs.Model.Log.{Log, Job, jobs, acts, is_waived}
use Rattle.die_log.specs.Model.Flash.{free}
use Rattle.slot_types.specs.Operations.{writes}
use Rattle.die_log.specs.Model.Work.{are_all, owed_writes, is_copy_program}
use Rattle.die_log.specs.Model.Accounts.{accounts}
use Rattle.die_log.specs.Model.Answers.{IsExact, reply_if_accepted, refusals, balance}
use Rattle.die_log.proofs.Legality.{entry}
use Rattle.die_log.proofs.Known.{all_append}
use Rattle.die_log.proofs.Collecting.{no_acts}
use Rattle.die_log.specs.Invariants.TrueAccounts.{at_task, left_of, held_of, is_pending, copied_of, lent_of, lent_to, pending_of, HasTaskAndOps, AreTrueAccounts}
use Rattle.die_log.proofs.Tokens.Sums.{one_if, some_if}
use Rattle.die_log.proofs.Tokens.Moves.{agree_same, agree_admitted}
use Rattle.die_log.specs.Model.Start.{Start}

-- where no test passes, none is counted
none_counted : {X : Type 0} (p q : X → Bool) (xs : List X) → ((x : X) → p x ≡ false → q x ≡ false) → list_any p xs ≡ false → count_by q xs
    ≡ 0
none_counted p q [] f h = refl
none_counted p q (x ∷ xs) f h =
    let parts = or_parts (p x) (list_any p xs) h in
    omega (arith, sum_by-cons (λ y. cond (q y) 1 0) x xs, ap one_if (f x parts.0), none_counted p q xs f parts.1)

turned : (c e d w : Bool) → (c && e && d && w) ≡ false → (e && (c && d && w)) ≡ false
turned true true d w h = h
turned true false d w h = refl
turned false true d w h = refl
turned false false d w h = refl

pub at_none : (task t : ℕ) → at_task task 0 t ≡ 0
at_none task t = by_test (eqb task t)
  where
    by_test : (b : Bool) → some_if b 0 ≡ 0
    by_test true = refl
    by_test false = refl

never : (b : Bool) → one_if (b && false) ≡ 0
never true = refl
never false = refl

lent_nothing : (b : Bool) (n : ℕ) → n ≡ 0 → some_if b n ≡ 0
lent_nothing true n e = e
lent_nothing false n e = refl

at_most : (b c : Bool) → one_if (b && c) ≤ 1
at_most true true = omega arith
at_most true false = omega arith
at_most false c = omega arith

pub keeps_submit : (start : Start) (past : Log) (caller : ℕ) (task : ℕ) (release due : ℕ) (ops : List Op) → IsExact start past
    → AreTrueAccounts start past
    → AllByRecursion (λ c. c.0 ≡ false) (refusals start past (events.Submit task release due ops))
    → AreTrueAccounts start (entry caller (events.Submit task release due ops) (reply_if_accepted start past (events.Submit task release due ops)) ∷ past)
keeps_submit start past caller task release due ops exact h refused =
    let own : ℕ → List Act = λ n. acts n past in
    let j : Job = record { number = length (jobs past); collects = false; task = task; release = release; due = due; ops = ops } in
    let within : task < length start.plan.caps = leb-false (length start.plan.caps) task refused.0 in
    let has : writes ops ≤ balance start past task = ltb-false (balance start past task) (writes ops) refused.1.1.1.1.1.1.1.0 in
    let left : left_of own j ≡ writes ops = ap (λ (l : List Act). writes (drop (length l) ops)) (no_acts start past exact) in
    let old = held_of own (jobs past) in
    record {
      agree = agree_same start.plan _ (held_of own (jobs past ++ j ∷ [])) (lent_to start.plan own (is_waived past) (jobs past))
          (held_of own (jobs past ++ j ∷ [])) (lent_to start.plan own (is_waived past) (jobs past ++ j ∷ [])) (owed_writes past + writes ops)
          (free start past) _ (free start past)
          (agree_admitted start.plan (accounts start past) old (lent_to start.plan own (is_waived past) (jobs past)) (held_of own (jobs past ++ j ∷ []))
          (owed_writes past) (free start past) task (writes ops) h.agree within has
          (λ t. sum_by_push (λ i. at_task i.task (left_of own i) t) (jobs past) j ∙ ap (λ n. old t + at_task task n t) left))
          (λ t. refl)
          (λ t. omega (arith, sum_by_push (λ i. at_task i.task (lent_of start.plan own (is_waived past) i) t) (jobs past) j, at_none task t))
          (omega (arith, sum_by_push (λ i. left_of own i) (jobs past) j, left))
          refl;
      taken = all_append (HasTaskAndOps start.plan) (jobs past) (j ∷ []) h.taken (record { task = within; none = λ e. absurd cc }, tt);
      one_each = λ t. omega (
        arith,
        h.one_each t,
        sum_by_push (λ i. cond ((i.task == t) && is_pending start.plan own (is_waived past) i) 1 0)
            (jobs past) j,
        never (eqb task t),
      );
      idle_waived = h.idle_waived;
    }

pub keeps_collect : (start : Start) (past : Log) (caller : ℕ) (task : ℕ) (release due : ℕ) → IsExact start past → AreTrueAccounts start past
    → AllByRecursion (λ c. c.0 ≡ false) (refusals start past (events.Collect task release due))
    → AreTrueAccounts start (entry caller (events.Collect task release due) (reply_if_accepted start past (events.Collect task release due)) ∷ past)
keeps_collect start past caller task release due exact h refused =
    let own : ℕ → List Act = λ n. acts n past in
    let gone : ℕ → Bool = is_waived past in
    let j : Job = record { number = length (jobs past); collects = true; task = task; release = release; due = due; ops = [] } in
    let within : task < length start.plan.caps = leb-false (length start.plan.caps) task refused.0 in
    let left : left_of own j ≡ 0 = ap (λ (l : List Act). writes (drop (length l) [])) (no_acts start past exact) in
    let copied : copied_of own j ≡ 0 = ap (λ (l : List Act). count_by is_copy_program l) (no_acts start past exact) in
    let lent : lent_of start.plan own gone j ≡ 0 = lent_nothing (is_pending start.plan own gone j) (copied_of own j) copied in
    let idle : pending_of start.plan own gone (jobs past) task
    ≡ 0 = none_counted _ (λ i. (i.task == task) && is_pending start.plan own gone i) (jobs past)
    (λ i e. turned i.collects (i.task == task) (not (are_all start.plan i (own i.number))) (not (gone i.number)) e) refused.1.1.1.0 in
    record {
      agree = agree_same start.plan (accounts start past) (held_of own (jobs past)) (lent_to start.plan own gone (jobs past))
          (held_of own (jobs past ++ j ∷ [])) (lent_to start.plan own gone (jobs past ++ j ∷ [])) (owed_writes past) (free start past) _ (free start past)
          h.agree
          (λ t. omega (
            arith,
            sum_by_push (λ i. at_task i.task (left_of own i) t) (jobs past) j,
            ap (λ n. at_task task n t) left,
            at_none
                task t,
          ))
          (λ t. omega (
            arith,
            sum_by_push (λ i. at_task i.task (lent_of start.plan own gone i) t) (jobs past) j,
            ap (λ n. at_task task n t) lent,
            at_none task t,
          ))
          (omega (arith, sum_by_push (λ i. left_of own i) (jobs past) j, left))
          refl;
      taken = all_append (HasTaskAndOps start.plan) (jobs past) (j ∷ []) h.taken (record { task = within; none = λ e. refl }, tt);
      one_each = λ t. elim (cases_eq t task) [
        | inl e ↦ rw e (omega (
          arith,
          idle,
          sum_by_push (λ i. cond ((i.task == task) && is_pending start.plan own gone i) 1 0) (jobs past) j,
          at_most (eqb task task) (is_pending start.plan own gone j),
        ))
        | inr apart ↦ omega (
          arith,
          h.one_each t,
          sum_by_push (λ i. cond ((i.task == t) && is_pending start.plan own gone i) 1 0) (jobs past) j,
          ap (λ (b : Bool). one_if (b && is_pending start.plan own gone j)) (ne_eqb task t (λ e. apart (sym e))),
        )
      ];
      idle_waived = h.idle_waived;
    }
