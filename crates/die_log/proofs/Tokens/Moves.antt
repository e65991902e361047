-- Each move of pages keeps the accounts in agreement.
use Rattle.std.proofs.Common.{◌≡◌, ℕ, ◌+◌, ◌<◌, ◌≤◌, length, get_or, inl, inr, ap, ◌∙◌, arith}
use Rattle.std.proofs.lemmas.Bool.{cases_eq}
use Rattle.slot_types.specs.declared.plans.DiePlan.{DiePlan}
use Rattle.plan_rules.specs.Accounts.{Accounts, given_of, accounts_after_admit, accounts_after_write, accounts_after_copy, accounts_after_collection, accounts_after_waiver}
use Rattle.die_log.specs.Invariants.TrueAccounts.{AccountsAgree, reserve_full}
use Rattle.die_log.specs.Invariants.TrueAccounts.{at_task}
use Rattle.die_log.proofs.Tokens.Amounts.{added, at_itself, at_other, added_at, taken_at, sum_added, sum_taken, length_added, length_taken}

-- the same accounts, with the same amounts otherwise said
pub agree_same : (plan : DiePlan) (a : Accounts) (held lent held' lent' : ℕ → ℕ) (owed free owed' free' : ℕ)
    → AccountsAgree plan a held lent owed free
    → ((t : ℕ) → held t ≡ held' t) → ((t : ℕ) → lent t ≡ lent' t) → owed ≡ owed' → free ≡ free' → AccountsAgree plan a held' lent' owed' free'
agree_same plan a held lent held' lent' owed free owed' free' g hs ls os fs = record {
  plan_is = g.plan_is;
  balances_len = g.balances_len;
  holds_len = g.holds_len;
  reserves_len = g.reserves_len;
  owned = g.owned;
  holds_are = λ t h. g.holds_are t h ∙ hs t;
  reserves_are = λ t h. omega (arith, g.reserves_are t h, ls t);
  owed_is = g.owed_is ∙ os;
  total_is = g.total_is ∙ fs;
}

-- a job is taken
pub agree_admitted : (plan : DiePlan) (a : Accounts) (held lent held' : ℕ → ℕ) (owed free task w : ℕ) → AccountsAgree plan a held lent owed free
    → task < length plan.caps → w ≤ get_or a.balances task 0 → ((t : ℕ) → held' t ≡ held t + at_task task w t)
    → AccountsAgree plan (accounts_after_admit a task w) held' lent (owed + w) free
agree_admitted plan a held lent held' owed free task w g h le hs =
    let b : task < length a.balances = omega (arith, g.balances_len) in
    let d : task < length a.holds = omega (arith, g.holds_len) in
    record {
      plan_is = g.plan_is;
      balances_len = length_taken a.balances task w ∙ g.balances_len;
      holds_len = length_added a.holds task w ∙ g.holds_len;
      reserves_len = g.reserves_len;
      owned = λ t. omega (arith, g.owned t, taken_at a.balances task w t b le, added_at a.holds task w t d);
      holds_are = λ t k. omega (arith, g.holds_are t k, added_at a.holds task w t d, hs t);
      reserves_are = g.reserves_are;
      owed_is = omega (arith, g.owed_is, sum_added a.holds task w d);
      total_is = omega (arith, g.total_is, sum_added a.holds task w d, sum_taken a.balances task w b le);
    }

-- a write is carried
pub agree_written : (plan : DiePlan) (a : Accounts) (held lent held' : ℕ → ℕ) (owed free task owed' free' : ℕ)
    → AccountsAgree plan a held lent owed free
    → task < length plan.caps → ((t : ℕ) → held t ≡ held' t + at_task task 1 t) → owed ≡ owed' + 1 → free ≡ free' + 1
    → AccountsAgree plan (accounts_after_write a task) held' lent owed' free'
agree_written plan a held lent held' owed free task owed' free' g h hs os fs =
    let d : task < length a.holds = omega (arith, g.holds_len) in
    let le : 1 ≤ get_or a.holds task 0 = omega (arith, g.holds_are task h, hs task, at_itself task 1) in
    record {
      plan_is = g.plan_is;
      balances_len = g.balances_len;
      holds_len = length_taken a.holds task 1 ∙ g.holds_len;
      reserves_len = g.reserves_len;
      owned = λ t. omega (arith, g.owned t, taken_at a.holds task 1 t d le);
      holds_are = λ t k. omega (arith, g.holds_are t k, taken_at a.holds task 1 t d le, hs t);
      reserves_are = g.reserves_are;
      owed_is = omega (arith, g.owed_is, sum_taken a.holds task 1 d le);
      total_is = omega (arith, g.total_is, sum_taken a.holds task 1 d le);
    }

-- a copy is carried
pub agree_copied : (plan : DiePlan) (a : Accounts) (held lent lent' : ℕ → ℕ) (owed free task free' : ℕ) → AccountsAgree plan a held lent owed free
    → task < length plan.caps → lent task < reserve_full plan → ((t : ℕ) → lent' t ≡ lent t + at_task task 1 t) → free ≡ free' + 1
    → AccountsAgree plan (accounts_after_copy a task) held lent' owed free'
agree_copied plan a held lent lent' owed free task free' g h few ls fs =
    let d : task < length a.reserves = omega (arith, g.reserves_len) in
    let le : 1 ≤ get_or a.reserves task 0 = omega (arith, g.reserves_are task h) in
    record {
      plan_is = g.plan_is;
      balances_len = g.balances_len;
      holds_len = g.holds_len;
      reserves_len = length_taken a.reserves task 1 ∙ g.reserves_len;
      owned = g.owned;
      holds_are = g.holds_are;
      reserves_are = λ t k. omega (arith, g.reserves_are t k, taken_at a.reserves task 1 t d le, ls t);
      owed_is = g.owed_is;
      total_is = omega (arith, g.total_is, sum_taken a.reserves task 1 d le);
    }

-- what is given keeps to the cap
gift_fits : (plan : DiePlan) (a : Accounts) (held lent : ℕ → ℕ) (owed free task : ℕ) → AccountsAgree plan a held lent owed free → task
    < length plan.caps
    → (t : ℕ) → get_or (added a.balances task (given_of a task)) t 0 + get_or a.holds t 0 ≤ get_or plan.caps t 0
gift_fits plan a held lent owed free task g h t =
    let b : task < length a.balances = omega (arith, g.balances_len) in
    elim (cases_eq t task) [
      | inl e ↦ rw e (omega (
        arith,
        g.owned task,
        ap (λ (p : DiePlan). get_or p.caps task 0) g.plan_is,
        added_at a.balances task
            (given_of a task) task b,
        at_itself task (given_of a task),
      ))
      | inr apart ↦ omega (arith, g.owned t, added_at a.balances task (given_of a task) t b, at_other task (given_of a task) t apart)
    ]

-- a collection is waived
pub agree_waived : (plan : DiePlan) (a : Accounts) (held lent : ℕ → ℕ) (owed free task : ℕ) → AccountsAgree plan a held lent owed free
    → task < length plan.caps → plan.alpha ≤ a.spare → AccountsAgree plan (accounts_after_waiver a task) held lent owed free
agree_waived plan a held lent owed free task g h le =
    let b : task < length a.balances = omega (arith, g.balances_len) in
    record {
      plan_is = g.plan_is;
      balances_len = length_added a.balances task (given_of a task) ∙ g.balances_len;
      holds_len = g.holds_len;
      reserves_len = g.reserves_len;
      owned = gift_fits plan a held lent owed free task g h;
      holds_are = g.holds_are;
      reserves_are = g.reserves_are;
      owed_is = g.owed_is;
      total_is = omega (arith, g.total_is, ap (λ (p : DiePlan). p.alpha) g.plan_is, sum_added a.balances task (given_of a task) b);
    }

-- a collection is done
pub agree_settled : (plan : DiePlan) (a : Accounts) (held lent lent' : ℕ → ℕ) (owed free task copied free' : ℕ)
    → AccountsAgree plan a held lent owed free
    → plan.alpha ≤ plan.shape.pages → task < length plan.caps → ((t : ℕ) → lent t ≡ lent' t + at_task task copied t) → free'
    ≡ free + plan.shape.pages
    → AccountsAgree plan (accounts_after_collection a task copied) held lent' owed free'
agree_settled plan a held lent lent' owed free task copied free' g fits h ls fs =
    let b : task < length a.balances = omega (arith, g.balances_len) in
    let d : task < length a.reserves = omega (arith, g.reserves_len) in
    let few : copied ≤ reserve_full plan = omega (arith, g.reserves_are task h, ls task, at_itself task copied) in
    record {
      plan_is = g.plan_is;
      balances_len = length_added a.balances task (given_of a task) ∙ g.balances_len;
      holds_len = g.holds_len;
      reserves_len = length_added a.reserves task copied ∙ g.reserves_len;
      owned = gift_fits plan a held lent owed free task g h;
      holds_are = g.holds_are;
      reserves_are = λ t k. omega (arith, g.reserves_are t k, added_at a.reserves task copied t d, ls t);
      owed_is = g.owed_is;
      total_is = omega (
        arith,
        g.total_is,
        ap (λ (p : DiePlan). p.alpha) g.plan_is,
        ap (λ (p : DiePlan). p.shape.pages) g.plan_is,
        sum_added
            a.balances task (given_of a task) b,
        sum_added a.reserves task copied d,
        few,
      );
    }
