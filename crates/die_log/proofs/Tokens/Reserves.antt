-- What single accounts are.
use Rattle.std.proofs.Common.{◌≡◌, ℕ, ◌+◌, ◌<◌, ◌≤◌, true, length, get_or, Some, arith}
use Rattle.slot_types.specs.declared.plans.DiePlan.{DiePlan}
use Rattle.plan_rules.specs.Bound.{fmax_of}
use Rattle.die_log.specs.Model.Log.{Log, Job, jobs, job_at, acts, is_waived}
use Rattle.plan_rules.specs.Accounts.{Accounts}
use Rattle.die_log.specs.Model.Accounts.{accounts}
use Rattle.die_log.specs.Invariants.TrueAccounts.{reserve_full}
use Rattle.die_log.specs.Invariants.TrueAccounts.{AccountsAgree}
use Rattle.die_log.specs.Invariants.TrueAccounts.{is_pending, copied_of, AreTrueAccounts}
use Rattle.die_log.proofs.Tokens.Sums.{lent_alone}
use Rattle.die_log.proofs.Tokens.Amounts.{sum_le}
use Rattle.plan_rules.proofs.Totals.{sums_le}
use Rattle.die_log.specs.Model.Start.{Start}

-- while a collection of a task is neither done nor waived, its collector's reserve lacks what it copied
pub reserve_lacks : (start : Start) (log : Log) (j : Job) → AreTrueAccounts start log → job_at log j.number ≡ Some j → j.task < length start.plan.caps
    → is_pending start.plan (λ n. acts n log) (is_waived log) j ≡ true
    → get_or (accounts start log).reserves j.task 0 + copied_of (λ n. acts n log) j ≡ reserve_full start.plan
reserve_lacks start log j h known within is =
    omega (
      arith,
      h.agree.reserves_are j.task within,
      lent_alone start.plan (λ n. acts n log) (is_waived log) (jobs log) j.number j
          (h.one_each j.task) known is,
    )

-- while few pages are spare, few are free
pub few_free : (plan : DiePlan) (a : Accounts) (held lent : ℕ → ℕ) (owed free : ℕ) → AccountsAgree plan a held lent owed free → a.spare < plan.alpha
    → free ≤ fmax_of plan
few_free plan a held lent owed free g short =
    omega (
      arith,
      short,
      g.total_is,
      sums_le a.balances a.holds plan.caps g.balances_len g.holds_len g.owned,
      sum_le a.reserves (reserve_full plan) (length plan.caps) g.reserves_len (λ t h. omega (arith, g.reserves_are t h)),
    )
