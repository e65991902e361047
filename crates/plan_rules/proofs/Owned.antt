-- What a task owns, its balance and its hold, through the moves of the accounts.
use Rattle.std.proofs.Common.{◌≡◌, ℕ, ◌+◌, ◌-◌, ◌<◌, ◌≤◌, min, length, get_or, slice_index, slice_set, inl, inr, arith}
use Rattle.std.specs.Prelude.{◌≢◌}
use Rattle.std.proofs.lemmas.Bool.{cases_eq}
use Rattle.std.proofs.lemmas.List.{get_or-set_same, get_or-set_other}
use Rattle.plan_rules.specs.Accounts.{Accounts, owned_of, given_of, accounts_after_admit, accounts_after_write, accounts_after_collection, accounts_after_waiver}

-- what a collection gives brings its task up to its cap, or alpha pages higher
pub given_owned : (a : Accounts) (task : ℕ) → task < length a.balances → owned_of a task ≤ slice_index a.plan.caps task
    → slice_index (slice_set a.balances task (slice_index a.balances task + given_of a task)) task + slice_index a.holds task
    ≡ min (slice_index a.plan.caps task) (owned_of a task + a.plan.alpha)
given_owned a task below owned = omega (arith, owned, get_or-set_same a.balances task (get_or a.balances task 0 + given_of a task) 0 below)

-- and leaves what others own
pub settled_others : (a : Accounts) (task copied other : ℕ) → other ≢ task → owned_of (accounts_after_collection a task copied) other ≡ owned_of a other
settled_others a task copied other apart = omega (
  arith,
  get_or-set_other a.balances task other (get_or a.balances task 0 + given_of a task)
      0 apart,
)

pub waived_others : (a : Accounts) (task other : ℕ) → other ≢ task → owned_of (accounts_after_waiver a task) other ≡ owned_of a other
waived_others a task other apart = omega (
  arith,
  get_or-set_other a.balances task other (get_or a.balances task 0 + given_of a task) 0
      apart,
)

-- an accepted job moves what its task owns
pub admitted_owned : (a : Accounts) (task writes other : ℕ) → task < length a.balances → task < length a.holds → writes
    ≤ slice_index a.balances task
    → owned_of (accounts_after_admit a task writes) other ≡ owned_of a other
admitted_owned a task writes other b h have = elim (cases_eq other task) [
  | inl e ↦
      rw e (omega (
        arith,
        have,
        get_or-set_same a.balances task (get_or a.balances task 0 - writes) 0 b,
        get_or-set_same a.holds task (get_or a.holds task 0 + writes) 0 h,
      ))
  | inr apart ↦
      omega (
        arith,
        get_or-set_other a.balances task other (get_or a.balances task 0 - writes) 0 apart,
        get_or-set_other a.holds task other (get_or a.holds task 0 + writes) 0 apart,
      )
]

-- a write takes one page of what its task owns
pub spent_owned : (a : Accounts) (task : ℕ) → task < length a.holds → 0 < slice_index a.holds task → owned_of (accounts_after_write a task) task + 1
    ≡ owned_of a task
spent_owned a task h some = omega (arith, some, get_or-set_same a.holds task (get_or a.holds task 0 - 1) 0 h)

pub spent_others : (a : Accounts) (task other : ℕ) → other ≢ task → owned_of (accounts_after_write a task) other ≡ owned_of a other
spent_others a task other apart = omega (arith, get_or-set_other a.holds task other (get_or a.holds task 0 - 1) 0 apart)
