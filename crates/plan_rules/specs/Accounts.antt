-- The accounts of a die, and the six moves that change them.
--
-- Each free page stands in exactly one account: it is spare, or in a task's balance (what its next jobs may write),
-- or in a task's hold (what its accepted jobs still write), or in a collector's reserve (what its copies may take).
--
--              admitted                hold_spent
--   balance ------------> hold ------------------------> programmed by a write
--      ^
--      | waived
--    spare                 reserve --------------------> programmed by a copy
--                                     reserve_spent
--
--   settled: an erased block's pages go to the reserve (as many as were copied), the balance (what is given) and spare
use Rattle.std.specs.Prelude.{◌≡◌, ℕ, ◌+◌, ◌-◌, ◌*◌, ◌≤◌, min, List, length, sum, replicate, slice_index, slice_set}
use Rattle.slot_types.specs.declared.plans.DiePlan.{DiePlan}
use Rattle.plan_rules.specs.Bound.{MeetsBound}

-- the free pages of a die by account; balances, holds and reserves are by task
pub record Accounts : Type 0 where
  pub plan : DiePlan
  pub spare : ℕ
  pub balances : List ℕ
  pub holds : List ℕ
  pub reserves : List ℕ

-- how many pages there are in all accounts
abbrev pub total_of : Accounts → ℕ
total_of accounts = accounts.spare + sum accounts.balances + sum accounts.holds + sum accounts.reserves

-- what a task owns
abbrev pub owned_of : Accounts → ℕ → ℕ
owned_of accounts task = slice_index accounts.balances task + slice_index accounts.holds task

-- what a collection gives its task: alpha pages, or what is missing to the cap
abbrev pub given_of : Accounts → ℕ → ℕ
given_of accounts task = min accounts.plan.alpha (slice_index accounts.plan.caps task - owned_of accounts task)

-- the accounts of a die on which nothing was written: each balance is its cap, each reserve whole, and the rest spare
abbrev pub opening_accounts : DiePlan → Accounts
opening_accounts plan = record {
  plan = plan;
  spare = plan.shape.blocks * plan.shape.pages - sum plan.caps - length plan.caps * (plan.shape.pages - plan.alpha);
  balances = plan.caps;
  holds = replicate (length plan.caps) 0;
  reserves = replicate (length plan.caps) (plan.shape.pages - plan.alpha);
}

-- after a job of the task with `writes` writes is accepted
abbrev pub accounts_after_admit : Accounts → ℕ → ℕ → Accounts
accounts_after_admit accounts task writes = record accounts {
  balances = slice_set accounts.balances task (slice_index accounts.balances task - writes);
  holds = slice_set accounts.holds task (slice_index accounts.holds task + writes);
}

-- after the program of a write
abbrev pub accounts_after_write : Accounts → ℕ → Accounts
accounts_after_write accounts task = record accounts {
  holds = slice_set accounts.holds task (slice_index accounts.holds task - 1);
}

-- after the program of a copy
abbrev pub accounts_after_copy : Accounts → ℕ → Accounts
accounts_after_copy accounts task = record accounts {
  reserves = slice_set accounts.reserves task (slice_index accounts.reserves task - 1);
}

-- after the last erase slot of the task's collection, which copied `copied` pages
abbrev pub accounts_after_collection : Accounts → ℕ → ℕ → Accounts
accounts_after_collection accounts task copied = record accounts {
  spare = accounts.spare + (accounts.plan.shape.pages - copied - given_of accounts task);
  balances = slice_set accounts.balances task (slice_index accounts.balances task + given_of accounts task);
  reserves = slice_set accounts.reserves task (slice_index accounts.reserves task + copied);
}

-- after the task's collection was waived
abbrev pub accounts_after_waiver : Accounts → ℕ → Accounts
accounts_after_waiver accounts task = record accounts {
  spare = accounts.spare - given_of accounts task;
  balances = slice_set accounts.balances task (slice_index accounts.balances task + given_of accounts task);
}

-- what is true of the accounts at every moment: no task owns more than its cap, no reserve is more than whole, and
-- there are no more pages than the die has
pub record AreSoundAccounts (accounts : Accounts) : Type 0 where
  pub bound : MeetsBound accounts.plan
  pub balances_len : length accounts.balances ≡ length accounts.plan.caps
  pub holds_len : length accounts.holds ≡ length accounts.plan.caps
  pub reserves_len : length accounts.reserves ≡ length accounts.plan.caps
  pub owned : (task : ℕ) → owned_of accounts task ≤ slice_index accounts.plan.caps task
  pub reserved : (task : ℕ) → slice_index accounts.reserves task ≤ accounts.plan.shape.pages - accounts.plan.alpha
  pub total : total_of accounts ≤ accounts.plan.shape.blocks * accounts.plan.shape.pages
