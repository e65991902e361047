-- The accounts of a die at a quiet moment.
use Rattle.std.specs.Prelude.{ℕ, ◌-◌, List, length, replicate}
use Rattle.slot_types.specs.declared.plans.DiePlan.{DiePlan}
use Rattle.plan_rules.specs.Accounts.{Accounts}

-- these pages are spare and these in balances; no task holds any for a job, and each reserve is whole
abbrev pub quiet_accounts : DiePlan → ℕ → List ℕ → Accounts
quiet_accounts plan spare balances = record {
  plan = plan;
  spare = spare;
  balances = balances;
  holds = replicate (length plan.caps) 0;
  reserves = replicate (length plan.caps) (plan.shape.pages - plan.alpha);
}
