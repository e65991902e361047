-- The accounts of a die without a call.
use Rattle.std.proofs.Common.{◌≡◌, ℕ, ◌*◌, List, [], length, get_or, replicate, sum_by, refl, ap, ◌∙◌, inl, inr, arith}
use Rattle.std.proofs.lemmas.List.Folds.{sum_by-replicate}
use Rattle.std.proofs.lemmas.Bool.{cases_lt}
use Rattle.std.proofs.lemmas.List.{length-replicate, get_or-replicate, get_or_past}
use Rattle.slot_types.specs.declared.plans.DiePlan.{DiePlan}
use Rattle.plan_rules.specs.Bound.{MeetsBound}
use Rattle.die_log.specs.Model.Flash.{free_in, free_block, fresh_cells}
use Rattle.plan_rules.specs.Accounts.{opening_accounts}
use Rattle.plan_rules.proofs.Totals.{room}
use Rattle.die_log.specs.Invariants.TrueAccounts.{AccountsAgree, reserve_full}
use Rattle.die_log.specs.Invariants.TrueAccounts.{AreTrueAccounts}
use Rattle.die_log.specs.Model.Start.{Start}
use Rattle.die_log.specs.Model.Opening.{IsOpening}

abbrev pub zeros : ℕ → List ℕ
zeros n = replicate n 0

pub none_at : (n i : ℕ) → get_or (zeros n) i 0 ≡ 0
none_at n i = elim (cases_lt i n) [
  | inl below ↦ get_or-replicate n i 0 0 below
  | inr past ↦ get_or_past (zeros n) i 0 (omega (arith, past, length-replicate {A = ℕ} n 0))
]

all_free : (plan : DiePlan) → sum_by (free_in plan) (fresh_cells plan).blocks ≡ plan.shape.blocks * plan.shape.pages
all_free plan = sum_by-replicate (free_in plan) plan.shape.blocks free_block ∙ ap (λ n. plan.shape.blocks * n) (omega arith)

pub agree_opening : (plan : DiePlan) → MeetsBound plan → AccountsAgree plan (opening_accounts plan) (λ t. 0) (λ t. 0) 0 (sum_by (free_in plan) (fresh_cells plan).blocks)
agree_opening plan bound =
    let tasks : ℕ = length plan.caps in
    record {
      plan_is = refl;
      balances_len = refl;
      holds_len = length-replicate (length plan.caps) 0;
      reserves_len = length-replicate (length plan.caps) (reserve_full plan);
      owned = λ t. omega (arith, none_at (length plan.caps) t);
      holds_are = λ t h. none_at (length plan.caps) t;
      reserves_are = λ t h. omega (arith, get_or-replicate (length plan.caps) t (reserve_full plan) 0 h);
      owed_is = omega (arith, sum_by-replicate (λ (n : ℕ). n) (length plan.caps) 0);
      total_is = omega (
        arith,
        all_free plan,
        room plan bound,
        sum_by-replicate (λ (n : ℕ). n) (length plan.caps) 0,
        sum_by-replicate (λ (n : ℕ). n) (length plan.caps) (reserve_full plan),
      );
    }

pub true_opening : (start : Start) → IsOpening start → AreTrueAccounts start []
true_opening start bound = record {
  agree = bound.agree;
  taken = tt;
  one_each = λ t. omega arith;
  idle_waived = λ n e. absurd cc;
}
