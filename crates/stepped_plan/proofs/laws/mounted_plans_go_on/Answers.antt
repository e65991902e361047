use Rattle.std.proofs.Common.{ℕ, List, ap, sym, subst}
use Rattle.die_checkpoint.specs.declared.checkpoint.Checkpoint.{Checkpoint}
use Rattle.planned_die.specs.Resuming.{HaveEnough}
use Rattle.stepped_plan.proofs.laws.mounted_plans_go_on.Goals as goal

pub returns : goal.returns
returns c = λ m end terms longest life why e fits demand supply some long other.
    c.stocked_checkpoints_go_on.ensures m.plan terms longest life end.checkpoint fits demand supply some long
    (subst (λ (balances : List ℕ). HaveEnough m.plan terms balances) (sym (ap (λ (k : Checkpoint). k.balances) e.checkpoint))
    (c.full_checkpoints_are_stocked.ensures.enough m.plan terms)) why other
