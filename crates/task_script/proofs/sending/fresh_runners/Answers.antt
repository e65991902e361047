use Rattle.std.proofs.Common.{◌≡◌, ◌+◌, ◌<◌, ◌∙◌, ℕ, List, [], ◌∷◌, ◌++◌, ap, append-nil, append_assoc, arith, drop, get_or, length, subst, sym}
use Rattle.std.proofs.lemmas.Grind.{common_steps}
use Rattle.std.proofs.lemmas.List.{drop_all, drop_more}
use Rattle.std.specs.List.{AllZip}
use Rattle.slot_types.specs.declared.plans.DiePlan.{DiePlan}
use Rattle.task_script.specs.RowRunners.{IsFreshOf}
use Rattle.task_script.specs.declared.row_runners.RowRunner.{RowRunner}
use Rattle.task_script.proofs.sending.fresh_runners.Goals as goal

-- one runner more
fresh_more : (plans : List DiePlan) (i : ℕ) (plan : DiePlan) (old new : List RowRunner) (r : RowRunner) → i < length plans
    → plan ≡ get_or plans i plan → new ≡ old ++ r ∷ [] → IsFreshOf plan r
    → ((rs : List RowRunner) → AllZip IsFreshOf (drop i plans) rs → AllZip IsFreshOf plans (old ++ rs))
    → (rs : List RowRunner) → AllZip IsFreshOf (drop (i + 1) plans) rs → AllZip IsFreshOf plans (new ++ rs)
fresh_more plans i plan old new r below at is fresh all rs rest =
    subst (AllZip IsFreshOf plans) (sym (ap (λ (xs : List RowRunner). xs ++ rs) is ∙ append_assoc old (r ∷ []) rs))
    (all (r ∷ rs) (subst (λ (ps : List DiePlan). AllZip IsFreshOf ps (r ∷ rs))
    (sym (drop_more plans i plan below ∙ ap (λ (p : DiePlan). p ∷ drop (i + 1) plans) (sym at))) (fresh, rest)))

fresh_all : (plans left : List DiePlan) (rs : List RowRunner) → left ≡ []
    → ((more : List RowRunner) → AllZip IsFreshOf left more → AllZip IsFreshOf plans (rs ++ more)) → AllZip IsFreshOf plans rs
fresh_all plans left rs none all =
    subst (AllZip IsFreshOf plans) (append-nil rs) (all [] (subst (λ (ps : List DiePlan). AllZip IsFreshOf ps []) (sym none) tt))

pub returns-clause-fresh : goal.returns-clause-fresh
returns-clause-fresh c =
    fresh_all c.args.plans.now (drop c.loop-plan.plan-index c.args.plans.now) c.loop-plan.runners.items
    (drop_all c.loop-plan.plan-index c.args.plans.now c.loop-plan-test.false) c.loop-plan.invariant

pub loop-plan-init : goal.loop-plan-init
loop-plan-init c = grind (arith, common_steps)

pub new-requires : goal.new-requires
new-requires c = grind (arith, common_steps)

pub loop-plan-preserved : goal.loop-plan-preserved
loop-plan-preserved c =
    fresh_more c.args.plans.now c.loop-plan.plan-index c.plan-item.result c.loop-plan.runners.items _ _ c.loop-plan-test.true
    c.plan-item.is c.in_ok-push.ensures.items c.in_ok-new.ensures.fresh c.loop-plan.invariant
