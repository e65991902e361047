use Rattle.std.proofs.Common.{refl}
use Rattle.flashplan_design.proofs.Changing.{still}
use Rattle.flashplan_design.proofs.attempts.tried.Goals as goal

pub returns-clause-alike : goal.returns-clause-alike
returns-clause-alike c =
    still c.args.which c.args.plan c.args.plan c.with_number-plan.result c.args.n (λ n. refl) c.with_number-plan.ensures
