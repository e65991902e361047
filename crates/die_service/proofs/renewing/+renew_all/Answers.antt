use Rattle.std.proofs.Common.{arith}
use Rattle.die_service.proofs.Making.{none_renewed, renewed_at_start}
use Rattle.die_service.proofs.renewing.+renew_all.Goals as goal

pub returns-in_default-clause-renewed : goal.returns-in_default-clause-renewed
returns-in_default-clause-renewed g t c = none_renewed c.args.dies.now c.in_default.ensures.cases

pub returns-in_default-clause-start : goal.returns-in_default-clause-start
returns-in_default-clause-start g t c = λ k d below. absurd (omega (arith, below, c.in_default.ensures.cases))

pub unreachable-requires : goal.unreachable-requires
unreachable-requires g t c =
    let may = rw c.in-Some.ensures.cases.0 at c.requires.may in
    c.a_renewal_has_one_answer.ensures.either _ _ c.in_default-renew.ensures.refused may.0

pub returns-clause-renewed : goal.returns-clause-renewed
returns-clause-renewed g t c =
    let may = rw c.in-Some.ensures.cases.0 at c.requires.may in
    rw c.in-Some.ensures.cases.0 (may.0, c.in-Ok.ensures.ok, c.renew_all.ensures.renewed)

pub returns-clause-start : goal.returns-clause-start
returns-clause-start g t c = renewed_at_start c.args.dies.now _ (returns-clause-renewed g t c)
