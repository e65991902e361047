use Rattle.std.proofs.Common.{◌∷◌, ap, sym, ◌∙◌, add-one, arith}
use Rattle.slot_core.specs.Renewals.{MayBeRenewed}
use Rattle.die_service.proofs.Making.{none_of}
use Rattle.die_service.proofs.renewing.+may_all.Goals as goal

pub returns-in_default-clause-may : goal.returns-in_default-clause-may
returns-in_default-clause-may g t c = none_of MayBeRenewed c.args.dies.now c.in_default.ensures.cases

pub returns-in-Err-clause-refused : goal.returns-in-Err-clause-refused
returns-in-Err-clause-refused g t c = rw c.in-Some.ensures.cases.0 c.in-Err.ensures.refused

pub returns-in-Err-clause-within : goal.returns-in-Err-clause-within
returns-in-Err-clause-within g t c = rw c.in-Some.ensures.cases.0 (omega arith)

pub returns-in-Err-clause-same : goal.returns-in-Err-clause-same
returns-in-Err-clause-same g t c = ap (λ die. die ∷ c.in-Some.dies.now) c.may_renew.ensures.unchanged ∙ sym c.in-Some.ensures.cases.0

pub returns-in-Ok-clause-may : goal.returns-in-Ok-clause-may
returns-in-Ok-clause-may g t c = rw c.in-Some.ensures.cases.0 (c.in_default-may_renew.ensures.may, c.in-Ok.ensures.may)

pub returns-in-Ok-clause-same : goal.returns-in-Ok-clause-same
returns-in-Ok-clause-same g t c = ap (λ die. die ∷ c.may_all.new.dies) c.may_renew.ensures.unchanged
    ∙ ap (λ dies. c.in-Some.die.now ∷ dies) c.may_all.ensures.same ∙ sym c.in-Some.ensures.cases.0

pub returns-in-Err-may_all-clause-refused : goal.returns-in-Err-may_all-clause-refused
returns-in-Err-may_all-clause-refused g t c =
    rw (c.in-Some.ensures.cases.0, add-one) (c.in_default-may_renew.ensures.may, c.in-Err-may_all.ensures.refused)

pub returns-in-Err-may_all-clause-within : goal.returns-in-Err-may_all-clause-within
returns-in-Err-may_all-clause-within g t c = rw c.in-Some.ensures.cases.0 (omega (arith, c.in-Err-may_all.ensures.within))

pub returns-in-Err-may_all-clause-same : goal.returns-in-Err-may_all-clause-same
returns-in-Err-may_all-clause-same g t c = ap (λ die. die ∷ c.may_all.new.dies) c.may_renew.ensures.unchanged
    ∙ ap (λ dies. c.in-Some.die.now ∷ dies) c.may_all.ensures.same ∙ sym c.in-Some.ensures.cases.0
