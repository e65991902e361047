use Rattle.std.proofs.Common.{◌≡◌, List, ap, length, subst, ◌∙◌}
use Rattle.slot_core.specs.Core.{Core}
use Rattle.die_service.specs.Stores.{AreRenewed, IsFirstNotRenewable}
use Rattle.die_service.proofs.LastPasses.{written}
use Rattle.die_service.proofs.Making.{renewed_at_start, renewed_length}
use Rattle.die_service.proofs.renewing.renew_each.Goals as goal

pub returns-in-Err-clause-refused : goal.returns-in-Err-clause-refused
returns-in-Err-clause-refused g c =
    subst (λ (xs : List (Core g.row.N.Denot)). IsFirstNotRenewable xs c.in-Err.place c.in-Err.refusal) c.as_mut_slice.ensures.value
    c.in-Err.ensures.refused

pub returns-in-Err-clause-back : goal.returns-in-Err-clause-back
returns-in-Err-clause-back g c =
    let same : c.may_all.new.dies ≡ c.args.dies.items = c.may_all.ensures.same ∙ c.as_mut_slice.ensures.value in
    written c.args.dies.len c.args.dies.items c.may_all.new.dies (ap length same) c.args.dies.ok.0 ∙ same

pub renew_all-requires : goal.renew_all-requires
renew_all-requires g c =
    let same : c.may_all.new.dies ≡ c.args.dies.items = c.may_all.ensures.same ∙ c.as_mut_slice.ensures.value in
    let whole = written c.args.dies.len c.args.dies.items c.may_all.new.dies (ap length same) c.args.dies.ok.0 in record {
      may = rw (c.as_mut_slice-2.ensures.value, whole, c.may_all.ensures.same) c.in_default.ensures.may;
    }

pub returns-clause-renewed : goal.returns-clause-renewed
returns-clause-renewed g c =
    let same : c.may_all.new.dies ≡ c.args.dies.items = c.may_all.ensures.same ∙ c.as_mut_slice.ensures.value in
    let whole = written c.args.dies.len c.args.dies.items c.may_all.new.dies (ap length same) c.args.dies.ok.0 ∙ same in
    let are : AreRenewed c.args.dies.items c.renew_all.new.dies =
    subst (λ (xs : List (Core g.row.N.Denot)). AreRenewed xs c.renew_all.new.dies) (c.as_mut_slice-2.ensures.value ∙ whole)
    c.renew_all.ensures.renewed in
    rw (whole, written c.args.dies.len c.args.dies.items c.renew_all.new.dies (renewed_length _ _ are) c.args.dies.ok.0) are

pub returns-clause-start : goal.returns-clause-start
returns-clause-start g c = renewed_at_start c.args.dies.items _ (returns-clause-renewed g c)
