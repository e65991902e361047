use Rattle.std.proofs.Common.{◌+◌, take, sym, subst}
use Rattle.std.specs.List.{AllZip}
use Rattle.toml.specs.View.{view}
use Rattle.flashplan_fit.specs.Sheets.{IsNeedIn}
use Rattle.flashplan_fit.proofs.Zips.{zip_more}
use Rattle.flashplan_fit.proofs.sheet_texts.needs_of.Goals as goal

pub loop-i-preserved : goal.loop-i-preserved
loop-i-preserved c = subst (λ l. AllZip (λ v need. IsNeedIn (view v) need) (take (c.loop-i.i + 1) c.args.tables.now) l)
    (sym c.in_ok-push.ensures.ok)
    (zip_more (λ v need. IsNeedIn (view v) need) c.args.tables.now c.loop-i.needs c.loop-i.i c.index-tables-i.result c.in_ok-need.need
    c.loop-i-test.true c.loop-i.invariant
    (subst (λ v. IsNeedIn (view v) c.in_ok-need.need) c.index-tables-i.is c.in_ok-need.ensures))
