use Rattle.std.proofs.Common.{rules, ◌<◌, length}
use Rattle.text_base.proofs.WritingLaws.{flag-kept-then, flag-set-then, on-error, up-to-part, up-to-taken}
use Rattle.text_base.proofs.writing.write_whole.Goals as goal

pub returns-in_err-n-clause-part : goal.returns-in_err-n-clause-part
returns-in_err-n-clause-part g c =
    let some : 0 < length c.loop-left.left.now = search rules in
    on-error c.from_residual.result _ (up-to-part _ _ _ c.args.text.now c.loop-left.left.now c.loop-left.invariant.0 some
    c.in_err-n.ensures.none)

pub returns-in_err-n-clause-failed : goal.returns-in_err-n-clause-failed
returns-in_err-n-clause-failed g c =
    on-error c.from_residual.result _ (flag-set-then _ _ _ c.loop-left.invariant.1 c.in_err-n.ensures.failed)

pub loop-left-preserved : goal.loop-left-preserved
loop-left-preserved g c = (
  up-to-taken _ _ _ _ _ _ c.loop-left.invariant.0 c.in_ok-n.ensures.taken,
  flag-kept-then _ _ _ c.loop-left.invariant.1 c.in_ok-n.ensures.works,
)
