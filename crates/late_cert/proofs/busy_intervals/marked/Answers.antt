use Rattle.std.proofs.Common.{◌∙◌, arith}
use Rattle.late_cert.proofs.Marks.{marked-yes, marked-no}
use Rattle.late_cert.proofs.busy_intervals.marked.Goals as goal
use Rattle.late_cert.proofs.busy_intervals.marked.Goals.{then-marks-i+in_ok-push, else-marks-i}

pub loop-i-preserved : goal.loop-i-preserved
loop-i-preserved c =
    elim c.if-marks-i.branch [
      | then-marks-i+in_ok-push w ↦
          w.jobs-is ∙ w.in_ok-push.ensures.ok
          ∙ marked-yes _ _ _ _ c.args.marks.now c.requires c.loop-i.i w.index-rows-i.result _ (omega arith) w.if-marks-i.true
          c.loop-i.invariant
      | else-marks-i w ↦
          w.jobs-is ∙ marked-no _ _ _ _ c.args.marks.now c.requires c.loop-i.i _ (omega arith) w.if-marks-i.false c.loop-i.invariant
    ]
