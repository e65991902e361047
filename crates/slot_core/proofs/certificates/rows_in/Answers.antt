use Rattle.std.proofs.Common.{sym, ◌∙◌}
use Rattle.slot_core.proofs.Rowing.{rows_added, rows_passed, rows_past, a_row_stands}
use Rattle.slot_core.proofs.certificates.rows_in.Goals as goal
use Rattle.slot_core.proofs.certificates.rows_in.Goals.{in-Some+in-Some-row_in+in_ok-push, in-Some+in_default-row_in, in_default}

pub loop-number-preserved : goal.loop-number-preserved
loop-number-preserved c =
    elim c.match-job.branch [
      | in-Some+in-Some-row_in+in_ok-push w ↦ w.rows-is ∙ (w.in_ok-push.ensures.ok
          ∙ rows_added _ _ _ _ _ w.in-Some.ensures (sym w.row_in.ensures ∙ w.in-Some-row_in.is) c.loop-number.invariant)
      | in-Some+in_default-row_in w ↦ w.rows-is ∙ rows_passed _ _ _ _ w.in-Some.ensures (sym w.row_in.ensures ∙ w.in_default-row_in.is)
          c.loop-number.invariant
      | in_default w ↦ w.rows-is ∙ rows_past c.args.table.now.jobs c.loop-number.number c.loop-number.rows w.in_default.ensures
          c.loop-number.invariant
    ]

pub returns-in_err-push-clause-nothing : goal.returns-in_err-push-clause-nothing
returns-in_err-push-clause-nothing c is =
    absurd (a_row_stands _ _ _ _ c.in-Some.ensures (sym c.row_in.ensures ∙ c.in-Some-row_in.is) is)
