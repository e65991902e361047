use Rattle.std.proofs.Common.{slice_get, arith, sym, ap, ◌∙◌}
use Rattle.job_table.specs.Jobs.{JobRecord}
use Rattle.job_table.proofs.Reading.{writes_before_next, op_in_row}
use Rattle.job_table.proofs.jobs.Job.next_op.Goals as goal

pub get-requires-clause-writes : goal.get-requires-clause-writes
get-requires-clause-writes c = writes_before_next c.self.inside.ops.now.ops c.self.inside.row.now c.self.invariant.fits (omega arith)

pub returns : goal.returns
returns c =
    sym c.get.ensures
    ∙ sym (op_in_row c.self.inside.ops.now.ops c.self.inside.row.now c.self.inside.row.now.work (omega arith))
    ∙ ap (λ (j : JobRecord). slice_get j.ops j.work) c.self.view_is
