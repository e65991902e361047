use Rattle.std.proofs.Common.{slice_get, arith, sym, ap, ◌∙◌}
use Rattle.job_table.specs.Jobs.{JobRecord}
use Rattle.job_table.proofs.Reading.{op_in_row}
use Rattle.job_table.proofs.jobs.Job.op.Goals as goal

pub returns : goal.returns
returns c =
    sym c.get.ensures
    ∙ sym (op_in_row c.self.inside.ops.now.ops c.self.inside.row.now c.args.place (omega arith))
    ∙ ap (λ (j : JobRecord). slice_get j.ops c.args.place) c.self.view_is
