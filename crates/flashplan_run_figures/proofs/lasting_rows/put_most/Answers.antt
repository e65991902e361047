use Rattle.std.proofs.Common.{append_assoc}
use Rattle.flashplan_run_figures.specs.Tables.{most_erased}
use Rattle.flashplan_run_figures.proofs.lasting_rows.put_most.Goals as goal

pub returns : goal.returns
unfolding most_erased
returns c = simp append_assoc c.write.ensures.bytes
