use Rattle.std.proofs.Common.{append_assoc}
use Rattle.flashplan_run_figures.specs.Tables.{fewest_of_rate}
use Rattle.flashplan_run_figures.proofs.lasting_rows.put_fewest.Goals as goal

pub returns : goal.returns
unfolding fewest_of_rate
returns c = simp append_assoc (rw c.from.ensures at (rw c.slots-slots.ensures at c.write.ensures.bytes))
