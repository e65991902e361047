use Rattle.flashplan_script_runs.proofs.ReadSoFar.{then_slots}
use Rattle.flashplan_script_runs.proofs.script_runs.run_dies.Goals as goal

pub returns-clause-ran : goal.returns-clause-ran
returns-clause-ran g c = then_slots _ c.args.slots _ _ _ c.in_ok-refused.ensures.ran c.in_ok-carry_all.ensures.ran
