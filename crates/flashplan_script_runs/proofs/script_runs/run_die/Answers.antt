use Rattle.flashplan_script_runs.proofs.ReadSoFar.{then_slots_as}
use Rattle.flashplan_script_runs.proofs.script_runs.run_die.Goals as goal

pub returns-clause-ran : goal.returns-clause-ran
returns-clause-ran g c = then_slots_as _ c.args.slots c.args.number _ _ _ c.in_ok-refused.ensures.ran c.in_ok-carry_to.ensures.carried
