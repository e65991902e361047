use Rattle.flashplan_kept_runs.proofs.ReadSoFar.{then_slots}
use Rattle.flashplan_kept_runs.proofs.script_runs.run_dies.Goals as goal

pub returns-clause-ran : goal.returns-clause-ran
returns-clause-ran g c =
    then_slots g.D.KeptScriptDie.kept _ c.args.slots _ c.carry_all.new.dies.items c.in_ok-rows.ensures.read c.carry_all.ensures.ran
