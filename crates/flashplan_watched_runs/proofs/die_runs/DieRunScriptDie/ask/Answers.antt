use Rattle.std.proofs.Common.{sym, subst}
use Rattle.flashplan_watched_runs.specs.Failing.{RunsWell}
use Rattle.flashplan_watched_runs.proofs.WellRuns.{taken_well, untaken_well}
use Rattle.flashplan_watched_runs.proofs.die_runs.DieRunScriptDie.ask.Goals as goal

pub returns-in-Ok-clause-well : goal.returns-in-Ok-clause-well
returns-in-Ok-clause-well c = λ well.
    taken_well c.args.event c.in-Ok.field-0 c.deref_mut.result.now c.arrive.new.die c.requires.arrival c.in-Ok.ensures
    (subst RunsWell (sym c.deref_mut.ensures.value) well)

pub returns-in-Err-clause-well : goal.returns-in-Err-clause-well
returns-in-Err-clause-well c = λ well.
    untaken_well c.args.event c.in-Err.refusal c.deref_mut.result.now c.arrive.new.die c.requires.arrival c.in-Err.ensures
    (subst RunsWell (sym c.deref_mut.ensures.value) well)
