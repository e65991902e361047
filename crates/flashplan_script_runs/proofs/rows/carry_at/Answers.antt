use Rattle.std.proofs.lemmas.Result.{on_ok_weaker}
use Rattle.flashplan_script_runs.specs.RunningDies.{IsCarriedTo}
use Rattle.flashplan_script_runs.proofs.EachDie.{each_stays, one_carried, starts_stay}
use Rattle.flashplan_script_runs.proofs.rows.carry_at.Goals as goal

pub returns-clause-ran : goal.returns-clause-ran
returns-clause-ran g c =
    let f = g.D.ScriptDie.running in
    on_ok_weaker c.carry_to.result
    (λ (carried : IsCarriedTo c.args.slot (f c.index_mut.result.now) (f c.carry_to.new.self)).
    one_carried f c.args.dies.now.items c.args.place c.args.slot c.index_mut.result.now c.carry_to.new.self c.index_mut.ensures.value
    carried)
    c.carry_to.ensures.carried

pub returns-clause-starts : goal.returns-clause-starts
returns-clause-starts g c =
    starts_stay g.D.ScriptDie.running c.args.dies.now.items c.args.place c.index_mut.result.now c.carry_to.new.self c.carry_to.ensures.start
    c.index_mut.ensures.value

pub returns-clause-well : goal.returns-clause-well
returns-clause-well g c =
    each_stays g.D.ScriptDie.runs_well c.args.dies.now.items c.args.place c.index_mut.result.now c.carry_to.new.self c.requires.there
    c.index_mut.ensures.value c.carry_to.ensures.well
