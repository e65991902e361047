use Rattle.std.proofs.Common.{refl, Option}
use Rattle.std.proofs.lemmas.Result.{IfOk-weaker}
use Rattle.slot_types.specs.declared.refusals.Refusal.{Refusal}
use Rattle.flashplan_script_runs.specs.ScriptRuns.{TakesRow, ended_row}
use Rattle.flashplan_script_runs.proofs.EachDie.{each_stays, one_took_row, starts_stay}
use Rattle.flashplan_script_runs.proofs.rows.take_own.Goals as goal

pub returns-clause-ran : goal.returns-clause-ran
returns-clause-ran g c =
    let f = g.D.ScriptDie.running in
    IfOk-weaker c.take_row.result
    (λ (refusal : Option Refusal). TakesRow (ended_row c.args.item refusal) (f c.index_mut.result.now) (f c.take_row.new.die))
    _
    (λ (refusal : Option Refusal) (taken : TakesRow (ended_row c.args.item refusal) (f c.index_mut.result.now) (f c.take_row.new.die)).
    one_took_row f c.args.dies.now.items c.args.item.die c.index_mut.result.now c.take_row.new.die (ended_row c.args.item refusal) refl
    c.index_mut.ensures.value taken)
    c.take_row.ensures.taken

pub returns-clause-starts : goal.returns-clause-starts
returns-clause-starts g c =
    starts_stay g.D.ScriptDie.running c.args.dies.now.items c.args.item.die c.index_mut.result.now c.take_row.new.die c.take_row.ensures.start
    c.index_mut.ensures.value

pub returns-clause-well : goal.returns-clause-well
returns-clause-well g c =
    each_stays g.D.ScriptDie.runs_well c.args.dies.now.items c.args.item.die c.index_mut.result.now c.take_row.new.die c.requires.there
    c.index_mut.ensures.value c.take_row.ensures.well
