use Rattle.std.proofs.Common.{◌≤◌, refl}
use Rattle.std.proofs.lemmas.Result.{on_ok_weaker}
use Rattle.flashplan_kept_runs.specs.KeptDies.{KeptStart}
use Rattle.flashplan_kept_runs.specs.KeptRuns.{TakesRow}
use Rattle.flashplan_kept_runs.proofs.EachDie.{begins_stay, one_begins, one_took_row}
use Rattle.flashplan_kept_runs.proofs.rows.run_row.Goals as goal

pub take_row-requires-clause-within : goal.take_row-requires-clause-within
take_row-requires-clause-within g c =
    one_begins (λ (begun : KeptStart). c.args.item.at ≤ begun.life) g.D.KeptScriptDie.kept c.args.dies.now.items c.args.item.die
    c.index_mut.result.now c.requires.there c.index_mut.ensures.value c.requires.within

pub returns-clause-ran : goal.returns-clause-ran
returns-clause-ran g c =
    let f = g.D.KeptScriptDie.kept in
    on_ok_weaker c.take_row.result
    (λ (taken : TakesRow c.args.item (f c.index_mut.result.now) (f c.take_row.new.die)).
    one_took_row f c.args.dies.now.items c.args.item.die c.index_mut.result.now c.take_row.new.die c.args.item refl
    c.index_mut.ensures.value taken)
    c.take_row.ensures.taken

pub returns-clause-begins : goal.returns-clause-begins
returns-clause-begins g c =
    begins_stay g.D.KeptScriptDie.kept c.args.dies.now.items c.args.item.die c.index_mut.result.now c.take_row.new.die
    c.take_row.ensures.begun c.index_mut.ensures.value
