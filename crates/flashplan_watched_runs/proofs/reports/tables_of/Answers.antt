use Rattle.flashplan_watched_runs.proofs.TablesSoFar.{all_told, none_yet, one_more}
use Rattle.flashplan_watched_runs.proofs.reports.tables_of.Goals as goal

pub loop-die-init : goal.loop-die-init
loop-die-init c = none_yet c.args.units c.args.all.now _ c.new-text.ensures.items

pub loop-die-preserved : goal.loop-die-preserved
loop-die-preserved c =
    one_more c.args.units c.args.all.now c.loop-die.die c.index-all-die.result c.loop-die.text.items _ c.put_figures.new.text.items
    c.index-all-die.is c.loop-die-test.true c.in_ok-put_figures.ensures.ok c.loop-die.invariant

pub returns-clause-text : goal.returns-clause-text
returns-clause-text c = all_told c.args.units c.args.all.now c.loop-die.die _ c.loop-die-test.false c.loop-die.invariant
