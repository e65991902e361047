use Rattle.std.proofs.Common.{arith}
use Rattle.flashplan_watched_runs.specs.Runs.{running}
use Rattle.flashplan_watched_runs.proofs.FiguresSoFar.{all_told, none_yet, one_more}
use Rattle.flashplan_watched_runs.proofs.reports.all_figures.Goals as goal

pub loop-die-init : goal.loop-die-init
loop-die-init c = none_yet c.args.rows.now c.args.life _ _ c.new-all.ensures.items

pub loop-die-preserved : goal.loop-die-preserved
loop-die-preserved c =
    one_more running c.args.rows.now c.args.life c.args.dies.now c.loop-die.die c.index-dies-die.result c.loop-die.all.items
    c.push_figures.new.all.items c.in_ok-figures_of.field-0 c.index-dies-die.is
    (rw c.deref.ensures at c.in_ok-figures_of.ensures.is) c.in_ok-push_figures.ensures.ok c.loop-die.invariant

pub returns-clause-is : goal.returns-clause-is
returns-clause-is c = all_told running c.args.rows.now c.args.life c.args.dies.now c.loop-die.die _ (omega (arith, c.loop-die-test.false, c.loop-die.auto.die-end)) c.loop-die.invariant
