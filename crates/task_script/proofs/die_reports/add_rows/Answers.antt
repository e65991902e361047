use Rattle.std.proofs.Common.{arith, refl}
use Rattle.std.proofs.lemmas.Grind.{common_steps}
use Rattle.task_script.proofs.DieRows.{none_more, one_more}
use Rattle.task_script.proofs.die_reports.add_rows.Goals as goal

pub loop-number-preserved : goal.loop-number-preserved
loop-number-preserved g c =
    one_more _ _ _ _ _ _ _ _ c.promises.ensures.legal c.in-Some.ensures.summary c.in_ok-add_job-in-Some.ensures.ok c.loop-number.invariant

pub returns-in-None-clause-ok : goal.returns-in-None-clause-ok
returns-in-None-clause-ok g c = none_more c.args.core.now.start c.args.core.now.log c.args.die c.loop-number.number c.args.text.now
    c.loop-number.text (c.in-None.ensures.unknown.0 refl) c.loop-number.invariant

pub loop-number-init : goal.loop-number-init
loop-number-init g c = grind (arith, common_steps)

pub returns-clause-ok : goal.returns-clause-ok
returns-clause-ok g c = grind (arith, common_steps)
