use Rattle.std.proofs.Common.{sym, ◌∙◌}
use Rattle.std.specs.Prelude.{is_ok}
use Rattle.slot_core.proofs.Making.{run_makes}
use Rattle.slot_core.proofs.head_steps.take_step.Goals as goal

pub returns-then-collects-clause-makes : goal.returns-then-collects-clause-makes
returns-then-collects-clause-makes g c =
    let collects = sym c.collects.ensures ∙ c.if-collects.true in
    let run = c.requires.fits.run collects in
    run_makes g.N.Nand.ends g.N.Nand.blocks c.args.volume.now c.collect.new.volume c.args.job.now run.collection (is_ok c.collect.result) collects
    run.runs ((rw c.task.ensures at c.collect.ensures.makes) run.collection run.runs)
