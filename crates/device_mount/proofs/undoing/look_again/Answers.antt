use Rattle.std.proofs.Common.{◌∙◌, sym}
use Rattle.std.proofs.lemmas.Result.{on_ok_weaker}
use Rattle.device_mount.proofs.Again.{few_pages, quiet, told_none, told_same, within}
use Rattle.device_mount.proofs.undoing.look_again.Goals as goal

pub look_at-requires-clause-in_range : goal.look_at-requires-clause-in_range
look_at-requires-clause-in_range g c =
    within g.N.Nand.shape_of g.N.Nand.blocks g.N.LabelledNand.labels g.N.Nand.failures c.args.plan.now c.args.part.now c.requires.part
    c.args.block c.requires.block

pub look_at-requires-clause-pages : goal.look_at-requires-clause-pages
look_at-requires-clause-pages g c =
    sym (few_pages g.N.Nand.shape_of g.N.Nand.blocks g.N.LabelledNand.labels g.N.Nand.failures c.args.plan.now c.args.part.now c.requires.part)

pub look_at-requires-clause-quiet : goal.look_at-requires-clause-quiet
look_at-requires-clause-quiet g c =
    quiet g.N.Nand.shape_of g.N.Nand.blocks g.N.LabelledNand.labels g.N.Nand.failures c.args.plan.now c.args.part.now c.requires.part
    c.args.block

pub returns-then-block-without-clause-cells : goal.returns-then-block-without-clause-cells
returns-then-block-without-clause-cells g c =
    c.clear.ensures.items
    ∙ told_none g.N.Nand.shape_of g.N.Nand.blocks g.N.LabelledNand.labels g.N.Nand.failures c.args.plan.now c.args.part.now
    c.requires.part c.args.block c.args.without c.requires.block c.if-block-without.true

pub returns-clause-cells : goal.returns-clause-cells
returns-clause-cells g c =
    on_ok_weaker c.look_at.result (λ e. e
    ∙ told_same g.N.Nand.shape_of g.N.Nand.blocks g.N.LabelledNand.labels g.N.Nand.failures c.args.plan.now c.args.part.now
    c.requires.part c.args.block c.args.without c.requires.block c.if-block-without.false) c.look_at.ensures.cells
