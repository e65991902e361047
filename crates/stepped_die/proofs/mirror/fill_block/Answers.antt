use Rattle.std.proofs.Common.{List, ap, arith, ◌∙◌}
use Rattle.slot_types.specs.declared.pages.PageData.{PageData}
use Rattle.flash_die.specs.Flash.{Block, blocks_after_program}
use Rattle.stepped_die.specs.Names.{names_in}
use Rattle.stepped_die.proofs.Naming.{filled_with, filled_more, next_cell}
use Rattle.stepped_die.proofs.mirror.fill_block.Goals as goal

pub program-requires-clause-next : goal.program-requires-clause-next
program-requires-clause-next c =
    rw (c.loop-page.invariant.blocks, c.loop-page.invariant.shape)
    (next_cell c.args.memory.now.blocks c.args.block c.args.memory.now.shape.pages c.args.map.now.places c.args.names.now c.loop-page.page
    c.requires.in_range c.requires.quiet (omega (arith, c.loop-page-test.true, c.requires.within)))

pub loop-page-preserved : goal.loop-page-preserved
loop-page-preserved c =
    record {
      shape = c.program.ensures.shape ∙ c.loop-page.invariant.shape;
      blocks = c.in-Ok.ensures.blocks
          ∙ ap (λ (blocks : List Block). blocks_after_program blocks c.args.block c.name_in.result) c.loop-page.invariant.blocks
          ∙ ap (λ (bytes : PageData). blocks_after_program (filled_with c.args.memory.now.blocks c.args.block (names_in c.args.map.now.places c.args.names.now c.args.block c.loop-page.page))
          c.args.block bytes) c.name_in.ensures
          ∙ filled_more c.args.memory.now.blocks c.args.block c.args.map.now.places c.args.names.now c.loop-page.page c.requires.in_range;
    }
