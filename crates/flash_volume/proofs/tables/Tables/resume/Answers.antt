use Rattle.die_checkpoint.proofs.Looking.{in_cells}
use Rattle.flash_volume.proofs.Resuming.{few_valid}
use Rattle.flash_volume.proofs.tables.Tables.resume.Goals as goal

pub bind_all-requires-clause-cells : goal.bind_all-requires-clause-cells
bind_all-requires-clause-cells c =
    rw (c.as_slice.ensures, c.requires.blank.placed_is) (in_cells c.args.plan.now c.args.checkpoint.now c.requires.fits.all_else)

pub close_all-requires-clause-few : goal.close_all-requires-clause-few
close_all-requires-clause-few c =
    rw (c.map.ensures, c.bind_all.ensures, c.as_slice.ensures, c.as_slice-blocks.ensures) (λ b. few_valid c.args.plan.now c.args.checkpoint.now b c.requires.fits)
