use Rattle.std.proofs.Common.{rules, ◌≡◌, ◌<◌, ◌∙◌, ap, sym, subst, arith}
use Rattle.std.specs.Prelude.{Option, Result, IfOk}
use Rattle.slot_types.specs.declared.refusals.Refusal.{Refusal}
use Rattle.flash_die.specs.Flash.{Block, cell_at}
use Rattle.labelled_nand.specs.Looks.{Shows}
use Rattle.labelled_nand.specs.declared.look.Look.{Look}
use Rattle.power_loss.specs.Labels.{label_at}
use Rattle.spare_blocks.specs.declared.cells.Cell.{Cell}
use Rattle.spare_blocks.specs.Spares.{spared_blocks}
use Rattle.spare_blocks.proofs.PlanCells.{block_is, count_is}
use Rattle.labelled_spares.specs.Labels.{look_of, spared_labels}
use Rattle.labelled_spares.proofs.Looked.{shows_cell}
use Rattle.labelled_spares.proofs.labelled.LabelledSparesLabelledNand.look.Goals as goal
use Rattle.labelled_spares.proofs.labelled.LabelledSparesLabelledNand.look.Goals.{in-Ok, in-Err}

pub cell-requires-clause-in_range : goal.cell-requires-clause-in_range
cell-requires-clause-in_range g c =
    let h = rw (← c.self.view_is) at c.requires.in_range in
    omega (arith, h, count_is g.D.WearingNand.blocks c.self.inside.spares)

pub cell-requires-clause-quiet : goal.cell-requires-clause-quiet
cell-requires-clause-quiet g c =
    let d = c.self.inside.spares in
    let h = rw (← c.self.view_is) at c.requires.in_range in
    let lt : c.args.place.block < d.shape.blocks = omega (arith, h, count_is g.D.WearingNand.blocks d) in
    sym (ap (λ (b : Block). b.erasing) (block_is g.D.WearingNand.blocks d c.args.place.block lt)) ∙ (rw (← c.self.view_is) at c.requires.quiet)

pub returns-clause-shows : goal.returns-clause-shows
returns-clause-shows g c =
    let d = c.self.inside.spares in
    let h = rw (← c.self.view_is) at c.requires.in_range in
    let lt : c.args.place.block < d.shape.blocks = omega (arith, h, count_is g.D.WearingNand.blocks d) in
    let label = label_at (spared_labels g.D.WearingNand.blocks g.D.WearingNand.next d).blocks c.args.place in
    let held = cell_at (spared_blocks g.D.WearingNand.blocks d) c.args.place in
    rw (← c.self.view_is) (elim c.match-cell.branch [
      | in-Ok w ↦ subst (λ (x : Result Look Refusal). IfOk x (Shows label held)) (sym w.result-is)
          (subst (λ (y : Look). Shows label held y) (sym w.look_of.ensures)
          (subst (λ (o : Option Cell). Shows label held (look_of o)) (sym w.in-Ok.ensures.cell)
          (shows_cell g.D.WearingNand.blocks g.D.WearingNand.next d c.args.place lt)))
      | in-Err w ↦ subst (λ (x : Result Look Refusal). IfOk x (Shows label held)) (sym w.result-is) tt
    ])
