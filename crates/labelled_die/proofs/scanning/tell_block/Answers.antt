use Rattle.std.proofs.Common.{◌∙◌, ap, sym, subst, length, arith, List, Option}
use Rattle.slot_types.specs.declared.plans.Shape.{Shape}
use Rattle.die_mount.specs.declared.label.Label.{Label as Told}
use Rattle.die_mount.specs.Scanned.{IsScanOf}
use Rattle.power_loss.specs.Aside.{part_of}
use Rattle.power_loss.specs.Labels.{Shown}
use Rattle.labelled_die.specs.Scanning.{blocks_shown, cells_shown}
use Rattle.labelled_die.proofs.Passing.{of_ok}
use Rattle.labelled_die.proofs.Seeing.{blocks_len, blocks_more, cells_len, untold_on}
use Rattle.labelled_die.proofs.scanning.tell_block.Goals as goal

pub unreachable-requires : goal.unreachable-requires
unreachable-requires g c =
    let full = rw c.in-Err-NoMoreBlocks.field-0-is at c.in-Err-NoMoreBlocks.ensures.fault in
    omega (
      arith,
      full,
      c.requires.scan.told,
      blocks_len (g.N.LabelledNand.labels c.args.part.now).blocks c.args.plan.now.shape.pages c.args.block,
      ap (λ (s : Shape). s.blocks) c.requires.scan.shape,
      c.requires.more,
      ap (λ (s : Shape). s.blocks) c.requires.shape,
    )

pub unreachable-requires-in-Err-TooManyCells : goal.unreachable-requires-in-Err-TooManyCells
unreachable-requires-in-Err-TooManyCells g c =
    let many = rw c.in-Err-TooManyCells.field-0-is at c.in-Err-TooManyCells.ensures.fault in
    let ls = (g.N.LabelledNand.labels c.args.part.now).blocks in
    let told = of_ok c.look_at.result (sym c.is_err.ensures.value ∙ c.if-is_err.false) c.look_at.ensures.cells in
    omega (
      arith,
      many.1,
      ap (λ (xs : List (Option Told)). length xs) (c.as_slice.ensures.value ∙ told),
      cells_len ls c.args.block c.args.plan.now.shape.pages,
      ap (λ (s : Shape). s.pages) c.requires.scan.shape,
    )

pub returns-in-Ok-clause-scan : goal.returns-in-Ok-clause-scan
returns-in-Ok-clause-scan g c =
    let ls = (g.N.LabelledNand.labels c.args.part.now).blocks in
    let pages = c.args.plan.now.shape.pages in
    let told = of_ok c.look_at.result (sym c.is_err.ensures.value ∙ c.if-is_err.false) c.look_at.ensures.cells in
    subst (λ (seen : Shown). IsScanOf (part_of c.args.plan.now) c.tell.new.self seen) (sym (blocks_more ls pages c.args.block))
    (c.in-Ok.ensures.ok (part_of c.args.plan.now) (blocks_shown ls pages c.args.block) (cells_shown ls c.args.block pages) c.requires.scan
    (c.as_slice.ensures.value ∙ told))

pub returns-in-Ok-clause-untold : goal.returns-in-Ok-clause-untold
returns-in-Ok-clause-untold g c = untold_on c.args.scan.now.erases c.tell.new.self.erases c.args.scan.now.told c.in-Ok.ensures.erases c.requires.untold
