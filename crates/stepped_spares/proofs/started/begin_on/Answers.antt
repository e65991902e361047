use Rattle.std.proofs.Common.{true, sym, subst}
use Rattle.slot_types.specs.declared.plans.Shape.{Shape}
use Rattle.spare_blocks.specs.Preparing.{IsWholePart}
use Rattle.stepped_spares.specs.Erasing.{BeginsErasing}
use Rattle.stepped_spares.proofs.BegunParts.{all_prepared, erases_all}
use Rattle.stepped_spares.proofs.started.begin_on.Goals as goal

pub erase_first-requires-clause-begun : goal.erase_first-requires-clause-begun
erase_first-requires-clause-begun g c = (
  true,
  erases_all (record { blocks = c.args.blocks; pages = c.shape-whole.result.pages; erase_slots = c.shape-whole.result.erase_slots })
      c.shape-whole.result.blocks c.args.bad.now c.in_ok-spares.spares (g.D.WearingNand.blocks c.args.part.now) c.in_ok-spares.ensures.begun
      (subst (λ (s : Shape). IsWholePart s.blocks (g.D.WearingNand.blocks c.args.part.now)) (sym c.shape-whole.ensures) c.requires.whole),
)

pub returns-clause-prepared : goal.returns-clause-prepared
returns-clause-prepared g c = λ works.
    let begun = c.in_ok-spares.ensures.begun in
    let shape : Shape = record { blocks = c.args.blocks; pages = c.shape-whole.result.pages; erase_slots = c.shape-whole.result.erase_slots } in
    let begins : BeginsErasing true c.in_ok-spares.spares (g.D.WearingNand.blocks c.args.part.now) =
    erases_all shape c.shape-whole.result.blocks c.args.bad.now c.in_ok-spares.spares (g.D.WearingNand.blocks c.args.part.now) begun
    (subst (λ (s : Shape). IsWholePart s.blocks (g.D.WearingNand.blocks c.args.part.now)) (sym c.shape-whole.ensures) c.requires.whole) in
    (all_prepared shape c.shape-whole.result.blocks c.args.bad.now c.in_ok-spares.spares c.erase_first.new.spares (g.D.WearingNand.blocks c.args.part.now)
    (g.D.WearingNand.blocks c.erase_first.new.part) (g.D.WearingNand.faulted c.erase_first.new.part) begun (c.erase_first.ensures.erased true begins) works).0

pub returns-clause-count : goal.returns-clause-count
returns-clause-count g c = λ works.
    let begun = c.in_ok-spares.ensures.begun in
    let shape : Shape = record { blocks = c.args.blocks; pages = c.shape-whole.result.pages; erase_slots = c.shape-whole.result.erase_slots } in
    let begins : BeginsErasing true c.in_ok-spares.spares (g.D.WearingNand.blocks c.args.part.now) =
    erases_all shape c.shape-whole.result.blocks c.args.bad.now c.in_ok-spares.spares (g.D.WearingNand.blocks c.args.part.now) begun
    (subst (λ (s : Shape). IsWholePart s.blocks (g.D.WearingNand.blocks c.args.part.now)) (sym c.shape-whole.ensures) c.requires.whole) in
    (all_prepared shape c.shape-whole.result.blocks c.args.bad.now c.in_ok-spares.spares c.erase_first.new.spares (g.D.WearingNand.blocks c.args.part.now)
    (g.D.WearingNand.blocks c.erase_first.new.part) (g.D.WearingNand.faulted c.erase_first.new.part) begun (c.erase_first.ensures.erased true begins) works).1
