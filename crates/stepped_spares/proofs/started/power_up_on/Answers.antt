use Rattle.std.proofs.Common.{◌≡◌, ◌∙◌, ℕ, List, false, ap, sym, subst}
use Rattle.slot_types.specs.declared.plans.Shape.{Shape}
use Rattle.spare_blocks.specs.Parts.{PartBlock}
use Rattle.spare_blocks.specs.Powering.{IsPoweredTable}
use Rattle.spare_blocks.specs.Spares.{plan_shape}
use Rattle.stepped_spares.specs.Erasing.{AreErased, BeginsErasing}
use Rattle.stepped_spares.proofs.BegunParts.{all_powered, erased_at, erases_spares}
use Rattle.stepped_spares.proofs.started.power_up_on.Goals as goal

pub erase_first-requires-clause-begun : goal.erase_first-requires-clause-begun
erase_first-requires-clause-begun g c =
    let told = c.in_ok-scan.scan in
    let whole = c.in_ok-scan.ensures.scan in (
      false,
      subst (BeginsErasing false c.in_ok-spares.spares) (sym c.in_ok-scan.ensures.blocks)
          (erases_spares (g.D.WearingNand.shape_of c.args.part.now) told c.in_ok-spares.spares (g.D.WearingNand.blocks c.args.part.now) c.in_ok-spares.ensures.powered
          whole.count_is c.requires.powered),
    )

pub returns-clause-powered : goal.returns-clause-powered
returns-clause-powered g c = λ works.
    let told = c.in_ok-scan.scan in
    let whole = c.in_ok-scan.ensures.scan in
    let part = g.D.WearingNand.shape_of c.args.part.now in
    let before = g.D.WearingNand.blocks c.args.part.now in
    let s = c.in_ok-spares.spares in
    let u = c.erase_first.new.spares in
    let after = g.D.WearingNand.blocks c.erase_first.new.part in
    let begins : BeginsErasing false s before = erases_spares part told s before c.in_ok-spares.ensures.powered whole.count_is c.requires.powered in
    let begun : BeginsErasing false s (g.D.WearingNand.blocks c.scan_of.new.part) = subst (BeginsErasing false s) (sym c.in_ok-scan.ensures.blocks) begins in
    let erased : AreErased false s.table u.table before after = subst (λ (l : List PartBlock). AreErased false s.table u.table l after) c.in_ok-scan.ensures.blocks
    (erased_at false u.stage s.table u.table (g.D.WearingNand.blocks c.scan_of.new.part) after _ works (c.erase_first.ensures.erased false begun)) in
    let pages : told.shape.pages ≡ part.pages = ap (λ (x : Shape). x.pages) whole.shape_is ∙ ap (λ (x : Shape). x.pages) c.shape-whole.ensures in
    let there : IsPoweredTable told.shape told.bad u.table part before after =
    all_powered part told s u before after c.requires.powered whole.scan whole.whole whole.count_is pages
    (whole.limits) c.in_ok-spares.ensures.powered c.erase_first.ensures.table erased in
    subst (λ (l : List ℕ). IsPoweredTable (plan_shape c.args.blocks part) l u.table part before after) whole.bad_is
    (subst (λ (x : Shape). IsPoweredTable x told.bad u.table part before after) (whole.shape_is ∙ ap (plan_shape c.args.blocks) c.shape-whole.ensures) there)
