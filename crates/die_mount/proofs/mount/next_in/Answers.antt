use Rattle.std.proofs.Common.{◌∙◌, ap, refl, Some}
use Rattle.page_map.proofs.Owners.{same_place, unowned}
use Rattle.slot_types.specs.declared.pages.Place.{Place}
use Rattle.power_loss.proofs.Remounting.{placed_in}
use Rattle.die_mount.proofs.mount.next_in.Goals as goal

pub unreachable-requires : goal.unreachable-requires
unreachable-requires c =
    let cells = c.args.part.now.cells in
    let p = placed_in cells c.args.block (λ none. c.if-valid-eq0.false (c.valid.ensures ∙ none)) in
    let at : Place = record { block = c.args.block; page = p.1.page } in
    unowned cells.places p.0 at (c.in-None.ensures.none p.1.page (c.requires.from p.0 p.1 p.2 p.3) (c.requires.within p.0 p.1 p.2))
    (p.2 ∙ ap (λ (q : Place). Some q) (same_place p.1 at p.3 refl))
