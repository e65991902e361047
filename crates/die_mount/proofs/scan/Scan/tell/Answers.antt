use Rattle.std.proofs.Common.{◌≡◌, ◌+◌, refl, ap, sym, ◌∙◌, subst, arith}
use Rattle.std.specs.Prelude.{slice_set}
use Rattle.std.specs.Vec.{with_items}
use Rattle.std.proofs.lemmas.List.{with_items_is}
use Rattle.power_loss.specs.Mounted.{all_count, found_in_block}
use Rattle.die_mount.specs.Scanned.{Scanned, IsScanOf, found_of}
use Rattle.die_mount.specs.SoundScan.{scanned_of}
use Rattle.die_mount.specs.Told.{shown_cells}
use Rattle.die_mount.proofs.Telling.{scan_more}
use Rattle.die_mount.proofs.scan.Scan.tell.Goals as goal

pub returns-clause-ok : goal.returns-clause-ok
returns-clause-ok c = λ plan seen shown h told.
    let before : Scanned = scanned_of c.self.inside in
    let after : Scanned = record {
      shape = c.self.inside.shape;
      places = c.take_block.new.map.places;
      serials = (with_items c.self.inside.serials c.take_block.new.serials).items;
      told = c.self.inside.told + 1;
      newest = c.newer-self-inside.result;
      erases = slice_set c.self.inside.erases.items c.self.inside.told c.args.erases;
    } in
    let same : (with_items c.self.inside.serials c.take_block.new.serials).items ≡ c.take_block.new.serials =
    with_items_is c.self.inside.serials c.take_block.new.serials (omega (arith, c.take_block.auto.serials, c.deref_mut.ensures.len)) in
    let older : IsScanOf plan before seen = subst (λ s. IsScanOf plan s seen) (sym c.self.view_is) h in
    scan_more plan before after seen c.args.cells.now shown c.greatest_in.result older told refl c.take_block.ensures.pages refl
    (λ page lt. ap (λ l. found_of c.take_block.new.map.places l page) same ∙ c.take_block.ensures.found page lt
    ∙ ap (λ l. found_in_block (all_count page) page c.self.inside.told 0 (shown_cells c.args.cells.now) (found_of c.self.inside.map.places l page))
    c.deref_mut.ensures.value) c.greatest_in.ensures c.newer-self-inside.ensures
