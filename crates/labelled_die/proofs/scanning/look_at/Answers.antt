use Rattle.std.proofs.Common.{◌∙◌, ◌++◌, ◌∷◌, [], List, Option, ap, sym, length, arith}
use Rattle.std.specs.Prelude.{option_map}
use Rattle.die_mount.specs.declared.label.Label.{Label as Told}
use Rattle.die_mount.specs.Told.{told_cells, told_label}
use Rattle.flash_die.specs.Flash.{cell_at}
use Rattle.power_loss.specs.Labels.{Labels, label_at}
use Rattle.labelled_die.specs.Scanning.{cells_shown}
use Rattle.labelled_die.proofs.Seeing.{cells_len, cells_more, looked}
use Rattle.labelled_die.proofs.scanning.look_at.Goals as goal

pub push_reserved-requires : goal.push_reserved-requires
push_reserved-requires g c = omega (
  arith,
  ap (λ (xs : List (Option Told)). length xs) c.loop-page.invariant.cells,
  cells_len (g.N.LabelledNand.labels c.args.part.now).blocks c.args.block c.loop-page.page,
  c.loop-page.cells.ok,
  c.loop-page.invariant.room,
  c.clear.ensures.capacity,
  c.requires.room,
  c.loop-page-test.true,
)

pub loop-page-preserved : goal.loop-page-preserved
loop-page-preserved g c =
    let ls = g.N.LabelledNand.labels c.args.part.now in
    let k = c.loop-page.page in
    let inv = c.loop-page.invariant in
    let told = c.label_of.ensures
    (label_at (g.N.LabelledNand.labels c.loop-page.part).blocks (record { block = c.args.block; page = k }))
    (cell_at (g.N.Nand.blocks c.loop-page.part) (record { block = c.args.block; page = k })) c.in-Ok.ensures.shows in
    record {
      cells = c.push_reserved.ensures.items
          ∙ (ap (λ (xs : List (Option Told)). xs ++ c.label_of.result ∷ []) inv.cells
          ∙ (ap (λ (x : Option Told). told_cells (cells_shown ls.blocks c.args.block k) ++ x ∷ []) (told
          ∙ ap (λ (l : Labels). option_map told_label (label_at l.blocks (record { block = c.args.block; page = k }))) inv.same.labels_are)
          ∙ sym (cells_more ls.blocks c.args.block k)));
      room = c.push_reserved.ensures.capacity ∙ inv.room;
      same = looked g.N.Nand.shape_of g.N.Nand.failures g.N.Nand.blocks g.N.LabelledNand.labels c.args.part.now c.loop-page.part c.look.new.self
          inv.same (record {
            shape = c.in-Ok.ensures.shape;
            well = c.in-Ok.ensures.fails.well;
            blocks_are = c.in-Ok.ensures.blocks;
            labels_are = c.in-Ok.ensures.labels;
          });
      lasts = λ had. c.look.ensures.lasts (inv.lasts had);
    }
