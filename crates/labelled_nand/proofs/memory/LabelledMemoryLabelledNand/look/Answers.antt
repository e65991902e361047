use Rattle.std.proofs.Common.{◌≤◌, length, map, sym, ap, ◌∙◌, subst, Option, Result}
use Rattle.std.specs.Prelude.{IfOk, option_map}
use Rattle.std.proofs.lemmas.Bool.{ltb-true}
use Rattle.slot_types.specs.declared.refusals.Refusal.{Refusal}
use Rattle.die_mount.specs.declared.label.Label.{Label as Told}
use Rattle.flash_die.specs.Flash.{cell_at}
use Rattle.power_loss.specs.Labels.{label_at}
use Rattle.labelled_nand.specs.Looks.{Shows}
use Rattle.labelled_nand.specs.declared.look.Look.{Look}
use Rattle.labelled_nand.specs.Memory.{block_labels, device_block, label_of}
use Rattle.labelled_nand.specs.MemoryView.{cells_of}
use Rattle.labelled_nand.proofs.Marking.{cell_is, label_is, no_label, shows_blank, shows_good, shows_torn, within}
use Rattle.labelled_nand.proofs.memory.LabelledMemoryLabelledNand.look.Goals as goal
use Rattle.labelled_nand.proofs.memory.LabelledMemoryLabelledNand.look.Goals.{in-None, in-Some+in-None-label, in-Some+in-Some-label}

pub returns-clause-shows : goal.returns-clause-shows
returns-clause-shows c =
    let all = c.self.inside.blocks.items in
    let place = c.args.place in
    let r = c.index.result.now in
    let label = label_at (map block_labels (map cells_of all)) place in
    let held = cell_at (map device_block (map cells_of all)) place in
    let h = rw (← c.self.view_is) at c.requires.in_range in
    let lt = within all place.block r c.index.ensures h in
    rw (← c.self.view_is) (elim c.match-get.branch [
      | in-None w ↦ (
          let none = rw w.in-None.is at c.get.ensures.lookup in
          let past : length r.cells.items ≤ place.page = rw c.deref.ensures.value at none.3 in
          subst (λ (x : Result Look Refusal). IfOk x (Shows label held)) (sym w.result-is)
          (shows_blank label held (no_label all place r c.index.ensures lt past)))
      | in-Some+in-None-label w ↦ (
          let look = rw c.deref.ensures.value at w.in-Some.ensures.lookup in
          let below = ltb-true place.page (length r.cells.items) (sym look.0) in
          subst (λ (x : Result Look Refusal). IfOk x (Shows label held)) (sym w.result-is)
          (shows_torn label held (label_is all place r c.index.ensures lt w.in-Some.cell.now below look.1
          ∙ ap (λ (x : Option Told). option_map (label_of w.in-Some.cell.now.bytes) x) w.in-None-label.is)))
      | in-Some+in-Some-label w ↦ (
          let look = rw c.deref.ensures.value at w.in-Some.ensures.lookup in
          let below = ltb-true place.page (length r.cells.items) (sym look.0) in
          subst (λ (x : Result Look Refusal). IfOk x (Shows label held)) (sym w.result-is)
          (shows_good label held w.in-Some.cell.now.bytes w.in-Some-label.label (label_is all place r c.index.ensures lt w.in-Some.cell.now below look.1
          ∙ ap (λ (x : Option Told). option_map (label_of w.in-Some.cell.now.bytes) x) w.in-Some-label.is)
          (cell_is all place r c.index.ensures lt w.in-Some.cell.now below look.1)))
    ])
