-- What a device in a file is after a call that touches none of its cells, and once its blocks count as closed.
use Rattle.std.proofs.Common.{◌≡◌, ℕ, ◌-◌, List, [], ◌∷◌, ◌++◌, length, map, replicate, zero, suc, Option, None, refl, ap, sym, ◌∙◌, subst, arith}
use Rattle.std.proofs.lemmas.List.{length-map, map-append}
use Rattle.slot_types.specs.declared.plans.Shape.{Shape}
use Rattle.flash_die.specs.Flash.{Block, free_block}
use Rattle.flash_volume.specs.Checkpoints.{IsAsLeft}
use Rattle.power_loss.specs.Aside.{without_aside}
use Rattle.power_loss.specs.Labels.{Label}
use Rattle.labelled_nand.specs.Memory.{Marked, MarkedCells, block_labels, cell_label, closed_cells, device_block, device_blocks, device_labels, torn_cell}
use Rattle.saving_nand.specs.Saving.{IsLeftFor, closed_labels}
use Rattle.saving_nand.specs.declared.saved.Saved.{Saved}
use Rattle.file_nand.specs.Filed.{IsSoundFiled}

pub kept : (next again : ℕ) (m n : Marked) (failed : ℕ) (saved : Option Saved) → IsSoundFiled next (record { marked = m; failed = failed; saved = saved })
    → n.shape ≡ m.shape → device_blocks n ≡ device_blocks m → again ≡ n.next
    → IsSoundFiled again (record { marked = n; failed = failed; saved = saved })
kept next again m n failed saved h shape blocks number = record {
  next_is = number;
  left = λ s e. stays s (h.left s e);
}
  where
    stays : (s : Saved) → IsLeftFor m.shape (device_blocks m) (device_labels m) failed s → IsLeftFor n.shape (device_blocks n) (device_labels n) failed s
    stays s l =
        let many : length (device_blocks n) ≡ n.shape.blocks =
        ap (λ (bs : List Block). length bs) blocks ∙ (l.count ∙ sym (ap (λ (x : Shape). x.blocks) shape)) in
        record {
          count = many;
          labelled = length-map n.blocks block_labels ∙ (sym (length-map n.blocks device_block) ∙ many);
          stands = omega (arith, l.stands, ap (λ (x : Shape). x.blocks) shape);
          left = subst (λ (x : Shape). IsAsLeft s.checkpoint (without_aside (x.blocks - 1) s.aside free_block (device_blocks n)) failed) (sym shape)
              (subst (λ (bs : List Block). IsAsLeft s.checkpoint (without_aside (m.shape.blocks - 1) s.aside free_block bs) failed) (sym blocks) l.left);
        }

-- Labels of blocks that count as closed

none_there : (n : ℕ) → map cell_label (replicate n torn_cell) ≡ replicate n None
none_there zero = refl
none_there (suc n) = ap (λ (l : List (Option Label)). None ∷ l) (none_there n)

closed_one : (pages : ℕ) (b : MarkedCells) → block_labels (closed_cells pages b) ≡ block_labels b ++ replicate (pages - length (block_labels b)) None
closed_one pages b =
    map-append cell_label b.cells (replicate (pages - length b.cells) torn_cell)
    ∙ (ap (λ (l : List (Option Label)). block_labels b ++ l) (none_there (pages - length b.cells))
    ∙ ap (λ (n : ℕ). block_labels b ++ replicate (pages - n) None) (sym (length-map b.cells cell_label)))

pub closed_shown : (pages : ℕ) (bs : List MarkedCells) → map block_labels (map (closed_cells pages) bs) ≡ closed_labels pages (map block_labels bs)
closed_shown pages [] = refl
closed_shown pages (b ∷ bs) =
    ap (λ (l : List (Option Label)). l ∷ map block_labels (map (closed_cells pages) bs)) (closed_one pages b)
    ∙ ap (λ (ls : List (List (Option Label))). (block_labels b ++ replicate (pages - length (block_labels b)) None) ∷ ls) (closed_shown pages bs)
