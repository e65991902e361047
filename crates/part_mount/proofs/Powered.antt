-- What is true of a part that was powered up.
use Rattle.std.proofs.Common.{◌≡◌, ◌⊎◌, ℕ, ◌<◌, ◌≤◌, List, [], length, get_or, map, None, refl, ap, sym, ◌∙◌, inl, inr, arith}
use Rattle.std.specs.List.{range_with_len}
use Rattle.std.proofs.lemmas.Bool.{cases_lt}
use Rattle.std.proofs.lemmas.List.{get_or-replicate, get_or_past, length-map, length-replicate}
use Rattle.std.proofs.lemmas.List.FromFn.{fill_by_all}
use Rattle.slot_types.specs.declared.plans.Shape.{Shape}
use Rattle.flash_die.specs.Flash as device
use Rattle.die_log.specs.Model.Flash.{Block, free_block}
use Rattle.power_loss.specs.Labels.{Labels, label_at, labels_in}
use Rattle.die_mount.specs.PartState.{closed_block}
use Rattle.labelled_nand.specs.PoweredUp.{IsPoweredUp, counts_of}
use Rattle.part_mount.proofs.Bearing.{counted}

module _ (shape : Shape) (blocks : List device.Block) (labels : Labels) (failures : ℕ) (up : IsPoweredUp shape blocks labels failures) where
  pub has_all : length blocks ≡ shape.blocks
  has_all = sym (length-map blocks counts_of) ∙ (ap (λ (bs : List Block). length bs) up.closed ∙ length-replicate shape.blocks (closed_block shape.pages))

  closed_at : (b : ℕ) → b < shape.blocks → counts_of (device.block_at blocks b) ≡ closed_block shape.pages
  closed_at b lt = counted blocks b ∙ (ap (λ (bs : List Block). get_or bs b free_block) up.closed
      ∙ get_or-replicate shape.blocks b (closed_block shape.pages) free_block lt)

  -- no block is in erase
  pub is_quiet : (b : ℕ) → (device.block_at blocks b).erasing ≡ 0
  is_quiet b = by_case (cases_lt b shape.blocks)
    where
      by_case : (b < shape.blocks) ⊎ (shape.blocks ≤ b) → (device.block_at blocks b).erasing ≡ 0
      by_case (inl lt) = ap (λ (s : Block). s.erasing) (closed_at b lt)
      by_case (inr past) = ap (λ (s : device.Block). s.erasing) (get_or_past blocks b device.free_block (omega (arith, past, has_all)))

  -- its labels are what all of its cells show
  pub labels_shown : labels.blocks ≡ map (λ b. map (λ k. label_at labels.blocks (record { block = b; page = k })) (range_with_len 0 shape.pages))
      (range_with_len 0 shape.blocks)
  labels_shown = fill_by_all (λ (b : ℕ). map (λ k. label_at labels.blocks (record { block = b; page = k })) (range_with_len 0 shape.pages)) labels.blocks shape.blocks [] (up.borne.count ∙ has_all)
      (λ b lt. fill_by_all (λ (k : ℕ). label_at labels.blocks (record { block = b; page = k })) (labels_in labels.blocks b) shape.pages None
      (up.borne.long b ∙ ap (λ (s : Block). s.filled) (closed_at b lt)) (λ k less. refl))
