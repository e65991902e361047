-- The blocks of a fresh device, into which its opening programs.
use Rattle.std.proofs.Common.{◌≡◌, ◌⊎◌, ℕ, ◌<◌, ◌≤◌, List, length, map, replicate, ap, ◌∙◌, inl, inr, arith}
use Rattle.std.proofs.lemmas.Bool.{cases_lt}
use Rattle.std.proofs.lemmas.List.{get_or-map, get_or-replicate, get_or_past, length-map, length-replicate}
use Rattle.flash_die.specs.Flash.{Block, block_at, free_block}
use Rattle.labelled_nand.specs.Memory.{device_block, no_cells}

abbrev fresh : ℕ → List Block
fresh n = map device_block (replicate n no_cells)

pub fresh_count : (n : ℕ) → length (fresh n) ≡ n
fresh_count n = length-map (replicate n no_cells) device_block ∙ length-replicate n no_cells

pub fresh_free : (n b : ℕ) → block_at (fresh n) b ≡ free_block
fresh_free n b = by_case (cases_lt b n)
  where
    by_case : (b < n) ⊎ (n ≤ b) → block_at (fresh n) b ≡ free_block
    by_case (inl lt) =
        get_or-map device_block (replicate n no_cells) b no_cells free_block (omega (arith, lt, length-replicate n no_cells))
        ∙ ap device_block (get_or-replicate n b no_cells no_cells lt)
    by_case (inr past) = get_or_past (fresh n) b free_block (omega (arith, past, fresh_count n))
