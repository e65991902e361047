-- Where no block is found that was erased more than `most` times, none was.
use Rattle.std.proofs.Common.{◌≡◌, ℕ, ◌≤◌, false, List, length, get_or, None, ap, arith, inl, inr}
use Rattle.std.proofs.lemmas.Bool.{cases_lt}
use Rattle.std.proofs.lemmas.Bool.Decides.{nat_tests}
use Rattle.std.proofs.lemmas.List.{length-map, get_or-map, get_or_past}
use Rattle.page_map.proofs.Owners.{fails_where_none}
use Rattle.flash_die.specs.Flash.{Block, block_at, free_block}
use Rattle.flash_volume.specs.Cells.{erases_in, first_worn, is_worn_beyond}

few_beyond : (most erases : ℕ) → is_worn_beyond most erases ≡ false → erases ≤ most
few_beyond most erases h = grind (arith, nat_tests)

pub none_worn : (most : ℕ) (blocks : List Block) (b : ℕ) → first_worn most blocks ≡ None → (block_at blocks b).erases ≤ most
none_worn most blocks b none =
    elim (cases_lt b (length blocks)) [
      | inl below ↦
          (let few = few_beyond most (get_or (erases_in blocks) b 0)
          (fails_where_none (is_worn_beyond most) (erases_in blocks) b 0 none
          (omega (arith, below, length-map blocks (λ (s : Block). s.erases)))) in
          omega (arith, few, get_or-map (λ (s : Block). s.erases) blocks b free_block 0 below))
      | inr past ↦ omega (arith, ap (λ (s : Block). s.erases) (get_or_past blocks b free_block past))
    ]
