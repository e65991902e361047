-- A block of a part in memory that is changed.
use Rattle.std.proofs.Common.{◌≡◌, ℕ, ◌+◌, ◌<◌, ◌≤◌, Bool, true, false, List, [], ◌∷◌, ◌++◌, length, map, get_or, set, ap, sym, ◌∙◌, subst, arith}
use Rattle.std.specs.Prelude.{All, vec_capacity}
use Rattle.std.proofs.lemmas.List.{map-set, get_or-map, length-map, length-set}
use Rattle.std.proofs.lemmas.List.Elements.{All-set}
use Rattle.spare_blocks.specs.declared.cells.Cell.{Cell}
use Rattle.spare_blocks.specs.declared.cells.Ended.{Ended}
use Rattle.spare_blocks.specs.declared.cells.Ended.TheVariants as ended
use Rattle.spare_blocks.specs.declared.memory.WearingBlock.{WearingBlock}
use Rattle.spare_blocks.specs.Parts.{PartBlock, part_block, lost_block, block_after_program, block_after_erase, blocks_after_program, blocks_after_erase}
use Rattle.spare_blocks.specs.WearingView.{seen_block, IsSoundWearingBlock}
use Rattle.spare_blocks.proofs.PlanCells.{whole_within}

module _ (blocks : List WearingBlock) (x : ℕ) where
  pub within : (part_block (map seen_block blocks) x).failed ≡ false → x < length blocks
  within whole = omega (arith, whole_within (map seen_block blocks) x whole, length-map blocks seen_block)

  module _ (r : WearingBlock) (is : r ≡ get_or blocks x r) (lt : x < length blocks) where
    pub seen_at : part_block (map seen_block blocks) x ≡ seen_block r
    seen_at = get_or-map seen_block blocks x r lost_block lt ∙ ap seen_block (sym is)

    pub sound_at : (pages slots : ℕ) → All (IsSoundWearingBlock pages slots) blocks → IsSoundWearingBlock pages slots r
    sound_at pages slots all = subst (IsSoundWearingBlock pages slots) (sym is) (all x r lt)

    pub changed_seen : (new : WearingBlock) (how : PartBlock → PartBlock) → seen_block new ≡ how (seen_block r)
        → map seen_block (set blocks x new) ≡ set (map seen_block blocks) x (how (part_block (map seen_block blocks) x))
    changed_seen new how e =
        map-set seen_block blocks x new ∙ ap (set (map seen_block blocks) x) (e ∙ ap how (sym seen_at))

    pub changed_sound : (pages slots : ℕ) (new : WearingBlock) → All (IsSoundWearingBlock pages slots) blocks → length new.cells.items ≤ pages
        → pages ≤ vec_capacity new.cells → new.erasing < slots → All (IsSoundWearingBlock pages slots) (set blocks x new)
    changed_sound pages slots new all within room few =
        All-set (IsSoundWearingBlock pages slots) blocks x new (record { within = within; room = room; few_slots = few }) all
