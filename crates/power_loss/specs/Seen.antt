-- What a mount may see of the labels, where the power went after a log, or during a slot.
use Rattle.std.specs.Prelude.{◌≡◌, ◌⊎◌, ℕ, ◌==◌, ◌&&◌, not, Bool, List, Some, length, IsTrue}
use Rattle.slot_types.specs.Places.{place_of}
use Rattle.slot_types.specs.declared.pages.Place.{Place}
use Rattle.slot_types.specs.declared.plans.DiePlan.{DiePlan}
use Rattle.slot_types.specs.declared.pages.PageData.{PageData}
use Rattle.slot_types.specs.declared.acts.Act.TheVariants as does
use Rattle.die_log.specs.Model.Log.{Carried}
use Rattle.die_log.specs.Model.Flash.{Cells, block_at, cells_after}
use Rattle.power_loss.specs.Labels.{Label, Labels, Shown, label_at, labels_after}

-- Each cell of a block that is whole shows what it has. A cell of another one shows what it has, or no label.
pub record MaySee (is_whole : ℕ → Bool) (blocks seen : Shown) : Type 0 where
  pub long : length seen ≡ length blocks
  pub whole : (place : Place) → IsTrue (is_whole place.block) → label_at seen place ≡ label_at blocks place
  pub remains : (place : Place) (x : Label) → label_at seen place ≡ Some x → label_at blocks place ≡ Some x

-- not in erase
abbrev pub is_whole : Cells → ℕ → Bool
is_whole c b = (block_at c b).erasing == 0

-- where the power goes after a slot
abbrev pub MaySeeAfter : Cells → Labels → Shown → Type 0
MaySeeAfter c l seen = MaySee (is_whole c) l.blocks seen

-- where the power goes during the slot that carries this: the block that is erased isn't whole; and of anything else
-- the slot did nothing yet, or all
abbrev pub MaySeeDuring : DiePlan → Cells → List PageData → Labels → Carried → Shown → Type 0
MaySeeDuring plan c pages l (Some (n, does.Erase block)) seen = MaySee (λ b. is_whole c b && not (b == block)) l.blocks seen
MaySeeDuring plan c pages l carried seen =
    MaySeeAfter c l seen ⊎ MaySeeAfter (cells_after plan carried c) (labels_after plan c pages carried l) seen

-- all that a mount rests on: each cell of a block in which a page is placed shows what it has, and each other one that,
-- or no label
pub record MaySeePlaced (c : Cells) (blocks seen : Shown) : Type 0 where
  pub long : length seen ≡ length blocks
  pub whole : (page : ℕ) (q : Place) → place_of c.places page ≡ Some q → (place : Place) → place.block ≡ q.block
      → label_at seen place ≡ label_at blocks place
  pub remains : (place : Place) (x : Label) → label_at seen place ≡ Some x → label_at blocks place ≡ Some x
