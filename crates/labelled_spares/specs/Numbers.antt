-- What is seen of a device whose blocks have other numbers than before.
use Rattle.std.specs.Prelude.{◌≡◌, ℕ, ◌<◌, Some, None, length}
use Rattle.slot_types.specs.declared.pages.Place.{Place}
use Rattle.power_loss.specs.Aside.{renumbered}
use Rattle.power_loss.specs.Labels.{Label, Shown, label_at}

-- each label that is seen in a cell of the one is in the same cell of the other, in the block of another number; and no
-- two blocks with labels are one there
pub record HasAll (to back : ℕ → ℕ) (seen other : Shown) : Type 0 where
  pub stands : (q : Place) (x : Label) → label_at seen q ≡ Some x → label_at other (renumbered to q) ≡ Some x
  pub back_again : (q : Place) (x : Label) → label_at seen q ≡ Some x → back (to q.block) ≡ q.block

abbrev pub HasNoLabel : Shown → ℕ → Type 0
HasNoLabel seen b = (q : Place) → q.block ≡ b → label_at seen q ≡ None

-- Both show the same labels, in the same cells of blocks that may have other numbers, and if the one has a block without
-- labels, so has the other. Blocks without labels may have any numbers.
pub record AreRenumbered (seen other : Shown) : Type 0 where
  pub count : length other ≡ length seen
  pub to : ℕ → ℕ
  pub back : ℕ → ℕ
  pub there : HasAll to back seen other
  pub here : HasAll back to other seen
  pub empty : (b : ℕ) → b < length seen → HasNoLabel seen b → ((c : ℕ) × (c < length other) × HasNoLabel other c)
