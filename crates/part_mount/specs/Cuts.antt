-- What a device may show where its power went during a mount, and has come again.
use Rattle.std.specs.Prelude.{ℕ, ◌⊎◌, ◌==◌, ◌&&◌, not, Bool, List, Option, Some, None}
use Rattle.slot_types.specs.declared.pages.PageData.{PageData}
use Rattle.flash_die.specs.Flash.{Block, block_at}
use Rattle.die_mount.specs.declared.stage.MountCall.{MountCall}
use Rattle.die_mount.specs.declared.stage.MountCall.TheVariants as calls
use Rattle.power_loss.specs.Labels.{Labels, Shown, labels_after_program}
use Rattle.power_loss.specs.Seen.{MaySee}

-- not in erase
abbrev pub is_quiet : List Block → ℕ → Bool
is_quiet blocks b = (block_at blocks b).erasing == 0

-- Where it went before the call that comes next, or in it: of a block in erase a cell shows what it has, or no label; of
-- a program nothing was done, or all; and all else shows what it has
abbrev pub MayShow : List Block → Labels → (held : PageData) → Option MountCall → Shown → Type 0
MayShow blocks l held None seen = MaySee (is_quiet blocks) l.blocks seen
MayShow blocks l held (Some (calls.EraseSlot block)) seen = MaySee (λ b. is_quiet blocks b && not (b == block)) l.blocks seen
MayShow blocks l held (Some (calls.Read place)) seen = MaySee (is_quiet blocks) l.blocks seen
MayShow blocks l held (Some (calls.Program place label)) seen = MaySee (is_quiet blocks) l.blocks seen
    ⊎ MaySee (is_quiet blocks) (labels_after_program label.page held (Some place.block) (record l { next = label.serial })).blocks seen
