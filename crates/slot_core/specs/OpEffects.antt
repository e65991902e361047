-- What an operation of a job does to the flash.
use Rattle.std.specs.Prelude.{ℕ, None, Some, slice_index_or, slice_set}
use Rattle.slot_types.specs.declared.acts.Act.{Act}
use Rattle.slot_types.specs.declared.acts.Act.TheVariants as does
use Rattle.slot_types.specs.declared.events.Op.{Op}
use Rattle.slot_types.specs.declared.events.Op.TheVariants as asks
use Rattle.plan_rules.specs.Accounts.{accounts_after_write}
use Rattle.flash_die.specs.Flash.{blank, blocks_after_program}
use Rattle.flash_volume.specs.Cells.{next_cell}
use Rattle.slot_core.specs.Device.{FlashState}

-- the act that an operation is, with what its page holds
abbrev pub act_by : FlashState → Op → Act
act_by f (asks.Read page) = does.Read page (slice_index_or f.pages page blank)
act_by f (asks.Write page bytes) = does.Write page bytes
act_by f (asks.Trim page) = does.Trim page

-- the flash after an operation of a job of the task
abbrev pub flash_after_op : FlashState → ℕ → Op → FlashState
flash_after_op f task (asks.Read page) = f
flash_after_op f task (asks.Write page bytes) =
    let cell = next_cell f.tokens.plan.shape.pages f.blocks in
    record {
      tokens = accounts_after_write f.tokens task;
      pages = slice_set f.pages page bytes;
      places = slice_set f.places page (Some cell);
      blocks = blocks_after_program f.blocks cell.block bytes;
      running = f.running;
    }
flash_after_op f task (asks.Trim page) = record f { pages = slice_set f.pages page blank; places = slice_set f.places page None }
