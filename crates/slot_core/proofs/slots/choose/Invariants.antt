use Rattle.std.proofs.Common.{◌≡◌, ◌+◌, ◌-◌, ◌≤◌, false, length}
use Rattle.slot_core.specs.Device.{flash_of}
use Rattle.slot_core.specs.WithinSlot.{InSlot}
use Rattle.slot_core.specs.ReservedSlots.{open_collections}
use Rattle.slot_core.proofs.slots.choose.Given as goal
use Rattle.die_log.specs.Model.Start.{Start, over}

abbrev pub invariant-loop-number : goal.invariant-loop-number
invariant-loop-number g l = record {
  within : InSlot (over l.volume.accounts.plan g.from.0) g.from.1 l.present l.said (record l.table { clock = l.present }) (flash_of g.N.Nand.blocks l.volume);
  clock : l.table.clock ≤ l.present;
  closed : open_collections l.table.jobs + length l.said ≤ open_collections l.fn.table.jobs + length l.fn.said;
  plan : l.volume.accounts.plan ≡ l.fn.volume.accounts.plan;
  alive : l.volume.failed ≡ false;
  device : l.volume.device ≡ l.fn.volume.device;
  places : l.volume.places ≡ l.fn.volume.places;
  reserve : l.table.reserve ≡ l.fn.table.reserve;
  lasting : l.table.lasting ≡ l.fn.table.lasting;
}

abbrev pub decreases-loop-number : goal.decreases-loop-number
decreases-loop-number g l = 16 - length l.said
