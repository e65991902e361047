-- The call of the device that a step of a collection makes.
use Rattle.std.specs.Prelude.{Some}
use Rattle.flash_die.specs.declared.nand.NandCall.{NandCall}
use Rattle.flash_die.specs.declared.nand.NandCall.TheVariants as calls
use Rattle.flash_volume.specs.declared.collection.CollectStep.{CollectStep}
use Rattle.flash_volume.specs.declared.collection.CollectStep.TheVariants as steps

abbrev pub call_of : CollectStep → NandCall
call_of (steps.Read page source) = calls.Read source
call_of (steps.Program page place bytes) = calls.Program place (Some page) bytes
call_of (steps.Erase block) = calls.EraseSlot block
