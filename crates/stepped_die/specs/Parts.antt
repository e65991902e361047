-- What is known of the part beneath a die, and the serials of its programs.
use Rattle.std.specs.Prelude.{false, ℕ, ◌+◌, ◌^◌, ◌-◌, min, Option, Some}
use Rattle.slot_types.specs.declared.plans.DiePlan.{DiePlan}
use Rattle.stepped_die.specs.declared.calls.Call.{Call}
use Rattle.stepped_die.specs.declared.calls.Call.TheVariants as calls
use Rattle.stepped_die.specs.declared.part.Part.{Part}

-- of a die on which nothing was done: the part's last block stands aside, if it has one block more, programs are
-- numbered from 1 on, and it was resumed from no checkpoint
abbrev pub fresh_part : DiePlan → Part
fresh_part plan = record { aside = plan.shape.blocks; serial = 1; stands = false }

-- after a program it is one more, up to the greatest number that there is
abbrev pub serial_after : Option Call → ℕ → ℕ
serial_after (Some (calls.Program place bytes erases)) serial = min (serial + 1) (2 ^ 64 - 1)
serial_after _ serial = serial
