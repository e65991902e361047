-- The labels of a die's device, and those of its log.
use Rattle.std.specs.Prelude.{◌≡◌, ℕ, List, Option, Some, None}
use Rattle.flash_die.specs.Flash.{Block}
use Rattle.flash_die.specs.declared.nand.NandCall.{NandCall}
use Rattle.labelled_nand.specs.Calls.{labels_after_call}
use Rattle.power_loss.specs.Labels.{Labels, labels}
use Rattle.slot_core.specs.Core.{Core}

-- the labels of the device are those after the log, which began with these
abbrev pub HasLabels : {N : Type 0} → (N → Labels) → Labels → Core N → Type 0
HasLabels labels_of first core = labels_of core.device ≡ labels core.start first core.log

-- what the call that a slot needs leaves of the labels; without one they stay
abbrev pub labels_by : (slots : ℕ) → List Block → Option NandCall → Labels → Labels
labels_by slots blocks None l = l
labels_by slots blocks (Some call) l = labels_after_call slots blocks call l
