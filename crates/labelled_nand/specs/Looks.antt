-- What a look at a cell says of its label.
use Rattle.std.specs.Prelude.{◌≡◌, Option, Some, None, ⊤}
use Rattle.slot_types.specs.declared.pages.PageData.{PageData}
use Rattle.die_mount.specs.Told.{told_label}
use Rattle.labelled_nand.specs.declared.look.Look.{Look}
use Rattle.labelled_nand.specs.declared.look.Look.TheVariants as looks
use Rattle.power_loss.specs.Labels.{Label}

-- a cell with a label is good, and holds the label's bytes; one without isn't good
abbrev pub Shows : Option Label → PageData → Look → Type 0
Shows (Some x) held (looks.Good label bytes) = (label ≡ told_label x) × (bytes ≡ x.bytes) × (held ≡ x.bytes)
Shows (Some x) held looks.Torn = ⊥
Shows (Some x) held looks.Blank = ⊥
Shows None held (looks.Good label bytes) = ⊥
Shows None held looks.Torn = ⊤
Shows None held looks.Blank = ⊤
