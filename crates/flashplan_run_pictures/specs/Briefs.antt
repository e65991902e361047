-- What an act is, without the bytes.
use Rattle.slot_types.specs.declared.acts.Act.{Act}
use Rattle.slot_types.specs.declared.acts.Act.TheVariants as does
use Rattle.flashplan_run_pictures.specs.declared.briefs.ActBrief.{ActBrief}
use Rattle.flashplan_run_pictures.specs.declared.briefs.Kind.TheVariants as kind

-- its kind, and the logical page or the block that it was of
abbrev pub brief_of : Act → ActBrief
brief_of (does.Read page bytes) = record { kind = kind.Read; of = page }
brief_of (does.Write page bytes) = record { kind = kind.Write; of = page }
brief_of (does.Trim page) = record { kind = kind.Trim; of = page }
brief_of (does.CopyRead page) = record { kind = kind.CopyRead; of = page }
brief_of (does.CopyProgram page) = record { kind = kind.CopyProgram; of = page }
brief_of (does.Erase block) = record { kind = kind.Erase; of = block }
