-- The operations of a job, as a script writes them.
use Rattle.std.specs.Prelude.{ℕ, ◌+◌, ◌-◌, ◌==◌, nat_lt, List, [], ◌∷◌, length, take, drop, slice_index, Option, Some, None, option_map}
use Rattle.std.specs.Prelude.{Result, Ok, Err, if◌then◌else◌}
use Rattle.slot_types.specs.declared.events.Op.{Op}
use Rattle.slot_types.specs.declared.events.Op.TheVariants.{Read, Write, Trim}
use Rattle.slot_types.specs.declared.pages.PageData.{PageData}
use Rattle.slot_types.specs.declared.refusals.Cause.TheVariants as cause
use Rattle.slot_types.specs.declared.refusals.Refusal.{Refusal}
use Rattle.slot_types.specs.declared.refusals.Refusal.TheVariants.{ScriptRow}
use Rattle.text_base.specs.Number.{number_of}
use Rattle.text_base.specs.Words.{list_of}
use Rattle.text_base.specs.Pages.{page_of}

abbrev pub write_to : Option ℕ → Option PageData → Option Op
write_to None bytes = None
write_to (Some page) None = None
write_to (Some page) (Some bytes) = Some (Write page bytes)

-- a write: a page number, and then `=` and the digits of a page, 33 bytes
abbrev pub write_of : List ℕ → Option Op
write_of word =
    if nat_lt (length word) 33 then None
    else if slice_index word (length word - 33) == 61
    then write_to (number_of (take (length word - 33) word)) (page_of (drop (length word - 33 + 1) word))
    else None

-- an operation: `R` and a page number, `W` and a write, or `T` and a page number
abbrev pub op_of : List ℕ → Option Op
op_of [] = None
op_of (letter ∷ rest) =
    if letter == 82 then option_map Read (number_of rest)
    else if letter == 87 then write_of rest
    else if letter == 84 then option_map Trim (number_of rest)
    else None

-- the operations of a field
abbrev pub ops_of : List ℕ → Option (List Op)
ops_of field = list_of op_of field

-- the operations, or the fault of a record
abbrev pub ops_or : ℕ → Option (List Op) → Result (List Op) Refusal
ops_or line None = Err (ScriptRow line cause.Ops)
ops_or line (Some ops) = Ok ops
