-- What a row of a script says.
use Rattle.std.specs.Cmp.Lexicographic.{pointwise}
use Rattle.std.specs.Prelude.{ℕ, ◌==◌, ◌||◌, nat_lt, List, Bool, true, false, codes, Option, Some, None, Result, Ok, Err, length}
use Rattle.std.specs.Prelude.{slice_index, option_and_then, nat_eq, if◌then◌else◌}
use Rattle.csv.specs.Records.{field_at}
use Rattle.slot_types.specs.declared.events.Event.{Event}
use Rattle.slot_types.specs.declared.events.Event.TheVariants.{Submit, Collect}
use Rattle.slot_types.specs.declared.refusals.Cause.{Cause}
use Rattle.slot_types.specs.declared.refusals.Cause.TheVariants as cause
use Rattle.slot_types.specs.declared.refusals.Refusal.{Refusal}
use Rattle.slot_types.specs.declared.refusals.Refusal.TheVariants.{ScriptRow}
use Rattle.text_base.specs.Number.{number_of}
use Rattle.text_base.specs.Ops.{ops_of, ops_or}
use Rattle.text_base.specs.Readings.{◌>>=◌}
use Rattle.script_texts.specs.declared.script_rows.RowHead.{RowHead}

-- a fault of the record of this number
abbrev pub fault : {A : Type 0} → ℕ → Cause → Result A Refusal
fault line c = Err (ScriptRow line c)

-- the value, or this fault
abbrev pub or_fault : {A : Type 0} → ℕ → Cause → Option A → Result A Refusal
or_fault line c None = fault line c
or_fault line c (Some x) = Ok x

-- the number in a field
abbrev pub number_at : ℕ → List (List ℕ) → ℕ → Result ℕ Refusal
number_at line fields i = or_fault line cause.Number (option_and_then number_of (field_at fields i))

-- whether a row is of a collection
abbrev pub collects_of : ℕ → List ℕ → Result Bool Refusal
collects_of line field =
    if pointwise nat_eq field (codes "job") then Ok false
    else if pointwise nat_eq field (codes "collect") then Ok true
    else fault line cause.Kind

abbrev pub kind_or : ℕ → Option (List ℕ) → Result Bool Refusal
kind_or line None = fault line cause.Kind
kind_or line (Some field) = collects_of line field

abbrev pub collects_at : ℕ → List (List ℕ) → Result Bool Refusal
collects_at line fields = kind_or line (field_at fields 3)

-- what a row asks of its die: a collection has no operations
abbrev pub event_of : ℕ → Bool → ℕ → ℕ → ℕ → List ℕ → Result Event Refusal
event_of line true task release due field = if length field == 0 then Ok (Collect task release due) else fault line cause.Ops
event_of line false task release due field = ops_or line (ops_of field) >>= (λ ops. Ok (Submit task release due ops))

-- the die, if there is one of this number
abbrev pub die_in : ℕ → ℕ → ℕ → Result ℕ Refusal
die_in line dies die = if nat_lt die dies then Ok die else fault line cause.Die

-- the slot, if it isn't before the last one of its die, nor beyond the slots to run
abbrev pub at_in : ℕ → ℕ → ℕ → ℕ → Result ℕ Refusal
at_in line slots last at = if nat_lt at last || nat_lt slots at then fault line cause.At else Ok at

-- the head of a row, by the slots to run, the last slot of a row by die, and the number of its record
unfoldable pub head_of : ℕ → List ℕ → ℕ → List (List ℕ) → Result RowHead Refusal
head_of slots lasts line fields =
    if length fields == 7 then (do
      a ← number_at line fields 0
      d ← number_at line fields 1
      t ← number_at line fields 2
      r ← number_at line fields 4
      u ← number_at line fields 5
      c ← collects_at line fields
      die ← die_in line (length lasts) d
      at ← at_in line slots (slice_index lasts die) a
      Ok (record { line = line; at = at; die = die; job = record { collects = c; task = t; release = r; due = u } }))
    else fault line cause.Fields
