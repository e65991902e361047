-- What a record of a checkpoint says, or its first fault.
use Rattle.std.specs.Prelude.{ℕ, ◌+◌, ◌==◌, ◌&&◌, Bool, ⊤, min, List, codes, Option, Some, None, Result, Ok, length, option_and_then}
use Rattle.std.specs.Prelude.{if◌then◌else◌}
use Rattle.csv.specs.Records.{field_at}
use Rattle.slot_types.specs.declared.pages.PageData.{PageData}
use Rattle.slot_types.specs.declared.pages.Place.{Place}
use Rattle.text_base.specs.CsvRecords.{Fields}
use Rattle.text_base.specs.Fields.{field_or, has_text}
use Rattle.text_base.specs.Number.{number_of}
use Rattle.text_base.specs.Pages.{page_of}
use Rattle.checkpoint_texts.specs.Readings.{◌>>=◌, broken_field, or_broken}
use Rattle.checkpoint_texts.specs.declared.fault.RecordFault.TheVariants as fault
use Rattle.checkpoint_texts.specs.declared.fault.TextFault.{TextFault}
use Rattle.checkpoint_texts.specs.declared.items.Item.{Item}
use Rattle.checkpoint_texts.specs.declared.items.Item.TheVariants.{Page, Block, Task, Die}

-- something, or the fault of a text
abbrev pub OrFault : Type 0 → Type 0
OrFault A = Result A TextFault

-- a record has `count` fields, or the first that is missing or too many is at fault
abbrev pub check_count : ℕ → Fields → ℕ → OrFault ⊤
check_count n fields count = if length fields == count then Ok tt else broken_field n (min (length fields) count + 1) fault.Fields

-- the number in the field after `i` others
abbrev pub number_at : ℕ → Fields → ℕ → OrFault ℕ
number_at n fields i = or_broken n (i + 1) fault.Number (option_and_then number_of (field_at fields i))

abbrev pub is_empty : Fields → ℕ → Bool
is_empty fields i = length (field_or fields i) == 0

-- the cell in which a page lies: a block and a page of it, or two empty fields
abbrev pub place_at : ℕ → Fields → OrFault (Option Place)
place_at n fields =
    if is_empty fields 1 && is_empty fields 2 then Ok None
    else (do
      block ← number_at n fields 1
      page ← number_at n fields 2
      Ok (Some (record { block = block; page = page })))

-- the bytes of a page that lies in a cell
abbrev pub bytes_in : ℕ → List ℕ → Option Place → OrFault (Option PageData)
bytes_in n field None = broken_field n 4 fault.Bytes
bytes_in n field (Some place) = or_broken n 4 fault.Bytes (page_of field) >>= (λ page. Ok (Some page))

-- an empty field has no bytes
abbrev pub bytes_at : ℕ → Fields → Option Place → OrFault (Option PageData)
bytes_at n fields place = if is_empty fields 3 then Ok None else bytes_in n (field_or fields 3) place

abbrev pub page_item : ℕ → Fields → OrFault Item
page_item n fields = check_count n fields 4 >>= (λ _. do
  place ← place_at n fields
  bytes ← bytes_at n fields place
  Ok (Page (record { place = place; bytes = bytes })))

abbrev pub block_item : ℕ → Fields → OrFault Item
block_item n fields = check_count n fields 3 >>= (λ _. do
  filled ← number_at n fields 1
  erases ← number_at n fields 2
  Ok (Block (record { filled = filled; erases = erases })))

abbrev pub task_item : ℕ → Fields → OrFault Item
task_item n fields = check_count n fields 2 >>= (λ _. do
  balance ← number_at n fields 1
  Ok (Task balance))

abbrev pub die_item : ℕ → Fields → OrFault Item
die_item n fields = check_count n fields 3 >>= (λ _. do
  die ← number_at n fields 1
  spare ← number_at n fields 2
  Ok (Die die spare))

-- what the record of this number says
unfoldable pub item_of : ℕ → Fields → OrFault Item
item_of n fields =
    if has_text (field_at fields 0) (codes "page") then page_item n fields
    else if has_text (field_at fields 0) (codes "block") then block_item n fields
    else if has_text (field_at fields 0) (codes "task") then task_item n fields
    else if has_text (field_at fields 0) (codes "die") then die_item n fields
    else broken_field n 1 fault.Kind
