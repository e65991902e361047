-- The text of a checkpoint.
use Rattle.std.specs.Prelude.{ℕ, ◌+◌, List, [], ◌∷◌, ◌++◌, codes, decimal, map, Option, Some, None}
use Rattle.die_checkpoint.specs.declared.checkpoint.BlockCounts.{BlockCounts}
use Rattle.slot_types.specs.declared.pages.PageData.{PageData}
use Rattle.slot_types.specs.declared.pages.Place.{Place}
use Rattle.report_texts.specs.ReportText.{records_text}
use Rattle.text_base.specs.CsvRecords.{Fields}
use Rattle.text_base.specs.Pages.{page_word}
use Rattle.checkpoint_texts.specs.declared.saved.SavedDie.{SavedDie}
use Rattle.checkpoint_texts.specs.declared.saved.SavedPage.{SavedPage}

-- the cell of a page: its block and its page
abbrev pub place_fields : Option Place → Fields
place_fields None = [] ∷ [] ∷ []
place_fields (Some place) = decimal place.block ∷ decimal place.page ∷ []

abbrev pub bytes_field : Option PageData → List ℕ
bytes_field None = []
bytes_field (Some page) = page_word page

abbrev pub page_record : SavedPage → Fields
page_record page = codes "page" ∷ (place_fields page.place ++ bytes_field page.bytes ∷ [])

abbrev pub block_record : BlockCounts → Fields
block_record block = codes "block" ∷ decimal block.filled ∷ decimal block.erases ∷ []

abbrev pub task_record : ℕ → Fields
task_record balance = codes "task" ∷ decimal balance ∷ []

abbrev pub end_record : ℕ → ℕ → Fields
end_record number spare = codes "die" ∷ decimal number ∷ decimal spare ∷ []

abbrev pub header_record : Fields
header_record = codes "checkpoint" ∷ codes "1" ∷ []

-- the records of the die of this number: its pages, its blocks, its tasks, and what ends it
abbrev pub die_records : ℕ → SavedDie → List Fields
die_records number die =
    map page_record die.pages ++ (map block_record die.blocks ++ (map task_record die.balances ++ end_record number die.spare ∷ []))

-- the records of dies from this number on
abbrev pub dies_records : ℕ → List SavedDie → List Fields
dies_records number [] = []
dies_records number (die ∷ dies) = die_records number die ++ dies_records (number + 1) dies

-- the text of a checkpoint
abbrev pub checkpoint_text : List SavedDie → List ℕ
checkpoint_text store = records_text (header_record ∷ dies_records 0 store)
