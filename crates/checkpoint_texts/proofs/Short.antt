-- The text of a checkpoint is within the bound of its reader.
use Rattle.std.proofs.Common.{◌≡◌, ℕ, ◌+◌, ◌*◌, ◌≤◌, ◌<◌, List, [], ◌∷◌, ◌++◌, Option, Some, None, length, map, arith, length-append, refl, subst, sym}
use Rattle.std.specs.Prelude.{All, IfSome, codes, decimal, ◌^◌}
use Rattle.std.proofs.lemmas.List.Elements.{All-head, All-tail}
use Rattle.csv.specs.Writing.{default_writer, fields_text, is_blank, row_text}
use Rattle.die_checkpoint.specs.declared.checkpoint.BlockCounts.{BlockCounts}
use Rattle.hex.proofs.HexLemmas.{length-encode_with}
use Rattle.hex.specs.Hex.{lower_digits}
use Rattle.slot_types.specs.declared.pages.PageData.{PageData}
use Rattle.slot_types.specs.declared.pages.Place.{Place}
use Rattle.report_texts.specs.Commas.{after_commas}
use Rattle.report_texts.specs.ReportText.{records_text}
use Rattle.report_texts.proofs.LineLaws.{short-number}
use Rattle.report_texts.proofs.PlainFields.{ArePlain, row-plain}
use Rattle.text_base.specs.CsvRecords.{Fields}
use Rattle.checkpoint_texts.specs.CheckpointText.{block_record, bytes_field, checkpoint_text, die_records, dies_records, end_record}
use Rattle.checkpoint_texts.specs.CheckpointText.{header_record, page_record, task_record}
use Rattle.checkpoint_texts.specs.WellFormed.{HasBytes, IsBlock, IsPlace, IsSavedDie, IsSavedPage, IsStore}
use Rattle.checkpoint_texts.specs.declared.saved.SavedDie.{SavedDie}
use Rattle.checkpoint_texts.proofs.LineLaws.{plain-number, plain-numbers, plain-page, records-append}

-- how long the line of a record is
abbrev line-length : Fields → ℕ
line-length fields = length (row_text default_writer fields)

three-long : (a b : List ℕ) → length (after_commas (a ∷ b ∷ [])) ≡ length a + length b + 2
unfolding after_commas
three-long a b = omega (arith, length-append a (44 ∷ (b ++ [])), length-append b [])

four-long : (a b c : List ℕ) → length (after_commas (a ∷ b ∷ c ∷ [])) ≡ length a + length b + length c + 3
unfolding after_commas
four-long a b c = omega (arith, length-append a (44 ∷ (b ++ 44 ∷ (c ++ []))), length-append b (44 ∷ (c ++ [])), length-append c [])

two-long : (a : List ℕ) → length (after_commas (a ∷ [])) ≡ length a + 1
unfolding after_commas
two-long a = omega (arith, length-append a [])

beyond-long : (a b : List ℕ) → length (a ++ (b ++ 10 ∷ [])) ≡ length a + length b + 1
beyond-long a b = omega (arith, length-append a (b ++ 10 ∷ []), length-append b (10 ∷ []))

line-short : (a b : List ℕ) (fields : Fields) (most : ℕ) → ArePlain (a ∷ b ∷ fields)
    → length (a ++ (after_commas (b ∷ fields) ++ 10 ∷ [])) ≤ most → line-length (a ∷ b ∷ fields) ≤ most
line-short a b fields most all short = subst (λ (t : List ℕ). length t ≤ most) (sym (row-plain a b fields all)) short

numbers-short : (kind : List ℕ) (a b : ℕ) → length kind ≤ 5 → a < 2 ^ 32 → b < 2 ^ 32
    → length (kind ++ (after_commas (decimal a ∷ decimal b ∷ []) ++ 10 ∷ [])) ≤ 60
numbers-short kind a b few one two = omega (
  arith,
  beyond-long kind (after_commas (decimal a ∷ decimal b ∷ [])),
  three-long (decimal a) (decimal b),
  short-number a one,
  short-number b two,
)

block-short : (block : BlockCounts) → IsBlock block → line-length (block_record block) ≤ 60
block-short block is = line-short (codes "block") (decimal block.filled) (decimal block.erases ∷ []) 60
    (plain-numbers (codes "block") block.filled block.erases refl)
    (numbers-short (codes "block") block.filled block.erases (omega arith) is.0 is.1)

end-short : (number spare : ℕ) → number < 2 ^ 32 → spare < 2 ^ 32 → line-length (end_record number spare) ≤ 60
end-short number spare one two = line-short (codes "die") (decimal number) (decimal spare ∷ []) 60
    (plain-numbers (codes "die") number spare refl) (numbers-short (codes "die") number spare (omega arith) one two)

task-short : (balance : ℕ) → balance < 2 ^ 32 → line-length (task_record balance) ≤ 60
task-short balance small = line-short (codes "task") (decimal balance) [] 60 (plain-number (codes "task") balance refl)
    (omega (
      arith,
      beyond-long (codes "task") (after_commas (decimal balance ∷ [])),
      two-long (decimal balance),
      short-number balance small,
    ))

bytes-short : (place : Option Place) (bytes : Option PageData) → HasBytes place bytes → length (bytes_field bytes) ≤ 32
bytes-short place None has = omega arith
bytes-short None (Some page) has = absurd has
bytes-short (Some place) (Some page) has = omega (arith, length-encode_with lower_digits page.0, has.len)

page-short : (place : Option Place) (bytes : Option PageData) → IfSome place IsPlace → HasBytes place bytes
    → line-length (page_record (record { place = place; bytes = bytes })) ≤ 60
page-short None bytes small has = line-short (codes "page") [] ([] ∷ bytes_field bytes ∷ []) 60 (plain-page None bytes)
    (omega (
      arith,
      beyond-long (codes "page") (after_commas ([] ∷ [] ∷ bytes_field bytes ∷ [])),
      four-long [] [] (bytes_field bytes),
      bytes-short None bytes has,
    ))
page-short (Some place) bytes small has =
    line-short (codes "page") (decimal place.block) (decimal place.page ∷ bytes_field bytes ∷ []) 60 (plain-page (Some place) bytes)
    (omega (
      arith,
      beyond-long (codes "page") (after_commas (decimal place.block ∷ decimal place.page ∷ bytes_field bytes ∷ [])),
      four-long (decimal place.block) (decimal place.page) (bytes_field bytes),
      short-number place.block small.0,
      short-number place.page small.1,
      bytes-short (Some place) bytes has,
    ))

-- records of one kind
kind-short : {A : Type 0} (rec : A → Fields) (P : A → Type 0) → ((x : A) → P x → line-length (rec x) ≤ 60) → (xs : List A) → All P xs
    → length (records_text (map rec xs)) ≤ 60 * length xs
kind-short rec P each [] all = omega arith
kind-short rec P each (x ∷ xs) all = omega (
  arith,
  length-append (row_text default_writer (rec x)) (records_text (map rec xs)),
  each x (All-head P x xs all),
  kind-short rec P each xs (All-tail P x xs all),
)

-- all of a die
die-short : (number : ℕ) (die : SavedDie) → IsSavedDie die → number < 8 → length (records_text (die_records number die)) ≤ 15791100
die-short number die is low =
    let pages = map page_record die.pages in
    let blocks = map block_record die.blocks in
    let tasks = map task_record die.balances in
    let last = end_record number die.spare in
    let line = row_text default_writer last in
    rw (
      records-append pages (blocks ++ (tasks ++ last ∷ [])),
      records-append blocks (tasks ++ last ∷ []),
      records-append tasks (last ∷ []),
    )
    (omega (
      arith,
      is.few_pages,
      is.few_blocks,
      is.few_tasks,
      length-append (records_text pages) (records_text blocks ++ (records_text tasks ++ (line ++ []))),
      length-append (records_text blocks) (records_text tasks ++ (line ++ [])),
      length-append (records_text tasks) (line ++ []),
      length-append line [],
      kind-short page_record IsSavedPage (λ page one. page-short page.place page.bytes one.place one.bytes) die.pages is.pages,
      kind-short block_record IsBlock block-short die.blocks is.blocks,
      kind-short task_record (λ n. n < 2 ^ 32) task-short die.balances is.balances,
      end-short number die.spare (omega arith) is.spare,
    ))

-- all dies
dies-short : (number : ℕ) (dies : List SavedDie) → All IsSavedDie dies → number + length dies ≤ 8
    → length (records_text (dies_records number dies)) ≤ 15791100 * length dies
dies-short number [] all few = omega arith
dies-short number (die ∷ dies) all few = rw (records-append (die_records number die) (dies_records (number + 1) dies))
    (omega (
      arith,
      length-append (records_text (die_records number die)) (records_text (dies_records (number + 1) dies)),
      die-short number die (All-head IsSavedDie die dies all) (omega arith),
      dies-short (number + 1) dies (All-tail IsSavedDie die dies all) (omega arith),
    ))

header-long : line-length header_record ≡ 13
unfolding fields_text is_blank
header-long = refl

pub fits-bound : (store : List SavedDie) → IsStore store → length (checkpoint_text store) ≤ 134217728
fits-bound store is = omega (
  arith,
  length-append (row_text default_writer header_record) (records_text (dies_records 0 store)),
  header-long,
  dies-short 0 store is.dies (omega (arith, is.few)),
  is.few,
)
