-- The lines of a checkpoint are what csv writes.
use Rattle.std.proofs.Common.{◌≡◌, ℕ, ◌+◌, ◌<◌, List, [], ◌∷◌, ◌++◌, drop, get_or, length, Option, Some, None, Result, Ok, Err, refl, sym, ap, ◌∙◌, append_assoc}
use Rattle.std.specs.Prelude.{OnOk, codes, decimal, flat_map, map}
use Rattle.std.proofs.lemmas.Grind.{flat_map-append}
use Rattle.std.proofs.lemmas.List.{append-nil, drop_more}
use Rattle.csv.specs.Writing.{default_writer, row_text}
use Rattle.slot_types.specs.declared.pages.PageData.{PageData}
use Rattle.slot_types.specs.declared.pages.Place.{Place}
use Rattle.report_texts.specs.Commas.{after_commas}
use Rattle.report_texts.specs.ReportText.{records_text}
use Rattle.report_texts.proofs.PlainFields.{ArePlain, IsPlain, plain-decimal, plain-encode, row-plain}
use Rattle.text_base.specs.CsvRecords.{Fields}
use Rattle.checkpoint_texts.specs.CheckpointText.{block_record, bytes_field, die_records, dies_records, end_record, page_record, place_fields}
use Rattle.checkpoint_texts.specs.CheckpointText.{task_record}
use Rattle.checkpoint_texts.specs.declared.saved.SavedDie.{SavedDie}

-- one field, and two, each after a comma
pub one-field : (x : List ℕ) → 44 ∷ x ≡ after_commas (x ∷ [])
unfolding after_commas
one-field x = ap (λ t. 44 ∷ t) (sym (append-nil x))

pub two-fields : (x y t1 t2 t3 : List ℕ) → t2 ≡ t1 ++ (44 ∷ x) → t3 ≡ t2 ++ (44 ∷ y) → t3 ≡ t1 ++ after_commas (x ∷ y ∷ [])
unfolding after_commas
two-fields x y t1 t2 t3 one two =
    two ∙ rw one (append_assoc t1 (44 ∷ x) (44 ∷ y) ∙ ap (λ t. t1 ++ (44 ∷ (x ++ (44 ∷ t)))) (sym (append-nil y)))

commas-append : (fields : Fields) (field : List ℕ) → after_commas (fields ++ field ∷ []) ≡ after_commas fields ++ (44 ∷ field)
unfolding after_commas
commas-append [] field = ap (λ t. 44 ∷ t) (append-nil field)
commas-append (x ∷ xs) field = ap (λ t. 44 ∷ (x ++ t)) (commas-append xs field)
    ∙ ap (λ t. 44 ∷ t) (sym (append_assoc x (after_commas xs) (44 ∷ field)))

-- one field more
pub commas-beyond : (fields : Fields) (field t1 t2 t3 : List ℕ) → t2 ≡ t1 ++ after_commas fields → t3 ≡ t2 ++ (44 ∷ field)
    → t3 ≡ t1 ++ after_commas (fields ++ field ∷ [])
commas-beyond fields field t1 t2 t3 one two =
    two ∙ rw one (append_assoc t1 (after_commas fields) (44 ∷ field) ∙ ap (λ t. t1 ++ t) (sym (commas-append fields field)))

-- the whole line
pub line-made : (old a b : List ℕ) (fields : Fields) (t1 t2 t3 : List ℕ) → ArePlain (a ∷ b ∷ fields) → t1 ≡ old ++ a
    → t2 ≡ t1 ++ after_commas (b ∷ fields) → t3 ≡ t2 ++ 10 ∷ [] → t3 ≡ old ++ row_text default_writer (a ∷ b ∷ fields)
line-made old a b fields t1 t2 t3 all one two three = three ∙ rw (two, one, row-plain a b fields all) (simp append_assoc)

-- Fields that need no quotes

pub plain-numbers : (kind : List ℕ) (a b : ℕ) → IsPlain kind → ArePlain (kind ∷ decimal a ∷ decimal b ∷ [])
unfolding ArePlain
plain-numbers kind a b first = (first, (plain-decimal a, (plain-decimal b, tt)))

pub plain-number : (kind : List ℕ) (a : ℕ) → IsPlain kind → ArePlain (kind ∷ decimal a ∷ [])
unfolding ArePlain
plain-number kind a first = (first, (plain-decimal a, tt))

plain-bytes : (bytes : Option PageData) → IsPlain (bytes_field bytes)
plain-bytes None = refl
plain-bytes (Some page) = plain-encode page.0

pub plain-page : (place : Option Place) (bytes : Option PageData)
    → ArePlain (codes "page" ∷ (place_fields place ++ bytes_field bytes ∷ []))
unfolding ArePlain
plain-page None bytes = (refl, (refl, (refl, (plain-bytes bytes, tt))))
plain-page (Some place) bytes = (refl, (plain-decimal place.block, (plain-decimal place.page, (plain-bytes bytes, tt))))

-- the line of a page
pub page-made : (place : Option Place) (bytes : Option PageData) (old t1 t2 t3 : List ℕ) → t1 ≡ old ++ codes "page"
    → t2 ≡ t1 ++ after_commas (place_fields place ++ bytes_field bytes ∷ []) → t3 ≡ t2 ++ 10 ∷ []
    → t3 ≡ old ++ row_text default_writer (codes "page" ∷ (place_fields place ++ bytes_field bytes ∷ []))
page-made None bytes old t1 t2 t3 one two three =
    line-made old (codes "page") [] ([] ∷ bytes_field bytes ∷ []) t1 t2 t3 (plain-page None bytes) one two three
page-made (Some place) bytes old t1 t2 t3 one two three =
    line-made old (codes "page") (decimal place.block) (decimal place.page ∷ bytes_field bytes ∷ []) t1 t2 t3
    (plain-page (Some place) bytes) one two three

-- Lists of records

-- the lines of a list
pub lines-of : {A : Type 0} (rec : A → Fields) (xs : List A)
    → flat_map (λ x. row_text default_writer (rec x)) xs ≡ records_text (map rec xs)
lines-of rec [] = refl
lines-of rec (x ∷ xs) = ap (λ t. row_text default_writer (rec x) ++ t) (lines-of rec xs)

pub records-append : (a b : List Fields) → records_text (a ++ b) ≡ records_text a ++ records_text b
records-append a b = flat_map-append (row_text default_writer) a b

-- the records of a die
pub die-made : (number : ℕ) (die : SavedDie) (t0 t1 t2 t3 t4 : List ℕ)
    → t1 ≡ t0 ++ flat_map (λ x. row_text default_writer (page_record x)) die.pages
    → t2 ≡ t1 ++ flat_map (λ x. row_text default_writer (block_record x)) die.blocks
    → t3 ≡ t2 ++ flat_map (λ x. row_text default_writer (task_record x)) die.balances
    → t4 ≡ t3 ++ row_text default_writer (end_record number die.spare)
    → t4 ≡ t0 ++ records_text (die_records number die)
die-made number die t0 t1 t2 t3 t4 one two three four =
    let pages = map page_record die.pages in
    let blocks = map block_record die.blocks in
    let tasks = map task_record die.balances in
    let last = end_record number die.spare in
    four ∙ rw (
      three,
      two,
      one,
      lines-of page_record die.pages,
      lines-of block_record die.blocks,
      lines-of task_record die.balances,
      records-append pages (blocks ++ (tasks ++ last ∷ [])),
      records-append blocks (tasks ++ last ∷ []),
      records-append tasks (last ∷ []),
      append-nil (row_text default_writer last),
    ) (simp append_assoc)

-- where the last record is written
pub die-on-ok : {E : Type 0} (r : Result (Unit {0}) E) (number : ℕ) (die : SavedDie) (t0 t1 t2 t3 t4 : List ℕ)
    → t1 ≡ t0 ++ flat_map (λ x. row_text default_writer (page_record x)) die.pages
    → t2 ≡ t1 ++ flat_map (λ x. row_text default_writer (block_record x)) die.blocks
    → t3 ≡ t2 ++ flat_map (λ x. row_text default_writer (task_record x)) die.balances
    → OnOk r (t4 ≡ t3 ++ row_text default_writer (end_record number die.spare))
    → OnOk r (t4 ≡ t0 ++ records_text (die_records number die))
die-on-ok (Ok u) number die t0 t1 t2 t3 t4 one two three four = die-made number die t0 t1 t2 t3 t4 one two three four
die-on-ok (Err e) number die t0 t1 t2 t3 t4 one two three four = tt

-- one more die
pub store-more : (store : List SavedDie) (i : ℕ) (die : SavedDie) (old new whole : List ℕ) → i < length store → die ≡ get_or store i die
    → new ≡ old ++ records_text (die_records i die) → old ++ records_text (dies_records i (drop i store)) ≡ whole
    → new ++ records_text (dies_records (i + 1) (drop (i + 1) store)) ≡ whole
store-more store i die old new whole below is made so-far =
    let e = rw (
      drop_more store i die below,
      records-append (die_records i (get_or store i die)) (dies_records (i + 1)
          (drop (i + 1) store)),
      ← is,
    ) at so-far in
    rw (made, append_assoc) e
