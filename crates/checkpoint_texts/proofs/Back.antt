-- What is read back of a checkpoint is what was written.
use Rattle.std.proofs.Common.{◌≡◌, ℕ, ◌+◌, ◌*◌, ◌<◌, ◌≤◌, ◌==◌, List, [], ◌∷◌, ◌++◌, true, false, Option, Some, None, Ok, length, map}
use Rattle.std.proofs.Common.{refl, sym, ap, ◌∙◌, append_assoc, arith, length-append, eq-eqb, suc}
use Rattle.std.specs.Prelude.{All, IfSome, decimal, nat_lt, ◌^◌}
use Rattle.std.proofs.lemmas.Bool.{ne_eqb}
use Rattle.std.proofs.lemmas.List.{append-nil, map-append}
use Rattle.std.proofs.lemmas.List.Elements.{All-head, All-tail}
use Rattle.csv.specs.Reading.{strip_bom}
use Rattle.csv.specs.Records.{field_at}
use Rattle.csv.specs.Writing.{default_writer, read_back, row_text}
use Rattle.csv.specs.declared.parser.State.TheVariants as st
use Rattle.csv.proofs.RoundTrip.{read-write}
use Rattle.die_checkpoint.specs.declared.checkpoint.BlockCounts.{BlockCounts}
use Rattle.hex.proofs.HexLemmas.{length-encode_with}
use Rattle.hex.specs.Hex.{lower_digits}
use Rattle.slot_types.specs.declared.pages.PageData.{PageData}
use Rattle.slot_types.specs.declared.pages.Place.{Place}
use Rattle.report_texts.specs.ReportText.{records_text}
use Rattle.report_texts.proofs.FieldsBack.{number-back, page-back, some-digits}
use Rattle.text_base.proofs.RowLaws.{rows-next}
use Rattle.text_base.specs.CsvRecords.{Fields, rows_from, rows_of}
use Rattle.text_base.specs.Pages.{IsPage, page_word}
use Rattle.checkpoint_texts.specs.CheckpointOf.{checkpoint_from, checkpoint_of, dies_from, most_records}
use Rattle.checkpoint_texts.specs.CheckpointText.{block_record, checkpoint_text, die_records, dies_records, end_record, header_record}
use Rattle.checkpoint_texts.specs.CheckpointText.{page_record, task_record}
use Rattle.checkpoint_texts.specs.Gathering.{between, with_record}
use Rattle.checkpoint_texts.specs.Records.{item_of}
use Rattle.checkpoint_texts.specs.WellFormed.{HasBytes, IsBlock, IsPlace, IsSavedDie, IsSavedPage, IsStore}
use Rattle.checkpoint_texts.specs.declared.gathered.Gathered.{Gathered}
use Rattle.checkpoint_texts.specs.declared.items.Item.TheVariants.{Page, Block, Task, Die}
use Rattle.checkpoint_texts.specs.declared.saved.SavedDie.{SavedDie}
use Rattle.checkpoint_texts.specs.declared.saved.SavedPage.{SavedPage}

-- One record

not-empty : (n : ℕ) → n < 2 ^ 32 → (length (decimal n) == 0) ≡ false
not-empty n small = ne_eqb (length (decimal n)) 0 (omega (arith, some-digits n small))

no-empty-page : (page : PageData) → IsPage page → (length (page_word page) == 0) ≡ false
no-empty-page page is = ne_eqb (length (page_word page)) 0 (omega (arith, length-encode_with lower_digits page.0, is.len))

page-item : (n : ℕ) (place : Option Place) (bytes : Option PageData) → IfSome place IsPlace → HasBytes place bytes
    → item_of n (page_record (record { place = place; bytes = bytes })) ≡ Ok (Page (record { place = place; bytes = bytes }))
unfolding item_of field_at
page-item n None None small has = refl
page-item n None (Some page) small has = absurd has
page-item n (Some place) None small has =
    rw (number-back place.block small.0, number-back place.page small.1, not-empty place.block small.0) refl
page-item n (Some place) (Some page) small has =
    rw (
      number-back place.block small.0,
      number-back place.page small.1,
      not-empty place.block small.0,
      no-empty-page page has,
      page-back page has,
    ) refl

block-item : (n : ℕ) (block : BlockCounts) → IsBlock block → item_of n (block_record block) ≡ Ok (Block block)
unfolding item_of field_at
block-item n block small = rw (number-back block.filled small.0, number-back block.erases small.1) refl

task-item : (n balance : ℕ) → balance < 2 ^ 32 → item_of n (task_record balance) ≡ Ok (Task balance)
unfolding item_of field_at
task-item n balance small = rw (number-back balance small) refl

end-item : (n number spare : ℕ) → number < 2 ^ 32 → spare < 2 ^ 32 → item_of n (end_record number spare) ≡ Ok (Die number spare)
unfolding item_of field_at
end-item n number spare low small = rw (number-back number low, number-back spare small) refl

-- One record after the other

abbrev with_lists : List SavedDie → List SavedPage → List BlockCounts → List ℕ → Gathered
with_lists done pages blocks balances = record { done = done; pages = pages; blocks = blocks; balances = balances }

low-record : (n : ℕ) → n ≤ 2105481 → nat_lt most_records n ≡ false
low-record n low = grind (arith)

record-on : (g g2 : Gathered) (n : ℕ) (fields : Fields) (rest : List Fields) → n ≤ 2105481 → with_record n g fields ≡ Ok g2
    → dies_from g n (fields ∷ rest) ≡ dies_from g2 (n + 1) rest
unfolding dies_from
record-on g g2 n fields rest low is = rw (low-record n low, is) refl

-- records of one kind add to one list
records-on : {A : Type 0} (rec : A → Fields) (put : List A → Gathered) (P : A → Type 0)
    → ((n : ℕ) (before : List A) (x : A) → P x → with_record n (put before) (rec x) ≡ Ok (put (before ++ x ∷ [])))
    → (xs before : List A) (n : ℕ) (more : List Fields) → All P xs → n + length xs ≤ 2105482
    → dies_from (put before) n (map rec xs ++ more) ≡ dies_from (put (before ++ xs)) (n + length xs) more
records-on rec put P each [] before n more all few = λ i. dies_from (put (sym (append-nil before) i)) (zero-more n i) more
  where
    zero-more : (m : ℕ) → m ≡ m + 0
    zero-more m = omega arith
records-on rec put P each (x ∷ xs) before n more all few =
    record-on (put before) (put (before ++ x ∷ [])) n (rec x) (map rec xs ++ more) (omega arith) (each n before x (All-head P x xs all))
    ∙ records-on rec put P each xs (before ++ x ∷ []) (n + 1) more (All-tail P x xs all) (omega arith)
    ∙ (λ i. dies_from (put (append_assoc before (x ∷ []) xs i)) (next (length xs) i) more)
  where
    next : (m : ℕ) → n + 1 + m ≡ n + suc m
    next m = omega arith

page-on : (done : List SavedDie) (n : ℕ) (before : List SavedPage) (x : SavedPage) → IsSavedPage x
    → with_record n (with_lists done before [] []) (page_record x) ≡ Ok (with_lists done (before ++ x ∷ []) [] [])
page-on done n before x is = rw (page-item n x.place x.bytes is.place is.bytes) refl

block-on : (done : List SavedDie) (pages : List SavedPage) (n : ℕ) (before : List BlockCounts) (x : BlockCounts) → IsBlock x
    → with_record n (with_lists done pages before []) (block_record x) ≡ Ok (with_lists done pages (before ++ x ∷ []) [])
block-on done pages n before x is = rw (block-item n x is) refl

task-on : (done : List SavedDie) (pages : List SavedPage) (blocks : List BlockCounts) (n : ℕ) (before : List ℕ) (x : ℕ) → x < 2 ^ 32
    → with_record n (with_lists done pages blocks before) (task_record x) ≡ Ok (with_lists done pages blocks (before ++ x ∷ []))
task-on done pages blocks n before x small = rw (task-item n x small) refl

end-on : (done : List SavedDie) (die : SavedDie) (n number : ℕ) → number ≡ length done → number < 8 → die.spare < 2 ^ 32
    → with_record n (with_lists done die.pages die.blocks die.balances) (end_record number die.spare) ≡ Ok (between (done ++ die ∷ []))
end-on done die n number is low small =
    let next : (number == length done) ≡ true = eq-eqb number (length done) is in
    let within : nat_lt number 8 ≡ true = grind (arith) in
    rw (end-item n number die.spare (omega arith) small, next, within) refl

-- all records of a die
die-on : (done : List SavedDie) (die : SavedDie) (n number : ℕ) (more : List Fields) → IsSavedDie die → number ≡ length done → number < 8
    → n + 263185 ≤ 2105482
    → (next : ℕ) × (next ≤ n + 263185)
    × (dies_from (between done) n (die_records number die ++ more) ≡ dies_from (between (done ++ die ∷ [])) next more)
die-on done die n number more is same low few =
    let tail = end_record number die.spare ∷ more in
    let n1 = n + length die.pages in
    let n2 = n1 + length die.blocks in
    let n3 = n2 + length die.balances in
    let pages = records-on page_record (λ ps. with_lists done ps [] []) IsSavedPage (page-on done) die.pages [] n
    (map block_record die.blocks ++ (map task_record die.balances ++ tail)) is.pages (omega (arith, is.few_pages)) in
    let blocks = records-on block_record (λ bs. with_lists done die.pages bs []) IsBlock (block-on done die.pages) die.blocks [] n1
    (map task_record die.balances ++ tail) is.blocks (omega (arith, is.few_pages, is.few_blocks)) in
    let tasks = records-on task_record (with_lists done die.pages die.blocks) (λ m. m < 2 ^ 32) (task-on done die.pages die.blocks)
    die.balances [] n2 tail is.balances (omega (arith, is.few_pages, is.few_blocks, is.few_tasks)) in
    let last = record-on (with_lists done die.pages die.blocks die.balances) (between (done ++ die ∷ [])) n3
    (end_record number die.spare) more (omega (arith, is.few_pages, is.few_blocks, is.few_tasks))
    (end-on done die n3 number same low is.spare) in (
      n3 + 1,
      omega (arith, is.few_pages, is.few_blocks, is.few_tasks),
      ap (dies_from (between done) n) (parts (map page_record die.pages) (map block_record die.blocks) (map task_record die.balances)
          (end_record number die.spare))
          ∙ (pages ∙ (blocks ∙ (tasks ∙ last))),
    )
  where
    parts : (p q r : List Fields) (s : Fields) → (p ++ (q ++ (r ++ s ∷ []))) ++ more ≡ p ++ (q ++ (r ++ s ∷ more))
    parts p q r s = simp append_assoc

-- all records
dies-on : (dies done : List SavedDie) (n : ℕ) → All IsSavedDie dies → length done + length dies ≤ 8
    → n + 263185 * length dies ≤ 2105482 → 0 < length done + length dies
    → dies_from (between done) n (dies_records (length done) dies) ≡ Ok (done ++ dies)
unfolding dies_from
dies-on [] done n all few short some =
    let none_not : (length done == 0) ≡ false = ne_eqb (length done) 0 (omega arith) in
    rw none_not (ap Ok (sym (append-nil done)))
dies-on (die ∷ dies) done n all few short some =
    let longer : length (done ++ die ∷ []) ≡ length done + 1 = length-append done (die ∷ []) in
    let step = die-on done die n (length done) (dies_records (length done + 1) dies) (All-head IsSavedDie die dies all) refl (omega arith)
    (omega arith) in
    step.2 ∙ ap (λ k. dies_from (between (done ++ die ∷ [])) step.0 (dies_records k dies)) (sym longer)
    ∙ dies-on dies (done ++ die ∷ []) step.0 (All-tail IsSavedDie die dies all) (omega (arith, longer)) (omega (arith, step.1))
    (omega (arith, longer))
    ∙ ap Ok (append_assoc done (die ∷ []) dies)

-- The records of the text

written-back : (records : List Fields) → rows_from st.StartRecord [] [] (records_text records) ≡ map read_back records
unfolding rows_from
written-back [] = refl
written-back (r ∷ rs) = rows-next st.StartRecord [] [] (row_text default_writer r ++ records_text rs)
    ∙ rw (read-write r (records_text rs)) (ap (λ (t : List Fields). read_back r ∷ t) (written-back rs))

kind-back : {A : Type 0} (rec : A → Fields) → ((x : A) → read_back (rec x) ≡ rec x) → (xs : List A) → map read_back (map rec xs) ≡ map rec xs
kind-back rec each [] = refl
kind-back rec each (x ∷ xs) = rw (each x, kind-back rec each xs) refl

die-back : (number : ℕ) (die : SavedDie) → map read_back (die_records number die) ≡ die_records number die
die-back number die =
    let pages = map page_record die.pages in
    let blocks = map block_record die.blocks in
    let tasks = map task_record die.balances in
    let last = end_record number die.spare ∷ [] in
    map-append read_back pages (blocks ++ (tasks ++ last))
    ∙ rw (
      kind-back page_record (λ x. refl) die.pages,
      map-append read_back blocks (tasks ++ last),
      kind-back block_record (λ x. refl) die.blocks,
      map-append read_back tasks last,
      kind-back task_record (λ x. refl) die.balances,
    ) refl

dies-back : (number : ℕ) (dies : List SavedDie) → map read_back (dies_records number dies) ≡ dies_records number dies
dies-back number [] = refl
dies-back number (die ∷ dies) = map-append read_back (die_records number die) (dies_records (number + 1) dies)
    ∙ rw (die-back number die, dies-back (number + 1) dies) refl

records-back : (store : List SavedDie) → rows_of (checkpoint_text store) ≡ header_record ∷ dies_records 0 store
unfolding strip_bom
records-back store = written-back (header_record ∷ dies_records 0 store)
    ∙ ap (λ (t : List Fields). header_record ∷ t) (dies-back 0 store)

header-on : (rest : List Fields) → checkpoint_from (header_record ∷ rest) ≡ dies_from (between []) 2 rest
unfolding field_at
header-on rest = refl

pub comes-back : (store : List SavedDie) → IsStore store → checkpoint_of (checkpoint_text store) ≡ Ok store
comes-back store is =
    ap checkpoint_from (records-back store) ∙ header-on (dies_records 0 store)
    ∙ dies-on store [] 2 is.dies (omega (arith, is.few)) (omega (arith, is.few)) (omega (arith, is.some))
