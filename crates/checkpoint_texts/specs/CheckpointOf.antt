-- The checkpoint of a text, or its first fault.
use Rattle.std.specs.Prelude.{ℕ, ◌+◌, nat_lt, ⊤, List, [], ◌∷◌, codes, Result, Ok, if◌then◌else◌}
use Rattle.csv.specs.Records.{field_at}
use Rattle.text_base.specs.CsvRecords.{Fields, rows_of}
use Rattle.text_base.specs.Fields.{has_text}
use Rattle.checkpoint_texts.specs.Gathering.{between, may_end, with_record}
use Rattle.checkpoint_texts.specs.Readings.{◌>>=◌, broken_field}
use Rattle.checkpoint_texts.specs.Records.{OrFault, check_count}
use Rattle.checkpoint_texts.specs.declared.fault.RecordFault.TheVariants as fault
use Rattle.checkpoint_texts.specs.declared.fault.TextFault.{TextFault}
use Rattle.checkpoint_texts.specs.declared.gathered.Gathered.{Gathered}
use Rattle.checkpoint_texts.specs.declared.saved.SavedDie.{SavedDie}

-- the dies of a store, or the fault of its text
abbrev pub Reading : Type 0
Reading = Result (List SavedDie) TextFault

-- the most records: the header, and for each of eight dies 262,144 pages, 1,024 blocks, 16 tasks and one more
abbrev pub most_records : ℕ
most_records = 2105481

-- all dies, where the next record would have this number
abbrev pub whole_at : ℕ → Gathered → Reading
whole_at n g = if may_end g then Ok g.done else broken_field n 1 fault.Order

-- the records from this number on
unfoldable pub dies_from : Gathered → ℕ → List Fields → Reading
dies_from g n [] = whole_at n g
dies_from g n (fields ∷ rest) =
    if nat_lt most_records n then broken_field n 1 fault.TooMany
    else with_record n g fields >>= (λ more. dies_from more (n + 1) rest)

-- whether a record is the header of a checkpoint, with a version that is read
abbrev pub header_of : Fields → OrFault ⊤
header_of fields =
    if has_text (field_at fields 0) (codes "checkpoint")
    then (if has_text (field_at fields 1) (codes "1") then check_count 1 fields 2 else broken_field 1 2 fault.Version)
    else broken_field 1 1 fault.Header

-- the header, and then the dies
abbrev pub checkpoint_from : List Fields → Reading
checkpoint_from [] = broken_field 1 1 fault.Header
checkpoint_from (fields ∷ rest) = header_of fields >>= (λ _. dies_from (between []) 2 rest)

-- the checkpoint of a text, or its first fault
abbrev pub checkpoint_of : List ℕ → Reading
checkpoint_of text = checkpoint_from (rows_of text)
