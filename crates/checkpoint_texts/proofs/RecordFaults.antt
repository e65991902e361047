-- What a checkpoint's text is refused for is a fault of a record, and never of a reader.
use Rattle.std.proofs.Common.{◌≡◌, ◌≢◌, ◌⊎◌, ◌==◌, ℕ, Bool, List, length, Option, Some, None, Result, Ok, Err, true, false, inl, inr, ◌∙◌}
use Rattle.std.specs.Prelude.{◌&&◌, ⊤, codes, nat_lt, option_and_then, if◌then◌else◌}
use Rattle.csv.specs.Records.{field_at}
use Rattle.slot_types.specs.declared.pages.Place.{Place}
use Rattle.text_base.specs.CsvRecords.{Fields}
use Rattle.text_base.specs.Fields.{field_or, has_text}
use Rattle.text_base.specs.Number.{number_of}
use Rattle.text_base.specs.Pages.{page_of}
use Rattle.checkpoint_texts.specs.CheckpointOf.{header_of, whole_at}
use Rattle.checkpoint_texts.specs.Gathering.{has_none, may_end, with_item, with_record}
use Rattle.checkpoint_texts.specs.Readings.{◌>>=◌, FailsAtReadFault, broken_field, or_broken}
use Rattle.checkpoint_texts.specs.Records.{block_item, bytes_at, bytes_in, check_count, die_item, is_empty, item_of, number_at, page_item}
use Rattle.checkpoint_texts.specs.Records.{place_at, task_item}
use Rattle.checkpoint_texts.specs.declared.fault.RecordFault.{RecordFault}
use Rattle.checkpoint_texts.specs.declared.fault.RecordFault.TheVariants as fault
use Rattle.checkpoint_texts.specs.declared.fault.TextFault.{TextFault}
use Rattle.checkpoint_texts.specs.declared.fault.TextFault.TheVariants.{NoMemory, ReadFault}
use Rattle.checkpoint_texts.specs.declared.gathered.Gathered.{Gathered}
use Rattle.checkpoint_texts.specs.declared.items.Item.{Item}
use Rattle.checkpoint_texts.specs.declared.items.Item.TheVariants.{Page, Block, Task, Die}

-- no reader failed
abbrev pub HasNoReadFault : {A : Type 0} → Result A TextFault → Type 0
HasNoReadFault (Ok x) = ⊤
HasNoReadFault (Err e) = e ≢ ReadFault

broken-record : (n i : ℕ) (why : RecordFault) → HasNoReadFault (broken_field {A = Bool} n i why)
broken-record n i why = λ read. absurd (cc read)

or-record : {A : Type 0} (n i : ℕ) (why : RecordFault) (o : Option A) → HasNoReadFault (or_broken n i why o)
or-record n i why None = λ read. absurd (cc read)
or-record n i why (Some x) = tt

then-record : {A B : Type 0} (r : Result A TextFault) (f : A → Result B TextFault) → HasNoReadFault r
    → ((x : A) → HasNoReadFault (f x)) → HasNoReadFault (r >>= f)
then-record (Ok x) f first more = more x
then-record (Err e) f first more = first

if-record : {A : Type 0} (b : Bool) (x y : Result A TextFault) → HasNoReadFault x → HasNoReadFault y
    → HasNoReadFault (if b then x else y)
if-record true x y one other = one
if-record false x y one other = other

count-record : (n : ℕ) (fields : Fields) (count : ℕ) → HasNoReadFault (check_count n fields count)
count-record n fields count = if-record (length fields == count) _ _ tt (broken-record _ _ _)

number-record : (n : ℕ) (fields : Fields) (i : ℕ) → HasNoReadFault (number_at n fields i)
number-record n fields i = or-record n _ fault.Number (option_and_then number_of (field_at fields i))

place-record : (n : ℕ) (fields : Fields) → HasNoReadFault (place_at n fields)
place-record n fields =
    if-record (is_empty fields 1 && is_empty fields 2) _ _ tt
    (then-record (number_at n fields 1) _ (number-record n fields 1) (λ block.
    then-record (number_at n fields 2) _ (number-record n fields 2) (λ page. tt)))

bytes-in-record : (n : ℕ) (field : List ℕ) (place : Option Place) → HasNoReadFault (bytes_in n field place)
bytes-in-record n field None = broken-record n 4 fault.Bytes
bytes-in-record n field (Some place) =
    then-record (or_broken n 4 fault.Bytes (page_of field)) _ (or-record n 4 fault.Bytes (page_of field)) (λ page. tt)

bytes-record : (n : ℕ) (fields : Fields) (place : Option Place) → HasNoReadFault (bytes_at n fields place)
bytes-record n fields place = if-record (is_empty fields 3) _ _ tt (bytes-in-record n (field_or fields 3) place)

page-record : (n : ℕ) (fields : Fields) → HasNoReadFault (page_item n fields)
page-record n fields =
    then-record (check_count n fields 4) _ (count-record n fields 4) (λ four.
    then-record (place_at n fields) _ (place-record n fields) (λ place.
    then-record (bytes_at n fields place) _ (bytes-record n fields place) (λ bytes. tt)))

block-record : (n : ℕ) (fields : Fields) → HasNoReadFault (block_item n fields)
block-record n fields =
    then-record (check_count n fields 3) _ (count-record n fields 3) (λ three.
    then-record (number_at n fields 1) _ (number-record n fields 1) (λ filled.
    then-record (number_at n fields 2) _ (number-record n fields 2) (λ erases. tt)))

task-record : (n : ℕ) (fields : Fields) → HasNoReadFault (task_item n fields)
task-record n fields =
    then-record (check_count n fields 2) _ (count-record n fields 2) (λ two.
    then-record (number_at n fields 1) _ (number-record n fields 1) (λ balance. tt))

die-record : (n : ℕ) (fields : Fields) → HasNoReadFault (die_item n fields)
die-record n fields =
    then-record (check_count n fields 3) _ (count-record n fields 3) (λ three.
    then-record (number_at n fields 1) _ (number-record n fields 1) (λ die.
    then-record (number_at n fields 2) _ (number-record n fields 2) (λ spare. tt)))

item-record : (n : ℕ) (fields : Fields) → HasNoReadFault (item_of n fields)
unfolding item_of
item-record n fields =
    if-record (has_text (field_at fields 0) (codes "page")) _ _ (page-record n fields)
    (if-record (has_text (field_at fields 0) (codes "block")) _ _ (block-record n fields)
    (if-record (has_text (field_at fields 0) (codes "task")) _ _ (task-record n fields)
    (if-record (has_text (field_at fields 0) (codes "die")) _ _ (die-record n fields) (broken-record n 1 fault.Kind))))

add-record : (n : ℕ) (g : Gathered) (item : Item) → HasNoReadFault (with_item n g item)
add-record n g (Page page) = if-record (has_none g.blocks && has_none g.balances) _ _ tt (broken-record n 1 fault.Order)
add-record n g (Block block) = if-record (has_none g.balances) _ _ tt (broken-record n 1 fault.Order)
add-record n g (Task balance) = tt
add-record n g (Die number spare) = if-record ((number == length g.done) && nat_lt number 8) _ _ tt (broken-record n 2 fault.Die)

gather-record : (n : ℕ) (g : Gathered) (fields : Fields) → HasNoReadFault (with_record n g fields)
gather-record n g fields = then-record (item_of n fields) (with_item n g) (item-record n fields) (add-record n g)

whole-record : (n : ℕ) (g : Gathered) → HasNoReadFault (whole_at n g)
whole-record n g = if-record (may_end g) _ _ tt (broken-record n 1 fault.Order)

header-record : (fields : Fields) → HasNoReadFault (header_of fields)
header-record fields =
    if-record (has_text (field_at fields 0) (codes "checkpoint")) _ _
    (if-record (has_text (field_at fields 1) (codes "1")) _ _ (count-record 1 fields 2) (broken-record 1 2 fault.Version))
    (broken-record 1 1 fault.Header)

-- What a fault says of the reader

at-record : {A : Type 0} (old new : Bool) (r : Result A TextFault) → HasNoReadFault r → new ≡ old → FailsAtReadFault old new r
at-record old new (Ok x) none same = same
at-record old new (Err e) none same = inr (none, same)

-- the text ends
pub ends-at-record : (old new : Bool) (n : ℕ) (g : Gathered) (r : Result _ TextFault) → r ≡ whole_at n g → new ≡ old
    → FailsAtReadFault old new r
ends-at-record old new n g r is same = rw is (at-record old new (whole_at n g) (whole-record n g) same)

-- a record adds nothing, or memory ran out
pub stops-at-record : (old new : Bool) (n : ℕ) (g : Gathered) (fields : Fields) (e : TextFault)
    → (e ≡ NoMemory) ⊎ (with_record n g fields ≡ Err e) → new ≡ old → FailsAtReadFault {X = Bool} old new (Err e)
stops-at-record old new n g fields e (inl memory) same = inr (λ read. absurd (cc (memory, read)), same)
stops-at-record old new n g fields e (inr is) same = inr ((rw is at (gather-record n g fields)), same)

-- the first record is no header
pub header-at-record : (old new : Bool) (fields : Fields) (e : TextFault) → header_of fields ≡ Err e → new ≡ old
    → FailsAtReadFault {X = Bool} old new (Err e)
header-at-record old new fields e is same = inr ((rw is at (header-record fields)), same)

-- a call after others that left the reader as it was
pub fails-then : {X : Type 0} (old mid new : Bool) (r : Result X TextFault) → mid ≡ old → FailsAtReadFault mid new r
    → FailsAtReadFault old new r
fails-then old mid new (Ok x) same fails = fails ∙ same
fails-then old mid new (Err e) same (inl failed) = inl failed
fails-then old mid new (Err e) same (inr fault) = inr (fault.0, fault.1 ∙ same)
