-- ReadFault comes where the reader's flag is set: no text has it of itself.
use Rattle.std.proofs.Common.{◌⊎◌, inl, inr, ℕ, ◌+◌, Bool, false, true, List, length, Option, Some, None, Result, Ok, Err, IfErr, sym, ◌∙◌}
use Rattle.std.specs.Prelude.{◌≢◌, ◌==◌, if◌then◌else◌, nat_lt, option_and_then}
use Rattle.std.specs.Str.{is_utf8}
use Rattle.slot_types.specs.declared.refusals.Cause.{Cause}
use Rattle.slot_types.specs.declared.refusals.Cause.TheVariants as cause
use Rattle.slot_types.specs.declared.refusals.Refusal.TheVariants.{ReadFault}
use Rattle.text_base.specs.Flags.{KeepsFlag}
use Rattle.toml.specs.Data.{Items, no_items, item, Members, get_member, as_array, as_table}
use Rattle.toml.specs.Parse.{parse_document}
use Rattle.plan_texts.specs.PlanText.{are_tables}
use Rattle.plan_texts.specs.Tables.{has_member, has_only}
use Rattle.terms_texts.specs.Keys.{is_task_key, is_top_key, name_of}
use Rattle.terms_texts.specs.Refusing.{◌>>=◌, IsMemory}
use Rattle.terms_texts.specs.Stores.{RefusesStore, RefusesText}
use Rattle.terms_texts.specs.Tables.{fault, key_at, no_version, number_at, or_fault, own_keys, task_keys_of, top_keys_of}
use Rattle.terms_texts.specs.TermsReading.{FlagsReadFault}
use Rattle.terms_texts.specs.TermsText.{checked_version, no_tables, numbers_of, read_numbers, table_of, tables_or, task_in, task_of, tasks_of}
use Rattle.terms_texts.specs.TermsText.{terms_in, top_of}
use Rattle.terms_texts.specs.declared.faults.Place.{Place}
use Rattle.terms_texts.specs.declared.faults.Place.TheVariants.{At, In, Whole}
use Rattle.terms_texts.specs.declared.faults.TableName.{TableName}
use Rattle.terms_texts.specs.declared.faults.TableName.TheVariants.{Top, Task}
use Rattle.terms_texts.specs.declared.faults.TermsRefusal.{TermsRefusal}
use Rattle.terms_texts.specs.declared.faults.TermsRefusal.TheVariants.{Outside, Text, BadShape, NoDie, Die}
use Rattle.terms_texts.specs.declared.keys.Key.{Key}
use Rattle.terms_texts.specs.declared.keys.Key.TheVariants as key
use Rattle.terms_texts.specs.declared.numbers.TermsNumbers.{TermsNumbers}
use Rattle.terms_texts.specs.declared.stores.DieTerms.{DieTerms}

-- The flag

-- a call that isn't ReadFault leaves the flag
pub tells-none : {X : Type 0} (r : Result X TermsRefusal) (a b : Option Bool) → KeepsFlag a b → IfErr r (λ e. e ≢ Outside ReadFault)
    → FlagsReadFault r a b
tells-none (Ok x) a b kept other = kept
tells-none (Err e) a b kept other = inr (other, kept)

-- A text has no ReadFault of itself

abbrev FailsOther : {X : Type 0} → Result X TermsRefusal → Type 0
FailsOther r = IfErr r (λ e. e ≢ Outside ReadFault)

then-other : {A B : Type 0} (r : Result A TermsRefusal) (f : A → Result B TermsRefusal) → FailsOther r → ((x : A) → FailsOther (f x))
    → FailsOther (r >>= f)
then-other (Ok x) f h k = k x
then-other (Err e) f h k = h

fault-other : (c : Cause) (place : Place) → Text c place ≢ Outside ReadFault
fault-other c place = λ is. absurd (cc is)

value-other : {A : Type 0} (c : Cause) (place : Place) (found : Option A) → FailsOther (or_fault c place found)
value-other c place None = fault-other c place
value-other c place (Some x) = tt

number-other : (name : TableName) (k : Key) (ms : Members) → FailsOther (number_at name k ms)
number-other name k ms = value-other cause.WrongKind (At name k) _

if-other : {A : Type 0} (b : Bool) (x y : Result A TermsRefusal) → FailsOther x → FailsOther y → FailsOther (if b then x else y)
if-other false x y h k = k
if-other true x y h k = h

own-other : (only : Bool) (name : TableName) → FailsOther (own_keys only name)
own-other false name = fault-other cause.ExtraKey (In name)
own-other true name = tt

key-other : (name : TableName) (k : Key) (ms : Members) → FailsOther (key_at name k ms)
key-other name k ms = if-other (has_member ms (name_of k)) (Ok tt) (fault cause.MissingKey (At name k)) tt (fault-other _ _)

version-other : (ms : Members) → FailsOther (no_version ms)
version-other ms = if-other (has_member ms (name_of key.Version)) (fault cause.ExtraKey (At Top key.Version)) (Ok tt) (fault-other _ _) tt

top_keys-other : (ms : Members) → FailsOther (top_keys_of ms)
unfolding top_keys_of
top_keys-other ms =
    then-other (no_version ms) _ (version-other ms) (λ plain.
    then-other (own_keys (has_only is_top_key ms) Top) _ (own-other _ _) (λ own.
    then-other (key_at Top key.Terms ms) _ (key-other Top key.Terms ms) (λ terms.
    then-other (key_at Top key.Dies ms) _ (key-other Top key.Dies ms) (λ dies.
    then-other (key_at Top key.Blocks ms) _ (key-other Top key.Blocks ms) (λ blocks.
    then-other (key_at Top key.Pages ms) _ (key-other Top key.Pages ms) (λ pages.
    then-other (key_at Top key.EraseSlots ms) _ (key-other Top key.EraseSlots ms) (λ erase_slots.
    then-other (key_at Top key.Logical ms) _ (key-other Top key.Logical ms) (λ logical.
    then-other (key_at Top key.Alpha ms) _ (key-other Top key.Alpha ms) (λ alpha.
    key-other Top key.Task ms)))))))))

task_keys-other : (name : TableName) (ms : Members) → FailsOther (task_keys_of name ms)
unfolding task_keys_of
task_keys-other name ms =
    then-other (own_keys (has_only is_task_key ms) name) _ (own-other _ _) (λ own.
    then-other (key_at name key.Die ms) _ (key-other name key.Die ms) (λ die.
    then-other (key_at name key.Cap ms) _ (key-other name key.Cap ms) (λ cap.
    then-other (key_at name key.Period ms) _ (key-other name key.Period ms) (λ period.
    then-other (key_at name key.Deadline ms) _ (key-other name key.Deadline ms) (λ deadline.
    then-other (key_at name key.Held ms) _ (key-other name key.Held ms) (λ held.
    then-other (key_at name key.Work ms) _ (key-other name key.Work ms) (λ work.
    then-other (key_at name key.Writes ms) _ (key-other name key.Writes ms) (λ writes.
    then-other (key_at name key.CollectPeriod ms) _ (key-other name key.CollectPeriod ms) (λ collect_period.
    key-other name key.CollectDeadline ms)))))))))

top-other : (ms : Members) → FailsOther (top_of ms)
unfolding top_of
top-other ms =
    then-other (top_keys_of ms) _ (top_keys-other ms) (λ keys.
    then-other (number_at Top key.Terms ms) _ (number-other Top key.Terms ms) (λ terms.
    then-other (number_at Top key.Dies ms) _ (number-other Top key.Dies ms) (λ dies.
    then-other (number_at Top key.Blocks ms) _ (number-other Top key.Blocks ms) (λ blocks.
    then-other (number_at Top key.Pages ms) _ (number-other Top key.Pages ms) (λ pages.
    then-other (number_at Top key.EraseSlots ms) _ (number-other Top key.EraseSlots ms) (λ erase_slots.
    then-other (number_at Top key.Logical ms) _ (number-other Top key.Logical ms) (λ logical.
    then-other (number_at Top key.Alpha ms) _ (number-other Top key.Alpha ms) (λ alpha. tt))))))))

terms-other : (name : TableName) (ms : Members) → FailsOther (terms_in name ms)
unfolding terms_in
terms-other name ms =
    then-other (number_at name key.Period ms) _ (number-other name key.Period ms) (λ period.
    then-other (number_at name key.Deadline ms) _ (number-other name key.Deadline ms) (λ deadline.
    then-other (number_at name key.Held ms) _ (number-other name key.Held ms) (λ held.
    then-other (number_at name key.Work ms) _ (number-other name key.Work ms) (λ work.
    then-other (number_at name key.Writes ms) _ (number-other name key.Writes ms) (λ writes.
    then-other (number_at name key.CollectPeriod ms) _ (number-other name key.CollectPeriod ms) (λ collect_period.
    then-other (number_at name key.CollectDeadline ms) _ (number-other name key.CollectDeadline ms) (λ collect_deadline. tt)))))))

task-other : (name : TableName) (ms : Members) → FailsOther (task_of name ms)
unfolding task_of
task-other name ms =
    then-other (task_keys_of name ms) _ (task_keys-other name ms) (λ keys.
    then-other (number_at name key.Die ms) _ (number-other name key.Die ms) (λ die.
    then-other (number_at name key.Cap ms) _ (number-other name key.Cap ms) (λ cap.
    then-other (terms_in name ms) _ (terms-other name ms) (λ terms. tt))))

task_in-other : (i : ℕ) (found : Option Members) → FailsOther (task_in i found)
task_in-other i None = fault-other cause.WrongKind (At Top key.Task)
task_in-other i (Some ms) = task-other (Task i) ms

tasks-other : (i : ℕ) (ds : Items) → FailsOther (tasks_of i ds)
unfolding tasks_of
tasks-other i no_items = tt
tasks-other i (item d ds) =
    then-other (task_in i (as_table d)) _ (task_in-other i (as_table d)) (λ t.
    then-other (tasks_of (i + 1) ds) _ (tasks-other (i + 1) ds) (λ ts. tt))

tables-other : (found : Option Items) → FailsOther (tables_or found)
tables-other None = fault-other cause.WrongKind (At Top key.Task)
tables-other (Some ds) = if-other (are_tables ds) (Ok ds) no_tables tt (fault-other _ _)

checked-other : (ms : Members) → FailsOther (checked_version ms)
checked-other ms = then-other (number_at Top key.Terms ms) _ (number-other Top key.Terms ms)
    (λ terms. if-other (terms == 1) (Ok tt) (fault cause.BadVersion (At Top key.Terms)) tt (fault-other _ _))

numbers-other : (ms : Members) → FailsOther (numbers_of ms)
unfolding numbers_of
numbers-other ms =
    then-other (top_of ms) _ (top-other ms) (λ top.
    then-other (tables_or (option_and_then as_array (get_member (name_of key.Task) ms))) _ (tables-other _) (λ tables.
    then-other (checked_version ms) _ (checked-other ms) (λ version.
    then-other (tasks_of 0 tables) _ (tasks-other 0 tables) (λ tasks. tt))))

table-other : (long utf8 : Bool) (found : Option Members)
    → FailsOther (if long then fault cause.TooLong Whole else if utf8 then or_fault cause.NotToml Whole found else fault cause.NotToml Whole)
table-other true utf8 found = fault-other cause.TooLong Whole
table-other false false found = fault-other cause.NotToml Whole
table-other false true found = value-other cause.NotToml Whole found

text-other : (text : List ℕ) → FailsOther (read_numbers text)
text-other text = then-other (table_of text) numbers_of
    (table-other (nat_lt 1048576 (length text)) (is_utf8 text) (parse_document text)) numbers-other

store-other : (plan : TermsNumbers) (refusal : TermsRefusal) → RefusesStore plan refusal → refusal ≢ Outside ReadFault
store-other plan BadShape h = λ is. absurd (cc is)
store-other plan (NoDie task) h = λ is. absurd (cc is)
store-other plan (Die die fault) h = λ is. absurd (cc is)
store-other plan (Outside refusal) h = absurd h
store-other plan (Text c place) h = absurd h

refuses-other : (read : Result TermsNumbers TermsRefusal) (refusal : TermsRefusal) → FailsOther read → RefusesText read refusal
    → refusal ≢ Outside ReadFault
refuses-other (Ok plan) refusal h refuses = store-other plan refusal refuses
refuses-other (Err e) refusal h refuses = λ is. h (sym refuses ∙ is)

-- nor has what comes of reading it
pub refused-other : (text : List ℕ) (r : Result (List DieTerms) TermsRefusal)
    → IfErr r (λ refusal. IsMemory refusal ⊎ RefusesText (read_numbers text) refusal) → FailsOther r
refused-other text (Ok store) h = tt
refused-other text (Err e) (inl memory) = λ is. absurd (cc (sym memory ∙ is))
refused-other text (Err e) (inr refuses) = refuses-other (read_numbers text) e (text-other text) refuses
