-- ReadFault comes where the reader's flag is set: no text has it of itself.
use Rattle.std.proofs.Common.{◌≡◌, ◌⊎◌, inl, inr, ℕ, Bool, false, true, List, length, Option, Some, None, Result, Ok, Err, IfErr, sym, ap, ◌∙◌}
use Rattle.std.specs.Prelude.{◌≢◌, ◌↔◌, IsErrAnd, if◌then◌else◌, nat_lt, option_and_then, codes}
use Rattle.std.specs.Str.{is_utf8}
use Rattle.slot_types.specs.declared.plans.DiePlan.{DiePlan}
use Rattle.slot_types.specs.declared.refusals.Cause.{Cause}
use Rattle.slot_types.specs.declared.refusals.Cause.TheVariants as cause
use Rattle.slot_types.specs.declared.refusals.Refusal.{Refusal}
use Rattle.slot_types.specs.declared.refusals.Refusal.TheVariants.{NoMemory, PlanText, ReadFault}
use Rattle.text_base.specs.Readings.{◌>>=◌, IsOutside}
use Rattle.text_base.specs.Flags.{KeepsFlag}
use Rattle.text_base.proofs.WriterEnds.{no_flag}
use Rattle.toml.specs.Data.{Items, no_items, item, Members, get_member, as_array, as_table}
use Rattle.toml.specs.Parse.{parse_document}
use Rattle.plan_texts.specs.PlanReading.{FlagsReadFault}
use Rattle.plan_texts.specs.PlanText.{are_tables, common_of, is_known, numbers_of, numbers_of_version, plan_of, table_of, tables_or, task_in}
use Rattle.plan_texts.specs.PlanText.{task_of, task_times_read, tasks_of, times_in, top_of}
use Rattle.plan_texts.specs.Stores.{RefusesPlan, RefusesStore}
use Rattle.plan_texts.specs.Tables.{checked_keys, fault, has_only, has_task_keys, has_times, has_top_keys, is_task_key, is_top_key}
use Rattle.plan_texts.specs.Tables.{number_at, or_fault}
use Rattle.plan_texts.specs.declared.numbers.PlanNumbers.{PlanNumbers}
use Rattle.plan_texts.specs.declared.numbers.TopNumbers.{TopNumbers}

-- The flag

-- a call that isn't ReadFault leaves the flag
pub tells-none : {X : Type 0} (r : Result X Refusal) (a b : Option Bool) → KeepsFlag a b → IfErr r (λ e. e ≢ ReadFault)
    → FlagsReadFault r a b
tells-none (Ok x) a b kept other = kept
tells-none (Err e) a b kept other = inr (other, kept)

-- of a flag that wasn't set, ReadFault comes where it is set
pub fault_by_flag : {X : Type 0} (left : Option Bool) (one : Result X Refusal) → FlagsReadFault one (Some false) left
    → (one ≡ Err ReadFault) ↔ (left ≡ Some true)
fault_by_flag left (Ok x) h = (λ is. absurd (cc is), λ set. absurd (no_flag left h set))
fault_by_flag left (Err e) (inl h) = (λ is. h.1, λ set. ap Err h.0)
fault_by_flag left (Err e) (inr h) = (λ is. absurd (h.0 (cc is)), λ set. absurd (no_flag left h.1 set))

-- and answers that leave the same flag are the same, except for memory
pub one_by_flag : {X : Type 0} (left right : Option Bool) (one other : Result X Refusal) → FlagsReadFault one (Some false) left
    → FlagsReadFault other (Some false) right → (one ≡ other) ⊎ IsErrAnd one IsOutside ⊎ IsErrAnd other IsOutside → left ≡ right
    → (one ≡ other) ⊎ (one ≡ Err NoMemory) ⊎ (other ≡ Err NoMemory)
one_by_flag left right one other h k (inl same) flags = inl same
one_by_flag left right (Ok x) other h k (inr (inl none)) flags = absurd none
one_by_flag left right (Err e) other h k (inr (inl (inl memory))) flags = inr (inl (ap Err memory))
one_by_flag {X = X} left right (Err e) other h k (inr (inl (inr failed))) flags =
    inl (ap Err failed ∙ sym ((fault_by_flag right other k).1 (sym flags ∙ (fault_by_flag {X = X} left (Err e) h).0 (ap Err failed))))
one_by_flag left right one (Ok x) h k (inr (inr none)) flags = absurd none
one_by_flag left right one (Err e) h k (inr (inr (inl memory))) flags = inr (inr (ap Err memory))
one_by_flag {X = X} left right one (Err e) h k (inr (inr (inr failed))) flags =
    inl ((fault_by_flag left one h).1 (flags ∙ (fault_by_flag {X = X} right (Err e) k).0 (ap Err failed)) ∙ sym (ap Err failed))

-- A text has no ReadFault of itself

abbrev FailsOther : {X : Type 0} → Result X Refusal → Type 0
FailsOther r = IfErr r (λ e. e ≢ ReadFault)

then-other : {A B : Type 0} (r : Result A Refusal) (f : A → Result B Refusal) → FailsOther r → ((x : A) → FailsOther (f x))
    → FailsOther (r >>= f)
then-other (Ok x) f h k = k x
then-other (Err e) f h k = h

fault-other : (c : Cause) → PlanText c ≢ ReadFault
fault-other c = λ is. absurd (cc is)

value-other : {A : Type 0} (c : Cause) (found : Option A) → FailsOther (or_fault c found)
value-other c None = fault-other c
value-other c (Some x) = tt

number-other : (ms : Members) (k : List ℕ) → FailsOther (number_at ms k)
number-other ms k = value-other cause.WrongKind _

keys-other : (only whole : Bool) → FailsOther (checked_keys only whole)
keys-other false whole = fault-other cause.ExtraKey
keys-other true false = fault-other cause.MissingKey
keys-other true true = tt

common-other : (timed : Bool) (ms : Members) → FailsOther (common_of timed ms)
common-other false ms = tt
common-other true ms = then-other (number_at ms (codes "common")) _ (number-other ms (codes "common")) (λ common. tt)

top-other : (timed : Bool) (ms : Members) → FailsOther (top_of timed ms)
unfolding top_of
top-other timed ms =
    then-other (checked_keys (has_only (is_top_key timed) ms) (has_top_keys timed ms)) _ (keys-other _ _) (λ keys.
    then-other (number_at ms (codes "version")) _ (number-other ms (codes "version")) (λ version.
    then-other (number_at ms (codes "dies")) _ (number-other ms (codes "dies")) (λ dies.
    then-other (number_at ms (codes "blocks")) _ (number-other ms (codes "blocks")) (λ blocks.
    then-other (number_at ms (codes "pages")) _ (number-other ms (codes "pages")) (λ pages.
    then-other (number_at ms (codes "erase_slots")) _ (number-other ms (codes "erase_slots")) (λ erase_slots.
    then-other (number_at ms (codes "logical")) _ (number-other ms (codes "logical")) (λ logical.
    then-other (number_at ms (codes "alpha")) _ (number-other ms (codes "alpha")) (λ alpha.
    then-other (common_of timed ms) _ (common-other timed ms) (λ common. tt)))))))))

times-other : (ms : Members) → FailsOther (times_in ms)
unfolding times_in
times-other ms =
    then-other (number_at ms (codes "period")) _ (number-other ms (codes "period")) (λ period.
    then-other (number_at ms (codes "collect_period")) _ (number-other ms (codes "collect_period")) (λ collect_period.
    then-other (number_at ms (codes "work")) _ (number-other ms (codes "work")) (λ work.
    then-other (number_at ms (codes "writes")) _ (number-other ms (codes "writes")) (λ writes. tt))))

task_times-other : (timed : Bool) (ms : Members) → FailsOther (task_times_read timed ms)
task_times-other false ms = tt
task_times-other true ms = then-other (times_in ms) _ (times-other ms) (λ times. tt)

task-other : (timed : Bool) (ms : Members) → FailsOther (task_of timed ms)
unfolding task_of
task-other timed ms =
    then-other (checked_keys (has_only (is_task_key timed) ms) (has_task_keys timed ms)) _ (keys-other _ _) (λ keys.
    then-other (number_at ms (codes "die")) _ (number-other ms (codes "die")) (λ die.
    then-other (number_at ms (codes "cap")) _ (number-other ms (codes "cap")) (λ cap.
    then-other (task_times_read timed ms) _ (task_times-other timed ms) (λ times. tt))))

task_in-other : (timed : Bool) (found : Option Members) → FailsOther (task_in timed found)
task_in-other timed None = fault-other cause.WrongKind
task_in-other timed (Some ms) = task-other timed ms

tasks-other : (timed : Bool) (ds : Items) → FailsOther (tasks_of timed ds)
unfolding tasks_of
tasks-other timed no_items = tt
tasks-other timed (item d ds) =
    then-other (task_in timed (as_table d)) _ (task_in-other timed (as_table d)) (λ t.
    then-other (tasks_of timed ds) _ (tasks-other timed ds) (λ ts. tt))

whole-other : (ds : Items) (whole : Bool) → FailsOther (if whole then Ok ds else fault cause.WrongKind)
whole-other ds false = fault-other cause.WrongKind
whole-other ds true = tt

tables-other : (found : Option Items) → FailsOther (tables_or found)
tables-other None = fault-other cause.WrongKind
tables-other (Some ds) = whole-other ds (are_tables ds)

version-other : (known : Bool) (top : TopNumbers) (timed : Bool) (ds : Items)
    → FailsOther (numbers_of_version known top (tasks_of timed ds))
version-other false top timed ds = fault-other cause.BadVersion
version-other true top timed ds = then-other (tasks_of timed ds) _ (tasks-other timed ds) (λ tasks. tt)

numbers-other : (ms : Members) → FailsOther (numbers_of ms)
unfolding numbers_of
numbers-other ms =
    then-other (top_of (has_times ms) ms) _ (top-other (has_times ms) ms) (λ top.
    then-other (tables_or (option_and_then as_array (get_member (codes "task") ms))) _ (tables-other _) (λ tables.
    version-other (is_known top.version) top (has_times ms) tables))

table-other : (long utf8 : Bool) (found : Option Members)
    → FailsOther (if long then fault cause.TooLong else if utf8 then or_fault cause.NotToml found else fault cause.NotToml)
table-other true utf8 found = fault-other cause.TooLong
table-other false false found = fault-other cause.NotToml
table-other false true found = value-other cause.NotToml found

plan-other : (text : List ℕ) → FailsOther (plan_of text)
plan-other text = then-other (table_of text) numbers_of
    (table-other (nat_lt 1048576 (length text)) (is_utf8 text) (parse_document text)) numbers-other

store-other : (plan : PlanNumbers) (refusal : Refusal) → RefusesStore plan refusal → refusal ≢ ReadFault
store-other plan refusal (inl bad) = λ is. absurd (cc (sym bad.0 ∙ is))
store-other plan refusal (inr bad) = λ is. absurd (cc (sym bad.0 ∙ is))

refuses-other : (read : Result PlanNumbers Refusal) (refusal : Refusal) → FailsOther read → RefusesPlan read refusal
    → refusal ≢ ReadFault
refuses-other (Ok plan) refusal h refuses = store-other plan refusal refuses
refuses-other (Err e) refusal h refuses = λ is. h (sym refuses ∙ is)

-- nor has what comes of reading it
pub refused-other : (text : List ℕ) (r : Result (List DiePlan) Refusal)
    → IfErr r (λ refusal. (refusal ≡ NoMemory) ⊎ RefusesPlan (plan_of text) refusal) → FailsOther r
refused-other text (Ok store) h = tt
refused-other text (Err e) (inl memory) = λ is. absurd (cc (sym memory ∙ is))
refused-other text (Err e) (inr refuses) = refuses-other (plan_of text) e (plan-other text) refuses
