-- How items follow from rows.
use Rattle.std.proofs.Common.{◌≡◌, ◌⊎◌, inl, inr, ℕ, Bool, true, false, List, ◌∷◌, Option, Some, None, Result, Ok, Err, refl, sym, ap, ◌∙◌}
use Rattle.std.specs.Prelude.{◌≢◌, ◌==◌, length, option_map, replicate, if◌then◌else◌}
use Rattle.slot_types.specs.Arrivals.{IsArrival, arrival_of}
use Rattle.slot_types.specs.declared.events.Event.TheVariants.{Collect, Submit}
use Rattle.slot_types.specs.declared.events.JobHead.{JobHead}
use Rattle.slot_types.specs.declared.events.Op.{Op}
use Rattle.slot_types.specs.declared.refusals.Refusal.{Refusal}
use Rattle.slot_types.specs.declared.refusals.Cause.TheVariants as cause
use Rattle.slot_types.specs.declared.refusals.Refusal.TheVariants.{NoMemory, ReadFault, ScriptRow}
use Rattle.text_base.specs.CsvRecords.{Fields, rows_of}
use Rattle.text_base.specs.Readings.{◌>>=◌, Shows}
use Rattle.text_base.specs.Ops.{ops_of, ops_or}
use Rattle.script_texts.specs.declared.script_rows.RowHead.{RowHead}
use Rattle.script_texts.specs.declared.script_rows.ScriptItem.{ScriptItem}
use Rattle.script_texts.specs.Heads.{row_of, row_read}
use Rattle.script_texts.specs.RowTexts.{RowText, item_in, item_with, row_text}
use Rattle.script_texts.specs.ScriptRows.{event_of, fault}
use Rattle.script_texts.specs.Script.{EndsFit, Gives, Reading, Yields, items_from, items_in, items_or, reading_of, rows_in, script_at, script_of}
use Rattle.script_texts.specs.Script.{whole, with_first, with_front}

-- Operations

-- what was put in place of the operations of a job is what its row says
pub job-read : (head : RowHead) (text : List ℕ) (ops : List Op) (r : Result (Unit {0}) Refusal) → head.job.collects ≡ false
    → Shows (λ _. ops) r (ops_or head.line (ops_of text)) → Shows (λ _. row_of head ops) r (item_in (row_text head text))
job-read head text ops (Ok x) job put = rw (job, put) refl
job-read head text ops (Err e) job (inl memory) = inl memory
job-read head text ops (Err e) job (inr is) = inr (rw (job, is) refl)

-- a row asks for an event from outside
pub arrives : (job : JobHead) (ops : List Op) → IsArrival (arrival_of job ops)
arrives job ops = by job.collects refl
  where
    by : (collects : Bool) → job.collects ≡ collects → IsArrival (arrival_of job ops)
    by true is = rw is tt
    by false is = rw is tt

-- the only fault of operations is that of their record

collect-fault : (empty : Bool) (line task release due : ℕ) (head : RowHead) (e : Refusal)
    → ((if empty then Ok (Collect task release due) else fault line cause.Ops) >>= (λ event. Ok (item_with head event))) ≡ Err e
    → ◌≡◌ {A = Result ScriptItem Refusal} (Err (ScriptRow line cause.Ops)) (Err e)
collect-fault true line task release due head e is = absurd (cc)
collect-fault false line task release due head e is = is

job-fault : (found : Option (List Op)) (line task release due : ℕ) (head : RowHead) (e : Refusal)
    → (ops_or line found >>= (λ ops. Ok (Submit task release due ops)) >>= (λ event. Ok (item_with head event))) ≡ Err e
    → ◌≡◌ {A = Result ScriptItem Refusal} (Err (ScriptRow line cause.Ops)) (Err e)
job-fault None line task release due head e is = is
job-fault (Some ops) line task release due head e is = absurd (cc)

event-fault : (collects : Bool) (line task release due : ℕ) (text : List ℕ) (head : RowHead) (e : Refusal)
    → (event_of line collects task release due text >>= (λ event. Ok (item_with head event))) ≡ Err e
    → ◌≡◌ {A = Result ScriptItem Refusal} (Err (ScriptRow line cause.Ops)) (Err e)
event-fault true line task release due text head e is = collect-fault (length text == 0) line task release due head e is
event-fault false line task release due text head e is = job-fault (ops_of text) line task release due head e is

pub no-read-fault : (row : RowText) (e : Refusal) → (e ≡ NoMemory) ⊎ (item_in row ≡ Err e) → e ≢ ReadFault
no-read-fault row e (inl memory) is = absurd (cc (sym memory ∙ is))
no-read-fault row e (inr fault) is =
    let own : ◌≡◌ {A = Result ScriptItem Refusal} (Err (ScriptRow row.head.line cause.Ops)) (Err e) = event-fault row.head.job.collects
    row.head.line row.head.job.task row.head.job.release row.head.job.due row.ops row.head e fault in
    let same : ScriptRow row.head.line cause.Ops ≡ e = cc in
    absurd (cc (same ∙ is))

-- Step by step

-- no row is left
pub items-end : (rows new : Option (Reading RowText)) → Gives rows new (Ok None)
    → Gives (option_map items_in rows) (option_map items_in new) (Ok None)
unfolding items_from
items-end None new h = tt
items-end (Some all) new h = (ap items_in h.0, ap (option_map items_in) h.1)

-- there is no row that can be read
pub items-fault : (rows new : Option (Reading RowText)) (left : Option (Reading ScriptItem)) (e : Refusal) → Gives rows new (Err e)
    → Gives (option_map items_in rows) left (Err e)
unfolding items_from
items-fault None new left e h = tt
items-fault (Some all) new left e (inl out) = inl out
items-fault (Some all) new left e (inr is) = inr (ap items_in is)

-- the row is an item
pub items-item : (rows new : Option (Reading RowText)) (row : RowText) (x : ScriptItem) → Gives rows new (Ok (Some row)) → item_in row ≡ Ok x
    → Gives (option_map items_in rows) (option_map items_in new) (Ok (Some x))
unfolding items_from
items-item None new row x h is = tt
items-item (Some all) new row x (more, left, first) is = (items_in more, ap (option_map items_in) left, ap items_in first ∙ rw is refl)

-- its operations are at fault
pub items-ops : (rows new : Option (Reading RowText)) (left : Option (Reading ScriptItem)) (row : RowText) (e : Refusal)
    → Gives rows new (Ok (Some row))
    → (e ≡ NoMemory) ⊎ (item_in row ≡ Err e) → Gives (option_map items_in rows) left (Err e)
unfolding items_from
items-ops None new left row e h why = tt
items-ops (Some all) new left row e h (inl memory) = inl (inl memory)
items-ops (Some all) new left row e (more, rest, first) (inr is) = inr (ap items_in first ∙ rw is refl)

-- the text fits its bound or not, whatever its operations say
pub fit-read : (fits new : Option Bool) (o : Option RowHead) (ops : List Op) → EndsFit fits new (Ok o) → EndsFit fits new (row_read (Ok o) ops)
fit-read None new o ops h = tt
fit-read (Some fit) new None ops h = h
fit-read (Some fit) new (Some head) ops h = h

pub fit-fault : (fits new : Option Bool) (e : Refusal) → EndsFit {A = ScriptItem} fits new (Err e)
fit-fault None new e = tt
fit-fault (Some fit) new e = tt

-- As a whole

pub whole-step : (all new : Option (Reading ScriptItem)) (r : Result (Option ScriptItem) Refusal) → Gives all new r
    → Yields (option_map whole all) (option_map whole new) r
whole-step None new r h = tt
whole-step (Some all) new (Ok None) h = (ap whole h.0, ap (option_map whole) h.1)
whole-step (Some all) new (Ok (Some x)) h = (whole h.0, ap (option_map whole) h.1, ap whole h.2 ∙ front h.0)
  where
    front : (more : Reading ScriptItem) → whole (with_first x more) ≡ with_front x (whole more)
    front more = by more.fault
      where
        by : (fault : Option Refusal) → items_or (x ∷ more.items) fault ≡ with_front x (items_or more.items fault)
        by None = refl
        by (Some e) = refl
whole-step (Some all) new (Err e) (inl out) = inl out
whole-step (Some all) new (Err e) (inr is) = inr (ap whole is)

pub whole-of : (dies slots : ℕ) (text : Option (List ℕ)) (left : Option (Reading ScriptItem)) → left ≡ option_map (reading_of dies slots) text
    → option_map whole left ≡ option_map (script_of dies slots) text
whole-of dies slots None left is = ap (option_map whole) is
whole-of dies slots (Some bytes) left is = ap (option_map whole) is

-- the records of a text are its rows
pub rows-of : (dies slots : ℕ) (lasts : List ℕ) (text : Option (List ℕ)) (records : Option (List Fields)) → lasts ≡ replicate dies 0
    → records ≡ option_map rows_of text
    → option_map (script_at slots lasts 1) records ≡ option_map (rows_in dies slots) text
rows-of dies slots lasts None records start is = rw is refl
rows-of dies slots lasts (Some bytes) records start is = rw (start, is) refl

-- the rows of a text are read as its items
pub reading-of : (dies slots : ℕ) (text : Option (List ℕ)) (rows : Option (Reading RowText)) → rows ≡ option_map (rows_in dies slots) text
    → option_map items_in rows ≡ option_map (reading_of dies slots) text
reading-of dies slots None rows is = ap (option_map items_in) is
reading-of dies slots (Some bytes) rows is = ap (option_map items_in) is
