-- The numbers of a plan's text with terms, or the first fault of the text.
use Rattle.std.specs.Prelude.{ℕ, nat_lt, ◌+◌, ◌==◌, List, [], ◌∷◌, ◌++◌, length, Option, Some, None}
use Rattle.std.specs.Prelude.{option_and_then, Result, Ok, if◌then◌else◌}
use Rattle.std.specs.Str.{is_utf8}
use Rattle.toml.specs.Data.{Items, no_items, item, Members, get_member, as_array, as_table}
use Rattle.toml.specs.Parse.{parse_document}
use Rattle.slot_types.specs.declared.refusals.Cause.TheVariants as cause
use Rattle.demand_rules.specs.declared.terms.TaskTerms.{TaskTerms}
use Rattle.plan_texts.specs.PlanText.{are_tables}
use Rattle.terms_texts.specs.declared.faults.Place.TheVariants.{Whole, At}
use Rattle.terms_texts.specs.declared.faults.TableName.{TableName}
use Rattle.terms_texts.specs.declared.faults.TableName.TheVariants.{Top, Task}
use Rattle.terms_texts.specs.declared.faults.TermsRefusal.{TermsRefusal}
use Rattle.terms_texts.specs.declared.keys.Key.TheVariants as key
use Rattle.terms_texts.specs.declared.numbers.TermsNumbers.{TermsNumbers}
use Rattle.terms_texts.specs.declared.numbers.TaskNumbers.{TaskNumbers}
use Rattle.terms_texts.specs.declared.numbers.TopNumbers.{TopNumbers}
use Rattle.terms_texts.specs.Keys.{name_of}
use Rattle.terms_texts.specs.Refusing.{◌>>=◌}
use Rattle.terms_texts.specs.Tables.{fault, number_at, or_fault, task_keys_of, top_keys_of}

-- the numbers of the top table
unfoldable pub top_of : Members → Result TopNumbers TermsRefusal
top_of ms = do
  keys ← top_keys_of ms
  terms ← number_at Top key.Terms ms
  dies ← number_at Top key.Dies ms
  blocks ← number_at Top key.Blocks ms
  pages ← number_at Top key.Pages ms
  erase_slots ← number_at Top key.EraseSlots ms
  logical ← number_at Top key.Logical ms
  alpha ← number_at Top key.Alpha ms
  Ok (record {
    dies = dies;
    blocks = blocks;
    pages = pages;
    erase_slots = erase_slots;
    logical = logical;
    alpha = alpha;
  })

-- the terms in a task
unfoldable pub terms_in : TableName → Members → Result TaskTerms TermsRefusal
terms_in name ms = do
  period ← number_at name key.Period ms
  deadline ← number_at name key.Deadline ms
  held ← number_at name key.Held ms
  work ← number_at name key.Work ms
  writes ← number_at name key.Writes ms
  collect_period ← number_at name key.CollectPeriod ms
  collect_deadline ← number_at name key.CollectDeadline ms
  Ok (record {
    period = period;
    deadline = deadline;
    held = held;
    work = work;
    writes = writes;
    collect_period = collect_period;
    collect_deadline = collect_deadline;
  })

-- the numbers of a task
unfoldable pub task_of : TableName → Members → Result TaskNumbers TermsRefusal
task_of name ms = do
  keys ← task_keys_of name ms
  die ← number_at name key.Die ms
  cap ← number_at name key.Cap ms
  terms ← terms_in name ms
  Ok (record { die = die; cap = cap; terms = terms })

-- at `task` stands no array of tables
abbrev pub no_tables : {A : Type 0} → Result A TermsRefusal
no_tables = fault cause.WrongKind (At Top key.Task)

abbrev pub task_in : ℕ → Option Members → Result TaskNumbers TermsRefusal
task_in i None = no_tables
task_in i (Some ms) = task_of (Task i) ms

-- the numbers of the tasks, in their order, of which the first is numbered so in the text
unfoldable pub tasks_of : ℕ → Items → Result (List TaskNumbers) TermsRefusal
tasks_of i no_items = Ok []
tasks_of i (item d ds) = do
  t ← task_in i (as_table d)
  ts ← tasks_of (i + 1) ds
  Ok (t ∷ ts)

-- an array of tables
abbrev pub tables_or : Option Items → Result Items TermsRefusal
tables_or None = no_tables
tables_or (Some ds) = if are_tables ds then Ok ds else no_tables

-- the number at `terms` is 1
abbrev pub checked_version : Members → Result (Unit {0}) TermsRefusal
checked_version ms = number_at Top key.Terms ms
    >>= (λ terms. if terms == 1 then Ok tt else fault cause.BadVersion (At Top key.Terms))

-- the numbers of a plan's table: the top table is judged first, then the version, then each task
unfoldable pub numbers_of : Members → Result TermsNumbers TermsRefusal
numbers_of ms = do
  top ← top_of ms
  tables ← tables_or (option_and_then as_array (get_member (name_of key.Task) ms))
  version ← checked_version ms
  tasks ← tasks_of 0 tables
  Ok (record { top = top; tasks = tasks })

-- the table of a text
abbrev pub table_of : List ℕ → Result Members TermsRefusal
table_of text =
    if nat_lt 1048576 (length text) then fault cause.TooLong Whole
    else if is_utf8 text then or_fault cause.NotToml Whole (parse_document text)
    else fault cause.NotToml Whole

-- the numbers of a plan's text, or its first fault
abbrev pub read_numbers : List ℕ → Result TermsNumbers TermsRefusal
read_numbers text = table_of text >>= numbers_of

-- these, and then those that are read
abbrev pub with_front : List TaskNumbers → Result (List TaskNumbers) TermsRefusal → Result (List TaskNumbers) TermsRefusal
with_front front read = read >>= (λ more. Ok (front ++ more))
