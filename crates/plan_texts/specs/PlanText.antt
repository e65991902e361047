-- The numbers of a plan's text, or the first fault of the text.
use Rattle.std.specs.Prelude.{ℕ, nat_lt, ◌==◌, ◌&&◌, ◌||◌, is_some, Bool, true, List, [], ◌∷◌, ◌++◌, length, codes, Option, Some, None}
use Rattle.std.specs.Prelude.{option_and_then, Result, Ok, if◌then◌else◌}
use Rattle.std.specs.Str.{is_utf8}
use Rattle.toml.specs.Data.{Items, no_items, item, Members, get_member, as_array, as_table}
use Rattle.toml.specs.Parse.{parse_document}
use Rattle.slot_types.specs.declared.refusals.Cause.TheVariants as cause
use Rattle.slot_types.specs.declared.refusals.Refusal.{Refusal}
use Rattle.text_base.specs.Readings.{◌>>=◌}
use Rattle.plan_texts.specs.Tables.{checked_keys, fault, has_only, has_task_keys, has_times, has_top_keys, is_task_key, is_top_key}
use Rattle.plan_texts.specs.Tables.{number_at, or_fault}
use Rattle.slot_types.specs.declared.plans.TaskTimes.{TaskTimes}
use Rattle.plan_texts.specs.declared.numbers.PlanNumbers.{PlanNumbers}
use Rattle.plan_texts.specs.declared.numbers.TaskNumbers.{TaskNumbers}
use Rattle.plan_texts.specs.declared.numbers.TopNumbers.{TopNumbers}

-- the hyperperiod, in a plan with times
abbrev pub common_of : Bool → Members → Result (Option ℕ) Refusal
common_of timed ms = if timed then (number_at ms (codes "common") >>= (λ common. Ok (Some common))) else Ok None

-- the numbers of the top table, of a plan with times or without
unfoldable pub top_of : Bool → Members → Result TopNumbers Refusal
top_of timed ms = do
  keys ← checked_keys (has_only (is_top_key timed) ms) (has_top_keys timed ms)
  version ← number_at ms (codes "version")
  dies ← number_at ms (codes "dies")
  blocks ← number_at ms (codes "blocks")
  pages ← number_at ms (codes "pages")
  erase_slots ← number_at ms (codes "erase_slots")
  logical ← number_at ms (codes "logical")
  alpha ← number_at ms (codes "alpha")
  common ← common_of timed ms
  Ok (record {
    version = version;
    dies = dies;
    blocks = blocks;
    pages = pages;
    erase_slots = erase_slots;
    logical = logical;
    alpha = alpha;
    common = common;
  })

-- the times in a task
unfoldable pub times_in : Members → Result TaskTimes Refusal
times_in ms = do
  period ← number_at ms (codes "period")
  collect_period ← number_at ms (codes "collect_period")
  work ← number_at ms (codes "work")
  writes ← number_at ms (codes "writes")
  Ok (record { period = period; collect_period = collect_period; work = work; writes = writes })

-- the times of a task, in a plan with times
abbrev pub task_times_read : Bool → Members → Result (Option TaskTimes) Refusal
task_times_read timed ms = if timed then (times_in ms >>= (λ times. Ok (Some times))) else Ok None

-- the numbers of a task, of a plan with times or without
unfoldable pub task_of : Bool → Members → Result TaskNumbers Refusal
task_of timed ms = do
  keys ← checked_keys (has_only (is_task_key timed) ms) (has_task_keys timed ms)
  die ← number_at ms (codes "die")
  cap ← number_at ms (codes "cap")
  times ← task_times_read timed ms
  Ok (record { die = die; cap = cap; times = times })

abbrev pub task_in : Bool → Option Members → Result TaskNumbers Refusal
task_in timed None = fault cause.WrongKind
task_in timed (Some ms) = task_of timed ms

-- the numbers of the tasks, in their order
unfoldable pub tasks_of : Bool → Items → Result (List TaskNumbers) Refusal
tasks_of timed no_items = Ok []
tasks_of timed (item d ds) = do
  t ← task_in timed (as_table d)
  ts ← tasks_of timed ds
  Ok (t ∷ ts)

-- whether all items are tables
unfoldable pub are_tables : Items → Bool
are_tables no_items = true
are_tables (item d ds) = is_some (as_table d) && are_tables ds

-- an array of tables
abbrev pub tables_or : Option Items → Result Items Refusal
tables_or None = fault cause.WrongKind
tables_or (Some ds) = if are_tables ds then Ok ds else fault cause.WrongKind

-- a plan of version 1 has no times, one of version 2 has
abbrev pub is_known : ℕ → Bool
is_known version = (version == 1) || (version == 2)

-- the numbers of these, where the version is known
abbrev pub numbers_of_version : Bool → TopNumbers → Result (List TaskNumbers) Refusal → Result PlanNumbers Refusal
numbers_of_version known top read = if known then (read >>= (λ tasks. Ok (record { top = top; tasks = tasks }))) else fault cause.BadVersion

-- the numbers of a plan's table: the top table is judged first, then the version, then each task
unfoldable pub numbers_of : Members → Result PlanNumbers Refusal
numbers_of ms = do
  top ← top_of (has_times ms) ms
  tables ← tables_or (option_and_then as_array (get_member (codes "task") ms))
  numbers_of_version (is_known top.version) top (tasks_of (has_times ms) tables)

-- the table of a text
abbrev pub table_of : List ℕ → Result Members Refusal
table_of text =
    if nat_lt 1048576 (length text) then fault cause.TooLong
    else if is_utf8 text then or_fault cause.NotToml (parse_document text)
    else fault cause.NotToml

-- the numbers of a plan's text, or its first fault
abbrev pub plan_of : List ℕ → Result PlanNumbers Refusal
plan_of text = table_of text >>= numbers_of

-- these, and then those that are read
abbrev pub with_front : List TaskNumbers → Result (List TaskNumbers) Refusal → Result (List TaskNumbers) Refusal
with_front front read = read >>= (λ more. Ok (front ++ more))
