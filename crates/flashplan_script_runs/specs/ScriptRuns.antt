-- Dies that ran the rows of a script.
use Rattle.std.specs.Prelude.{◌≡◌, ℕ, ◌-◌, ◌==◌, nat_lt, Bool, true, false, List, [], ◌∷◌, ◌++◌, filter, map, slice_get, if◌then◌else◌}
use Rattle.std.specs.Prelude.{◌⊎◌, All, length, Option, Some, None, IfSome, Ok, Err, flat_map, option_map}
use Rattle.slot_types.specs.declared.events.Event.{Event}
use Rattle.slot_types.specs.declared.events.Event.TheVariants as events
use Rattle.slot_types.specs.declared.refusals.Refusal.TheVariants.{DieStopped}
use Rattle.slot_types.specs.declared.refusals.Refusal.{Refusal}
use Rattle.die_log.specs.Model.Log.{Log, now}
use Rattle.die_log.specs.Model.Start.{Start}
use Rattle.text_base.specs.Readings.{IsOutside}
use Rattle.script_texts.specs.Script.{Script, script_of}
use Rattle.script_texts.specs.declared.script_rows.ScriptItem.{ScriptItem}
use Rattle.flashplan_script_runs.specs.declared.refused.RefusedRow.{RefusedRow}
use Rattle.flashplan_script_runs.specs.declared.refused.Asker.{Asker}
use Rattle.flashplan_script_runs.specs.RunningDies.{CarriesOut, EndsRow, IsAsked, IsCarriedTo, RunningDie, starts_of}

-- Rows

-- a row, and why it was refused, if it was
pub record EndedRow : Type 0 where
  pub item : ScriptItem
  pub refusal : Option Refusal

abbrev pub ended_row : ScriptItem → Option Refusal → EndedRow
ended_row item refusal = record { item = item; refusal = refusal }

abbrev pub items_of : List EndedRow → List ScriptItem
items_of rows = map (λ (row : EndedRow). row.item) rows

-- whose row it is
abbrev pub asker_by : ScriptItem → ℕ → Bool → Asker
asker_by item task collects = record { line = item.line; die = item.die; task = task; collects = collects }

abbrev pub asker_for : ScriptItem → Event → Asker
asker_for item (events.Submit task release due ops) = asker_by item task false
asker_for item (events.Collect task release due) = asker_by item task true
asker_for item events.Slot = asker_by item 0 false

abbrev pub asker_of : ScriptItem → Asker
asker_of item = asker_for item item.event

-- a row of this asker, if it was refused
abbrev pub refused_by : Asker → Option Refusal → List RefusedRow
refused_by asker None = []
refused_by asker (Some refusal) = record { asker = asker; refusal = refusal } ∷ []

-- those that were refused, in their order
abbrev pub refused_rows : List EndedRow → List RefusedRow
refused_rows rows = flat_map (λ (row : EndedRow). refused_by (asker_of row.item) row.refusal) rows

-- One die

-- a row came once the slots before its `at` were carried out
pub record RunsRow (start : Start) (before : Log) (row : EndedRow) (after : Log) : Type 0 where
  pub come : Log
  pub carried : CarriesOut start (row.item.at - now before) before come
  pub ended : EndsRow start come row.item.event row.refusal after

-- rows one after the other
abbrev pub RunsRows : Start → Log → List EndedRow → Log → Type 0
RunsRows start before [] after = after ≡ before
RunsRows start before (row ∷ rows) after = (between : Log) × RunsRow start before row between × RunsRows start between rows after

abbrev pub FindsStopped : EndedRow → Type 0
FindsStopped row = row.refusal ≡ Some DieStopped

-- A die ran these rows, and then the slots before this one; or its device failed on the way, and it refused the rows that
-- were left.
pub record HasRun (rows : List EndedRow) (slots : ℕ) (die : RunningDie) : Type 0 where
  pub front : List EndedRow
  pub rest : List EndedRow
  pub all : rows ≡ front ++ rest
  pub after_rows : Log
  pub ran : RunsRows die.start [] front after_rows
  pub more : ℕ
  pub carried : CarriesOut die.start more after_rows die.log
  pub whole : die.stopped ≡ false → (rest ≡ []) × (more ≡ slots - now after_rows)
  pub refused : All FindsStopped rest

-- a die ran these rows of a script, of which these were refused
pub record HasEnded (items : List ScriptItem) (refused : List RefusedRow) (slots : ℕ) (die : RunningDie) : Type 0 where
  pub rows : List EndedRow
  pub items_are : items_of rows ≡ items
  pub ran : HasRun rows slots die
  pub refused_are : refused ≡ refused_rows rows

-- All dies

-- the rows of a die, in their order
abbrev pub rows_of_die : List EndedRow → ℕ → List EndedRow
rows_of_die rows die = filter (λ row. row.item.die == die) rows

abbrev pub items_of_die : List ScriptItem → ℕ → List ScriptItem
items_of_die items die = filter (λ item. item.die == die) items

-- each of these dies ran its rows
abbrev pub HaveRun : (ℕ → List EndedRow) → ℕ → List RunningDie → Type 0
HaveRun rows slots dies = (number : ℕ) → IfSome (slice_get dies number) (HasRun (rows number) slots)

-- each of these dies ran its rows of a script, of which these were refused
pub record HaveEnded (items : List ScriptItem) (refused : List RefusedRow) (slots : ℕ) (dies : List RunningDie) : Type 0 where
  pub rows : List EndedRow
  pub items_are : items_of rows ≡ items
  pub ran : HaveRun (rows_of_die rows) slots dies
  pub refused_are : refused ≡ refused_rows rows

-- so it is of a script which is known or not
pub record RanScript (script : Option Script) (slots : ℕ) (refused : List RefusedRow) (dies : List RunningDie) : Type 0 where
  pub items : List ScriptItem
  pub read : IfSome script (λ all. all ≡ Ok items)
  pub ended : HaveEnded items refused slots dies

-- a die of this number ran its rows of a script, which is known or not
pub record RanAsDie (script : Option Script) (slots number : ℕ) (refused : List RefusedRow) (die : RunningDie) : Type 0 where
  pub items : List ScriptItem
  pub read : IfSome script (λ all. all ≡ Ok items)
  pub ended : HasEnded (items_of_die items number) refused slots die

-- memory ran out or the reader failed; or the script, where it is known, has this fault
abbrev pub RefusesScript : Option Script → Refusal → Type 0
RefusesScript script refusal = IsOutside refusal ⊎ IfSome script (λ all. all ≡ Err refusal)

-- Runs of texts

-- a text as a script for `dies` dies and `slots` slots, where the text is known
abbrev pub script_in : ℕ → ℕ → Option (List ℕ) → Option Script
script_in dies slots text = option_map (script_of dies slots) text

-- dies that start so ran a script of this text, of which these rows were refused, and `slots` slots
pub record IsRunOf (starts : List Start) (text : Option (List ℕ)) (slots : ℕ) (refused : List RefusedRow) (dies : List RunningDie)
    : Type 0 where
  pub starts_are : starts_of dies ≡ starts
  pub ran : RanScript (script_in (length starts) slots text) slots refused dies

-- so did the die of this number among them
pub record IsRunAs (starts : List Start) (text : Option (List ℕ)) (slots number : ℕ) (refused : List RefusedRow) (die : RunningDie)
    : Type 0 where
  pub start_is : slice_get starts number ≡ Some die.start
  pub ran : RanAsDie (script_in (length starts) slots text) slots number refused die

-- after its run a die carries out some slots more
pub record GoesOn (before after : RunningDie) : Type 0 where
  pub start_stays : after.start ≡ before.start
  pub more : ℕ
  pub carried : CarriesOut before.start more before.log after.log

-- On the way

-- a die was carried to the slot of a row, and asked for what the row says
pub record TakesRow (row : EndedRow) (before after : RunningDie) : Type 0 where
  pub come : RunningDie
  pub carried : IsCarriedTo row.item.at before come
  pub asked : IsAsked row.item.event row.refusal come after

-- so did the dies below this place, and the others ran their rows alone
abbrev pub HaveRunBelow : ℕ → (ℕ → List EndedRow) → ℕ → List RunningDie → Type 0
HaveRunBelow place rows slots dies =
    (number : ℕ) → IfSome (slice_get dies number) (HasRun (rows number) (if nat_lt number place then slots else 0))
