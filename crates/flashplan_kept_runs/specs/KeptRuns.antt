-- Dies that kept their plans while they ran a script.
use Rattle.std.specs.Prelude.{◌≡◌, ℕ, ◌-◌, ◌≤◌, ◌<◌, max, List, [], length, Option, IfSome, slice_get, Ok}
use Rattle.std.specs.List.{AllZip}
use Rattle.terms_texts.specs.declared.stores.DieTerms.{DieTerms}
use Rattle.script_texts.specs.Script.{Script}
use Rattle.script_texts.specs.declared.script_rows.ScriptItem.{ScriptItem}
use Rattle.die_log.specs.Model.Log.{now}
use Rattle.planned_log.specs.Laws.{AreDoneInTime}
use Rattle.flashplan_script_runs.specs.ScriptRuns.{items_of_die, script_in}
use Rattle.flashplan_kept_runs.specs.KeptDies.{BeginsBy, HasMoved, KeptDie, begins_of, log_after}
use Rattle.flashplan_kept_runs.specs.KeptRows.{row_moves, rows_moves, run_moves, slot_after, slot_moves}

-- A die ran these rows and then the slots before this one: its log is what their moves leave, from its start on, and each
-- job that is due by now is done, and was by its deadline.
pub record HasKept (items : List ScriptItem) (slots : ℕ) (die : KeptDie) : Type 0 where
  pub moved : die.log ≡ log_after die.begun [] (run_moves die.begun.terms items slots)
  pub here : now die.log ≡ max slots (slot_after 0 items)
  pub in_time : AreDoneInTime die.begun.start.plan die.log

-- each of these dies ran its rows of a script, which is known or not
pub record RanKept (script : Option Script) (slots : ℕ) (dies : List KeptDie) : Type 0 where
  pub items : List ScriptItem
  pub read : IfSome script (λ all. all ≡ Ok items)
  pub ran : (number : ℕ) → IfSome (slice_get dies number) (HasKept (items_of_die items number) slots)

-- dies that began fresh by these plans ran a script of this text, and `slots` slots
pub record IsKeptRun (plans : List DieTerms) (text : Option (List ℕ)) (slots : ℕ) (dies : List KeptDie) : Type 0 where
  pub begin : AllZip BeginsBy plans (begins_of dies)
  pub ran : RanKept (script_in (length plans) slots text) slots dies

-- On the way

-- a die took rows, and carried out the slots before them
pub record HasTaken (items : List ScriptItem) (die : KeptDie) : Type 0 where
  pub moved : die.log ≡ log_after die.begun [] (rows_moves die.begun.terms 0 items)
  pub here : now die.log ≡ slot_after 0 items

abbrev pub HaveTaken : (ℕ → List ScriptItem) → List KeptDie → Type 0
HaveTaken rows dies = (number : ℕ) → IfSome (slice_get dies number) (HasTaken (rows number))

-- a die took one row more
pub record TakesRow (item : ScriptItem) (before after : KeptDie) : Type 0 where
  pub come : KeptDie
  pub carried : HasMoved (slot_moves (item.at - now before.log)) before come
  pub come_here : now come.log ≡ max item.at (now before.log)
  pub taken : HasMoved (row_moves before.begun.terms (now come.log) item.event) come after
  pub here : now after.log ≡ now come.log

-- those below this place were carried to this slot, and the others took their rows alone
pub record IsKeptTo (place number : ℕ) (items : List ScriptItem) (slots : ℕ) (die : KeptDie) : Type 0 where
  pub carried : number < place → HasKept items slots die
  pub taken : place ≤ number → HasTaken items die

abbrev pub HaveKeptTo : ℕ → (ℕ → List ScriptItem) → ℕ → List KeptDie → Type 0
HaveKeptTo place rows slots dies = (number : ℕ) → IfSome (slice_get dies number) (IsKeptTo place number (rows number) slots)

-- the rows of a script were read, each die took its own
pub record HaveRead (script : Option Script) (dies : List KeptDie) : Type 0 where
  pub items : List ScriptItem
  pub read : IfSome script (λ all. all ≡ Ok items)
  pub taken : HaveTaken (items_of_die items) dies
