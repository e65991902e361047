-- What a plan with terms asks of its tables.
use Rattle.std.specs.Prelude.{ℕ, Bool, Option, Some, None, option_and_then, Result, Ok, Err, if◌then◌else◌}
use Rattle.toml.specs.Data.{Members, get_member, as_integer}
use Rattle.slot_types.specs.declared.refusals.Cause.{Cause}
use Rattle.slot_types.specs.declared.refusals.Cause.TheVariants as cause
use Rattle.plan_texts.specs.Tables.{has_member, has_only, small_of}
use Rattle.terms_texts.specs.declared.faults.Place.{Place}
use Rattle.terms_texts.specs.declared.faults.Place.TheVariants.{In, At}
use Rattle.terms_texts.specs.declared.faults.TableName.{TableName}
use Rattle.terms_texts.specs.declared.faults.TableName.TheVariants.{Top}
use Rattle.terms_texts.specs.declared.faults.TermsRefusal.{TermsRefusal}
use Rattle.terms_texts.specs.declared.faults.TermsRefusal.TheVariants.{Text}
use Rattle.terms_texts.specs.declared.keys.Key.{Key}
use Rattle.terms_texts.specs.declared.keys.Key.TheVariants as key
use Rattle.terms_texts.specs.Keys.{is_task_key, is_top_key, name_of}
use Rattle.terms_texts.specs.Refusing.{◌>>=◌}

-- a fault of a plan's text
abbrev pub fault : {A : Type 0} → Cause → Place → Result A TermsRefusal
fault c place = Err (Text c place)

-- the value, or this fault
abbrev pub or_fault : {A : Type 0} → Cause → Place → Option A → Result A TermsRefusal
or_fault c place None = fault c place
or_fault c place (Some x) = Ok x

-- the keys of a table are its own
abbrev pub own_keys : Bool → TableName → Result (Unit {0}) TermsRefusal
own_keys only name = if only then Ok tt else fault cause.ExtraKey (In name)

-- a plan with terms has no `version`
abbrev pub no_version : Members → Result (Unit {0}) TermsRefusal
no_version ms = if has_member ms (name_of key.Version) then fault cause.ExtraKey (At Top key.Version) else Ok tt

-- a table has this key
abbrev pub key_at : TableName → Key → Members → Result (Unit {0}) TermsRefusal
key_at name k ms = if has_member ms (name_of k) then Ok tt else fault cause.MissingKey (At name k)

-- the keys of the top table are its own, and all are there
unfoldable pub top_keys_of : Members → Result (Unit {0}) TermsRefusal
top_keys_of ms = do
  plain ← no_version ms
  own ← own_keys (has_only is_top_key ms) Top
  terms ← key_at Top key.Terms ms
  dies ← key_at Top key.Dies ms
  blocks ← key_at Top key.Blocks ms
  pages ← key_at Top key.Pages ms
  erase_slots ← key_at Top key.EraseSlots ms
  logical ← key_at Top key.Logical ms
  alpha ← key_at Top key.Alpha ms
  key_at Top key.Task ms

-- and those of a task
unfoldable pub task_keys_of : TableName → Members → Result (Unit {0}) TermsRefusal
task_keys_of name ms = do
  own ← own_keys (has_only is_task_key ms) name
  die ← key_at name key.Die ms
  cap ← key_at name key.Cap ms
  period ← key_at name key.Period ms
  deadline ← key_at name key.Deadline ms
  held ← key_at name key.Held ms
  work ← key_at name key.Work ms
  writes ← key_at name key.Writes ms
  collect_period ← key_at name key.CollectPeriod ms
  key_at name key.CollectDeadline ms

-- the number at a key, a whole one from 0 to 4,294,967,295
abbrev pub number_at : TableName → Key → Members → Result ℕ TermsRefusal
number_at name k ms = or_fault cause.WrongKind (At name k)
    (option_and_then small_of (option_and_then as_integer (get_member (name_of k) ms)))
