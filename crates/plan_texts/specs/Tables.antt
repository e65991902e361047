-- What a plan asks of its tables.
use Rattle.std.specs.Prelude.{ℕ, ℤ, pos, negsuc, nat_lt, nat_eq, ◌==◌, ◌&&◌, ◌||◌, not, is_some, Bool, true, false, List, codes, Option}
use Rattle.std.specs.Prelude.{Some, None, option_and_then, Result, Ok, Err, if◌then◌else◌}
use Rattle.std.specs.Cmp.Lexicographic.{pointwise}
use Rattle.toml.specs.Data.{Members, no_members, member, get_member, as_integer}
use Rattle.slot_types.specs.declared.refusals.Cause.{Cause}
use Rattle.slot_types.specs.declared.refusals.Cause.TheVariants as cause
use Rattle.slot_types.specs.declared.refusals.Refusal.{Refusal}
use Rattle.slot_types.specs.declared.refusals.Refusal.TheVariants.{PlanText}

-- a fault of a plan's text
abbrev pub fault : {A : Type 0} → Cause → Result A Refusal
fault c = Err (PlanText c)

-- the value, or this fault
abbrev pub or_fault : {A : Type 0} → Cause → Option A → Result A Refusal
or_fault c None = fault c
or_fault c (Some x) = Ok x

abbrev pub is_text : List ℕ → List ℕ → Bool
is_text a b = pointwise nat_eq a b

-- whether each key passes a test
unfoldable pub has_only : (List ℕ → Bool) → Members → Bool
has_only test no_members = true
has_only test (member k d ms) = test k && has_only test ms

-- whether a key is one of the top table, of a plan with times or without
abbrev pub is_top_key : Bool → List ℕ → Bool
is_top_key timed k = is_text k (codes "version") || (is_text k (codes "dies") || (is_text k (codes "blocks") || (is_text k (codes "pages")
    || (is_text k (codes "erase_slots") || (is_text k (codes "logical") || (is_text k (codes "alpha") || (is_text k (codes "task")
    || (timed && is_text k (codes "common")))))))))

-- whether a key is one of the times of a task
abbrev pub is_time_key : List ℕ → Bool
is_time_key k = is_text k (codes "period") || (is_text k (codes "collect_period")
    || (is_text k (codes "work") || is_text k (codes "writes")))

-- whether a key is one of a task, of a plan with times or without
abbrev pub is_task_key : Bool → List ℕ → Bool
is_task_key timed k = is_text k (codes "die") || (is_text k (codes "cap") || (timed && is_time_key k))

abbrev pub has_member : Members → List ℕ → Bool
has_member ms k = is_some (get_member k ms)

-- whether each of those keys is there
abbrev pub has_top_keys : Bool → Members → Bool
has_top_keys timed ms = has_member ms (codes "version") && (has_member ms (codes "dies")
    && (has_member ms (codes "blocks") && (has_member ms (codes "pages")
    && (has_member ms (codes "erase_slots") && (has_member ms (codes "logical")
    && (has_member ms (codes "alpha") && (has_member ms (codes "task")
    && (not timed || has_member ms (codes "common")))))))))

abbrev pub has_time_keys : Members → Bool
has_time_keys ms =
    has_member ms (codes "period") && (has_member ms (codes "collect_period")
    && (has_member ms (codes "work") && has_member ms (codes "writes")))

abbrev pub has_task_keys : Bool → Members → Bool
has_task_keys timed ms = has_member ms (codes "die") && (has_member ms (codes "cap") && (not timed || has_time_keys ms))

-- the keys of a table are its own, and all are there
abbrev pub checked_keys : Bool → Bool → Result (Unit {0}) Refusal
checked_keys only whole = if only then (if whole then Ok tt else fault cause.MissingKey) else fault cause.ExtraKey

-- a whole number from 0 to 4,294,967,295
abbrev pub small_of : ℤ → Option ℕ
small_of (pos n) = if nat_lt n 4294967296 then Some n else None
small_of (negsuc n) = None

-- the number at a key
abbrev pub number_at : Members → List ℕ → Result ℕ Refusal
number_at ms k = or_fault cause.WrongKind (option_and_then small_of (option_and_then as_integer (get_member k ms)))

-- whether a plan has times: its version is the whole number 2
abbrev pub is_two : Option ℕ → Bool
is_two None = false
is_two (Some n) = n == 2

abbrev pub has_times : Members → Bool
has_times ms = is_two (option_and_then small_of (option_and_then as_integer (get_member (codes "version") ms)))
