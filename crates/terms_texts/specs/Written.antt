-- The tables of a plan with terms as they are written.
use Rattle.std.specs.Prelude.{ℕ, List, pos}
use Rattle.std.specs.Cmp.Lexicographic.{slice_cmp}
use Rattle.std.specs.Ordering.{nat_cmp, match_ordering}
use Rattle.toml.specs.Data.{Data, integer, array, Items, Members, no_members, member}
use Rattle.terms_texts.specs.declared.keys.Key.{Key}
use Rattle.terms_texts.specs.declared.keys.Key.TheVariants as key
use Rattle.terms_texts.specs.declared.numbers.TaskNumbers.{TaskNumbers}
use Rattle.terms_texts.specs.declared.numbers.TopNumbers.{TopNumbers}
use Rattle.terms_texts.specs.Keys.{name_of}

-- a value at a key, in the order of the keys
abbrev pub with_member : List ℕ → Data → Members → Members
with_member k d no_members = member k d no_members
with_member k d (member l e ms) =
    match_ordering (slice_cmp nat_cmp k l) (member k d (member l e ms)) (member l d ms) (member l e (with_member k d ms))

-- a number at a key
abbrev pub with_number : Key → ℕ → Members → Members
with_number k n ms = with_member (name_of k) (integer (pos n)) ms

-- the table of a task
abbrev pub task_members : TaskNumbers → Members
task_members t =
    with_number key.CollectDeadline t.terms.collect_deadline (with_number key.CollectPeriod t.terms.collect_period
    (with_number key.Writes t.terms.writes (with_number key.Work t.terms.work (with_number key.Held t.terms.held
    (with_number key.Deadline t.terms.deadline (with_number key.Period t.terms.period
    (with_number key.Cap t.cap (with_number key.Die t.die no_members))))))))

-- the table of a plan, whose tasks are these
abbrev pub plan_members : TopNumbers → Items → Members
plan_members top tasks =
    with_member (name_of key.Task) (array tasks) (with_number key.Alpha top.alpha (with_number key.Logical top.logical
    (with_number key.EraseSlots top.erase_slots (with_number key.Pages top.pages (with_number key.Blocks top.blocks
    (with_number key.Dies top.dies (with_number key.Terms 1 no_members)))))))
