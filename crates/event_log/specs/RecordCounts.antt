-- How many records a log takes, read off the log itself.
use Rattle.std.specs.Prelude.{ℕ, ◌+◌, ◌==◌, ◌&&◌, Bool, true, false, List, [], ◌∷◌, Option, Some, None}
use Rattle.slot_types.specs.declared.acts.Act.{Act}
use Rattle.slot_types.specs.declared.acts.Act.TheVariants as does
use Rattle.slot_types.specs.declared.replies.Reply.{Reply}
use Rattle.slot_types.specs.declared.replies.Reply.TheVariants as replies
use Rattle.slot_types.specs.declared.replies.SlotReply.{SlotReply}
use Rattle.slot_types.specs.declared.replies.Entry.{Entry}
use Rattle.slot_types.specs.declared.replies.Waived.{Waived}

abbrev pub waives_none : List Waived → Bool
waives_none [] = true
waives_none (w ∷ ws) = false

abbrev pub finishes_none : Option ℕ → Bool
finishes_none None = true
finishes_none (Some number) = false

-- a slot that waived nothing and finished nothing
abbrev pub is_quiet : SlotReply → Bool
is_quiet s = waives_none s.waived && finishes_none s.finished

-- this act was of the erase of this block
abbrev pub erases_block : ℕ → Act → Bool
erases_block block (does.Erase b) = block == b
erases_block block _ = false

-- this was an act of the erase of this block by this collection
abbrev pub is_erase_of : ℕ → ℕ → Option (ℕ × Act) → Bool
is_erase_of number block None = false
is_erase_of number block (Some (n, act)) = (number == n) && erases_block block act

-- both were acts of one erase
abbrev pub same_erase : ℕ → Act → Option (ℕ × Act) → Bool
same_erase number (does.Erase block) other = is_erase_of number block other
same_erase number _ other = false

abbrev pub is_idle : Option (ℕ × Act) → Bool
is_idle None = true
is_idle (Some ran) = false

-- both idle, or both acts of one erase
abbrev pub ran_alike : Option (ℕ × Act) → Option (ℕ × Act) → Bool
ran_alike None other = is_idle other
ran_alike (Some (number, act)) other = same_erase number act other

abbrev pub slots_alike : SlotReply → SlotReply → Bool
slots_alike s t = is_quiet s && is_quiet t && ran_alike s.ran t.ran

abbrev pub replied_alike : SlotReply → Reply → Bool
replied_alike s (replies.Slot t) = slots_alike s t
replied_alike s _ = false

abbrev pub replies_alike : Reply → Reply → Bool
replies_alike (replies.Slot s) other = replied_alike s other
replies_alike _ other = false

-- two successive entries are alike: slots of one caller, without waiver and without an end, both idle or both erase
-- acts of one erase
abbrev pub alike : Entry → Entry → Bool
alike e f = (e.caller == f.caller) && replies_alike e.reply f.reply

abbrev pub count_if : Bool → ℕ
count_if true = 0
count_if false = 1

abbrev pub record_count_with : Entry → List Entry → ℕ
record_count_with e [] = 1
record_count_with e (f ∷ past) = count_if (alike e f) + record_count_with f past

-- how many records a log takes: maximal runs of alike entries, an entry by itself being one
abbrev pub record_count : List Entry → ℕ
record_count [] = 0
record_count (e ∷ past) = record_count_with e past
