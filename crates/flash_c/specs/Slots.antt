-- Calls of the device and replies as C has them.
use Rattle.std.specs.Prelude.{ℕ, length, Option, Some, None, is_some}
use Rattle.slot_types.specs.declared.acts.Act.{Act}
use Rattle.slot_types.specs.declared.acts.Act.TheVariants as does
use Rattle.slot_types.specs.declared.replies.SlotReply.{SlotReply}
use Rattle.slot_types.specs.declared.replies.Waived.{Waived}
use Rattle.slot_core.specs.declared.next_slot.NextAct.{NextAct}
use Rattle.slot_core.specs.declared.next_slot.NextAct.TheVariants as next
use Rattle.stepped_die.specs.declared.calls.Begun.{Begun}
use Rattle.stepped_die.specs.declared.calls.Call.{Call}
use Rattle.stepped_die.specs.declared.calls.Call.TheVariants as calls
use Rattle.flash_c.specs.declared.slots.Shown.{Shown}
use Rattle.flash_c.specs.declared.shapes.FlashCall.{FlashCall}
use Rattle.flash_c.specs.declared.shapes.FlashReply.{FlashReply}
use Rattle.flash_c.specs.declared.shapes.FlashWaived.{FlashWaived}
use Rattle.flash_c.specs.Counts.{count_of, flag}
use Rattle.flash_c.specs.Names.{name_of, no_name}

-- what an act shows: its number, its page or block, and the name that it read or wrote
abbrev pub act_shown : Act → Shown
act_shown (does.Read page bytes) = record { act = 1; page = page; name = name_of bytes }
act_shown (does.Write page bytes) = record { act = 2; page = page; name = name_of bytes }
act_shown (does.Trim page) = record { act = 3; page = page; name = no_name }
act_shown (does.CopyRead page) = record { act = 4; page = page; name = no_name }
act_shown (does.CopyProgram page) = record { act = 5; page = page; name = no_name }
act_shown (does.Erase block) = record { act = 6; page = block; name = no_name }

-- who had the slot, and what it did; an idle slot is 0, without a job
abbrev pub job_in : Option (ℕ × Act) → ℕ
job_in None = 0
job_in (Some ran) = ran.0

abbrev pub shown_of : Option (ℕ × Act) → Shown
shown_of None = record { act = 0; page = 0; name = no_name }
shown_of (Some ran) = act_shown ran.1

-- what a slot did that this caller began
abbrev pub reply_of : ℕ → SlotReply → FlashReply
reply_of caller reply = let did = shown_of reply.ran in record {
  slot = reply.slot;
  act = did.act;
  job = job_in reply.ran;
  page = did.page;
  finished = flag (is_some reply.finished);
  waived = count_of (length reply.waived);
  caller = caller;
  name = did.name;
}

abbrev pub waived_of : Waived → FlashWaived
waived_of waived = record { job = waived.number; given = waived.given }

-- the number of the act that a slot will do, and for whom
abbrev pub act_number : NextAct → ℕ
act_number (next.Read page) = 1
act_number (next.Write page) = 2
act_number (next.Trim page) = 3
act_number (next.CopyRead page) = 4
act_number (next.CopyProgram page) = 5
act_number (next.Erase block) = 6

abbrev pub next_act : Option (ℕ × NextAct) → ℕ
next_act None = 0
next_act (Some runs) = act_number runs.1

abbrev pub next_job : Option (ℕ × NextAct) → ℕ
next_job None = 0
next_job (Some runs) = runs.0

-- the logical page that a slot will read, write, trim or copy; in an erase, and where it is idle, it is none
abbrev pub no_page : ℕ
no_page = 4294967295

abbrev pub act_page : NextAct → ℕ
act_page (next.Read page) = page
act_page (next.Write page) = page
act_page (next.Trim page) = page
act_page (next.CopyRead page) = page
act_page (next.CopyProgram page) = page
act_page (next.Erase block) = no_page

abbrev pub next_page : Option (ℕ × NextAct) → ℕ
next_page None = no_page
next_page (Some runs) = act_page runs.1

-- what the driver is asked: its kind, the cell or block, the name, and of a program how often its block was erased
abbrev pub call_by : ℕ → ℕ → ℕ → ℕ → Option Call → FlashCall
call_by slot act job logical None = record { kind = 0; block = 0; page = 0; last = 0; slot = slot; act = act; job = job; logical = logical; name = no_name; erases = 0 }
call_by slot act job logical (Some (calls.Read place bytes)) = record {
  kind = 1;
  block = place.block;
  page = place.page;
  last = 0;
  slot = slot;
  act = act;
  job = job;
  logical = logical;
  name = name_of bytes;
  erases = 0;
}
call_by slot act job logical (Some (calls.Program place bytes erases)) = record {
  kind = 2;
  block = place.block;
  page = place.page;
  last = 0;
  slot = slot;
  act = act;
  job = job;
  logical = logical;
  name = name_of bytes;
  erases = erases;
}
call_by slot act job logical (Some (calls.Erase block last)) = record {
  kind = 3;
  block = block;
  page = 0;
  last = flag last;
  slot = slot;
  act = act;
  job = job;
  logical = logical;
  name = no_name;
  erases = 0;
}
call_by slot act job logical (Some (calls.Trim trimmed)) = record {
  kind = 4;
  block = 0;
  page = 0;
  last = 0;
  slot = slot;
  act = act;
  job = job;
  logical = logical;
  name = no_name;
  erases = 0;
}

abbrev pub call_of : Begun → FlashCall
call_of begun = call_by begun.slot (next_act begun.runs) (next_job begun.runs) (next_page begun.runs) begun.call
