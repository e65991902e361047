-- A die as its callers see it.
use Rattle.std.specs.Prelude.{ℕ, ◌≤◌, max, Bool, ◌∷◌}
use Rattle.die_log.specs.Model.Start.{Start}
use Rattle.slot_types.specs.declared.events.Event.{Event}
use Rattle.slot_types.specs.declared.replies.Reply.{Reply}
use Rattle.die_log.specs.Model.Log.{Log}

-- for how many later slots memory is reserved, for how many jobs and collections that arrive later, and for how many
-- operations of these in all
pub record Reserved : Type 0 where
  pub slots : ℕ
  pub arrivals : ℕ
  pub operations : ℕ

abbrev pub nothing_reserved : Reserved
nothing_reserved = record { slots = 0; arrivals = 0; operations = 0 }

-- of each no more than of the other
pub record IsWithin (reserved lasting : Reserved) : Type 0 where
  pub slots : reserved.slots ≤ lasting.slots
  pub arrivals : reserved.arrivals ≤ lasting.arrivals
  pub operations : reserved.operations ≤ lasting.operations

-- where its log started, its device, whether a fault has stopped it, for what memory is reserved, for what it is from the
-- beginning of a log on, which is as much as ever was, and its log
pub record Core (N : Type 0) : Type 0 where
  pub start : Start
  pub device : N
  pub stopped : Bool
  pub reserved : Reserved
  pub lasting : Reserved
  pub log : Log

abbrev pub slots_with : ℕ → Reserved → Reserved
slots_with slots reserved = record reserved { slots = max reserved.slots slots }

abbrev pub arrivals_with : ℕ → ℕ → Reserved → Reserved
arrivals_with arrivals operations reserved = record reserved {
  arrivals = max reserved.arrivals arrivals;
  operations = max reserved.operations operations;
}

-- `slots` slots are reserved, or as many as were before, if these are more; it is the same with those that last
abbrev pub with_slots : {N : Type 0} → ℕ → Core N → Core N
with_slots slots core = record core { reserved = slots_with slots core.reserved; lasting = slots_with slots core.lasting }

-- `arrivals` arrivals with `operations` operations in all are reserved, or as many of either as were before, if these
-- are more; it is the same with those that last
abbrev pub with_arrivals : {N : Type 0} → ℕ → ℕ → Core N → Core N
with_arrivals arrivals operations core = record core {
  reserved = arrivals_with arrivals operations core.reserved;
  lasting = arrivals_with arrivals operations core.lasting;
}

-- the log with one more call
abbrev pub with_entry : ℕ → Event → Reply → Log → Log
with_entry caller event reply log = record { caller = caller; event = event; reply = reply } ∷ log
