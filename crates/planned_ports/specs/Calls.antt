-- The requests that were granted, as the lock lists them from the first, and as moves of the die.
use Rattle.std.specs.Prelude.{ℕ, List, [], ◌∷◌, ◌++◌, map, Result, Ok, Err}
use Rattle.demand_rules.specs.declared.terms.Terms.{Terms}
use Rattle.die_log.specs.Model.Start.{Start}
use Rattle.planned_log.specs.Moves.{Ask, Slot}
use Rattle.ongoing_log.specs.Ahead.{AheadMove, Now, AskAt}
use Rattle.task_outcomes.specs.OutcomeMoves.{OutcomeMove, Does, Takes, Told, told_after}
use Rattle.turn_lock.specs.declared.entry.Entry.{Entry}
use Rattle.turn_lock.specs.Log.{entry}
use Rattle.planned_ports.specs.declared.calls.Request.{Request}
use Rattle.planned_ports.specs.declared.calls.Request.TheVariants as requests
use Rattle.planned_ports.specs.declared.calls.Granted.{Granted}
use Rattle.planned_ports.specs.declared.calls.Refused.{Refused}

-- an entry of the lock; a refused request is none
abbrev pub PortCall : Type 0
PortCall = Entry Request (Result Granted Refused)

abbrev pub move_by : ℕ → Request → OutcomeMove
move_by caller (requests.Ask kind task ops) = Does (Now (Ask kind caller task ops))
move_by caller (requests.AskAt kind task ops at) = Does (AskAt kind caller task ops at)
move_by caller requests.Slot = Does (Now (Slot caller))
move_by caller (requests.Outcome task) = Takes task

abbrev pub move_of : PortCall → OutcomeMove
move_of call = move_by call.caller call.event

abbrev pub moves_of : List PortCall → List OutcomeMove
moves_of calls = map move_of calls

-- what stands after these calls, where this stood before the first
abbrev pub after_calls : Start → Terms → ℕ → Told → List PortCall → Told
after_calls first terms life t calls = told_after first terms life t (moves_of calls)

-- the asks and slots among them
abbrev pub die_move_by : ℕ → Request → List AheadMove
die_move_by caller (requests.Ask kind task ops) = Now (Ask kind caller task ops) ∷ []
die_move_by caller (requests.AskAt kind task ops at) = AskAt kind caller task ops at ∷ []
die_move_by caller requests.Slot = Now (Slot caller) ∷ []
die_move_by caller (requests.Outcome task) = []

abbrev pub die_moves : List PortCall → List AheadMove
die_moves [] = []
die_moves (call ∷ calls) = die_move_by call.caller call.event ++ die_moves calls

-- the calls with one more, where it is granted
abbrev pub calls_after : List PortCall → ℕ → Request → Result Granted Refused → List PortCall
calls_after calls caller request (Ok answer) = calls ++ entry caller request (Ok answer) ∷ []
calls_after calls caller request (Err refusal) = calls
