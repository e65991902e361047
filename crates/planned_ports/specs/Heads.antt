-- An ask, whose operations lie beside it.
use Rattle.std.specs.Prelude.{ℕ, List, Option, Some, None}
use Rattle.slot_types.specs.declared.events.Op.{Op}
use Rattle.planned_log.specs.declared.ask_kinds.AskKind.{AskKind}
use Rattle.planned_ports.specs.declared.calls.AskHead.{AskHead}
use Rattle.planned_ports.specs.declared.calls.Request.{Request}
use Rattle.planned_ports.specs.declared.calls.Request.TheVariants as requests

-- for the present slot, or for one of the clock
abbrev pub ask_for : AskKind → ℕ → List Op → Option ℕ → Request
ask_for kind task ops None = requests.Ask kind task ops
ask_for kind task ops (Some at) = requests.AskAt kind task ops at

abbrev pub whole_ask : AskHead → List Op → Request
whole_ask head ops = ask_for head.kind head.task ops head.at
