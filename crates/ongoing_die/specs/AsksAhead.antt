-- An ask for a slot of the clock: where its jobs would be released, and one for the present slot.
use Rattle.std.specs.Prelude.{ℕ, Option, Some, None, Result, Ok, Err}
use Rattle.planned_log.specs.declared.refusals.AskRefusal.{AskRefusal}
use Rattle.planned_log.specs.declared.refusals.AskRefusal.TheVariants as because
use Rattle.ongoing_die.specs.declared.answers.Taken.{Taken}
use Rattle.ongoing_die.specs.declared.refusals.AskStop.{AskStop}
use Rattle.ongoing_die.specs.declared.refusals.AskStop.TheVariants as asks
use Rattle.ongoing_die.specs.declared.refusals.AskAtStop.{AskAtStop}
use Rattle.ongoing_die.specs.declared.refusals.AskAtStop.TheVariants as ahead

-- in which slot, where the plan says this of it as at slot `at`, and the present life ends in slot `end`
abbrev pub release_by : (at end : ℕ) → Option AskRefusal → Result ℕ AskRefusal
release_by at end None = Ok at
release_by at end (Some because.LifeEnd) = Ok end
release_by at end (Some refusal) = Err refusal

-- for the present slot it is answered as an ask
abbrev pub of_ask : Result Taken AskStop → Result Taken AskAtStop
of_ask (Ok answer) = Ok answer
of_ask (Err (asks.Ended stop)) = Err (ahead.Ended stop)
of_ask (Err (asks.Plan refusal)) = Err (ahead.Plan refusal)
of_ask (Err asks.WaitsAlready) = Err ahead.WaitsAlready
