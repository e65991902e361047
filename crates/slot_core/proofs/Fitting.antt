-- The table can keep what a die accepts: it has few operations.
use Rattle.std.proofs.Common.{nat_lt, ◌≡◌, ℕ, ◌≤◌, false, List, None, length, arith}
use Rattle.std.proofs.lemmas.Bool.Decides.{nat_tests}
use Rattle.slot_types.specs.declared.limits.TheConstants.{MAX_OPS}
use Rattle.slot_types.specs.declared.events.Op.{Op}
use Rattle.slot_types.specs.declared.events.Event.TheVariants as events
use Rattle.die_log.specs.Model.Answers.{refusal_of, refusals}
use Rattle.die_log.specs.Model.Log.{Log}
use Rattle.die_log.specs.Model.Start.{Start}
use Rattle.die_log.proofs.Legality.{none_stands}

few-ops : (n : ℕ) → nat_lt MAX_OPS n ≡ false → n ≤ MAX_OPS
few-ops n h = grind (arith, nat_tests)

pub accepted_few : (start : Start) (log : Log) (task release due : ℕ) (ops : List Op)
    → refusal_of start log (events.Submit task release due ops) ≡ None → length ops ≤ MAX_OPS
accepted_few start log task release due ops none =
    few-ops (length ops) (none_stands (refusals start log (events.Submit task release due ops)) none).1.1.0
