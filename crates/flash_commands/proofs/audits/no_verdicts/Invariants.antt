use Rattle.std.proofs.Common.{◌≡◌, length}
use Rattle.flash_commands.proofs.audits.no_verdicts.Given as goal

abbrev pub invariant-loop : goal.invariant-loop
invariant-loop l = length l.verdicts.items ≡ l.counter
