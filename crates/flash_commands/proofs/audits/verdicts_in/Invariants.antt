use Rattle.std.proofs.Common.{◌≡◌, map, take}
use Rattle.flash_commands.specs.Audit.{verdict_in}
use Rattle.flash_commands.proofs.audits.verdicts_in.Given as goal

abbrev pub invariant-loop-die : goal.invariant-loop-die
invariant-loop-die l = l.verdicts.items ≡ map verdict_in (take l.die-index l.dies)
