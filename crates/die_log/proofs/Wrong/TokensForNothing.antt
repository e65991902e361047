-- A life that begins with balances at the caps, after one in which a task wrote: more pages would be owned than are
-- free.
use Rattle.std.proofs.Common.{◌≡◌, refl, arith}
use Rattle.plan_rules.specs.Accounts.{opening_accounts}
use Rattle.die_log.specs.Model.Start.{Start}
use Rattle.die_log.specs.Model.Answers.{answer}
use Rattle.die_log.specs.Model.Flash.{free}
use Rattle.die_log.specs.Model.Opening.{IsOpening, renewed_start}
use Rattle.die_log.proofs.Worked.Plans.{roomy, roomy_plan, amounts}
use Rattle.die_log.proofs.Worked.TwoLives.{first_log}

-- the balance at its cap, and the rest as it was
abbrev given : Start
given = record (renewed_start roomy first_log) { accounts = amounts roomy_plan 26 4 0 2 }

-- all accounts as on a fresh die
abbrev anew : Start
anew = record (renewed_start roomy first_log) { accounts = opening_accounts roomy_plan }

frees : free roomy first_log ≡ 31
unfolding answer
frees = refl

not_given : IsOpening given → ⊥
not_given h = absurd (omega (arith, h.agree.total_is, frees))

not_anew : IsOpening anew → ⊥
not_anew h = absurd (omega (arith, h.agree.total_is, frees))
