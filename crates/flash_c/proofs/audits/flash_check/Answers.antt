use Rattle.std.proofs.Common.{sym, ◌∙◌}
use Rattle.flash_c.proofs.Verdicts.{holds_at}
use Rattle.flash_c.proofs.audits.flash_check.Goals as goal

pub returns-clause-binds : goal.returns-clause-binds
returns-clause-binds c = λ zero.
    let holds = holds_at c.check.result (sym c.of_verdict.ensures ∙ zero) in
    rw (← c.in-Ok.ensures.rows, ← c.in-Ok-jobs_in.ensures.jobs) (c.check.ensures.binds holds)
