use Rattle.std.proofs.Common.{sym, ◌∙◌}
use Rattle.late_cert.proofs.Lower.{binds}
use Rattle.late_cert.proofs.Faults.{verdict-certifies, certificate-verdict}
use Rattle.late_cert.proofs.checks.check.Goals as goal

pub returns-clause-holds : goal.returns-clause-holds
returns-clause-holds c =
    let is = (rw c.as_slice.ensures at c.judge.ensures) in (
      (λ h. verdict-certifies _ _ _ _ _ (sym is ∙ h)),
      (λ h. is ∙ certificate-verdict _ _ _ _ _ h),
    )

pub returns-clause-binds : goal.returns-clause-binds
returns-clause-binds c =
    let is = (rw c.as_slice.ensures at c.judge.ensures) in
    (λ h. binds _ _ _ _ _ (verdict-certifies _ _ _ _ _ (sym is ∙ h)))
