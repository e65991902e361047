-- Verdicts by their numbers.
use Rattle.std.proofs.Common.{◌≡◌, refl, arith}
use Rattle.late_cert.specs.declared.verdicts.Verdict.{Verdict}
use Rattle.late_cert.specs.declared.verdicts.Verdict.TheVariants.{Holds, Empty, NotRising, UnknownJob, Unfinished, EarlyRelease, LateDue}
use Rattle.late_cert.specs.declared.verdicts.Verdict.TheVariants.{WrongSum}
use Rattle.flash_c.specs.Codes.{verdict_code}

-- only a certificate that holds is 0
pub holds_at : (v : Verdict) → verdict_code v ≡ 0 → v ≡ Holds
holds_at Holds e = refl
holds_at Empty e = absurd (omega (arith, e))
holds_at NotRising e = absurd (omega (arith, e))
holds_at UnknownJob e = absurd (omega (arith, e))
holds_at Unfinished e = absurd (omega (arith, e))
holds_at EarlyRelease e = absurd (omega (arith, e))
holds_at LateDue e = absurd (omega (arith, e))
holds_at WrongSum e = absurd (omega (arith, e))
