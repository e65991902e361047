use Rattle.std.proofs.Common.{sym, ◌∙◌, rules}
use Rattle.std.proofs.lemmas.Bool.{true≢false}
use denote.Enum.Bare.{same_true}
use Rattle.late_cert.specs.contracts.verdicts.Verdict.{the_type}
use Rattle.late_cert.proofs.OneBusyInterval.{own-built, none-built}
use Rattle.late_cert.proofs.busy_intervals.build.Goals as goal

pub returns-then-eq-clause-own : goal.returns-then-eq-clause-own
returns-then-eq-clause-own c =
    own-built _ c.requires _ _ _ _ _ (rw c.as_slice.ensures at c.in_ok-certificate.ensures.ok) c.in-Some.is c.check.ensures.verdict
    (same_true the_type (search rules) _ _ (sym c.eq.ensures ∙ c.if-eq.true))

pub returns-else-eq-clause-none : goal.returns-else-eq-clause-none
returns-else-eq-clause-none c =
    (λ q. none-built _ c.requires _ _ _ _ q _ (rw c.as_slice.ensures at c.in_ok-certificate.ensures.ok) c.in-Some.is c.check.ensures.verdict
    (λ e. true≢false (sym (rw e at c.eq.ensures) ∙ c.if-eq.false)))
