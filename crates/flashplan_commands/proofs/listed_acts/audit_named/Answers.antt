use Rattle.std.proofs.Common.{Bool, ap, ◌∙◌}
use Rattle.std.specs.Prelude.{if◌then◌else◌}
use Rattle.std.specs.List.{list_any}
use Rattle.flash_commands.specs.Audit.{is_refused_work}
use Rattle.flash_commands.proofs.Reported.{refused-works, said-report}
use Rattle.flashplan_commands.proofs.listed_acts.audit_named.Goals as goal

pub returns-clause-audited : goal.returns-clause-audited
returns-clause-audited g c =
    let (report, is, said) = rw c.new.ensures.report at c.in_ok-work.ensures.work in (
      report,
      said-report _ report said,
      ap (λ (b : Bool). if b then 3 else 0) (c.in_ok-audit.ensures.refusal ∙ ap (list_any is_refused_work) is ∙ refused-works report),
    )
