use Rattle.std.proofs.Common.{◌≡◌, Bool, refl, inr, ap, subst, ◌∙◌}
use Rattle.std.specs.Prelude.{flat_map, if◌then◌else◌}
use Rattle.std.specs.List.{list_any}
use Rattle.std.specs.Io.KnownBytes.{Appends}
use Rattle.flash_commands.proofs.Endings.{if-error}
use Rattle.flash_commands.specs.Audit.{audit_status, audit_text, is_refused_work, work_line}
use Rattle.flash_commands.proofs.Reported.{refused-works, text-works, said-report}
use Rattle.flash_commands.proofs.acts.print_audit.Goals as goal

pub returns-in_err-write_whole-clause-refused : goal.returns-in_err-write_whole-clause-refused
returns-in_err-write_whole-clause-refused g c =
    let (report, is, said) = rw c.new.ensures.report at c.in_ok-work.ensures.work in
    if-error c.from_residual-in_err-write_whole.result _ _ c.from_residual-in_err-write_whole.ensures.1
    (inr (record {
      refusal_is = c.in_err-write_whole.ensures.refused;
      failed = c.in_err-write_whole.ensures.failed;
      part = (
        c.in_ok-audit.audit.text.items,
        (
          audit_status report,
          (report, said-report _ report said, c.in_ok-audit.ensures.text ∙ ap (flat_map work_line) is ∙ text-works report, refl),
        ),
        rw c.deref.ensures.value at c.in_err-write_whole.ensures.part,
      );
    }))

pub returns-clause-printed : goal.returns-clause-printed
returns-clause-printed g c =
    let (report, is, said) = rw c.new.ensures.report at c.in_ok-work.ensures.work in
    let text : c.in_ok-audit.audit.text.items ≡ audit_text report
    = c.in_ok-audit.ensures.text ∙ ap (flat_map work_line) is ∙ text-works report in (
      report,
      said-report _ report said,
      subst (Appends (g.W.Write.contents c.args.out.now) (g.W.Write.contents c.write_whole.new.writer)) text
          (rw c.deref.ensures.value at c.in_ok-write_whole.ensures.whole),
      ap (λ (b : Bool). if b then 3 else 0) (c.in_ok-audit.ensures.refusal ∙ ap (list_any is_refused_work) is ∙ refused-works report),
    )
