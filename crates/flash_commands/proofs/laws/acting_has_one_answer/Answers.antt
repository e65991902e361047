use Rattle.std.proofs.Common.{◌≡◌, ◌⊎◌, inl, inr, ℕ, List, Option, Some, Ok, refl, sym, ap, ◌∙◌, subst}
use Rattle.std.specs.Io.KnownBytes.{Appends}
use Rattle.slot_types.specs.declared.plans.DiePlan.{DiePlan}
use Rattle.text_base.proofs.WriterEnds.{appended}
use Rattle.plan_texts.proofs.OneReading.{dies_read}
use Rattle.report_texts.specs.ReportOf.{Reading, report_of}
use Rattle.report_texts.specs.declared.reports.DieReport.{DieReport}
use Rattle.flash_commands.specs.Acts.{PrintsAudit, PrintsFigures}
use Rattle.flash_commands.specs.Audit.{audit_status, audit_text}
use Rattle.flash_commands.specs.Figures.{plan_text}
use Rattle.flash_commands.proofs.laws.acting_has_one_answer.Goals as goal

one_report : (read : Reading) (x y : List DieReport) → read ≡ Ok x → read ≡ Ok y → x ≡ y
one_report read x y is is' = cc

one_audit : (text known : List ℕ) (left right : Option (List ℕ)) (one other : ℕ) → (one ≡ 1) ⊎ PrintsAudit (Some text) (Some known) left one
    → (other ≡ 1) ⊎ PrintsAudit (Some text) (Some known) right other → ((one ≡ other) × (left ≡ right)) ⊎ (one ≡ 1) ⊎ (other ≡ 1)
one_audit text known left right one other (inl fault) k = inr (inl fault)
one_audit text known left right one other (inr h) (inl fault) = inr (inr fault)
one_audit text known left right one other (inr h) (inr k) =
    let same : h.0 ≡ k.0 = one_report (report_of text) h.0 k.0 h.1 k.1 in
    inl (
      h.3 ∙ (ap audit_status same ∙ sym k.3),
      appended (audit_text k.0) known (Some known) left right refl
          (subst (λ (x : List DieReport). Appends (Some known) left (audit_text x)) same h.2) k.2,
    )

one_plan : (text known : List ℕ) (left right : Option (List ℕ)) (one other : ℕ)
    → (one ≡ 1) ⊎ (PrintsFigures (Some text) (Some known) left × (one ≡ 0))
    → (other ≡ 1) ⊎ (PrintsFigures (Some text) (Some known) right × (other ≡ 0))
    → ((one ≡ other) × (left ≡ right)) ⊎ (one ≡ 1) ⊎ (other ≡ 1)
one_plan text known left right one other (inl fault) k = inr (inl fault)
one_plan text known left right one other (inr h) (inl fault) = inr (inr fault)
one_plan text known left right one other (inr h) (inr k) =
    let a = h.0.1 in
    let b = k.0.1 in
    let same : h.0.0 ≡ k.0.0 = a.1.dies ∙ (ap dies_read (sym a.2 ∙ b.2) ∙ sym b.1.dies) in
    inl (
      h.1 ∙ sym k.1,
      appended (plan_text k.0.0) known (Some known) left right refl
          (subst (λ (x : List DiePlan). Appends (Some known) left (plan_text x)) same h.0.2) k.0.2,
    )

pub returns-clause-audit : goal.returns-clause-audit
returns-clause-audit c = one_audit

pub returns-clause-plan : goal.returns-clause-plan
returns-clause-plan c = one_plan
