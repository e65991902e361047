-- The status of an audit is 3 exactly where its text was written whole and a certificate is refused.
use Rattle.std.proofs.Common.{◌≡◌, ◌≢◌, ◌<◌, ◌⊎◌, ℕ, Bool, true, false, List, [], ◌∷◌, ◌++◌, length, take, Option, Some, None, Result, Ok}
use Rattle.std.proofs.Common.{Err, refl, sym, ap, ◌∙◌, inl, inr, arith, length-append, length-take}
use Rattle.std.specs.Prelude.{if◌then◌else◌}
use Rattle.std.specs.List.{list_any}
use Rattle.std.proofs.lemmas.Option.{same_Some}
use Rattle.late_cert.specs.declared.certificates.Certificate.{Certificate}
use Rattle.late_cert.specs.declared.rows.JobRow.{JobRow}
use Rattle.slot_types.specs.declared.refusals.Refusal.{Refusal}
use Rattle.report_texts.specs.JobRows.{job_rows_of}
use Rattle.text_base.specs.Writing.{InPart, RefusesOrCuts}
use Rattle.report_texts.specs.declared.reports.DieReport.{DieReport}
use Rattle.flash_commands.specs.Acts.{FindsRefused, HasThree, IsRefused, Prints, PrintsAudit, PrintsSome, Refuses, SaysRefused}
use Rattle.flash_commands.specs.Audit.{audit_status, audit_text, cert_line, is_refused}
use Rattle.flash_commands.specs.declared.commands.Command.{Command}
use Rattle.flash_commands.specs.declared.commands.Command.TheVariants as command

-- Lengths

line-front : (die : ℕ) (rows : List JobRow) (cert : Option Certificate) → (bs : List ℕ) × (cert_line die rows cert ≡ 100 ∷ bs)
line-front die rows None = (_, refl)
line-front die rows (Some cert) = (_, refl)

audit-front : (report : List DieReport) → list_any is_refused report ≡ true → (bs : List ℕ) × (audit_text report ≡ 100 ∷ bs)
audit-front [] refused = absurd cc
audit-front (die ∷ report) refused =
    let front = line-front die.die (job_rows_of die.rows) die.cert in
    (front.0 ++ audit_text report, ap (λ l. l ++ audit_text report) front.1)

not-all : (old text : List ℕ) (n : ℕ) → n < length text → old ++ take n text ≡ old ++ text → ⊥
not-all old text n few same =
    omega (arith, few, ap length same, length-append old (take n text), length-append old text, length-take n text)

not-none : (old text bs : List ℕ) → text ≡ 100 ∷ bs → old ≡ old ++ text → ⊥
not-none old text bs some same =
    omega (arith, ap length same, length-append old text, ap length some)

-- Audits

abbrev the-report : Result (List DieReport) Refusal → List DieReport
the-report (Ok report) = report
the-report (Err e) = []

status-three : (b : Bool) → ◌≡◌ {A = ℕ} (if b then 3 else 0) 3 → b ≡ true
status-three true three = refl
status-three false three = absurd (omega (arith, three))

finds : (text old new : List ℕ) (status : ℕ) → (status ≡ 1) ⊎ PrintsAudit (Some text) (Some old) (Some new) status → status ≡ 3
    → FindsRefused text old new
finds text old new status (inl one) three = absurd (omega (arith, one, three))
finds text old new status (inr (report, read, wrote, is)) three =
    (report, read, wrote, status-three (list_any is_refused report) (sym is ∙ three))

cut-none : (text old new : List ℕ) → (Some new ≡ Some old)
    ⊎ InPart (λ a b. (status : ℕ) × PrintsAudit (Some text) a b status) (Some old) (Some new) → FindsRefused text old new → ⊥
cut-none text old new (inl same) (report, read, wrote, refused) =
    let front = audit-front report refused in
    not-none old (audit_text report) front.0 front.1 (sym (same_Some new old same) ∙ wrote)
cut-none text old new (inr (whole, (status, (other, reads, prints, is)), (n, few, takes))) (report, read, wrote, refused) =
    let same : report ≡ other = ap the-report (sym read ∙ reads) in
    let all : whole ≡ audit_text report = prints ∙ ap audit_text (sym same) in
    not-all old whole n few (sym takes ∙ wrote ∙ ap (λ l. old ++ l) (sym all))

ends-so : (text old new : List ℕ) (status : ℕ) → (status ≡ 1) ⊎ PrintsAudit (Some text) (Some old) (Some new) status
    → (status ≡ 1 → (Some new ≡ Some old) ⊎ InPart (λ a b. (s : ℕ) × PrintsAudit (Some text) a b s) (Some old) (Some new))
    → FindsRefused text old new → status ≡ 3
ends-so text old new status (inl one) cut found = absurd (cut-none text old new (cut one) found)
ends-so text old new status (inr (other, reads, wrote, is)) cut (report, read, written, refused) =
    let same : other ≡ report = ap the-report (sym reads ∙ read) in
    is ∙ ap audit_status same ∙ ap (λ b. if b then 3 else 0) refused

says-refused : (text old new : Option (List ℕ)) (status : ℕ) → (status ≡ 1) ⊎ PrintsAudit text old new status
    → (status ≡ 1 → (new ≡ old) ⊎ InPart (λ a b. (s : ℕ) × PrintsAudit text a b s) old new) → SaysRefused text old new status
says-refused None old new status printed cut = tt
says-refused (Some text) None new status printed cut = tt
says-refused (Some text) (Some old) None status printed cut = tt
says-refused (Some text) (Some old) (Some new) status printed cut =
    (finds text old new status printed, ends-so text old new status printed cut)

-- Commands

not-three : (A : Type 0) (status : ℕ) → (status ≡ 1) ⊎ (A × (status ≡ 0)) → status ≢ 3
not-three A status (inl one) three = omega (arith, one, three)
not-three A status (inr (a, zero)) three = omega (arith, zero, three)

seen-by : {W : Type 0} (contents : W → Option (List ℕ)) (has_failed : W → Option Bool) (R : Refusal → Type 0)
    (P : Option (List ℕ) → Option (List ℕ) → Type 0) (old new : W) (refusal : Refusal)
    → RefusesOrCuts contents has_failed R P old new refusal → (contents new ≡ contents old) ⊎ InPart P (contents old) (contents new)
seen-by contents has_failed R P old new refusal (inl (why, same)) = inl (ap contents same)
seen-by contents has_failed R P old new refusal (inr cut) = inr cut.part

pub has-three : {W : Type 0} (contents : W → Option (List ℕ)) (has_failed : W → Option Bool) (c : Command)
    (first second : Option (List ℕ)) (old new : W) (status : ℕ)
    → (status ≡ 1) ⊎ Prints c first second (contents old) (contents new) status
    → (status ≡ 1 → IsRefused contents has_failed c first second old new)
    → HasThree c first (contents old) (contents new) status
has-three contents has_failed (command.Audit report) first second old new status printed refused =
    says-refused first (contents old) (contents new) status printed
    (λ one. seen-by contents has_failed (Refuses (command.Audit report) first second) (PrintsSome (command.Audit report) first second)
    old new (refused one).0 (refused one).1)
has-three contents has_failed (command.Plan plan) first second old new status printed refused = not-three _ status printed
has-three contents has_failed (command.Run plan script slots workers) first second old new status printed refused = not-three _ status printed
has-three contents has_failed command.Alone first second old new status printed refused = not-three _ status printed
