use Rattle.std.proofs.Common.{rules, ◌≡◌, subst}
use Rattle.std.specs.Io.KnownBytes.{Appends}
use Rattle.text_base.specs.Writing.{AppendsPart}
use Rattle.text_base.proofs.WritingLaws.{flag-kept-then, flag-set-then, on-error}
use Rattle.report_texts.proofs.PartWriting.{front-part, on-error-then, on-ok-then, second-part}
use Rattle.report_texts.proofs.report_writing.ReportText.write.Goals as goal

pub returns-in_err-write_whole-clause-part : goal.returns-in_err-write_whole-clause-part
returns-in_err-write_whole-clause-part g c =
    let first : c.deref.result.now ≡ c.args.self.rows = search rules in
    on-error c.from_residual.result _ (front-part _ _ _ _ (subst (AppendsPart _ _) first c.in_err-write_whole.ensures.part))

pub returns-clause-part : goal.returns-clause-part
returns-clause-part g c =
    let first : c.deref.result.now ≡ c.args.self.rows = search rules in
    let second : c.deref-2.result.now ≡ c.args.self.certs = search rules in
    on-error-then c.write_whole-2.result _ _
    (λ part. second-part _ _ _ _ _ (subst (Appends _ _) first c.in_ok-write_whole.ensures.whole) (subst (AppendsPart _ _) second part))
    c.write_whole-2.ensures.part

pub returns-clause-works : goal.returns-clause-works
returns-clause-works g c =
    on-ok-then c.write_whole-2.result _ _ (flag-kept-then _ _ _ c.in_ok-write_whole.ensures.works) c.write_whole-2.ensures.works

pub returns-clause-failed : goal.returns-clause-failed
returns-clause-failed g c =
    on-error-then c.write_whole-2.result _ _ (flag-set-then _ _ _ c.in_ok-write_whole.ensures.works) c.write_whole-2.ensures.failed
