use Rattle.std.proofs.Common.{rules, ◌≡◌, subst}
use Rattle.std.specs.Io.KnownBytes.{Appends}
use Rattle.text_base.specs.Writing.{AppendsPart}
use Rattle.text_base.proofs.WritingLaws.{flag-kept-then, flag-set-then, on-error}
use Rattle.report_texts.specs.TextSoFar.{TextSoFar}
use Rattle.report_texts.proofs.PartWriting.{piece-more, piece-part}
use Rattle.report_texts.proofs.report_writing.write_rows.Goals as goal

pub returns-in_err-write_whole-clause-part : goal.returns-in_err-write_whole-clause-part
returns-in_err-write_whole-clause-part g c =
    let piece : c.deref.result.now ≡ c.part-item.result.rows = search rules in
    on-error c.from_residual.result _
    (piece-part (λ (part : TextSoFar). part.rows) _ _ _ c.args.parts.now c.loop-part.part-index c.part-item.result c.loop-part-test.true
    c.part-item.is c.loop-part.invariant.0 (subst (AppendsPart _ _) piece c.in_err-write_whole.ensures.part))

pub returns-in_err-write_whole-clause-failed : goal.returns-in_err-write_whole-clause-failed
returns-in_err-write_whole-clause-failed g c =
    on-error c.from_residual.result _ (flag-set-then _ _ _ c.loop-part.invariant.1 c.in_err-write_whole.ensures.failed)

pub loop-part-preserved : goal.loop-part-preserved
loop-part-preserved g c =
    let piece : c.deref.result.now ≡ c.part-item.result.rows = search rules in (
      piece-more (λ (part : TextSoFar). part.rows) _ _ _ c.args.parts.now c.loop-part.part-index c.part-item.result c.loop-part-test.true
          c.part-item.is c.loop-part.invariant.0 (subst (Appends _ _) piece c.in_ok-write_whole.ensures.whole),
      flag-kept-then _ _ _ c.loop-part.invariant.1 c.in_ok-write_whole.ensures.works,
    )
