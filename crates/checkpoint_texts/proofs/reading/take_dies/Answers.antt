use Rattle.std.proofs.Common.{rules, arith, ◌≡◌, ◌∙◌, true, false}
use Rattle.csv.specs.Records.{fields_of}
use Rattle.checkpoint_texts.proofs.ReadingLaws.{dies-end, dies-fault, dies-more, dies-over, fits-then, high-line, low-line}
use Rattle.checkpoint_texts.proofs.RecordFaults.{ends-at-record, stops-at-record}
use Rattle.checkpoint_texts.proofs.reading.take_dies.Goals as goal

pub returns-then-not-branch-clause-store : goal.returns-then-not-branch-clause-store
returns-then-not-branch-clause-store g c =
    let none : c.in_ok-next.field-0 ≡ false = search rules in
    dies-end c.loop-line.gathered c.loop-line.line (fields_of c.next.new.row) _ _ _ _ (rw none at c.in_ok-next.ensures.takes)
    c.whole.ensures c.loop-line.invariant.read

pub returns-in-Err-clause-store : goal.returns-in-Err-clause-store
returns-in-Err-clause-store g c =
    let found : c.in_ok-next.field-0 ≡ true = search rules in
    dies-fault c.loop-line.gathered c.loop-line.line (fields_of c.next.new.row) _ _ _ c.in-Err.fault
    (rw found at c.in_ok-next.ensures.takes) (low-line c.loop-line.line (omega (arith, c.loop-line-test.true))) c.in-Err.ensures
    c.loop-line.invariant.read

pub loop-line-preserved : goal.loop-line-preserved
loop-line-preserved g c =
    let found : c.in_ok-next.field-0 ≡ true = search rules in
    record {
      plain = c.in_ok-next.ensures.plain;
      failed = c.in_ok-next.ensures.failed ∙ c.loop-line.invariant.failed;
      few = omega (arith, c.loop-line-test.true);
      fits = fits-then _ _ _ c.loop-line.invariant.fits (rw found at c.in_ok-next.ensures.fits);
      read = dies-more c.loop-line.gathered c.gather.new.gathered c.loop-line.line (fields_of c.next.new.row) _ _ _
          (rw found at c.in_ok-next.ensures.takes) (low-line c.loop-line.line (omega (arith, c.loop-line-test.true))) c.in-Ok.ensures
          c.loop-line.invariant.read;
    }

pub returns-then-branch-clause-store : goal.returns-then-branch-clause-store
returns-then-branch-clause-store g c =
    let found : c.in_ok-next-2.field-0 ≡ true = search rules in
    dies-over c.loop-line.gathered c.loop-line.line (fields_of c.next-2.new.row) _ _ _ (rw found at c.in_ok-next-2.ensures.takes)
    (high-line c.loop-line.line (omega (arith, c.loop-line-test.false))) c.loop-line.invariant.read

pub returns-clause-store : goal.returns-clause-store
returns-clause-store g c =
    let none : c.in_ok-next-2.field-0 ≡ false = search rules in
    dies-end c.loop-line.gathered c.loop-line.line (fields_of c.next-2.new.row) _ _ _ _ (rw none at c.in_ok-next-2.ensures.takes)
    c.whole-2.ensures c.loop-line.invariant.read

pub returns-then-not-branch-clause-failed : goal.returns-then-not-branch-clause-failed
returns-then-not-branch-clause-failed g c =
    ends-at-record _ _ c.loop-line.line c.loop-line.gathered c.whole.result c.whole.ensures
    (c.in_ok-next.ensures.failed ∙ c.loop-line.invariant.failed)

pub returns-in-Err-clause-failed : goal.returns-in-Err-clause-failed
returns-in-Err-clause-failed g c =
    stops-at-record _ _ c.loop-line.line c.loop-line.gathered (fields_of c.next.new.row) c.in-Err.fault c.in-Err.ensures
    (c.in_ok-next.ensures.failed ∙ c.loop-line.invariant.failed)

pub returns-clause-failed : goal.returns-clause-failed
returns-clause-failed g c =
    ends-at-record _ _ c.loop-line.line c.loop-line.gathered c.whole-2.result c.whole-2.ensures
    (c.in_ok-next-2.ensures.failed ∙ c.loop-line.invariant.failed)
