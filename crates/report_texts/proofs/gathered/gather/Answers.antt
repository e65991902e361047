use Rattle.csv.specs.Records.{fields_of}
use Rattle.report_texts.proofs.KeptLaws.{none-follows, some-follows}
use Rattle.report_texts.proofs.gathered.gather.Goals as goal

pub returns-then-not-follows-clause-row : goal.returns-then-not-follows-clause-row
returns-then-not-follows-clause-row g c = λ rows is.
    none-follows g.K.KeptDie.kept_of g.K.KeptDie.kept_reads rows (fields_of c.args.fields.now) c.in-Some.next c.args.kept.now
    (rw c.in-Some.is at c.in_ok-next.ensures.ok) c.if-not-follows.ensures is

pub returns-clause-row : goal.returns-clause-row
returns-clause-row g c = λ rows is.
    some-follows g.K.KeptDie.kept_of g.K.KeptDie.kept_reads rows (fields_of c.args.fields.now) c.in-Some.next c.args.kept.now
    c.add.new.kept (rw c.in-Some.is at c.in_ok-next.ensures.ok) c.if-not-follows.ensures is
    (λ x row. c.in_ok-add.ensures.ok rows x is row)
