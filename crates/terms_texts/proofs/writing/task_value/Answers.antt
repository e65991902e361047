use Rattle.std.proofs.Common.{arith}
use Rattle.terms_texts.proofs.Written.{task-back}
use Rattle.terms_texts.proofs.writing.task_value.Goals as goal

pub returns-clause-back : goal.returns-clause-back
returns-clause-back c = λ i. rw (c.from.ensures, c.in_ok-table.ensures.ok)
    (task-back _ c.args.task (omega arith) (omega arith) (omega arith) (omega arith) (omega arith) (omega arith) (omega arith) (omega arith)
    (omega arith))

pub returns-clause-flat : goal.returns-clause-flat
returns-clause-flat c = rw (c.from.ensures, c.in_ok-table.ensures.ok) (omega arith)
