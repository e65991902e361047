use Rattle.std.proofs.Common.{arith}
use Rattle.terms_texts.proofs.Written.{plan-back, plan-flat}
use Rattle.terms_texts.proofs.writing.whole_table.Goals as goal

pub returns-clause-back : goal.returns-clause-back
returns-clause-back c = λ said is. rw c.in_ok-table.ensures.ok
    (plan-back c.args.top _ said (omega arith) (omega arith) (omega arith) (omega arith) (omega arith) (omega arith) is)

pub returns-clause-flat : goal.returns-clause-flat
returns-clause-flat c = λ few. rw c.in_ok-table.ensures.ok (plan-flat c.args.top _ few)
