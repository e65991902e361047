use Rattle.report_texts.proofs.WorkLaws.{work-pushed}
use Rattle.report_texts.proofs.kept_dies.DieWorkKeptDie.push.Goals as goal

pub returns-clause-ok : goal.returns-clause-ok
returns-clause-ok c = λ die x. work-pushed c.add.result c.args.self.now c.add.new.self c.args.row die x c.add.ensures.ok
