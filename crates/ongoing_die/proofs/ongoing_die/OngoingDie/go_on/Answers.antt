use Rattle.ongoing_die.proofs.NextLives.{goes_on_yet}
use Rattle.ongoing_die.proofs.ongoing_die.OngoingDie.go_on.Goals as goal

pub returns-then-is_quiet-clause-ok : goal.returns-then-is_quiet-clause-ok
returns-then-is_quiet-clause-ok g c first d s =
    let q = c.is_quiet.ensures in
    goes_on_yet first d c.args.self.now s (q.runs c.if-is_quiet.true) (q.early c.if-is_quiet.true) (q.none_due c.if-is_quiet.true)
