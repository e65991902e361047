use Rattle.std.proofs.Common.{[], refl}
use Rattle.std.proofs.lemmas.List.{append-nil, drop_all}
use Rattle.flashplan_terms_changes.proofs.ChangesSoFar.{found-more}
use Rattle.flashplan_terms_changes.proofs.changes.put_found.Goals as goal

pub loop-i-preserved : goal.loop-i-preserved
loop-i-preserved c = found-more c.args.numbers.now c.args.asked.now c.loop-i.i _ c.args.changes.now.items _ _ c.loop-i-test.true
    c.loop-i.invariant c.in_ok-put_sought.ensures.put

pub returns-clause-put : goal.returns-clause-put
returns-clause-put c =
    let before = c.loop-i.invariant in (
      before.0,
      rw (append-nil before.0) at (before.2 [] (rw (drop_all c.loop-i.i c.args.asked.now c.loop-i-test.false) refl)),
      before.1,
    )
