use Rattle.std.proofs.Common.{◌∙◌, ◌++◌, ap}
use Rattle.flashplan_terms_changes.specs.Changes.{change_of}
use Rattle.flashplan_terms_changes.proofs.ChangesSoFar.{on-ok}
use Rattle.flashplan_terms_changes.proofs.changes.put_sought.Goals as goal

pub returns-clause-put : goal.returns-clause-put
returns-clause-put c =
    let found = c.in_ok-found.found.found in
    on-ok c.put_change.result c.put_change.ensures.put (λ put. (
      found,
      c.in_ok-found.ensures.found,
      put ∙ ap (λ n. c.args.changes.now.items ++ change_of c.args.asked n found) c.in_ok-found.ensures.from,
    ))
