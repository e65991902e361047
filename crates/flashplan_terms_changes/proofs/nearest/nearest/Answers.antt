use Rattle.std.proofs.Common.{rules}
use Rattle.flashplan_terms_changes.specs.Changes.{OthersDo, OwnDo}
use Rattle.flashplan_terms_changes.proofs.OwnDies.{nearest-of-all, none-as-it-is, none-of-others, none-with-loosest}
use Rattle.flashplan_terms_changes.proofs.nearest.nearest.Goals as goal

pub returns-then-as_it_is-clause-found : goal.returns-then-as_it_is-clause-found
returns-then-as_it_is-clause-found c =
    let own : OwnDo c.args.numbers.now c.args.of c.args.which c.args.from = search rules in
    none-as-it-is c.args.numbers.now c.args.of c.args.which c.args.from c.args.to own

pub returns-then-not-loosest-clause-found : goal.returns-then-not-loosest-clause-found
returns-then-not-loosest-clause-found c =
    let own : ¬ OwnDo c.args.numbers.now c.args.of c.args.which c.args.to = search rules in
    none-with-loosest c.args.numbers.now c.args.of c.args.which c.args.from c.args.to own

pub returns-then-not-others-clause-found : goal.returns-then-not-others-clause-found
returns-then-not-others-clause-found c =
    let others : ¬ OthersDo c.args.numbers.now c.args.of = search rules in
    none-of-others c.args.numbers.now c.args.of c.args.which c.args.from c.args.to others

pub returns-clause-found : goal.returns-clause-found
returns-clause-found c =
    let others : OthersDo c.args.numbers.now c.args.of = search rules in
    nearest-of-all c.args.numbers.now c.args.of c.args.which c.args.from c.in_ok-n.n others c.in_ok-n.ensures.nearest
