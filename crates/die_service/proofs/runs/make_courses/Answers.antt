use Rattle.std.proofs.Common.{◌∙◌, List, sym, arith}
use Rattle.std.proofs.lemmas.Grind.{common_steps}
use Rattle.std.proofs.lemmas.List.Elements.{recursion_from_All}
use Rattle.die_service.specs.declared.feeds.Arrival.{Arrival}
use Rattle.die_service.specs.Runs.{AllArrive}
use Rattle.die_service.proofs.runs.make_courses.Goals as goal

pub returns-in_err-courses-clause-whole : goal.returns-in_err-courses-clause-whole
returns-in_err-courses-clause-whole c = grind (arith, common_steps)

pub returns-in_err-courses-clause-refused : goal.returns-in_err-courses-clause-refused
returns-in_err-courses-clause-refused c = grind (arith, common_steps)

pub returns-in_err-new-clause-whole : goal.returns-in_err-new-clause-whole
returns-in_err-new-clause-whole c = grind (arith, common_steps)

pub returns-in_err-new-clause-refused : goal.returns-in_err-new-clause-refused
returns-in_err-new-clause-refused c = grind (arith, common_steps)

pub returns-clause-whole : goal.returns-clause-whole
returns-clause-whole c = grind (arith, common_steps)

pub returns-clause-refused : goal.returns-clause-refused
returns-clause-refused c = grind (arith, common_steps)

pub loop-feed-init : goal.loop-feed-init
loop-feed-init c =
    let gives = c.into_iter-feed-iterator.ensures.into_iter_gives.0 in record {
      can_next = tt;
      is_finite = tt;
      room = c.in_ok-courses.ensures.exact ∙ c.len.ensures;
      feeds = sym gives;
      courses = c.in_ok-courses.ensures.items;
      arrive = rw gives (recursion_from_All (λ (feed : List Arrival). AllArrive feed) c.args.feeds.items c.requires.arrive);
    }

pub new-requires : goal.new-requires
new-requires c = grind (arith, common_steps)

pub push_reserved-requires : goal.push_reserved-requires
push_reserved-requires c = grind (arith, common_steps)

pub loop-feed-preserved : goal.loop-feed-preserved
loop-feed-preserved c = grind (arith, common_steps)
