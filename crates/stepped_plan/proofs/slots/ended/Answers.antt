use Rattle.std.proofs.Common.{◌∙◌, sym}
use Rattle.std.proofs.lemmas.Bool.{true≢false}
use Rattle.stepped_plan.proofs.Calling.{has_ended, ends_between}
use Rattle.stepped_plan.proofs.slots.ended.Goals as goal

pub returns-then-is_done-clause-ended : goal.returns-then-is_done-clause-ended
returns-then-is_done-clause-ended c =
    let asked = rw c.in-Within.is at c.requires.asked in
    rw c.in-Within.is (has_ended c.args.ok c.args.bytes c.in-Within.die c.in-Within.begun (c.is_done.ensures.0 c.if-is_done.true) asked
    c.carried.result.1 c.carried.result.0 c.carried.ensures.carried)

pub returns-then-is_done-clause-asked : goal.returns-then-is_done-clause-asked
returns-then-is_done-clause-asked c =
    let asked = rw c.in-Within.is at c.requires.asked in
    ends_between c.args.ok c.args.bytes c.in-Within.die c.in-Within.begun (c.is_done.ensures.0 c.if-is_done.true) asked
    c.carried.result.1 c.carried.result.0 c.carried.ensures.carried

pub returns-else-is_done-clause-ended : goal.returns-else-is_done-clause-ended
returns-else-is_done-clause-ended c = rw c.in-Within.is (record {
  undone = λ done. true≢false (sym (c.is_done.ensures.1 done) ∙ c.if-is_done.false);
  stops = c.give_up.ensures.stops;
  stands = c.give_up.ensures.stands;
})
