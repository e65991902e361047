use Rattle.flashplan_terms_design.proofs.Unusable.{first-and-changes, if_ok}
use Rattle.flashplan_terms_design.proofs.explained.put_first_of.Goals as goal

pub returns-clause-said : goal.returns-clause-said
returns-clause-said c = if_ok c.put_cheapest.result c.put_cheapest.ensures.said
    (λ _ changes. first-and-changes c.args.slot_us c.args.numbers.now c.args.die c.args.fault c.args.text.now.items
    c.put_planned.new.text.items c.put_alphas.new.text.items c.put_cheapest.new.text.items c.in_ok-put_planned.ensures.said
    c.in_ok-put_alphas.ensures.said changes)
