use Rattle.std.proofs.Common.{◌∙◌, ap}
use Rattle.slot_types.specs.declared.plans.DiePlan.{DiePlan}
use Rattle.flashplan_terms_design.proofs.Margins.{room-and-margins}
use Rattle.flashplan_terms_design.proofs.Unusable.{if_ok}
use Rattle.flashplan_terms_design.proofs.explained.put_changes_of.Goals as goal

pub returns : goal.returns
returns c = if_ok c.put_margins.result c.put_margins.ensures
    (λ _ more. room-and-margins c.args.slot_us c.args.die c.args.made _ _ _ c.greatest_logical-logical.result c.least_blocks-blocks.result
    c.args.text.now.items c.put_room.new.text.items c.put_caps.new.text.items c.put_margins.new.text.items
    c.greatest_logical-logical.ensures.plan
    (ap (λ (plan : DiePlan). record c.args.made { plan = plan }) (c.least_blocks-blocks.ensures.plan ∙ c.greatest_logical-logical.ensures.plan))
    c.in_ok-made.ensures.same c.greatest_logical-logical.ensures.found c.least_blocks-blocks.ensures.found c.in_ok-put_room.ensures
    c.in_ok-made.ensures.said more)
