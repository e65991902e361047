use Rattle.flashplan_terms_design.proofs.Margins.{fault-and-margins}
use Rattle.flashplan_terms_design.proofs.Unusable.{if_ok}
use Rattle.flashplan_terms_design.proofs.explained.put_terms_of.Goals as goal

pub returns : goal.returns
returns c = if_ok c.put_margins.result c.put_margins.ensures
    (λ _ more. fault-and-margins c.args.slot_us c.args.die c.args.made c.args.fault c.args.text.now.items c.put_terms.new.text.items
    c.put_margins.new.text.items c.in_ok-put_terms.ensures more)
