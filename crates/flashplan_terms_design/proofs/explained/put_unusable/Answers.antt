use Rattle.flashplan_terms_design.proofs.Unusable.{if_ok, numbers-and-fault}
use Rattle.flashplan_terms_design.proofs.explained.put_unusable.Goals as goal

pub returns : goal.returns
returns c = if_ok c.put_die_fault.result c.put_die_fault.ensures
    (λ _ why. numbers-and-fault c.args.slot_us c.args.die c.args.made c.args.fault c.args.text.now.items c.put_numbers.new.text.items
    c.put_die_fault.new.text.items c.in_ok-put_numbers.ensures why)
