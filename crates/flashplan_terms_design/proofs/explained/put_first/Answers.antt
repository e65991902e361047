use Rattle.terms_texts.specs.TermsText.{read_numbers}
use Rattle.flashplan_terms_design.proofs.Unusable.{if_ok, refusal-of-die}
use Rattle.flashplan_terms_design.proofs.explained.put_first.Goals as goal

pub returns-clause-said : goal.returns-clause-said
returns-clause-said c = if_ok c.put_first_of.result c.put_first_of.ensures.said
    (λ _ said. refusal-of-die c.args.slot_us (read_numbers c.args.plan.now) c.in-Ok.numbers c.args.die c.args.fault c.args.text.now.items
    c.put_first_of.new.text.items c.in-Ok.ensures said)
