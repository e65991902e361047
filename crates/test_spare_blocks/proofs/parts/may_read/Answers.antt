use Rattle.std.proofs.Common.{rules, ◌≡◌, sym, ◌∙◌}
use Rattle.test_spare_blocks.proofs.Programmed.{is_zero, programmed}
use Rattle.test_spare_blocks.proofs.parts.may_read.Goals as goal

pub returns-in-Some-held : goal.returns-in-Some-held
returns-in-Some-held c = λ quiet.
    programmed c.args.device.now c.args.place c.in-Some.on c.part.result.now c.part-in-Some-held.result.now c.in-Some-held.field-0
    c.in-Some.ensures.in_plan c.in-Some.ensures.number c.part.ensures c.part-in-Some-held.ensures
    (sym c.held.ensures ∙ c.in-Some-held.is)
    (sym c.slots_done.ensures ∙ is_zero c.slots_done.result quiet)
