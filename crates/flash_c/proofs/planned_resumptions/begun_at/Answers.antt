use Rattle.std.proofs.Common.{sym, ◌∙◌}
use Rattle.flash_c.proofs.KeptMounts.{begins_kept, calls_over, not_done, unbegun_of}
use Rattle.flash_c.proofs.Mounting.{none_of, stage_done}
use Rattle.flash_c.proofs.planned_resumptions.begun_at.Goals as goal

pub returns-then-is_some-clause-refused : goal.returns-then-is_some-clause-refused
returns-then-is_some-clause-refused c =
    let m = c.in-Calls.mount in
    calls_over c.args.held.now m c.in-Calls.is
    (not_done m.next m.stage c.next.result c.next.ensures.call (sym c.is_some.ensures ∙ c.if-is_some.true))

pub kept_of-requires : goal.kept_of-requires
kept_of-requires c =
    let m = c.in-Calls.mount in
    record { ended = stage_done m.next m.stage (sym c.next.ensures.call ∙ none_of c.next.result (sym c.is_some.ensures ∙ c.if-is_some.false)) }

pub returns-in-Ok-clause-made : goal.returns-in-Ok-clause-made
returns-in-Ok-clause-made c = begins_kept c.args.held.now c.in-Calls.mount c.args.terms c.args.longest c.args.names.now c.in-Ok.made.value
    c.in-Calls.is c.in-Ok.ensures.made

pub returns-in-Err-clause-refused : goal.returns-in-Err-clause-refused
returns-in-Err-clause-refused c = unbegun_of c.args.held.now c.in-Calls.mount c.args.terms c.args.longest c.in-Err.refusal c.in-Calls.is
    c.in-Err.ensures.refused c.in-Err.ensures.stocked
