use Rattle.std.proofs.Common.{sym, ◌∙◌}
use Rattle.flash_c.proofs.Mounting.{begins_at, none_of, stage_done}
use Rattle.flash_c.proofs.mounts.die_of.Goals as goal

pub returns-in-Ok-new-clause-made : goal.returns-in-Ok-new-clause-made
returns-in-Ok-new-clause-made c =
    let m = c.args.mount.now in
    rw c.in-Ok-new.ensures.ok
    (begins_at m c.in-Ok.end c.in-Ok-copy_of.plan c.args.names.now c.in-Ok-mounted.die
    (stage_done m.next m.stage (sym c.next.ensures.call ∙ none_of c.next.result (sym c.is_some.ensures ∙ c.if-is_some.false))) c.in-Ok.ensures.end
    (c.in-Ok-copy_of.ensures.plan ∙ c.plan.ensures) c.in-Ok-mounted.ensures.ok c.in-Ok-mounted.ensures.part)
