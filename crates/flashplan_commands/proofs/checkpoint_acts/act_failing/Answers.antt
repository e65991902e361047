use Rattle.std.proofs.Common.{inl, refl}
use Rattle.flashplan_commands.proofs.checkpoint_acts.act_failing.Goals as goal

pub returns-in-Ok : goal.returns-in-Ok
returns-in-Ok g c = inl (c.in-Ok.ensures.printed, refl)
