use Rattle.std.proofs.Common.{inl, refl}
use Rattle.flashplan_commands.proofs.checkpoint_acts.act_run.Goals as goal

pub returns-in-None : goal.returns-in-None
returns-in-None g c = inl (rw c.is_some.ensures at c.in-Ok.ensures.printed, inl refl)
