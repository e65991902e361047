use Rattle.ongoing_die.proofs.Shutting.{loses_power}
use Rattle.ongoing_die.proofs.ongoing_die.OngoingDie.may_lose_power.Goals as goal

pub returns : goal.returns
returns g c first d s start opens plan full =
    loses_power first d c.args.self.now s (c.a_die_goes_on_after_each_end.ensures.lost_power first c.args.self.now.die.terms c.args.self.now.die.life)
    start opens plan full
