use Rattle.std.proofs.Common.{◌≡◌, ◌+◌, map, ◌∙◌, arith}
use Rattle.die_log.specs.Model.Log.{now}
use Rattle.ongoing_die.specs.Standing.{ask_in}
use Rattle.ongoing_die.proofs.OverAllLives.{clock_is}
use Rattle.ongoing_die.proofs.ongoing_die.OngoingDie.clock.Goals as goal

pub returns-clause-clock : goal.returns-clause-clock
returns-clause-clock g c =
    let at : c.first.result + c.from.result ≡ c.self.inside.die.first + now c.self.inside.die.core.log =
    omega (arith, c.first.ensures.first, c.from.ensures, c.now.ensures) in
    rw (← c.self.view_is) (λ first d s runs.
    at ∙ clock_is first d (record { die = c.self.inside.die; waiting = map ask_in c.self.inside.waiting.items }) s runs)
