use Rattle.std.proofs.Common.{◌≡◌, ◌+◌, Option, length, map, ap, arith}
use Rattle.std.proofs.lemmas.List.{length-map}
use Rattle.die_log.specs.Model.Log.{now}
use Rattle.ongoing_log.specs.Ongoing.{WaitingAsk, left_at}
use Rattle.ongoing_die.specs.Standing.{OngoingParts, ask_in}
use Rattle.ongoing_die.specs.OngoingCalls.{HasBegun}
use Rattle.ongoing_die.proofs.NextLives.{begun, plan, none_due, goes_on_so}
use Rattle.ongoing_die.proofs.Quiet.{quiet_none}
use Rattle.ongoing_die.proofs.Rooms.{have_room}
use Rattle.ongoing_die.proofs.ongoing_die.OngoingDie.enter_slot.Goals as goal

pub invariant_of-self-2 : goal.invariant_of-self-2
invariant_of-self-2 g c =
    let before : OngoingParts g.row.N.Denot = record { die = c.self.inside.die; waiting = map ask_in c.self.inside.waiting.items } in
    let after : OngoingParts g.row.N.Denot = record { die = c.enter_waiting.new.die; waiting = map ask_in c.enter_waiting.new.waiting.items } in
    let i = c.self.invariant.0 in
    let clock_at : c.first.result + c.from.result ≡ c.live_on.new.die.first + now c.live_on.new.die.core.log =
    omega (arith, c.first.ensures.first, c.from.ensures, c.now.ensures) in
    let b : HasBegun {N = g.row.N.Denot} i.first i.ongoing before after =
    begun i.first i.ongoing before after i.stands c.in-Ok.ensures.ran c.live_on.new.die c.in-Ok.ensures.ok c.enter_waiting.ensures.same
    (c.first.result + c.from.result) clock_at c.enter_waiting.ensures.lived c.enter_waiting.ensures.log c.enter_waiting.ensures.left in
    let count : length c.enter_waiting.new.waiting.items ≡ length c.self.inside.waiting.items = omega (
      arith,
      length-map c.enter_waiting.new.waiting.items ask_in,
      length-map c.self.inside.waiting.items ask_in,
      ap length c.enter_waiting.ensures.left,
      length-map {B = Option WaitingAsk} (map ask_in c.self.inside.waiting.items) (left_at (c.first.result + c.from.result)),
    ) in (
      goes_on_so i.first i.ongoing before after b.plan i.long b.stands,
      have_room before.die.terms after.die.terms c.self.inside.waiting.items c.enter_waiting.new.waiting.items b.plan.terms count
          c.enter_waiting.ensures.room c.self.invariant.1,
      quiet_none after,
    )

pub returns-clause-ok : goal.returns-clause-ok
returns-clause-ok g c =
    let before : OngoingParts g.row.N.Denot = record { die = c.self.inside.die; waiting = map ask_in c.self.inside.waiting.items } in
    let after : OngoingParts g.row.N.Denot = record { die = c.enter_waiting.new.die; waiting = map ask_in c.enter_waiting.new.waiting.items } in
    let clock_at : c.first.result + c.from.result ≡ c.live_on.new.die.first + now c.live_on.new.die.core.log =
    omega (arith, c.first.ensures.first, c.from.ensures, c.now.ensures) in
    rw (← c.self.view_is) (λ first d s.
    begun first d before after s c.in-Ok.ensures.ran c.live_on.new.die c.in-Ok.ensures.ok c.enter_waiting.ensures.same
    (c.first.result + c.from.result) clock_at c.enter_waiting.ensures.lived c.enter_waiting.ensures.log c.enter_waiting.ensures.left)

pub returns-clause-early : goal.returns-clause-early
returns-clause-early g c =
    let before : OngoingParts g.row.N.Denot = record { die = c.self.inside.die; waiting = map ask_in c.self.inside.waiting.items } in
    let after : OngoingParts g.row.N.Denot = record { die = c.enter_waiting.new.die; waiting = map ask_in c.enter_waiting.new.waiting.items } in
    let i = c.self.invariant.0 in
    let clock_at : c.first.result + c.from.result ≡ c.live_on.new.die.first + now c.live_on.new.die.core.log =
    omega (arith, c.first.ensures.first, c.from.ensures, c.now.ensures) in
    let b : HasBegun {N = g.row.N.Denot} i.first i.ongoing before after =
    begun i.first i.ongoing before after i.stands c.in-Ok.ensures.ran c.live_on.new.die c.in-Ok.ensures.ok c.enter_waiting.ensures.same
    (c.first.result + c.from.result) clock_at c.enter_waiting.ensures.lived c.enter_waiting.ensures.log c.enter_waiting.ensures.left in
    b.early

pub returns-clause-none_due : goal.returns-clause-none_due
returns-clause-none_due g c =
    let before : OngoingParts g.row.N.Denot = record { die = c.self.inside.die; waiting = map ask_in c.self.inside.waiting.items } in
    let after : OngoingParts g.row.N.Denot = record { die = c.enter_waiting.new.die; waiting = map ask_in c.enter_waiting.new.waiting.items } in
    let i = c.self.invariant.0 in
    let clock_at : c.first.result + c.from.result ≡ c.live_on.new.die.first + now c.live_on.new.die.core.log =
    omega (arith, c.first.ensures.first, c.from.ensures, c.now.ensures) in
    none_due i.first i.ongoing before after i.stands c.in-Ok.ensures.ran c.live_on.new.die c.in-Ok.ensures.ok c.enter_waiting.ensures.same
    (c.first.result + c.from.result) clock_at c.enter_waiting.ensures.lived c.enter_waiting.ensures.log c.enter_waiting.ensures.left

pub returns-clause-plan : goal.returns-clause-plan
returns-clause-plan g c =
    let before : OngoingParts g.row.N.Denot = record { die = c.self.inside.die; waiting = map ask_in c.self.inside.waiting.items } in
    let after : OngoingParts g.row.N.Denot = record { die = c.enter_waiting.new.die; waiting = map ask_in c.enter_waiting.new.waiting.items } in
    let i = c.self.invariant.0 in
    let clock_at : c.first.result + c.from.result ≡ c.live_on.new.die.first + now c.live_on.new.die.core.log =
    omega (arith, c.first.ensures.first, c.from.ensures, c.now.ensures) in
    rw (← c.self.view_is) (plan i.first i.ongoing before after i.stands c.in-Ok.ensures.ran c.live_on.new.die c.in-Ok.ensures.ok c.enter_waiting.ensures.same
    (c.first.result + c.from.result) clock_at)

pub returns-in-Err-clause-stopped : goal.returns-in-Err-clause-stopped
returns-in-Err-clause-stopped g c = rw (← c.self.view_is) (c.in-Err.ensures.stopped (map ask_in c.self.inside.waiting.items))
