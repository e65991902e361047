use Rattle.std.proofs.Common.{◌≡◌, ◌+◌, ◌<◌, false, map, refl, ap, sym, subst, ◌∙◌}
use Rattle.die_log.specs.Model.Log.{now}
use Rattle.planned_die.specs.Planned.{Planned}
use Rattle.ongoing_die.specs.Standing.{OngoingParts, ask_in, NoneIsDue}
use Rattle.ongoing_die.specs.OngoingCalls.{HasBegun}
use Rattle.planned_die.proofs.BegunSlots.{has_slot}
use Rattle.ongoing_die.proofs.BegunSlots.{begins, is_begun}
use Rattle.ongoing_die.proofs.NextLives.{goes_on_yet}
use Rattle.ongoing_die.proofs.Rooms.{have_room}
use Rattle.ongoing_die.proofs.Quiet.{quiet_same}
use Rattle.ongoing_die.proofs.ongoing_die.OngoingDie.begin.Goals as goal

pub unreachable-requires : goal.unreachable-requires
unreachable-requires g c =
    has_slot c.ongoing.inside.die c.in-Err-enter_collections.field-0 c.in-Err-enter_collections.ensures.refused
    (ap (λ (p : OngoingParts g.row.N.Denot). p.die.core.stopped) c.ongoing.view_is ∙ c.in-Ok.ensures.runs)
    (subst (λ (p : OngoingParts g.row.N.Denot). now p.die.core.log < p.die.life) (sym c.ongoing.view_is) c.in-Ok.ensures.early)

pub invariant_of-result : goal.invariant_of-result
invariant_of-result g c =
    let between : OngoingParts g.row.N.Denot = record { die = c.ongoing.inside.die; waiting = map ask_in c.ongoing.inside.waiting.items } in
    let after : OngoingParts g.row.N.Denot = record { die = c.enter_collections.new.self; waiting = map ask_in c.ongoing.inside.waiting.items } in
    let i = c.ongoing.invariant.0 in
    let runs : between.die.core.stopped ≡ false = ap (λ (p : OngoingParts g.row.N.Denot). p.die.core.stopped) c.ongoing.view_is ∙ c.in-Ok.ensures.runs in
    let early : now between.die.core.log < between.die.life =
    subst (λ (p : OngoingParts g.row.N.Denot). now p.die.core.log < p.die.life) (sym c.ongoing.view_is) c.in-Ok.ensures.early in
    let none : NoneIsDue (between.die.first + now between.die.core.log) between.waiting =
    subst (λ (p : OngoingParts g.row.N.Denot). NoneIsDue (p.die.first + now p.die.core.log) p.waiting) (sym c.ongoing.view_is) c.in-Ok.ensures.none_due in
    let b : HasBegun {N = g.row.N.Denot} i.first i.ongoing between between = goes_on_yet i.first i.ongoing between i.stands runs early none in (
      is_begun c.args.caller i.first i.ongoing between between after b c.in-Ok-enter_collections.ensures.entered refl c.enter_collections.ensures.lived i.long,
      have_room between.die.terms after.die.terms c.ongoing.inside.waiting.items c.ongoing.inside.waiting.items
          (ap (λ (p : Planned g.row.N.Denot). p.terms) c.in-Ok-enter_collections.ensures.entered.came) refl (λ task d. refl) c.ongoing.invariant.1,
      quiet_same c.ongoing.inside.quiet between after (ap (λ (p : Planned g.row.N.Denot). p.first) c.in-Ok-enter_collections.ensures.entered.came)
          (ap (λ (p : Planned g.row.N.Denot). p.life) c.in-Ok-enter_collections.ensures.entered.came) c.ongoing.invariant.2 refl,
    )

pub returns-clause-begun : goal.returns-clause-begun
returns-clause-begun g c first d s =
    let between : OngoingParts g.row.N.Denot = record { die = c.ongoing.inside.die; waiting = map ask_in c.ongoing.inside.waiting.items } in
    let after : OngoingParts g.row.N.Denot = record { die = c.enter_collections.new.self; waiting = map ask_in c.ongoing.inside.waiting.items } in
    let b : HasBegun {N = g.row.N.Denot} first d c.args.self between =
    subst (λ (p : OngoingParts g.row.N.Denot). HasBegun first d c.args.self p) (sym c.ongoing.view_is) (c.in-Ok.ensures.ok first d s) in
    begins c.args.caller first d c.args.self between after b c.in-Ok-enter_collections.ensures.entered refl c.enter_collections.ensures.lived
