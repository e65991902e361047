use Rattle.std.proofs.Common.{◌≡◌, ◌+◌, ◌<◌, false, Ok, Err, map, refl, ap, sym, subst, ◌∙◌}
use Rattle.die_log.specs.Model.Log.{now}
use Rattle.ongoing_log.specs.PastLives.{counted}
use Rattle.ongoing_die.specs.Standing.{OngoingParts, ask_in, NoneIsDue}
use Rattle.ongoing_die.specs.OngoingCalls.{HasBegun, HaveOnePlan}
use Rattle.ongoing_die.proofs.CarriedSlots.{slot_first, carried, failed, carried_plan, failed_plan}
use Rattle.ongoing_die.proofs.NextLives.{goes_on_so, goes_on_yet, plan_then, same_plan}
use Rattle.ongoing_die.proofs.Rooms.{have_room}
use Rattle.ongoing_die.proofs.Quiet.{quiet_same}
use Rattle.ongoing_die.proofs.ongoing_die.OngoingDie.fill_slot.Goals as goal

pub returns-in-Err-clause-slot : goal.returns-in-Err-clause-slot
returns-in-Err-clause-slot g c first d s = (c.in-Err.ensures.stopped, c.in-Err.ensures.unchanged)

pub returns-in-Err-clause-plan : goal.returns-in-Err-clause-plan
returns-in-Err-clause-plan g c = same_plan c.args.self.now c.go_on.new.self c.in-Err.ensures.unchanged

pub invariant_of-self-2 : goal.invariant_of-self-2
invariant_of-self-2 g c =
    let between : OngoingParts g.row.N.Denot = record { die = c.self.inside.die; waiting = map ask_in c.self.inside.waiting.items } in
    let after : OngoingParts g.row.N.Denot = record { die = c.fill_slot.new.self; waiting = map ask_in c.self.inside.waiting.items } in
    let i = c.self.invariant.0 in
    let runs : between.die.core.stopped ≡ false = ap (λ (p : OngoingParts g.row.N.Denot). p.die.core.stopped) c.self.view_is ∙ c.in-Ok.ensures.runs in
    let early : now between.die.core.log < between.die.life =
    subst (λ (p : OngoingParts g.row.N.Denot). now p.die.core.log < p.die.life) (sym c.self.view_is) c.in-Ok.ensures.early in
    let none : NoneIsDue (between.die.first + now between.die.core.log) between.waiting =
    subst (λ (p : OngoingParts g.row.N.Denot). NoneIsDue (p.die.first + now p.die.core.log) p.waiting) (sym c.self.view_is) c.in-Ok.ensures.none_due in
    let b : HasBegun {N = g.row.N.Denot} i.first i.ongoing between between = goes_on_yet i.first i.ongoing between i.stands runs early none in
    let plan : HaveOnePlan between after = carried_plan g.N.Nand.ends g.N.Nand.failures g.N.Nand.never_fails c.args.caller i.first i.ongoing between between b after refl
    (c.fill_slot.ensures.lived (counted b.stands.past) b.stands.lived) c.fill_slot.new.reply c.in-Ok-fill_slot.ensures.slot
    (c.a_die_goes_on_by_itself.ensures.goes_on i.first between.die.terms between.die.life i.long i.ongoing (b.stands.runs b.runs).goes_on) in
    let done = carried g.N.Nand.ends g.N.Nand.failures g.N.Nand.never_fails c.args.caller i.first i.ongoing between between b after refl
    (c.fill_slot.ensures.lived (counted b.stands.past) b.stands.lived) c.fill_slot.new.reply c.in-Ok-fill_slot.ensures.slot
    (c.a_die_goes_on_by_itself.ensures.goes_on i.first between.die.terms between.die.life i.long i.ongoing (b.stands.runs b.runs).goes_on) in (
      goes_on_so i.first _ between after plan i.long done.stands,
      have_room between.die.terms after.die.terms c.self.inside.waiting.items c.self.inside.waiting.items plan.terms refl (λ task d. refl)
          c.self.invariant.1,
      quiet_same c.self.inside.quiet between after (slot_first g.N.Nand.ends g.N.Nand.failures g.N.Nand.never_fails c.args.caller between.die after.die (Ok c.fill_slot.new.reply) c.in-Ok-fill_slot.ensures.slot) plan.life
          c.self.invariant.2 refl,
    )

pub returns-clause-plan : goal.returns-clause-plan
returns-clause-plan g c =
    let between : OngoingParts g.row.N.Denot = record { die = c.self.inside.die; waiting = map ask_in c.self.inside.waiting.items } in
    let after : OngoingParts g.row.N.Denot = record { die = c.fill_slot.new.self; waiting = map ask_in c.self.inside.waiting.items } in
    let i = c.self.invariant.0 in
    let runs : between.die.core.stopped ≡ false = ap (λ (p : OngoingParts g.row.N.Denot). p.die.core.stopped) c.self.view_is ∙ c.in-Ok.ensures.runs in
    let early : now between.die.core.log < between.die.life =
    subst (λ (p : OngoingParts g.row.N.Denot). now p.die.core.log < p.die.life) (sym c.self.view_is) c.in-Ok.ensures.early in
    let none : NoneIsDue (between.die.first + now between.die.core.log) between.waiting =
    subst (λ (p : OngoingParts g.row.N.Denot). NoneIsDue (p.die.first + now p.die.core.log) p.waiting) (sym c.self.view_is) c.in-Ok.ensures.none_due in
    let b : HasBegun {N = g.row.N.Denot} i.first i.ongoing between between = goes_on_yet i.first i.ongoing between i.stands runs early none in
    let begun : HaveOnePlan c.args.self.now between =
    subst (λ (p : OngoingParts g.row.N.Denot). HaveOnePlan c.args.self.now p) (sym c.self.view_is) c.in-Ok.ensures.plan in
    plan_then c.args.self.now between after begun (carried_plan g.N.Nand.ends g.N.Nand.failures g.N.Nand.never_fails c.args.caller i.first i.ongoing between between b after refl
    (c.fill_slot.ensures.lived (counted b.stands.past) b.stands.lived) c.fill_slot.new.reply c.in-Ok-fill_slot.ensures.slot
    (c.a_die_goes_on_by_itself.ensures.goes_on i.first between.die.terms between.die.life i.long i.ongoing (b.stands.runs b.runs).goes_on))

pub returns-clause-slot : goal.returns-clause-slot
returns-clause-slot g c first d s =
    let between : OngoingParts g.row.N.Denot = record { die = c.self.inside.die; waiting = map ask_in c.self.inside.waiting.items } in
    let after : OngoingParts g.row.N.Denot = record { die = c.fill_slot.new.self; waiting = map ask_in c.self.inside.waiting.items } in
    let b : HasBegun {N = g.row.N.Denot} first d c.args.self.now between =
    subst (λ (p : OngoingParts g.row.N.Denot). HasBegun first d c.args.self.now p) (sym c.self.view_is) (c.in-Ok.ensures.ok first d s) in
    carried g.N.Nand.ends g.N.Nand.failures g.N.Nand.never_fails c.args.caller first d c.args.self.now between b after refl
    (c.fill_slot.ensures.lived (counted b.stands.past) b.stands.lived) c.fill_slot.new.reply c.in-Ok-fill_slot.ensures.slot
    (c.a_die_goes_on_by_itself.ensures.goes_on first between.die.terms between.die.life c.self.invariant.0.long d (b.stands.runs b.runs).goes_on)

pub invariant_of-self : goal.invariant_of-self
invariant_of-self g c =
    let between : OngoingParts g.row.N.Denot = record { die = c.self.inside.die; waiting = map ask_in c.self.inside.waiting.items } in
    let after : OngoingParts g.row.N.Denot = record { die = c.fill_slot.new.self; waiting = map ask_in c.self.inside.waiting.items } in
    let i = c.self.invariant.0 in
    let runs : between.die.core.stopped ≡ false = ap (λ (p : OngoingParts g.row.N.Denot). p.die.core.stopped) c.self.view_is ∙ c.in-Ok.ensures.runs in
    let early : now between.die.core.log < between.die.life =
    subst (λ (p : OngoingParts g.row.N.Denot). now p.die.core.log < p.die.life) (sym c.self.view_is) c.in-Ok.ensures.early in
    let none : NoneIsDue (between.die.first + now between.die.core.log) between.waiting =
    subst (λ (p : OngoingParts g.row.N.Denot). NoneIsDue (p.die.first + now p.die.core.log) p.waiting) (sym c.self.view_is) c.in-Ok.ensures.none_due in
    let b : HasBegun {N = g.row.N.Denot} i.first i.ongoing between between = goes_on_yet i.first i.ongoing between i.stands runs early none in
    let plan : HaveOnePlan between after = failed_plan g.N.Nand.ends g.N.Nand.failures g.N.Nand.never_fails c.args.caller i.first i.ongoing between between b after refl
    (c.fill_slot.ensures.lived (counted b.stands.past) b.stands.lived) c.in-Err-fill_slot.field-0 c.in-Err-fill_slot.ensures.slot in
    let done = failed g.N.Nand.ends g.N.Nand.failures g.N.Nand.never_fails c.args.caller i.first i.ongoing between between b after refl
    (c.fill_slot.ensures.lived (counted b.stands.past) b.stands.lived) c.in-Err-fill_slot.field-0 c.in-Err-fill_slot.ensures.slot in (
      goes_on_so i.first _ between after plan i.long done.stands,
      have_room between.die.terms after.die.terms c.self.inside.waiting.items c.self.inside.waiting.items plan.terms refl (λ task d. refl)
          c.self.invariant.1,
      quiet_same c.self.inside.quiet between after (slot_first g.N.Nand.ends g.N.Nand.failures g.N.Nand.never_fails c.args.caller between.die after.die (Err c.in-Err-fill_slot.field-0) c.in-Err-fill_slot.ensures.slot) plan.life
          c.self.invariant.2 refl,
    )

pub returns-in-Err-fill_slot-clause-plan : goal.returns-in-Err-fill_slot-clause-plan
returns-in-Err-fill_slot-clause-plan g c =
    let between : OngoingParts g.row.N.Denot = record { die = c.self.inside.die; waiting = map ask_in c.self.inside.waiting.items } in
    let after : OngoingParts g.row.N.Denot = record { die = c.fill_slot.new.self; waiting = map ask_in c.self.inside.waiting.items } in
    let i = c.self.invariant.0 in
    let runs : between.die.core.stopped ≡ false = ap (λ (p : OngoingParts g.row.N.Denot). p.die.core.stopped) c.self.view_is ∙ c.in-Ok.ensures.runs in
    let early : now between.die.core.log < between.die.life =
    subst (λ (p : OngoingParts g.row.N.Denot). now p.die.core.log < p.die.life) (sym c.self.view_is) c.in-Ok.ensures.early in
    let none : NoneIsDue (between.die.first + now between.die.core.log) between.waiting =
    subst (λ (p : OngoingParts g.row.N.Denot). NoneIsDue (p.die.first + now p.die.core.log) p.waiting) (sym c.self.view_is) c.in-Ok.ensures.none_due in
    let b : HasBegun {N = g.row.N.Denot} i.first i.ongoing between between = goes_on_yet i.first i.ongoing between i.stands runs early none in
    let begun : HaveOnePlan c.args.self.now between =
    subst (λ (p : OngoingParts g.row.N.Denot). HaveOnePlan c.args.self.now p) (sym c.self.view_is) c.in-Ok.ensures.plan in
    plan_then c.args.self.now between after begun (failed_plan g.N.Nand.ends g.N.Nand.failures g.N.Nand.never_fails c.args.caller i.first i.ongoing between between b after refl
    (c.fill_slot.ensures.lived (counted b.stands.past) b.stands.lived) c.in-Err-fill_slot.field-0 c.in-Err-fill_slot.ensures.slot)

pub returns-in-Err-fill_slot-clause-slot : goal.returns-in-Err-fill_slot-clause-slot
returns-in-Err-fill_slot-clause-slot g c first d s =
    let between : OngoingParts g.row.N.Denot = record { die = c.self.inside.die; waiting = map ask_in c.self.inside.waiting.items } in
    let after : OngoingParts g.row.N.Denot = record { die = c.fill_slot.new.self; waiting = map ask_in c.self.inside.waiting.items } in
    let b : HasBegun {N = g.row.N.Denot} first d c.args.self.now between =
    subst (λ (p : OngoingParts g.row.N.Denot). HasBegun first d c.args.self.now p) (sym c.self.view_is) (c.in-Ok.ensures.ok first d s) in
    failed g.N.Nand.ends g.N.Nand.failures g.N.Nand.never_fails c.args.caller first d c.args.self.now between b after refl
    (c.fill_slot.ensures.lived (counted b.stands.past) b.stands.lived) c.in-Err-fill_slot.field-0 c.in-Err-fill_slot.ensures.slot
