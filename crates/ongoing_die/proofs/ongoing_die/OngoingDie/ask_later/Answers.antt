use Rattle.std.proofs.Common.{◌≡◌, ◌+◌, ◌-◌, ◌<◌, ◌≤◌, false, min, None, Some, is_some, length, map, get_or, set, vec_capacity, refl, ap, sym, subst, ◌∙◌, arith}
use Rattle.std.proofs.lemmas.List.{length-map, length-set}
use Rattle.demand_rules.specs.declared.terms.TaskTerms.{TaskTerms}
use Rattle.demand_rules.specs.declared.terms.Terms.{Terms}
use Rattle.demand_rules.specs.Demand.{terms_of}
use Rattle.die_log.specs.Model.Log.{now}
use Rattle.ongoing_log.specs.PastLives.{counted}
use Rattle.ongoing_log.specs.Ongoing.{Waits, TooFarAhead}
use Rattle.ongoing_log.specs.Ahead.{last_slot}
use Rattle.planned_die.specs.Planned.{Planned}
use Rattle.ongoing_die.specs.Standing.{OngoingParts, ask_in, NoneIsDue}
use Rattle.ongoing_die.specs.OngoingCalls.{HasBegun}
use Rattle.ongoing_die.proofs.Asking.{begun_still}
use Rattle.ongoing_die.proofs.AskingAhead.{plan_refuses, too_far, one_waits_already, waits_then, of_the_plan, waits_at}
use Rattle.ongoing_die.proofs.AskEnds.{none_if, some_if}
use Rattle.ongoing_die.proofs.NextLives.{goes_on_so, goes_on_yet}
use Rattle.ongoing_die.proofs.Rooms.{have_room}
use Rattle.ongoing_die.proofs.Quiet.{quiet_none}
use Rattle.ongoing_die.proofs.ongoing_die.OngoingDie.ask_later.Goals as goal

-- the plan refuses it
pub returns-in-Err-clause-ask : goal.returns-in-Err-clause-ask
returns-in-Err-clause-ask g c =
    let die : Planned g.row.N.Denot = c.self.inside.die in
    let ws = c.self.inside.waiting.items in
    let parts : OngoingParts g.row.N.Denot = record { die = die; waiting = map ask_in ws } in
    let runs : die.core.stopped ≡ false = ap (λ (p : OngoingParts g.row.N.Denot). p.die.core.stopped) c.self.view_is ∙ c.requires.runs in
    let early : now die.core.log < die.life =
    subst (λ (p : OngoingParts g.row.N.Denot). now p.die.core.log < p.die.life) (sym c.self.view_is) c.requires.early in
    let none : NoneIsDue (die.first + now die.core.log) parts.waiting =
    subst (λ (p : OngoingParts g.row.N.Denot). NoneIsDue (p.die.first + now p.die.core.log) p.waiting) (sym c.self.view_is) c.requires.none_due in
    let later : die.first + now die.core.log < c.args.at =
    subst (λ (p : OngoingParts g.row.N.Denot). p.die.first + now p.die.core.log < c.args.at) (sym c.self.view_is) c.requires.later in
    let still : c.release_at.new.die ≡ die = c.release_at.ensures.unchanged in
    let after : OngoingParts g.row.N.Denot = record { die = c.release_at.new.die; waiting = map ask_in ws } in
    let same : after ≡ parts = ap (λ (p : Planned g.row.N.Denot). record { die = p; waiting = map ask_in ws }) still in
    rw (← c.self.view_is) (λ first d s.
    let b : HasBegun {N = g.row.N.Denot} first d parts parts = goes_on_yet first d parts s runs early none in (
      plan_refuses first d parts b c.args.kind c.args.caller c.args.task c.args.ops.now c.args.at later c.release_at.result
          (c.release_at.ensures.release (counted b.stands.past) b.stands.lived) c.in-Err.refusal c.in-Err.is,
      begun_still first d parts parts after same b,
    ))

-- it is for a slot too far ahead
pub returns-then-at-last-clause-ask : goal.returns-then-at-last-clause-ask
returns-then-at-last-clause-ask g c =
    let die : Planned g.row.N.Denot = c.self.inside.die in
    let ws = c.self.inside.waiting.items in
    let parts : OngoingParts g.row.N.Denot = record { die = die; waiting = map ask_in ws } in
    let runs : die.core.stopped ≡ false = ap (λ (p : OngoingParts g.row.N.Denot). p.die.core.stopped) c.self.view_is ∙ c.requires.runs in
    let early : now die.core.log < die.life =
    subst (λ (p : OngoingParts g.row.N.Denot). now p.die.core.log < p.die.life) (sym c.self.view_is) c.requires.early in
    let none : NoneIsDue (die.first + now die.core.log) parts.waiting =
    subst (λ (p : OngoingParts g.row.N.Denot). NoneIsDue (p.die.first + now p.die.core.log) p.waiting) (sym c.self.view_is) c.requires.none_due in
    let later : die.first + now die.core.log < c.args.at =
    subst (λ (p : OngoingParts g.row.N.Denot). p.die.first + now p.die.core.log < c.args.at) (sym c.self.view_is) c.requires.later in
    let still : c.release_at.new.die ≡ die = c.release_at.ensures.unchanged in
    let after : OngoingParts g.row.N.Denot = record { die = c.release_at.new.die; waiting = map ask_in ws } in
    let same : after ≡ parts = ap (λ (p : Planned g.row.N.Denot). record { die = p; waiting = map ask_in ws }) still in
    let t : TaskTerms = terms_of die.terms c.args.task in
    let clock_is : c.first-2.result + c.from-2.result ≡ die.first + now die.core.log = omega (
      arith,
      c.first-2.ensures.first,
      c.from-2.ensures,
      c.now.ensures,
      ap (λ (p : Planned g.row.N.Denot). p.first) still,
      ap (λ (p : Planned g.row.N.Denot). now p.core.log) still,
    ) in
    let end_is : c.first.result + c.from.result ≡ die.first + die.life = omega (
      arith,
      c.first.ensures.first,
      c.from.ensures,
      c.life.ensures,
      ap (λ (p : Planned g.row.N.Denot). p.first) still,
      ap (λ (p : Planned g.row.N.Denot). p.life) still,
    ) in
    let period_is : c.period_of.result ≡ t.period =
    c.period_of.ensures ∙ (ap (λ (x : Terms). (terms_of x c.task.inside.0).period) (c.terms.ensures ∙ ap (λ (p : Planned g.row.N.Denot). p.terms) still)
    ∙ ap (λ n. (terms_of die.terms n).period) c.task.view_is) in
    let last_is : c.last_slot-last.result ≡ last_slot (die.first + now die.core.log) t.period die.first die.life =
    c.last_slot-last.ensures ∙ (λ i. min (clock_is i + period_is i - 1) (end_is i)) in
    rw (← c.self.view_is) (λ first d s.
    let b : HasBegun {N = g.row.N.Denot} first d parts parts = goes_on_yet first d parts s runs early none in (
      too_far first d parts b c.args.kind c.args.caller c.args.task c.args.ops.now c.args.at later c.release_at.result
          (c.release_at.ensures.release (counted b.stands.past) b.stands.lived) c.in-Ok.release c.in-Ok.is (omega (arith, c.if-at-last.true, last_is))
          ∙ ap TooFarAhead (sym last_is),
      begun_still first d parts parts after same b,
    ))

-- one waits
pub returns-then-is_waiting-clause-ask : goal.returns-then-is_waiting-clause-ask
returns-then-is_waiting-clause-ask g c =
    let die : Planned g.row.N.Denot = c.self.inside.die in
    let ws = c.self.inside.waiting.items in
    let parts : OngoingParts g.row.N.Denot = record { die = die; waiting = map ask_in ws } in
    let runs : die.core.stopped ≡ false = ap (λ (p : OngoingParts g.row.N.Denot). p.die.core.stopped) c.self.view_is ∙ c.requires.runs in
    let early : now die.core.log < die.life =
    subst (λ (p : OngoingParts g.row.N.Denot). now p.die.core.log < p.die.life) (sym c.self.view_is) c.requires.early in
    let none : NoneIsDue (die.first + now die.core.log) parts.waiting =
    subst (λ (p : OngoingParts g.row.N.Denot). NoneIsDue (p.die.first + now p.die.core.log) p.waiting) (sym c.self.view_is) c.requires.none_due in
    let later : die.first + now die.core.log < c.args.at =
    subst (λ (p : OngoingParts g.row.N.Denot). p.die.first + now p.die.core.log < c.args.at) (sym c.self.view_is) c.requires.later in
    let still : c.release_at.new.die ≡ die = c.release_at.ensures.unchanged in
    let after : OngoingParts g.row.N.Denot = record { die = c.release_at.new.die; waiting = map ask_in ws } in
    let same : after ≡ parts = ap (λ (p : Planned g.row.N.Denot). record { die = p; waiting = map ask_in ws }) still in
    let t : TaskTerms = terms_of die.terms c.args.task in
    let clock_is : c.first-2.result + c.from-2.result ≡ die.first + now die.core.log = omega (
      arith,
      c.first-2.ensures.first,
      c.from-2.ensures,
      c.now.ensures,
      ap (λ (p : Planned g.row.N.Denot). p.first) still,
      ap (λ (p : Planned g.row.N.Denot). now p.core.log) still,
    ) in
    let end_is : c.first.result + c.from.result ≡ die.first + die.life = omega (
      arith,
      c.first.ensures.first,
      c.from.ensures,
      c.life.ensures,
      ap (λ (p : Planned g.row.N.Denot). p.first) still,
      ap (λ (p : Planned g.row.N.Denot). p.life) still,
    ) in
    let period_is : c.period_of.result ≡ t.period =
    c.period_of.ensures ∙ (ap (λ (x : Terms). (terms_of x c.task.inside.0).period) (c.terms.ensures ∙ ap (λ (p : Planned g.row.N.Denot). p.terms) still)
    ∙ ap (λ n. (terms_of die.terms n).period) c.task.view_is) in
    let last_is : c.last_slot-last.result ≡ last_slot (die.first + now die.core.log) t.period die.first die.life =
    c.last_slot-last.ensures ∙ (λ i. min (clock_is i + period_is i - 1) (end_is i)) in
    let there = some_if (get_or (map ask_in ws) c.args.task None)
    (ap (λ n. is_some (get_or (map ask_in ws) n None)) (sym c.task.view_is) ∙ (sym c.is_waiting.ensures ∙ c.if-is_waiting.true)) in
    rw (← c.self.view_is) (λ first d s.
    let b : HasBegun {N = g.row.N.Denot} first d parts parts = goes_on_yet first d parts s runs early none in (
      one_waits_already first d parts b c.args.kind c.args.caller c.args.task c.args.ops.now c.args.at later c.release_at.result
          (c.release_at.ensures.release (counted b.stands.past) b.stands.lived) c.in-Ok.release c.in-Ok.is (omega (arith, c.if-at-last.false, last_is)) there.0 there.1,
      begun_still first d parts parts after same b,
    ))

-- it waits
pub keep_waiting-requires-clause-task : goal.keep_waiting-requires-clause-task
keep_waiting-requires-clause-task g c =
    let die : Planned g.row.N.Denot = c.self.inside.die in
    let ws = c.self.inside.waiting.items in
    let parts : OngoingParts g.row.N.Denot = record { die = die; waiting = map ask_in ws } in
    let runs : die.core.stopped ≡ false = ap (λ (p : OngoingParts g.row.N.Denot). p.die.core.stopped) c.self.view_is ∙ c.requires.runs in
    let early : now die.core.log < die.life =
    subst (λ (p : OngoingParts g.row.N.Denot). now p.die.core.log < p.die.life) (sym c.self.view_is) c.requires.early in
    let none : NoneIsDue (die.first + now die.core.log) parts.waiting =
    subst (λ (p : OngoingParts g.row.N.Denot). NoneIsDue (p.die.first + now p.die.core.log) p.waiting) (sym c.self.view_is) c.requires.none_due in
    let later : die.first + now die.core.log < c.args.at =
    subst (λ (p : OngoingParts g.row.N.Denot). p.die.first + now p.die.core.log < c.args.at) (sym c.self.view_is) c.requires.later in
    let still : c.release_at.new.die ≡ die = c.release_at.ensures.unchanged in
    let i = c.self.invariant.0 in
    let b : HasBegun {N = g.row.N.Denot} i.first i.ongoing parts parts = goes_on_yet i.first i.ongoing parts i.stands runs early none in
    let known = of_the_plan i.first i.ongoing parts b c.args.kind c.args.caller c.args.task c.args.ops.now c.args.at later c.release_at.result
    (c.release_at.ensures.release (counted b.stands.past) b.stands.lived) c.in-Ok.release c.in-Ok.is in
    omega (arith, known.0, c.task.view_is, i.stands.one_each, length-map ws ask_in)

pub keep_waiting-requires-clause-room : goal.keep_waiting-requires-clause-room
keep_waiting-requires-clause-room g c own =
    let die : Planned g.row.N.Denot = c.self.inside.die in
    let ws = c.self.inside.waiting.items in
    let parts : OngoingParts g.row.N.Denot = record { die = die; waiting = map ask_in ws } in
    let runs : die.core.stopped ≡ false = ap (λ (p : OngoingParts g.row.N.Denot). p.die.core.stopped) c.self.view_is ∙ c.requires.runs in
    let early : now die.core.log < die.life =
    subst (λ (p : OngoingParts g.row.N.Denot). now p.die.core.log < p.die.life) (sym c.self.view_is) c.requires.early in
    let none : NoneIsDue (die.first + now die.core.log) parts.waiting =
    subst (λ (p : OngoingParts g.row.N.Denot). NoneIsDue (p.die.first + now p.die.core.log) p.waiting) (sym c.self.view_is) c.requires.none_due in
    let later : die.first + now die.core.log < c.args.at =
    subst (λ (p : OngoingParts g.row.N.Denot). p.die.first + now p.die.core.log < c.args.at) (sym c.self.view_is) c.requires.later in
    let still : c.release_at.new.die ≡ die = c.release_at.ensures.unchanged in
    let i = c.self.invariant.0 in
    let b : HasBegun {N = g.row.N.Denot} i.first i.ongoing parts parts = goes_on_yet i.first i.ongoing parts i.stands runs early none in
    let known = of_the_plan i.first i.ongoing parts b c.args.kind c.args.caller c.args.task c.args.ops.now c.args.at later c.release_at.result
    (c.release_at.ensures.release (counted b.stands.past) b.stands.lived) c.in-Ok.release c.in-Ok.is in
    subst (λ n. length c.args.ops.now ≤ vec_capacity (get_or ws n own).ops) (sym c.task.view_is)
    (omega (arith, known.1, c.self.invariant.1 c.args.task own (omega (arith, known.0, i.stands.one_each, length-map ws ask_in))))

pub invariant_of-self-2 : goal.invariant_of-self-2
invariant_of-self-2 g c =
    let die : Planned g.row.N.Denot = c.self.inside.die in
    let ws = c.self.inside.waiting.items in
    let parts : OngoingParts g.row.N.Denot = record { die = die; waiting = map ask_in ws } in
    let runs : die.core.stopped ≡ false = ap (λ (p : OngoingParts g.row.N.Denot). p.die.core.stopped) c.self.view_is ∙ c.requires.runs in
    let early : now die.core.log < die.life =
    subst (λ (p : OngoingParts g.row.N.Denot). now p.die.core.log < p.die.life) (sym c.self.view_is) c.requires.early in
    let none : NoneIsDue (die.first + now die.core.log) parts.waiting =
    subst (λ (p : OngoingParts g.row.N.Denot). NoneIsDue (p.die.first + now p.die.core.log) p.waiting) (sym c.self.view_is) c.requires.none_due in
    let later : die.first + now die.core.log < c.args.at =
    subst (λ (p : OngoingParts g.row.N.Denot). p.die.first + now p.die.core.log < c.args.at) (sym c.self.view_is) c.requires.later in
    let still : c.release_at.new.die ≡ die = c.release_at.ensures.unchanged in
    let i = c.self.invariant.0 in
    let b : HasBegun {N = g.row.N.Denot} i.first i.ongoing parts parts = goes_on_yet i.first i.ongoing parts i.stands runs early none in
    let t : TaskTerms = terms_of die.terms c.args.task in
    let clock_is : c.first-2.result + c.from-2.result ≡ die.first + now die.core.log = omega (
      arith,
      c.first-2.ensures.first,
      c.from-2.ensures,
      c.now.ensures,
      ap (λ (p : Planned g.row.N.Denot). p.first) still,
      ap (λ (p : Planned g.row.N.Denot). now p.core.log) still,
    ) in
    let end_is : c.first.result + c.from.result ≡ die.first + die.life = omega (
      arith,
      c.first.ensures.first,
      c.from.ensures,
      c.life.ensures,
      ap (λ (p : Planned g.row.N.Denot). p.first) still,
      ap (λ (p : Planned g.row.N.Denot). p.life) still,
    ) in
    let period_is : c.period_of.result ≡ t.period =
    c.period_of.ensures ∙ (ap (λ (x : Terms). (terms_of x c.task.inside.0).period) (c.terms.ensures ∙ ap (λ (p : Planned g.row.N.Denot). p.terms) still)
    ∙ ap (λ n. (terms_of die.terms n).period) c.task.view_is) in
    let last_is : c.last_slot-last.result ≡ last_slot (die.first + now die.core.log) t.period die.first die.life =
    c.last_slot-last.ensures ∙ (λ i. min (clock_is i + period_is i - 1) (end_is i)) in
    let free : get_or (map ask_in ws) c.args.task None ≡ None =
    none_if (get_or (map ask_in ws) c.args.task None)
    (ap (λ n. is_some (get_or (map ask_in ws) n None)) (sym c.task.view_is) ∙ (sym c.is_waiting.ensures ∙ c.if-is_waiting.false)) in
    let left = c.keep_waiting.new.waiting.items in
    let release = c.in-Ok.release in
    let kept : map ask_in left ≡ set (map ask_in ws) c.args.task (Some (record { caller = c.args.caller; ops = c.args.ops.now; until = release })) =
    subst (λ n. map ask_in left ≡ set (map ask_in ws) n (Some (record { caller = c.args.caller; ops = c.args.ops.now; until = release }))) c.task.view_is
    c.keep_waiting.ensures.kept in
    let kept_parts : OngoingParts g.row.N.Denot = record { die = c.release_at.new.die; waiting = map ask_in left } in
    let deadline_is : c.from-3.result ≡ t.deadline =
    c.from-3.ensures ∙ (c.deadline_of.ensures ∙ (ap (λ (x : Terms). (terms_of x c.task.inside.0).deadline)
    (c.terms-2.ensures ∙ ap (λ (p : Planned g.row.N.Denot). p.terms) still) ∙ ap (λ n. (terms_of die.terms n).deadline) c.task.view_is)) in
    let taken = waits_at i.first i.ongoing parts b c.args.kind c.args.caller c.args.task c.args.ops.now c.args.at later c.a_die_goes_on_by_itself.ensures.goes_on_ahead i.long kept_parts still release (release + t.deadline)
    (waits_then i.first i.ongoing parts b c.args.kind c.args.caller c.args.task c.args.ops.now c.args.at later c.release_at.result
    (c.release_at.ensures.release (counted b.stands.past) b.stands.lived) release c.in-Ok.is (omega (arith, c.if-at-last.false, last_is)) free) kept in
    let count : length left ≡ length ws = omega (
      arith,
      length-map left ask_in,
      length-map ws ask_in,
      ap length kept,
      length-set (map ask_in ws) c.args.task (Some (record { caller = c.args.caller; ops = c.args.ops.now; until = release })),
    ) in (
      goes_on_so i.first _ parts kept_parts (record {
        terms = ap (λ (p : Planned g.row.N.Denot). p.terms) still;
        life = ap (λ (p : Planned g.row.N.Denot). p.life) still;
      }) i.long taken.stands,
      have_room die.terms kept_parts.die.terms ws left (ap (λ (p : Planned g.row.N.Denot). p.terms) still) count c.keep_waiting.ensures.room c.self.invariant.1,
      quiet_none kept_parts,
    )

pub returns-clause-ask : goal.returns-clause-ask
returns-clause-ask g c =
    let die : Planned g.row.N.Denot = c.self.inside.die in
    let ws = c.self.inside.waiting.items in
    let parts : OngoingParts g.row.N.Denot = record { die = die; waiting = map ask_in ws } in
    let runs : die.core.stopped ≡ false = ap (λ (p : OngoingParts g.row.N.Denot). p.die.core.stopped) c.self.view_is ∙ c.requires.runs in
    let early : now die.core.log < die.life =
    subst (λ (p : OngoingParts g.row.N.Denot). now p.die.core.log < p.die.life) (sym c.self.view_is) c.requires.early in
    let none : NoneIsDue (die.first + now die.core.log) parts.waiting =
    subst (λ (p : OngoingParts g.row.N.Denot). NoneIsDue (p.die.first + now p.die.core.log) p.waiting) (sym c.self.view_is) c.requires.none_due in
    let later : die.first + now die.core.log < c.args.at =
    subst (λ (p : OngoingParts g.row.N.Denot). p.die.first + now p.die.core.log < c.args.at) (sym c.self.view_is) c.requires.later in
    let still : c.release_at.new.die ≡ die = c.release_at.ensures.unchanged in
    let t : TaskTerms = terms_of die.terms c.args.task in
    let clock_is : c.first-2.result + c.from-2.result ≡ die.first + now die.core.log = omega (
      arith,
      c.first-2.ensures.first,
      c.from-2.ensures,
      c.now.ensures,
      ap (λ (p : Planned g.row.N.Denot). p.first) still,
      ap (λ (p : Planned g.row.N.Denot). now p.core.log) still,
    ) in
    let end_is : c.first.result + c.from.result ≡ die.first + die.life = omega (
      arith,
      c.first.ensures.first,
      c.from.ensures,
      c.life.ensures,
      ap (λ (p : Planned g.row.N.Denot). p.first) still,
      ap (λ (p : Planned g.row.N.Denot). p.life) still,
    ) in
    let period_is : c.period_of.result ≡ t.period =
    c.period_of.ensures ∙ (ap (λ (x : Terms). (terms_of x c.task.inside.0).period) (c.terms.ensures ∙ ap (λ (p : Planned g.row.N.Denot). p.terms) still)
    ∙ ap (λ n. (terms_of die.terms n).period) c.task.view_is) in
    let last_is : c.last_slot-last.result ≡ last_slot (die.first + now die.core.log) t.period die.first die.life =
    c.last_slot-last.ensures ∙ (λ i. min (clock_is i + period_is i - 1) (end_is i)) in
    let free : get_or (map ask_in ws) c.args.task None ≡ None =
    none_if (get_or (map ask_in ws) c.args.task None)
    (ap (λ n. is_some (get_or (map ask_in ws) n None)) (sym c.task.view_is) ∙ (sym c.is_waiting.ensures ∙ c.if-is_waiting.false)) in
    let left = c.keep_waiting.new.waiting.items in
    let release = c.in-Ok.release in
    let kept : map ask_in left ≡ set (map ask_in ws) c.args.task (Some (record { caller = c.args.caller; ops = c.args.ops.now; until = release })) =
    subst (λ n. map ask_in left ≡ set (map ask_in ws) n (Some (record { caller = c.args.caller; ops = c.args.ops.now; until = release }))) c.task.view_is
    c.keep_waiting.ensures.kept in
    let kept_parts : OngoingParts g.row.N.Denot = record { die = c.release_at.new.die; waiting = map ask_in left } in
    let deadline_is : c.from-3.result ≡ t.deadline =
    c.from-3.ensures ∙ (c.deadline_of.ensures ∙ (ap (λ (x : Terms). (terms_of x c.task.inside.0).deadline)
    (c.terms-2.ensures ∙ ap (λ (p : Planned g.row.N.Denot). p.terms) still) ∙ ap (λ n. (terms_of die.terms n).deadline) c.task.view_is)) in
    rw (← c.self.view_is) (λ first d s.
    let b : HasBegun {N = g.row.N.Denot} first d parts parts = goes_on_yet first d parts s runs early none in
    waits_at first d parts b c.args.kind c.args.caller c.args.task c.args.ops.now c.args.at later c.a_die_goes_on_by_itself.ensures.goes_on_ahead c.self.invariant.0.long kept_parts still release (release + c.from-3.result)
    (waits_then first d parts b c.args.kind c.args.caller c.args.task c.args.ops.now c.args.at later c.release_at.result
    (c.release_at.ensures.release (counted b.stands.past) b.stands.lived) release c.in-Ok.is (omega (arith, c.if-at-last.false, last_is)) free
    ∙ ap (λ n. Waits release (release + n)) (sym deadline_is)) kept)
