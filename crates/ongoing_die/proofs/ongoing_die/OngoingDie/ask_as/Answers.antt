use Rattle.std.proofs.Common.{◌≡◌, ◌+◌, ◌<◌, ◌≤◌, false, Ok, Err, None, Some, is_some, length, map, get_or, set, vec_capacity, refl, ap, sym, subst, ◌∙◌, arith}
use Rattle.std.proofs.lemmas.List.{length-map, length-set}
use Rattle.demand_rules.specs.declared.terms.Terms.{Terms}
use Rattle.demand_rules.specs.Demand.{terms_of}
use Rattle.die_log.specs.Model.Log.{now}
use Rattle.die_log.specs.Model.Lives.{Lives}
use Rattle.planned_log.specs.declared.refusals.AskRefusal.{AskRefusal}
use Rattle.planned_log.specs.declared.refusals.AskRefusal.TheVariants as because
use Rattle.ongoing_log.specs.Ongoing.{Refused}
use Rattle.planned_die.specs.Planned.{Planned, HasLived}
use Rattle.ongoing_log.specs.PastLives.{counted}
use Rattle.ongoing_die.specs.Standing.{OngoingParts, ask_in, HaveRoom, NoneIsDue, IsQuietBefore, IsOngoingDie}
use Rattle.ongoing_die.specs.OngoingCalls.{HasBegun, HaveOnePlan}
use Rattle.ongoing_die.specs.DieAsks.{IsDieAsk}
use Rattle.ongoing_die.proofs.Asking.{refused_by, refused_so, refused_while, answer_before, begun_still}
use Rattle.ongoing_die.proofs.AskEnds.{entered, waited, none_if, some_if, late_known, late_fits}
use Rattle.ongoing_die.proofs.Entering.{asked_same}
use Rattle.ongoing_die.proofs.NextLives.{goes_on_so, goes_on_yet, plan_then, same_plan}
use Rattle.ongoing_die.proofs.Rooms.{have_room}
use Rattle.ongoing_die.proofs.Quiet.{quiet_same, quiet_kept}
use Rattle.ongoing_die.proofs.ongoing_die.OngoingDie.ask_as.Goals as goal

pub returns-in-Err-clause-ask : goal.returns-in-Err-clause-ask
returns-in-Err-clause-ask g c first d s = (c.in-Err.ensures.stopped, c.in-Err.ensures.unchanged)

pub returns-in-Err-clause-plan : goal.returns-in-Err-clause-plan
returns-in-Err-clause-plan g c = same_plan c.args.self.now c.go_on.new.self c.in-Err.ensures.unchanged

-- while one of the task waits
pub returns-then-is_waiting-clause-ask : goal.returns-then-is_waiting-clause-ask
returns-then-is_waiting-clause-ask g c first d s =
    let die : Planned g.row.N.Denot = c.self.inside.die in
    let ws = c.self.inside.waiting.items in
    let between : OngoingParts g.row.N.Denot = record { die = die; waiting = map ask_in ws } in
    let b : HasBegun {N = g.row.N.Denot} first d c.args.self.now between =
    subst (λ (p : OngoingParts g.row.N.Denot). HasBegun first d c.args.self.now p) (sym c.self.view_is) (c.in-Ok.ensures.ok first d s) in
    let there = some_if (get_or (map ask_in ws) c.args.task None)
    (ap (λ n. is_some (get_or (map ask_in ws) n None)) (sym c.task.view_is) ∙ (sym c.is_waiting.ensures ∙ c.if-is_waiting.true)) in
    refused_while first d c.args.self.now between (record { die = c.why_not.new.die; waiting = map ask_in ws }) b
    (ap (λ (p : Planned g.row.N.Denot). record { die = p; waiting = map ask_in ws }) c.why_not.ensures.unchanged) c.args.kind c.args.task c.args.ops.now
    there.0 there.1 c.why_not.result (c.why_not.ensures.why (counted b.stands.past) b.stands.lived)

-- a job of this life
pub invariant_of-self-in-Ok-ask_die : goal.invariant_of-self-in-Ok-ask_die
invariant_of-self-in-Ok-ask_die g c =
    let die : Planned g.row.N.Denot = c.self.inside.die in
    let ws = c.self.inside.waiting.items in
    let between : OngoingParts g.row.N.Denot = record { die = die; waiting = map ask_in ws } in
    let i = c.self.invariant.0 in
    let runs : die.core.stopped ≡ false = ap (λ (p : OngoingParts g.row.N.Denot). p.die.core.stopped) c.self.view_is ∙ c.in-Ok.ensures.runs in
    let early : now die.core.log < die.life =
    subst (λ (p : OngoingParts g.row.N.Denot). now p.die.core.log < p.die.life) (sym c.self.view_is) c.in-Ok.ensures.early in
    let none : NoneIsDue (die.first + now die.core.log) between.waiting =
    subst (λ (p : OngoingParts g.row.N.Denot). NoneIsDue (p.die.first + now p.die.core.log) p.waiting) (sym c.self.view_is) c.in-Ok.ensures.none_due in
    let b : HasBegun {N = g.row.N.Denot} i.first i.ongoing between between = goes_on_yet i.first i.ongoing between i.stands runs early none in
    let free : get_or (map ask_in ws) c.args.task None ≡ None =
    none_if (get_or (map ask_in ws) c.args.task None)
    (ap (λ n. is_some (get_or (map ask_in ws) n None)) (sym c.task.view_is) ∙ (sym c.is_waiting.ensures ∙ c.if-is_waiting.false)) in
    let after : OngoingParts g.row.N.Denot = record { die = c.ask_die.new.die; waiting = map ask_in ws } in
    let kept = asked_same c.args.kind c.args.caller c.args.task c.args.ops.now (counted i.stands.past) die after.die (Ok c.in-Ok-ask_die.burst) (c.in-Ok-ask_die.ensures.ask (counted i.stands.past) i.stands.lived) in
    let done = entered c.a_die_goes_on_by_itself.ensures.goes_on c.args.kind c.args.caller c.args.task c.args.ops.now die c.ask_die.new.die i.long c.ask_die.ensures.lived (map ask_in ws) c.in-Ok-ask_die.burst (after.die.first + now after.die.core.log)
    (after.die.first + now after.die.core.log + (terms_of die.terms c.args.task).deadline) c.in-Ok-ask_die.ensures.ask refl refl free i.first i.ongoing between b in (
      goes_on_so i.first _ between after (record { terms = kept.terms; life = kept.life }) i.long done.stands,
      have_room die.terms after.die.terms ws ws kept.terms refl (λ task d. refl) c.self.invariant.1,
      quiet_same c.self.inside.quiet between after kept.first kept.life c.self.invariant.2 refl,
    )

pub returns-in-Ok-ask_die-clause-plan : goal.returns-in-Ok-ask_die-clause-plan
returns-in-Ok-ask_die-clause-plan g c =
    let die : Planned g.row.N.Denot = c.self.inside.die in
    let ws = c.self.inside.waiting.items in
    let between : OngoingParts g.row.N.Denot = record { die = die; waiting = map ask_in ws } in
    let i = c.self.invariant.0 in
    let kept = asked_same c.args.kind c.args.caller c.args.task c.args.ops.now (counted i.stands.past) die c.ask_die.new.die (Ok c.in-Ok-ask_die.burst) (c.in-Ok-ask_die.ensures.ask (counted i.stands.past) i.stands.lived) in
    let begun : HaveOnePlan c.args.self.now between =
    subst (λ (p : OngoingParts g.row.N.Denot). HaveOnePlan c.args.self.now p) (sym c.self.view_is) c.in-Ok.ensures.plan in
    plan_then c.args.self.now between (record { die = c.ask_die.new.die; waiting = map ask_in ws }) begun (record { terms = kept.terms; life = kept.life })

pub returns-in-Ok-ask_die-clause-ask : goal.returns-in-Ok-ask_die-clause-ask
returns-in-Ok-ask_die-clause-ask g c first d s =
    let die : Planned g.row.N.Denot = c.self.inside.die in
    let ws = c.self.inside.waiting.items in
    let between : OngoingParts g.row.N.Denot = record { die = die; waiting = map ask_in ws } in
    let b : HasBegun {N = g.row.N.Denot} first d c.args.self.now between =
    subst (λ (p : OngoingParts g.row.N.Denot). HasBegun first d c.args.self.now p) (sym c.self.view_is) (c.in-Ok.ensures.ok first d s) in
    let free : get_or (map ask_in ws) c.args.task None ≡ None =
    none_if (get_or (map ask_in ws) c.args.task None)
    (ap (λ n. is_some (get_or (map ask_in ws) n None)) (sym c.task.view_is) ∙ (sym c.is_waiting.ensures ∙ c.if-is_waiting.false)) in
    let deadline : c.from-deadline.result ≡ (terms_of die.terms c.args.task).deadline = c.from-deadline.ensures
    ∙ (c.deadline_of.ensures ∙ (ap (λ (t : Terms). (terms_of t c.task.inside.0).deadline) c.terms.ensures
    ∙ ap (λ n. (terms_of die.terms n).deadline) c.task.view_is)) in
    entered c.a_die_goes_on_by_itself.ensures.goes_on c.args.kind c.args.caller c.args.task c.args.ops.now die c.ask_die.new.die c.self.invariant.0.long c.ask_die.ensures.lived (map ask_in ws) c.in-Ok-ask_die.burst (c.first.result + c.from.result)
    (c.first.result + c.from.result + c.from-deadline.result) c.in-Ok-ask_die.ensures.ask (omega (arith, c.first.ensures.first, c.from.ensures, c.now.ensures))
    (omega (arith, deadline)) free first d c.args.self.now b

-- one that is late
pub keep_waiting-requires-clause-task : goal.keep_waiting-requires-clause-task
keep_waiting-requires-clause-task g c =
    let die : Planned g.row.N.Denot = c.self.inside.die in
    let ws = c.self.inside.waiting.items in
    let between : OngoingParts g.row.N.Denot = record { die = die; waiting = map ask_in ws } in
    let late : (earlier : Lives) → HasLived c.self.inside.die earlier
    → IsDieAsk c.args.kind c.args.caller c.args.task c.args.ops.now earlier (Err because.LifeEnd) c.self.inside.die c.ask_die.new.die =
    λ earlier h. subst (λ (r : AskRefusal). IsDieAsk c.args.kind c.args.caller c.args.task c.args.ops.now earlier (Err r) c.self.inside.die c.ask_die.new.die)
    c.in-LifeEnd.is (c.in-Err-ask_die.ensures.ask earlier h) in
    let i = c.self.invariant.0 in
    let runs : die.core.stopped ≡ false = ap (λ (p : OngoingParts g.row.N.Denot). p.die.core.stopped) c.self.view_is ∙ c.in-Ok.ensures.runs in
    let known = late_known i.first i.ongoing die c.ask_die.new.die ws i.stands runs c.args.kind c.args.caller c.args.task c.args.ops.now late in
    omega (arith, known, c.task.view_is)

pub keep_waiting-requires-clause-room : goal.keep_waiting-requires-clause-room
keep_waiting-requires-clause-room g c own =
    let die : Planned g.row.N.Denot = c.self.inside.die in
    let ws = c.self.inside.waiting.items in
    let between : OngoingParts g.row.N.Denot = record { die = die; waiting = map ask_in ws } in
    let late : (earlier : Lives) → HasLived c.self.inside.die earlier
    → IsDieAsk c.args.kind c.args.caller c.args.task c.args.ops.now earlier (Err because.LifeEnd) c.self.inside.die c.ask_die.new.die =
    λ earlier h. subst (λ (r : AskRefusal). IsDieAsk c.args.kind c.args.caller c.args.task c.args.ops.now earlier (Err r) c.self.inside.die c.ask_die.new.die)
    c.in-LifeEnd.is (c.in-Err-ask_die.ensures.ask earlier h) in
    let i = c.self.invariant.0 in
    let runs : die.core.stopped ≡ false = ap (λ (p : OngoingParts g.row.N.Denot). p.die.core.stopped) c.self.view_is ∙ c.in-Ok.ensures.runs in
    subst (λ n. length c.args.ops.now ≤ vec_capacity (get_or ws n own).ops) (sym c.task.view_is)
    (late_fits i.first i.ongoing die c.ask_die.new.die ws i.stands runs c.args.kind c.args.caller c.args.task c.args.ops.now late c.self.invariant.1 own)

pub invariant_of-self-in_default : goal.invariant_of-self-in_default
invariant_of-self-in_default g c =
    let i = c.self.invariant.0 in
    subst (λ (p : Planned g.row.N.Denot). IsOngoingDie {N = g.row.N.Denot} (record { die = p; waiting = map ask_in c.self.inside.waiting.items })
    × HaveRoom p.terms c.self.inside.waiting.items
    × IsQuietBefore {N = g.row.N.Denot} c.self.inside.quiet (record { die = p; waiting = map ask_in c.self.inside.waiting.items })) (sym (c.in-Err-ask_die.ensures.ask (counted i.stands.past) i.stands.lived).0) c.self.invariant

pub returns-in_default : goal.returns-in_default
returns-in_default g c = record {
  ask = λ first d s.
      let die : Planned g.row.N.Denot = c.self.inside.die in
      let ws = c.self.inside.waiting.items in
      let between : OngoingParts g.row.N.Denot = record { die = die; waiting = map ask_in ws } in
      let b : HasBegun {N = g.row.N.Denot} first d c.args.self.now between =
      subst (λ (p : OngoingParts g.row.N.Denot). HasBegun first d c.args.self.now p) (sym c.self.view_is) (c.in-Ok.ensures.ok first d s) in
      let h = c.in-Err-ask_die.ensures.ask (counted b.stands.past) b.stands.lived in (
        answer_before first d c.args.self.now between b c.args.kind c.args.task c.args.ops.now (Refused c.in-Err-ask_die.refusal)
            (refused_so first d between b.stands b.settled b.runs c.args.kind c.args.caller c.args.task c.args.ops.now c.in-Err-ask_die.refusal
            (refused_by c.args.kind c.args.caller c.args.task c.args.ops.now (counted b.stands.past) c.in-Err-ask_die.refusal die c.ask_die.new.die b.runs h) c.in_default.not-LifeEnd),
        begun_still first d c.args.self.now between (record { die = c.ask_die.new.die; waiting = map ask_in ws })
            (ap (λ (p : Planned g.row.N.Denot). record { die = p; waiting = map ask_in ws }) h.0) b,
      );
  plan =
      let die : Planned g.row.N.Denot = c.self.inside.die in
      let ws = c.self.inside.waiting.items in
      let between : OngoingParts g.row.N.Denot = record { die = die; waiting = map ask_in ws } in
      let i = c.self.invariant.0 in
      let still = (c.in-Err-ask_die.ensures.ask (counted i.stands.past) i.stands.lived).0 in
      let begun : HaveOnePlan c.args.self.now between =
      subst (λ (p : OngoingParts g.row.N.Denot). HaveOnePlan c.args.self.now p) (sym c.self.view_is) c.in-Ok.ensures.plan in
      plan_then c.args.self.now between (record { die = c.ask_die.new.die; waiting = map ask_in ws }) begun
      (record { terms = ap (λ (p : Planned g.row.N.Denot). p.terms) still; life = ap (λ (p : Planned g.row.N.Denot). p.life) still });
}

-- one that waits
pub invariant_of-self-in-Err-ask_die : goal.invariant_of-self-in-Err-ask_die
invariant_of-self-in-Err-ask_die g c =
    let die : Planned g.row.N.Denot = c.self.inside.die in
    let ws = c.self.inside.waiting.items in
    let between : OngoingParts g.row.N.Denot = record { die = die; waiting = map ask_in ws } in
    let late : (earlier : Lives) → HasLived c.self.inside.die earlier
    → IsDieAsk c.args.kind c.args.caller c.args.task c.args.ops.now earlier (Err because.LifeEnd) c.self.inside.die c.ask_die.new.die =
    λ earlier h. subst (λ (r : AskRefusal). IsDieAsk c.args.kind c.args.caller c.args.task c.args.ops.now earlier (Err r) c.self.inside.die c.ask_die.new.die)
    c.in-LifeEnd.is (c.in-Err-ask_die.ensures.ask earlier h) in
    let i = c.self.invariant.0 in
    let runs : die.core.stopped ≡ false = ap (λ (p : OngoingParts g.row.N.Denot). p.die.core.stopped) c.self.view_is ∙ c.in-Ok.ensures.runs in
    let early : now die.core.log < die.life =
    subst (λ (p : OngoingParts g.row.N.Denot). now p.die.core.log < p.die.life) (sym c.self.view_is) c.in-Ok.ensures.early in
    let none : NoneIsDue (die.first + now die.core.log) between.waiting =
    subst (λ (p : OngoingParts g.row.N.Denot). NoneIsDue (p.die.first + now p.die.core.log) p.waiting) (sym c.self.view_is) c.in-Ok.ensures.none_due in
    let b : HasBegun {N = g.row.N.Denot} i.first i.ongoing between between = goes_on_yet i.first i.ongoing between i.stands runs early none in
    let free : get_or (map ask_in ws) c.args.task None ≡ None =
    none_if (get_or (map ask_in ws) c.args.task None)
    (ap (λ n. is_some (get_or (map ask_in ws) n None)) (sym c.task.view_is) ∙ (sym c.is_waiting.ensures ∙ c.if-is_waiting.false)) in
    let left = c.keep_waiting.new.waiting.items in
    let release = c.first-in-Err-ask_die.result + c.from-in-Err-ask_die.result in
    let after : OngoingParts g.row.N.Denot = record { die = c.ask_die.new.die; waiting = map ask_in left } in
    let same = asked_same c.args.kind c.args.caller c.args.task c.args.ops.now (counted c.self.invariant.0.stands.past) die c.ask_die.new.die (Err because.LifeEnd)
    (late (counted c.self.invariant.0.stands.past) c.self.invariant.0.stands.lived) in
    let kept : map ask_in left ≡ set (map ask_in ws) c.args.task (Some (record { caller = c.args.caller; ops = c.args.ops.now; until = release })) =
    subst (λ n. map ask_in left ≡ set (map ask_in ws) n (Some (record { caller = c.args.caller; ops = c.args.ops.now; until = release }))) c.task.view_is
    c.keep_waiting.ensures.kept in
    let at_end : release ≡ after.die.first + after.die.life =
    omega (arith, c.first-in-Err-ask_die.ensures.first, c.from-in-Err-ask_die.ensures, c.life.ensures) in
    let done = waited c.a_die_goes_on_by_itself.ensures.goes_on c.args.kind c.args.caller c.args.task c.args.ops.now die c.ask_die.new.die i.long c.ask_die.ensures.lived (map ask_in ws) release
    (release + (terms_of die.terms c.args.task).deadline) (map ask_in left) late at_end refl free kept i.first i.ongoing between b in
    let count : length left ≡ length ws = omega (
      arith,
      length-map left ask_in,
      length-map ws ask_in,
      ap length kept,
      length-set (map ask_in ws) c.args.task (Some (record { caller = c.args.caller; ops = c.args.ops.now; until = release })),
    ) in (
      goes_on_so i.first _ between after (record { terms = same.terms; life = same.life }) i.long done.stands,
      have_room die.terms after.die.terms ws left same.terms count c.keep_waiting.ensures.room c.self.invariant.1,
      quiet_kept c.self.inside.quiet between after same.first same.life c.self.invariant.2 c.args.task
          (record { caller = c.args.caller; ops = c.args.ops.now; until = release }) (omega (arith, at_end, same.first, same.life)) kept,
    )

pub returns-in-LifeEnd-clause-plan : goal.returns-in-LifeEnd-clause-plan
returns-in-LifeEnd-clause-plan g c =
    let die : Planned g.row.N.Denot = c.self.inside.die in
    let ws = c.self.inside.waiting.items in
    let between : OngoingParts g.row.N.Denot = record { die = die; waiting = map ask_in ws } in
    let late : (earlier : Lives) → HasLived c.self.inside.die earlier
    → IsDieAsk c.args.kind c.args.caller c.args.task c.args.ops.now earlier (Err because.LifeEnd) c.self.inside.die c.ask_die.new.die =
    λ earlier h. subst (λ (r : AskRefusal). IsDieAsk c.args.kind c.args.caller c.args.task c.args.ops.now earlier (Err r) c.self.inside.die c.ask_die.new.die)
    c.in-LifeEnd.is (c.in-Err-ask_die.ensures.ask earlier h) in
    let left = c.keep_waiting.new.waiting.items in
    let release = c.first-in-Err-ask_die.result + c.from-in-Err-ask_die.result in
    let after : OngoingParts g.row.N.Denot = record { die = c.ask_die.new.die; waiting = map ask_in left } in
    let same = asked_same c.args.kind c.args.caller c.args.task c.args.ops.now (counted c.self.invariant.0.stands.past) die c.ask_die.new.die (Err because.LifeEnd)
    (late (counted c.self.invariant.0.stands.past) c.self.invariant.0.stands.lived) in
    let kept : map ask_in left ≡ set (map ask_in ws) c.args.task (Some (record { caller = c.args.caller; ops = c.args.ops.now; until = release })) =
    subst (λ n. map ask_in left ≡ set (map ask_in ws) n (Some (record { caller = c.args.caller; ops = c.args.ops.now; until = release }))) c.task.view_is
    c.keep_waiting.ensures.kept in
    let begun : HaveOnePlan c.args.self.now between =
    subst (λ (p : OngoingParts g.row.N.Denot). HaveOnePlan c.args.self.now p) (sym c.self.view_is) c.in-Ok.ensures.plan in
    plan_then c.args.self.now between after begun (record { terms = same.terms; life = same.life })

pub returns-in-LifeEnd-clause-ask : goal.returns-in-LifeEnd-clause-ask
returns-in-LifeEnd-clause-ask g c first d s =
    let die : Planned g.row.N.Denot = c.self.inside.die in
    let ws = c.self.inside.waiting.items in
    let between : OngoingParts g.row.N.Denot = record { die = die; waiting = map ask_in ws } in
    let late : (earlier : Lives) → HasLived c.self.inside.die earlier
    → IsDieAsk c.args.kind c.args.caller c.args.task c.args.ops.now earlier (Err because.LifeEnd) c.self.inside.die c.ask_die.new.die =
    λ earlier h. subst (λ (r : AskRefusal). IsDieAsk c.args.kind c.args.caller c.args.task c.args.ops.now earlier (Err r) c.self.inside.die c.ask_die.new.die)
    c.in-LifeEnd.is (c.in-Err-ask_die.ensures.ask earlier h) in
    let b : HasBegun {N = g.row.N.Denot} first d c.args.self.now between =
    subst (λ (p : OngoingParts g.row.N.Denot). HasBegun first d c.args.self.now p) (sym c.self.view_is) (c.in-Ok.ensures.ok first d s) in
    let free : get_or (map ask_in ws) c.args.task None ≡ None =
    none_if (get_or (map ask_in ws) c.args.task None)
    (ap (λ n. is_some (get_or (map ask_in ws) n None)) (sym c.task.view_is) ∙ (sym c.is_waiting.ensures ∙ c.if-is_waiting.false)) in
    let left = c.keep_waiting.new.waiting.items in
    let release = c.first-in-Err-ask_die.result + c.from-in-Err-ask_die.result in
    let after : OngoingParts g.row.N.Denot = record { die = c.ask_die.new.die; waiting = map ask_in left } in
    let same = asked_same c.args.kind c.args.caller c.args.task c.args.ops.now (counted c.self.invariant.0.stands.past) die c.ask_die.new.die (Err because.LifeEnd)
    (late (counted c.self.invariant.0.stands.past) c.self.invariant.0.stands.lived) in
    let kept : map ask_in left ≡ set (map ask_in ws) c.args.task (Some (record { caller = c.args.caller; ops = c.args.ops.now; until = release })) =
    subst (λ n. map ask_in left ≡ set (map ask_in ws) n (Some (record { caller = c.args.caller; ops = c.args.ops.now; until = release }))) c.task.view_is
    c.keep_waiting.ensures.kept in
    let deadline : c.from-deadline.result ≡ (terms_of die.terms c.args.task).deadline = c.from-deadline.ensures
    ∙ (c.deadline_of.ensures ∙ (ap (λ (t : Terms). (terms_of t c.task.inside.0).deadline) c.terms.ensures
    ∙ ap (λ n. (terms_of die.terms n).deadline) c.task.view_is)) in
    waited c.a_die_goes_on_by_itself.ensures.goes_on c.args.kind c.args.caller c.args.task c.args.ops.now die c.ask_die.new.die c.self.invariant.0.long c.ask_die.ensures.lived (map ask_in ws)
    release (release + c.from-deadline.result) (map ask_in left)
    late (omega (arith, c.first-in-Err-ask_die.ensures.first, c.from-in-Err-ask_die.ensures, c.life.ensures)) (omega (arith, deadline)) free kept first d
    c.args.self.now b
