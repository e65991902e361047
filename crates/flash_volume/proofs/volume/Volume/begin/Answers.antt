use Rattle.std.proofs.Common.{◌∙◌, refl, sym, ap}
use Rattle.flash_volume.proofs.Kept.{sound_still}
use Rattle.flash_volume.proofs.Beginning.{Chosen, chosen, not_none, is_victim, few_in_victim, sound_begun}
use Rattle.flash_volume.proofs.volume.Volume.begin.Given.{Over}
use Rattle.flash_volume.proofs.volume.Volume.begin.Goals as goal
use Rattle.flash_volume.proofs.volume.Volume.begin.Goals.{In-None}

-- few pages lie in one of the candidates
candidate : (g : Over) (c : In-None g) → Chosen c.self.inside.ledger c.self.inside.array.placing.places
    c.self.inside.array.candidates.counts
candidate g c =
    chosen c.args.task (c.self.invariant (sym c.failed.ensures ∙ c.if-failed.false)) c.in-None.ensures.few
    (rw (← c.self.view_is) at c.requires.task) (rw (← c.self.view_is) at c.requires.idle)

pub invariant_of-self : goal.invariant_of-self
invariant_of-self g c = λ alive. sound_still c.waive.new.self (c.self.invariant alive) (ap (λ x. x.plan) c.in-Some.ensures.some)
    (ap (λ x. x.reserves) c.in-Some.ensures.some) c.waive.ensures.total

pub take_victim-victim-requires-clause-some : goal.take_victim-victim-requires-clause-some
take_victim-victim-requires-clause-some g c = not_none (candidate g (goal.at.take_victim-victim-requires-clause-some g c).In-None)

pub invariant_of-self-in-None : goal.invariant_of-self-in-None
invariant_of-self-in-None g c = λ again.
    let sound = c.self.invariant (sym c.failed.ensures ∙ c.if-failed.false) in
    let task = rw (← c.self.view_is) at c.requires.task in
    let idle = rw (← c.self.view_is) at c.requires.idle in
    let it = candidate g (goal.at.invariant_of-self-in-None g c).In-None in
    rw (c.task.view_is, c.in-None.ensures.none, c.take_victim-victim.ensures.taken)
    (sound_begun c.args.task c.take_victim-victim.result sound task idle c.take_victim-victim.ensures.least it
    (rw c.take_victim-victim.ensures.taken at (c.take_victim-victim.ensures.sound again)))

pub returns-in-None-clause-began : goal.returns-in-None-clause-began
returns-in-None-clause-began g c =
    let sound = c.self.invariant (sym c.failed.ensures ∙ c.if-failed.false) in
    let it = candidate g (goal.at.returns-in-None-clause-began g c).In-None in
    rw (← c.self.view_is) (
    record {
      short = c.in-None.ensures.short.0 refl;
      victim = rw (← sound.shape_is) (is_victim c.take_victim-victim.result sound c.take_victim-victim.ensures.least);
      few = few_in_victim c.take_victim-victim.result sound c.take_victim-victim.ensures.least it;
      moved = rw (c.task.view_is, c.in-None.ensures.none, c.take_victim-victim.ensures.taken);
    }
    )
