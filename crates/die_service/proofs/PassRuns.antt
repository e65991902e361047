-- What a pass knows once a worker has run a die with it.
use Rattle.std.proofs.Common.{◌≡◌, ℕ, ◌+◌, Bool, List, [], ◌∷◌, ◌++◌, Result, Ok, Err, refl, sym, ◌∙◌, subst}
use Rattle.std.specs.List.{FoldsTo}
use Rattle.slot_types.specs.declared.events.Event.{Event}
use Rattle.slot_types.specs.declared.events.Event.TheVariants as events
use Rattle.slot_types.specs.declared.replies.Reply.{Reply}
use Rattle.slot_types.specs.declared.replies.Reply.TheVariants as replies
use Rattle.turn_lock.specs.Views.{IsLive, IsSamePass}
use Rattle.die_service.specs.declared.feeds.Arrival.{Arrival}
use Rattle.die_service.specs.declared.refused.RefusedAt.{RefusedAt}
use Rattle.die_service.specs.Drives.{WorkerState, end_at, first_state, whole_course}
use Rattle.die_service.specs.PassWorks.{Far, IsFit, MayCall, Replied}
use Rattle.die_service.specs.Runs.{AskedEvent, asked_event, HasRun, whole_batch}
use Rattle.die_service.specs.Stores.{DiePass}
use Rattle.die_service.specs.Work.{Asked, calls_for, WorksOff}
use Rattle.die_service.proofs.Driving.{far_accepts, far_refuses, far_joins, far_none}
use Rattle.die_service.proofs.Joining.{live_after}
use Rattle.die_service.proofs.LastPasses.{same_plan}
use Rattle.die_log.specs.Model.Start.{Start}

module _ (never : Bool) where
  -- it is the same pass, and knows what came of these
  abbrev pub HasGone : DiePass → List AskedEvent → DiePass → Type 0
  HasGone p saids q = IsSamePass p q × ((start : Start) × Far never start p.view saids q.view)

  gone_none : (p : DiePass) → IsFit p.view → HasGone p [] p
  gone_none p fit = ((refl, refl, refl, refl), (fit.0, far_none never p.view fit))

  gone_fit : (p q : DiePass) (saids : List AskedEvent) → HasGone p saids q → IsFit q.view
  gone_fit p q saids g = (g.1.0, (g.0.3 ∙ g.1.1.about_is, g.1.1.exact))

  gone_joins : (p q r : DiePass) (xs ys : List AskedEvent) → HasGone p xs q → HasGone q ys r → HasGone p (xs ++ ys) r
  gone_joins p q r xs ys a b =
      let plan_is : b.1.0 ≡ a.1.0 = same_plan b.1.0 a.1.0 (sym b.1.1.about_is ∙ (a.0.3 ∙ a.1.1.about_is)) in (
        (b.0.0 ∙ a.0.0, b.0.1 ∙ a.0.1, b.0.2 ∙ a.0.2, b.0.3 ∙ a.0.3),
        (
          a.1.0,
          far_joins never a.1.0 p.view q.view r.view xs ys a.0.1 a.0.2 a.1.1
              (subst (λ (start : Start). Far never start q.view ys r.view) plan_is b.1.1),
        ),
      )

  -- one call
  gone_one : (p q : DiePass) (e : Event) (r : Result Reply RefusedAt) → IsSamePass p q × Replied never p.view e r q.view
      → HasGone p (asked_event e r ∷ []) q
  gone_one p q e (Ok reply) call = (call.0, (call.1.grown.topic, far_accepts never p.view q.view e reply call.1))
  gone_one p q e (Err refused) call = (call.0, (call.1.grown.topic, far_refuses never p.view q.view e refused call.1))

  module _ (die : ℕ) where
    -- one call, and those after it
    gone_then : (p p₁ q : DiePass) (e : Event) (r : Result Reply RefusedAt) (saids : List AskedEvent) (clock : ℕ) → IsFit p.view
        → IsSamePass p p₁ × Replied never p.view e r p₁.view
        → ((x : DiePass) → IsFit x.view → FoldsTo (MayCall never) x (calls_for die clock saids) q → HasGone x saids q)
        → FoldsTo (MayCall never) p₁ (calls_for die clock saids) q → HasGone p (asked_event e r ∷ saids) q
    gone_then p p₁ q e r saids clock fit call later rest =
        let first = gone_one p p₁ e r call in
        gone_joins p p₁ q (asked_event e r ∷ []) saids first (later p₁ (gone_fit p p₁ (asked_event e r ∷ []) first) rest)

    -- so it is whatever the event, where the calls after it come to what was asked after it
    gone_by : (e : Event) (r : Result Reply RefusedAt) (saids : List AskedEvent) (clock : ℕ) (p q : DiePass) → IsFit p.view
        → ((next : ℕ) (x : DiePass) → IsFit x.view → FoldsTo (MayCall never) x (calls_for die next saids) q → HasGone x saids q)
        → FoldsTo (MayCall never) p (calls_for die clock (asked_event e r ∷ saids)) q → HasGone p (asked_event e r ∷ saids) q
    gone_by events.Slot (Ok (replies.Slot reply)) saids clock p q fit later c =
        let call = subst (λ (x : DiePass). MayCall never x (Asked (asked_event events.Slot (Ok (replies.Slot reply)))) c.2.0) c.1 c.2.1 in
        gone_then p c.2.0 q events.Slot (Ok (replies.Slot reply)) saids (reply.slot + 1) fit call (later (reply.slot + 1))
        (subst (λ (x : DiePass). FoldsTo (MayCall never) x (calls_for die (reply.slot + 1) saids) q) c.2.2.1 c.2.2.2)
    gone_by events.Slot (Ok (replies.Taken number)) saids clock p q fit later c =
        gone_then p c.0 q events.Slot (Ok (replies.Taken number)) saids clock fit c.1 (later clock) c.2
    gone_by events.Slot (Ok (replies.Refused refusal)) saids clock p q fit later c =
        gone_then p c.0 q events.Slot (Ok (replies.Refused refusal)) saids clock fit c.1 (later clock) c.2
    gone_by events.Slot (Err refused) saids clock p q fit later c =
        let call = subst (λ (x : DiePass). MayCall never x (Asked (asked_event events.Slot (Err refused))) c.2.0) c.1 c.2.1 in
        gone_then p c.2.0 q events.Slot (Err refused) saids clock fit call (later clock) c.2.2
    gone_by (events.Submit task release due ops) r saids clock p q fit later c =
        gone_then p c.0 q (events.Submit task release due ops) r saids clock fit c.1 (later clock) c.2
    gone_by (events.Collect task release due) r saids clock p q fit later c =
        gone_then p c.0 q (events.Collect task release due) r saids clock fit c.1 (later clock) c.2

    pub gone_all : (saids : List AskedEvent) (clock : ℕ) (p q : DiePass) → IsFit p.view
        → FoldsTo (MayCall never) p (calls_for die clock saids) q → HasGone p saids q
    gone_all [] clock p q fit calls = subst (λ (x : DiePass). HasGone p [] x) calls (gone_none p fit)
    gone_all (s ∷ saids) clock p q fit calls =
        gone_by s.event s.reply saids clock p q fit (λ next x fits rest. gone_all saids next x q fits rest) calls

  -- a worker ran a die from slot 0 on
  pub has_run : (die slots : ℕ) (p : DiePass) (feed : List Arrival) (t : WorkerState DiePass) → IsLive p.view → IsFit p.view
      → WorksOff (MayCall never) die 0 slots (first_state p (whole_course feed)) t
      → IsSamePass p t.work × HasRun never (whole_batch slots feed) p.view (end_at t) t.work.view
  has_run die slots p feed t live fit off =
      let g = gone_all die off.saids 0 p t.work fit off.asks.made in (
        g.0,
        record {
          saids = off.saids;
          start = g.1.0;
          about_is = g.1.1.about_is;
          ordered = off.ordered;
          starts = g.1.1.starts;
          exact = g.1.1.exact;
          own = g.1.1.own;
          refused = g.1.1.refused;
          joined = g.1.1.joined live.0;
          live = live_after p.view t.work.view live g.1.1.live g.0.1 g.0.2 g.1.1.later;
          later = g.1.1.later;
          sole = g.1.1.sole;
          alone = g.1.1.alone;
          end_is = rw (off.slots_are, off.stop_is, off.asks.refused) refl;
          whole = off.whole;
        },
      )
