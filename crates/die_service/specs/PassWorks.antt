-- A die behind its lock, called by a pass: what each call of a worker does to the pass, and what the pass knows then.
use Rattle.std.specs.Prelude.{◌≡◌, ◌≢◌, ℕ, ◌<◌, ◌≤◌, Bool, true, List, [], ◌∷◌, ◌++◌, Option, Some, None, Result, Ok, Err}
use Rattle.slot_types.specs.declared.events.Event.{Event}
use Rattle.slot_types.specs.declared.replies.Reply.{Reply}
use Rattle.turn_lock.specs.Log.{times, StartsWith, calls_by}
use Rattle.turn_lock.specs.Views.{IsLive, IsSamePass}
use Rattle.die_log.specs.Model.Start.{Start}
use Rattle.die_service.specs.declared.ends.DieEnd.{DieEnd}
use Rattle.die_service.specs.declared.refused.RefusedAt.{RefusedAt}
use Rattle.die_service.specs.Drives.{Course, WorkerState, first_state}
use Rattle.die_service.specs.Passes.{DieView, AddsEntry, AddsNone}
use Rattle.die_service.specs.Replies.{HasExactLog}
use Rattle.die_service.specs.Runs.{AskedEvent, asked_event, accepted_by, IsReasoned}
use Rattle.die_service.specs.Stores.{DiePass}
use Rattle.die_service.specs.Work.{WorkCall, Before, Asked, After}

-- an accepted call adds an entry to what the pass has seen, a refused one none
abbrev pub Replied : Bool → DieView → Event → Result Reply RefusedAt → DieView → Type 0
Replied never_fails v event (Ok reply) w = AddsEntry v event reply w
Replied never_fails v event (Err refused) w = AddsNone never_fails v event refused w

-- a hook leaves the pass as it is
abbrev pub MayCall : Bool → DiePass → WorkCall → DiePass → Type 0
MayCall never_fails p (Before die slot) q = q ≡ p
MayCall never_fails p (Asked said) q = IsSamePass p q × Replied never_fails p.view said.event said.reply q.view
MayCall never_fails p (After die slot) q = q ≡ p

-- each pass is still to run with the course in its place
abbrev pub AreWaiting : List DiePass → List Course → List (Option (WorkerState DiePass) × Option (DieEnd × DiePass)) → Type 0
AreWaiting [] [] [] = Unit {0}
AreWaiting (p ∷ ps) (c ∷ cs) (x ∷ xs) = (x ≡ (Some (first_state p c), None)) × AreWaiting ps cs xs
AreWaiting _ _ _ = ⊥

-- each has run: these are the ends, and the passes
abbrev pub HaveEnded : List (Option (WorkerState DiePass) × Option (DieEnd × DiePass)) → List DieEnd → List DiePass → Type 0
HaveEnded [] [] [] = Unit {0}
HaveEnded (x ∷ xs) (end ∷ ends) (q ∷ qs) = (x.1 ≡ Some (end, q)) × HaveEnded xs ends qs
HaveEnded _ _ _ = ⊥

-- the pass is of a die with this start, and has seen an exact log
abbrev pub Knows : DieView → Start → Type 0
Knows v start = (v.about ≡ Some start) × HasExactLog start v.seen

abbrev pub IsFit : DieView → Type 0
IsFit v = (start : Start) × Knows v start

-- a pass of each die, which is live and has seen an exact log
abbrev pub AreReady : List DiePass → Type 0
AreReady [] = Unit {0}
AreReady (p ∷ ps) = IsLive p.view × IsFit p.view × AreReady ps

-- what a pass that knew `v` knows once these were asked
pub record Far (never_fails : Bool) (start : Start) (v : DieView) (saids : List AskedEvent) (w : DieView) : Type 0 where
  pub about_is : v.about ≡ Some start
  pub starts : StartsWith w.seen v.seen
  pub exact : HasExactLog start w.seen
  pub own : calls_by v.number w.seen ≡ calls_by v.number v.seen ++ accepted_by v.number saids
  pub refused : (before after : List AskedEvent) (event : Event) (refused : RefusedAt) → saids ≡ before ++ asked_event event (Err refused) ∷ after
      → IsReasoned never_fails start v before event refused w
  pub joined : v.live ≡ true → (p : ℕ) → 0 < times p v.joined → p ≢ v.number → calls_by p w.seen ≡ calls_by p v.seen
  pub live : w.live ≡ v.live
  pub later : v.made ≤ w.made
  pub sole : v.sole ≡ true → w.sole ≡ true
  pub alone : v.sole ≡ true → w.seen ≡ v.seen ++ accepted_by v.number saids
