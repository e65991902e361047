-- What a call of a die does to the pass that makes it: `v` is what the pass knew before, `w` what it knows after.
use Rattle.std.specs.Prelude.{◌≡◌, Bool, [], ◌∷◌, ◌++◌, length, Some, Result, Ok}
use Rattle.slot_types.specs.declared.events.Event.{Event}
use Rattle.slot_types.specs.declared.replies.Reply.{Reply}
use Rattle.slot_types.specs.declared.replies.Reply.TheVariants as replies
use Rattle.turn_lock.specs.declared.view.View.{View}
use Rattle.turn_lock.specs.Log.{entry, calls_by}
use Rattle.turn_lock.specs.Passes.{SeesMore}
use Rattle.die_log.specs.Model.Log.{Log}
use Rattle.die_log.specs.Model.Answers.{answer}
use Rattle.die_log.specs.Results.Promises.{KeepsPromises}
use Rattle.die_service.specs.declared.refused.RefusedAt.{RefusedAt}
use Rattle.die_service.specs.Logs.{log_of}
use Rattle.slot_core.specs.Calls.{MayRefuse}
use Rattle.die_service.specs.Replies.{HasExactLog}
use Rattle.die_log.specs.Model.Start.{Start}

-- what a pass knows of its die
abbrev pub DieView : Type 0
DieView = View Event (Result Reply RefusedAt) Start

-- the pass has seen what others did since, and what it has seen is an exact log
abbrev pub HasGrown : DieView → DieView → Type 0
HasGrown = SeesMore HasExactLog

-- an accepted call: what was seen grows by what others did, and then by this call, which a die answers so after that
pub record AddsEntry (v : DieView) (event : Event) (reply : Reply) (w : DieView) : Type 0 where
  pub before : DieView
  pub grown : HasGrown v before
  pub view_is : w ≡ record before { seen = before.seen ++ entry v.number event (Ok reply) ∷ [] }
  pub answered : answer grown.topic (log_of before.seen) event ≡ reply
  pub exact : HasExactLog grown.topic w.seen
  pub own : calls_by v.number w.seen ≡ calls_by v.number v.seen ++ entry v.number event (Ok reply) ∷ []

-- a refused call: what was seen grows by what others did, and a die with all that was then seen may refuse the event so
pub record AddsNone (never_fails : Bool) (v : DieView) (event : Event) (refused : RefusedAt) (w : DieView) : Type 0 where
  pub grown : HasGrown v w
  pub entries : refused.entries ≡ length w.seen
  pub reason : MayRefuse never_fails grown.topic (log_of w.seen) event refused.refusal
  pub own : calls_by v.number w.seen ≡ calls_by v.number v.seen

-- this is true of the start and of the log that the pass has then seen
abbrev pub Sees : DieView → DieView → (Start → Log → Type 0) → Type 0
Sees v w IsTrueOf = (g : HasGrown v w) × IsTrueOf g.topic (log_of w.seen)

-- what the pass has seen is an exact log from its die's start, and keeps all that is promised of a log
pub record SeesPromised (v : DieView) : Type 0 where
  pub start : Start
  pub about_is : v.about ≡ Some start
  pub exact : HasExactLog start v.seen
  pub promised : KeepsPromises start (log_of v.seen)

-- the reply that takes a job or collection
abbrev pub IsTakenReply : Reply → Type 0
IsTakenReply (replies.Taken number) = Unit {0}
IsTakenReply _ = ⊥

-- the reply of a slot
abbrev pub IsSlotReply : Reply → Type 0
IsSlotReply (replies.Slot slot) = Unit {0}
IsSlotReply _ = ⊥
