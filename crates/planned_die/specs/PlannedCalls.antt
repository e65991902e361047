-- What a die that keeps its plan itself answers, and what it leaves.
use Rattle.std.specs.Prelude.{◌≡◌, ◌⊎◌, ℕ, ◌+◌, ◌-◌, ◌<◌, ◌≤◌, Bool, true, false, List, [], ◌∷◌, length, map, take, drop, Option, Some, None}
use Rattle.std.specs.Prelude.{Result, Ok, Err}
use Rattle.slot_types.specs.declared.events.Op.{Op}
use Rattle.slot_types.specs.declared.events.Event.{Event}
use Rattle.slot_types.specs.declared.events.Event.TheVariants as events
use Rattle.slot_types.specs.declared.refusals.Refusal.{Refusal}
use Rattle.slot_types.specs.declared.refusals.Refusal.TheVariants as because
use Rattle.slot_types.specs.declared.replies.Reply.TheVariants as replies
use Rattle.slot_types.specs.declared.replies.SlotReply.{SlotReply}
use Rattle.flash_die.specs.declared.nand.NandCall.{NandCall}
use Rattle.demand_rules.specs.declared.terms.Terms.{Terms}
use Rattle.demand_rules.specs.Demand.{terms_of}
use Rattle.die_log.specs.Model.Log.{now}
use Rattle.die_log.specs.Model.Lives.{Lives, all_slots}
use Rattle.die_log.specs.Model.Answers.{run}
use Rattle.slot_core.specs.Core.{Core}
use Rattle.slot_core.specs.Calls.{IsCall, HasEntered}
use Rattle.slot_core.specs.Renewals.{IsFirstWorn}
use Rattle.planned_log.specs.declared.ask_kinds.AskKind.{AskKind}
use Rattle.planned_log.specs.declared.refusals.AskRefusal.{AskRefusal}
use Rattle.planned_log.specs.declared.refusals.AskRefusal.TheVariants as asks
use Rattle.planned_log.specs.Asks.{asked_job, asked_by, ask_refusal, burst_refusal, refusals_above, first_refusal}
use Rattle.planned_log.specs.AskKinds.{most_of}
use Rattle.planned_log.specs.Bursts.{jobs_of}
use Rattle.planned_log.specs.KeptLogs.{collections_at}
use Rattle.planned_die.specs.declared.bursts.Burst.{Burst}
use Rattle.planned_die.specs.declared.refusals.LifeRefusal.{LifeRefusal}
use Rattle.planned_die.specs.declared.refusals.LifeRefusal.TheVariants as lives
use Rattle.planned_die.specs.Planned.{Planned}

-- Asks

-- why the plan refuses an ask after these earlier lives, if it does
abbrev pub refusal_in : {N : Type 0} → Planned N → Lives → ℕ → List Op → Option AskRefusal
refusal_in die earlier task ops =
    ask_refusal die.core.start.plan die.terms die.life earlier die.core.log task ops

-- the plan doesn't refuse the ask, and the job is the log's next entry, released now and due as the task's terms say
pub record HasAsked {N : Type 0} (caller task : ℕ) (ops : List Op) (earlier : Lives) (number : ℕ) (before after : Planned N) : Type 0 where
  pub ran : before.core.stopped ≡ false
  pub unrefused : refusal_in before earlier task ops ≡ None
  pub entered : HasEntered caller (asked_job before.terms before.core.log task ops) number before.core after.core
  pub stays : after ≡ record before { core = after.core; asked = after.asked }

-- a fault had stopped the die; or this is the first cause in the plan. Memory is none.
abbrev pub RefusesAsk : {N : Type 0} → ℕ → List Op → Lives → AskRefusal → Planned N → Type 0
RefusesAsk task ops earlier refusal die =
    ((die.core.stopped ≡ true) × (refusal ≡ asks.DieStopped))
    ⊎ ((die.core.stopped ≡ false) × (refusal_in die earlier task ops ≡ Some refusal))

-- where it is refused nothing changes
abbrev pub IsAsk : {N : Type 0} → ℕ → ℕ → List Op → Lives → Result ℕ AskRefusal → Planned N → Planned N → Type 0
IsAsk caller task ops earlier (Ok number) before after = HasAsked caller task ops earlier number before after
IsAsk caller task ops earlier (Err refusal) before after = (after ≡ before) × RefusesAsk task ops earlier refusal before

-- As at a later slot

-- why the plan would refuse an ask of either kind in slot `slot` of the life or of a later one, after these earlier lives, if the
-- task asked for nothing else before
abbrev pub refusal_at : {N : Type 0} → AskKind → Planned N → Lives → (slot task : ℕ) → List Op → Option AskRefusal
refusal_at kind die earlier slot task ops =
    first_refusal (refusals_above (most_of kind (terms_of die.terms task)) die.core.start.plan die.terms die.life (all_slots earlier) slot
    (asked_by task (die.core.log ∷ earlier)) task ops)

-- a fault had stopped the die; or this is what the plan says
abbrev pub IsRefusalAt : {N : Type 0} → AskKind → (slot task : ℕ) → List Op → Lives → Option AskRefusal → Planned N → Type 0
IsRefusalAt kind slot task ops earlier refusal die =
    ((die.core.stopped ≡ true) × (refusal ≡ Some asks.DieStopped))
    ⊎ ((die.core.stopped ≡ false) × (refusal ≡ refusal_at kind die earlier slot task ops))

-- Bursts

-- why the plan refuses a burst after these earlier lives, if it does
abbrev pub burst_refusal_in : {N : Type 0} → Planned N → Lives → ℕ → List Op → Option AskRefusal
burst_refusal_in die earlier task ops =
    burst_refusal die.core.start.plan die.terms die.life earlier die.core.log task ops

-- these jobs of a task are asked for one after the other, and have one number after the other, from this one on
abbrev pub HaveAsked : {N : Type 0} → (caller task : ℕ) → List (List Op) → Lives → ℕ → Planned N → Planned N → Type 0
HaveAsked caller task [] earlier number before after = after ≡ before
HaveAsked {N} caller task (ops ∷ jobs) earlier number before after =
    (between : Planned N) × (HasAsked caller task ops earlier number before between × HaveAsked caller task jobs earlier (number + 1) between after)

-- the plan doesn't refuse the burst, and its jobs are asked for, all of them
pub record HasAskedAll {N : Type 0} (caller task : ℕ) (ops : List Op) (earlier : Lives) (burst : Burst) (before after : Planned N) : Type 0 where
  pub ran : before.core.stopped ≡ false
  pub unrefused : burst_refusal_in before earlier task ops ≡ None
  pub asked : HaveAsked caller task (jobs_of ops) earlier burst.first before after
  pub counted : burst.jobs ≡ length (jobs_of ops)

-- a fault had stopped the die; or this is the first cause in the plan. Memory is none.
abbrev pub RefusesBurst : {N : Type 0} → ℕ → List Op → Lives → AskRefusal → Planned N → Type 0
RefusesBurst task ops earlier refusal die =
    ((die.core.stopped ≡ true) × (refusal ≡ asks.DieStopped))
    ⊎ ((die.core.stopped ≡ false) × (burst_refusal_in die earlier task ops ≡ Some refusal))

-- where it is refused nothing changes
abbrev pub IsBurst : {N : Type 0} → ℕ → ℕ → List Op → Lives → Result Burst AskRefusal → Planned N → Planned N → Type 0
IsBurst caller task ops earlier (Ok burst) before after = HasAskedAll caller task ops earlier burst before after
IsBurst caller task ops earlier (Err refusal) before after = (after ≡ before) × RefusesBurst task ops earlier refusal before

-- Slots

-- the calls by which the die enters the collections of the present slot of the tasks from one up to another
abbrev pub own_calls : ℕ → Terms → ℕ → ℕ → ℕ → List (ℕ × Event)
own_calls caller terms from to slot = map (λ event. (caller, event)) (collections_at (drop from (take to terms.tasks)) from slot)

-- the die below after these calls, all collections, which use up what was reserved for them
abbrev pub with_collections : {N : Type 0} → Core N → List (ℕ × Event) → Core N
with_collections core calls = record core {
  reserved = record core.reserved { arrivals = core.reserved.arrivals - length calls };
  log = run core.start core.log calls;
}

-- the die below with these collections
abbrev pub with_own : {N : Type 0} → ℕ → Terms → Core N → ℕ → ℕ → Core N
with_own caller terms core from to = with_collections core (own_calls caller terms from to (now core.log))

-- with all collections of the present slot
abbrev pub with_all_own : {N : Type 0} → ℕ → Planned N → Core N
with_all_own caller die = with_own caller die.terms die.core die.entered (length die.core.start.plan.caps)

-- A slot: the collections of the plan that haven't come yet, and then a slot of the die below.
pub record HasSlotted {N : Type 0} (ends : N → NandCall → Bool → N → Type 0) (failures : N → ℕ) (never : Bool) (caller : ℕ) (reply : SlotReply)
    (before after : Planned N) : Type 0 where
  pub early : now before.core.log < before.life
  pub carried : IsCall ends failures never caller events.Slot (Ok (replies.Slot reply)) (with_all_own caller before) after.core
  pub stays : after ≡ record before { core = after.core; entered = 0 }

-- Why a slot is refused, and what it leaves: a fault had stopped the die, or the life has ended, and nothing changes; or
-- all its collections have come, and the device fails, which stops the die. Memory is no cause.
abbrev pub RefusesSlot : {N : Type 0} → (N → NandCall → Bool → N → Type 0) → (N → ℕ) → Bool → ℕ → Refusal → Planned N → Planned N → Type 0
RefusesSlot ends failures never caller refusal before after =
    ((before.core.stopped ≡ true) × (refusal ≡ because.DieStopped) × (after ≡ before))
    ⊎ ((before.core.stopped ≡ false) × (before.life ≤ now before.core.log) × (refusal ≡ because.ClockEnd) × (after ≡ before))
    ⊎ ((before.core.stopped ≡ false) × (now before.core.log < before.life) × (refusal ≡ because.DeviceFault)
    × IsCall ends failures never caller events.Slot (Err refusal) (with_all_own caller before) after.core
    × (after ≡ record before { core = after.core; entered = length before.core.start.plan.caps }))

abbrev pub IsSlot : {N : Type 0} → (N → NandCall → Bool → N → Type 0) → (N → ℕ) → Bool → ℕ → Result SlotReply Refusal → Planned N → Planned N → Type 0
IsSlot ends failures never caller (Ok reply) before after = HasSlotted ends failures never caller reply before after
IsSlot ends failures never caller (Err refusal) before after = RefusesSlot ends failures never caller refusal before after

-- a slot that fills a reply, as one that hands it back
abbrev pub told : {T : Type 0} → SlotReply → Result T Refusal → Result SlotReply Refusal
told reply (Ok x) = Ok reply
told reply (Err refusal) = Err refusal

-- Lives

-- why the next life doesn't begin: a fault has stopped the die; or the life ends in `left` slots; or it has ended, and
-- the clock of all lives is too far on; or it isn't, and this block is worn out
abbrev pub RefusesLife : {N : Type 0} → Planned N → LifeRefusal → Type 0
RefusesLife die lives.DieStopped = die.core.stopped ≡ true
RefusesLife die (lives.NotEnded left) = (die.core.stopped ≡ false) × (0 < left) × (now die.core.log + left ≡ die.life)
RefusesLife die lives.ClockEnd =
    (die.core.stopped ≡ false) × (now die.core.log ≡ die.life) × (2305843009213693952 < die.first + die.life)
RefusesLife die (lives.WornOut block) =
    (die.core.stopped ≡ false) × (now die.core.log ≡ die.life) × (die.first + die.life ≤ 2305843009213693952)
    × IsFirstWorn die.core.start die.core.log block
