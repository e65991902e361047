-- A call of a die has one answer, and leaves one die, unless memory is refused to it.
use Rattle.std.proofs.Common.{◌≡◌, ◌<◌, ◌≤◌, ◌⊎◌, ◌↔◌, ℕ, Bool, true, false, Option, Some, None, Ok, Err, refl, sym, ap, subst, ◌∙◌, inl, inr}
use Rattle.std.specs.Prelude.{Result, IfOk, IfErr, IsSome, OnErr, OnOk}
use Rattle.std.proofs.lemmas.Bool.{true≢false}
use Rattle.slot_types.specs.Arrivals.{IsArrival}
use Rattle.slot_types.specs.declared.events.Event.{Event}
use Rattle.slot_types.specs.declared.events.Event.TheVariants as events
use Rattle.slot_types.specs.declared.limits.TheConstants.{MAX_SLOT}
use Rattle.slot_types.specs.declared.pages.PageData.{PageData}
use Rattle.slot_types.specs.declared.refusals.Refusal.{Refusal}
use Rattle.slot_types.specs.declared.refusals.Refusal.TheVariants.{ClockEnd, DeviceFault, DieStopped, NoMemory}
use Rattle.slot_types.specs.declared.replies.Reply.{Reply}
use Rattle.slot_types.specs.declared.replies.Reply.TheVariants.{Refused, Slot, Taken}
use Rattle.slot_types.specs.declared.replies.SlotReply.{SlotReply}
use Rattle.die_log.specs.Model.Answers.{answer}
use Rattle.die_log.specs.Model.Log.{now}
use Rattle.flash_die.specs.Memory.{Memory}
use Rattle.slot_core.specs.Calls.{HasEntered, RefusesCall}
use Rattle.slot_core.specs.Core.{Core, with_entry, with_slots}
use Rattle.slot_core.specs.Calls.{reserved_after}
use Rattle.stepped_die.specs.declared.calls.Begun.{Begun}
use Rattle.stepped_die.specs.declared.calls.Call.{Call}
use Rattle.stepped_die.specs.declared.calls.Call.TheVariants as calls
use Rattle.stepped_die.specs.declared.refusals.StepRefusal.{StepRefusal}
use Rattle.stepped_die.specs.declared.refusals.StepRefusal.TheVariants as refuses
use Rattle.stepped_die.specs.DeviceCalls.{Changes, IsDone}
use Rattle.stepped_die.specs.Parts.{serial_after}
use Rattle.stepped_die.specs.Steps.{HasBegun, HasEnded, HasFailed, HoldsBack, RefusesArrival, RefusesBeginning, WouldSpend}
use Rattle.stepped_die.specs.Stepped.{Stepped, mirror_of}
use Rattle.stepped_die.proofs.Ending.{Mirror}

-- one answer and one die; or memory was refused to one of them
abbrev Agree : {T : Type 0} → Result T StepRefusal → Result T StepRefusal → Stepped → Stepped → Type 0
Agree one other left right =
    ((one ≡ other) × (left ≡ right)) ⊎ (one ≡ Err (refuses.Die NoMemory)) ⊎ (other ≡ Err (refuses.Die NoMemory))

turned : {T : Type 0} (one other : Result T StepRefusal) (left right : Stepped) → Agree other one right left → Agree one other left right
turned one other left right (inl same) = inl (sym same.0, sym same.1)
turned one other left right (inr (inl memory)) = inr (inr memory)
turned one other left right (inr (inr memory)) = inr (inl memory)

-- two refusals that leave the die
refused_alike : {T : Type 0} (d : StepRefusal) (other : Result T StepRefusal) (before left right : Stepped) → left ≡ before
    → OnErr other (right ≡ before) → other ≡ Err d → (Err d ≡ other) × (left ≡ right)
refused_alike d (Ok x) before left right a b is = absurd cc
refused_alike d (Err e) before left right a b is = (sym is, a ∙ sym b)

pub same_die : (left right : Stepped) → left.core ≡ right.core → left.begun ≡ right.begun → left.part ≡ right.part → left ≡ right
same_die left right core begun part = λ i. record { core = core i; begun = begun i; part = part i }

-- Arrivals

-- what `submit` and `collect` say
pub record Arrives (caller release : ℕ) (event : Event) (result : Result ℕ StepRefusal) (before after : Stepped) : Type 0 where
  pub stopped : (result ≡ Err (refuses.Die DieStopped)) ↔ (before.core.stopped ≡ true)
  pub held : before.core.stopped ≡ false → ((result ≡ Err refuses.Begun) ↔ HoldsBack release before.begun)
  pub taken : IfOk result (λ number. HasEntered caller event number before.core after.core)
  pub begun : after.begun ≡ before.begun
  pub part : after.part ≡ before.part
  pub cause : IfErr result (RefusesArrival release event before after)
  pub refused : OnErr result (after ≡ before)

-- a die refuses an arrival as memory ran out, as a fault had stopped it, or as its log does
refused_by : (event : Event) (r : Refusal) (before after : Core Mirror) → IsArrival event → RefusesCall event r before after
    → (r ≡ NoMemory) ⊎ ((before.stopped ≡ true) × (r ≡ DieStopped))
    ⊎ ((before.stopped ≡ false) × (answer before.start before.log event ≡ Refused r))
refused_by event r before after arrives (inl own) = inr (inr (own.ran, own.answered))
refused_by event r before after arrives (inr (inl memory)) = inl memory.refusal_is
refused_by event r before after arrives (inr (inr (inl fault))) = absurd (subst IsArrival fault.slot arrives)
refused_by event r before after arrives (inr (inr (inr stopped))) = inr (inl (stopped.was_stopped, stopped.refusal_is))

one_number : (reply : Reply) (m n : ℕ) → reply ≡ Taken m → reply ≡ Taken n → m ≡ n
one_number reply m n a b = cc

one_refusal : (reply : Reply) (r s : Refusal) → reply ≡ Refused r → reply ≡ Refused s → r ≡ s
one_refusal reply r s a b = cc

not_both : (reply : Reply) (r : Refusal) (n : ℕ) → reply ≡ Refused r → reply ≡ Taken n → ⊥
not_both reply r n a b = absurd cc

module _ (caller release : ℕ) (event : Event) (before : Stepped) (arrives : IsArrival event) where
  abbrev Says : Result ℕ StepRefusal → Stepped → Type 0
  Says result after = Arrives caller release event result before after

  -- the log refuses it
  by_log : (r : Refusal) (other : Result ℕ StepRefusal) (left right : Stepped) → before.core.stopped ≡ false
      → answer before.core.start before.core.log event ≡ Refused r → Says (Err (refuses.Die r)) left → Says other right
      → Agree (Err (refuses.Die r)) other left right
  by_log r (Ok n) left right runs is a b = absurd (not_both (answer before.core.start before.core.log event) r n is b.taken.answered)
  by_log r (Err refuses.Begun) left right runs is a b = let e = (a.held runs).1 ((b.held runs).0 refl) in absurd cc
  by_log r (Err refuses.NotBegun) left right runs is a b = absurd b.cause
  by_log r (Err refuses.CheckpointStands) left right runs is a b = absurd b.cause
  by_log r (Err (refuses.Die s)) left right runs is a b = by (refused_by event s before.core right.core arrives b.cause)
    where
      by : (s ≡ NoMemory) ⊎ ((before.core.stopped ≡ true) × (s ≡ DieStopped))
          ⊎ ((before.core.stopped ≡ false) × (answer before.core.start before.core.log event ≡ Refused s))
          → Agree {T = ℕ} (Err (refuses.Die r)) (Err (refuses.Die s)) left right
      by (inl memory) = inr (inr (ap (λ (x : Refusal). Err (refuses.Die x)) memory))
      by (inr (inl stops)) = absurd (true≢false (sym stops.0 ∙ runs))
      by (inr (inr own)) = inl (
        ap (λ (x : Refusal). Err (refuses.Die x)) (one_refusal (answer before.core.start before.core.log event) r s is own.1),
        a.refused ∙ sym b.refused,
      )

  one_refused : (d : StepRefusal) (other : Result ℕ StepRefusal) (left right : Stepped) → Says (Err d) left → Says other right
      → Agree (Err d) other left right
  one_refused refuses.Begun other left right a b =
      inl (refused_alike refuses.Begun other before left right a.refused b.refused ((b.held a.cause.0).1 a.cause.1))
  one_refused refuses.NotBegun other left right a b = absurd a.cause
  one_refused refuses.CheckpointStands other left right a b = absurd a.cause
  one_refused (refuses.Die r) other left right a b = by (refused_by event r before.core left.core arrives a.cause)
    where
      by : (r ≡ NoMemory) ⊎ ((before.core.stopped ≡ true) × (r ≡ DieStopped))
          ⊎ ((before.core.stopped ≡ false) × (answer before.core.start before.core.log event ≡ Refused r))
          → Agree {T = ℕ} (Err (refuses.Die r)) other left right
      by (inl memory) = inr (inl (ap (λ (x : Refusal). Err (refuses.Die x)) memory))
      by (inr (inl stops)) = inl (refused_alike (refuses.Die r) other before left right a.refused b.refused
          (b.stopped.1 stops.0 ∙ sym (ap (λ (x : Refusal). Err (refuses.Die x)) stops.1)))
      by (inr (inr own)) = by_log r other left right own.0 own.1 a b

  pub one_arrival : (one other : Result ℕ StepRefusal) (left right : Stepped) → Says one left → Says other right → Agree one other left right
  one_arrival (Err d) other left right a b = one_refused d other left right a b
  one_arrival (Ok m) (Err d) left right a b = turned (Ok m) (Err d) left right (one_refused d (Ok m) right left b a)
  one_arrival (Ok m) (Ok n) left right a b =
      let same : m ≡ n = one_number (answer before.core.start before.core.log event) m n a.taken.answered b.taken.answered in
      inl (
        ap Ok same,
        same_die left right
            (a.taken.logged
            ∙ (ap (λ (number : ℕ). record before.core {
              reserved = reserved_after event before.core.reserved;
              log = with_entry caller event (Taken number) before.core.log;
            }) same ∙ sym b.taken.logged))
            (a.begun ∙ sym b.begun) (a.part ∙ sym b.part),
      )

-- The beginning of a slot

-- what `begin` says
pub record Begins (caller : ℕ) (result : Result Begun StepRefusal) (before after : Stepped) : Type 0 where
  pub stopped : (result ≡ Err (refuses.Die DieStopped)) ↔ (before.core.stopped ≡ true)
  pub twice : before.core.stopped ≡ false → ((result ≡ Err refuses.Begun) ↔ IsSome before.begun)
  pub end : before.core.stopped ≡ false → before.begun ≡ None
      → ((result ≡ Err (refuses.Die ClockEnd)) ↔ (MAX_SLOT ≤ now before.core.log))
  pub stands : before.core.stopped ≡ false → before.begun ≡ None → now before.core.log < MAX_SLOT
      → ((result ≡ Err refuses.CheckpointStands) ↔ WouldSpend before)
  pub begun : IfOk result (λ begun. HasBegun caller begun before after)
  pub refused : OnErr result (after ≡ before)
  pub cause : IfErr result (RefusesBeginning before)

-- a slot isn't begun for one of five causes
refuses_beginning : (before : Stepped) (d : StepRefusal) → RefusesBeginning before d
    → ((d ≡ refuses.Die DieStopped) × (before.core.stopped ≡ true))
    ⊎ ((d ≡ refuses.Begun) × (before.core.stopped ≡ false) × IsSome before.begun)
    ⊎ ((d ≡ refuses.Die ClockEnd) × (before.core.stopped ≡ false) × (MAX_SLOT ≤ now before.core.log))
    ⊎ ((d ≡ refuses.CheckpointStands) × (before.core.stopped ≡ false) × (before.begun ≡ None) × (now before.core.log < MAX_SLOT) × WouldSpend before)
    ⊎ ((d ≡ refuses.Die NoMemory) × (before.core.reserved.slots ≡ 0))
refuses_beginning before (refuses.Die DieStopped) h = inl (refl, h)
refuses_beginning before refuses.Begun h = inr (inl (refl, h.0, h.1))
refuses_beginning before (refuses.Die ClockEnd) h = inr (inr (inl (refl, h.0, h.1)))
refuses_beginning before refuses.CheckpointStands h = inr (inr (inr (inl (refl, h.0, h.1, h.2, h.3))))
refuses_beginning before (refuses.Die NoMemory) h = inr (inr (inr (inr (refl, h.1))))
refuses_beginning before _ h = absurd h

none_or_some : {A : Type 0} (o : Option A) → (o ≡ None) ⊎ IsSome o
none_or_some None = inl refl
none_or_some (Some a) = inr refl

same_begun : (b c : Begun) → b.caller ≡ c.caller → b.slot ≡ c.slot → b.call ≡ c.call → b.runs ≡ c.runs → b ≡ c
same_begun b c caller slot call runs = λ i. record { caller = caller i; slot = slot i; call = call i; runs = runs i }

module _ (caller : ℕ) (before : Stepped) where
  abbrev SaysBegun : Result Begun StepRefusal → Stepped → Type 0
  SaysBegun result after = Begins caller result before after

  -- one answer and one die; or memory was refused to one of them, and none is reserved
  abbrev AgreeBegun : Result Begun StepRefusal → Result Begun StepRefusal → Stepped → Stepped → Type 0
  AgreeBegun one other left right =
      ((one ≡ other) × (left ≡ right))
      ⊎ ((before.core.reserved.slots ≡ 0) × ((one ≡ Err (refuses.Die NoMemory)) ⊎ (other ≡ Err (refuses.Die NoMemory))))

  turned_begun : (one other : Result Begun StepRefusal) (left right : Stepped) → AgreeBegun other one right left → AgreeBegun one other left right
  turned_begun one other left right (inl same) = inl (sym same.0, sym same.1)
  turned_begun one other left right (inr (none, inl memory)) = inr (none, inr memory)
  turned_begun one other left right (inr (none, inr memory)) = inr (none, inl memory)

  -- where the present slot is the last, no slot is begun, unless one has begun
  at_end : (one other : Result Begun StepRefusal) (left right : Stepped) → before.core.stopped ≡ false → MAX_SLOT ≤ now before.core.log
      → SaysBegun one left → SaysBegun other right → one ≡ Err (refuses.Die ClockEnd) → other ≡ Err (refuses.Die ClockEnd)
  at_end one other left right runs last a b is = by (none_or_some before.begun)
    where
      by : (before.begun ≡ None) ⊎ IsSome before.begun → other ≡ Err (refuses.Die ClockEnd)
      by (inl none) = (b.end runs none).1 last
      by (inr some) = let e = (a.twice runs).1 some in absurd cc

  one_unbegun : (d : StepRefusal) (other : Result Begun StepRefusal) (left right : Stepped) → SaysBegun (Err d) left → SaysBegun other right
      → AgreeBegun (Err d) other left right
  one_unbegun d other left right a b = by (refuses_beginning before d a.cause)
    where
      alike : other ≡ Err d → AgreeBegun (Err d) other left right
      alike is = inl (refused_alike d other before left right a.refused b.refused is)

      by : ((d ≡ refuses.Die DieStopped) × (before.core.stopped ≡ true))
          ⊎ ((d ≡ refuses.Begun) × (before.core.stopped ≡ false) × IsSome before.begun)
          ⊎ ((d ≡ refuses.Die ClockEnd) × (before.core.stopped ≡ false) × (MAX_SLOT ≤ now before.core.log))
          ⊎ ((d ≡ refuses.CheckpointStands) × (before.core.stopped ≡ false) × (before.begun ≡ None) × (now before.core.log < MAX_SLOT)
          × WouldSpend before)
          ⊎ ((d ≡ refuses.Die NoMemory) × (before.core.reserved.slots ≡ 0)) → AgreeBegun (Err d) other left right
      by (inl (is, stops)) = alike (b.stopped.1 stops ∙ sym (ap Err is))
      by (inr (inl (is, runs, some))) = alike ((b.twice runs).1 some ∙ sym (ap Err is))
      by (inr (inr (inl (is, runs, last)))) = alike (at_end (Err d) other left right runs last a b (ap Err is) ∙ sym (ap Err is))
      by (inr (inr (inr (inl (is, runs, none, few, spends))))) = alike ((b.stands runs none few).1 spends ∙ sym (ap Err is))
      by (inr (inr (inr (inr (is, none))))) = inr (none, inl (ap Err is))

  pub one_beginning : (one other : Result Begun StepRefusal) (left right : Stepped) → SaysBegun one left → SaysBegun other right
      → AgreeBegun one other left right
  one_beginning (Err d) other left right a b = one_unbegun d other left right a b
  one_beginning (Ok m) (Err d) left right a b = turned_begun (Ok m) (Err d) left right (one_unbegun d (Ok m) right left b a)
  one_beginning (Ok m) (Ok n) left right a b =
      let x = a.begun in
      let y = b.begun in
      let same : m ≡ n = same_begun m n (x.caller_is ∙ sym y.caller_is) (x.slot_is ∙ sym y.slot_is) (x.said ∙ sym y.said)
      (x.runs_next ∙ sym y.runs_next) in
      inl (
        ap Ok same,
        x.begins ∙ (ap (λ (begun : Begun). record before { core = with_slots 1 before.core; begun = Some begun }) same ∙ sym y.begins),
      )

-- The end of a slot

-- what `end` says
pub record Ends (ok : Bool) (bytes : PageData) (result : Result (Unit {0}) StepRefusal) (reply : SlotReply) (before after : Stepped) : Type 0 where
  pub stopped : (result ≡ Err (refuses.Die DieStopped)) ↔ (before.core.stopped ≡ true)
  pub idle : before.core.stopped ≡ false → ((result ≡ Err refuses.NotBegun) ↔ (before.begun ≡ None))
  pub ended : OnOk result (HasEnded ok bytes reply before after)
  pub failed : result ≡ Err (refuses.Die DeviceFault) → HasFailed ok bytes before after
  pub refused : IfErr result (λ refusal. (refusal ≡ refuses.Die DeviceFault)
      ⊎ (((refusal ≡ refuses.Die DieStopped) ⊎ (refusal ≡ refuses.NotBegun)) × (after ≡ before)))

pub same_core : (left right : Core Mirror) → left.start ≡ right.start → left.device ≡ right.device → left.stopped ≡ right.stopped
    → left.reserved ≡ right.reserved → left.lasting ≡ right.lasting → left.log ≡ right.log → left ≡ right
same_core left right start device stopped reserved lasting log =
    λ i. record { start = start i; device = device i; stopped = stopped i; reserved = reserved i; lasting = lasting i; log = log i }

one_slot : (o : Option Begun) (b c : Begun) → o ≡ Some b → o ≡ Some c → b ≡ c
one_slot o b c is also = cc

one_reply : (o : Reply) (s t : SlotReply) → o ≡ Slot s → o ≡ Slot t → s ≡ t
one_reply o s t is also = cc

-- a call changes a mirror in one way
one_change : (call : Option Call) (before left right : Memory) → Changes before call left → Changes before call right → left ≡ right
one_change None before left right a b = a ∙ sym b
one_change (Some (calls.Read place bytes)) before left right a b = a.0 ∙ sym b.0
one_change (Some (calls.Program place bytes erases)) before left right a b = a.0 ∙ sym b.0
one_change (Some (calls.Erase block last)) before left right a b = a.0 ∙ sym b.0
one_change (Some (calls.Trim page)) before left right a b = a ∙ sym b

same_device : (left right : Mirror) → left.memory ≡ right.memory → left ≡ right
same_device left right memory = λ i. record { memory = memory i }

module _ (ok : Bool) (bytes : PageData) (before : Stepped) where
  -- two slots that were carried out
  both_ended : (here there : SlotReply) (left right : Stepped) → HasEnded ok bytes here before left → HasEnded ok bytes there before right
      → (left ≡ right) × (here ≡ there)
  both_ended here there left right a b =
      let slot : a.begun ≡ b.begun = one_slot before.begun a.begun b.begun a.held b.held in
      let reply : here ≡ there = one_reply (answer before.core.start before.core.log events.Slot) here there a.carried.answered b.carried.answered in
      let memory : mirror_of left.core ≡ mirror_of right.core = one_change b.begun.call (mirror_of before.core) (mirror_of left.core)
      (mirror_of right.core)
      (subst (λ (begun : Begun). Changes (mirror_of before.core) begun.call (mirror_of left.core)) slot a.called) b.called in (
        same_die left right
            (same_core left.core right.core (a.start_stays ∙ sym b.start_stays)
            (same_device left.core.device right.core.device memory)
            (a.carried.runs ∙ sym b.carried.runs) (a.carried.used ∙ sym b.carried.used) (a.lasting_stays ∙ sym b.lasting_stays)
            (a.carried.logged ∙ (λ i. with_entry (slot i).caller events.Slot (Slot (reply i)) before.core.log) ∙ sym b.carried.logged))
            (a.idle ∙ sym b.idle)
            (a.serial ∙ (λ i. record before.part { serial = serial_after (slot i).call before.part.serial }) ∙ sym b.serial),
        reply,
      )

  both_failed : (left right : Stepped) → HasFailed ok bytes before left → HasFailed ok bytes before right → left ≡ right
  both_failed left right a b = a.stops ∙ sym b.stops

  not_both_ways : (reply : SlotReply) (left right : Stepped) → HasEnded ok bytes reply before left → HasFailed ok bytes before right → ⊥
  not_both_ways reply left right a b = b.undone (subst (λ (begun : Begun). IsDone begun.call ok bytes)
      (one_slot before.begun a.begun b.begun a.held b.held) a.done)

  abbrev SaysEnded : Result (Unit {0}) StepRefusal → SlotReply → Stepped → Type 0
  SaysEnded result reply after = Ends ok bytes result reply before after

  -- the two refusals that change nothing
  abbrev IsUntouched : StepRefusal → Type 0
  IsUntouched d = (d ≡ refuses.Die DieStopped) ⊎ (d ≡ refuses.NotBegun)

  untouched_alike : (d : StepRefusal) (other : Result (Unit {0}) StepRefusal) (here there : SlotReply) (left right : Stepped) → IsUntouched d
      → SaysEnded (Err d) here left → SaysEnded other there right → other ≡ Err d
  untouched_alike d other here there left right (inl stops) a b = b.stopped.1 (a.stopped.0 (ap Err stops)) ∙ sym (ap Err stops)
  untouched_alike d other here there left right (inr none) a b = by before.core.stopped refl
    where
      by : (stopped : Bool) → before.core.stopped ≡ stopped → other ≡ Err d
      by true stops = let e = a.stopped.1 stops in absurd cc
      by false runs = (b.idle runs).1 ((a.idle runs).0 (ap Err none)) ∙ sym (ap Err none)

  untouched_stays : (d : StepRefusal) (other : Result (Unit {0}) StepRefusal) (there : SlotReply) (right : Stepped) → IsUntouched d
      → SaysEnded other there right → other ≡ Err d → right ≡ before
  untouched_stays d (Ok x) there right kind b is = absurd cc
  untouched_stays d (Err e) there right kind b is = by b.refused kind
    where
      by : (e ≡ refuses.Die DeviceFault) ⊎ (IsUntouched e × (right ≡ before)) → IsUntouched d → right ≡ before
      by (inl fault) (inl stops) = absurd cc
      by (inl fault) (inr none) = absurd cc
      by (inr stays) k = stays.1

  -- a slot that was carried out isn't refused
  not_refused_too : (x : Unit {0}) (d : StepRefusal) (here there : SlotReply) (left right : Stepped) → SaysEnded (Ok x) here left
      → SaysEnded (Err d) there right → ⊥
  not_refused_too x d here there left right a b = by b.refused
    where
      by : (d ≡ refuses.Die DeviceFault) ⊎ (IsUntouched d × (right ≡ before)) → ⊥
      by (inl fault) = not_both_ways here left right a.ended (b.failed (ap Err fault))
      by (inr stays) = let e = untouched_alike d (Ok x) there here right left stays.0 b a in absurd cc

  both_refused : (d e : StepRefusal) (here there : SlotReply) (left right : Stepped) → SaysEnded (Err d) here left → SaysEnded (Err e) there right
      → (d ≡ e) × (left ≡ right)
  both_refused d e here there left right a b = by a.refused b.refused
    where
      same : (x y : StepRefusal) → ◌≡◌ {A = Result (Unit {0}) StepRefusal} (Err x) (Err y) → x ≡ y
      same x y is = cc

      by : (d ≡ refuses.Die DeviceFault) ⊎ (IsUntouched d × (left ≡ before)) → (e ≡ refuses.Die DeviceFault) ⊎ (IsUntouched e × (right ≡ before))
          → (d ≡ e) × (left ≡ right)
      by (inl fault) (inl also) = (fault ∙ sym also, both_failed left right (a.failed (ap Err fault)) (b.failed (ap Err also)))
      by (inr stays) other =
          let is : ◌≡◌ {A = Result (Unit {0}) StepRefusal} (Err e) (Err d) = untouched_alike d (Err e) here there left right stays.0 a b in
          (sym (same e d is), stays.1 ∙ sym (untouched_stays d (Err e) there right stays.0 b is))
      by (inl fault) (inr stays) =
          let is : ◌≡◌ {A = Result (Unit {0}) StepRefusal} (Err d) (Err e) = untouched_alike e (Err d) there here right left stays.0 b a in
          (same d e is, untouched_stays e (Err d) here left stays.0 a is ∙ sym stays.1)

  pub one_ending : (one other : Result (Unit {0}) StepRefusal) (here there : SlotReply) (left right : Stepped) → SaysEnded one here left
      → SaysEnded other there right → (one ≡ other) × (left ≡ right) × OnOk one (here ≡ there)
  one_ending (Ok x) (Ok y) here there left right a b =
      let same = both_ended here there left right a.ended b.ended in (refl, same.0, same.1)
  one_ending (Ok x) (Err d) here there left right a b = absurd (not_refused_too x d here there left right a b)
  one_ending (Err d) (Ok y) here there left right a b = absurd (not_refused_too y d there here right left b a)
  one_ending (Err d) (Err e) here there left right a b =
      let same = both_refused d e here there left right a b in (ap Err same.0, same.1, tt)
