-- The jobs of a log are among those that came, in their order.
use Rattle.std.proofs.Common.{◌≡◌, ◌⊎◌, ℕ, List, [], ◌∷◌, ◌++◌, refl, sym, ap}
use Rattle.std.proofs.Common.{subst, ◌∙◌, inl, inr}
use Rattle.std.proofs.lemmas.List.{length_push, append_assoc, append-nil}
use Rattle.slot_types.specs.Arrivals.{IsArrival}
use Rattle.slot_types.specs.declared.events.Event.{Event}
use Rattle.slot_types.specs.declared.events.Event.TheVariants as events
use Rattle.slot_types.specs.declared.replies.Reply.{Reply}
use Rattle.slot_types.specs.declared.replies.Reply.TheVariants as replies
use Rattle.plan_rules.specs.Keeping.{TaskArrival, arrivals}
use Rattle.die_log.specs.Model.Log.{Log, Job, with_taken, jobs, carried_slots, now}
use Rattle.die_log.specs.Model.Answers.{reply_if_accepted, IsAccepted, IsExact, choice, slot_reply}
use Rattle.die_log.specs.Results.InTime.{Adds, AreEntered, events_of_log}
use Rattle.die_log.proofs.Legality.{entry, taken_answer}
use Rattle.die_log.specs.Model.Start.{Start}

-- the arrival is this job
pub record IsOf (a : TaskArrival) (j : Job) : Type 0 where
  pub collects : j.collects ≡ a.collects
  pub task : j.task ≡ a.task
  pub release : j.release ≡ a.release
  pub due : j.due ≡ a.due
  pub ops : j.ops ≡ a.ops

-- the jobs are some of the arrivals, in their order
abbrev pub IsAmong : List TaskArrival → List Job → Type 0
IsAmong came [] = Unit {0}
IsAmong [] (j ∷ js) = ⊥
IsAmong (a ∷ came) (j ∷ js) = (IsOf a j × IsAmong came js) ⊎ IsAmong came (j ∷ js)

refused : (a : TaskArrival) (came : List TaskArrival) (js : List Job) → IsAmong came js → IsAmong (a ∷ came) js
refused a came [] h = tt
refused a came (j ∷ js) h = inr h

-- Along the events

entry_answer : (start : Start) (caller : ℕ) (event : Event) (reply : Reply) (past : Log) → IsExact start (entry caller event reply ∷ past)
    → reply ≡ reply_if_accepted start past event
entry_answer start caller event reply past h = h.1 ∙ (taken_answer start past event (subst IsAccepted h.1 h.2)).1

entered_next : (start : Start) (event : Event) (past next : Log) → Adds event past next ⊎ (IsArrival event × (next ≡ past))
    → IsExact start next → IsExact start past
entered_next start event past next (inl adds) h = (subst (IsExact start) adds.2 h).0
entered_next start event past next (inr stays) h = subst (IsExact start) stays.1 h

-- what an exact log was before some events is exact
entered_exact : (start : Start) (all : List Event) (past log : Log) → AreEntered all past log → IsExact start log → IsExact start past
entered_exact start [] past log h exact = subst (IsExact start) h exact
entered_exact start (event ∷ rest) past log h exact = entered_next start event past h.0 h.1 (entered_exact start rest h.0 log h.2 exact)

-- new jobs, among those that came
abbrev pub IsLonger : Log → List TaskArrival → Log → Type 0
IsLonger past came log = (new : List Job) × (jobs log ≡ jobs past ++ new) × IsAmong came new

with_one : (past log : Log) (came : List TaskArrival) (a : TaskArrival) (j : Job) → IsOf a j → (new : List Job) → jobs log ≡ (jobs past ++ j ∷ [])
    ++ new → IsAmong came new → IsLonger past (a ∷ came) log
with_one past log came a j of new is among = (j ∷ new, is ∙ append_assoc (jobs past) (j ∷ []) new, inl (of, among))

entered_by : (start : Start) (caller : ℕ) (event : Event) (rest : List Event) (past log : Log)
    → IsLonger (entry caller event (reply_if_accepted start past event) ∷ past)
    (arrivals (now (entry caller event (reply_if_accepted start past event) ∷ past)) rest) log
    → IsLonger past (arrivals (now past) (event ∷ rest)) log
entered_by start caller (events.Submit task release due ops) rest past log h =
    with_one past log (arrivals (now past) rest) _ _ (record { collects = refl; task = refl; release = refl; due = refl; ops = refl }) h.0
    h.1 h.2
entered_by start caller (events.Collect task release due) rest past log h =
    with_one past log (arrivals (now past) rest) _ _ (record { collects = refl; task = refl; release = refl; due = refl; ops = refl }) h.0
    h.1 h.2
entered_by start caller events.Slot rest past log h =
    let c = choice start past in
    (h.0, h.1, subst (λ n. IsAmong (arrivals n rest) h.0) (length_push (carried_slots past) (slot_reply start past c.waived c.head).ran) h.2)

not_entered : (event : Event) (rest : List Event) (past log : Log) → IsArrival event → IsLonger past (arrivals (now past) rest) log
    → IsLonger past (arrivals (now past) (event ∷ rest)) log
not_entered (events.Submit task release due ops) rest past log is h = (h.0, h.1, refused _ (arrivals (now past) rest) h.0 h.2)
not_entered (events.Collect task release due) rest past log is h = (h.0, h.1, refused _ (arrivals (now past) rest) h.0 h.2)
not_entered events.Slot rest past log is h = absurd is

entered_one : (start : Start) (event : Event) (rest : List Event) (past next log : Log) → Adds event past next
    ⊎ (IsArrival event × (next ≡ past)) → IsExact start next
    → IsLonger next (arrivals (now next) rest) log → IsLonger past (arrivals (now past) (event ∷ rest)) log
entered_one start event rest past next log (inl adds) exact h =
    let is : next ≡ entry adds.0 event (reply_if_accepted start past event) ∷ past =
    adds.2 ∙ ap (λ r. entry adds.0 event r ∷ past) (entry_answer start adds.0 event adds.1 past (subst (IsExact start) adds.2 exact)) in
    entered_by start adds.0 event rest past log (subst (λ l. IsLonger l (arrivals (now l) rest) log) is h)
entered_one start event rest past next log (inr stays) exact h =
    not_entered event rest past log stays.0 (subst (λ l. IsLonger l (arrivals (now l) rest) log) stays.1 h)

pub entered : (start : Start) (all : List Event) (past log : Log) → AreEntered all past log → IsExact start log
    → IsLonger past (arrivals (now past) all) log
entered start [] past log h exact = ([], ap jobs h ∙ sym (append-nil (jobs past)), tt)
entered start (event ∷ rest) past log h exact =
    entered_one start event rest past h.0 log h.1 (entered_exact start rest h.0 log h.2 exact) (entered start rest h.0 log h.2 exact)

-- Earlier moments

-- the list begins with another
abbrev pub Begins : List Job → List Job → Type 0
Begins first js = (more : List Job) × (js ≡ first ++ more)

one_more : (first js : List Job) (j : Job) → Begins first js → Begins first (js ++ j ∷ [])
one_more first js j h = (h.0 ++ j ∷ [], ap (λ l. l ++ j ∷ []) h.1 ∙ append_assoc first h.0 (j ∷ []))

taken_more : (event : Event) (reply : Reply) (first js : List Job) → Begins first js → Begins first (with_taken event reply js)
taken_more (events.Submit task release due ops) (replies.Taken number) first js h = one_more first js _ h
taken_more (events.Submit task release due ops) (replies.Slot s) first js h = h
taken_more (events.Submit task release due ops) (replies.Refused refusal) first js h = h
taken_more (events.Collect task release due) (replies.Taken number) first js h = one_more first js _ h
taken_more (events.Collect task release due) (replies.Slot s) first js h = h
taken_more (events.Collect task release due) (replies.Refused refusal) first js h = h
taken_more events.Slot reply first js h = h

pub jobs_later : (later moment : Log) → Begins (jobs moment) (jobs (later ++ moment))
jobs_later [] moment = ([], sym (append-nil (jobs moment)))
jobs_later (e ∷ later) moment = taken_more e.event e.reply (jobs moment) (jobs (later ++ moment)) (jobs_later later moment)

-- What was entered

pub entered_append : (xs ys : List Event) (a b c : Log) → AreEntered xs a b → AreEntered ys b c → AreEntered (xs ++ ys) a c
entered_append [] ys a b c h k = subst (λ l. AreEntered ys l c) h k
entered_append (x ∷ xs) ys a b c h k = (h.0, h.1, entered_append xs ys h.0 b c h.2 k)

-- a log's own events leave it
pub entered_reported : (log : Log) → AreEntered (events_of_log log) [] log
entered_reported [] = refl
entered_reported (e ∷ past) = entered_append (events_of_log past) (e.event ∷ []) [] past (e ∷ past) (entered_reported past) (
  e
      ∷ past,
  inl (e.caller, e.reply, refl),
  refl,
)
