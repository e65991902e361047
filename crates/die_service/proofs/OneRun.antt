-- A run on a new die on which nothing else was done is one, unless memory was refused to it, or its device failed.
use Rattle.std.proofs.Common.{◌≡◌, ◌⊎◌, inl, inr, ℕ, zero, suc, ◌+◌, Bool, List, [], ◌∷◌, ◌++◌, length, map, All, Result, Ok, Err}
use Rattle.std.proofs.Common.{refl, ap, sym, ◌∙◌, subst, append_assoc, append-nil}
use Rattle.std.specs.Prelude.{IfErr}
use Rattle.std.specs.List.{AllByRecursion}
use Rattle.std.proofs.lemmas.List.Elements.{recursion_from_All}
use Rattle.slot_types.specs.declared.events.Event.{Event}
use Rattle.slot_types.specs.declared.events.Event.TheVariants as events
use Rattle.slot_types.specs.declared.refusals.Refusal.{Refusal}
use Rattle.slot_types.specs.declared.replies.Reply.{Reply}
use Rattle.slot_types.specs.declared.replies.Reply.TheVariants as replies
use Rattle.slot_types.specs.declared.replies.SlotReply.{SlotReply}
use Rattle.slot_types.specs.Arriving.{arrivals_after}
use Rattle.die_log.specs.Model.Log.{Log}
use Rattle.die_log.specs.Model.Start.{Start}
use Rattle.die_log.specs.Model.Answers.{answer, IsAccepted}
use Rattle.slot_core.specs.Calls.{MayRefuse}
use Rattle.die_service.specs.declared.ends.DieEnd.{DieEnd}
use Rattle.die_service.specs.declared.feeds.Arrival.{Arrival}
use Rattle.die_service.specs.declared.refused.RefusedAt.{RefusedAt}
use Rattle.die_service.specs.PlannedRuns.{IsForMemoryOrFault, RanAlone}
use Rattle.die_service.specs.Runs.{AskedEvent, asked_event, accepted_by, InClockOrder, comes_at, end_of}
use Rattle.die_service.proofs.RunAlone as alone
use Rattle.die_service.proofs.Transcripts.{said_log}

-- What the log alone decides

abbrev pub IsLogs : Bool → AskedEvent → Type 0
IsLogs never s = IfErr s.reply (λ refused. ¬ IsForMemoryOrFault never refused.refusal)

-- each call was accepted with the log's own answer, or refused with it, after all entries that there were
record AreByLog (start : Start) (saids : List AskedEvent) : Type 0 where
  accepted : (before after : List AskedEvent) (event : Event) (reply : Reply) → saids ≡ before ++ asked_event event (Ok reply) ∷ after
      → (answer start (said_log before) event ≡ reply) × IsAccepted reply
  refused : (before after : List AskedEvent) (event : Event) (refused : RefusedAt) → saids ≡ before ++ asked_event event (Err refused) ∷ after
      → answer start (said_log before) event ≡ replies.Refused refused.refusal
  entries : (before after : List AskedEvent) (event : Event) (refused : RefusedAt) → saids ≡ before ++ asked_event event (Err refused) ∷ after
      → refused.entries ≡ length (accepted_by 0 before)

by_log : (never : Bool) (start : Start) (log : Log) (event : Event) (refusal : Refusal) → MayRefuse never start log event refusal
    → ¬ IsForMemoryOrFault never refusal → answer start log event ≡ replies.Refused refusal
by_log never start log event refusal (inl (inl is)) not = is
by_log never start log event refusal (inl (inr memory)) not = absurd (not (inl (inl memory.1)))
by_log never start log event refusal (inr (inl fault)) not = absurd (not (inr (fault.0, inr (ap Err fault.3))))
by_log never start log event refusal (inr (inr stopped)) not = absurd (not (inl (inr (stopped.0, stopped.1))))

stands : (P : AskedEvent → Type 0) (before after : List AskedEvent) (s : AskedEvent) → AllByRecursion P (before ++ s ∷ after) → P s
stands P [] after s h = h.0
stands P (b ∷ bs) after s h = stands P bs after s h.1

one_of : (P : AskedEvent → Type 0) (saids before after : List AskedEvent) (s : AskedEvent) → All P saids → saids ≡ before ++ s ∷ after → P s
one_of P saids before after s all is = stands P before after s (subst (AllByRecursion P) is (recursion_from_All P saids all))

ran_by_log : (never : Bool) (start : Start) (slots : ℕ) (feed : List Arrival) (end : DieEnd) (log : Log)
    (r : RanAlone never start slots feed end log) → All (IsLogs never) r.ran.saids → AreByLog start r.ran.saids
ran_by_log never start slots feed end log r all =
    let reported = alone.are_reported never slots start feed end log r in
    record {
      accepted = λ before after event reply is. reported.accepted before after event reply is;
      refused = λ before after event refused is. by_log never start (said_log before) event refused.refusal
          (reported.refused before after event refused is)
          (one_of (IsLogs never) r.ran.saids before after (asked_event event (Err refused)) all is);
      entries = λ before after event refused is. alone.counted never slots start feed end log r before after event refused is;
    }

-- Two runs

not_both : (reply : Reply) (refusal : Refusal) → IsAccepted reply → reply ≡ replies.Refused refusal → ⊥
not_both reply refusal accepted is = subst IsAccepted is accepted

one_refusal : (d e : Refusal) → replies.Refused d ≡ replies.Refused e → d ≡ e
one_refusal d e is = cc

abbrev slot_of : Result Reply RefusedAt → SlotReply → SlotReply
slot_of (Ok (replies.Slot slot)) other = slot
slot_of _ other = other

one_slot : (s t : SlotReply) → ◌≡◌ {A = Result Reply RefusedAt} (Ok (replies.Slot s)) (Ok (replies.Slot t)) → s ≡ t
one_slot s t is = ap (λ (r : Result Reply RefusedAt). slot_of r s) is

-- the list of one more call
more_of : (before rest : List AskedEvent) (s : AskedEvent) (all : List AskedEvent) → all ≡ before ++ s ∷ rest
    → all ≡ (before ++ s ∷ []) ++ rest
more_of before rest s all is = is ∙ sym (append_assoc before (s ∷ []) rest)

module _ (start : Start) (xs ys : List AskedEvent) (a : AreByLog start xs) (b : AreByLog start ys) where
  one_reply : (before after later : List AskedEvent) (event : Event) (p q : Result Reply RefusedAt)
      → xs ≡ before ++ asked_event event p ∷ after → ys ≡ before ++ asked_event event q ∷ later → p ≡ q
  one_reply before after later event (Ok r) (Ok s) is is' =
      ap (λ (t : Reply). Ok t) (sym (a.accepted before after event r is).0 ∙ (b.accepted before later event s is').0)
  one_reply before after later event (Ok r) (Err e) is is' =
      let taken = a.accepted before after event r is in
      absurd (not_both r e.refusal taken.1 (sym taken.0 ∙ b.refused before later event e is'))
  one_reply before after later event (Err d) (Ok s) is is' =
      let taken = b.accepted before later event s is' in
      absurd (not_both s d.refusal taken.1 (sym taken.0 ∙ a.refused before after event d is))
  one_reply before after later event (Err d) (Err e) is is' =
      let refusal : d.refusal ≡ e.refusal = one_refusal d.refusal e.refusal
      (sym (a.refused before after event d is) ∙ b.refused before later event e is') in
      let entries : d.entries ≡ e.entries = a.entries before after event d is ∙ sym (b.entries before later event e is') in
      λ i. Err (record { refusal = refusal i; entries = entries i })

  one_said : (before after later : List AskedEvent) (s t : AskedEvent) → s.event ≡ t.event → xs ≡ before ++ s ∷ after
      → ys ≡ before ++ t ∷ later → s ≡ t
  one_said before after later s t event is is' =
      let here : t ≡ asked_event s.event t.reply = λ i. record { event = sym event i; reply = t.reply } in
      let reply : s.reply ≡ t.reply = one_reply before after later s.event s.reply t.reply is
      (is' ∙ ap (λ (u : AskedEvent). before ++ u ∷ later) here) in
      λ i. record { event = event i; reply = reply i }

  one_fed : (before fed gone rest more : List AskedEvent) → map (λ (s : AskedEvent). s.event) fed ≡ map (λ (s : AskedEvent). s.event) gone
      → xs ≡ before ++ (fed ++ rest) → ys ≡ before ++ (gone ++ more) → fed ≡ gone
  one_fed before [] [] rest more same is is' = refl
  one_fed before [] (t ∷ gone) rest more same is is' = absurd (cc)
  one_fed before (s ∷ fed) [] rest more same is is' = absurd (cc)
  one_fed before (s ∷ fed) (t ∷ gone) rest more same is is' =
      let listed : s.event ∷ map (λ (s : AskedEvent). s.event) fed ≡ t.event ∷ map (λ (s : AskedEvent). s.event) gone = same in
      let event : s.event ≡ t.event = cc in
      let others : map (λ (s : AskedEvent). s.event) fed ≡ map (λ (s : AskedEvent). s.event) gone = cc in
      let said : s ≡ t = one_said before (fed ++ rest) (gone ++ more) s t event is is' in
      let later = one_fed (before ++ s ∷ []) fed gone rest more others (more_of before (fed ++ rest) s xs is)
      (more_of before (gone ++ more) s ys (is' ∙ ap (λ (u : AskedEvent). before ++ u ∷ (gone ++ more)) (sym said))) in
      λ i. said i ∷ later i

  -- the front of what follows
  fronted : (all before tail fed rest : List AskedEvent) → all ≡ before ++ tail → tail ≡ fed ++ rest → all ≡ before ++ (fed ++ rest)
  fronted all before tail fed rest is split = is ∙ ap (λ (l : List AskedEvent). before ++ l) split

  behind : (all before fed rest : List AskedEvent) → all ≡ before ++ (fed ++ rest) → all ≡ (before ++ fed) ++ rest
  behind all before fed rest is = is ∙ sym (append_assoc before fed rest)

  -- what follows the events of a feed: a slot that was carried out, and more; or one that was refused
  abbrev Then : (ℕ → List AskedEvent → Type 0) → List AskedEvent → Type 0
  Then order rest =
      ((slot : SlotReply) × (more : List AskedEvent) × (rest ≡ asked_event events.Slot (Ok (replies.Slot slot)) ∷ more)
      × order (slot.slot + 1) more)
      ⊎ ((refused : RefusedAt) × (rest ≡ asked_event events.Slot (Err refused) ∷ []))

  at_front : (all before rest tail : List AskedEvent) → all ≡ before ++ rest → rest ≡ tail → all ≡ before ++ tail
  at_front all before rest tail is split = is ∙ ap (λ (l : List AskedEvent). before ++ l) split

  then_once : (order : ℕ → List AskedEvent → Type 0) (before rest more : List AskedEvent) → Then order rest → Then order more
      → ((clock : ℕ) (front us vs : List AskedEvent) → order clock us → order clock vs → xs ≡ front ++ us → ys ≡ front ++ vs → us ≡ vs)
      → xs ≡ before ++ rest → ys ≡ before ++ more → rest ≡ more
  then_once order before rest more (inl (s, us, split, h)) (inl (t, vs, split', k)) go is is' =
      let here : xs ≡ before ++ asked_event events.Slot (Ok (replies.Slot s)) ∷ us = at_front xs before rest _ is split in
      let there : ys ≡ before ++ asked_event events.Slot (Ok (replies.Slot t)) ∷ vs = at_front ys before more _ is' split' in
      let slot : s ≡ t = one_slot s t (one_reply before us vs events.Slot (Ok (replies.Slot s)) (Ok (replies.Slot t)) here there) in
      let later : us ≡ vs = go (s.slot + 1) (before ++ asked_event events.Slot (Ok (replies.Slot s)) ∷ []) us vs h
      (subst (λ (n : SlotReply). order (n.slot + 1) vs) (sym slot) k)
      (more_of before us (asked_event events.Slot (Ok (replies.Slot s))) xs here)
      (more_of before vs (asked_event events.Slot (Ok (replies.Slot s))) ys
      (there ∙ ap (λ (n : SlotReply). before ++ asked_event events.Slot (Ok (replies.Slot n)) ∷ vs) (sym slot)))
      in
      split ∙ ((λ i. asked_event events.Slot (Ok (replies.Slot (slot i))) ∷ later i) ∙ sym split')
  then_once order before rest more (inl (s, us, split, h)) (inr (e, split')) go is is' =
      let apart : ◌≡◌ {A = Result Reply RefusedAt} (Ok (replies.Slot s)) (Err e) =
      one_reply before us [] events.Slot (Ok (replies.Slot s)) (Err e) (at_front xs before rest _ is split)
      (at_front ys before more _ is' split') in absurd (cc)
  then_once order before rest more (inr (d, split)) (inl (t, vs, split', k)) go is is' =
      let apart : ◌≡◌ {A = Result Reply RefusedAt} (Err d) (Ok (replies.Slot t)) =
      one_reply before [] vs events.Slot (Err d) (Ok (replies.Slot t)) (at_front xs before rest _ is split)
      (at_front ys before more _ is' split') in absurd (cc)
  then_once order before rest more (inr (d, split)) (inr (e, split')) go is is' =
      let same : ◌≡◌ {A = Result Reply RefusedAt} (Err d) (Err e) =
      one_reply before [] [] events.Slot (Err d) (Err e) (at_front xs before rest _ is split) (at_front ys before more _ is' split') in
      split ∙ ((λ i. asked_event events.Slot (same i) ∷ []) ∙ sym split')

  one_order : (left clock : ℕ) (feed : List Arrival) (before us vs : List AskedEvent) → InClockOrder left clock feed us
      → InClockOrder left clock feed vs → xs ≡ before ++ us → ys ≡ before ++ vs → us ≡ vs
  one_order zero clock feed before us vs h k is is' =
      one_fed before us vs [] [] (h ∙ sym k) (is ∙ ap (λ (l : List AskedEvent). before ++ l) (sym (append-nil us)))
      (is' ∙ ap (λ (l : List AskedEvent). before ++ l) (sym (append-nil vs)))
  one_order (suc left) clock feed before us vs (fed, rest, split, asked, next) (gone, more, split', asked', next') is is' =
      let front : xs ≡ before ++ (fed ++ rest) = fronted xs before us fed rest is split in
      let front' : ys ≡ before ++ (gone ++ more) = fronted ys before vs gone more is' split' in
      let same : fed ≡ gone = one_fed before fed gone rest more (asked ∙ sym asked') front front' in
      let here : xs ≡ (before ++ fed) ++ rest = behind xs before fed rest front in
      let there : ys ≡ (before ++ fed) ++ more =
      behind ys before gone more front' ∙ ap (λ (l : List AskedEvent). (before ++ l) ++ more) (sym same) in
      let tail : rest ≡ more = then_once (λ n l. InClockOrder left n (arrivals_after comes_at clock feed) l) (before ++ fed) rest more next
      next' (λ n front us vs. one_order left n (arrivals_after comes_at clock feed) front us vs) here there in
      split ∙ ((λ i. same i ++ tail i) ∙ sym split')

-- both runs ended so, and left this log
pub one_run : (never : Bool) (start : Start) (slots : ℕ) (feed : List Arrival) (one other : DieEnd) (here there : Log)
    (ran : RanAlone never start slots feed one here) (again : RanAlone never start slots feed other there)
    → All (IsLogs never) ran.ran.saids → All (IsLogs never) again.ran.saids → (one ≡ other) × (here ≡ there)
one_run never start slots feed one other here there ran again all all' =
    let same : ran.ran.saids ≡ again.ran.saids =
    one_order start ran.ran.saids again.ran.saids (ran_by_log never start slots feed one here ran all)
    (ran_by_log never start slots feed other there again all') slots 0 feed [] ran.ran.saids again.ran.saids ran.ran.ordered
    again.ran.ordered refl refl in (
      ran.ran.end_is ∙ (ap end_of same ∙ sym again.ran.end_is),
      alone.said_is never slots start feed one here ran
          ∙ (ap said_log same ∙ sym (alone.said_is never slots start feed other there again)),
    )
