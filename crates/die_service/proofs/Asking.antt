-- What a worker has asked of its die, event by event and slot by slot, and by which calls.
use Rattle.std.proofs.Common.{◌≡◌, ℕ, zero, suc, ◌+◌, ◌-◌, ◌<◌, List, [], ◌∷◌, ◌++◌, map, drop, Option, Some, None, Result, Ok, Err, inl, inr}
use Rattle.std.proofs.Common.{refl, ap, sym, ◌∙◌, subst, arith, append_assoc}
use Rattle.std.proofs.lemmas.List.{append-nil, map-append, drop-drop}
use Rattle.slot_types.specs.declared.events.Event.{Event}
use Rattle.slot_types.specs.declared.events.Event.TheVariants as events
use Rattle.slot_types.specs.declared.replies.Reply.{Reply}
use Rattle.slot_types.specs.declared.replies.Reply.TheVariants as replies
use Rattle.slot_types.specs.declared.replies.SlotReply.{SlotReply}
use Rattle.slot_types.specs.Arrivals.{IsArrival}
use Rattle.slot_types.specs.Arriving.{arrivals_by, arrivals_after}
use Rattle.slot_types.proofs.Arriving.{arrived_one, later_one}
use Rattle.die_service.specs.declared.ends.DieEnd.{DieEnd}
use Rattle.die_service.specs.declared.feeds.Arrival.{Arrival}
use Rattle.die_service.specs.declared.refused.RefusedAt.{RefusedAt}
use Rattle.die_service.specs.Runs.{AskedEvent, asked_event, comes_at, AreAsked, InClockOrder, place_beyond, with_refused, refused_from}
use Rattle.die_service.specs.Runs.{slots_in, slot_counted, stop_of, stop_or}
use Rattle.die_service.specs.Drives.{Course, WorkerState, end_at, IsFirstState, Comes, NoneDue, place_after}
use Rattle.die_service.specs.Work.{WorkCall, Before, Asked, After, Asks, WorksOne, WorksDue, WorksSlot, WorksStop, WorksOff, EndsAs, calls_for}
use Rattle.die_service.proofs.Calls.{folds_more, clock_after, calls_more, clock_more, fed_calls}
use Rattle.die_service.proofs.Driving.{slots_more, stop_more, place_more, refused_more}

-- Places

pub after_arrival : (e : Event) (n : ℕ) → IsArrival e → place_beyond e n ≡ n + 1
after_arrival events.Slot n arrives = absurd arrives
after_arrival (events.Submit task release due ops) n arrives = omega arith
after_arrival (events.Collect task release due) n arrives = omega arith

none_noted : (e : Event) (n : ℕ) (reply : Reply) → with_refused n e (Ok reply) [] ≡ []
none_noted events.Slot n reply = refl
none_noted (events.Submit task release due ops) n reply = refl
none_noted (events.Collect task release due) n reply = refl

one_noted : (e : Event) (n : ℕ) (refused : RefusedAt) → IsArrival e → with_refused n e (Err refused) [] ≡ record { place = n; refused = refused }
    ∷ []
one_noted events.Slot n refused arrives = absurd arrives
one_noted (events.Submit task release due ops) n refused arrives = refl
one_noted (events.Collect task release due) n refused arrives = refl

-- a place after these is as far on as they are many
pub place_from : (n : ℕ) (saids : List AskedEvent) → place_after n saids ≡ n + place_after 0 saids
place_from n [] = omega arith
place_from n (s ∷ saids) = one s.event (place_from n saids) (place_from (suc n) saids) (place_from 1 saids)
  where
    one : (e : Event) → place_after n saids ≡ n + place_after 0 saids → place_after (suc n) saids ≡ suc n + place_after 0 saids
        → place_after 1 saids ≡ 1 + place_after 0 saids
        → place_after (place_beyond e n) saids ≡ n + place_after (place_beyond e 0) saids
    one events.Slot h k l = h
    one (events.Submit task release due ops) h k l = omega (arith, k, l)
    one (events.Collect task release due) h k l = omega (arith, k, l)

-- Calls after others

module _ {W : Type 0} (does : W → WorkCall → W → Type 0) where
  pub asks_none : (s : WorkerState W) → Asks does [] s [] s
  asks_none s = record { made = refl; place = refl; rest = refl; refused = sym (append-nil s.course.refused) }

  pub asks_joins : (s t u : WorkerState W) (cs ds : List WorkCall) (xs ys : List AskedEvent) → Asks does cs s xs t → Asks does ds t ys u
      → Asks does (cs ++ ds) s (xs ++ ys) u
  asks_joins s t u cs ds xs ys a b = record {
    made = folds_more does cs ds s.work t.work u.work a.made b.made;
    place = b.place ∙ (ap (λ n. place_after n ys) a.place ∙ sym (place_more s.course.place xs ys));
    rest = b.rest ∙ (ap (drop (place_after 0 ys)) a.rest ∙ (drop-drop (place_after 0 ys) (place_after 0 xs) s.course.rest
        ∙ ap (λ n. drop n s.course.rest) (sym (place_more 0 xs ys ∙ place_from (place_after 0 xs) ys))));
    refused = b.refused ∙ (ap (λ l. l ++ refused_from t.course.place ys) a.refused
        ∙ (append_assoc s.course.refused (refused_from s.course.place xs) (refused_from t.course.place ys)
        ∙ ap (λ l. s.course.refused ++ l) (ap (λ n. refused_from s.course.place xs ++ refused_from n ys) a.place
        ∙ sym (refused_more s.course.place xs ys))));
  }

-- One event

module _ {W : Type 0} (does : W → WorkCall → W → Type 0) (clock : ℕ) (u v : W) (c d : Course) (event : Event) (slots : ℕ) (stop : Option RefusedAt)
  where
    abbrev at : W → Course → WorkerState W
    at work course = record { work = work; course = course; slots = slots; stop = stop }

    pub works_accepted : (reply : Reply) → Comes clock c event d → does u (Asked (asked_event event (Ok reply))) v
        → WorksOne does clock (at u c) (at v d)
    works_accepted reply comes call =
        let arrives : IsArrival comes.arrival.event = subst IsArrival comes.event_is comes.arrives in record {
          arrival = comes.arrival;
          by = comes.by;
          arrives = arrives;
          next = comes.rest;
          reply = Ok reply;
          asks = record {
            made = (v, subst (λ (e : Event). does u (Asked (asked_event e (Ok reply))) v) comes.event_is call, refl);
            place = comes.place ∙ sym (after_arrival comes.arrival.event c.place arrives);
            rest = sym (ap (λ n. drop n c.rest) (after_arrival comes.arrival.event 0 arrives) ∙ ap (drop 1) comes.rest);
            refused = comes.refused ∙ (sym (append-nil c.refused)
                ∙ ap (λ l. c.refused ++ l) (sym (none_noted comes.arrival.event c.place reply)));
          };
          slots = refl;
          stop = refl;
        }

    pub works_refused : (refused : RefusedAt) (e : Course) → Comes clock c event d → e.rest ≡ d.rest → e.place ≡ d.place
        → e.refused ≡ d.refused ++ record { place = d.place - 1; refused = refused } ∷ []
        → does u (Asked (asked_event event (Err refused))) v → WorksOne does clock (at u c) (at v e)
    works_refused refused e comes rest place notes call =
        let arrives : IsArrival comes.arrival.event = subst IsArrival comes.event_is comes.arrives in
        let here : d.place - 1 ≡ c.place = omega (arith, comes.place) in record {
          arrival = comes.arrival;
          by = comes.by;
          arrives = arrives;
          next = comes.rest ∙ ap (λ l. comes.arrival ∷ l) (sym rest);
          reply = Err refused;
          asks = record {
            made = (v, subst (λ (x : Event). does u (Asked (asked_event x (Err refused))) v) comes.event_is call, refl);
            place = place ∙ (comes.place ∙ sym (after_arrival comes.arrival.event c.place arrives));
            rest = rest ∙ sym (ap (λ n. drop n c.rest) (after_arrival comes.arrival.event 0 arrives) ∙ ap (drop 1) comes.rest);
            refused = notes ∙ (ap (λ l. l ++ record { place = d.place - 1; refused = refused } ∷ []) comes.refused
                ∙ ap (λ l. c.refused ++ l) (ap (λ n. record { place = n; refused = refused } ∷ []) here
                ∙ sym (one_noted comes.arrival.event c.place refused arrives)));
          };
          slots = refl;
          stop = refl;
        }

-- One slot

module _ {W : Type 0} (does : W → WorkCall → W → Type 0) (u v : W) (c : Course) (slots : ℕ) (stop : Option RefusedAt) where
  pub works_slot : (reply : SlotReply) → does u (Asked (asked_event events.Slot (Ok (replies.Slot reply)))) v
      → WorksSlot does (record { work = u; course = c; slots = slots; stop = stop }) reply.slot
      (record { work = v; course = c; slots = slots + 1; stop = stop })
  works_slot reply call = record { reply = reply; slot_is = refl; call = call; course = refl; slots = refl; stop = refl }

  pub works_stop : (refused : RefusedAt) → does u (Asked (asked_event events.Slot (Err refused))) v
      → WorksStop does (record { work = u; course = c; slots = slots; stop = stop })
      (record { work = v; course = c; slots = slots; stop = Some refused })
  works_stop refused call = record { refused = refused; call = call; course = refl; slots = refl; stop = refl }

-- The events that come by a slot

no_slot_of : (e : Event) (r : Result Reply RefusedAt) → IsArrival e → slot_counted e r 0 ≡ 0
no_slot_of events.Slot r arrives = absurd arrives
no_slot_of (events.Submit task release due ops) r arrives = refl
no_slot_of (events.Collect task release due) r arrives = refl

no_stop_of : (e : Event) (r : Result Reply RefusedAt) → IsArrival e → stop_or e r None ≡ None
no_stop_of events.Slot r arrives = absurd arrives
no_stop_of (events.Submit task release due ops) r arrives = refl
no_stop_of (events.Collect task release due) r arrives = refl

-- some of the events that come by the clock were asked; whatever those that are left come to, all come to
pub record IsBringing {W : Type 0} (does : W → WorkCall → W → Type 0) (clock : ℕ) (s t : WorkerState W) : Type 0 where
  pub fed : List AskedEvent
  pub asks : Asks does (map Asked fed) s fed t
  pub asked : (more : List AskedEvent) → AreAsked (arrivals_by comes_at clock t.course.rest) more
      → AreAsked (arrivals_by comes_at clock s.course.rest) (fed ++ more)
  pub left : arrivals_after comes_at clock s.course.rest ≡ arrivals_after comes_at clock t.course.rest
  pub no_slot : slots_in fed ≡ 0
  pub no_stop : stop_of fed ≡ None
  pub slots : t.slots ≡ s.slots
  pub stop : t.stop ≡ s.stop

module _ {W : Type 0} (does : W → WorkCall → W → Type 0) (clock : ℕ) where
  pub brings_none : (s : WorkerState W) → IsBringing does clock s s
  brings_none s = record {
    fed = [];
    asks = asks_none does s;
    asked = λ more asked. asked;
    left = refl;
    no_slot = refl;
    no_stop = refl;
    slots = refl;
    stop = refl;
  }

  pub brings_more : (s t u : WorkerState W) → IsBringing does clock s t → WorksOne does clock t u → IsBringing does clock s u
  brings_more s t u b one =
      let last = asked_event one.arrival.event one.reply in record {
        fed = b.fed ++ last ∷ [];
        asks = subst (λ (l : List WorkCall). Asks does l s (b.fed ++ last ∷ []) u) (sym (map-append Asked b.fed (last ∷ [])))
            (asks_joins does s t u (map Asked b.fed) (Asked last ∷ []) b.fed (last ∷ []) b.asks one.asks);
        asked = λ more asked. subst (AreAsked (arrivals_by comes_at clock s.course.rest)) (sym (append_assoc b.fed (last ∷ []) more))
            (b.asked (last ∷ more)
            (subst (λ (l : List Arrival). AreAsked l (last ∷ more))
            (sym (ap (arrivals_by comes_at clock) one.next ∙ arrived_one comes_at clock one.arrival u.course.rest one.by))
            (ap (λ l. one.arrival.event ∷ l) asked)));
        left = b.left ∙ (ap (arrivals_after comes_at clock) one.next ∙ later_one comes_at clock one.arrival u.course.rest one.by);
        no_slot = slots_more b.fed (last ∷ []) ∙ omega (arith, b.no_slot, no_slot_of one.arrival.event one.reply one.arrives);
        no_stop = stop_more b.fed (last ∷ []) b.no_stop ∙ no_stop_of one.arrival.event one.reply one.arrives;
        slots = one.slots ∙ b.slots;
        stop = one.stop ∙ b.stop;
      }

  pub brings_all : (s t : WorkerState W) → IsBringing does clock s t → NoneDue clock t.course.rest → WorksDue does clock s t
  brings_all s t b none = record {
    fed = b.fed;
    asks = b.asks;
    asked = subst (AreAsked (arrivals_by comes_at clock s.course.rest)) (append-nil b.fed)
        (b.asked [] (ap (map (λ (a : Arrival). a.event)) (sym none.0)));
    left = sym (b.left ∙ none.1);
    no_slot = b.no_slot;
    no_stop = b.no_stop;
    slots = b.slots;
    stop = b.stop;
  }

-- A die that is still to be run

pub ends_as : {W : Type 0} (does : W → WorkCall → W → Type 0) (die slots : ℕ) (driver : Option (WorkerState W)) (ended ends : Option (DieEnd × W))
    (s t : WorkerState W) (end : DieEnd) (work : W) → driver ≡ Some s → WorksOff does die 0 slots s t → end ≡ end_at t → work ≡ t.work
    → ends ≡ Some (end, work) → EndsAs does die slots (driver, ended) (None, ends)
ends_as {W = W} does die slots driver ended ends s t end work is off came mine after =
    let last : ends ≡ Some (end_at t, t.work) = after ∙ (λ i. Some (came i, mine i)) in
    subst (λ (o : Option (WorkerState W)). EndsAs does die slots (o, ended) (None, ends)) (sym is) (t, off, λ i. (None, last i))

-- The slots of a run

-- `done` slots were carried out; whatever the slots that are left come to, all come to
pub record IsOnTime {W : Type 0} (does : W → WorkCall → W → Type 0) (die from slots done clock : ℕ) (s t : WorkerState W) : Type 0 where
  pub saids : List AskedEvent
  pub asks : Asks does (calls_for die from saids) s saids t
  pub clock_is : clock_after from saids ≡ clock
  pub order : (more : List AskedEvent) → InClockOrder (slots - done) clock t.course.rest more
      → InClockOrder slots from s.course.rest (saids ++ more)
  pub counted : slots_in saids ≡ done
  pub no_stop : stop_of saids ≡ None
  pub slots_are : t.slots ≡ done
  pub stop : t.stop ≡ None

module _ {W : Type 0} (does : W → WorkCall → W → Type 0) (die from slots : ℕ) where
  pub starts : (s : WorkerState W) → IsFirstState s → IsOnTime does die from slots 0 from s s
  starts s first = record {
    saids = [];
    asks = asks_none does s;
    clock_is = refl;
    order = λ more order. subst (λ (n : ℕ). InClockOrder n from s.course.rest more) minus order;
    counted = refl;
    no_stop = refl;
    slots_are = ap (λ x. x.slots) first;
    stop = ap (λ x. x.stop) first;
  }
    where
      minus : slots - 0 ≡ slots
      minus = omega arith

  -- what comes after what was asked, by its calls from the clock on
  asks_on : (s t u : WorkerState W) (clock : ℕ) (xs ys : List AskedEvent) → Asks does (calls_for die from xs) s xs t → clock_after from xs ≡ clock
      → Asks does (calls_for die clock ys) t ys u → Asks does (calls_for die from (xs ++ ys)) s (xs ++ ys) u
  asks_on s t u clock xs ys a at b = subst (λ (l : List WorkCall). Asks does l s (xs ++ ys) u)
      (sym (calls_more die from xs ys ∙ ap (λ n. calls_for die from xs ++ calls_for die n ys) at))
      (asks_joins does s t u (calls_for die from xs) (calls_for die clock ys) xs ys a b)

  -- the events that came by the clock were asked
  module _ (done clock : ℕ) (s t t₁ : WorkerState W) (i : IsOnTime does die from slots done clock s t) (b : WorksDue does clock t t₁) where
    front : List AskedEvent
    front = i.saids ++ b.fed

    fed_is : (calls_for die clock b.fed ≡ map Asked b.fed) × (clock_after clock b.fed ≡ clock)
    fed_is = fed_calls die clock b.fed b.no_slot b.no_stop

    front_asks : Asks does (calls_for die from (i.saids ++ b.fed)) s (i.saids ++ b.fed) t₁
    front_asks = asks_on s t t₁ clock i.saids b.fed i.asks i.clock_is
        (subst (λ (l : List WorkCall). Asks does l t b.fed t₁) (sym fed_is.0) b.asks)

    front_clock : clock_after from (i.saids ++ b.fed) ≡ clock
    front_clock = clock_more from i.saids b.fed ∙ (ap (λ n. clock_after n b.fed) i.clock_is ∙ fed_is.1)

    module _ (v : W) (before : does t₁.work (Before die clock) v) (below : done < slots) where
      one_left : slots - done ≡ suc (slots - (done + 1))
      one_left = omega (arith, below)

      -- a slot more
      pub goes_on : (slot next : ℕ) (t₂ t₃ : WorkerState W) → WorksSlot does (record t₁ { work = v }) slot t₂
          → does t₂.work (After die slot) t₃.work → t₃ ≡ record t₂ { work = t₃.work } → next ≡ slot + 1
          → IsOnTime does die from slots (done + 1) next s t₃
      goes_on slot next t₂ t₃ k after rest is =
          let last = asked_event events.Slot (Ok (replies.Slot k.reply)) in
          let all = (i.saids ++ b.fed) ++ last ∷ [] in
          let course_is : t₃.course ≡ t₁.course = ap (λ x. x.course) rest ∙ k.course in
          let clock_is : next ≡ k.reply.slot + 1 = is ∙ ap (λ n. n + 1) k.slot_is in record {
            saids = all;
            asks = asks_on s t₁ t₃ clock (i.saids ++ b.fed) (last ∷ []) front_asks front_clock (record {
              made = (v, before, (t₂.work, k.call, (t₃.work, subst (λ (n : ℕ). does t₂.work (After die n) t₃.work) k.slot_is after, refl)));
              place = ap (λ c. c.place) course_is;
              rest = ap (λ c. c.rest) course_is;
              refused = ap (λ c. c.refused) course_is ∙ sym (append-nil t₁.course.refused);
            });
            clock_is = clock_more from (i.saids ++ b.fed) (last ∷ []) ∙ (ap (λ n. clock_after n (last ∷ [])) front_clock ∙ sym clock_is);
            order = λ more order. subst (InClockOrder slots from s.course.rest)
                (sym (append_assoc (i.saids ++ b.fed) (last ∷ []) more ∙ append_assoc i.saids b.fed (last ∷ more)))
                (i.order (b.fed ++ last ∷ more) (subst (λ (n : ℕ). InClockOrder n clock t.course.rest (b.fed ++ last ∷ more)) (sym one_left) (
                  b.fed,
                  last ∷ more,
                  refl,
                  b.asked,
                  inl (
                    k.reply,
                    more,
                    refl,
                    subst (λ (l : List Arrival). InClockOrder (slots - (done + 1)) (k.reply.slot + 1) l more)
                        (ap (λ c. c.rest) course_is ∙ b.left)
                        (subst (λ (n : ℕ). InClockOrder (slots - (done + 1)) n t₃.course.rest more) clock_is order),
                  ),
                )));
            counted = slots_more (i.saids ++ b.fed) (last ∷ []) ∙ omega (arith, slots_more i.saids b.fed, i.counted, b.no_slot);
            no_stop = stop_more (i.saids ++ b.fed) (last ∷ []) (stop_more i.saids b.fed i.no_stop ∙ b.no_stop);
            slots_are = ap (λ x. x.slots) rest ∙ (k.slots ∙ ap (λ n. n + 1) (b.slots ∙ i.slots_are));
            stop = ap (λ x. x.stop) rest ∙ (k.stop ∙ (b.stop ∙ i.stop));
          }

      -- a slot was refused
      pub gives_up : (t₂ : WorkerState W) → WorksStop does (record t₁ { work = v }) t₂ → WorksOff does die from slots s t₂
      gives_up t₂ k =
          let last = asked_event events.Slot (Err k.refused) in
          let all = (i.saids ++ b.fed) ++ last ∷ [] in
          let stop_is : stop_of all ≡ Some k.refused = stop_more (i.saids ++ b.fed) (last ∷ []) (stop_more i.saids b.fed i.no_stop ∙ b.no_stop) in
          let count : slots_in all ≡ done = slots_more (i.saids ++ b.fed) (last ∷ [])
          ∙ omega (arith, slots_more i.saids b.fed, i.counted, b.no_slot) in record {
            saids = all;
            ordered = subst (InClockOrder slots from s.course.rest) (sym (append_assoc i.saids b.fed (last ∷ [])))
                (i.order (b.fed ++ last ∷ []) (subst (λ (n : ℕ). InClockOrder n clock t.course.rest (b.fed ++ last ∷ [])) (sym one_left)
                (b.fed, last ∷ [], refl, b.asked, inr (k.refused, refl))));
            asks = asks_on s t₁ t₂ clock (i.saids ++ b.fed) (last ∷ []) front_asks front_clock (record {
              made = (v, before, (t₂.work, k.call, refl));
              place = ap (λ c. c.place) k.course;
              rest = ap (λ c. c.rest) k.course;
              refused = ap (λ c. c.refused) k.course ∙ sym (append-nil t₁.course.refused);
            });
            slots_are = k.slots ∙ (b.slots ∙ (i.slots_are ∙ sym count));
            stop_is = k.stop ∙ sym stop_is;
            whole = λ none. absurd (some_none k.refused (sym k.stop ∙ none));
          }
        where
          some_none : (r : RefusedAt) → Some r ≡ None → ⊥
          some_none r e = cc

    -- all slots were carried out
    pub ends : slots ≡ done → WorksOff does die from slots s t₁
    ends all =
        let none_left : slots - done ≡ zero = omega (arith, all) in
        let count : slots_in (i.saids ++ b.fed) ≡ done = slots_more i.saids b.fed ∙ omega (arith, i.counted, b.no_slot) in
        let stop_is : stop_of (i.saids ++ b.fed) ≡ None = stop_more i.saids b.fed i.no_stop ∙ b.no_stop in record {
          saids = i.saids ++ b.fed;
          ordered = i.order b.fed (subst (λ (n : ℕ). InClockOrder n clock t.course.rest b.fed) (sym none_left) b.asked);
          asks = front_asks;
          slots_are = b.slots ∙ (i.slots_are ∙ sym count);
          stop_is = b.stop ∙ (i.stop ∙ sym stop_is);
          whole = λ none. b.slots ∙ (i.slots_are ∙ sym all);
        }
