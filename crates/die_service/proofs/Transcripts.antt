-- What a die behind its lock said to the calls of a run is what its log says to them.
use Rattle.std.proofs.Common.{◌≡◌, ℕ, zero, suc, ◌+◌, ◌==◌, Bool, true, false, cond, List, [], ◌∷◌, ◌++◌, refl, ap, sym, ◌∙◌, subst, map}
use Rattle.std.proofs.Common.{filter, reverse, take, append_assoc, arith, Ok, Err}
use Rattle.std.proofs.lemmas.Bool.{eq-eqb, false≢true}
use Rattle.std.proofs.lemmas.List.{map-append, reverse-append, reverse-reverse}
use Rattle.std.proofs.lemmas.List.Elements.{filter-append}
use Rattle.slot_types.specs.declared.events.Event.{Event}
use Rattle.slot_types.specs.declared.replies.Reply.{Reply}
use Rattle.turn_lock.specs.Log.{entry, calls_by, AllBy}
use Rattle.die_log.specs.Model.Log.{Log}
use Rattle.die_log.specs.Model.Answers.{answer, IsAccepted, IsExact}
use Rattle.slot_core.specs.Core.{with_entry}
use Rattle.die_service.specs.declared.refused.RefusedAt.{RefusedAt}
use Rattle.die_service.specs.Logs.{DieCall, entry_of, log_of, call_of, calls_of}
use Rattle.slot_core.specs.Calls.{MayRefuse}
use Rattle.die_service.specs.Runs.{AskedEvent, asked_event, accepted_by, was_accepted}
use Rattle.die_log.specs.Model.Start.{Start}

-- The log of the calls that were accepted

abbrev pub said_log : List AskedEvent → Log
said_log saids = log_of (accepted_by 0 saids)

accepted_more : (xs ys : List AskedEvent) → accepted_by 0 (xs ++ ys) ≡ accepted_by 0 xs ++ accepted_by 0 ys
accepted_more xs ys = ap (map (λ (s : AskedEvent). entry 0 s.event s.reply)) (filter-append was_accepted xs ys)
    ∙ map-append (λ (s : AskedEvent). entry 0 s.event s.reply) (filter was_accepted xs) (filter was_accepted ys)

pub log_more : (cs ds : List DieCall) → log_of (cs ++ ds) ≡ log_of ds ++ log_of cs
log_more cs ds = ap reverse (map-append entry_of cs ds) ∙ reverse-append (map entry_of cs) (map entry_of ds)

said_more : (xs ys : List AskedEvent) → said_log (xs ++ ys) ≡ log_of (accepted_by 0 ys) ++ said_log xs
said_more xs ys = ap log_of (accepted_more xs ys) ∙ log_more (accepted_by 0 xs) (accepted_by 0 ys)

pub said_accepted : (before : List AskedEvent) (event : Event) (reply : Reply) → said_log (before ++ asked_event event (Ok reply) ∷ [])
    ≡ with_entry 0 event reply (said_log before)
said_accepted before event reply = said_more before (asked_event event (Ok reply) ∷ [])

pub said_refused : (before : List AskedEvent) (event : Event) (refused : RefusedAt) → said_log (before ++ asked_event event (Err refused) ∷ [])
    ≡ said_log before
said_refused before event refused = said_more before (asked_event event (Err refused) ∷ [])

-- What is known of each call

-- an accepted call was answered by the log of those before it, and a refused one may be refused by a die at that log
pub record AreReported (never_fails : Bool) (start : Start) (saids : List AskedEvent) : Type 0 where
  pub accepted : (before after : List AskedEvent) (event : Event) (reply : Reply) → saids ≡ before ++ asked_event event (Ok reply) ∷ after
      → (answer start (said_log before) event ≡ reply) × IsAccepted reply
  pub refused : (before after : List AskedEvent) (event : Event) (refused : RefusedAt) → saids ≡ before ++ asked_event event (Err refused) ∷ after
      → MayRefuse never_fails start (said_log before) event refused.refusal

exact_after : (start : Start) (xs ys : Log) → IsExact start (xs ++ ys) → IsExact start ys
exact_after start [] ys h = h
exact_after start (x ∷ xs) ys h = exact_after start xs ys h.0

split_one : (before after : List AskedEvent) (s : AskedEvent) → before ++ s ∷ after ≡ (before ++ s ∷ []) ++ after
split_one before after s = sym (append_assoc before (s ∷ []) after)

-- the log of what was said at first is exact
pub front_exact : (start : Start) (saids before after : List AskedEvent) → IsExact start (said_log saids) → saids ≡ before ++ after
    → IsExact start (said_log before)
front_exact start saids before after exact is = exact_after start (log_of (accepted_by 0 after)) (said_log before)
    (subst (IsExact start) (ap said_log is ∙ said_more before after) exact)

pub reported_accepted : (start : Start) (saids before after : List AskedEvent) (event : Event) (reply : Reply) → IsExact start (said_log saids)
    → saids ≡ before ++ asked_event event (Ok reply) ∷ after → (answer start (said_log before) event ≡ reply) × IsAccepted reply
reported_accepted start saids before after event reply exact is =
    let all : said_log saids ≡ log_of (accepted_by 0 after) ++ said_log (before ++ asked_event event (Ok reply) ∷ []) =
    ap said_log (is ∙ split_one before after (asked_event event (Ok reply))) ∙ said_more (before ++ asked_event event (Ok reply) ∷ []) after in
    let here : IsExact start (with_entry 0 event reply (said_log before)) = subst (IsExact start) (said_accepted before event reply)
    (exact_after start (log_of (accepted_by 0 after)) (said_log (before ++ asked_event event (Ok reply) ∷ [])) (subst (IsExact start) all exact)) in
    (sym here.1, here.2)

-- Calls of one caller

abbrev call_back : DieCall → DieCall
call_back e = call_of (entry_of e)

by_first : (b : Bool) (e : DieCall) (es : List DieCall) → cond b (e ∷ es) es ≡ [] → (b ≡ false) × (es ≡ [])
by_first true e es h = absurd cc
by_first false e es h = (refl, h)

-- of a list without calls of a caller neither the first nor a later one is the caller's
none_by : (p : ℕ) (e : DieCall) (es : List DieCall) → calls_by p (e ∷ es) ≡ [] → ((e.caller == p) ≡ false) × (calls_by p es ≡ [])
none_by p e es h = by_first (e.caller == p) e (calls_by p es) h

callers_same : (p : ℕ) (es : List DieCall) → calls_by p (map call_back es) ≡ [] → calls_by p es ≡ []
callers_same p [] h = refl
callers_same p (e ∷ es) h =
    let none = none_by p (call_back e) (map call_back es) h in
    ap (λ (b : Bool). cond b (e ∷ calls_by p es) (calls_by p es)) none.0 ∙ callers_same p es none.1

-- all calls are of one caller
pub all_own : (n : ℕ) (es : List DieCall) → AllBy (n ∷ []) es → calls_by n es ≡ es
all_own n [] h = refl
all_own n (e ∷ es) h = first (e.caller == n) refl (all_own n es (λ p other. (none_by p e es (h p other)).1))
  where
    first : (b : Bool) → (e.caller == n) ≡ b → calls_by n es ≡ es → calls_by n (e ∷ es) ≡ e ∷ es
    first true is rest = ap (λ (c : Bool). cond c (e ∷ calls_by n es) (calls_by n es)) is ∙ ap (λ (xs : List DieCall). e ∷ xs) rest
    first false is rest =
        let other : (n == e.caller) ≡ false = grind (arith, is) in
        let none = none_by e.caller e es (h e.caller (ap (λ (c : Bool). cond c 1 0 + 0) other)) in
        let same = eq-eqb e.caller e.caller refl in
        absurd (false≢true (sym none.0 ∙ same))

none_front : (p k : ℕ) (es : List DieCall) → calls_by p es ≡ [] → calls_by p (take k es) ≡ []
none_front p zero es h = refl
none_front p (suc k) [] h = refl
none_front p (suc k) (e ∷ es) h =
    let none = none_by p e es h in
    ap (λ (b : Bool). cond b (e ∷ calls_by p (take k es)) (calls_by p (take k es))) none.0 ∙ none_front p k es none.1

map_twice : (xs : List DieCall) → map call_of (map entry_of xs) ≡ map call_back xs
map_twice [] = refl
map_twice (x ∷ xs) = ap (λ (cs : List DieCall). call_back x ∷ cs) (map_twice xs)

back : (xs : List DieCall) → calls_of (log_of xs) ≡ map call_back xs
back xs = ap (map call_of) (reverse-reverse (map entry_of xs)) ∙ map_twice xs

-- where all calls of a log are of one caller, so are those from which it was read, and the first of these
pub by_log : (n : ℕ) (es : List DieCall) → AllBy (n ∷ []) (calls_of (log_of es)) → AllBy (n ∷ []) es
by_log n es h = λ p other. callers_same p es (subst (λ (cs : List DieCall). calls_by p cs ≡ []) (back es) (h p other))

pub own_of_log : (n : ℕ) (es : List DieCall) → AllBy (n ∷ []) (calls_of (log_of es)) → calls_by n es ≡ es
own_of_log n es h = all_own n es (by_log n es h)

pub front_own : (n k : ℕ) (es : List DieCall) → AllBy (n ∷ []) (calls_of (log_of es)) → calls_by n (take k es) ≡ take k es
front_own n k es h = all_own n (take k es) (λ p other. none_front p k es (by_log n es h p other))
