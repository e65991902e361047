-- What a pass knows once calls were made, and what was noted of them.
use Rattle.std.proofs.Common.{◌≡◌, ℕ, ◌+◌, ◌<◌, ◌≤◌, ◌⊎◌, inl, inr, Bool, List, [], ◌∷◌, ◌++◌, length, take, Some, None, Result, Ok, Err}
use Rattle.std.proofs.Common.{refl, ap, sym, ◌∙◌, subst, arith, append_assoc, length-append}
use Rattle.std.proofs.lemmas.List.{append-nil, take-append-le, take_all}
use Rattle.slot_types.specs.declared.events.Event.{Event}
use Rattle.slot_types.specs.declared.events.Event.TheVariants as events
use Rattle.slot_types.specs.declared.replies.Reply.{Reply}
use Rattle.turn_lock.specs.Log.{times, StartsWith, entry, calls_by}
use Rattle.die_service.specs.declared.ends.RefusedEvent.{RefusedEvent}
use Rattle.die_service.specs.declared.refused.RefusedAt.{RefusedAt}
use Rattle.die_service.specs.Logs.{DieCall, log_of}
use Rattle.die_service.specs.Passes.{DieView, HasGrown, AddsEntry, AddsNone}
use Rattle.slot_core.specs.Calls.{MayRefuse}
use Rattle.die_service.specs.Runs.{AskedEvent, asked_event, accepted_by, slots_in, slot_counted, place_beyond, with_refused, refused_from, stop_or, stop_of}
use Rattle.die_service.specs.Runs.{IsReasoned}
use Rattle.die_service.specs.Drives.{place_after}
use Rattle.die_service.specs.PassWorks.{Far, IsFit}
use Rattle.die_service.proofs.Joining.{still_live, made_later, grown_joined, added_joined}
use Rattle.die_log.specs.Model.Start.{Start}

-- Places in lists

module _ {A : Type 0} where
  head_is : (x y : A) (xs ys : List A) → x ∷ xs ≡ y ∷ ys → x ≡ y
  head_is x y xs ys e = cc

  tail_is : (x y : A) (xs ys : List A) → x ∷ xs ≡ y ∷ ys → xs ≡ ys
  tail_is x y xs ys e = cc

  no_more : (before after : List A) (s : A) → [] ≡ before ++ s ∷ after → ⊥
  no_more [] after s is = absurd (omega (arith, ap length is))
  no_more (b ∷ before) after s is = absurd (omega (arith, ap length is))

  -- what stands in a list of one
  alone : (x s : A) (before after : List A) → x ∷ [] ≡ before ++ s ∷ after → (before ≡ []) × (x ≡ s)
  alone x s [] after is = (refl, head_is x s [] after is)
  alone x s (b ∷ before) after is = absurd (no_more before after s (tail_is x b [] (before ++ s ∷ after) is))

  -- what stands in two lists stands in the first or in the second
  splits : (xs ys before after : List A) (s : A) → xs ++ ys ≡ before ++ s ∷ after
      → ((more : List A) × (xs ≡ before ++ s ∷ more)) ⊎ ((more : List A) × (before ≡ xs ++ more) × (ys ≡ more ++ s ∷ after))
  splits [] ys before after s is = inr (before, refl, is)
  splits (x ∷ xs) ys [] after s is = inl (xs, ap (λ z. z ∷ xs) (head_is x s (xs ++ ys) after is))
  splits (x ∷ xs) ys (b ∷ before) after s is = further (splits xs ys before after s (tail_is x b (xs ++ ys) (before ++ s ∷ after) is))
    where
      same : x ≡ b
      same = head_is x b (xs ++ ys) (before ++ s ∷ after) is

      further : ((more : List A) × (xs ≡ before ++ s ∷ more)) ⊎ ((more : List A) × (before ≡ xs ++ more) × (ys ≡ more ++ s ∷ after))
          → ((more : List A) × (x ∷ xs ≡ b ∷ before ++ s ∷ more))
          ⊎ ((more : List A) × (b ∷ before ≡ (x ∷ xs) ++ more) × (ys ≡ more ++ s ∷ after))
      further (inl h) = inl (h.0, rw (same, h.1) refl)
      further (inr h) = inr (h.0, rw (same, h.1) refl, h.2)

-- Calls that were made, and more calls

pub accepted_more : (n : ℕ) (xs ys : List AskedEvent) → accepted_by n (xs ++ ys) ≡ accepted_by n xs ++ accepted_by n ys
accepted_more n [] ys = refl
accepted_more n (x ∷ xs) ys = one x.reply (accepted_more n xs ys)
  where
    one : (r : Result Reply RefusedAt) → accepted_by n (xs ++ ys) ≡ accepted_by n xs ++ accepted_by n ys
        → accepted_by n (record { event = x.event; reply = r } ∷ xs ++ ys) ≡ accepted_by n (record { event = x.event; reply = r } ∷ xs)
        ++ accepted_by n ys
    one (Ok reply) more = ap (λ rest. entry n x.event (Ok reply) ∷ rest) more
    one (Err refused) more = more

pub slots_more : (xs ys : List AskedEvent) → slots_in (xs ++ ys) ≡ slots_in xs + slots_in ys
slots_more [] ys = omega arith
slots_more (x ∷ xs) ys = ap (slot_counted x.event x.reply) (slots_more xs ys) ∙ one x.event x.reply
  where
    one : (e : Event) (r : Result Reply RefusedAt) → slot_counted e r (slots_in xs + slots_in ys)
        ≡ slot_counted e r (slots_in xs) + slots_in ys
    one events.Slot (Ok reply) = omega arith
    one events.Slot (Err refused) = refl
    one (events.Submit task release due ops) r = refl
    one (events.Collect task release due) r = refl

pub stop_more : (xs ys : List AskedEvent) → stop_of xs ≡ None → stop_of (xs ++ ys) ≡ stop_of ys
stop_more [] ys none = refl
stop_more (x ∷ xs) ys none = one x.event x.reply (stop_more xs ys) none
  where
    some_none : (r : RefusedAt) → Some r ≡ None → ⊥
    some_none r e = cc

    one : (e : Event) (r : Result Reply RefusedAt) → (stop_of xs ≡ None → stop_of (xs ++ ys) ≡ stop_of ys) → stop_or e r (stop_of xs) ≡ None
        → stop_or e r (stop_of (xs ++ ys)) ≡ stop_of ys
    one events.Slot (Ok reply) more h = more h
    one events.Slot (Err refused) more h = absurd (some_none refused h)
    one (events.Submit task release due ops) r more h = more h
    one (events.Collect task release due) r more h = more h

pub place_more : (place : ℕ) (xs ys : List AskedEvent) → place_after place (xs ++ ys) ≡ place_after (place_after place xs) ys
place_more place [] ys = refl
place_more place (x ∷ xs) ys = place_more (place_beyond x.event place) xs ys

pub refused_more : (place : ℕ) (xs ys : List AskedEvent) → refused_from place (xs ++ ys) ≡ refused_from place xs
    ++ refused_from (place_after place xs) ys
refused_more place [] ys = refl
refused_more place (x ∷ xs) ys = ap (with_refused place x.event x.reply) (refused_more (place_beyond x.event place) xs ys) ∙ one x.event x.reply
  where
    rest : List RefusedEvent
    rest = refused_from (place_after (place_beyond x.event place) xs) ys

    front : List RefusedEvent
    front = refused_from (place_beyond x.event place) xs

    one : (e : Event) (r : Result Reply RefusedAt) → with_refused place e r (front ++ rest) ≡ with_refused place e r front ++ rest
    one events.Slot r = refl
    one (events.Submit task release due ops) (Ok reply) = refl
    one (events.Submit task release due ops) (Err refused) = refl
    one (events.Collect task release due) (Ok reply) = refl
    one (events.Collect task release due) (Err refused) = refl

-- the accepted calls after others
own_more : (n : ℕ) (a b c : List DieCall) (xs ys : List AskedEvent) → a ≡ b ++ accepted_by n ys → b ≡ c ++ accepted_by n xs → a ≡ c
    ++ accepted_by n (xs ++ ys)
own_more n a b c xs ys second first =
    second ∙ (ap (λ l. l ++ accepted_by n ys) first ∙ (append_assoc c (accepted_by n xs) (accepted_by n ys)
    ∙ ap (λ l. c ++ l) (sym (accepted_more n xs ys))))

module _ (never : Bool) (start : Start) where
  -- a reason stands when more was seen
  reasoned_later : (v w x : DieView) (before : List AskedEvent) (event : Event) (refused : RefusedAt) → StartsWith x.seen w.seen
      → IsReasoned never start v before event refused w → IsReasoned never start v before event refused x
  reasoned_later v w x before event refused starts r =
      let within : refused.entries ≤ length w.seen = r.within in
      let longer = length-append w.seen starts.0 in
      let same : take refused.entries x.seen ≡ take refused.entries w.seen = ap (take refused.entries) starts.1
      ∙ take-append-le refused.entries w.seen starts.0 within in record {
        within = omega (arith, within, longer, ap length starts.1);
        reason = subst (λ (l : List DieCall). MayRefuse never start (log_of l) event refused.refusal) (sym same) r.reason;
        own = ap (calls_by v.number) same ∙ r.own;
      }

  -- a reason after other calls
  reasoned_after : (v w x : DieView) (xs more : List AskedEvent) (event : Event) (refused : RefusedAt) → w.number ≡ v.number
      → calls_by v.number w.seen ≡ calls_by v.number v.seen ++ accepted_by v.number xs
      → IsReasoned never start w more event refused x → IsReasoned never start v (xs ++ more) event refused x
  reasoned_after v w x xs more event refused same own r = record {
    within = r.within;
    reason = r.reason;
    own = own_more v.number _ _ _ xs more (subst (λ (n : ℕ). calls_by n (take refused.entries x.seen) ≡ calls_by n w.seen
        ++ accepted_by n more) same r.own) own;
  }

  pub far_joins : (v w x : DieView) (xs ys : List AskedEvent) → w.number ≡ v.number → w.joined ≡ v.joined → Far never start v xs w
      → Far never start w ys x → Far never start v (xs ++ ys) x
  far_joins v w x xs ys same joined f g = record {
    about_is = f.about_is;
    starts = (f.starts.0 ++ g.starts.0, g.starts.1 ∙ (ap (λ l. l ++ g.starts.0) f.starts.1 ∙ append_assoc v.seen f.starts.0 g.starts.0));
    exact = g.exact;
    joined = λ live p mine other.
        g.joined (f.live ∙ live) p (subst (λ (l : List ℕ). 0 < times p l) (sym joined) mine) (λ e. other (e ∙ same))
        ∙ f.joined live p mine other;
    live = g.live ∙ f.live;
    later = omega (arith, f.later, g.later);
    sole = λ h. g.sole (f.sole h);
    alone = λ h. g.alone (f.sole h) ∙ ((λ i. f.alone h i ++ accepted_by (same i) ys)
        ∙ (append_assoc v.seen (accepted_by v.number xs) (accepted_by v.number ys)
        ∙ ap (λ l. v.seen ++ l) (sym (accepted_more v.number xs ys))));
    own = own_more v.number _ _ _ xs ys (subst (λ (n : ℕ). calls_by n x.seen ≡ calls_by n w.seen ++ accepted_by n ys) same g.own) f.own;
    refused = λ before after event refused is. by before after event refused (splits xs ys before after (asked_event event (Err refused)) is);
  }
    where
      by : (before after : List AskedEvent) (event : Event) (refused : RefusedAt)
          → ((more : List AskedEvent) × (xs ≡ before ++ asked_event event (Err refused) ∷ more))
          ⊎ ((more : List AskedEvent) × (before ≡ xs ++ more) × (ys ≡ more ++ asked_event event (Err refused) ∷ after))
          → IsReasoned never start v before event refused x
      by before after event refused (inl h) = reasoned_later v w x before event refused g.starts (f.refused before h.0 event refused h.1)
      by before after event refused (inr h) = subst (λ (l : List AskedEvent). IsReasoned never start v l event refused x) (sym h.1)
          (reasoned_after v w x xs h.0 event refused same f.own (g.refused h.0 after event refused h.2))

-- One call

pub far_looks : (never : Bool) (v w : DieView) (g : HasGrown v w) → calls_by v.number w.seen ≡ calls_by v.number v.seen
    → Far never g.topic v [] w
far_looks never v w g own = record {
  about_is = g.about_is;
  starts = (g.more, ap (λ u. u.seen) g.view_is);
  exact = g.fit;
  joined = λ live p mine other. grown_joined v p live mine other w g;
  live = still_live v w g;
  later = made_later v w g;
  sole = λ h. ap (λ u. u.sole) g.view_is ∙ g.stays_sole h;
  alone = λ h. ap (λ u. u.seen) g.view_is ∙ ap (λ l. v.seen ++ l) (g.alone h);
  own = own ∙ sym (append-nil (calls_by v.number v.seen));
  refused = λ before after event refused is. absurd (no_more before after (asked_event event (Err refused)) is);
}

no_error : (event other : Event) (reply : Reply) (refused : RefusedAt) → asked_event event (Ok reply) ≡ asked_event other (Err refused) → ⊥
no_error event other reply refused is = ok_err (ap (λ s. s.reply) is)
  where
    ok_err : ◌≡◌ {A = Result Reply RefusedAt} (Ok reply) (Err refused) → ⊥
    ok_err e = cc

pub far_accepts : (never : Bool) (v w : DieView) (event : Event) (reply : Reply) (a : AddsEntry v event reply w)
    → Far never a.grown.topic v (asked_event event (Ok reply) ∷ []) w
far_accepts never v w event reply a = record {
  about_is = a.grown.about_is;
  starts = (
    a.grown.more ++ entry v.number event (Ok reply) ∷ [],
    ap (λ u. u.seen) a.view_is ∙ (ap (λ u. u.seen ++ entry v.number event (Ok reply) ∷ []) a.grown.view_is
        ∙ append_assoc v.seen a.grown.more (entry v.number event (Ok reply) ∷ [])),
  );
  exact = a.exact;
  joined = λ live p mine other. added_joined v p live mine other event reply w a;
  live = ap (λ u. u.live) a.view_is ∙ still_live v a.before a.grown;
  later = subst (λ (n : ℕ). v.made ≤ n) (sym (ap (λ u. u.made) a.view_is)) (made_later v a.before a.grown);
  sole = λ h. ap (λ u. u.sole) a.view_is ∙ (ap (λ u. u.sole) a.grown.view_is ∙ a.grown.stays_sole h);
  alone = λ h. ap (λ u. u.seen) a.view_is ∙ (ap (λ u. u.seen ++ entry v.number event (Ok reply) ∷ []) a.grown.view_is
      ∙ ap (λ l. (v.seen ++ l) ++ entry v.number event (Ok reply) ∷ []) (a.grown.alone h)
      ∙ ap (λ l. l ++ entry v.number event (Ok reply) ∷ []) (append-nil v.seen));
  own = a.own;
  refused = λ before after other refused is. absurd (no_error event other reply refused
      (alone (asked_event event (Ok reply)) (asked_event other (Err refused)) before after is).1);
}

pub far_refuses : (never : Bool) (v w : DieView) (event : Event) (refused : RefusedAt) (a : AddsNone never v event refused w)
    → Far never a.grown.topic v (asked_event event (Err refused) ∷ []) w
far_refuses never v w event refused a = record {
  about_is = a.grown.about_is;
  starts = (a.grown.more, ap (λ u. u.seen) a.grown.view_is);
  exact = a.grown.fit;
  joined = λ live p mine other. grown_joined v p live mine other w a.grown;
  live = still_live v w a.grown;
  later = made_later v w a.grown;
  sole = λ h. ap (λ u. u.sole) a.grown.view_is ∙ a.grown.stays_sole h;
  alone = λ h. ap (λ u. u.seen) a.grown.view_is ∙ ap (λ l. v.seen ++ l) (a.grown.alone h);
  own = a.own ∙ sym (append-nil (calls_by v.number v.seen));
  refused = λ before after other by is. reason before other by (alone (asked_event event (Err refused)) (asked_event other (Err by)) before after is);
}
  where
    all : take refused.entries w.seen ≡ w.seen
    all = take_all refused.entries w.seen (omega (arith, a.entries))

    here : IsReasoned never a.grown.topic v [] event refused w
    here = record {
      within = omega (arith, a.entries);
      reason = subst (λ (l : List DieCall). MayRefuse never a.grown.topic (log_of l) event refused.refusal) (sym all) a.reason;
      own = ap (calls_by v.number) all ∙ (a.own ∙ sym (append-nil (calls_by v.number v.seen)));
    }

    err_is : (x y : RefusedAt) → ◌≡◌ {A = Result Reply RefusedAt} (Err x) (Err y) → x ≡ y
    err_is x y e = cc

    reason : (before : List AskedEvent) (other : Event) (by : RefusedAt) → (before ≡ []) × (asked_event event (Err refused) ≡ asked_event other (Err by))
        → IsReasoned never a.grown.topic v before other by w
    reason before other by h = subst (λ (l : List AskedEvent). IsReasoned never a.grown.topic v l other by w) (sym h.0)
        (subst (λ (e : Event). IsReasoned never a.grown.topic v [] e by w) (ap (λ s. s.event) h.1)
        (subst (λ (r : RefusedAt). IsReasoned never a.grown.topic v [] event r w) (err_is refused by (ap (λ s. s.reply) h.1)) here))

-- a pass that was asked nothing
pub far_none : (never : Bool) (v : DieView) (fit : IsFit v) → Far never fit.0 v [] v
far_none never v fit = record {
  about_is = fit.1.0;
  starts = ([], sym (append-nil v.seen));
  exact = fit.1.1;
  joined = λ live p mine other. refl;
  live = refl;
  later = omega arith;
  sole = λ h. h;
  alone = λ h. sym (append-nil v.seen);
  own = sym (append-nil (calls_by v.number v.seen));
  refused = λ before after event refused is. absurd (no_more before after (asked_event event (Err refused)) is);
}
