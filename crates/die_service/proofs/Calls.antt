-- The calls of a worker for what is asked of a die, one after the other.
use Rattle.std.proofs.Common.{◌≡◌, ℕ, List, [], ◌∷◌, ◌++◌, map, Some, None, Result, Ok, Err, refl, ap, sym, ◌∙◌, subst, arith}
use Rattle.std.specs.List.{FoldsTo}
use Rattle.slot_types.specs.declared.events.Event.{Event}
use Rattle.slot_types.specs.declared.events.Event.TheVariants as events
use Rattle.slot_types.specs.declared.replies.Reply.{Reply}
use Rattle.slot_types.specs.declared.replies.Reply.TheVariants as replies
use Rattle.die_service.specs.declared.refused.RefusedAt.{RefusedAt}
use Rattle.die_service.specs.Runs.{AskedEvent, asked_event, slots_in, slot_counted, stop_of, stop_or}
use Rattle.die_service.specs.Work.{WorkCall, Asked, clock_beyond, with_call, calls_for}

module _ {W A : Type 0} (does : W → A → W → Type 0) where
  pub folds_more : (xs ys : List A) (u v w : W) → FoldsTo does u xs v → FoldsTo does v ys w → FoldsTo does u (xs ++ ys) w
  folds_more [] ys u v w first second = subst (λ (x : W). FoldsTo does x ys w) (sym first) second
  folds_more (x ∷ xs) ys u v w first second = (first.0, first.1, folds_more xs ys first.0 v w first.2 second)

  pub folds_one : (xs : List A) (x : A) (u v w : W) → FoldsTo does u xs v → does v x w → FoldsTo does u (xs ++ x ∷ []) w
  folds_one xs x u v w first last = folds_more xs (x ∷ []) u v w first (w, last, refl)

-- the clock once these were asked
abbrev pub clock_after : ℕ → List AskedEvent → ℕ
clock_after clock [] = clock
clock_after clock (s ∷ saids) = clock_after (clock_beyond clock s.event s.reply) saids

pub clock_more : (clock : ℕ) (xs ys : List AskedEvent) → clock_after clock (xs ++ ys) ≡ clock_after (clock_after clock xs) ys
clock_more clock [] ys = refl
clock_more clock (x ∷ xs) ys = clock_more (clock_beyond clock x.event x.reply) xs ys

pub calls_more : (die clock : ℕ) (xs ys : List AskedEvent) → calls_for die clock (xs ++ ys)
    ≡ calls_for die clock xs ++ calls_for die (clock_after clock xs) ys
calls_more die clock [] ys = refl
calls_more die clock (x ∷ xs) ys =
    ap (with_call die clock x.event x.reply) (calls_more die (clock_beyond clock x.event x.reply) xs ys) ∙ one x.event x.reply
  where
    front : List WorkCall
    front = calls_for die (clock_beyond clock x.event x.reply) xs

    rest : List WorkCall
    rest = calls_for die (clock_after (clock_beyond clock x.event x.reply) xs) ys

    one : (e : Event) (r : Result Reply RefusedAt) → with_call die clock e r (front ++ rest) ≡ with_call die clock e r front ++ rest
    one events.Slot (Ok (replies.Slot reply)) = refl
    one events.Slot (Ok (replies.Taken number)) = refl
    one events.Slot (Ok (replies.Refused refusal)) = refl
    one events.Slot (Err refused) = refl
    one (events.Submit task release due ops) r = refl
    one (events.Collect task release due) r = refl

-- events of a feed have no hook, and leave the clock
abbrev HasNoHook : ℕ → ℕ → List AskedEvent → Type 0
HasNoHook die clock fed = (calls_for die clock fed ≡ map Asked fed) × (clock_after clock fed ≡ clock)

one_fed : (die clock : ℕ) (e : Event) (r : Result Reply RefusedAt) (more : List AskedEvent) → (slots_in more ≡ 0 → stop_of more ≡ None
    → HasNoHook die clock more) → slot_counted e r (slots_in more) ≡ 0 → stop_or e r (stop_of more) ≡ None
    → HasNoHook die clock (asked_event e r ∷ more)
one_fed die clock events.Slot (Ok reply) more fed n s = absurd (omega (arith, n))
one_fed die clock events.Slot (Err refused) more fed n s = absurd (some_none refused s)
  where
    some_none : (r : RefusedAt) → Some r ≡ None → ⊥
    some_none r e = cc
one_fed die clock (events.Submit task release due ops) r more fed n s = (ap (λ l. Asked (asked_event (events.Submit task release due ops) r) ∷ l) (fed n s).0, (fed n s).1)
one_fed die clock (events.Collect task release due) r more fed n s = (ap (λ l. Asked (asked_event (events.Collect task release due) r) ∷ l) (fed n s).0, (fed n s).1)

pub fed_calls : (die clock : ℕ) (fed : List AskedEvent) → slots_in fed ≡ 0 → stop_of fed ≡ None → HasNoHook die clock fed
fed_calls die clock [] none running = (refl, refl)
fed_calls die clock (x ∷ xs) none running = one_fed die clock x.event x.reply xs (fed_calls die clock xs) none running
