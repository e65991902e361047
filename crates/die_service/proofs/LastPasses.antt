-- Closing the dies of a store.
use Rattle.std.proofs.Common.{◌≡◌, ◌≤◌, ◌+◌, ℕ, suc, inl, inr, Bool, true, false, List, [], ◌∷◌, ◌++◌, length, map, take, drop, Some, refl}
use Rattle.std.proofs.Common.{ap, sym, subst, ◌∙◌, arith}
use Rattle.std.proofs.lemmas.List.{append-nil, append_assoc}
use Rattle.std.specs.List.{AllByRecursion, AllZip}
use Rattle.slot_core.specs.Core.{Core}
use Rattle.turn_lock.specs.Log.{AllBy}
use Rattle.die_service.specs.Logs.{log_of, calls_of}
use Rattle.die_service.specs.Passes.{DieView}
use Rattle.die_service.specs.Stores.{DiePass, IsReported, AreReported, HasLogOf, IsClosedWith}
use Rattle.die_service.proofs.Lists.{log_of_calls}
use Rattle.die_log.specs.Model.Start.{Start}

-- Passes that were answered

pub reported_length : (ps : List DiePass) (out : ℕ) (qs : List DiePass) → AreReported ps out qs → length qs ≡ length ps
reported_length [] out [] said = refl
reported_length [] out (q ∷ qs) said = absurd said
reported_length (p ∷ ps) out [] said = absurd said
reported_length (p ∷ ps) out (q ∷ qs) (inl said) = ap suc (reported_length ps out qs said.1)
reported_length (p ∷ ps) out (q ∷ qs) (inr said) = ap suc (ap length said.2)

pub reported_locks : (ps : List DiePass) (out : ℕ) (qs : List DiePass) → AreReported ps out qs → map (λ (p : DiePass). p.lock) qs
    ≡ map (λ (p : DiePass). p.lock) ps
reported_locks [] out [] said = refl
reported_locks [] out (q ∷ qs) said = absurd said
reported_locks (p ∷ ps) out [] said = absurd said
reported_locks (p ∷ ps) out (q ∷ qs) (inl said) = rw (said.0.0.0, reported_locks ps out qs said.1) refl
reported_locks (p ∷ ps) out (q ∷ qs) (inr said) = rw (said.1.0.0, said.2) refl

pub reported_sole : (ps : List DiePass) (qs : List DiePass) → AreReported ps 0 qs → AllByRecursion (λ (p : DiePass). p.view.sole ≡ true) qs
reported_sole [] [] said = tt
reported_sole [] (q ∷ qs) said = absurd said
reported_sole (p ∷ ps) [] said = absurd said
reported_sole (p ∷ ps) (q ∷ qs) (inl said) = (said.0.1.2 refl, reported_sole ps qs said.1)
reported_sole (p ∷ ps) (q ∷ qs) (inr said) = absurd (omega (arith, said.0))

-- where each pass knew that no other is left, none is out
pub sole_none_out : (ps : List DiePass) (out : ℕ) (qs : List DiePass) → AreReported ps out qs
    → AllByRecursion (λ (p : DiePass). p.view.sole ≡ true) ps → out ≡ 0
sole_none_out [] out [] said sole = said
sole_none_out [] out (q ∷ qs) said sole = absurd said
sole_none_out (p ∷ ps) out [] said sole = absurd said
sole_none_out (p ∷ ps) out (q ∷ qs) (inl said) sole = sole_none_out ps out qs said.1 sole.1
sole_none_out (p ∷ ps) out (q ∷ qs) (inr said) sole = said.1.1.4 sole.0

-- the slice is the whole of the list
pub written : {A : Type 0} (n : ℕ) (xs ys : List A) → length ys ≡ length xs → n ≡ length xs → take n (ys ++ drop (length ys) xs) ≡ ys
written n xs ys same is = rw (is, same, drop_all xs, append-nil ys, sym same) (take_all ys)
  where
    drop_all : {A : Type 0} (zs : List A) → drop (length zs) zs ≡ []
    drop_all [] = refl
    drop_all (z ∷ zs) = drop_all zs

    take_all : {A : Type 0} (zs : List A) → take (length zs) zs ≡ zs
    take_all [] = refl
    take_all (z ∷ zs) = ap (λ rest. z ∷ rest) (take_all zs)

-- Dies that were closed

pub same_plan : (a b : Start) → Some a ≡ Some b → a ≡ b
same_plan a b e = cc

module _ {N : Type 0} (never : Bool) where
  closed_after : (p q : DiePass) (die : Core N) → IsReported p 0 q → HasLogOf never q die → IsClosedWith p die
  closed_after p q die said has = record {
    log_is = sym (log_of_calls die.log) ∙ ap log_of (has.calls_are ∙ said.1.3 refl);
    promised = has.promised;
    about_is = about_is;
    all_joined = (q.view.made, later, sym said.1.1 ∙ ap (λ (l : List ℕ). 1 + length l) said.0.2);
    by_own = subst (λ (x : ℕ × List ℕ). AllBy (x.0 ∷ x.1) (calls_of die.log)) (λ i. (said.0.1 i, said.0.2 i)) has.by_own;
  }
    where
      about_is : p.view.about ≡ Some die.start
      about_is = sym said.0.3 ∙ has.about_is

      later : p.view.made ≤ q.view.made
      later = subst (λ (n : ℕ). p.view.made ≤ n) (sym (ap (λ (v : DieView). v.made) said.1.0.view_is)) said.1.0.later

  pub closed_each : (ps qs : List DiePass) (dies : List (Core N)) → AreReported ps 0 qs → AllZip (HasLogOf never) qs dies
      → AllZip IsClosedWith ps dies
  closed_each [] [] [] said has = tt
  closed_each [] [] (die ∷ dies) said has = has
  closed_each [] (q ∷ qs) dies said has = absurd said
  closed_each (p ∷ ps) [] dies said has = absurd said
  closed_each (p ∷ ps) (q ∷ qs) [] said has = absurd has
  closed_each (p ∷ ps) (q ∷ qs) (die ∷ dies) (inl said) has = (closed_after p q die said.0 has.0, closed_each ps qs dies said.1 has.1)
  closed_each (p ∷ ps) (q ∷ qs) (die ∷ dies) (inr said) has = absurd (omega (arith, said.0))

  pub one_closed : (qs : List DiePass) (dies : List (Core N)) (q : DiePass) (die : Core N) → AllZip (HasLogOf never) qs dies
      → HasLogOf never q die → AllZip (HasLogOf never) (qs ++ q ∷ []) (dies ++ die ∷ [])
  one_closed [] [] q die has last = (last, tt)
  one_closed [] (d ∷ dies) q die has last = absurd has
  one_closed (p ∷ qs) [] q die has last = absurd has
  one_closed (p ∷ qs) (d ∷ dies) q die has last = (has.0, one_closed qs dies q die has.1 last)

  -- where no device fails, no die is stopped
  pub none_stopped : (qs : List DiePass) (dies : List (Core N)) → never ≡ true → AllZip (HasLogOf never) qs dies
      → AllByRecursion (λ (die : Core N). die.stopped ≡ false) dies
  none_stopped [] [] well has = tt
  none_stopped [] (d ∷ dies) well has = absurd has
  none_stopped (q ∷ qs) [] well has = absurd has
  none_stopped (q ∷ qs) (d ∷ dies) well has = (has.0.runs well, none_stopped qs dies well has.1)

pub next_own : {A : Type 0} {B : Type 0} (f : A → B) (all rest : List A) (dies later : List B) (p : A) (die : B) → map f all ≡ dies → all
    ≡ p ∷ rest → dies ≡ die ∷ later → map f rest ≡ later
next_own f all rest dies later p die own at is = tail (f p) die (map f rest) later (sym (ap (map f) at) ∙ (own ∙ is))
  where
    tail : {B : Type 0} (x y : B) (xs ys : List B) → x ∷ xs ≡ y ∷ ys → xs ≡ ys
    tail x y xs ys e = cc

pub as_they_are : {A : Type 0} (xs : List A) → map (λ x. x) xs ≡ xs
as_they_are [] = refl
as_they_are (x ∷ xs) = ap (λ rest. x ∷ rest) (as_they_are xs)

-- one item more of a list was taken
pub more_yielded : {A : Type 0} (all yielded left : List A) (x : A) (rest : List A) → all ≡ yielded ++ left → left ≡ x ∷ rest
    → all ≡ (yielded ++ x ∷ []) ++ rest
more_yielded all yielded left x rest is step = is ∙ (ap (λ xs. yielded ++ xs) step ∙ sym (append_assoc yielded (x ∷ []) rest))

-- a list that is as long as another, as a count was made of it
pub room_for : (new old items len count room : ℕ) → new ≡ old → old ≡ items → len ≡ items → count ≡ len → room ≡ count → new ≤ room
room_for new old items len count room a b c d e = omega arith
