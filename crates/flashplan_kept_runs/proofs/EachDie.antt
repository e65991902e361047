-- One die among all of them.
use Rattle.std.proofs.Common.{◌≡◌, ℕ, zero, suc, ◌+◌, ◌<◌, ◌≤◌, List, [], ◌∷◌, ◌++◌, get_or, length, map, ap, ◌∙◌, sym, subst, refl, arith, Option, Some, None}
use Rattle.std.specs.Prelude.{All, IfSome, max, ◌-◌, slice_get}
use Rattle.std.proofs.Math.ListN.{set}
use Rattle.std.proofs.lemmas.List.{length-map}
use Rattle.std.proofs.lemmas.Option.{IfSome_then, get_or_from_slice_get, slice_get_within}
use Rattle.die_log.specs.Model.Log.{now}
use Rattle.planned_log.specs.Laws.{AreDoneInTime}
use Rattle.script_texts.specs.declared.script_rows.ScriptItem.{ScriptItem}
use Rattle.flashplan_script_runs.specs.ScriptRuns.{items_of_die}
use Rattle.flashplan_kept_runs.proofs.DieItems.{items_of_other, items_of_own}
use Rattle.flashplan_kept_runs.specs.KeptDies.{HasEmptyLog, HasMoved, KeptDie, KeptStart, begins_of}
use Rattle.flashplan_kept_runs.specs.KeptRows.{slot_moves}
use Rattle.flashplan_kept_runs.specs.KeptRuns.{HasKept, HasTaken, HaveKeptTo, HaveTaken, IsKeptTo, TakesRow}
use Rattle.flashplan_kept_runs.proofs.OneDie.{none_taken, row_more, slots_more}

-- what is so of each element, by its place, is so of each after one has changed
each_set : {D X : Type 0} (f : D → X) (P Q : ℕ → X → Type 0) (xs : List D) (place : ℕ) (old new : D)
    → ((n : ℕ) → (n ≡ place → ⊥) → (x : X) → P n x → Q n x) → (P place (f old) → Q place (f new)) → old ≡ get_or xs place old
    → ((n : ℕ) → IfSome (slice_get (map f xs) n) (P n)) → (n : ℕ) → IfSome (slice_get (map f (set xs place new)) n) (Q n)
each_set f P Q [] place old new others this is h n = tt
each_set {D} {X} f P Q (x ∷ xs) zero old new others this is h zero = this (subst (λ (d : D). P 0 (f d)) (sym is) (h zero))
each_set f P Q (x ∷ xs) zero old new others this is h (suc n) =
    IfSome_then (slice_get (map f xs) n) (h (suc n)) (λ y p. others (suc n) (λ e. absurd (omega (arith, e))) y p)
each_set f P Q (x ∷ xs) (suc place) old new others this is h zero = others zero (λ e. absurd (omega (arith, e))) (f x) (h zero)
each_set f P Q (x ∷ xs) (suc place) old new others this is h (suc n) =
    each_set f (λ k. P (suc k)) (λ k. Q (suc k)) xs place old new
    (λ k ne y p. others (suc k) (λ e. ne (omega (arith, e))) y p) this is (λ k. h (suc k)) n

-- where dies begin stays where it does for the one that changes
pub begins_stay : {D : Type 0} (f : D → KeptDie) (xs : List D) (place : ℕ) (old new : D) → (f new).begun ≡ (f old).begun
    → old ≡ get_or xs place old → begins_of (map f (set xs place new)) ≡ begins_of (map f xs)
begins_stay f [] place old new same is = refl
begins_stay {D} f (x ∷ xs) zero old new same is =
    ap (λ (s : KeptStart). s ∷ begins_of (map f xs)) (same ∙ ap (λ (d : D). (f d).begun) is)
begins_stay f (x ∷ xs) (suc place) old new same is =
    ap (λ (l : List KeptStart). (f x).begun ∷ l) (begins_stay f xs place old new same is)

-- what holds of where all begin holds of where one does
pub one_begins : {D : Type 0} (P : KeptStart → Type 0) (f : D → KeptDie) (xs : List D) (place : ℕ) (old : D) → place < length xs
    → old ≡ get_or xs place old → All P (begins_of (map f xs)) → P (f old).begun
one_begins {D} P f xs place old below is all =
    subst P (at f xs place old below ∙ ap (λ (d : D). (f d).begun) (sym is)) (all place (f old).begun (omega (arith, below, count f xs)))
  where
    count : {D : Type 0} (f : D → KeptDie) (xs : List D) → length (begins_of (map f xs)) ≡ length xs
    count f [] = refl
    count f (x ∷ xs) = ap suc (count f xs)

    at : {D : Type 0} (f : D → KeptDie) (xs : List D) (place : ℕ) (d : D) → place < length xs
        → get_or (begins_of (map f xs)) place (f d).begun ≡ (f (get_or xs place d)).begun
    at f [] place d below = absurd (omega (arith, below))
    at f (x ∷ xs) zero d below = refl
    at f (x ∷ xs) (suc place) d below = at f xs place d (omega (arith, below))

-- Rows

-- dies without an entry took no row
pub none_of_them_taken : (dies : List KeptDie) → All HasEmptyLog dies → HaveTaken (items_of_die []) dies
none_of_them_taken dies empty n = by (slice_get dies n) refl
  where
    by : (o : Option KeptDie) → slice_get dies n ≡ o → IfSome o (HasTaken [])
    by None is = tt
    by (Some x) is = none_taken x (subst HasEmptyLog (get_or_from_slice_get dies n x x is) (empty n x (slice_get_within dies n x is)))

own_more : (items : List ScriptItem) (item : ScriptItem) (die : ℕ) (before after : KeptDie) → item.die ≡ die
    → HasTaken (items_of_die items die) before → TakesRow item before after → HasTaken (items_of_die (items ++ item ∷ []) die) after
own_more items item die before after is h t =
    subst (λ (xs : List ScriptItem). HasTaken xs after) (items_of_own items item die is) (row_more (items_of_die items die) item before after h t)

other_more : (items : List ScriptItem) (item : ScriptItem) (die : ℕ) (at : KeptDie) → (item.die ≡ die → ⊥)
    → HasTaken (items_of_die items die) at → HasTaken (items_of_die (items ++ item ∷ []) die) at
other_more items item die at isnt h = subst (λ (xs : List ScriptItem). HasTaken xs at) (items_of_other items item die isnt) h

-- one die takes a row of its own
pub one_took_row : {D : Type 0} (f : D → KeptDie) (xs : List D) (place : ℕ) (old new : D) (item : ScriptItem) → item.die ≡ place
    → old ≡ get_or xs place old → TakesRow item (f old) (f new) → (items : List ScriptItem) → HaveTaken (items_of_die items) (map f xs)
    → HaveTaken (items_of_die (items ++ item ∷ [])) (map f (set xs place new))
one_took_row f xs place old new item own is taken items h =
    each_set f (λ n. HasTaken (items_of_die items n)) (λ n. HasTaken (items_of_die (items ++ item ∷ []) n)) xs place old new
    (λ n ne x p. other_more items item n x (λ e. ne (sym e ∙ own)) p)
    (λ p. own_more items item place (f old) (f new) own p taken) is h

-- Slots

pub none_carried : (rows : ℕ → List ScriptItem) (slots : ℕ) (dies : List KeptDie) → HaveTaken rows dies → HaveKeptTo 0 rows slots dies
none_carried rows slots dies h n = IfSome_then (slice_get dies n) (h n) (λ x p. record { carried = λ lt. absurd (omega (arith, lt)); taken = λ _. p })

pub one_carried : {D : Type 0} (f : D → KeptDie) (xs : List D) (place slots : ℕ) (old new : D) → old ≡ get_or xs place old
    → HasMoved (slot_moves (slots - now (f old).log)) (f old) (f new) → now (f new).log ≡ max slots (now (f old).log)
    → AreDoneInTime (f new).begun.start.plan (f new).log → (rows : ℕ → List ScriptItem) → HaveKeptTo place rows slots (map f xs)
    → HaveKeptTo (place + 1) rows slots (map f (set xs place new))
one_carried f xs place slots old new is moved there in_time rows h =
    each_set f (λ n. IsKeptTo place n (rows n) slots) (λ n. IsKeptTo (place + 1) n (rows n) slots) xs place old new
    (λ n ne x p. record {
      carried = λ lt. p.carried (omega (arith, lt, ne));
      taken = λ le. p.taken (omega (arith, le));
    })
    (λ p. record {
      carried = λ _. slots_more (rows place) slots (f old) (f new) (p.taken (omega arith)) moved there in_time;
      taken = λ le. absurd (omega (arith, le));
    })
    is h

-- up to a place beyond all dies is up to all
pub kept_up_to : {D : Type 0} (f : D → KeptDie) (rows : ℕ → List ScriptItem) (slots place : ℕ) (xs : List D) → length xs ≤ place
    → HaveKeptTo place rows slots (map f xs) → HaveKeptTo (length xs) rows slots (map f xs)
kept_up_to f rows slots place xs all h n = by (slice_get (map f xs) n) refl (h n)
  where
    by : (o : Option KeptDie) → slice_get (map f xs) n ≡ o → IfSome o (IsKeptTo place n (rows n) slots)
        → IfSome o (IsKeptTo (length xs) n (rows n) slots)
    by None is p = tt
    by (Some die) is p = record {
      carried = λ lt. p.carried (omega (arith, lt, all));
      taken = λ le. absurd (omega (arith, le, length-map xs f, slice_get_within (map f xs) n die is));
    }

pub all_kept : {D : Type 0} (f : D → KeptDie) (items : List ScriptItem) (slots : ℕ) (xs : List D)
    → HaveKeptTo (length xs) (items_of_die items) slots (map f xs) → (number : ℕ)
    → IfSome (slice_get (map f xs) number) (HasKept (items_of_die items number) slots)
all_kept f items slots xs h n = by (slice_get (map f xs) n) refl (h n)
  where
    by : (o : Option KeptDie) → slice_get (map f xs) n ≡ o → IfSome o (IsKeptTo (length xs) n (items_of_die items n) slots)
        → IfSome o (HasKept (items_of_die items n) slots)
    by None is p = tt
    by (Some die) is p = p.carried (omega (arith, length-map xs f, slice_get_within (map f xs) n die is))
