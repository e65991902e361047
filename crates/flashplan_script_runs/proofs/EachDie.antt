-- One die among all of them.
use Rattle.std.proofs.Common.{◌≡◌, ℕ, zero, suc, ◌+◌, ◌<◌, ◌≤◌, List, [], ◌∷◌, ◌++◌, get_or, length, map, ap, ◌∙◌, sym, subst, refl, arith, Option, Some, None}
use Rattle.std.specs.Prelude.{All, IfSome, nat_lt, slice_get, if◌then◌else◌}
use Rattle.std.proofs.Math.ListN.{set}
use Rattle.std.proofs.lemmas.Bool.Decides.{nat_tests}
use Rattle.std.proofs.lemmas.List.{length-map}
use Rattle.std.proofs.lemmas.List.Elements.{All-get_or, All-set}
use Rattle.std.proofs.lemmas.Option.{IfSome_then, get_or_from_slice_get, slice_get_within}
use Rattle.die_log.specs.Model.Start.{Start}
use Rattle.flashplan_script_runs.specs.RunningDies.{HasEmptyLog, IsCarriedTo, RunningDie, starts_of}
use Rattle.flashplan_script_runs.specs.ScriptRuns.{EndedRow, HasRun, HaveRun, HaveRunBelow, TakesRow, rows_of_die}
use Rattle.flashplan_script_runs.proofs.DieRows.{none_ran, other_more, own_more, slots_more}

-- what is so of each element, by its place, is so of each after one has changed
each_set : {D X : Type 0} (f : D → X) (P Q : ℕ → X → Type 0) (xs : List D) (place : ℕ) (old new : D)
    → ((n : ℕ) → (n ≡ place → ⊥) → (x : X) → P n x → Q n x) → (P place (f old) → Q place (f new)) → old ≡ get_or xs place old
    → ((n : ℕ) → IfSome (slice_get (map f xs) n) (P n)) → (n : ℕ) → IfSome (slice_get (map f (set xs place new)) n) (Q n)
each_set f P Q [] place old new others this is h n = tt
each_set {D} {X} f P Q (x ∷ xs) zero old new others this is h zero = this (subst (λ (d : D). P 0 (f d)) (sym is) (h zero))
each_set f P Q (x ∷ xs) zero old new others this is h (suc n) =
    IfSome_then (slice_get (map f xs) n) (h (suc n)) (λ y p. others (suc n) (λ e. absurd (omega (arith, e))) y p)
each_set f P Q (x ∷ xs) (suc place) old new others this is h zero = others zero (λ e. absurd (omega (arith, e))) (f x) (h zero)
each_set f P Q (x ∷ xs) (suc place) old new others this is h (suc n) =
    each_set f (λ k. P (suc k)) (λ k. Q (suc k)) xs place old new
    (λ k ne y p. others (suc k) (λ e. ne (omega (arith, e))) y p) this is (λ k. h (suc k)) n

-- so it is of each where it is so of all
each_of : {X : Type 0} (P : X → Type 0) (Q : X → Type 0) (xs : List X) → ((x : X) → P x → Q x) → All P xs → (n : ℕ)
    → IfSome (slice_get xs n) Q
each_of {X} P Q xs so all n = by (slice_get xs n) refl
  where
    by : (o : Option X) → slice_get xs n ≡ o → IfSome o Q
    by None is = tt
    by (Some x) is = so x (subst P (get_or_from_slice_get xs n x x is) (all n x (slice_get_within xs n x is)))

-- where the logs of dies start stays where it does for the one that changes
pub starts_stay : {D : Type 0} (f : D → RunningDie) (xs : List D) (place : ℕ) (old new : D) → (f new).start ≡ (f old).start
    → old ≡ get_or xs place old → starts_of (map f (set xs place new)) ≡ starts_of (map f xs)
starts_stay f [] place old new same is = refl
starts_stay {D} f (x ∷ xs) zero old new same is =
    ap (λ (s : Start). s ∷ starts_of (map f xs)) (same ∙ ap (λ (d : D). (f d).start) is)
starts_stay f (x ∷ xs) (suc place) old new same is =
    ap (λ (l : List Start). (f x).start ∷ l) (starts_stay f xs place old new same is)

-- what is so of each die is so where it is of the one that changes
pub each_stays : {D : Type 0} (P : D → Type 0) (xs : List D) (place : ℕ) (old new : D) → place < length xs → old ≡ get_or xs place old
    → (P old → P new) → All P xs → All P (set xs place new)
each_stays P xs place old new below is stays all =
    All-set P xs place new (stays (subst P (sym is) (All-get_or P xs place old below all))) all

-- Rows

-- dies without an entry ran no row
pub none_of_them_ran : (dies : List RunningDie) → All HasEmptyLog dies → HaveRun (rows_of_die []) 0 dies
none_of_them_ran dies empty = each_of HasEmptyLog (HasRun [] 0) dies none_ran empty

-- one die takes a row of its own
pub one_took_row : {D : Type 0} (f : D → RunningDie) (xs : List D) (place : ℕ) (old new : D) (item : EndedRow) → item.item.die ≡ place
    → old ≡ get_or xs place old → TakesRow item (f old) (f new) → (items : List EndedRow) → HaveRun (rows_of_die items) 0 (map f xs)
    → HaveRun (rows_of_die (items ++ item ∷ [])) 0 (map f (set xs place new))
one_took_row f xs place old new item own is taken items h =
    each_set f (λ n. HasRun (rows_of_die items n) 0) (λ n. HasRun (rows_of_die (items ++ item ∷ []) n) 0) xs place old new
    (λ n ne x p. other_more items item n x (λ e. ne (sym e ∙ own)) p)
    (λ p. own_more items item place (f old) (f new) own p taken) is h

-- Slots

abbrev slots_at : ℕ → ℕ → ℕ → ℕ
slots_at slots place n = if nat_lt n place then slots else 0

same_slots : (slots place n : ℕ) → (n ≡ place → ⊥) → slots_at slots place n ≡ slots_at slots (place + 1) n
same_slots slots place n ne = grind (arith, nat_tests)

no_slots_yet : (slots place : ℕ) → slots_at slots place place ≡ 0
no_slots_yet slots place = grind (arith, nat_tests)

slots_now : (slots place : ℕ) → slots ≡ slots_at slots (place + 1) place
slots_now slots place = grind (arith, nat_tests)

all_slots : (slots place n : ℕ) → n < place → slots_at slots place n ≡ slots
all_slots slots place n below = grind (arith, nat_tests)

pub one_carried : {D : Type 0} (f : D → RunningDie) (xs : List D) (place slots : ℕ) (old new : D) → old ≡ get_or xs place old
    → IsCarriedTo slots (f old) (f new) → (rows : ℕ → List EndedRow) → HaveRunBelow place rows slots (map f xs)
    → HaveRunBelow (place + 1) rows slots (map f (set xs place new))
one_carried f xs place slots old new is carried rows h =
    each_set f (λ n. HasRun (rows n) (slots_at slots place n)) (λ n. HasRun (rows n) (slots_at slots (place + 1) n)) xs place old new
    (λ n ne x p. subst (λ (k : ℕ). HasRun (rows n) k x) (same_slots slots place n ne) p)
    (λ p. subst (λ (k : ℕ). HasRun (rows place) k (f new)) (slots_now slots place)
    (slots_more (rows place) slots (f old) (f new) (subst (λ (k : ℕ). HasRun (rows place) k (f old)) (no_slots_yet slots place) p) carried))
    is h

pub all_carried : {D : Type 0} (f : D → RunningDie) (xs : List D) (slots place : ℕ) → length xs ≤ place → (rows : ℕ → List EndedRow)
    → HaveRunBelow place rows slots (map f xs) → HaveRun rows slots (map f xs)
all_carried f xs slots place all rows h n = by (slice_get (map f xs) n) refl (h n)
  where
    by : (o : Option RunningDie) → slice_get (map f xs) n ≡ o → IfSome o (HasRun (rows n) (slots_at slots place n))
        → IfSome o (HasRun (rows n) slots)
    by None is p = tt
    by (Some die) is p = subst (λ (k : ℕ). HasRun (rows n) k die)
        (all_slots slots place n (omega (arith, length-map xs f, slice_get_within (map f xs) n die is))) p
