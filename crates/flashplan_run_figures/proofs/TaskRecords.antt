-- Figures of tasks, one after the other.
use Rattle.std.proofs.Common.{◌≡◌, ℕ, zero, suc, ◌+◌, List, [], ◌∷◌, ◌++◌, length, get_or, refl, ap, ◌∙◌, subst, arith, Option, Some, None}
use Rattle.std.specs.Prelude.{IfSome, slice_get}
use Rattle.std.proofs.lemmas.List.{length-append}
use Rattle.std.proofs.lemmas.Option.{get_or_from_slice_get}
use Rattle.flashplan_run_figures.specs.Records.{AreOfTask}
use Rattle.flashplan_run_figures.specs.declared.ends.JobEnd.{JobEnd}
use Rattle.flashplan_run_figures.specs.declared.records.Figures.{Figures}
use Rattle.flashplan_run_figures.specs.declared.slot_counts.SlotCounts.{SlotCounts}

-- what is so of each by its place, and of one more, is so of all
each_push : {X : Type 0} (P : ℕ → X → Type 0) (xs : List X) (x : X) → ((n : ℕ) → IfSome (slice_get xs n) (P n)) → P (length xs) x
    → (n : ℕ) → IfSome (slice_get (xs ++ x ∷ []) n) (P n)
each_push P [] x each last zero = last
each_push P [] x each last (suc n) = tt
each_push P (y ∷ ys) x each last zero = each zero
each_push P (y ∷ ys) x each last (suc n) = each_push (λ k. P (suc k)) ys x (λ k. each (suc k)) last n

-- so it is of the slots of a task that are read there
read_there : (P : SlotCounts → Type 0) (slots : List SlotCounts) (place : ℕ) (own : SlotCounts) → own ≡ get_or slots place own → P own
    → IfSome (slice_get slots place) P
read_there P slots place own is so = by (slice_get slots place) refl
  where
    by : (o : Option SlotCounts) → slice_get slots place ≡ o → IfSome o P
    by None at = tt
    by (Some found) at = subst P (is ∙ get_or_from_slice_get slots place found own at) so

-- the figures of the tasks before a place
pub record AreSoFar (ends : List JobEnd) (slots : List SlotCounts) (place : ℕ) (tasks : List Figures) : Type 0 where
  pub all : length tasks ≡ place
  pub each : (task : ℕ) → IfSome (slice_get tasks task) (λ figures. IfSome (slice_get slots task) (λ own. AreOfTask task ends own figures))

pub none_yet : (ends : List JobEnd) (slots : List SlotCounts) (tasks : List Figures) → tasks ≡ [] → AreSoFar ends slots 0 tasks
none_yet ends slots tasks are = rw are (record { all = refl; each = λ task. tt })

pub one_more : (ends : List JobEnd) (slots : List SlotCounts) (place : ℕ) (own : SlotCounts) (old new : List Figures) (figures : Figures)
    → own ≡ get_or slots place own → AreOfTask place ends own figures → new ≡ old ++ figures ∷ [] → AreSoFar ends slots place old
    → AreSoFar ends slots (place + 1) new
one_more ends slots place own old new figures is are pushed so_far = record {
  all = ap length pushed ∙ omega (arith, length-append old (figures ∷ []), so_far.all);
  each = rw pushed (each_push (λ task f. IfSome (slice_get slots task) (λ o. AreOfTask task ends o f)) old figures so_far.each
      (rw so_far.all (read_there (λ o. AreOfTask place ends o figures) slots place own is are)));
}
