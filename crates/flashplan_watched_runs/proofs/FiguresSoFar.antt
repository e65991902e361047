-- The figures of dies, one after the other.
use Rattle.std.proofs.Common.{◌≡◌, ◌∙◌, ap, sym, subst, ℕ, zero, suc, ◌+◌, List, [], ◌∷◌, ◌++◌, get_or, length, map, refl, arith}
use Rattle.std.specs.Prelude.{IfSome, slice_get}
use Rattle.std.proofs.lemmas.List.{length-append, length-map}
use Rattle.flashplan_run_figures.specs.declared.lives.Life.{Life}
use Rattle.flashplan_run_figures.specs.declared.records.Records.{Records}
use Rattle.flashplan_script_runs.specs.RunningDies.{RunningDie}
use Rattle.flashplan_script_runs.specs.declared.refused.RefusedRow.{RefusedRow}
use Rattle.flashplan_watched_runs.specs.Figures.{AreFiguresOf, HaveFigures}

-- what is so of each by its place, and of one more, is so of all
each_push : {X : Type 0} (P : ℕ → X → Type 0) (xs : List X) (x : X) → ((n : ℕ) → IfSome (slice_get xs n) (P n)) → P (length xs) x
    → (n : ℕ) → IfSome (slice_get (xs ++ x ∷ []) n) (P n)
each_push P [] x each last zero = last
each_push P [] x each last (suc n) = tt
each_push P (y ∷ ys) x each last zero = each zero
each_push P (y ∷ ys) x each last (suc n) = each_push (λ k. P (suc k)) ys x (λ k. each (suc k)) last n

-- so it is of what is read there
read_there : {D X : Type 0} (f : D → X) (P : X → Type 0) (xs : List D) (place : ℕ) (own : D) → own ≡ get_or xs place own → P (f own)
    → IfSome (slice_get (map f xs) place) P
read_there f P [] place own is so = tt
read_there {D} f P (x ∷ xs) zero own is so = subst (λ (d : D). P (f d)) is so
read_there f P (x ∷ xs) (suc place) own is so = read_there f P xs place own is so

-- the figures of the dies before a place
pub record AreSoFar (refused : List RefusedRow) (life : Life) (dies : List RunningDie) (place : ℕ) (all : List Records) : Type 0 where
  pub count : length all ≡ place
  pub each : (number : ℕ) → IfSome (slice_get all number) (λ figures.
      IfSome (slice_get dies number) (λ die. AreFiguresOf number refused life die figures))

pub none_yet : (refused : List RefusedRow) (life : Life) (dies : List RunningDie) (all : List Records) → all ≡ []
    → AreSoFar refused life dies 0 all
none_yet refused life dies all are = rw are (record { count = refl; each = λ number. tt })

pub one_more : {D : Type 0} (f : D → RunningDie) (refused : List RefusedRow) (life : Life) (xs : List D) (place : ℕ) (own : D) (old new : List Records)
    (figures : Records) → own ≡ get_or xs place own → AreFiguresOf place refused life (f own) figures → new ≡ old ++ figures ∷ []
    → AreSoFar refused life (map f xs) place old → AreSoFar refused life (map f xs) (place + 1) new
one_more f refused life xs place own old new figures is are pushed so_far = record {
  count = ap length pushed ∙ omega (arith, length-append old (figures ∷ []), so_far.count);
  each = rw pushed (each_push (λ n r. IfSome (slice_get (map f xs) n) (λ die. AreFiguresOf n refused life die r)) old figures so_far.each
      (rw so_far.count (read_there f (λ die. AreFiguresOf place refused life die figures) xs place own is are)));
}

pub all_told : {D : Type 0} (f : D → RunningDie) (refused : List RefusedRow) (life : Life) (xs : List D) (place : ℕ) (all : List Records)
    → place ≡ length xs → AreSoFar refused life (map f xs) place all → HaveFigures refused life (map f xs) all
all_told f refused life xs place all is so_far = record {
  all = so_far.count ∙ (is ∙ sym (length-map xs f));
  each = so_far.each;
}
