-- What a join does to the numbers of a pass, and to the count of passes that it knows.
use Rattle.std.proofs.Common.{◌≡◌, ℕ, ◌+◌, ◌∷◌, ◌++◌, length, length-append, sym, ap, subst, arith}
use mathlib.Core.Logic.{dite}
use native.Mathlib.Decide.{ℕ_discrete}
use Rattle.turn_lock.specs.declared.view.View.{View}
use Rattle.turn_lock.specs.Log.{times}
use Rattle.turn_lock.specs.Views.{joined_view}
use Rattle.turn_lock.proofs.Counts.{times_append}
use Rattle.turn_lock.specs.Views.{CountsOwn}

module _ {E R A : Type 0} (v o w : View E R A) where
  pub owns_joined : w ≡ joined_view v o → CountsOwn v → CountsOwn o → CountsOwn w
  owns_joined is here there = subst (λ (x : View E R A). CountsOwn x) (sym is) (λ p h.
      let both = times_append p (v.number ∷ v.joined) (o.number ∷ o.joined) in
      dite (ℕ_discrete (times p (v.number ∷ v.joined)) 0)
      (λ none_here. let below = there p (omega arith) in omega arith)
      (λ some_here. let below = here p (omega arith) in omega arith))

  pub joined_count : (n m : ℕ) → w ≡ joined_view v o → n ≡ length v.joined → m ≡ length o.joined → n + m + 1 ≡ length w.joined
  joined_count n m is here there =
      let both = length-append v.joined (o.number ∷ o.joined) in
      let l : length w.joined ≡ length (v.joined ++ o.number ∷ o.joined) = ap (λ (x : View E R A). length x.joined) is in omega arith
