-- Sums over the first elements of a list, and over some more.
use Rattle.std.proofs.Common.{◌≡◌, ℕ, zero, suc, ◌+◌, ◌-◌, ◌<◌, ◌≤◌, List, length, get_or, take, sum_by}
use Rattle.std.proofs.Common.{ap, subst, arith}
use Rattle.std.proofs.lemmas.List.Sums.{sum_by_more}

module _ {X : Type 0} (xs : List X) (d : X) (i : ℕ) where
  no_more : i + 0 ≡ i
  no_more = omega arith

  one_more : (n : ℕ) → i + suc n ≡ (i + n) + 1
  one_more n = omega arith

  -- of the elements between, g is no more than f
  grows_less : (f g : X → ℕ) (n : ℕ) → i + n ≤ length xs → ((k : ℕ) → i ≤ k → k < i + n → g (get_or xs k d) ≤ f (get_or xs k d))
      → sum_by g (take (i + n) xs) + sum_by f (take i xs) ≤ sum_by g (take i xs) + sum_by f (take (i + n) xs)
  grows_less f g zero within less = omega (
    arith,
    ap (λ (n : ℕ). sum_by g (take n xs)) no_more,
    ap (λ (n : ℕ). sum_by f (take n xs)) no_more,
  )
  grows_less f g (suc n) within less = omega (
    arith,
    grows_less f g n (omega (arith, within)) (λ k from below. less k from (omega (arith, below))),
    ap (λ (m : ℕ). sum_by g (take m xs)) (one_more n),
    ap (λ (m : ℕ). sum_by f (take m xs)) (one_more n),
    sum_by_more g xs (i + n) d (omega (arith, within)),
    sum_by_more f xs (i + n) d (omega (arith, within)),
    less (i + n) (omega arith) (omega arith),
  )

  pub less_between : (f g : X → ℕ) (j : ℕ) → i ≤ j → j ≤ length xs → ((k : ℕ) → i ≤ k → k < j → g (get_or xs k d) ≤ f (get_or xs k d))
      → sum_by g (take j xs) + sum_by f (take i xs) ≤ sum_by g (take i xs) + sum_by f (take j xs)
  less_between f g j order within less =
      let same : i + (j - i) ≡ j = omega (arith, order) in
      subst (λ (n : ℕ). sum_by g (take n xs) + sum_by f (take i xs) ≤ sum_by g (take i xs) + sum_by f (take n xs)) same
      (grows_less f g (j - i) (omega (arith, same, within)) (λ k from below. less k from (omega (arith, below, same))))

  -- of the elements between, g is nothing
  grows_none : (g : X → ℕ) (n : ℕ) → i + n ≤ length xs → ((k : ℕ) → i ≤ k → k < i + n → g (get_or xs k d) ≡ 0)
      → sum_by g (take (i + n) xs) ≡ sum_by g (take i xs)
  grows_none g zero within none = ap (λ (n : ℕ). sum_by g (take n xs)) no_more
  grows_none g (suc n) within none = omega (
    arith,
    grows_none g n (omega (arith, within)) (λ k from below. none k from (omega (arith, below))),
    ap (λ (m : ℕ). sum_by g (take m xs)) (one_more n),
    sum_by_more g xs (i + n) d (omega (arith, within)),
    none (i + n) (omega arith) (omega arith),
  )

  pub none_between : (g : X → ℕ) (j : ℕ) → i ≤ j → j ≤ length xs → ((k : ℕ) → i ≤ k → k < j → g (get_or xs k d) ≡ 0)
      → sum_by g (take j xs) ≡ sum_by g (take i xs)
  none_between g j order within none =
      let same : i + (j - i) ≡ j = omega (arith, order) in
      subst (λ (n : ℕ). sum_by g (take n xs) ≡ sum_by g (take i xs)) same
      (grows_none g (j - i) (omega (arith, same, within)) (λ k from below. none k from (omega (arith, below, same))))
