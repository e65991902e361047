-- Lists by number, of which one element changes.
use Rattle.std.proofs.Common.{◌≡◌, ◌≢◌, ◌⊎◌, ℕ, ◌<◌, List, length, map, get_or, set, ap, sym, ◌∙◌, inl, inr, arith}
use Rattle.std.specs.List.{range_with_len}
use Rattle.std.proofs.lemmas.Bool.{cases_eq}
use Rattle.std.proofs.lemmas.List.{get_or-set_same, get_or-set_other, length-set}
use Rattle.std.proofs.lemmas.List.FromFn.{length-map-range_with_len, get_or-map-range_with_len, fill_by_all}

module _ {A : Type 0} (none : A) (n : ℕ) (before after : ℕ → A) where
  pub same_numbered : ((k : ℕ) → k < n → after k ≡ before k) → map after (range_with_len 0 n) ≡ map before (range_with_len 0 n)
  same_numbered same =
      sym (fill_by_all after (map before (range_with_len 0 n)) n none (length-map-range_with_len before 0 n)
      (λ k less. get_or-map-range_with_len before 0 n k k none less (omega arith) ∙ sym (same k less)))

  pub one_numbered : (b : ℕ) (new : A) → b < n → after b ≡ new → ((k : ℕ) → k < n → k ≢ b → after k ≡ before k)
      → map after (range_with_len 0 n) ≡ set (map before (range_with_len 0 n)) b new
  one_numbered b new lt here others =
      sym (fill_by_all after (set (map before (range_with_len 0 n)) b new) n none
      (length-set (map before (range_with_len 0 n)) b new ∙ length-map-range_with_len before 0 n) (λ k less. at k less (cases_eq k b)))
    where
      at : (k : ℕ) → k < n → (k ≡ b) ⊎ (k ≡ b → ⊥) → get_or (set (map before (range_with_len 0 n)) b new) k none ≡ after k
      at k less (inl same) =
          ap (λ (j : ℕ). get_or (set (map before (range_with_len 0 n)) b new) j none) same
          ∙ (get_or-set_same (map before (range_with_len 0 n)) b new none (omega (arith, lt, length-map-range_with_len before 0 n))
          ∙ (sym here ∙ ap after (sym same)))
      at k less (inr other) =
          get_or-set_other (map before (range_with_len 0 n)) b k new none other
          ∙ (get_or-map-range_with_len before 0 n k k none less (omega arith) ∙ sym (others k less other))
