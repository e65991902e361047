-- Lists that insertion makes, under an order that tells any two keys apart.
use Rattle.std.proofs.Common.{◌≡◌, ℕ, zero, suc, ◌<◌, Bool, true, false, cond, refl, sym, ap, ◌∙◌, arith, List, [], ◌∷◌, length, get_or}
use Rattle.std.proofs.Common.{Contains, ⊎_elim, IsPermutation}
use Rattle.std.proofs.Math.ListN.{set}
use Rattle.std.proofs.lemmas.Bool.{cases_Bool}
use Rattle.std.proofs.lemmas.List.Sorted.{IsPermutation-keeps}
use Rattle.std.proofs.lemmas.List.Edits.{swap_is}
use Rattle.std.specs.List.{AllByRecursion, swap}
use Rattle.due_queue.specs.Queue.{with_key, in_order, IsRising}
use Rattle.due_queue.proofs.Orders.{IsStrict}

-- what holds of each by one fact holds by a weaker one
pub every : {K : Type 0} (P Q : K → Type 0) → ((y : K) → P y → Q y) → (xs : List K) → AllByRecursion P xs → AllByRecursion Q xs
every P Q weaker [] all = tt
every P Q weaker (x ∷ xs) all = (weaker x all.0, every P Q weaker xs all.1)

pub length-inserted : {K : Type 0} (is_before : K → K → Bool) (x : K) (zs : List K) → length (with_key is_before x zs) ≡ suc (length zs)
length-inserted is_before x [] = refl
length-inserted is_before x (z ∷ zs) =
    elim (is_before x z) as (λ v. length (cond v (x ∷ z ∷ zs) (z ∷ with_key is_before x zs)) ≡ suc (suc (length zs)))
    [ true ↦ refl | false ↦ ap suc (length-inserted is_before x zs) ]

pub length-in_order : {K : Type 0} (is_before : K → K → Bool) (xs : List K) → length (in_order is_before xs) ≡ length xs
length-in_order is_before [] = refl
length-in_order is_before (x ∷ xs) = length-inserted is_before x (in_order is_before xs) ∙ ap suc (length-in_order is_before xs)

-- what holds of a key and of each of the list holds of each of the list with it
pub every-inserted : {K : Type 0} (is_before : K → K → Bool) (P : K → Type 0) (x : K) (zs : List K) → P x → AllByRecursion P zs
    → AllByRecursion P (with_key is_before x zs)
every-inserted is_before P x [] here all = (here, tt)
every-inserted is_before P x (z ∷ zs) here all =
    elim (is_before x z) as (λ v. AllByRecursion P (cond v (x ∷ z ∷ zs) (z ∷ with_key is_before x zs)))
    [ true ↦ (here, all) | false ↦ (all.0, every-inserted is_before P x zs here all.1) ]

module _ {K : Type 0} (is_before : K → K → Bool) (order : IsStrict is_before) where
  -- a key that none of the list is before goes to its front
  pub inserted-least : (x : K) (xs : List K) → AllByRecursion (λ y. is_before y x ≡ false) xs → with_key is_before x xs ≡ x ∷ xs
  inserted-least x [] all = refl
  inserted-least x (y ∷ ys) all =
      ⊎_elim
      (λ (e : is_before x y ≡ true). ap (λ v. cond v (x ∷ y ∷ ys) (y ∷ with_key is_before x ys)) e)
      (λ (e : is_before x y ≡ false).
      let same = order.apart x y e all.0 in
      ap (λ v. cond v (x ∷ y ∷ ys) (y ∷ with_key is_before x ys)) e
      ∙ ap (λ l. y ∷ l) (inserted-least x ys all.1)
      ∙ ap (λ k. k ∷ x ∷ ys) (sym same) ∙ ap (λ k. x ∷ k ∷ ys) same)
      (cases_Bool (is_before x y))

  -- two keys in front of a list, in the order that their tests say
  front : (x y : K) (zs : List K) → cond (is_before x y) (x ∷ y ∷ zs) (y ∷ x ∷ zs) ≡ cond (is_before y x) (y ∷ x ∷ zs) (x ∷ y ∷ zs)
  front x y zs =
      ⊎_elim
      (λ (e : is_before x y ≡ true). rw (e, order.one_way x y e) refl)
      (λ (e : is_before x y ≡ false).
      ⊎_elim
      (λ (f : is_before y x ≡ true). rw (e, f) refl)
      (λ (f : is_before y x ≡ false). rw (e, f) (let same = order.apart x y e f in ap (λ k. k ∷ x ∷ zs) (sym same)
      ∙ ap (λ k. x ∷ k ∷ zs) same))
      (cases_Bool (is_before y x)))
      (cases_Bool (is_before x y))

  -- where x is before z and y isn't, y isn't before x
  not_before : (x y z : K) → is_before x z ≡ true → is_before y z ≡ false → is_before y x ≡ false
  not_before x y z e f =
      ⊎_elim
      (λ (g : is_before y x ≡ true). absurd (let h = order.chain y x z g e in cc))
      (λ (g : is_before y x ≡ false). g)
      (cases_Bool (is_before y x))

  pub inserted_comm : (x y : K) (zs : List K) → with_key is_before x (with_key is_before y zs)
      ≡ with_key is_before y (with_key is_before x zs)
  inserted_comm x y [] = front x y []
  inserted_comm x y (z ∷ zs) =
      ⊎_elim
      (λ (e : is_before x z ≡ true).
      ⊎_elim
      (λ (f : is_before y z ≡ true). simp (e, f) (front x y (z ∷ zs)))
      (λ (f : is_before y z ≡ false). let g = not_before x y z e f in simp (e, f, g) refl)
      (cases_Bool (is_before y z)))
      (λ (e : is_before x z ≡ false).
      ⊎_elim
      (λ (f : is_before y z ≡ true). let g = not_before y x z f e in simp (e, f, g) refl)
      (λ (f : is_before y z ≡ false). simp (e, f) (ap (λ l. z ∷ l) (inserted_comm x y zs)))
      (cases_Bool (is_before y z)))
      (cases_Bool (is_before x z))

  -- a key that isn't there leaves the list rising
  pub rising-inserted : (x : K) (zs : List K) → ¬ Contains zs x → IsRising is_before zs → IsRising is_before (with_key is_before x zs)
  rising-inserted x [] absent rising = (tt, tt)
  rising-inserted x (z ∷ zs) absent rising =
      ⊎_elim
      (λ (e : is_before x z ≡ true).
      rw e ((e, every (λ y. is_before z y ≡ true) (λ y. is_before x y ≡ true) (λ y h. order.chain x z y e h) zs rising.0), rising))
      (λ (e : is_before x z ≡ false).
      let above : is_before z x ≡ true =
      ⊎_elim
      (λ (f : is_before z x ≡ true). f)
      (λ (f : is_before z x ≡ false). absurd (absent (0, omega arith, sym (order.apart x z e f))))
      (cases_Bool (is_before z x)) in
      rw e (
        every-inserted is_before (λ y. is_before z y ≡ true) x zs above rising.0,
        rising-inserted x zs (λ found. absent (suc found.0, omega arith, found.2)) rising.1,
      ))
      (cases_Bool (is_before x z))

  -- another key in the place of one
  in_order-set : (xs : List K) (i : ℕ) (v d : K) → i < length xs → with_key is_before (get_or xs i d) (in_order is_before (set xs i v))
      ≡ with_key is_before v (in_order is_before xs)
  in_order-set [] i v d h = absurd (omega arith)
  in_order-set (x ∷ xs) zero v d h = inserted_comm x v (in_order is_before xs)
  in_order-set (x ∷ xs) (suc i) v d h =
      inserted_comm (get_or xs i d) x (in_order is_before (set xs i v))
      ∙ ap (with_key is_before x) (in_order-set xs i v d (omega arith))
      ∙ inserted_comm x v (in_order is_before xs)

  in_order-exchange : (xs : List K) (i j : ℕ) (d : K) → i < length xs → j < length xs
      → in_order is_before (set (set xs i (get_or xs j d)) j (get_or xs i d)) ≡ in_order is_before xs
  in_order-exchange [] i j d p q = absurd (omega arith)
  in_order-exchange (x ∷ xs) zero zero d p q = refl
  in_order-exchange (x ∷ xs) zero (suc j) d p q = in_order-set xs j x d (omega arith)
  in_order-exchange (x ∷ xs) (suc i) zero d p q = in_order-set xs i x d (omega arith)
  in_order-exchange (x ∷ xs) (suc i) (suc j) d p q = ap (with_key is_before x) (in_order-exchange xs i j d (omega arith) (omega arith))

  in_order-swap : (xs : List K) (i j : ℕ) → i < length xs → j < length xs → in_order is_before (swap xs i j) ≡ in_order is_before xs
  in_order-swap [] i j p q = absurd (omega arith)
  in_order-swap (x ∷ xs) i j p q = ap (in_order is_before) (sym (swap_is (x ∷ xs) i j x p q)) ∙ in_order-exchange (x ∷ xs) i j x p q

  -- the order in which the keys lay says nothing
  pub in_order-IsPermutation : (xs ys : List K) → IsPermutation xs ys → in_order is_before ys ≡ in_order is_before xs
  in_order-IsPermutation xs ys = IsPermutation-keeps xs (λ l. in_order is_before l ≡ in_order is_before xs) refl
      (λ l i j p q h. in_order-swap l i j p q ∙ h) ys
