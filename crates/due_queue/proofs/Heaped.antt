-- What a heap of pairs holds, before and after a push and a pop.
use Rattle.std.proofs.Common.{◌≡◌, ℕ, ◌<◌, false, sym, ap, subst, ◌∙◌, arith, List, [], ◌∷◌, length, get_or, map, Some, IsPermutation}
use Rattle.std.proofs.lemmas.List.Sorted.{IsPermutation-map}
use Rattle.std.specs.BinaryHeap.{IsUpperBound}
use Rattle.std.specs.List.{AllByRecursion}
use Rattle.std.specs.declared.cmp.Reverse.{Reverse}
use Rattle.due_queue.specs.Queue.{first_of}
use Rattle.due_queue.specs.Pairs.{is_pair_before}
use Rattle.due_queue.specs.Heaps.{pairs_in, reverse_cmp}
use Rattle.due_queue.proofs.Orders.{pairs_strict, reverse_cmp-is_lt}
use Rattle.due_queue.proofs.Inserted.{in_order-IsPermutation, inserted-least, every-inserted}

abbrev pub Item : Type 0
Item = Reverse (ℕ × ℕ)

pub pairs_in-IsPermutation : (xs ys : List Item) → IsPermutation xs ys → pairs_in ys ≡ pairs_in xs
pairs_in-IsPermutation xs ys h =
    in_order-IsPermutation is_pair_before pairs_strict (map (λ (item : Item). item.0) xs) (map (λ (item : Item). item.0) ys)
    (IsPermutation-map (λ (item : Item). item.0) xs ys h)

-- the greatest of a heap is the least pair
least : (x : Item) (ys : List Item) → IsUpperBound reverse_cmp x ys → AllByRecursion (λ p. is_pair_before p x.0 ≡ false) (pairs_in ys)
least x [] h = tt
least x (y ∷ ys) h =
    every-inserted is_pair_before (λ p. is_pair_before p x.0 ≡ false) y.0 (pairs_in ys) (sym (reverse_cmp-is_lt x y) ∙ h.0) (least x ys h.1)

pub pairs_in-greatest : (x : Item) (ys : List Item) → IsUpperBound reverse_cmp x ys → pairs_in (x ∷ ys) ≡ x.0 ∷ pairs_in ys
pairs_in-greatest x ys h = inserted-least is_pair_before pairs_strict x.0 (pairs_in ys) (least x ys h)

-- what a pop leaves and gives
pub pairs_in-popped : (xs ys : List Item) (x : Item) → IsPermutation xs (x ∷ ys) → IsUpperBound reverse_cmp x ys → pairs_in xs ≡ x.0
    ∷ pairs_in ys
pairs_in-popped xs ys x moved greatest = sym (pairs_in-IsPermutation xs (x ∷ ys) moved) ∙ pairs_in-greatest x ys greatest

-- what lies on top
pub first_of-pairs_in : (xs : List Item) (x : Item) → 0 < length xs → x ≡ get_or xs 0 x → IsUpperBound reverse_cmp x xs
    → first_of (pairs_in xs) ≡ Some x.0
first_of-pairs_in [] x some top greatest = absurd (omega arith)
first_of-pairs_in (y ∷ ys) x some top greatest =
    let under : IsUpperBound reverse_cmp y ys = subst (λ z. IsUpperBound reverse_cmp z ys) top greatest.1 in
    ap first_of (pairs_in-greatest y ys under) ∙ ap (λ (item : Item). Some item.0) (sym top)
