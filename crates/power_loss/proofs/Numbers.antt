-- A number above all that are seen.
use Rattle.std.proofs.Common.{◌≡◌, ℕ, zero, suc, ◌+◌, ◌<◌, ◌≤◌, List, [], ◌∷◌, Option, Some, None, ap, arith, get_or}
use Rattle.std.proofs.lemmas.Option.{same_Some, none-some}
use Rattle.power_loss.specs.Labels.{Label, Shown, labels_in}
use Rattle.power_loss.specs.Recovery.{IsAbove}

above_label : Option Label → ℕ
above_label None = 0
above_label (Some x) = x.serial + 1

above_cells : List (Option Label) → ℕ
above_cells [] = 0
above_cells (x ∷ xs) = above_label x + above_cells xs

above_all : Shown → ℕ
above_all [] = 0
above_all (xs ∷ blocks) = above_cells xs + above_all blocks

in_label : (o : Option Label) (x : Label) → o ≡ Some x → x.serial < above_label o
unfolding above_label
in_label None x e = absurd (none-some x e)
in_label (Some y) x e = let same : y.serial ≡ x.serial = ap (λ (z : Label). z.serial) (same_Some y x e) in omega arith

in_cells : (xs : List (Option Label)) (k : ℕ) (x : Label) → get_or xs k None ≡ Some x → x.serial < above_cells xs
unfolding above_cells
in_cells [] k x e = absurd (none-some x e)
in_cells (o ∷ xs) zero x e = omega (arith, in_label o x e)
in_cells (o ∷ xs) (suc k) x e = omega (arith, in_cells xs k x e)

in_all : (blocks : Shown) (b k : ℕ) (x : Label) → get_or (labels_in blocks b) k None ≡ Some x → x.serial < above_all blocks
unfolding above_all
in_all [] b k x e = absurd (none-some x e)
in_all (xs ∷ blocks) zero k x e = omega (arith, in_cells xs k x e)
in_all (xs ∷ blocks) (suc b) k x e = omega (arith, in_all blocks b k x e)

pub some_above : (seen : Shown) (known : ℕ → ℕ) (n : ℕ) → ((page : ℕ) → known page ≤ n) → (next : ℕ) × IsAbove seen known next
some_above seen known n below = (
  above_all seen + n,
  record {
    labels = λ q x e. let lt = in_all seen q.block q.page x e in omega arith;
    counts = λ page. omega (arith, below page);
  },
)
