-- A block in erase may show nothing.
use Rattle.std.proofs.Common.{◌≡◌, ◌⊎◌, ℕ, ◌<◌, ◌≤◌, false, List, [], Option, Some, None, length, ap, sym, ◌∙◌, inl}
use Rattle.std.proofs.Common.{inr, arith, get_or, slice_set}
use Rattle.std.proofs.lemmas.Bool.{cases_eq, cases_lt, true≢false}
use Rattle.std.proofs.lemmas.List.{get_or-set_same, get_or-set_other, get_or_past, length-set}
use Rattle.std.proofs.lemmas.Option.{none-some}
use Rattle.slot_types.specs.declared.pages.Place.{Place}
use Rattle.die_log.specs.Model.Flash.{Cells}
use Rattle.power_loss.specs.Labels.{Label, Labels, label_at}
use Rattle.power_loss.specs.Seen.{MaySeeAfter, is_whole}

-- the label in a cell of a block
abbrev row : ℕ → List (Option Label) → Option Label
row k xs = get_or xs k None

pub sees_none_in : (c : Cells) (l : Labels) (b : ℕ) → is_whole c b ≡ false → MaySeeAfter c l (slice_set l.blocks b [])
sees_none_in c l b erasing = record {
  long = length-set {A = List (Option Label)} l.blocks b [];
  whole = λ place whole. other_at place (λ is. true≢false (sym whole ∙ (ap (is_whole c) is ∙ erasing)));
  remains = λ place x e. left_at place x e (cases_eq place.block b) (cases_lt b (length l.blocks));
}
  where
    other_at : (place : Place) → (place.block ≡ b → ⊥) → label_at (slice_set l.blocks b []) place ≡ label_at l.blocks place
    other_at place other = ap (row place.page) (get_or-set_other l.blocks b place.block [] [] other)

    left_at : (place : Place) (x : Label) → label_at (slice_set l.blocks b []) place ≡ Some x → (place.block ≡ b) ⊎ (place.block ≡ b → ⊥)
        → (b < length l.blocks) ⊎ (length l.blocks ≤ b) → label_at l.blocks place ≡ Some x
    left_at place x e (inr other) any = sym (other_at place other) ∙ e
    left_at place x e (inl is) (inl lt) =
        absurd (none-some x (sym (ap (row place.page) (ap (λ i. get_or (slice_set l.blocks b []) i []) is ∙ get_or-set_same l.blocks b [] [] lt)) ∙ e))
    left_at place x e (inl is) (inr past) = absurd (none-some x (sym (ap (row place.page) (ap (λ i. get_or (slice_set l.blocks b []) i []) is
        ∙ get_or_past (slice_set l.blocks b []) b [] (omega (arith, past, length-set {A = List (Option Label)} l.blocks b [])))) ∙ e))
