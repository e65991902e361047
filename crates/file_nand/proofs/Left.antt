-- A device in memory whose blocks were filled as something saved says is as it was left for that.
use Rattle.std.proofs.Common.{◌≡◌, ◌≢◌, ◌⊎◌, ℕ, ◌+◌, ◌-◌, ◌<◌, ◌≤◌, Bool, cond, List, length, get_or, map, refl, ap, sym, ◌∙◌, subst, inl, inr, arith}
use Rattle.std.proofs.lemmas.Bool.{cases_eq, cases_lt, ne_eqb}
use Rattle.std.proofs.lemmas.List.{ext_get_or, get_or-map, length-map}
use Rattle.std.proofs.lemmas.List.Elements.{All-get_or}
use Rattle.slot_types.specs.declared.plans.Shape.{Shape}
use Rattle.die_checkpoint.specs.declared.checkpoint.BlockCounts.{BlockCounts}
use Rattle.die_checkpoint.specs.Counts.{counts_at, no_counts}
use Rattle.flash_die.specs.Flash.{Block, block_at, free_block}
use Rattle.flash_volume.specs.Checkpoints.{counts_of}
use Rattle.power_loss.specs.Aside.{on_die, on_part, without_aside}
use Rattle.power_loss.proofs.Aside.Lists.{die_last, die_other, part_aside, part_other, without_at, without_length, without_past}
use Rattle.labelled_nand.specs.Memory.{Marked, block_labels, device_block, device_blocks, device_labels}
use Rattle.saving_nand.specs.Saving.{IsLeftFor}
use Rattle.saving_nand.specs.declared.saved.Saved.{Saved}
use Rattle.file_nand.specs.Opened.{IsFilled, IsOfPart, IsUnerased, filled_on_part}

-- a block of the part that isn't the one aside
filled_other : (last aside : ℕ) (counts : List BlockCounts) (b : ℕ) → b ≢ aside → filled_on_part last aside counts b ≡ (counts_at counts (on_die last aside b)).filled
filled_other last aside counts b n = ap (λ (t : Bool). cond t 0 (counts_at counts (on_die last aside b)).filled) (ne_eqb b aside n)

-- a block of the die is filled on the part as what is saved says
filled_there : (last aside : ℕ) (counts : List BlockCounts) (k : ℕ) → k < last → filled_on_part last aside counts (on_part last aside k) ≡ (counts_at counts k).filled
filled_there last aside counts k lt = by_case (cases_eq k aside)
  where
    by_case : (k ≡ aside) ⊎ (k ≡ aside → ⊥) → filled_on_part last aside counts (on_part last aside k) ≡ (counts_at counts k).filled
    by_case (inl is) =
        ap (filled_on_part last aside counts) (part_aside last aside k is)
        ∙ (filled_other last aside counts last (λ (e : last ≡ aside). omega (arith, e, is, lt))
        ∙ ap (λ (b : ℕ). (counts_at counts b).filled) (die_last last aside last refl ∙ sym is))
    by_case (inr other) =
        ap (filled_on_part last aside counts) (part_other last aside k other)
        ∙ (filled_other last aside counts k other
        ∙ ap (λ (b : ℕ). (counts_at counts b).filled) (die_other last aside k (λ (e : k ≡ last). omega (arith, e, lt))))

part_within : (last aside k : ℕ) → k < last → on_part last aside k < last + 1
part_within last aside k lt = by_case (cases_eq k aside)
  where
    by_case : (k ≡ aside) ⊎ (k ≡ aside → ⊥) → on_part last aside k < last + 1
    by_case (inl is) = omega (arith, part_aside last aside k is)
    by_case (inr other) = omega (arith, part_other last aside k other, lt)

pub left_for : (shape : Shape) (m : Marked) (saved : Saved) → length (device_blocks m) ≡ shape.blocks → IsOfPart shape saved
    → ((b : ℕ) → b < shape.blocks → IsFilled (filled_on_part (shape.blocks - 1) saved.aside saved.checkpoint.blocks b) (block_at (device_blocks m) b))
    → IsLeftFor shape (device_blocks m) (device_labels m) 0 saved
left_for shape m saved count of_part filled = record {
  count = count;
  labelled = length-map m.blocks block_labels ∙ (sym (length-map m.blocks device_block) ∙ count);
  stands = of_part.stands;
  left = record {
    counts = ext_get_or no_counts (map counts_of own) counts (length-map own counts_of ∙ (own_long ∙ sym of_part.count))
        (λ k lt. counted k (omega (arith, lt, length-map own counts_of, own_long)));
    idle = λ b. idle b (cases_lt b last);
    well = refl;
  };
}
  where
    last : ℕ
    last = shape.blocks - 1

    counts : List BlockCounts
    counts = saved.checkpoint.blocks

    own : List Block
    own = without_aside last saved.aside free_block (device_blocks m)

    long : length (device_blocks m) ≡ last + 1
    long = omega (arith, count, of_part.stands)

    own_long : length own ≡ last
    own_long = without_length last saved.aside free_block (device_blocks m) long

    at : (k : ℕ) → k < last → block_at own k ≡ block_at (device_blocks m) (on_part last saved.aside k)
    at k lt = without_at last saved.aside free_block (device_blocks m) k long lt

    there : (k : ℕ) → k < last → IsFilled (filled_on_part last saved.aside counts (on_part last saved.aside k)) (block_at own k)
    there k lt =
        subst (IsFilled (filled_on_part last saved.aside counts (on_part last saved.aside k))) (sym (at k lt))
        (filled (on_part last saved.aside k) (omega (arith, part_within last saved.aside k lt, of_part.stands)))

    counted : (k : ℕ) → k < last → get_or (map counts_of own) k no_counts ≡ get_or counts k no_counts
    counted k lt =
        let f = there k lt in
        let s = All-get_or (IsUnerased shape.pages) counts k no_counts (omega (arith, lt, of_part.count)) of_part.each in
        let many : length (block_at own k).pages ≡ (counts_at counts k).filled = f.filled_is ∙ filled_there last saved.aside counts k lt in
        let none : (block_at own k).erases ≡ (counts_at counts k).erases = f.unerased ∙ sym s.unerased in
        let same : counts_of (block_at own k) ≡ counts_at counts k = λ i. record { filled = many i; erases = none i } in
        get_or-map counts_of own k free_block no_counts (omega (arith, lt, own_long)) ∙ same

    idle : (b : ℕ) → (b < last) ⊎ (last ≤ b) → (block_at own b).erasing ≡ 0
    idle b (inl lt) = (there b lt).idle
    idle b (inr past) = ap (λ (s : Block). s.erasing) (without_past last saved.aside free_block (device_blocks m) b long past)
