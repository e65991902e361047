-- One act keeps cells sound.
use Rattle.std.proofs.Common.{◌≡◌, ◌≢◌, ◌⊎◌, ℕ, ◌+◌, ◌<◌, ◌≤◌, List, Option, Some, None, refl, ap, sym, ◌∙◌, subst, inl, inr, arith, length}
use Rattle.std.proofs.Common.{option_map, get_or}
use Rattle.std.proofs.lemmas.Bool.{cases_eq}
use Rattle.std.proofs.lemmas.Option.{none-some}
use Rattle.slot_types.specs.Places.{place_of}
use Rattle.slot_types.specs.declared.plans.DiePlan.{DiePlan}
use Rattle.slot_types.specs.declared.pages.Place.{Place}
use Rattle.die_log.specs.Model.Flash.{Cells, Block, free_block, block_at, block_of_page}
use Rattle.die_log.specs.Invariants.SoundCells.{IsOpen, IsClosed, IsUnplaced, AreSoundCells, IsProgram, IsTrim, IsEraseSlot}

-- a page is placed in a block
pub in_block : (c : Cells) (page b : ℕ) (q : Place) → place_of c.places page ≡ Some q → q.block ≡ b → block_of_page c page ≡ Some b
in_block c page b q e is = ap (option_map (λ (r : Place). r.block)) e ∙ ap Some is

placed_by : (o : Option Place) (b : ℕ) → option_map (λ (r : Place). r.block) o ≡ Some b → (q : Place) × (o ≡ Some q) × (q.block ≡ b)
placed_by None b e = absurd cc
placed_by (Some q) b e = (q, refl, grind arith)

pub of_block : (c : Cells) (page b : ℕ) → block_of_page c page ≡ Some b → (q : Place) × (place_of c.places page ≡ Some q) × (q.block ≡ b)
of_block c page b e = placed_by (place_of c.places page) b e

-- Programs

-- the block with room isn't in erase
pub open_idle : (plan : DiePlan) (c : Cells) (b : ℕ) → AreSoundCells plan c → (block_at c b).filled < plan.shape.pages → (block_at c b).erasing
    ≡ 0
open_idle plan c b s room = by_count ((block_at c b).erasing) refl
  where
    by_count : (n : ℕ) → (block_at c b).erasing ≡ n → n ≡ 0
    by_count n e = (elim (cases_eq n 0) as (λ x. n ≡ 0) [ inl z ↦ z | inr z ↦ absurd (omega (arith, (s.erasing b (omega arith)).1)) ])

stays_by : (c : Cells) (page b p a : ℕ) (q : Place) → a ≢ b → q.block ≡ a
    → ((p ≡ page) × (q.block ≡ b) × (q.page ≡ (block_at c b).filled)) ⊎ ((p ≢ page) × (place_of c.places p ≡ Some q)) → (p ≢ page)
    × (block_of_page c p ≡ Some a)
stays_by c page b p a q other is (inl h) = absurd (other (sym is ∙ h.1))
stays_by c page b p a q other is (inr h) = (h.0, in_block c p a q h.1 is)

-- who is placed in another block after a program was there before, and isn't the page that was programmed
pub program_stays : (plan : DiePlan) (page b : ℕ) (c d : Cells) → IsProgram plan page b c d → (a p : ℕ) → a ≢ b → block_of_page d p ≡ Some a
    → (p ≢ page) × (block_of_page c p ≡ Some a)
program_stays plan page b c d w a p other e =
    let h = of_block d p a e in
    stays_by c page b p a h.0 other h.2 (w.moved p h.0 h.1)

filled_more : (plan : DiePlan) (page b : ℕ) (c d : Cells) → IsProgram plan page b c d → (a : ℕ) → (a ≡ b) ⊎ (a ≡ b → ⊥)
    → (block_at c a).filled ≤ (block_at d a).filled
filled_more plan page b c d w a (inl e) = rw e (omega (arith, w.filled))
filled_more plan page b c d w a (inr other) = rw (w.others a other) (omega arith)

within_more : (plan : DiePlan) (page b : ℕ) (c d : Cells) → AreSoundCells plan c → IsProgram plan page b c d → (a : ℕ) → (a ≡ b) ⊎ (a ≡ b → ⊥)
    → (block_at d a).filled ≤ plan.shape.pages
within_more plan page b c d s w a (inl e) = rw e (omega (arith, w.filled, w.room))
within_more plan page b c d s w a (inr other) = rw (w.others a other) (s.within a)

placed_more : (plan : DiePlan) (page b : ℕ) (c d : Cells) → AreSoundCells plan c → IsProgram plan page b c d → (p : ℕ) (q : Place)
    → ((p ≡ page) × (q.block ≡ b) × (q.page ≡ (block_at c b).filled)) ⊎ ((p ≢ page) × (place_of c.places p ≡ Some q)) → q.page
    < (block_at d q.block).filled
placed_more plan page b c d s w p q (inl h) = rw h.1 (omega (arith, w.filled, h.2))
placed_more plan page b c d s w p q (inr h) = omega (arith, s.placed p q h.1, filled_more plan page b c d w q.block (cases_eq q.block b))

-- a new place is above all that its block had
above_old : (plan : DiePlan) (c : Cells) (p b k : ℕ) (q : Place) → AreSoundCells plan c → place_of c.places p ≡ Some q → q.block ≡ b → q.page
    ≡ (block_at c b).filled → ⊥
above_old plan c p b k q s e is at =
    let lt : q.page < (block_at c b).filled = subst (λ (x : ℕ). q.page < (block_at c x).filled) is (s.placed p q e) in
    omega arith

apart_more : (plan : DiePlan) (page b : ℕ) (c : Cells) → AreSoundCells plan c → (p o : ℕ) (q r : Place)
    → ((p ≡ page) × (q.block ≡ b) × (q.page ≡ (block_at c b).filled)) ⊎ ((p ≢ page) × (place_of c.places p ≡ Some q))
    → ((o ≡ page) × (r.block ≡ b) × (r.page ≡ (block_at c b).filled)) ⊎ ((o ≢ page) × (place_of c.places o ≡ Some r))
    → q.block ≡ r.block → q.page ≡ r.page → p ≡ o
apart_more plan page b c s p o q r (inl h) (inl k) x y = h.0 ∙ sym k.0
apart_more plan page b c s p o q r (inl h) (inr k) x y = absurd (above_old plan c o b 0 r s k.1 (sym x ∙ h.1) (sym y ∙ h.2))
apart_more plan page b c s p o q r (inr h) (inl k) x y = absurd (above_old plan c p b 0 q s h.1 (x ∙ k.1) (y ∙ k.2))
apart_more plan page b c s p o q r (inr h) (inr k) x y = s.apart p o q r h.1 k.1 x y

opened_is : (plan : DiePlan) (page b : ℕ) (c d : Cells) → IsProgram plan page b c d → (a : ℕ) → IsOpen plan d a → (a ≡ b) ⊎ (a ≡ b → ⊥) → a
    ≡ b
opened_is plan page b c d w a h (inl e) = e
opened_is plan page b c d w a h (inr other) = w.alone a (rw (w.others a other) at h)

erasing_more : (plan : DiePlan) (page b : ℕ) (c d : Cells) → AreSoundCells plan c → IsProgram plan page b c d → (a : ℕ) → 0
    < (block_at d a).erasing → (a ≡ b) ⊎ (a ≡ b → ⊥)
    → ((block_at d a).erasing < plan.shape.erase_slots) × IsClosed plan d a × IsUnplaced d a
erasing_more plan page b c d s w a h (inl e) =
    let here : 0 < (block_at d b).erasing = subst (λ (x : ℕ). 0 < (block_at d x).erasing) e h in
    absurd (omega (arith, w.erasing, open_idle plan c b s w.room))
erasing_more plan page b c d s w a h (inr other) =
    let same : block_at d a ≡ block_at c a = w.others a other in
    let old = s.erasing a (subst (λ (x : Block). 0 < x.erasing) same h) in
    (rw same old.0, rw same old.1, λ p e. old.2 p (program_stays plan page b c d w a p other e).1)

-- a program keeps cells sound
pub program_sound : (plan : DiePlan) (page b : ℕ) (c d : Cells) → AreSoundCells plan c → IsProgram plan page b c d → AreSoundCells plan d
program_sound plan page b c d s w = record {
  blocks = w.blocks ∙ s.blocks;
  places = w.places ∙ s.places;
  within = λ a. within_more plan page b c d s w a (cases_eq a b);
  placed = λ p q e. placed_more plan page b c d s w p q (w.moved p q e);
  apart = λ p o q r e f. apart_more plan page b c s p o q r (w.moved p q e) (w.moved o r f);
  one_open = λ x y h k. opened_is plan page b c d w x h (cases_eq x b) ∙ sym (opened_is plan page b c d w y k (cases_eq y b));
  erasing = λ a h. erasing_more plan page b c d s w a h (cases_eq a b);
}

-- Trims

-- who is placed after a trim was there before, and isn't the page that was trimmed
pub trim_stays : (page : ℕ) (c d : Cells) → IsTrim page c d → (a p : ℕ) → block_of_page d p ≡ Some a → (p ≢ page)
    × (block_of_page c p ≡ Some a)
trim_stays page c d w a p e =
    let h = of_block d p a e in (
      λ is. none-some h.0 (sym w.gone ∙ subst (λ (x : ℕ). place_of d.places x ≡ Some h.0) is h.1),
      in_block c p a h.0 (w.others p h.0 h.1)
          h.2,
    )

pub trimmed_block : (page : ℕ) (c d : Cells) → IsTrim page c d → (a : ℕ) → block_at d a ≡ block_at c a
trimmed_block page c d w a = ap (λ (bs : List Block). get_or bs a free_block) w.blocks

-- a trim keeps cells sound
pub trim_sound : (plan : DiePlan) (page : ℕ) (c d : Cells) → AreSoundCells plan c → IsTrim page c d → AreSoundCells plan d
trim_sound plan page c d s w = record {
  blocks = ap length w.blocks ∙ s.blocks;
  places = w.places ∙ s.places;
  within = λ a. rw (trimmed_block page c d w a) (s.within a);
  placed = λ p q e. rw (trimmed_block page c d w q.block) (s.placed p q (w.others p q e));
  apart = λ p o q r e f. s.apart p o q r (w.others p q e) (w.others o r f);
  one_open = λ x y h k. s.one_open x y (rw (trimmed_block page c d w x) at h) (rw (trimmed_block page c d w y) at k);
  erasing = λ a h.
      let same : block_at d a ≡ block_at c a = trimmed_block page c d w a in
      let old = s.erasing a (subst (λ (x : Block). 0 < x.erasing) same h) in
      (rw same old.0, rw same old.1, λ p e. old.2 p (trim_stays page c d w a p e).1);
}

-- Erases

abbrev Slot : DiePlan → ℕ → Cells → Cells → Type 0
Slot plan b c d = (((block_at c b).erasing + 1 ≡ plan.shape.erase_slots) × ((block_at d b).filled ≡ 0) × ((block_at d b).erasing ≡ 0))
    ⊎ (((block_at c b).erasing + 1 ≢ plan.shape.erase_slots) × ((block_at d b).filled ≡ (block_at c b).filled)
    × ((block_at d b).erasing ≡ (block_at c b).erasing + 1))

-- no erase moves a page
pub erase_places : (plan : DiePlan) (b : ℕ) (c d : Cells) → IsEraseSlot plan b c d → (p : ℕ) → place_of d.places p ≡ place_of c.places p
erase_places plan b c d w p = ap (λ (ps : List (Option Place)). place_of ps p) w.places

pub erase_stays : (plan : DiePlan) (b : ℕ) (c d : Cells) → IsEraseSlot plan b c d → (p : ℕ) → block_of_page d p ≡ block_of_page c p
erase_stays plan b c d w p = ap (option_map (λ (r : Place). r.block)) (erase_places plan b c d w p)

erased_within : (plan : DiePlan) (b : ℕ) (c d : Cells) → AreSoundCells plan c → IsEraseSlot plan b c d → (a : ℕ) → Slot plan b c d → (a ≡ b)
    ⊎ (a ≡ b → ⊥) → (block_at d a).filled ≤ plan.shape.pages
erased_within plan b c d s w a (inl h) (inl e) = rw e (omega (arith, h.1))
erased_within plan b c d s w a (inr h) (inl e) = rw e (omega (arith, h.1, s.within b))
erased_within plan b c d s w a h (inr other) = rw (w.others a other) (s.within a)

erased_placed : (plan : DiePlan) (b : ℕ) (c d : Cells) → AreSoundCells plan c → IsUnplaced c b → IsEraseSlot plan b c d → (p : ℕ) (q : Place)
    → place_of c.places p ≡ Some q
    → (q.block ≡ b) ⊎ (q.block ≡ b → ⊥) → q.page < (block_at d q.block).filled
erased_placed plan b c d s none w p q e (inl is) = absurd (none p (in_block c p b q e is))
erased_placed plan b c d s none w p q e (inr other) = rw (w.others q.block other) (s.placed p q e)

-- whoever is open after an erase slot of a closed block was so before
erased_open : (plan : DiePlan) (b : ℕ) (c d : Cells) → IsClosed plan c b → IsEraseSlot plan b c d → (a : ℕ) → IsOpen plan d a
    → Slot plan b c d → (a ≡ b) ⊎ (a ≡ b → ⊥) → IsOpen plan c a
erased_open plan b c d closed w a h (inl k) (inl e) = let here : IsOpen plan d b = subst (IsOpen plan d) e h in absurd
    (omega (arith, here.0, k.1))
erased_open plan b c d closed w a h (inr k) (inl e) = let here : IsOpen plan d b = subst (IsOpen plan d) e h in absurd
    (omega (arith, here.1, k.1, closed))
erased_open plan b c d closed w a h k (inr other) = rw (w.others a other) at h

erased_erasing : (plan : DiePlan) (b : ℕ) (c d : Cells) → AreSoundCells plan c → IsClosed plan c b → IsUnplaced c b → IsEraseSlot plan b c d
    → (a : ℕ) → 0 < (block_at d a).erasing
    → Slot plan b c d → (block_at c b).erasing < plan.shape.erase_slots → (a ≡ b) ⊎ (a ≡ b → ⊥)
    → ((block_at d a).erasing < plan.shape.erase_slots) × IsClosed plan d a × IsUnplaced d a
erased_erasing plan b c d s closed none w a h (inl k) lt (inl e) =
    let here : 0 < (block_at d b).erasing = subst (λ (x : ℕ). 0 < (block_at d x).erasing) e h in
    absurd (omega (arith, k.2))
erased_erasing plan b c d s closed none w a h (inr k) lt (inl e) =
    let less : (block_at d b).erasing < plan.shape.erase_slots = omega (arith, k.0, k.2) in
    (rw e less, rw e (k.1 ∙ closed), rw e (λ p x. none p (sym (erase_stays plan b c d w p) ∙ x)))
erased_erasing plan b c d s closed none w a h k lt (inr other) =
    let same : block_at d a ≡ block_at c a = w.others a other in
    let old = s.erasing a (subst (λ (x : Block). 0 < x.erasing) same h) in
    (rw same old.0, rw same old.1, λ p x. old.2 p (sym (erase_stays plan b c d w p) ∙ x))

-- a block whose erase runs, or hasn't begun, has an erase slot left
pub erase_left : (plan : DiePlan) (c : Cells) (b : ℕ) → 0 < plan.shape.erase_slots → AreSoundCells plan c → (block_at c b).erasing
    < plan.shape.erase_slots
erase_left plan c b more s = by_eq (cases_eq ((block_at c b).erasing) 0)
  where
    by_eq : ((block_at c b).erasing ≡ 0) ⊎ ((block_at c b).erasing ≡ 0 → ⊥) → (block_at c b).erasing < plan.shape.erase_slots
    by_eq (inl e) = omega arith
    by_eq (inr e) = (s.erasing b (omega arith)).0

-- a slot of the erase of a closed block, in which no page is placed, keeps cells sound
pub erase_sound : (plan : DiePlan) (b : ℕ) (c d : Cells) → 0 < plan.shape.erase_slots → AreSoundCells plan c → IsClosed plan c b → IsUnplaced c b
    → IsEraseSlot plan b c d → AreSoundCells plan d
erase_sound plan b c d more s closed none w = record {
  blocks = w.blocks ∙ s.blocks;
  places = ap length w.places ∙ s.places;
  within = λ a. erased_within plan b c d s w a w.slot (cases_eq a b);
  placed = λ p q e. erased_placed plan b c d s none w p q (sym (erase_places plan b c d w p) ∙ e) (cases_eq q.block b);
  apart = λ p o q r e f. s.apart p o q r (sym (erase_places plan b c d w p) ∙ e) (sym (erase_places plan b c d w o) ∙ f);
  one_open = λ x y h k. s.one_open x y (erased_open plan b c d closed w x h w.slot (cases_eq x b))
      (erased_open plan b c d closed w y k w.slot (cases_eq y b));
  erasing = λ a h. erased_erasing plan b c d s closed none w a h w.slot (erase_left plan c b more s) (cases_eq a b);
}
