-- Cells whose blocks have other numbers are as sound, and as labelled.
use Rattle.std.proofs.Common.{◌≡◌, ◌⊎◌, ℕ, ◌<◌, ◌≤◌, List, [], length, Option, Some, None, refl, ap, sym, ◌∙◌, inl, inr}
use Rattle.std.proofs.Common.{arith}
use Rattle.std.proofs.Common.{get_or}
use Rattle.std.specs.Prelude.{option_map}
use Rattle.std.proofs.lemmas.Option.{none-some}
use Rattle.slot_types.specs.Places.{place_of}
use Rattle.slot_types.specs.declared.plans.DiePlan.{DiePlan}
use Rattle.slot_types.specs.declared.pages.PageData.{PageData}
use Rattle.slot_types.specs.declared.pages.Place.{Place}
use Rattle.die_log.specs.Model.Flash.{Block, Cells, block_at}
use Rattle.die_log.specs.Invariants.SoundCells.{AreSoundCells, IsClosed, IsOpen, IsUnplaced}
use Rattle.die_log.proofs.Cells.Acts.{in_block, of_block}
use Rattle.power_loss.specs.Aside.{renumbered}
use Rattle.power_loss.specs.Labels.{Label, Labels, Shown, labels_in, label_at, IsNewest, AreLabelled}
use Rattle.power_loss.specs.Recovery.{IsRecoverable}
use Rattle.power_loss.proofs.Steps.{cell, same_place}

-- a block of the one that the other doesn't have: nothing is programmed in it
pub record IsNobodys (s : Block) (labels : List (Option Label)) : Type 0 where
  pub unfilled : s.filled ≡ 0
  pub idle : s.erasing ≡ 0
  pub none : labels ≡ []

-- a block of the one is one of the other, and back again
pub record IsThe (s t : Block) (own other : List (Option Label)) (back number : ℕ) : Type 0 where
  pub filled : s.filled ≡ t.filled
  pub erasing : s.erasing ≡ t.erasing
  pub labels : own ≡ other
  pub back_again : back ≡ number

-- the blocks of d and m are those of c and l, with other numbers, except for some in which nothing is programmed
pub record AreRenumbered (to from : ℕ → ℕ) (c d : Cells) (l m : Shown) : Type 0 where
  pub here : (b : ℕ) → IsNobodys (block_at d b) (labels_in m b)
      ⊎ IsThe (block_at d b) (block_at c (from b)) (labels_in m b) (labels_in l (from b)) (to (from b)) b
  pub there : (b : ℕ) → IsNobodys (block_at c b) (labels_in l b)
      ⊎ IsThe (block_at d (to b)) (block_at c b) (labels_in m (to b)) (labels_in l b) (from (to b)) b
  pub places : (page : ℕ) → place_of d.places page ≡ option_map (renumbered to) (place_of c.places page)

pub nobodys : (s : Block) (labels : List (Option Label)) → s.filled ≡ 0 → s.erasing ≡ 0 → labels ≡ [] → IsNobodys s labels
nobodys s labels a b e = record { unfilled = a; idle = b; none = e }

pub the : (s t : Block) (own other : List (Option Label)) (back number : ℕ) → s ≡ t → own ≡ other → back ≡ number → IsThe s t own other back number
the s t own other back number a b e =
    record { filled = ap (λ (x : Block). x.filled) a; erasing = ap (λ (x : Block). x.erasing) a; labels = b; back_again = e }

-- Places

-- where a page lies in d it lies in c, at that cell of the block with the other number
pub record LiesThere (to : ℕ → ℕ) (c : Cells) (page : ℕ) (q : Place) : Type 0 where
  pub place : Place
  pub stands : place_of c.places page ≡ Some place
  pub block : q.block ≡ to place.block
  pub page_is : q.page ≡ place.page

lies_there : (to : ℕ → ℕ) (c : Cells) (page : ℕ) (q : Place) (o p : Option Place) → place_of c.places page ≡ o → p ≡ option_map (renumbered to) o → p ≡ Some q
    → LiesThere to c page q
lies_there to c page q None p e f g = absurd (none-some q (sym f ∙ g))
lies_there to c page q (Some r) p e f g =
    let same : Some (renumbered to r) ≡ Some q = sym f ∙ g in
    record { place = r; stands = e; block = block_is (renumbered to r) q same; page_is = page_of (renumbered to r) q same }
  where
    block_is : (a b : Place) → Some a ≡ Some b → b.block ≡ a.block
    block_is a b h = grind arith

    page_of : (a b : Place) → Some a ≡ Some b → b.page ≡ a.page
    page_of a b h = grind arith

pub lies : (to from : ℕ → ℕ) (c d : Cells) (l m : Shown) → AreRenumbered to from c d l m → (page : ℕ) (q : Place) → place_of d.places page ≡ Some q
    → LiesThere to c page q
lies to from c d l m r page q e = lies_there to c page q (place_of c.places page) (place_of d.places page) refl (r.places page) e

-- the block of a placed page is one of both
used : (plan : DiePlan) (to from : ℕ → ℕ) (c d : Cells) (l m : Shown) → AreRenumbered to from c d l m → AreSoundCells plan c → (page : ℕ) (q : Place)
    → place_of c.places page ≡ Some q
    → IsThe (block_at d (to q.block)) (block_at c q.block) (labels_in m (to q.block)) (labels_in l q.block) (from (to q.block)) q.block
used plan to from c d l m r s page q e = by_case (r.there q.block)
  where
    by_case : IsNobodys (block_at c q.block) (labels_in l q.block)
        ⊎ IsThe (block_at d (to q.block)) (block_at c q.block) (labels_in m (to q.block)) (labels_in l q.block) (from (to q.block)) q.block
        → IsThe (block_at d (to q.block)) (block_at c q.block) (labels_in m (to q.block)) (labels_in l q.block) (from (to q.block)) q.block
    by_case (inl none) = absurd (omega (arith, s.placed page q e, none.unfilled))
    by_case (inr is) = is

-- Cells

abbrev pub HasSame : DiePlan → DiePlan → Type 0
HasSame plan other = (plan.shape.pages ≡ other.shape.pages) × (plan.shape.erase_slots ≡ other.shape.erase_slots) × (plan.logical ≡ other.logical)

pub renumbered_sound : (plan other : DiePlan) (to from : ℕ → ℕ) (c d : Cells) (l m : Shown) → HasSame plan other
    → AreRenumbered to from c d l m → length d.blocks ≡ other.shape.blocks → length d.places ≡ length c.places → AreSoundCells plan c
    → AreSoundCells other d
renumbered_sound plan other to from c d l m like r blocks places s = record {
  blocks = blocks;
  places = places ∙ (s.places ∙ like.2);
  within = λ b. within_by b (r.here b);
  placed = λ page q e. placed_by page q (lies to from c d l m r page q e);
  apart = λ page o q p e f same cells.
      apart_by page o q p same cells (lies to from c d l m r page q e) (lies to from c d l m r o p f);
  one_open = λ a b h k. one_by a b h k (r.here a) (r.here b);
  erasing = λ b h. erasing_by b h (r.here b);
}
  where
    Here : ℕ → Type 0
    Here b = IsNobodys (block_at d b) (labels_in m b)
        ⊎ IsThe (block_at d b) (block_at c (from b)) (labels_in m b) (labels_in l (from b)) (to (from b)) b

    within_by : (b : ℕ) → Here b → (block_at d b).filled ≤ other.shape.pages
    within_by b (inl none) = omega (arith, none.unfilled)
    within_by b (inr is) = omega (arith, is.filled, s.within (from b), like.0)

    placed_by : (page : ℕ) (q : Place) → LiesThere to c page q → q.page < (block_at d q.block).filled
    placed_by page q k =
        let is = used plan to from c d l m r s page k.place k.stands in
        omega (
          arith,
          k.page_is,
          s.placed page k.place k.stands,
          ap (λ b. (block_at d b).filled) k.block ∙ is.filled,
        )

    apart_by : (page o : ℕ) (q p : Place) → q.block ≡ p.block → q.page ≡ p.page → LiesThere to c page q → LiesThere to c o p → page ≡ o
    apart_by page o q p same cells k n =
        let a = (used plan to from c d l m r s page k.place k.stands).back_again in
        let b = (used plan to from c d l m r s o n.place n.stands).back_again in
        s.apart page o k.place n.place k.stands n.stands (sym a ∙ (ap from (sym k.block ∙ (same ∙ n.block)) ∙ b))
        (sym k.page_is ∙ (cells ∙ n.page_is))

    open_there : (b : ℕ) → IsOpen other d b → (is : IsThe (block_at d b) (block_at c (from b)) (labels_in m b) (labels_in l (from b)) (to (from b)) b)
        → IsOpen plan c (from b)
    open_there b h is =
        let e = is.filled in
        (omega (arith, h.0, e), omega (arith, h.1, e, like.0))

    one_by : (a b : ℕ) → IsOpen other d a → IsOpen other d b → Here a → Here b → a ≡ b
    one_by a b h k (inl none) any = absurd (omega (arith, h.0, none.unfilled))
    one_by a b h k (inr is) (inl none) = absurd (omega (arith, k.0, none.unfilled))
    one_by a b h k (inr is) (inr it) =
        sym is.back_again ∙ (ap to (s.one_open (from a) (from b) (open_there a h is) (open_there b k it)) ∙ it.back_again)

    none_in : (b : ℕ) → IsUnplaced c (from b) → IsUnplaced d b
    none_in b none page e =
        let q = of_block d page b e in
        let k = lies to from c d l m r page q.0 q.1 in
        let is = used plan to from c d l m r s page k.place k.stands in
        none page (in_block c page (from b) k.place k.stands (sym is.back_again ∙ ap from (sym k.block ∙ q.2)))

    erasing_by : (b : ℕ) → 0 < (block_at d b).erasing → Here b → ((block_at d b).erasing < other.shape.erase_slots) × IsClosed other d b × IsUnplaced d b
    erasing_by b h (inl none) = absurd (omega (arith, h, none.idle))
    erasing_by b h (inr is) =
        let f = is.filled in
        let g = is.erasing in
        let k = s.erasing (from b) (omega (arith, h, g)) in
        (omega (arith, g, k.0, like.1), omega (arith, f, k.1, like.0), none_in b k.2)

-- Labels

-- a label of the one is at that cell of the other
record IsLabelThere (from to : ℕ → ℕ) (l : Shown) (place : Place) (x : Label) : Type 0 where
  stands : label_at l (cell (from place.block) place.page) ≡ Some x
  back : to (from place.block) ≡ place.block

label_there : (to from : ℕ → ℕ) (c d : Cells) (l m : Shown) → AreRenumbered to from c d l m → (place : Place) (x : Label)
    → label_at m place ≡ Some x → IsLabelThere from to l place x
label_there to from c d l m r place x e = by_case (r.here place.block)
  where
    by_case : IsNobodys (block_at d place.block) (labels_in m place.block)
        ⊎ IsThe (block_at d place.block) (block_at c (from place.block)) (labels_in m place.block) (labels_in l (from place.block)) (to (from place.block)) place.block
        → IsLabelThere from to l place x
    by_case (inl none) = absurd (none-some x (sym (ap (λ (xs : List (Option Label)). get_or xs place.page None) none.none) ∙ e))
    by_case (inr is) =
        record { stands = sym (ap (λ (xs : List (Option Label)). get_or xs place.page None) is.labels) ∙ e; back = is.back_again }

pub renumbered_labelled : (plan other : DiePlan) (to from : ℕ → ℕ) (c d : Cells) (l m : Labels) → HasSame plan other
    → AreRenumbered to from c d l.blocks m.blocks → m.next ≡ l.next → length m.blocks ≡ length d.blocks → AreSoundCells plan c
    → AreLabelled plan c l → AreLabelled other d m
renumbered_labelled plan other to from c d l m like r next blocks s h = record {
  fit = record {
    cells = λ place x e.
        let k = label_there to from c d l.blocks m.blocks r place x e in
        omega (arith, h.fit.cells (cell (from place.block) place.page) x k.stands, like.0);
    pages = λ place x e.
        let k = label_there to from c d l.blocks m.blocks r place x e in
        omega (arith, h.fit.pages (cell (from place.block) place.page) x k.stands, like.2);
    apart = λ q p x y e f same.
        let k = label_there to from c d l.blocks m.blocks r q x e in
        let n = label_there to from c d l.blocks m.blocks r p y f in
        let one = h.fit.apart (cell (from q.block) q.page) (cell (from p.block) p.page) x y k.stands n.stands same in
        same_place q p (sym k.back ∙ (ap (λ (t : Place). to t.block) one ∙ n.back)) (ap (λ (t : Place). t.page) one);
  };
  blocks = blocks;
  filled = λ b less. filled_by b less (r.here b);
  below = λ place x e.
      let k = label_there to from c d l.blocks m.blocks r place x e in
      omega (arith, h.below (cell (from place.block) place.page) x k.stands, next);
  newest = λ page q e. newest_by page q (lies to from c d l.blocks m.blocks r page q e);
}
  where
    filled_by : (b : ℕ) → (block_at d b).filled < other.shape.pages → IsNobodys (block_at d b) (labels_in m.blocks b)
        ⊎ IsThe (block_at d b) (block_at c (from b)) (labels_in m.blocks b) (labels_in l.blocks (from b)) (to (from b)) b
        → length (labels_in m.blocks b) ≡ (block_at d b).filled
    filled_by b less (inl none) = omega (arith, ap (λ (xs : List (Option Label)). length xs) none.none, none.unfilled)
    filled_by b less (inr is) =
        let f = is.filled in
        omega (arith, ap (λ (xs : List (Option Label)). length xs) is.labels, f, h.filled (from b) (omega (arith, less, f, like.0)))

    newest_by : (page : ℕ) (q : Place) → LiesThere to c page q → IsNewest m.blocks page q
    newest_by page q k =
        let n : IsNewest l.blocks page k.place = h.newest page k.place k.stands in
        let is = used plan to from c d l.blocks m.blocks r s page k.place k.stands in
        record {
          label = n.label;
          stands = ap (λ b. get_or (labels_in m.blocks b) q.page None) k.block
              ∙ (ap (λ (xs : List (Option Label)). get_or xs q.page None) is.labels
              ∙ (ap (λ j. get_or (labels_in l.blocks k.place.block) j None) k.page_is ∙ n.stands));
          own = n.own;
          newest = λ o x e own other.
              let t = label_there to from c d l.blocks m.blocks r o x e in
              n.newest (cell (from o.block) o.page) x t.stands own
              (λ same. other (same_place o q (sym t.back ∙ (ap (λ (p : Place). to p.block) same ∙ sym k.block))
              (ap (λ (p : Place). p.page) same ∙ sym k.page_is)));
        }

-- the label at a page's cell of the one is at its cell of the other
pub there_is : (plan : DiePlan) (to from : ℕ → ℕ) (c d : Cells) (l m : Shown) → AreRenumbered to from c d l m → AreSoundCells plan c
    → (page : ℕ) (q : Place) (x : Label) → label_at m q ≡ Some x → (k : LiesThere to c page q) → label_at l k.place ≡ Some x
there_is plan to from c d l m r s page q x f k =
    let is = used plan to from c d l m r s page k.place k.stands in
    sym (ap (λ b. get_or (labels_in m b) q.page None) k.block
    ∙ (ap (λ (xs : List (Option Label)). get_or xs q.page None) is.labels ∙ ap (λ j. get_or (labels_in l k.place.block) j None) k.page_is)) ∙ f

-- all of it
pub renumbered_recoverable : (plan other : DiePlan) (to from : ℕ → ℕ) (c d : Cells) (pages : List PageData) (l m : Labels) (counts : ℕ → ℕ) → HasSame plan other
    → AreRenumbered to from c d l.blocks m.blocks → m.next ≡ l.next → length d.blocks ≡ other.shape.blocks → length m.blocks ≡ length d.blocks
    → length d.places ≡ length c.places → IsRecoverable plan c pages l counts → IsRecoverable other d pages m counts
renumbered_recoverable plan other to from c d pages l m counts like r next blocks labels places h = record {
  sound = renumbered_sound plan other to from c d l.blocks m.blocks like r blocks places h.sound;
  labelled = renumbered_labelled plan other to from c d l m like r next labels h.sound h.labelled;
  bytes = λ page q x e f.
      let k = lies to from c d l.blocks m.blocks r page q e in
      h.bytes page k.place x k.stands (there_is plan to from c d l.blocks m.blocks r h.sound page q x f k);
  counts = record {
    placed = λ page q x e f.
        let k = lies to from c d l.blocks m.blocks r page q e in
        h.counts.placed page k.place x k.stands (there_is plan to from c d l.blocks m.blocks r h.sound page q x f k);
    unplaced = λ page none place x e own.
        let k = label_there to from c d l.blocks m.blocks r place x e in
        h.counts.unplaced page (unplaced_by page none (place_of c.places page) refl) (cell (from place.block) place.page) x k.stands own;
  };
  below = λ page. omega (arith, h.below page, next);
  contents = h.contents ∙ like.2;
  blank = λ page none. h.blank page (unplaced_by page none (place_of c.places page) refl);
}
  where
    unplaced_by : (page : ℕ) → place_of d.places page ≡ None → (o : Option Place) → place_of c.places page ≡ o → place_of c.places page ≡ None
    unplaced_by page none None e = e
    unplaced_by page none (Some q) e =
        absurd (none-some (renumbered to q) (sym none ∙ (r.places page ∙ ap (option_map (renumbered to)) e)))
