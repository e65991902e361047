-- A mount finds the same pages where blocks have other numbers.
use Rattle.std.proofs.Common.{◌≡◌, ◌≢◌, ◌⊎◌, ℕ, zero, suc, ◌+◌, ◌<◌, ◌≤◌, List, [], ◌∷◌, length, get_or, set, refl, ap, sym, ◌∙◌, subst, inl, inr, arith}
use Rattle.std.specs.Prelude.{Option, Some, None, option_map}
use Rattle.std.proofs.lemmas.Bool.{cases_eq, cases_lt}
use Rattle.std.proofs.lemmas.List.{get_or_past, get_or-set_same, get_or-set_other, length-set}
use Rattle.std.proofs.lemmas.Option.{none-some, same_Some}
use Rattle.slot_types.specs.declared.pages.PageData.{PageData}
use Rattle.slot_types.specs.declared.pages.Place.{Place}
use Rattle.slot_types.specs.declared.plans.DiePlan.{DiePlan}
use Rattle.die_log.specs.Model.Start.{blank_page}
use Rattle.power_loss.specs.Aside.{renumbered}
use Rattle.power_loss.specs.Labels.{Label, Shown, label_at, labels_in, FitPlan, IsNewest}
use Rattle.power_loss.specs.Mounted.{bytes_at, mounted_place, mounted_content, mounted_contents}
use Rattle.power_loss.specs.Recovery.{CanUndo, FindsNoneIn, IsMountable, without_block}
use Rattle.power_loss.proofs.Mounting.{found_newest, mounted_newest, mounted_none, mounted_stands, none_found}
use Rattle.power_loss.proofs.TwoMounts.{IsLess, all_found, bytes_found, content_at, contents_long, less_fit}
use Rattle.labelled_spares.specs.Numbers.{HasAll, HasNoLabel, AreRenumbered}

one_place : (p q : Place) → p.block ≡ q.block → p.page ≡ q.page → p ≡ q
one_place p q a b = λ i. record { block = a i; page = b i }

module _ (to back : ℕ → ℕ) (seen other : Shown) (there : HasAll to back seen other) (here : HasAll back to other seen) where
  -- a cell with a label, there and back again
  again : (q : Place) (x : Label) → label_at other q ≡ Some x → renumbered to (renumbered back q) ≡ q
  again q x e = one_place (renumbered to (renumbered back q)) q (here.back_again q x e) refl

  pub fit_there : (plan : DiePlan) → FitPlan plan seen → FitPlan plan other
  fit_there plan fit = record {
    cells = λ q x e. fit.cells (renumbered back q) x (here.stands q x e);
    pages = λ q x e. fit.pages (renumbered back q) x (here.stands q x e);
    apart = λ q r x y e f same.
        sym (again q x e) ∙ (ap (renumbered to) (fit.apart (renumbered back q) (renumbered back r) x y (here.stands q x e) (here.stands r y f) same)
        ∙ again r y f);
  }

  abbrev newest_there : (page : ℕ) (q : Place) → (n : IsNewest seen page q) → IsNewest other page (renumbered to q)
  newest_there page q n = record {
    label = n.label;
    stands = there.stands q n.label n.stands;
    own = n.own;
    newest = λ r y e own apart. n.newest (renumbered back r) y (here.stands r y e) own
        (λ same. apart (sym (again r y e) ∙ ap (renumbered to) same));
  }

  pub place_there : (plan : DiePlan) (from page : ℕ) → FitPlan plan seen
      → mounted_place from page other ≡ option_map (renumbered to) (mounted_place from page seen)
  place_there plan from page fit = by_place (mounted_place from page seen) refl
    where
      by_place : (o : Option Place) → mounted_place from page seen ≡ o → mounted_place from page other ≡ option_map (renumbered to) o
      by_place None e = mounted_none from page other (λ q x f own. none_found from page seen e (renumbered back q) x (here.stands q x f) own)
      by_place (Some q) e =
          let n = found_newest plan from page seen q fit e in
          mounted_newest from page other (renumbered to q) (newest_there page q n.0) n.1

  content_there : (plan : DiePlan) (from page : ℕ) → FitPlan plan seen → mounted_content from page other ≡ mounted_content from page seen
  content_there plan from page fit = ap (bytes_at other) (place_there plan from page fit) ∙ by_place (mounted_place from page seen) refl
    where
      by_place : (o : Option Place) → mounted_place from page seen ≡ o → bytes_at other (option_map (renumbered to) o) ≡ bytes_at seen o
      by_place None e = refl
      by_place (Some q) e =
          let n = found_newest plan from page seen q fit e in
          bytes_found other (renumbered to q) n.0.label (there.stands q n.0.label n.0.stands) ∙ sym (bytes_found seen q n.0.label n.0.stands)

  pub pages_there : (plan : DiePlan) (from : ℕ → ℕ) (pages : List PageData) → FitPlan plan seen → mounted_contents from plan.logical seen ≡ pages
      → mounted_contents from plan.logical other ≡ pages
  pages_there plan from pages fit found =
      all_found from plan.logical other pages (ap (λ (ps : List PageData). length ps) (sym found) ∙ contents_long from plan.logical seen)
      (λ page lt. content_there plan (from page) page fit
      ∙ (sym (content_at from plan.logical seen page lt) ∙ ap (λ (ps : List PageData). get_or ps page blank_page) found))

pub pages_moved : (to back : ℕ → ℕ) (seen other : Shown) → HasAll to back seen other → HasAll back to other seen → (plan : DiePlan) (from : ℕ → ℕ)
    (pages : List PageData) → FitPlan plan seen → mounted_contents from plan.logical seen ≡ pages → mounted_contents from plan.logical other ≡ pages
pages_moved to back seen other there here plan from pages fit found = pages_there to back seen other there here plan from pages fit found

module _ (to back : ℕ → ℕ) (seen other : Shown) (there : HasAll to back seen other) (here : HasAll back to other seen) where
  -- a block with a label
  module _ (b : ℕ) (p : Place) (w : Label) (own : p.block ≡ b) (label : label_at seen p ≡ Some w) where
    to_back : back (to b) ≡ b
    to_back = ap (λ (k : ℕ). back (to k)) (sym own) ∙ (there.back_again p w label ∙ own)

    -- a block of the other is that one just where it comes from this one
    from_here : (r : Place) (x : Label) → label_at other r ≡ Some x → r.block ≢ to b → back r.block ≢ b
    from_here r x e apart same = apart (sym (here.back_again r x e) ∙ ap to same)

    is_here : (r : Place) → r.block ≡ to b → back r.block ≡ b
    is_here r same = ap back same ∙ to_back

    within : to b < length other
    within = elim (cases_lt (to b) (length other)) [
      | inl lt ↦ lt
      | inr past ↦ absurd (none-some w (sym (ap (λ (l : List (Option Label)). get_or l p.page None)
          (get_or_past other (to p.block) [] (omega (arith, past, ap to own)))) ∙ there.stands p w label))
    ]

    pub none_there : (plan : DiePlan) (from : ℕ → ℕ) → FitPlan plan seen → FindsNoneIn plan from seen b → FindsNoneIn plan from other (to b)
    none_there plan from fit none page lt r e same = by_place (mounted_place (from page) page seen) refl
      where
        at : (q : Place) → mounted_place (from page) page seen ≡ Some q → renumbered to q ≡ r → ⊥
        at q f is =
            let n = found_newest plan (from page) page seen q fit f in
            none page lt q f (sym (there.back_again q n.0.label n.0.stands) ∙ (ap (λ (s : Place). back s.block) is ∙ is_here r same))

        by_place : (o : Option Place) → mounted_place (from page) page seen ≡ o → ⊥
        by_place None f = none-some r (sym (place_there to back seen other there here plan (from page) page fit ∙ ap (option_map (renumbered to)) f) ∙ e)
        by_place (Some q) f =
            at q f (same_Some (renumbered to q) r (sym (place_there to back seen other there here plan (from page) page fit ∙ ap (option_map (renumbered to)) f) ∙ e))

    -- without it

    without_other : (l : Shown) (k : ℕ) (q : Place) → q.block ≢ k → label_at (without_block k l) q ≡ label_at l q
    without_other l k q apart = ap (λ (cells : List (Option Label)). get_or cells q.page None) (get_or-set_other l k q.block [] [] apart)

    without_own : (l : Shown) (k : ℕ) (q : Place) (x : Label) → label_at (without_block k l) q ≡ Some x → q.block ≢ k
    without_own l k q x e same = elim (cases_lt k (length l)) [
      | inl lt ↦ none-some x (sym (ap (λ (cells : List (Option Label)). get_or cells q.page None)
          (ap (labels_in (set l k [])) same ∙ get_or-set_same l k [] [] lt)) ∙ e)
      | inr past ↦ none-some x (sym (ap (λ (cells : List (Option Label)). get_or cells q.page None)
          (get_or_past (set l k []) q.block [] (omega (arith, past, same, length-set l k [])))) ∙ e)
    ]

    without_there : HasAll to back (without_block b seen) (without_block (to b) other)
    without_there = record {
      stands = λ q x e.
          let apart = without_own seen b q x e in
          let stood : label_at seen q ≡ Some x = sym (without_other seen b q apart) ∙ e in
          without_other other (to b) (renumbered to q) (λ same. apart (sym (there.back_again q x stood) ∙ (ap back same ∙ to_back)))
          ∙ there.stands q x stood;
      back_again = λ q x e. there.back_again q x (sym (without_other seen b q (without_own seen b q x e)) ∙ e);
    }

    without_here : HasAll back to (without_block (to b) other) (without_block b seen)
    without_here = record {
      stands = λ q x e.
          let apart = without_own other (to b) q x e in
          let stood : label_at other q ≡ Some x = sym (without_other other (to b) q apart) ∙ e in
          without_other seen b (renumbered back q) (from_here q x stood apart) ∙ here.stands q x stood;
      back_again = λ q x e. here.back_again q x (sym (without_other other (to b) q (without_own other (to b) q x e)) ∙ e);
    }

    less : IsLess (without_block b seen) seen
    less q x e = sym (without_other seen b q (without_own seen b q x e)) ∙ e

    pub undo_there : (plan : DiePlan) (from : ℕ → ℕ) (pages : List PageData) → length other ≡ plan.shape.blocks → FitPlan plan seen
        → CanUndo plan pages from seen b → CanUndo plan pages from other (to b)
    undo_there plan from pages count fit u = record {
      stands = omega (arith, within, count);
      newer = λ q r x y e f mine far.
          u.newer (renumbered back q) (renumbered back r) x y (here.stands q x e) (here.stands r y f) (is_here q mine) (from_here r y f far);
      copies = λ q x e mine. u.copies (renumbered back q) x (here.stands q x e) (is_here q mine);
      others = without_pages plan from pages fit u.others;
    }
      where
        without_pages : (plan : DiePlan) (from : ℕ → ℕ) (pages : List PageData) → FitPlan plan seen
            → mounted_contents from plan.logical (without_block b seen) ≡ pages → mounted_contents from plan.logical (without_block (to b) other) ≡ pages
        without_pages plan from pages fit found =
            pages_moved to back (without_block b seen) (without_block (to b) other) without_there without_here plan from pages
            (less_fit plan seen (without_block b seen) less fit) found

    pub is_within : to b < length other
    is_within = within

-- Whether a block has a label

pub find_label : (cells : List (Option Label)) → ((k : ℕ) × (w : Label) × (get_or cells k None ≡ Some w)) ⊎ ((k : ℕ) → get_or cells k None ≡ None)
find_label [] = inr (λ k. get_or_past [] k None (omega arith))
find_label (Some w ∷ cells) = inl (0, w, refl)
find_label (None ∷ cells) = by_rest (find_label cells)
  where
    at : ((k : ℕ) → get_or cells k None ≡ None) → (k : ℕ) → get_or (None ∷ cells) k None ≡ None
    at none zero = refl
    at none (suc k) = none k

    by_rest : ((k : ℕ) × (w : Label) × (get_or cells k None ≡ Some w)) ⊎ ((k : ℕ) → get_or cells k None ≡ None)
        → ((k : ℕ) × (w : Label) × (get_or (None ∷ cells) k None ≡ Some w)) ⊎ ((k : ℕ) → get_or (None ∷ cells) k None ≡ None)
    by_rest (inl (k, w, e)) = inl (suc k, w, e)
    by_rest (inr none) = inr (at none)

has_label : (seen : Shown) (b : ℕ) → ((p : Place) × (w : Label) × (p.block ≡ b) × (label_at seen p ≡ Some w)) ⊎ HasNoLabel seen b
has_label seen b = by_cells (find_label (labels_in seen b))
  where
    by_cells : ((k : ℕ) × (w : Label) × (get_or (labels_in seen b) k None ≡ Some w)) ⊎ ((k : ℕ) → get_or (labels_in seen b) k None ≡ None)
        → ((p : Place) × (w : Label) × (p.block ≡ b) × (label_at seen p ≡ Some w)) ⊎ HasNoLabel seen b
    by_cells (inl (k, w, e)) = inl (record { block = b; page = k }, w, refl, e)
    by_cells (inr none) = inr (λ q same. ap (λ (c : ℕ). get_or (labels_in seen c) q.page None) same ∙ none q.page)

-- no page is found in a block without labels
finds_none : (plan : DiePlan) (from : ℕ → ℕ) (seen : Shown) (b : ℕ) → HasNoLabel seen b → FindsNoneIn plan from seen b
finds_none plan from seen b none page lt q e same =
    let s = mounted_stands (from page) page seen q e in
    none-some s.0 (sym (none q same) ∙ s.1)

pub mountable_there : (plan : DiePlan) (pages : List PageData) (from : ℕ → ℕ) (seen other : Shown) → IsMountable plan pages from seen
    → AreRenumbered seen other → IsMountable plan pages from other
mountable_there plan pages from seen other m r = record {
  blocks = r.count ∙ m.blocks;
  fit = fit_there r.to r.back seen other r.there r.here plan m.fit;
  found = pages_there r.to r.back seen other r.there r.here plan from pages m.fit m.found;
  room = room_there m.room;
}
  where
    Room : Type 0
    Room = ((b : ℕ) × (b < plan.shape.blocks) × FindsNoneIn plan from other b) ⊎ ((b : ℕ) × CanUndo plan pages from other b)

    count : length other ≡ plan.shape.blocks
    count = r.count ∙ m.blocks

    empty_there : (b : ℕ) → b < plan.shape.blocks → HasNoLabel seen b → Room
    empty_there b lt none =
        let c = r.empty b (omega (arith, lt, m.blocks)) none in
        inl (c.0, omega (arith, c.1, count), finds_none plan from other c.0 c.2)

    none_at : (b : ℕ) → b < plan.shape.blocks → FindsNoneIn plan from seen b
        → ((p : Place) × (w : Label) × (p.block ≡ b) × (label_at seen p ≡ Some w)) ⊎ HasNoLabel seen b → Room
    none_at b lt none (inl (p, w, own, label)) = inl (
      r.to b,
      omega (arith, is_within r.to r.back seen other r.there r.here b p w own label, count),
      none_there r.to r.back seen other r.there r.here b p w own label plan from m.fit none,
    )
    none_at b lt none (inr blank) = empty_there b lt blank

    undo_at : (b : ℕ) → CanUndo plan pages from seen b
        → ((p : Place) × (w : Label) × (p.block ≡ b) × (label_at seen p ≡ Some w)) ⊎ HasNoLabel seen b → Room
    undo_at b u (inl (p, w, own, label)) =
        inr (r.to b, undo_there r.to r.back seen other r.there r.here b p w own label plan from pages count m.fit u)
    undo_at b u (inr blank) = empty_there b u.stands blank

    room_there : ((b : ℕ) × (b < plan.shape.blocks) × FindsNoneIn plan from seen b) ⊎ ((b : ℕ) × CanUndo plan pages from seen b) → Room
    room_there (inl (b, lt, none)) = none_at b lt none (has_label seen b)
    room_there (inr (b, u)) = undo_at b u (has_label seen b)
