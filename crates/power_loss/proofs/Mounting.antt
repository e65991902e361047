-- What a mount finds among the labels that it sees.
use Rattle.std.proofs.Common.{◌≡◌, ◌≢◌, ◌⊎◌, ℕ, zero, suc, ◌+◌, ◌<◌, ◌≤◌, ◌==◌, ◌&&◌, nat_lt, nat_le, Bool, true, false}
use Rattle.std.proofs.Common.{cond, List, [], ◌∷◌}
use Rattle.std.proofs.Common.{length, Option, Some, None, option_map, refl, ap, sym, ◌∙◌, subst, inl, inr, arith}
use Rattle.std.proofs.Common.{get_or}
use Rattle.std.proofs.lemmas.Bool.{cases_eq, cases_lt, and_parts, eqb-true, leb-true, ltb-false}
use Rattle.std.proofs.lemmas.Bool.Decides.{nat_tests}
use Rattle.std.proofs.lemmas.Option.{same_Some, none-some}
use Rattle.std.proofs.lemmas.List.{ext_get_or}
use Rattle.std.proofs.lemmas.List.FromFn.{length-map-range_with_len, get_or-map-range_with_len}
use Rattle.slot_types.specs.Places.{place_of}
use Rattle.slot_types.specs.declared.plans.DiePlan.{DiePlan}
use Rattle.slot_types.specs.declared.pages.PageData.{PageData}
use Rattle.slot_types.specs.declared.pages.Place.{Place}
use Rattle.die_log.specs.Model.Flash.{Cells}
use Rattle.die_log.specs.Model.Start.{blank_page}
use Rattle.power_loss.specs.Labels.{Label, Shown, FitPlan, labels_in, label_at, IsNewest}
use Rattle.power_loss.specs.Laws.{ShowsPages, MountsAll, MountsPlaced}
use Rattle.power_loss.specs.Mounted.{Found, newer, found_at, found_in_cell, found_in_block, found_in, mounted_place}
use Rattle.power_loss.specs.Mounted.{mounted_content, mounted_places, mounted_contents, bytes_at, bytes_of_label}
use Rattle.power_loss.proofs.Steps.{cell, same_place}

-- What is found is there

record IsOf (from page : ℕ) (f : Found) (x : Label) : Type 0 where
  own : x.page ≡ page
  counts : from ≤ x.serial
  is : f.serial ≡ x.serial

newer_is : (best : Option Found) (next f : Found) → newer best next ≡ Some f → (best ≡ Some f) ⊎ (next ≡ f)
newer_is None next f e = inr (same_Some next f e)
newer_is (Some g) next f e = by_test (nat_lt g.serial next.serial) e
  where
    by_test : (t : Bool) → cond t (Some next) (Some g) ≡ Some f → (Some g ≡ Some f) ⊎ (next ≡ f)
    by_test true h = inr (same_Some next f h)
    by_test false h = inl h

found_at_is : (from page : ℕ) (place : Place) (x : Label) (best : Option Found) (f : Found) → found_at from page place x best ≡ Some f
    → (best ≡ Some f) ⊎ (IsOf from page f x × (f.place ≡ place))
found_at_is from page place x best f e = by_test ((x.page == page) && nat_le from x.serial) refl e
  where
    next : Found
    next = record { place = place; serial = x.serial }

    of_new : ((x.page == page) && nat_le from x.serial) ≡ true → (best ≡ Some f) ⊎ (record { place = place; serial = x.serial } ≡ f)
        → (best ≡ Some f) ⊎ (IsOf from page f x × (f.place ≡ place))
    of_new t (inl h) = inl h
    of_new t (inr h) =
        let k = and_parts (x.page == page) (nat_le from x.serial) t in inr (
          record {
            own = eqb-true x.page page k.0;
            counts = leb-true from x.serial k.1;
            is = sym (ap (λ (g : Found). g.serial) h);
          },
          sym (ap (λ (g : Found). g.place) h),
        )

    by_test : (t : Bool) → ((x.page == page) && nat_le from x.serial) ≡ t
        → cond t (newer best (record { place = place; serial = x.serial })) best ≡ Some f
        → (best ≡ Some f) ⊎ (IsOf from page f x × (f.place ≡ place))
    by_test true t h = of_new t (newer_is best (record { place = place; serial = x.serial }) f h)
    by_test false t h = inl h

found_cell_is : (from page : ℕ) (place : Place) (o : Option Label) (best : Option Found) (f : Found)
    → found_in_cell from page place o best ≡ Some f
    → (best ≡ Some f) ⊎ ((x : Label) × (o ≡ Some x) × IsOf from page f x × (f.place ≡ place))
found_cell_is from page place None best f e = inl e
found_cell_is from page place (Some x) best f e = by_case (found_at_is from page place x best f e)
  where
    by_case : (best ≡ Some f) ⊎ (IsOf from page f x × (f.place ≡ place))
        → (best ≡ Some f) ⊎ ((y : Label) × (Some x ≡ Some y) × IsOf from page f y × (f.place ≡ place))
    by_case (inl h) = inl h
    by_case (inr h) = inr (x, refl, h.0, h.1)

-- in block b, whose cells from k on have these labels
record IsInBlock (from page b k : ℕ) (xs : List (Option Label)) (f : Found) : Type 0 where
  i : ℕ
  x : Label
  stands : get_or xs i None ≡ Some x
  of : IsOf from page f x
  block : f.place.block ≡ b
  at : f.place.page ≡ k + i

block_is : (from page b k : ℕ) (xs : List (Option Label)) (best : Option Found) (f : Found) → found_in_block from page b k xs best ≡ Some f
    → (best ≡ Some f) ⊎ IsInBlock from page b k xs f
block_is from page b k [] best f e = inl e
block_is from page b k (o ∷ xs) best f e = by_rest (block_is from page b (k + 1) xs (found_in_cell from page (cell b k) o best) f e)
  where
    by_head : (best ≡ Some f) ⊎ ((x : Label) × (o ≡ Some x) × IsOf from page f x × (f.place ≡ cell b k))
        → (best ≡ Some f) ⊎ IsInBlock from page b k (o ∷ xs) f
    by_head (inl h) = inl h
    by_head (inr h) = inr (record {
      i = 0;
      x = h.0;
      stands = h.1;
      of = h.2;
      block = ap (λ (q : Place). q.block) h.3;
      at = let same : f.place.page ≡ k = ap (λ (q : Place). q.page) h.3 in omega arith;
    })

    by_rest : (found_in_cell from page (cell b k) o best ≡ Some f) ⊎ IsInBlock from page b (k + 1) xs f
        → (best ≡ Some f) ⊎ IsInBlock from page b k (o ∷ xs) f
    by_rest (inl h) = by_head (found_cell_is from page (cell b k) o best f h)
    by_rest (inr h) = inr (record { i = suc h.i; x = h.x; stands = h.stands; of = h.of; block = h.block; at = omega (arith, h.at) })

-- in the blocks from b on, which have these labels
record IsInBlocks (from page b : ℕ) (blocks : Shown) (f : Found) : Type 0 where
  i : ℕ
  x : Label
  stands : get_or (labels_in blocks i) f.place.page None ≡ Some x
  of : IsOf from page f x
  block : f.place.block ≡ b + i

blocks_is : (from page b : ℕ) (blocks : Shown) (best : Option Found) (f : Found) → found_in from page b blocks best ≡ Some f
    → (best ≡ Some f) ⊎ IsInBlocks from page b blocks f
blocks_is from page b [] best f e = inl e
blocks_is from page b (xs ∷ blocks) best f e = by_rest (blocks_is from page (b + 1) blocks (found_in_block from page b 0 xs best) f e)
  where
    by_head : (best ≡ Some f) ⊎ IsInBlock from page b 0 xs f → (best ≡ Some f) ⊎ IsInBlocks from page b (xs ∷ blocks) f
    by_head (inl h) = inl h
    by_head (inr h) =
        let same : h.i ≡ f.place.page = omega (arith, h.at) in
        inr (record { i = 0; x = h.x; stands = ap (λ k. get_or xs k None) (sym same) ∙ h.stands; of = h.of; block = omega (arith, h.block) })

    by_rest : (found_in_block from page b 0 xs best ≡ Some f) ⊎ IsInBlocks from page (b + 1) blocks f
        → (best ≡ Some f) ⊎ IsInBlocks from page b (xs ∷ blocks) f
    by_rest (inl h) = by_head (block_is from page b 0 xs best f h)
    by_rest (inr h) = inr (record { i = suc h.i; x = h.x; stands = h.stands; of = h.of; block = omega (arith, h.block) })

-- What is found is the newest

abbrev AtLeast : ℕ → Option Found → Type 0
AtLeast n None = ⊥
AtLeast n (Some f) = n ≤ f.serial

newer_keeps : (n : ℕ) (best : Option Found) (next : Found) → AtLeast n best → AtLeast n (newer best next)
newer_keeps n None next h = absurd h
newer_keeps n (Some g) next h = by_test (nat_lt g.serial next.serial) refl
  where
    by_test : (t : Bool) → nat_lt g.serial next.serial ≡ t → AtLeast n (cond t (Some next) (Some g))
    by_test true e = grind (arith, nat_tests)
    by_test false e = h

newer_has : (best : Option Found) (next : Found) → AtLeast next.serial (newer best next)
newer_has None next = omega arith
newer_has (Some g) next = by_test (nat_lt g.serial next.serial) refl
  where
    by_test : (t : Bool) → nat_lt g.serial next.serial ≡ t → AtLeast next.serial (cond t (Some next) (Some g))
    by_test true e = omega arith
    by_test false e = ltb-false g.serial next.serial e

at_keeps : (n from page : ℕ) (place : Place) (x : Label) (best : Option Found) → AtLeast n best → AtLeast n (found_at from page place x best)
at_keeps n from page place x best h = by_test ((x.page == page) && nat_le from x.serial)
  where
    by_test : (t : Bool) → AtLeast n (cond t (newer best (record { place = place; serial = x.serial })) best)
    by_test true = newer_keeps n best (record { place = place; serial = x.serial }) h
    by_test false = h

at_has : (from page : ℕ) (place : Place) (x : Label) (best : Option Found) → x.page ≡ page → from ≤ x.serial
    → AtLeast x.serial (found_at from page place x best)
at_has from page place x best own counts =
    let passes : ((x.page == page) && nat_le from x.serial) ≡ true = grind (arith, nat_tests) in
    subst (λ t. AtLeast x.serial (cond t (newer best (record { place = place; serial = x.serial })) best)) (sym passes)
    (newer_has best (record { place = place; serial = x.serial }))

cell_keeps : (n from page : ℕ) (place : Place) (o : Option Label) (best : Option Found) → AtLeast n best → AtLeast n (found_in_cell from page place o best)
cell_keeps n from page place None best h = h
cell_keeps n from page place (Some x) best h = at_keeps n from page place x best h

cell_has : (from page : ℕ) (place : Place) (o : Option Label) (best : Option Found) (x : Label) → o ≡ Some x → x.page ≡ page → from ≤ x.serial
    → AtLeast x.serial (found_in_cell from page place o best)
cell_has from page place None best x e own counts = absurd (none-some x e)
cell_has from page place (Some y) best x e own counts =
    let same : y ≡ x = same_Some y x e in
    subst (λ (z : Label). AtLeast z.serial (found_at from page place y best)) same
    (at_has from page place y best (ap (λ (z : Label). z.page) same ∙ own) (omega (arith, ap (λ (z : Label). z.serial) same)))

block_keeps : (n from page b k : ℕ) (xs : List (Option Label)) (best : Option Found) → AtLeast n best
    → AtLeast n (found_in_block from page b k xs best)
block_keeps n from page b k [] best h = h
block_keeps n from page b k (o ∷ xs) best h =
    block_keeps n from page b (k + 1) xs (found_in_cell from page (cell b k) o best) (cell_keeps n from page (cell b k) o best h)

block_has : (from page b k : ℕ) (xs : List (Option Label)) (best : Option Found) (i : ℕ) (x : Label) → get_or xs i None ≡ Some x → x.page ≡ page
    → from ≤ x.serial → AtLeast x.serial (found_in_block from page b k xs best)
block_has from page b k [] best i x e own counts = absurd (none-some x e)
block_has from page b k (o ∷ xs) best zero x e own counts =
    block_keeps x.serial from page b (k + 1) xs (found_in_cell from page (cell b k) o best) (cell_has from page (cell b k) o best x e own counts)
block_has from page b k (o ∷ xs) best (suc i) x e own counts =
    block_has from page b (k + 1) xs (found_in_cell from page (cell b k) o best) i x e own counts

blocks_keep : (n from page b : ℕ) (blocks : Shown) (best : Option Found) → AtLeast n best → AtLeast n (found_in from page b blocks best)
blocks_keep n from page b [] best h = h
blocks_keep n from page b (xs ∷ blocks) best h =
    blocks_keep n from page (b + 1) blocks (found_in_block from page b 0 xs best) (block_keeps n from page b 0 xs best h)

blocks_have : (from page b : ℕ) (blocks : Shown) (best : Option Found) (i k : ℕ) (x : Label)
    → get_or (labels_in blocks i) k None ≡ Some x → x.page ≡ page → from ≤ x.serial → AtLeast x.serial (found_in from page b blocks best)
blocks_have from page b [] best i k x e own counts = absurd (none-some x e)
blocks_have from page b (xs ∷ blocks) best zero k x e own counts =
    blocks_keep x.serial from page (b + 1) blocks (found_in_block from page b 0 xs best)
    (block_has from page b 0 xs best k x e own counts)
blocks_have from page b (xs ∷ blocks) best (suc i) k x e own counts =
    blocks_have from page (b + 1) blocks (found_in_block from page b 0 xs best) i k x e own counts

-- Places

-- what is found is a label of the page that counts
pub found_stands : (from page : ℕ) (seen : Shown) (f : Found) → found_in from page 0 seen None ≡ Some f
    → (x : Label) × (label_at seen f.place ≡ Some x) × (x.page ≡ page) × (from ≤ x.serial) × (f.serial ≡ x.serial)
found_stands from page seen f e = by_case (blocks_is from page 0 seen None f e)
  where
    by_case : (None ≡ Some f) ⊎ IsInBlocks from page 0 seen f
        → (x : Label) × (label_at seen f.place ≡ Some x) × (x.page ≡ page) × (from ≤ x.serial) × (f.serial ≡ x.serial)
    by_case (inl h) = absurd (none-some f h)
    by_case (inr h) =
        let same : f.place.block ≡ h.i = omega (arith, h.block) in
        (h.x, ap (λ b. get_or (labels_in seen b) f.place.page None) same ∙ h.stands, h.of.own, h.of.counts, h.of.is)

-- a newest label that counts is found
pub mounted_newest : (from page : ℕ) (seen : Shown) (q : Place) → (n : IsNewest seen page q) → from ≤ n.label.serial
    → mounted_place from page seen ≡ Some q
mounted_newest from page seen q n counts =
    by_found (found_in from page 0 seen None) refl
    (blocks_have from page 0 seen None q.block q.page n.label n.stands n.own counts)
  where
    at_place : (f : Found) → found_in from page 0 seen None ≡ Some f → n.label.serial ≤ f.serial
        → (f.place.block ≡ q.block) ⊎ (f.place.block ≡ q.block → ⊥) → (f.place.page ≡ q.page) ⊎ (f.place.page ≡ q.page → ⊥) → f.place ≡ q
    at_place f e h (inl a) (inl b) = same_place f.place q a b
    at_place f e h (inr a) b =
        let s = found_stands from page seen f e in
        absurd (omega (arith, s.4, n.newest f.place s.0 s.1 s.2 (λ is. a (ap (λ (p : Place). p.block) is))))
    at_place f e h (inl a) (inr b) =
        let s = found_stands from page seen f e in
        absurd (omega (arith, s.4, n.newest f.place s.0 s.1 s.2 (λ is. b (ap (λ (p : Place). p.page) is))))

    by_found : (o : Option Found) → found_in from page 0 seen None ≡ o → AtLeast n.label.serial o → option_map (λ (f : Found). f.place) o ≡ Some q
    by_found None e h = absurd h
    by_found (Some f) e h = ap Some (at_place f e h (cases_eq f.place.block q.block) (cases_eq f.place.page q.page))

-- where no label of the page counts, nothing is found
pub mounted_none : (from page : ℕ) (seen : Shown)
    → ((q : Place) (x : Label) → label_at seen q ≡ Some x → x.page ≡ page → x.serial < from) → mounted_place from page seen ≡ None
mounted_none from page seen old = by_found (found_in from page 0 seen None) refl
  where
    by_found : (o : Option Found) → found_in from page 0 seen None ≡ o → option_map (λ (f : Found). f.place) o ≡ None
    by_found None e = refl
    by_found (Some f) e = let s = found_stands from page seen f e in absurd (omega (arith, s.3, old f.place s.0 s.1 s.2))

pub mounted_stands : (from page : ℕ) (seen : Shown) (q : Place) → mounted_place from page seen ≡ Some q
    → (x : Label) × (label_at seen q ≡ Some x) × (x.page ≡ page) × (from ≤ x.serial)
mounted_stands from page seen q = by_found (found_in from page 0 seen None) refl
  where
    by_found : (o : Option Found) → found_in from page 0 seen None ≡ o → option_map (λ (f : Found). f.place) o ≡ Some q
        → (x : Label) × (label_at seen q ≡ Some x) × (x.page ≡ page) × (from ≤ x.serial)
    by_found None e h = absurd (none-some q h)
    by_found (Some f) e h =
        let s = found_stands from page seen f e in
        (s.0, ap (label_at seen) (sym (same_Some f.place q h)) ∙ s.1, s.2, s.3)

-- what is found is the newest of the page's labels
pub found_newest : (plan : DiePlan) (from page : ℕ) (seen : Shown) (q : Place) → FitPlan plan seen → mounted_place from page seen ≡ Some q
    → (n : IsNewest seen page q) × (from ≤ n.label.serial)
found_newest plan from page seen q fit = by_found (found_in from page 0 seen None) refl
  where
    Newest : Place → Type 0
    Newest r = (n : IsNewest seen page r) × (from ≤ n.label.serial)

    less : (f : Found) (r : Place) (y : Label) → found_in from page 0 seen None ≡ Some f → label_at seen r ≡ Some y → y.page ≡ page → from ≤ y.serial
        → y.serial ≤ f.serial
    less f r y e g own counts =
        subst (AtLeast y.serial) e (blocks_have from page 0 seen None r.block r.page y g own counts)

    newest_by : (f : Found) (x : Label) (r : Place) (y : Label) → found_in from page 0 seen None ≡ Some f → label_at seen f.place ≡ Some x
        → from ≤ x.serial → f.serial ≡ x.serial → label_at seen r ≡ Some y → y.page ≡ page → r ≢ f.place
        → (y.serial < from) ⊎ (from ≤ y.serial) → (y.serial ≡ x.serial) ⊎ (y.serial ≡ x.serial → ⊥) → y.serial < x.serial
    newest_by f x r y e stands counts is g own other (inl old) any = omega (arith, old, counts)
    newest_by f x r y e stands counts is g own other (inr new) (inl same) = absurd (other (fit.apart r f.place y x g stands same))
    newest_by f x r y e stands counts is g own other (inr new) (inr apart) = omega (arith, less f r y e g own new, is, apart)

    at_found : (f : Found) → found_in from page 0 seen None ≡ Some f → Newest f.place
    at_found f e =
        let s = found_stands from page seen f e in (
          record {
            label = s.0;
            stands = s.1;
            own = s.2;
            newest = λ r y g own other. newest_by f s.0 r y e s.1 s.3 s.4 g own other (cases_lt y.serial from) (cases_eq y.serial s.0.serial);
          },
          s.3,
        )

    by_found : (o : Option Found) → found_in from page 0 seen None ≡ o → option_map (λ (f : Found). f.place) o ≡ Some q → Newest q
    by_found None e h = absurd (none-some q h)
    by_found (Some f) e h = subst Newest (same_Some f.place q h) (at_found f e)

-- and where nothing is found, no label of the page counts
pub none_found : (from page : ℕ) (seen : Shown) → mounted_place from page seen ≡ None → (q : Place) (x : Label) → label_at seen q ≡ Some x
    → x.page ≡ page → x.serial < from
none_found from page seen none q x e own = by_counts (cases_lt x.serial from)
  where
    by_found : (o : Option Found) → option_map (λ (f : Found). f.place) o ≡ None → AtLeast x.serial o → ⊥
    by_found None h k = k
    by_found (Some f) h k = none-some f.place (sym h)

    by_counts : (x.serial < from) ⊎ (from ≤ x.serial) → x.serial < from
    by_counts (inl lt) = lt
    by_counts (inr le) = absurd (by_found (found_in from page 0 seen None) none (blocks_have from page 0 seen None q.block q.page x e own le))

-- What stands

mounted_at : (c : Cells) (pages : List PageData) (from : ℕ → ℕ) (seen : Shown) → ShowsPages c pages from seen → (page : ℕ)
    → mounted_place (from page) page seen ≡ place_of c.places page
mounted_at c pages from seen w page = by_place (place_of c.places page) refl
  where
    by_place : (o : Option Place) → place_of c.places page ≡ o → mounted_place (from page) page seen ≡ o
    by_place None e = mounted_none (from page) page seen (λ q x f own. w.counts.unplaced page e q x f own)
    by_place (Some q) e =
        let n = w.placed page q e in
        mounted_newest (from page) page seen q n (w.counts.placed page q n.label e n.stands)

-- the bytes there are its content
placed_bytes : (c : Cells) (pages : List PageData) (from : ℕ → ℕ) (seen : Shown) → ShowsPages c pages from seen → (page : ℕ) (q : Place)
    → place_of c.places page ≡ Some q → bytes_at seen (Some q) ≡ get_or pages page blank_page
placed_bytes c pages from seen w page q e =
    let n = w.placed page q e in
    ap bytes_of_label n.stands ∙ w.bytes page q n.label e n.stands

content_at : (c : Cells) (pages : List PageData) (from : ℕ → ℕ) (seen : Shown) → ShowsPages c pages from seen
    → ((page : ℕ) → place_of c.places page ≡ None → get_or pages page blank_page ≡ blank_page) → (page : ℕ)
    → mounted_content (from page) page seen ≡ get_or pages page blank_page
content_at c pages from seen w blank page = ap (bytes_at seen) (mounted_at c pages from seen w page) ∙ by_place (place_of c.places page) refl
  where
    by_place : (o : Option Place) → place_of c.places page ≡ o → bytes_at seen o ≡ get_or pages page blank_page
    by_place None e = sym (blank page e)
    by_place (Some q) e = placed_bytes c pages from seen w page q e

-- labels that show the pages tell a mount all that stands
pub mounts_all : (c : Cells) (pages : List PageData) (from : ℕ → ℕ) (seen : Shown) → ShowsPages c pages from seen
    → ((page : ℕ) → place_of c.places page ≡ None → get_or pages page blank_page ≡ blank_page) → MountsAll c pages from seen
mounts_all c pages from seen w blank = record {
  places = ext_get_or None (mounted_places from (length c.places) seen) c.places places_len
      (λ page lt. get_or-map-range_with_len (λ p. mounted_place (from p) p seen) 0 (length c.places) page page None (omega (arith, places_len))
      (omega arith) ∙ mounted_at c pages from seen w page);
  contents = ext_get_or blank_page (mounted_contents from (length pages) seen) pages contents_len
      (λ page lt. get_or-map-range_with_len (λ p. mounted_content (from p) p seen) 0 (length pages) page page blank_page
      (omega (arith, contents_len)) (omega arith) ∙ content_at c pages from seen w blank page);
}
  where
    places_len : length (mounted_places from (length c.places) seen) ≡ length c.places
    places_len = length-map-range_with_len (λ page. mounted_place (from page) page seen) 0 (length c.places)

    contents_len : length (mounted_contents from (length pages) seen) ≡ length pages
    contents_len = length-map-range_with_len (λ page. mounted_content (from page) page seen) 0 (length pages)

-- and without a word of trims, or with some, each placed page
pub mounts_placed : (c : Cells) (pages : List PageData) (known from : ℕ → ℕ) (seen : Shown)
    → ((page : ℕ) (q : Place) (x : Label) → place_of c.places page ≡ Some q → label_at seen q ≡ Some x → known page ≤ x.serial)
    → ShowsPages c pages from seen → MountsPlaced c pages known from seen
mounts_placed c pages known from seen counts w = record {
  places = found;
  contents = λ page q e. ap (bytes_at seen) (found page q e) ∙ placed_bytes c pages from seen w page q e;
  unplaced = λ page q none e.
      let s = mounted_stands (known page) page seen q e in
      (s.0, s.1, s.2, s.3, w.counts.unplaced page none q s.0 s.1 s.2, ap (bytes_at seen) e ∙ ap bytes_of_label s.1);
  told = λ page none le. mounted_none (known page) page seen
      (λ q x f own. omega (arith, w.counts.unplaced page none q x f own, le));
}
  where
    found : (page : ℕ) (q : Place) → place_of c.places page ≡ Some q → mounted_place (known page) page seen ≡ Some q
    found page q e = let n = w.placed page q e in mounted_newest (known page) page seen q n (counts page q n.label e n.stands)
