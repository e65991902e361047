-- Where a scan has the pages: where they are found.
use Rattle.std.proofs.Common.{◌≡◌, ◌≢◌, ◌⊎◌, ℕ, suc, ◌+◌, ◌<◌, ◌≤◌, ◌==◌, false, cond, List, [], ◌∷◌, length, get_or, count_by}
use Rattle.std.proofs.Common.{Option, Some, None, option_map, refl, ap, sym, ◌∙◌, subst, inl, inr, arith}
use Rattle.std.proofs.lemmas.Bool.{cases_eq}
use Rattle.std.proofs.lemmas.Bool.Decides.{nat_tests}
use Rattle.std.proofs.lemmas.List.{ext_get_or, get_or-set_same, get_or-set_other}
use Rattle.std.proofs.lemmas.Option.{none-some}
use Rattle.std.proofs.lemmas.List.Sums.{sum_by-cons}
use Rattle.slot_types.specs.Places.{is_in, place_of}
use Rattle.std.specs.Prelude.{IsSome}
use Rattle.slot_types.specs.declared.pages.PageData.{PageData}
use Rattle.slot_types.specs.declared.pages.Place.{Place}
use Rattle.die_log.specs.Model.Start.{blank_page}
use Rattle.slot_types.specs.declared.plans.DiePlan.{DiePlan}
use Rattle.page_map.proofs.Moving.{one_less}
use Rattle.page_map.proofs.Owners.{within}
use Rattle.power_loss.specs.Labels.{Label as Stands, Shown, FitPlan, label_at, labels_in}
use Rattle.power_loss.specs.Mounted.{Found, all_count, bytes_at, mounted_place, mounted_places}
use Rattle.power_loss.specs.Recovery.{CanUndo, FindsNoneIn, IsNewestBlock, IsAbove, without_block}
use Rattle.power_loss.proofs.TwoMounts.{IsLess, places_long, place_at, content_at, same_place}
use Rattle.power_loss.proofs.Mounting.{mounted_stands}
use Rattle.die_mount.specs.declared.newest.Newest.{Newest}
use Rattle.die_mount.specs.Scanned.{Scanned, IsScanOf, IsGreatest}

zero_and : (n : ℕ) → n ≡ 0 → 0 + n ≡ 0
zero_and n e = omega arith

module _ (plan : DiePlan) (s : Scanned) (seen : Shown) (h : IsScanOf plan s seen) where
  pub found_place : (page : ℕ) → page < plan.logical → place_of s.places page ≡ mounted_place (all_count page) page seen
  found_place page lt = own (place_of s.places page) ∙ ap (option_map (λ (f : Found). f.place)) (h.found page lt)
    where
      own : (o : Option Place) → o
          ≡ option_map (λ (f : Found). f.place) (option_map (λ (q : Place). record { place = q; serial = get_or s.serials page 0 }) o)
      own None = refl
      own (Some q) = refl

  pub found_places : s.places ≡ mounted_places all_count plan.logical seen
  found_places = ext_get_or None s.places (mounted_places all_count plan.logical seen) (h.logical ∙ sym (places_long all_count plan.logical seen))
      (λ page lt. let below : page < plan.logical = omega (arith, h.logical) in found_place page below
      ∙ sym (place_at all_count plan.logical seen page below))

  -- Blocks without a page

  -- where none is counted, none is found
  pub none_found : (b : ℕ) → count_by (is_in b) s.places ≡ 0 → FindsNoneIn plan all_count seen b
  none_found b nothing page lt q e in_b =
      let lies : place_of s.places page ≡ Some q = found_place page lt ∙ e in
      let some : count_by (is_in q.block) s.places ≡ 0 = ap (λ c. count_by (is_in c) s.places) in_b ∙ nothing in
      omega (arith, one_less s.places page q (within s.places page q lies) lies, some)

  -- and back
  pub none_counted : (b : ℕ) → FindsNoneIn plan all_count seen b → count_by (is_in b) s.places ≡ 0
  none_counted b none = of_list s.places (λ page q lies.
      let below : page < plan.logical = omega (arith, within s.places page q lies, h.logical) in
      none page below q (sym (found_place page below) ∙ lies))
    where
      of_list : (places : List (Option Place)) → ((page : ℕ) (q : Place) → place_of places page ≡ Some q → q.block ≢ b)
          → count_by (is_in b) places ≡ 0
      of_list [] each = refl
      of_list (None ∷ places) each = of_list places (λ page q e. each (suc page) q e)
      of_list (Some q ∷ places) each =
          let ne : q.block ≢ b = each 0 q refl in
          let fails : (q.block == b) ≡ false = grind (arith, nat_tests) in
          let rest : count_by (is_in b) places ≡ 0 = of_list places (λ page r e. each (suc page) r e) in
          sum_by-cons (λ o. cond (is_in b o) 1 0) (Some q) places ∙ ap (λ t. cond {A = ℕ} t 1 0 + count_by (is_in b) places) fails
          ∙ zero_and (count_by (is_in b) places) rest

  -- The greatest serial

  pub above : (next : ℕ) → ((n : Newest) → s.newest ≡ Some n → n.serial < next) → IsAbove seen all_count next
  above next over = record { labels = of_newest s.newest refl h.newest; counts = λ page. omega arith }
    where
      of_newest : (o : Option Newest) → s.newest ≡ o → IsGreatest seen o → (q : Place) (x : Stands) → label_at seen q ≡ Some x → x.serial < next
      of_newest None is g q x e = absurd (g q x e)
      of_newest (Some n) is g q x e = omega (arith, g.1 q x e, over n is)

  -- where it stands, no other block has one as great
  pub newest_block : (n : Newest) → s.newest ≡ Some n → FitPlan plan seen → IsNewestBlock seen n.block
  newest_block n is fit = at (subst (IsGreatest seen) is h.newest)
    where
      at : IsGreatest seen (Some n) → IsNewestBlock seen n.block
      at g = record {
        place = g.0.0;
        label = g.0.1;
        own = g.0.3;
        stands = g.0.2;
        newest = λ r y e out.
            by_case r y e out (cases_eq y.serial g.0.1.serial);
      }
        where
          by_case : (r : Place) (y : Stands) → label_at seen r ≡ Some y → r.block ≢ n.block
              → (y.serial ≡ g.0.1.serial) ⊎ (y.serial ≡ g.0.1.serial → ⊥) → y.serial < g.0.1.serial
          by_case r y e out (inl same) =
              absurd (out (ap (λ (p : Place). p.block) (fit.apart r g.0.0 y g.0.1 e g.0.2 same) ∙ g.0.3))
          by_case r y e out (inr ne) = let le : y.serial ≤ n.serial = g.1 r y e in omega (arith, g.0.4)

  -- without a label no page is found
  pub no_labels : s.newest ≡ None → (b : ℕ) → FindsNoneIn plan all_count seen b
  no_labels none b page lt q e in_b =
      let g : IsGreatest seen None = subst (IsGreatest seen) none h.newest in
      let f = mounted_stands (all_count page) page seen q e in g q f.0 f.1

-- where a block may be undone, only a page whose bytes are those of a blank one is lost
pub only_blank : (plan : DiePlan) (before after : Scanned) (seen : Shown) (block : ℕ) (pages : List PageData) → IsScanOf plan before seen
    → IsScanOf plan after (without_block block seen) → CanUndo plan pages all_count seen block → (page : ℕ) → IsSome (place_of before.places page)
    → place_of after.places page ≡ None → get_or pages page blank_page ≡ blank_page
only_blank plan before after seen block pages h later can page some none = by_place (place_of before.places page) refl some
  where
    blank : page < plan.logical → get_or pages page blank_page ≡ blank_page
    blank lt = ap (λ l. get_or l page blank_page) (sym can.others) ∙ content_at all_count plan.logical (without_block block seen) page lt
        ∙ ap (bytes_at (without_block block seen)) (sym (found_place plan after (without_block block seen) later page lt) ∙ none)

    by_place : (o : Option Place) → place_of before.places page ≡ o → IsSome o → get_or pages page blank_page ≡ blank_page
    by_place None e is = absurd (cc)
    by_place (Some q) e is = blank (omega (arith, within before.places page q e, h.logical))

-- Without an idle block

left_less : (b : ℕ) (seen : Shown) → b < length seen → IsLess (without_block b seen) seen
left_less b seen lt q x e = by_case (cases_eq q.block b)
  where
    by_case : (q.block ≡ b) ⊎ (q.block ≡ b → ⊥) → label_at seen q ≡ Some x
    by_case (inl is) = absurd (none-some x (sym (ap (λ cells. get_or cells q.page None) (ap (labels_in (without_block b seen)) is
        ∙ get_or-set_same seen b [] [] lt)) ∙ e))
    by_case (inr ne) = sym (ap (λ cells. get_or cells q.page None) (get_or-set_other seen b q.block [] [] ne)) ∙ e

-- each page is found where it was
pub idle_stays : (plan : DiePlan) (s : Scanned) (seen : Shown) → IsScanOf plan s seen → FitPlan plan seen → (b : ℕ) → b < length seen
    → FindsNoneIn plan all_count seen b → mounted_places all_count plan.logical (without_block b seen) ≡ s.places
idle_stays plan s seen h fit b lt none =
    ext_get_or None (mounted_places all_count plan.logical (without_block b seen)) s.places
    (places_long all_count plan.logical (without_block b seen) ∙ sym h.logical)
    (λ page within.
    let below : page < plan.logical = omega (arith, within, places_long all_count plan.logical (without_block b seen)) in
    place_at all_count plan.logical (without_block b seen) page below ∙ same page below ∙ sym (found_place plan s seen h page below))
  where
    same : (page : ℕ) → page < plan.logical
        → mounted_place (all_count page) page (without_block b seen) ≡ mounted_place (all_count page) page seen
    same page below = same_place plan (all_count page) page seen (without_block b seen) fit (left_less b seen lt)
        (λ q x e f. ap (λ cells. get_or cells q.page None) (get_or-set_other seen b q.block [] [] (none page below q e)) ∙ f)
