-- What a label does to the newest one of each page.
use Rattle.std.proofs.Common.{◌≡◌, ◌≢◌, ◌⊎◌, ℕ, ◌+◌, ◌<◌, ◌≤◌, ◌==◌, ◌&&◌, nat_lt, nat_le, true, false, cond, List, length, get_or, set}
use Rattle.std.proofs.Common.{Option, Some, None, option_map, refl, ap, sym, ◌∙◌, subst, inl, inr, arith}
use Rattle.std.proofs.lemmas.Bool.{cases_eq}
use Rattle.std.proofs.lemmas.Bool.Decides.{nat_tests}
use Rattle.std.proofs.lemmas.List.{get_or-set_same, get_or-set_other}
use Rattle.std.proofs.lemmas.Option.{same_Some}
use Rattle.slot_types.specs.Places.{place_of}
use Rattle.slot_types.specs.declared.pages.Place.{Place}
use Rattle.power_loss.specs.Labels.{Label as Stands}
use Rattle.power_loss.specs.Mounted.{Found, all_count, newer, found_at}
use Rattle.die_mount.specs.declared.label.Label.{Label}
use Rattle.die_mount.specs.Scanned.{found_of, LieBefore}
use Rattle.die_mount.specs.Told.{shown_label}

-- a label of another page changes nothing
other_page : (page : ℕ) (q : Place) (x : Stands) (best : Option Found) → x.page ≢ page → found_at (all_count page) page q x best ≡ best
other_page page q x best other =
    let fails : (x.page == page) ≡ false = grind (arith, nat_tests) in
    ap (λ t. cond (t && nat_le 0 x.serial) (newer best (record { place = q; serial = x.serial })) best) fails

-- of the page's own label and the newest before it the newer one counts
own_page : (page : ℕ) (q : Place) (x : Stands) (best : Option Found) → x.page ≡ page
    → found_at (all_count page) page q x best ≡ newer best (record { place = q; serial = x.serial })
own_page page q x best own =
    let passes : ((x.page == page) && nat_le 0 x.serial) ≡ true = grind (arith, nat_tests) in
    ap (λ t. cond t (newer best (record { place = q; serial = x.serial })) best) passes

newer_stays : (f next : Found) → next.serial ≤ f.serial → newer (Some f) next ≡ Some f
newer_stays f next le =
    let fails : nat_lt f.serial next.serial ≡ false = grind (arith, nat_tests) in
    ap (λ t. cond t (Some next) (Some f)) fails

newer_comes : (f next : Found) → f.serial < next.serial → newer (Some f) next ≡ Some next
newer_comes f next lt =
    let passes : nat_lt f.serial next.serial ≡ true = grind (arith, nat_tests) in
    ap (λ t. cond t (Some next) (Some f)) passes

abbrev found_by : List ℕ → ℕ → Option Place → Option Found
found_by serials page o = option_map (λ (place : Place). record { place = place; serial = get_or serials page 0 }) o

module _ (places : List (Option Place)) (serials : List ℕ) (q : Place) (label : Label) where
  -- where a newer label of the page was taken in before
  pub nothing_newer : (old : Place) → place_of places label.page ≡ Some old → label.serial ≤ get_or serials label.page 0
      → (page : ℕ) → found_of places serials page ≡ found_at (all_count page) page q (shown_label label) (found_of places serials page)
  nothing_newer old lies le page = by_case (cases_eq label.page page)
    where
      own : found_of places serials label.page
          ≡ found_at (all_count label.page) label.page q (shown_label label) (found_of places serials label.page)
      own =
          let f : Found = record { place = old; serial = get_or serials label.page 0 } in
          let is : found_of places serials label.page ≡ Some f = ap (found_by serials label.page) lies in
          sym (own_page label.page q (shown_label label) (found_of places serials label.page) refl
          ∙ ap (λ o. newer o (record { place = q; serial = label.serial })) is ∙ newer_stays f (record { place = q; serial = label.serial }) le ∙ sym is)

      by_case : (label.page ≡ page) ⊎ (label.page ≡ page → ⊥)
          → found_of places serials page ≡ found_at (all_count page) page q (shown_label label) (found_of places serials page)
      by_case (inl e) = subst (λ p. found_of places serials p ≡ found_at (all_count p) p q (shown_label label) (found_of places serials p)) e own
      by_case (inr ne) = sym (other_page page q (shown_label label) (found_of places serials page) ne)

  -- where this label is the newest
  pub comes : label.page < length places → length serials ≡ length places
      → ((old : Place) → place_of places label.page ≡ Some old → get_or serials label.page 0 < label.serial)
      → (page : ℕ) → found_of (set places label.page (Some q)) (set serials label.page label.serial) page
      ≡ found_at (all_count page) page q (shown_label label) (found_of places serials page)
  comes within same newest page = by_case (cases_eq page label.page)
    where
      next : Found
      next = record { place = q; serial = label.serial }

      before : (o : Option Place) → place_of places label.page ≡ o
          → newer (found_by serials label.page o) (record { place = q; serial = label.serial }) ≡ Some (record { place = q; serial = label.serial })
      before None e = refl
      before (Some old) e =
          newer_comes (record { place = old; serial = get_or serials label.page 0 }) (record { place = q; serial = label.serial }) (newest old e)

      now : found_of (set places label.page (Some q)) (set serials label.page label.serial) label.page
          ≡ Some (record { place = q; serial = label.serial })
      now =
          let long : label.page < length serials = omega arith in
          ap (found_by (set serials label.page label.serial) label.page) (get_or-set_same places label.page (Some q) None within)
          ∙ ap (λ n. Some (record { place = q; serial = n })) (get_or-set_same serials label.page label.serial 0 long)

      own : found_of (set places label.page (Some q)) (set serials label.page label.serial) label.page
          ≡ found_at (all_count label.page) label.page q (shown_label label) (found_of places serials label.page)
      own = now ∙ sym (own_page label.page q (shown_label label) (found_of places serials label.page) refl
          ∙ before (place_of places label.page) refl)

      by_case : (page ≡ label.page) ⊎ (page ≡ label.page → ⊥)
          → found_of (set places label.page (Some q)) (set serials label.page label.serial) page
          ≡ found_at (all_count page) page q (shown_label label) (found_of places serials page)
      by_case (inl e) = subst (λ p. found_of (set places label.page (Some q)) (set serials label.page label.serial) p
          ≡ found_at (all_count p) p q (shown_label label) (found_of places serials p)) (sym e) own
      by_case (inr ne) =
          ap (found_by (set serials label.page label.serial) page) (get_or-set_other places label.page page (Some q) None ne)
          ∙ ap (λ n. option_map (λ (place : Place). record { place = place; serial = n }) (place_of places page))
          (get_or-set_other serials label.page page label.serial 0 ne)
          ∙ sym (other_page page q (shown_label label) (found_of places serials page) (λ e. ne (sym e)))

-- Where pages lie

pub lie_on : (b k : ℕ) (places : List (Option Place)) → LieBefore b k places → LieBefore b (k + 1) places
lie_on b k places before page q lies = by_case (before page q lies)
  where
    by_case : (q.block < b) ⊎ ((q.block ≡ b) × (q.page < k)) → (q.block < b) ⊎ ((q.block ≡ b) × (q.page < k + 1))
    by_case (inl h) = inl h
    by_case (inr h) = inr (h.0, omega (arith, h.1))

pub lie_past : (b k : ℕ) (places : List (Option Place)) → LieBefore b k places → LieBefore (b + 1) 0 places
lie_past b k places before page q lies = by_case (before page q lies)
  where
    by_case : (q.block < b) ⊎ ((q.block ≡ b) × (q.page < k)) → (q.block < b + 1) ⊎ ((q.block ≡ b + 1) × (q.page < 0))
    by_case (inl h) = inl (omega arith)
    by_case (inr h) = inl (omega (arith, h.0))

pub lie_with : (q : Place) (places : List (Option Place)) (page : ℕ) → page < length places → LieBefore q.block q.page places
    → LieBefore q.block (q.page + 1) (set places page (Some q))
lie_with q places page within before i r lies = by_case (cases_eq i page)
  where
    by_case : (i ≡ page) ⊎ (i ≡ page → ⊥) → (r.block < q.block) ⊎ ((r.block ≡ q.block) × (r.page < q.page + 1))
    by_case (inl e) =
        let is : q ≡ r = same_Some q r (sym (get_or-set_same places page (Some q) None within) ∙ ap (λ j. place_of (set places page (Some q)) j) (sym e)
        ∙ lies) in
        inr (sym (ap (λ (p : Place). p.block) is), omega (arith, ap (λ (p : Place). p.page) is))
    by_case (inr ne) = lie_on q.block q.page places before i r (sym (get_or-set_other places page i (Some q) None ne) ∙ lies)

-- the cell is free
pub none_there : (q : Place) (places : List (Option Place)) → LieBefore q.block q.page places → (page : ℕ) → place_of places page ≡ Some q → ⊥
none_there q places before page lies = by_case (before page q lies)
  where
    by_case : (q.block < q.block) ⊎ ((q.block ≡ q.block) × (q.page < q.page)) → ⊥
    by_case (inl h) = omega arith
    by_case (inr h) = omega (arith, h.1)
