-- What a scan has once it took in one block more.
use Rattle.std.proofs.Common.{◌≡◌, ◌⊎◌, ℕ, ◌+◌, ◌<◌, ◌≤◌, nat_lt, Bool, true, false, cond, List, [], ◌∷◌, ◌++◌, length, get_or}
use Rattle.std.proofs.Common.{◌-◌, option_map, Option, Some, None, refl, ap, sym, ◌∙◌, subst, inl, inr, arith}
use Rattle.std.proofs.Math.ListN.{get_or-map}
use Rattle.std.proofs.lemmas.Bool.{cases_lt, cases_eq, ltb-true, ltb-false}
use Rattle.std.proofs.lemmas.List.{get_or-append_right, get_or_append_left, get_or_past, length-append}
use Rattle.std.proofs.lemmas.Option.{same_Some, none-some}
use Rattle.slot_types.specs.declared.pages.Place.{Place}
use Rattle.slot_types.specs.declared.plans.DiePlan.{DiePlan}
use Rattle.power_loss.specs.Labels.{Label as Stands, Shown, label_at}
use Rattle.power_loss.specs.Mounted.{Found, all_count, found_in, found_in_block}
use Rattle.die_mount.specs.declared.label.Label.{Label}
use Rattle.die_mount.specs.declared.newest.Newest.{Newest}
use Rattle.die_mount.specs.Scanned.{Scanned, IsScanOf, IsGreatest, found_of, newer_of}
use Rattle.die_mount.specs.Told.{told_at, told_cells, told_label, shown_cells, IsGreatestIn}
use Rattle.die_mount.proofs.Cells.{same_found}

-- the block after these
found_more : (from page b : ℕ) (seen : Shown) (shown : List (Option Stands)) (best : Option Found)
    → found_in from page b (seen ++ shown ∷ []) best ≡ found_in_block from page (b + length seen) 0 shown (found_in from page b seen best)
found_more from page b [] shown best = ap (λ n. found_in_block from page n 0 shown best) (omega arith)
found_more from page b (xs ∷ seen) shown best = found_more from page (b + 1) seen shown (found_in_block from page b 0 xs best)
    ∙ ap (λ n. found_in_block from page n 0 shown (found_in from page (b + 1) seen (found_in_block from page b 0 xs best))) (omega arith)

-- Labels

-- a label of the blocks and of one more is one of theirs, or of that one
at_more : (seen : Shown) (shown : List (Option Stands)) (q : Place) (x : Stands) → label_at (seen ++ shown ∷ []) q ≡ Some x
    → (label_at seen q ≡ Some x) ⊎ ((q.block ≡ length seen) × (get_or shown q.page None ≡ Some x))
at_more seen shown q x e = by_case (cases_lt q.block (length seen)) (cases_eq q.block (length seen))
  where
    of : List (Option Stands) → Option Stands
    of cells = get_or cells q.page None

    by_case : (q.block < length seen) ⊎ (length seen ≤ q.block) → (q.block ≡ length seen) ⊎ (q.block ≡ length seen → ⊥)
        → (label_at seen q ≡ Some x) ⊎ ((q.block ≡ length seen) × (get_or shown q.page None ≡ Some x))
    by_case (inl lt) other = inl (sym (ap (λ cells. get_or cells q.page None) (get_or_append_left seen (shown ∷ []) [] q.block lt)) ∙ e)
    by_case (inr past) (inl is) =
        let zero : q.block - length seen ≡ 0 = omega arith in
        inr (
          is,
          sym (ap (λ cells. get_or cells q.page None) (get_or-append_right seen (shown ∷ []) (length seen) q.block [] refl past
              ∙ ap (λ i. get_or (shown ∷ []) i []) zero)) ∙ e,
        )
    by_case (inr past) (inr ne) =
        let out : length (seen ++ shown ∷ []) ≤ q.block = omega (arith, length-append seen (shown ∷ [])) in
        absurd (none-some x (sym (ap (λ cells. get_or cells q.page None) (get_or_past (seen ++ shown ∷ []) q.block [] out)) ∙ e))

at_before : (seen : Shown) (shown : List (Option Stands)) (q : Place) (x : Stands) → label_at seen q ≡ Some x
    → label_at (seen ++ shown ∷ []) q ≡ Some x
at_before seen shown q x e = by_case (cases_lt q.block (length seen))
  where
    by_case : (q.block < length seen) ⊎ (length seen ≤ q.block) → label_at (seen ++ shown ∷ []) q ≡ Some x
    by_case (inl lt) = ap (λ cells. get_or cells q.page None) (get_or_append_left seen (shown ∷ []) [] q.block lt) ∙ e
    by_case (inr past) = absurd (none-some x (sym (ap (λ cells. get_or cells q.page None) (get_or_past seen q.block [] past)) ∙ e))

at_last : (seen : Shown) (shown : List (Option Stands)) (k : ℕ) (x : Stands) → get_or shown k None ≡ Some x
    → label_at (seen ++ shown ∷ []) (record { block = length seen; page = k }) ≡ Some x
at_last seen shown k x e =
    let zero : length seen - length seen ≡ 0 = omega arith in
    let past : length seen ≤ length seen = omega arith in
    ap (λ cells. get_or cells k None) (get_or-append_right seen (shown ∷ []) (length seen) (length seen) [] refl past
    ∙ ap (λ i. get_or (shown ∷ []) i []) zero) ∙ e

-- what is reported of a cell
told_is : (shown : List (Option Stands)) (k : ℕ) (x : Stands) → get_or shown k None ≡ Some x → told_at (told_cells shown) k ≡ Some (told_label x)
told_is shown k x e = get_or-map (option_map told_label) shown k None ∙ ap (option_map told_label) e

shown_is : (o : Option Stands) (y : Label) → option_map told_label o ≡ Some y → (x : Stands) × (o ≡ Some x) × (told_label x ≡ y)
shown_is None y e = absurd (none-some y e)
shown_is (Some x) y e = (x, refl, same_Some (told_label x) y e)

-- The greatest serial

greatest_more : (seen : Shown) (shown : List (Option Stands)) (before : Option Newest) (most : Option ℕ) → IsGreatest seen before
    → IsGreatestIn (told_cells shown) most → IsGreatest (seen ++ shown ∷ []) (newer_of before (length seen) most)
greatest_more seen shown None None h g = λ q x e. by_case q x (at_more seen shown q x e)
  where
    by_case : (q : Place) (x : Stands) → (label_at seen q ≡ Some x) ⊎ ((q.block ≡ length seen) × (get_or shown q.page None ≡ Some x)) → ⊥
    by_case q x (inl e) = h q x e
    by_case q x (inr e) = g q.page (told_label x) (told_is shown q.page x e.1)
greatest_more seen shown (Some n) None h g =
    ((h.0.0, h.0.1, at_before seen shown h.0.0 h.0.1 h.0.2, h.0.3, h.0.4), λ q x e. by_case q x (at_more seen shown q x e))
  where
    by_case : (q : Place) (x : Stands) → (label_at seen q ≡ Some x) ⊎ ((q.block ≡ length seen) × (get_or shown q.page None ≡ Some x))
        → x.serial ≤ n.serial
    by_case q x (inl e) = h.1 q x e
    by_case q x (inr e) = absurd (g q.page (told_label x) (told_is shown q.page x e.1))
greatest_more seen shown before (Some most) h g = by_before before h
  where
    -- the cell that has it
    has : (x : Stands) × (get_or shown g.0.0 None ≡ Some x) × (told_label x ≡ g.0.1)
    has = shown_is (get_or shown g.0.0 None) g.0.1 (sym (get_or-map (option_map told_label) shown g.0.0 None) ∙ g.0.2)

    here : (q : Place) × (x : Stands) × (label_at (seen ++ shown ∷ []) q ≡ Some x) × (q.block ≡ length seen) × (x.serial ≡ most)
    here = (
      record { block = length seen; page = g.0.0 },
      has.0,
      at_last seen shown g.0.0 has.0 has.1,
      refl,
      ap (λ (y : Label). y.serial) has.2 ∙ g.0.3,
    )

    least : (bound : ℕ) → most ≤ bound → ((q : Place) (x : Stands) → label_at seen q ≡ Some x → x.serial ≤ bound)
        → (q : Place) (x : Stands) → label_at (seen ++ shown ∷ []) q ≡ Some x → x.serial ≤ bound
    least bound le old q x e = by_case (at_more seen shown q x e)
      where
        by_case : (label_at seen q ≡ Some x) ⊎ ((q.block ≡ length seen) × (get_or shown q.page None ≡ Some x)) → x.serial ≤ bound
        by_case (inl f) = old q x f
        by_case (inr f) = let is : x.serial ≤ most = g.1 q.page (told_label x) (told_is shown q.page x f.1) in omega arith

    by_test : (n : Newest) → IsGreatest seen (Some n) → (t : Bool) → nat_lt n.serial most ≡ t
        → IsGreatest (seen ++ shown ∷ []) (cond t (Some (record { block = length seen; serial = most })) (Some n))
    by_test n k true e =
        let lt : n.serial < most = ltb-true n.serial most e in
        (here, least most (omega arith) (λ q x f. let le : x.serial ≤ n.serial = k.1 q x f in omega arith))
    by_test n k false e =
        let le : most ≤ n.serial = ltb-false n.serial most e in
        ((k.0.0, k.0.1, at_before seen shown k.0.0 k.0.1 k.0.2, k.0.3, k.0.4), least n.serial le k.1)

    by_before : (old : Option Newest) → IsGreatest seen old → IsGreatest (seen ++ shown ∷ []) (newer_of old (length seen) (Some most))
    by_before None k = (here, least most (omega arith) (λ q x e. absurd (k q x e)))
    by_before (Some n) k = by_test n k (nat_lt n.serial most) refl

-- The scan

pub scan_more : (plan : DiePlan) (before after : Scanned) (seen : Shown) (cells : List (Option Label)) (shown : List (Option Stands)) (most : Option ℕ)
    → IsScanOf plan before seen → cells ≡ told_cells shown → after.shape ≡ before.shape → length after.places ≡ length before.places
    → after.told ≡ before.told + 1
    → ((page : ℕ) → page < length before.places → found_of after.places after.serials page
    ≡ found_in_block (all_count page) page before.told 0 (shown_cells cells) (found_of before.places before.serials page))
    → IsGreatestIn cells most → after.newest ≡ newer_of before.newest before.told most → IsScanOf plan after (seen ++ shown ∷ [])
scan_more plan before after seen cells shown most h told shape pages next found great newest = record {
  shape = shape ∙ h.shape;
  logical = pages ∙ h.logical;
  told = omega (arith, length-append seen (shown ∷ []), h.told, next);
  found = λ page lt.
      let within : page < length before.places = omega (arith, h.logical, lt) in
      found page within ∙ ap (λ l. found_in_block (all_count page) page before.told 0 (shown_cells l) (found_of before.places before.serials page)) told
      ∙ same_found (all_count page) page before.told 0 shown (found_of before.places before.serials page)
      ∙ ap (λ o. found_in_block (all_count page) page before.told 0 shown o) (h.found page lt)
      ∙ ap (λ b. found_in_block (all_count page) page b 0 shown (found_in (all_count page) page 0 seen None)) (sym h.told ∙ omega arith)
      ∙ sym (found_more (all_count page) page 0 seen shown None);
  newest = subst (λ o. IsGreatest (seen ++ shown ∷ []) o) (sym (newest ∙ ap (λ b. newer_of before.newest b most) (sym h.told)))
      (greatest_more seen shown before.newest most h.newest (subst (λ l. IsGreatestIn l most) told great));
}
