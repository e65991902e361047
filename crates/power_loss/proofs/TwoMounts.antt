-- What two mounts find of what they see, where one sees less than the other.
use Rattle.std.proofs.Common.{◌≡◌, ◌⊎◌, ℕ, ◌<◌, ◌≤◌, List, length, Option, Some, None, refl, ap, sym, ◌∙◌, inl, inr}
use Rattle.std.proofs.Common.{arith, get_or}
use Rattle.std.proofs.lemmas.Bool.{cases_lt}
use Rattle.std.proofs.lemmas.List.{ext_get_or, get_or_past}
use Rattle.std.proofs.lemmas.List.FromFn.{length-map-range_with_len, get_or-map-range_with_len}
use Rattle.std.proofs.lemmas.Option.{none-some}
use Rattle.slot_types.specs.Places.{place_of}
use Rattle.slot_types.specs.declared.plans.DiePlan.{DiePlan}
use Rattle.slot_types.specs.declared.pages.PageData.{PageData}
use Rattle.slot_types.specs.declared.pages.Place.{Place}
use Rattle.die_log.specs.Model.Start.{blank_page}
use Rattle.power_loss.specs.Labels.{Label, Shown, FitPlan, label_at, IsNewest}
use Rattle.power_loss.specs.Mounted.{mounted_place, mounted_content, mounted_places, mounted_contents, bytes_at}
use Rattle.power_loss.specs.Mounted.{bytes_of_label}
use Rattle.power_loss.proofs.Mounting.{found_newest, mounted_newest, mounted_none, none_found}

-- By page

pub places_long : (from : ℕ → ℕ) (logical : ℕ) (seen : Shown) → length (mounted_places from logical seen) ≡ logical
places_long from logical seen = length-map-range_with_len (λ page. mounted_place (from page) page seen) 0 logical

pub contents_long : (from : ℕ → ℕ) (logical : ℕ) (seen : Shown) → length (mounted_contents from logical seen) ≡ logical
contents_long from logical seen = length-map-range_with_len (λ page. mounted_content (from page) page seen) 0 logical

pub place_at : (from : ℕ → ℕ) (logical : ℕ) (seen : Shown) (page : ℕ) → page < logical
    → place_of (mounted_places from logical seen) page ≡ mounted_place (from page) page seen
place_at from logical seen page lt =
    get_or-map-range_with_len (λ p. mounted_place (from p) p seen) 0 logical page page None lt (omega arith)

pub content_at : (from : ℕ → ℕ) (logical : ℕ) (seen : Shown) (page : ℕ) → page < logical
    → get_or (mounted_contents from logical seen) page blank_page ≡ mounted_content (from page) page seen
content_at from logical seen page lt =
    get_or-map-range_with_len (λ p. mounted_content (from p) p seen) 0 logical page page blank_page lt (omega arith)

-- a page that is found is one of the die's
pub place_found : (from : ℕ → ℕ) (logical : ℕ) (seen : Shown) (page : ℕ) (q : Place) → place_of (mounted_places from logical seen) page ≡ Some q
    → (page < logical) × (mounted_place (from page) page seen ≡ Some q)
place_found from logical seen page q e = by_case (cases_lt page logical)
  where
    by_case : (page < logical) ⊎ (logical ≤ page) → (page < logical) × (mounted_place (from page) page seen ≡ Some q)
    by_case (inl lt) = (lt, sym (place_at from logical seen page lt) ∙ e)
    by_case (inr past) =
        absurd (none-some q (sym (get_or_past (mounted_places from logical seen) page None (omega (arith, places_long from logical seen, past))) ∙ e))

-- pages are what is found, if each one is
pub all_found : (from : ℕ → ℕ) (logical : ℕ) (seen : Shown) (pages : List PageData) → length pages ≡ logical
    → ((page : ℕ) → page < logical → mounted_content (from page) page seen ≡ get_or pages page blank_page) → mounted_contents from logical seen ≡ pages
all_found from logical seen pages long each = ext_get_or blank_page (mounted_contents from logical seen) pages
    (contents_long from logical seen ∙ sym long)
    (λ page lt. let within : page < logical = omega (arith, contents_long from logical seen) in content_at from logical seen page within ∙ each page within)

pub bytes_found : (seen : Shown) (q : Place) (x : Label) → label_at seen q ≡ Some x → bytes_at seen (Some q) ≡ x.bytes
bytes_found seen q x e = ap bytes_of_label e

-- Where less is seen

abbrev pub IsLess : Shown → Shown → Type 0
IsLess later seen = (place : Place) (x : Label) → label_at later place ≡ Some x → label_at seen place ≡ Some x

-- labels of which each one was there fit the plan
pub less_fit : (plan : DiePlan) (seen later : Shown) → IsLess later seen → FitPlan plan seen → FitPlan plan later
less_fit plan seen later less h = record {
  cells = λ q x e. h.cells q x (less q x e);
  pages = λ q x e. h.pages q x (less q x e);
  apart = λ q r x y e f. h.apart q r x y (less q x e) (less r y f);
}

abbrev pub less_newest : (seen later : Shown) (page : ℕ) (q : Place) → IsLess later seen → (n : IsNewest seen page q) → label_at later q ≡ Some n.label
    → IsNewest later page q
less_newest seen later page q less n stands = record {
  label = n.label;
  stands = stands;
  own = n.own;
  newest = λ r y e own other. n.newest r y (less r y e) own other;
}

-- what was found is found still, if its label is still there
pub same_place : (plan : DiePlan) (from page : ℕ) (seen later : Shown) → FitPlan plan seen → IsLess later seen
    → ((q : Place) (x : Label) → mounted_place from page seen ≡ Some q → label_at seen q ≡ Some x → label_at later q ≡ Some x)
    → mounted_place from page later ≡ mounted_place from page seen
same_place plan from page seen later fit less stays = by_place (mounted_place from page seen) refl
  where
    by_place : (o : Option Place) → mounted_place from page seen ≡ o → mounted_place from page later ≡ o
    by_place None e = mounted_none from page later (λ q x f own. none_found from page seen e q x (less q x f) own)
    by_place (Some q) e =
        let n = found_newest plan from page seen q fit e in
        mounted_newest from page later q (less_newest seen later page q less n.0 (stays q n.0.label e n.0.stands)) n.1

pub same_content : (plan : DiePlan) (from page : ℕ) (seen later : Shown) → FitPlan plan seen → IsLess later seen
    → ((q : Place) (x : Label) → mounted_place from page seen ≡ Some q → label_at seen q ≡ Some x → label_at later q ≡ Some x)
    → mounted_content from page later ≡ mounted_content from page seen
same_content plan from page seen later fit less stays =
    ap (bytes_at later) (same_place plan from page seen later fit less stays) ∙ by_place (mounted_place from page seen) refl
  where
    by_place : (o : Option Place) → mounted_place from page seen ≡ o → bytes_at later o ≡ bytes_at seen o
    by_place None e = refl
    by_place (Some q) e =
        let n = found_newest plan from page seen q fit e in
        bytes_found later q n.0.label (stays q n.0.label e n.0.stands) ∙ sym (bytes_found seen q n.0.label n.0.stands)

pub same_pages : (plan : DiePlan) (from : ℕ → ℕ) (seen later : Shown) (pages : List PageData) → FitPlan plan seen → IsLess later seen
    → ((page : ℕ) (q : Place) (x : Label) → mounted_place (from page) page seen ≡ Some q → label_at seen q ≡ Some x → label_at later q ≡ Some x)
    → mounted_contents from plan.logical seen ≡ pages → mounted_contents from plan.logical later ≡ pages
same_pages plan from seen later pages fit less stays found =
    all_found from plan.logical later pages (ap (λ (ps : List PageData). length ps) (sym found) ∙ contents_long from plan.logical seen)
    (λ page lt. same_content plan (from page) page seen later fit less (stays page)
    ∙ (sym (content_at from plan.logical seen page lt) ∙ ap (λ (ps : List PageData). get_or ps page blank_page) found))
