-- What a trim of a page keeps: it lies nowhere from then on.
use Rattle.std.proofs.Common.{◌≡◌, ℕ, ◌+◌, ◌<◌, List, length, set, count_by, Option, Some, None, refl, sym, ap, ◌∙◌, arith, inl, inr}
use Rattle.std.specs.Prelude.{is_some}
use Rattle.std.proofs.lemmas.Bool.{cases_eq}
use Rattle.std.proofs.lemmas.List.{get_or-set_same, get_or-set_other, length-set, map-set}
use Rattle.std.proofs.lemmas.List.Sums.{sum_by-set}
use Rattle.slot_types.specs.declared.pages.Place.{Place}
use Rattle.slot_types.specs.declared.plans.Shape.{Shape}
use Rattle.slot_types.specs.Places.{place_of, is_in}
use Rattle.plan_rules.specs.Accounts.{Accounts}
use Rattle.victim_pick.specs.Candidates.{Candidates, count_of}
use Rattle.page_map.specs.Placing.{Placing, placing_without}
use Rattle.flash_die.specs.Flash.{Block, blank}
use Rattle.flash_volume.specs.declared.collection.Collection.{Collection}
use Rattle.flash_volume.specs.Cells.{content_at, contents}
use Rattle.flash_volume.specs.Array.{IsSoundState, counts_after_leaving}
use Rattle.flash_volume.specs.Running.{RunWell}
use Rattle.flash_volume.specs.SoundVolume.{IsSoundVolume}
use Rattle.flash_volume.proofs.Opening.{Sound}
use Rattle.flash_volume.proofs.Counting.{here, left_counted, left_len}
use Rattle.flash_volume.proofs.Collections.{runs_kept, picks_kept}

-- what lies somewhere is another page, which lay there
lay_there : (places : List (Option Place)) (page p : ℕ) (q : Place) → page < length places → place_of (set places page None) p ≡ Some q
    → place_of places p ≡ Some q
lay_there places page p q below lies =
    elim (cases_eq p page) [
      | inl same ↦
          let nowhere : place_of (set places page None) p ≡ None = ap (λ (j : ℕ). place_of (set places page None) j) same
          ∙ get_or-set_same places page None None below in
          absurd (cc)
      | inr other ↦ sym (get_or-set_other places page p None None other) ∙ lies
    ]

-- the pages that lie in a block, before and after
leaves : (block page : ℕ) (places : List (Option Place)) → page < length places
    → count_by (is_in block) (set places page None) + here block (place_of places page) ≡ count_by (is_in block) places
leaves block page places below = omega (arith, sum_by-set (here block) places page None None below)

pub stands_trimmed : {shape : Shape} {failures : ℕ} {blocks : List Block} {placing : Placing} {fills worn : List ℕ} {writing : Option ℕ}
    {candidates : Candidates} (page : ℕ) → IsSoundState shape failures blocks placing fills worn writing candidates → page < length placing.places
    → IsSoundState shape failures blocks (placing_without placing page) fills worn writing
    (record candidates { counts = counts_after_leaving (place_of placing.places page) candidates.counts })
stands_trimmed {placing = placing} {candidates = candidates} page stands below = record {
  limits = stands.limits;
  map_shape = stands.map_shape;
  well = stands.well;
  count = stands.count;
  fills_are = stands.fills_are;
  erases_are = stands.erases_are;
  within = stands.within;
  one_open = stands.one_open;
  writing_is = stands.writing_is;
  quiet = stands.quiet;
  placed = λ p q lies. stands.placed p q (lay_there placing.places page p q below lies);
  few_valid = λ block. omega (arith, stands.few_valid block, leaves block page placing.places below);
  candidates_len = left_len (place_of placing.places page) candidates.counts ∙ stands.candidates_len;
  worn_len = stands.worn_len;
  candidates_pages = stands.candidates_pages;
  counted = λ block n is.
      let was = left_counted (place_of placing.places page) candidates.counts block n is in
      let old = stands.counted block was.0 was.1 in
      (old.0, omega (arith, was.2, old.1, leaves block page placing.places below));
  worn = λ block n is. let was = left_counted (place_of placing.places page) candidates.counts block n is in stands.worn block was.0 was.1;
}

-- the page is blank, and every other one as before
pub contents_trimmed : (blocks : List Block) (places : List (Option Place)) (page : ℕ) → contents blocks (set places page None)
    ≡ set (contents blocks places) page blank
contents_trimmed blocks places page = map-set (content_at blocks) places page None

run_trimmed : {accounts : Accounts} {pages : ℕ} {blocks : List Block} {places : List (Option Place)} {task : ℕ} {c : Collection} (page : ℕ)
    → RunWell accounts pages blocks places task c → page < length places → RunWell accounts pages blocks (set places page None) task c
run_trimmed {places = places} {c = c} page run below = record {
  in_range = run.in_range;
  closed = run.closed;
  lent = omega (arith, run.lent, leaves c.victim page places below);
  source = run.source;
  home = λ k q holds lies here. run.home k q holds (lay_there places page k.page q below lies) here;
  bytes = λ k holds lies. run.bytes k holds (lay_there places page k.page k.source below lies);
}

pub sound_trimmed : {accounts : Accounts} {shape : Shape} {failures : ℕ} {blocks : List Block} {placing placing_then : Placing}
    {candidates candidates_then : Candidates} {running : List (Option Collection)} (page : ℕ)
    → IsSoundVolume accounts shape failures blocks placing candidates running → page < length placing.places
    → Sound shape failures blocks placing_then candidates_then → placing_then ≡ placing_without placing page
    → ((block : ℕ) → is_some (count_of candidates_then.counts block) ≡ is_some (count_of candidates.counts block))
    → IsSoundVolume accounts shape failures blocks placing_then candidates_then running
sound_trimmed {accounts} {blocks = blocks} {placing = placing} {candidates_then = candidates_then} page sound below stands is same =
    record {
      stands = stands;
      bound = sound.bound;
      shape_is = sound.shape_is;
      map_len = ap (λ (m : Placing). length m.places) is ∙ length-set placing.places page None ∙ sound.map_len;
      total = sound.total;
      runs = rw is (runs_kept accounts blocks (set placing.places page None) sound.runs refl refl
          (λ t c run as_before. run_trimmed page run below));
      picks = picks_kept candidates_then.counts sound.picks same;
    }
