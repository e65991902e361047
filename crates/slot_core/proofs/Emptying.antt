-- A collection's act on a volume is the one that the log gives it.
use Rattle.std.proofs.Common.{◌≡◌, ℕ, zero, suc, ◌+◌, ◌<◌, Bool, true, false, cond, List, [], ◌∷◌, Option, Some, None, refl, ap, sym, ◌∙◌}
use Rattle.std.proofs.Common.{option_map, unwrap_or, arith}
use Rattle.std.specs.List.{filter_map, cons_option, range_with_len}
use Rattle.std.proofs.lemmas.Bool.{ne_eqb, eq-eqb}
use Rattle.std.proofs.lemmas.Bool.Decides.{nat_tests}
use Rattle.std.proofs.lemmas.List.Quantifiers.{position-Some}
use Rattle.slot_types.specs.declared.plans.DiePlan.{DiePlan}
use Rattle.slot_types.specs.declared.acts.Act.TheVariants as does
use Rattle.slot_types.specs.declared.pages.Place.{Place}
use Rattle.slot_types.specs.Places.{place_of, owner_of, is_at}
use Rattle.flash_volume.specs.declared.collection.Collection.{Collection}
use Rattle.flash_volume.specs.declared.collection.Copied.{Copied}
use Rattle.flash_volume.specs.Acts.{HasDropped, IsUnplaced, IsFirstInBlock}
use Rattle.die_log.specs.Model.Log.{Log, Job}
use Rattle.die_log.specs.Model.Flash.{Cells, cells, valid_pages}
use Rattle.die_log.specs.Model.Answers.{is_block, is_placed_in, read_or_erase, collect_act, act_for, block_for}
use Rattle.die_log.specs.Invariants.SoundCells.{AreSoundCells}
use Rattle.slot_core.specs.Device.{page_in, page_held}
use Rattle.die_log.specs.Model.Start.{Start}

-- The pages that lie in a block, in order

-- the first that is found is the first of the list
first_found : (g : ℕ → Option ℕ) (a n k page : ℕ) → k < n → g (a + k) ≡ Some page → ((i : ℕ) → i < k → g (a + i) ≡ None) → (rest : List ℕ)
    × (filter_map g (range_with_len a n) ≡ page ∷ rest)
first_found g a zero k page lt at none = absurd (omega arith)
first_found g a (suc n) zero page lt at none = (
  filter_map g (range_with_len (a + 1) n),
  ap (λ (o : Option ℕ). cons_option o (filter_map g (range_with_len (a + 1) n)))
      (ap g (omega arith) ∙ at),
)
first_found g a (suc n) (suc k) page lt at none =
    let again = first_found g (a + 1) n k page (omega arith) (ap g (omega arith) ∙ at) (λ i below. ap g (omega arith)
    ∙ none (suc i) (omega arith)) in (
      again.0,
      ap (λ (o : Option ℕ). cons_option o (filter_map g (range_with_len (a + 1) n))) (ap g (omega arith) ∙ none 0 (omega arith))
          ∙ again.1,
    )

none_found : (g : ℕ → Option ℕ) (a n : ℕ) → ((i : ℕ) → g i ≡ None) → filter_map g (range_with_len a n) ≡ []
none_found g a zero none = refl
none_found g a (suc n) none = ap (λ (o : Option ℕ). cons_option o (filter_map g (range_with_len (a + 1) n))) (none a)
    ∙ none_found g (a + 1) n none

pub first_valid : (plan : DiePlan) (c : Cells) (b page : ℕ) (source : Place) → AreSoundCells plan c → IsFirstInBlock c.places b page source
    → (rest : List ℕ) × (valid_pages plan c b ≡ page ∷ rest)
first_valid plan c b page source sound first =
    first_found (λ cell. owner_of c.places (record { block = b; page = cell })) 0 plan.shape.pages source.page page
    (omega (arith, sound.placed page source first.lies, sound.within source.block))
    (at_place source.page ∙ (ap (λ (block : ℕ). owner_of c.places (record { block = block; page = source.page })) (sym first.here)
    ∙ first.owns))
    (λ i below. at_place i ∙ first.first i below)
  where
    at_place : (i : ℕ) → owner_of c.places (record { block = b; page = 0 + i }) ≡ owner_of c.places (record { block = b; page = i })
    at_place i = let same : 0 + i ≡ i = omega arith in ap (λ (p : ℕ). owner_of c.places (record { block = b; page = p })) same

block_says : (place : Place) (o : Option Place) → is_at place o ≡ true → (q : Place) × (o ≡ Some q) × (q.block ≡ place.block)
block_says place None is = absurd cc
block_says place (Some q) is = (q, refl, grind (arith, nat_tests))

nobody : (places : List (Option Place)) (b cell : ℕ) (o : Option ℕ) → IsUnplaced places b
    → owner_of places (record { block = b; page = cell }) ≡ o → o ≡ None
nobody places b cell None unplaced e = refl
nobody places b cell (Some page) unplaced e =
    let at = block_says (record { block = b; page = cell }) (place_of places page)
    (position-Some (is_at (record { block = b; page = cell })) places page None e).1 in
    absurd (unplaced page at.0 at.1 at.2)

pub none_valid : (plan : DiePlan) (c : Cells) (b : ℕ) → IsUnplaced c.places b → valid_pages plan c b ≡ []
none_valid plan c b unplaced =
    none_found (λ cell. owner_of c.places (record { block = b; page = cell })) 0 plan.shape.pages
    (λ cell. nobody c.places b cell (owner_of c.places (record { block = b; page = cell })) unplaced refl)

-- The buffer

-- what was dropped isn't placed in the block
pub dropped_is : (c : Cells) (run : Collection) → HasDropped c.places run → is_placed_in c run.victim (page_in run) ≡ false
dropped_is c run dropped = by_buffer run.buffer refl
  where
    by_place : (copied : Copied) → run.buffer ≡ Some copied → (o : Option Place) → place_of c.places copied.page ≡ o
        → is_block run.victim (option_map (λ place. place.block) o) ≡ false
    by_place copied holds None e = refl
    by_place copied holds (Some place) e = ne_eqb place.block run.victim (dropped copied place holds e)

    by_buffer : (o : Option Copied) → run.buffer ≡ o → is_placed_in c run.victim (option_map (λ copied. copied.page) o) ≡ false
    by_buffer None e = refl
    by_buffer (Some copied) e = by_place copied e (place_of c.places copied.page) refl

-- what still lies where it was read is placed in the block
pub held_is : (c : Cells) (run : Collection) (copied : Copied) → run.buffer ≡ Some copied → copied.source.block ≡ run.victim
    → place_of c.places copied.page ≡ Some copied.source
    → (page_in run ≡ Some copied.page) × (is_placed_in c run.victim (page_in run) ≡ true)
held_is c run copied holds here lies = (
  ap (option_map (λ (k : Copied). k.page)) holds,
  ap (λ (o : Option Copied). is_placed_in c run.victim (option_map (λ (k : Copied). k.page) o)) holds
      ∙ (ap (λ (o : Option Place). is_block run.victim (option_map (λ (place : Place). place.block) o)) lies
      ∙ eq-eqb copied.source.block run.victim here),
)

-- The act

-- of a collection that is the head
pub collect_is : (start : Start) (past : Log) (j : Job) (run : Collection) → j.collects ≡ true → block_for start past j ≡ Some run.victim
    → page_in run ≡ page_held past j.number
    → act_for start past j ≡ collect_act start.plan (cells start past) (page_in run) (Some run.victim)
collect_is start past j run collects victim holds =
    rw collects (ap (collect_act start.plan (cells start past) (page_held past j.number)) victim
    ∙ ap (λ (o : Option ℕ). collect_act start.plan (cells start past) o (Some run.victim)) (sym holds))

pub copies : (start : Start) (past : Log) (j : Job) (run : Collection) (copied : Copied) → j.collects ≡ true → block_for start past j
    ≡ Some run.victim → page_in run ≡ page_held past j.number
    → run.buffer ≡ Some copied → copied.source.block ≡ run.victim → place_of (cells start past).places copied.page ≡ Some copied.source
    → act_for start past j ≡ Some (does.CopyProgram copied.page)
copies start past j run copied collects victim holds buffer here lies =
    let held = held_is (cells start past) run copied buffer here lies in
    collect_is start past j run collects victim holds
    ∙ (ap (λ (b : Bool). cond b (Some (does.CopyProgram (unwrap_or (page_in run) 0)))
    (Some (read_or_erase run.victim (valid_pages start.plan (cells start past) run.victim)))) held.1
    ∙ ap (λ (o : Option ℕ). Some (does.CopyProgram (unwrap_or o 0))) held.0)

left : (start : Start) (past : Log) (j : Job) (run : Collection) (pages : List ℕ) → j.collects ≡ true → block_for start past j
    ≡ Some run.victim → page_in run ≡ page_held past j.number → HasDropped (cells start past).places run
    → valid_pages start.plan (cells start past) run.victim ≡ pages → act_for start past j ≡ Some (read_or_erase run.victim pages)
left start past j run pages collects victim holds dropped valid =
    collect_is start past j run collects victim holds
    ∙ (ap (λ (b : Bool). cond b (Some (does.CopyProgram (unwrap_or (page_in run) 0)))
    (Some (read_or_erase run.victim (valid_pages start.plan (cells start past) run.victim)))) (dropped_is (cells start past) run dropped)
    ∙ ap (λ (ps : List ℕ). Some (read_or_erase run.victim ps)) valid)

pub reads : (start : Start) (past : Log) (j : Job) (run : Collection) (page : ℕ) (source : Place) → AreSoundCells start.plan (cells start past)
    → j.collects ≡ true → block_for start past j ≡ Some run.victim → page_in run ≡ page_held past j.number
    → HasDropped (cells start past).places run → IsFirstInBlock (cells start past).places run.victim page source → act_for start past j
    ≡ Some (does.CopyRead page)
reads start past j run page source sound collects victim holds dropped first =
    let pages = first_valid start.plan (cells start past) run.victim page source sound first in
    left start past j run (page ∷ pages.0) collects victim holds dropped pages.1

pub erases : (start : Start) (past : Log) (j : Job) (run : Collection) → j.collects ≡ true → block_for start past j ≡ Some run.victim
    → page_in run ≡ page_held past j.number
    → HasDropped (cells start past).places run → IsUnplaced (cells start past).places run.victim → act_for start past j
    ≡ Some (does.Erase run.victim)
erases start past j run collects victim holds dropped unplaced = left start past j run [] collects victim holds dropped
    (none_valid start.plan (cells start past) run.victim unplaced)
