-- How the pages placed in a collected block change, and what its collection's acts are.
use Rattle.std.proofs.Common.{◌≡◌, ℕ, ◌+◌, ◌<◌, ◌≤◌, ◌==◌, Bool, true, false, cond, List, [], ◌∷◌, length, set, count_by, get_or, Option}
use Rattle.std.proofs.Common.{Some, None, refl, ap, sym, ◌∙◌, inl, inr, arith, slice_get, unwrap_or, option_map}
use Rattle.std.proofs.lemmas.Bool.{true≢false, cases_lt, ne_eqb}
use Rattle.std.proofs.lemmas.Option.{same_Some, unwrap_or-slice_get, get_or_from_slice_get, slice_get_within}
use Rattle.std.proofs.lemmas.List.{set_past}
use Rattle.std.proofs.lemmas.List.Sums.{sum_by-set}
use Rattle.slot_types.specs.Places.{is_in}
use Rattle.slot_types.specs.declared.plans.DiePlan.{DiePlan}
use Rattle.slot_types.specs.declared.pages.Place.{Place}
use Rattle.slot_types.specs.declared.acts.Act.{Act}
use Rattle.slot_types.specs.declared.acts.Act.TheVariants as does
use Rattle.die_log.specs.Model.Flash.{Cells, block_at, block_of_page, valid, valid_pages, cells_after_program, cells_after_program_in, open_block}
use Rattle.die_log.specs.Model.Answers.{collect_act, read_or_erase, is_placed_in, is_block}
use Rattle.die_log.specs.Invariants.SoundCells.{AreSoundCells, TakesNext}
use Rattle.die_log.proofs.Tokens.Sums.{one_if, some_pass}
use Rattle.die_log.proofs.Cells.Steps.{open_is}

-- Places

pub set_fewer : (xs : List (Option Place)) (page b : ℕ) (new : Option Place) → is_in b new ≡ false → count_by (is_in b) (set xs page new)
    ≤ count_by (is_in b) xs
set_fewer xs page b new out = elim (cases_lt page (length xs)) [
  | inl h ↦ omega (arith, sum_by-set (λ x. one_if (is_in b x)) xs page new None h, ap one_if out)
  | inr past ↦ omega (arith, ap (λ (ys : List (Option Place)). count_by (is_in b) ys) (set_past xs page new past))
]

pub set_less : (xs : List (Option Place)) (page b : ℕ) (old new : Option Place) → slice_get xs page ≡ Some old → is_in b old ≡ true
    → is_in b new ≡ false → count_by (is_in b) (set xs page new) + 1 ≤ count_by (is_in b) xs
set_less xs page b old new e was out =
    let here : one_if (is_in b (get_or xs page None)) ≡ 1 = ap (λ x. one_if (is_in b x)) (get_or_from_slice_get xs page old None e)
    ∙ ap one_if was in
    omega (arith, sum_by-set (λ x. one_if (is_in b x)) xs page new None (slice_get_within xs page old e), ap one_if out, here)

pub other_block : (plan : DiePlan) (c : Cells) (o b : ℕ) → TakesNext plan c o → (block_at c b).filled ≡ plan.shape.pages → (o == b) ≡ false
other_block plan c o b at closed = ne_eqb o b (λ e. absurd (omega (arith, at.room, closed, ap (λ n. (block_at c n).filled) e)))

pub program_by : (plan : DiePlan) (c : Cells) (page b : ℕ) (o : Option ℕ) → 0 < plan.shape.pages → AreSoundCells plan c → (block_at c b).filled
    ≡ plan.shape.pages → open_block plan c ≡ o → valid (cells_after_program_in page o c) b ≤ valid c b
program_by plan c page b None some whole closed e = omega arith
program_by plan c page b (Some o) some whole closed e = set_fewer c.places page b
    (Some (record { block = o; page = (block_at c o).filled })) (other_block plan c o b (open_is plan c o some whole e) closed)

-- a program places no page in a closed block
pub program_elsewhere : (plan : DiePlan) (c : Cells) (page b : ℕ) → 0 < plan.shape.pages → AreSoundCells plan c → (block_at c b).filled
    ≡ plan.shape.pages → valid (cells_after_program plan page c) b ≤ valid c b
program_elsewhere plan c page b some whole closed = program_by plan c page b (open_block plan c) some whole closed refl

-- and takes its page out of it
pub program_away : (plan : DiePlan) (c : Cells) (page b o : ℕ) (old : Option Place) → 0 < plan.shape.pages → AreSoundCells plan c
    → (block_at c b).filled ≡ plan.shape.pages → open_block plan c ≡ Some o
    → slice_get c.places page ≡ Some old → is_in b old ≡ true → valid (cells_after_program plan page c) b + 1 ≤ valid c b
program_away plan c page b o old some whole closed e stands was =
    rw e (set_less c.places page b old (Some (record { block = o; page = (block_at c o).filled })) stands was
    (other_block plan c o b (open_is plan c o some whole e) closed))

-- Acts of a collection

abbrev copied_page : Act → ℕ
copied_page (does.CopyProgram page) = page
copied_page _ = 0

abbrev is_copy : Act → Bool
is_copy (does.CopyProgram page) = true
is_copy _ = false

not_copied : (b : ℕ) (pages : List ℕ) → is_copy (read_or_erase b pages) ≡ false
not_copied b [] = refl
not_copied b (page ∷ pages) = refl

copy_by : (plan : DiePlan) (c : Cells) (b page : ℕ) (buffer : Option ℕ) (t : Bool) → is_placed_in c b buffer ≡ t
    → cond t (Some (does.CopyProgram (unwrap_or buffer 0))) (Some (read_or_erase b (valid_pages plan c b))) ≡ Some (does.CopyProgram page)
    → buffer ≡ Some page
copy_by plan c b page None true is e = absurd cc
copy_by plan c b page (Some p) true is e = ap (λ (a : Act). Some (copied_page a)) (same_Some (does.CopyProgram p) (does.CopyProgram page) e)
copy_by plan c b page buffer false is e =
    absurd (true≢false (sym (ap is_copy (same_Some (read_or_erase b (valid_pages plan c b)) (does.CopyProgram page) e))
    ∙ not_copied b (valid_pages plan c b)))

copy_placed : (plan : DiePlan) (c : Cells) (b page : ℕ) (buffer : Option ℕ) (t : Bool) → is_placed_in c b buffer ≡ t
    → cond t (Some (does.CopyProgram (unwrap_or buffer 0))) (Some (read_or_erase b (valid_pages plan c b))) ≡ Some (does.CopyProgram page)
    → t ≡ true
copy_placed plan c b page buffer true is e = refl
copy_placed plan c b page buffer false is e =
    absurd (true≢false (sym (ap is_copy (same_Some (read_or_erase b (valid_pages plan c b)) (does.CopyProgram page) e))
    ∙ not_copied b (valid_pages plan c b)))

-- a copy programs the page in the buffer, which is placed in the block
pub copy_is : (plan : DiePlan) (c : Cells) (b page : ℕ) (buffer : Option ℕ) → collect_act plan c buffer (Some b)
    ≡ Some (does.CopyProgram page) → (buffer ≡ Some page) × (is_block b (block_of_page c page) ≡ true)
copy_is plan c b page buffer e =
    let is = copy_by plan c b page buffer (is_placed_in c b buffer) refl e in
    (is, sym (ap (is_placed_in c b) is) ∙ copy_placed plan c b page buffer (is_placed_in c b buffer) refl e)

-- a page of a block stands in the list of places
pub record IsPlacedAt (c : Cells) (page b : ℕ) : Type 0 where
  pub place : Option Place
  pub stands : slice_get c.places page ≡ Some place
  pub inside : is_in b place ≡ true

placed_by : (c : Cells) (page b : ℕ) (o : Option (Option Place)) → slice_get c.places page ≡ o
    → is_block b (option_map (λ q. q.block) (unwrap_or o None)) ≡ true → IsPlacedAt c page b
placed_by c page b None e h = absurd cc
placed_by c page b (Some None) e h = absurd cc
placed_by c page b (Some (Some q)) e h = record { place = Some q; stands = e; inside = h }

pub placed_at : (c : Cells) (page b : ℕ) → is_block b (block_of_page c page) ≡ true → IsPlacedAt c page b
placed_at c page b h = placed_by c page b (slice_get c.places page) refl
    (ap (λ (o : Option Place). is_block b (option_map (λ (q : Place). q.block) o)) (unwrap_or-slice_get c.places page None) ∙ h)

pub some_valid : (c : Cells) (page b : ℕ) → IsPlacedAt c page b → 1 ≤ valid c b
some_valid c page b p = some_pass (is_in b) c.places page p.place p.stands p.inside
