-- A page that is placed nowhere, and has a label yet, was trimmed.
use Rattle.std.proofs.Common.{◌≡◌, ◌≢◌, ◌⊎◌, ℕ, ◌<◌, [], ◌∷◌, length, Some, None, refl, ap, sym, ◌∙◌, inl, inr, arith}
use Rattle.std.specs.Prelude.{sum_by}
use Rattle.std.proofs.lemmas.Bool.{cases_eq}
use Rattle.std.proofs.lemmas.List.{get_or-set_same, get_or-set_other}
use Rattle.std.proofs.lemmas.Option.{none-some}
use Rattle.slot_types.specs.Places.{place_of}
use Rattle.slot_types.specs.declared.plans.DiePlan.{DiePlan}
use Rattle.slot_types.specs.declared.pages.Place.{Place}
use Rattle.slot_types.specs.declared.acts.Act.{Act}
use Rattle.slot_types.specs.declared.acts.Act.TheVariants as does
use Rattle.die_log.specs.Model.Log.{Log, Carried}
use Rattle.die_log.specs.Model.Flash.{Cells, cells, cells_after, cells_after_program, cells_after_program_in, contents}
use Rattle.die_log.specs.Model.Flash.{contents_after, free_in, ran_by}
use Rattle.die_log.specs.Model.Start.{Start}
use Rattle.die_log.specs.Model.Opening.{IsOpening}
use Rattle.die_log.specs.Model.Answers.{IsExact}
use Rattle.die_log.proofs.Cells.Steps.{opens}
use Rattle.die_log.proofs.Legal.Exact.{stands_well, has_pages}
use Rattle.die_log.proofs.Renewal.{contents_len}
use Rattle.power_loss.specs.Labels.{Label, Labels, label_at, labels, labels_after, IsLabelled}
use Rattle.power_loss.specs.Losses.{LeavesAlone, LeavesPage, LeavesTrimmed, TrimsPage}
use Rattle.power_loss.proofs.Carrying.{IsSoundAct, IsSoundCarried, carried_sound}
use Rattle.power_loss.proofs.Exact.{stands_labelled}
use Rattle.power_loss.proofs.Programming.{IsLeft, act_left}

-- where a program leaves a page placed nowhere, it is of another page, and left it there
program_unplaced : (plan : DiePlan) (p page : ℕ) (c : Cells) → 0 < sum_by (free_in plan) c.blocks → p < length c.places
    → place_of (cells_after_program plan p c).places page ≡ None → (p ≢ page) × (place_of c.places page ≡ None)
program_unplaced plan p page c room lt none =
    let o = opens plan c room in
    by_page o.0 (ap (λ b. place_of (cells_after_program_in p b c).places page) (sym o.1) ∙ none) (cases_eq page p)
  where
    by_page : (b : ℕ) → place_of (cells_after_program_in p (Some b) c).places page ≡ None → (page ≡ p) ⊎ (page ≡ p → ⊥)
        → (p ≢ page) × (place_of c.places page ≡ None)
    by_page b e (inl is) = absurd (none-some _ (sym e
        ∙ (ap (place_of (cells_after_program_in p (Some b) c).places) is ∙ get_or-set_same c.places p _ None lt)))
    by_page b e (inr other) = (λ same. other (sym same), sym (get_or-set_other c.places p page _ None other) ∙ e)

-- it was placed nowhere where the log began, and the label stood there
abbrev pub WasUnplaced : Start → Labels → ℕ → Label → Type 0
WasUnplaced start first page x = (place_of start.cells.places page ≡ None) × ((r : Place) × (label_at first.blocks r ≡ Some x))

-- the log trimmed the page last, or left it as it was
abbrev pub WasTrimmed : Start → Labels → Log → ℕ → Label → Type 0
WasTrimmed start first log page x = LeavesTrimmed page log ⊎ (LeavesAlone page log × WasUnplaced start first page x)

abbrev After : Start → Labels → Log → ℕ → Label → Carried → Type 0
After start first past page x ran =
    (TrimsPage page ran ⊎ (LeavesTrimmed page past × LeavesPage page ran))
    ⊎ ((LeavesAlone page past × LeavesPage page ran) × WasUnplaced start first page x)

longer : (start : Start) (first : Labels) (past : Log) (page : ℕ) (x : Label) (ran : Carried) → LeavesPage page ran → WasTrimmed start first past page x
    → After start first past page x ran
longer start first past page x ran leaves (inl t) = inl (inr (t, leaves))
longer start first past page x ran leaves (inr a) = inr ((a.0, leaves), a.1)

-- what is known before the act
abbrev Before : Start → Labels → Log → ℕ → Place → Label → Type 0
Before start first past page q x = place_of (cells start past).places page ≡ None → label_at (labels start first past).blocks q ≡ Some x
    → WasTrimmed start first past page x

by_act : (start : Start) (first : Labels) → IsOpening start → IsLabelled start first → (past : Log) → IsExact start past → (n : ℕ) (act : Act)
    → IsSoundAct start past act → (page : ℕ) (q : Place) (x : Label) → x.page ≡ page
    → place_of (cells_after start.plan (Some (n, act)) (cells start past)).places page ≡ None
    → (label_at (labels start first past).blocks q ≡ Some x) ⊎ IsLeft act (labels start first past) (contents_after (Some (n, act)) (contents start past)) x
    → Before start first past page q x → After start first past page x (Some (n, act))
by_act start first opens labelled past exact n (does.Read p bytes) k page q x own none (inl old) before =
    longer start first past page x (Some (n, does.Read p bytes)) tt (before none old)
by_act start first opens labelled past exact n (does.Read p bytes) k page q x own none (inr new) before = absurd new.programs
by_act start first opens labelled past exact n (does.Write p bytes) k page q x own none (inl old) before =
    let u = program_unplaced start.plan p page (cells start past) k.room (k.within p refl) none in
    longer start first past page x (Some (n, does.Write p bytes)) u.0 (before u.1 old)
by_act start first opens labelled past exact n (does.Write p bytes) k page q x own none (inr new) before =
    let u = program_unplaced start.plan p page (cells start past) k.room (k.within p refl) none in
    let is : p ≡ x.page = new.programs in
    absurd (u.0 (is ∙ own))
by_act start first opens labelled past exact n (does.Trim p) k page q x own none (inl old) before = by_page (cases_eq page p)
  where
    by_page : (page ≡ p) ⊎ (page ≡ p → ⊥) → After start first past page x (Some (n, does.Trim p))
    by_page (inl is) = inl (inl (sym is))
    by_page (inr other) =
        longer start first past page x (Some (n, does.Trim p)) (λ same. other (sym same))
        (before (sym (get_or-set_other (cells start past).places p page None None other) ∙ none) old)
by_act start first opens labelled past exact n (does.Trim p) k page q x own none (inr new) before = absurd new.programs
by_act start first opens labelled past exact n (does.CopyRead p) k page q x own none (inl old) before =
    longer start first past page x (Some (n, does.CopyRead p)) tt (before none old)
by_act start first opens labelled past exact n (does.CopyRead p) k page q x own none (inr new) before = absurd new.programs
by_act start first opens labelled past exact n (does.CopyProgram p) k page q x own none (inl old) before =
    let u = program_unplaced start.plan p page (cells start past) k.room (k.within p refl) none in
    longer start first past page x (Some (n, does.CopyProgram p)) tt (before u.1 old)
by_act start first opens labelled past exact n (does.CopyProgram p) k page q x own none (inr new) before =
    let u = program_unplaced start.plan p page (cells start past) k.room (k.within p refl) none in
    let is : p ≡ x.page = new.programs in
    absurd (u.0 (is ∙ own))
by_act start first opens labelled past exact n (does.Erase b) k page q x own none (inl old) before =
    longer start first past page x (Some (n, does.Erase b)) tt (before none old)
by_act start first opens labelled past exact n (does.Erase b) k page q x own none (inr new) before = absurd new.programs

pub was_trimmed : (start : Start) (first : Labels) → IsOpening start → IsLabelled start first → (log : Log) → IsExact start log → (page : ℕ) (q : Place)
    (x : Label) → x.page ≡ page → place_of (cells start log).places page ≡ None → label_at (labels start first log).blocks q ≡ Some x
    → WasTrimmed start first log page x
was_trimmed start first opens labelled [] exact page q x own none stands = inr (tt, (none, (q, stands)))
was_trimmed start first opens labelled (e ∷ past) exact page q x own none stands =
    by_ran (ran_by e.reply) (carried_sound start opens e past exact) none stands
    (was_trimmed start first opens labelled past exact.0 page q x own)
  where
    by_ran : (ran : Carried) → IsSoundCarried start past ran → place_of (cells_after start.plan ran (cells start past)).places page ≡ None
        → label_at (labels_after start.plan (cells start past) (contents start past) ran (labels start first past)).blocks q ≡ Some x
        → Before start first past page q x → After start first past page x ran
    by_ran None k none stands before = longer start first past page x None tt (before none stands)
    by_ran (Some (n, act)) k none stands before =
        let s = (stands_well start opens past exact.0).0.collects.sound in
        let t = stands_labelled start first opens labelled past exact.0 in
        by_act start first opens labelled past exact.0 n act k page q x own none
        (act_left start.plan n act (cells start past) (contents start past) (labels start first past) (has_pages start.plan opens.bound) s k.room
        (λ p is. omega (arith, k.within p is, s.places, contents_len start past, opens.pages)) k.erases t.labelled q x stands) before
