-- The acts of a mount keep a die recoverable, also where the power goes during one.
use Rattle.std.proofs.Common.{[], ◌∷◌, ◌≡◌, ◌⊎◌, ℕ, ◌<◌, List, length, Some, None, ap, sym, ◌∙◌, subst, inl, inr, arith}
use Rattle.std.proofs.Common.{get_or}
use Rattle.std.specs.Prelude.{sum_by}
use Rattle.std.proofs.lemmas.Bool.{cases_eq}
use Rattle.std.proofs.lemmas.List.{get_or-set_same, get_or-set_other}
use Rattle.std.proofs.lemmas.Option.{none-some, same_Some}
use Rattle.slot_types.specs.Places.{place_of}
use Rattle.slot_types.specs.declared.plans.DiePlan.{DiePlan}
use Rattle.slot_types.specs.declared.pages.PageData.{PageData}
use Rattle.slot_types.specs.declared.acts.Act.{Act}
use Rattle.slot_types.specs.declared.acts.Act.TheVariants as does
use Rattle.plan_rules.specs.Bound.{MeetsBound}
use Rattle.die_log.specs.Model.Flash.{Cells, free_in, cells_after_program_in, cells_after_program, cells_after}
use Rattle.die_log.specs.Model.Start.{blank_page}
use Rattle.die_log.specs.Invariants.SoundCells.{IsClosed, IsUnplaced, AreSoundCells, HasFreePage}
use Rattle.die_log.proofs.Cells.Steps.{opens, step_is, step_sound}
use Rattle.die_log.proofs.Cells.Valid.{unplaced_is}
use Rattle.die_log.proofs.Legal.Exact.{has_pages, has_slots}
use Rattle.power_loss.specs.Labels.{Labels, Shown, labels_after, Programs}
use Rattle.power_loss.specs.Laws.{Remounts, GoesOn, GoesOnDuring, ForAllMountable, ForAllRecoverable}
use Rattle.power_loss.specs.Recovery.{IsRecoverable, IsAbove, MayMount, cells_of, labels_of, AreMountActs}
use Rattle.power_loss.specs.Seen.{MaySeePlaced}
use Rattle.power_loss.proofs.Carrying.{placed_within}
use Rattle.power_loss.proofs.Counting.{after_below, step_counts}
use Rattle.power_loss.proofs.Having.{step_has}
use Rattle.power_loss.proofs.Remounting.{erased_within, free_remounted, remounts, remounted_idle}
use Rattle.power_loss.proofs.Seeing.{during_placed}
use Rattle.power_loss.proofs.Steps.{step_labelled}

-- what is known of an act of a mount
pub record IsMountAct (plan : DiePlan) (c : Cells) (act : Act) : Type 0 where
  pub room : HasFreePage plan c act
  pub within : (page : ℕ) → Programs act page → page < length c.places
  pub erases : (b : ℕ) → act ≡ does.Erase b → IsClosed plan c b × IsUnplaced c b

pub mount_act : (plan : DiePlan) (c : Cells) (act : Act) → MayMount plan c act → IsMountAct plan c act
mount_act plan c (does.Read page bytes) may = absurd may
mount_act plan c (does.Write page bytes) may = absurd may
mount_act plan c (does.Trim page) may = absurd may
mount_act plan c (does.CopyRead page) may = absurd may
mount_act plan c (does.CopyProgram page) may = record {
  room = may.0;
  within = λ p own. subst (λ (x : ℕ). x < length c.places) own (placed_within c page may.1.0 may.1.1);
  erases = λ b e. absurd cc;
}
mount_act plan c (does.Erase b) may = record {
  room = tt;
  within = λ p own. absurd own;
  erases = λ a e.
      let same : b ≡ a = cc in
      (subst (IsClosed plan c) same may.0, subst (IsUnplaced c) same (unplaced_is plan c b may.1));
}

pub after_sound : (plan : DiePlan) (c : Cells) (act : Act) → MeetsBound plan → AreSoundCells plan c → IsMountAct plan c act
    → AreSoundCells plan (cells_after plan (Some (0, act)) c)
after_sound plan c act bound s k =
    step_sound plan act c (cells_after plan (Some (0, act)) c) (has_slots plan bound) s k.erases
    (step_is plan 0 act c (has_pages plan bound) s k.room (λ b e. (k.erases b e).0))

-- a copy places no other page
copied_blank : (plan : DiePlan) (page : ℕ) (c : Cells) (pages : List PageData) → 0 < sum_by (free_in plan) c.blocks → page < length c.places
    → ((p : ℕ) → place_of c.places p ≡ None → get_or pages p blank_page ≡ blank_page)
    → (p : ℕ) → place_of (cells_after_program plan page c).places p ≡ None → get_or pages p blank_page ≡ blank_page
copied_blank plan page c pages room lt blank p none =
    let o = opens plan c room in
    by_block o.0 (ap (λ b. place_of (cells_after_program_in page b c).places p) (sym o.1) ∙ none)
  where
    by_block : (b : ℕ) → place_of (cells_after_program_in page (Some b) c).places p ≡ None → get_or pages p blank_page ≡ blank_page
    by_block b e = by_page (cases_eq p page)
      where
        by_page : (p ≡ page) ⊎ (p ≡ page → ⊥) → get_or pages p blank_page ≡ blank_page
        by_page (inl is) = absurd (none-some _ (sym e
            ∙ (ap (place_of (cells_after_program_in page (Some b) c).places) is ∙ get_or-set_same c.places page _ None lt)))
        by_page (inr other) = blank p (sym (get_or-set_other c.places page p _ None other) ∙ e)

-- copies, and erase slots, leave what a page holds and which labels count
goes_on : (plan : DiePlan) (c : Cells) (pages : List PageData) (l : Labels) (from : ℕ → ℕ) (act : Act) → MeetsBound plan → IsRecoverable plan c pages l from
    → MayMount plan c act → IsRecoverable plan (cells_after plan (Some (0, act)) c) pages (labels_after plan c pages (Some (0, act)) l) from
goes_on plan c pages l from (does.Read page bytes) bound h may = absurd may
goes_on plan c pages l from (does.Write page bytes) bound h may = absurd may
goes_on plan c pages l from (does.Trim page) bound h may = absurd may
goes_on plan c pages l from (does.CopyRead page) bound h may = absurd may
goes_on plan c pages l from (does.CopyProgram page) bound h may =
    let act : Act = does.CopyProgram page in
    let k = mount_act plan c act may in
    let lt = placed_within c page may.1.0 may.1.1 in
    let more = has_pages plan bound in record {
      sound = after_sound plan c act bound h.sound k;
      labelled = step_labelled plan 0 act c pages l more h.sound k.room k.within k.erases h.labelled;
      bytes = step_has plan 0 act c pages l more h.sound k.room (λ p own. omega (arith, k.within p own, h.sound.places, h.contents)) k.erases
          h.labelled h.bytes;
      counts = step_counts plan 0 act c pages l from more h.sound k.room k.within k.erases h.labelled h.below h.counts;
      below = λ p. after_below p plan c pages l (Some (0, act)) (from p) (h.below p);
      contents = h.contents;
      blank = copied_blank plan page c pages may.0 lt h.blank;
    }
goes_on plan c pages l from (does.Erase b) bound h may =
    let act : Act = does.Erase b in
    let k = mount_act plan c act may in
    let more = has_pages plan bound in record {
      sound = after_sound plan c act bound h.sound k;
      labelled = step_labelled plan 0 act c pages l more h.sound k.room k.within k.erases h.labelled;
      bytes = step_has plan 0 act c pages l more h.sound k.room (λ p own. absurd own) k.erases h.labelled h.bytes;
      counts = step_counts plan 0 act c pages l from more h.sound k.room k.within k.erases h.labelled h.below h.counts;
      below = λ p. after_below p plan c pages l (Some (0, act)) (from p) (h.below p);
      contents = h.contents;
      blank = h.blank;
    }

pub acts_go_on : ForAllRecoverable GoesOn
acts_go_on plan bound c pages l from h act may = goes_on plan c pages l from act bound h may

-- acts of a mount keep a die recoverable
pub all_go_on : (plan : DiePlan) (c : Cells) (pages : List PageData) (l : Labels) (from : ℕ → ℕ) → MeetsBound plan → IsRecoverable plan c pages l from
    → (acts : List Act) → AreMountActs plan c acts → IsRecoverable plan (cells_of plan acts c) pages (labels_of plan pages acts c l) from
all_go_on plan c pages l from bound h [] may = h
all_go_on plan c pages l from bound h (act ∷ earlier) may =
    acts_go_on plan bound (cells_of plan earlier c) pages (labels_of plan pages earlier c l) from
    (all_go_on plan c pages l from bound h earlier may.0) act may.1

pub acts_are_seen : ForAllRecoverable GoesOnDuring
acts_are_seen plan bound c pages l from h act may seen w =
    let k = mount_act plan c act may in
    during_placed plan c pages l (Some (0, act)) seen h.sound (after_sound plan c act bound h.sound k)
    (λ n b e. (k.erases b (ap (λ (p : ℕ × Act). p.1) (same_Some {A = ℕ × Act} (0, act) (n, does.Erase b) e))).1) w

-- there is a number that it may take as the next
pub has_above : ForAllRecoverable (λ plan c pages l from. (seen : Shown) → MaySeePlaced c l.blocks seen → IsAbove seen from l.next)
has_above plan bound c pages l from h seen w = record {
  labels = λ q x e. h.labelled.below q x (w.remains q x e);
  counts = h.below;
}

pub all_remount : ForAllMountable Remounts
all_remount plan bound pages from seen h erased may erases next above =
    let lt = erased_within plan pages from seen erased h may in (
      remounts plan pages from seen h erased may erases next above,
      remounted_idle plan from erased erases seen,
      free_remounted plan from erased erases seen (omega (arith, lt, h.blocks)),
    )
