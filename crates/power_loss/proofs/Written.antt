-- Each label bears what was written on its page, however often it was copied since, and whatever was lost.
use Rattle.std.proofs.Common.{◌≡◌, ◌⊎◌, ℕ, ◌+◌, ◌<◌, ◌≤◌, List, [], ◌∷◌, length, Option, Some, None, refl, ap, sym, ◌∙◌}
use Rattle.std.proofs.Common.{subst, inl, inr, arith, get_or}
use Rattle.std.proofs.lemmas.Bool.{cases_eq, cases_lt}
use Rattle.std.proofs.lemmas.List.{get_or-set_same}
use Rattle.std.proofs.lemmas.Option.{none-some}
use Rattle.slot_types.specs.Places.{place_of}
use Rattle.slot_types.specs.declared.plans.DiePlan.{DiePlan}
use Rattle.slot_types.specs.declared.pages.PageData.{PageData}
use Rattle.slot_types.specs.declared.pages.Place.{Place}
use Rattle.slot_types.specs.declared.acts.Act.{Act}
use Rattle.slot_types.specs.declared.acts.Act.TheVariants as does
use Rattle.plan_rules.specs.Bound.{MeetsBound}
use Rattle.die_log.specs.Model.Log.{Log, Carried}
use Rattle.die_log.specs.Model.Flash.{Cells, cells, contents, contents_after, ran_by}
use Rattle.die_log.specs.Model.Start.{Start, blank_page}
use Rattle.die_log.specs.Model.Opening.{IsOpening}
use Rattle.die_log.specs.Model.Answers.{IsExact}
use Rattle.die_log.specs.Invariants.SoundCells.{IsClosed, IsUnplaced, AreSoundCells, HasFreePage}
use Rattle.die_log.proofs.Cells.Acts.{of_block}
use Rattle.die_log.proofs.Legal.Exact.{stands_well, has_pages}
use Rattle.die_log.proofs.Renewal.{contents_len}
use Rattle.power_loss.specs.Aside.{on_die, on_part, part_labels, die_labels}
use Rattle.power_loss.specs.Labels.{Label, Labels, Shown, labels_in, label_at, labels, labels_after, Programs}
use Rattle.power_loss.specs.Labels.{AreLabelled, HaveBytes, IsLabelled}
use Rattle.power_loss.specs.Losses.{WritesIn, WritesPage}
use Rattle.power_loss.specs.Mounted.{mounted_contents}
use Rattle.power_loss.specs.Recovery.{IsRecoverable, IsMountable, MayMount, AreMountActs, MaySeeAgain, MaySeeInErase}
use Rattle.power_loss.specs.Recovery.{MaySeeInActs, cells_of, labels_of}
use Rattle.power_loss.specs.Recovery.{remounted_cells, remounted_labels, IsSafe}
use Rattle.power_loss.specs.Seen.{MaySeeAfter, MaySeeDuring}
use Rattle.power_loss.proofs.Aside.Lists.{without_at, without_past, with_at, with_at_aside}
use Rattle.power_loss.proofs.Carrying.{IsSoundCarried, carried_sound}
use Rattle.power_loss.proofs.Exact.{stands_labelled}
use Rattle.power_loss.proofs.TwoMounts.{IsLess}
use Rattle.power_loss.proofs.MountActs.{all_go_on, mount_act}
use Rattle.power_loss.proofs.Programming.{IsLeft, act_left, bytes_of}
use Rattle.power_loss.proofs.Remounting.{erased_within, remounts}
use Rattle.power_loss.proofs.Steps.{cell, cleared_cases}

-- what counts as written on a page
abbrev pub Written : Type 1
Written = ℕ → PageData → Type 0

abbrev pub AreWritten : Written → Shown → Type 0
AreWritten W blocks = (place : Place) (x : Label) → label_at blocks place ≡ Some x → W x.page x.bytes

pub less_written : (W : Written) (seen later : Shown) → IsLess later seen → AreWritten W seen → AreWritten W later
less_written W seen later less h q x e = h q x (less q x e)

-- One act

written_as : (W : Written) (page other : ℕ) (bytes same : PageData) → page ≡ other → bytes ≡ same → W page bytes → W other same
written_as W page other bytes same p b h = subst (λ n. W n same) p (subst (W page) b h)

left_written : (W : Written) (plan : DiePlan) (n : ℕ) (act : Act) (c : Cells) (pages : List PageData) (l : Labels)
    → ((page : ℕ) → Programs act page → page < length pages)
    → ((page : ℕ) → act ≡ does.CopyProgram page → (q : Place) × (place_of c.places page ≡ Some q))
    → AreLabelled plan c l → HaveBytes c l.blocks pages → ((page : ℕ) (bytes : PageData) → act ≡ does.Write page bytes → W page bytes)
    → AreWritten W l.blocks → (x : Label) → IsLeft act l (contents_after (Some (n, act)) pages) x → W x.page x.bytes
left_written W plan n (does.Read page bytes) c pages l within copies h b writes k x new = absurd new.programs
left_written W plan n (does.Write page bytes) c pages l within copies h b writes k x new =
    let own : page ≡ x.page = new.programs in
    written_as W page x.page bytes x.bytes own
    (sym (get_or-set_same pages page bytes blank_page (within page refl))
    ∙ (ap (bytes_of (contents_after (Some (n, does.Write page bytes)) pages)) own ∙ sym new.bytes))
    (writes page bytes refl)
left_written W plan n (does.Trim page) c pages l within copies h b writes k x new = absurd new.programs
left_written W plan n (does.CopyRead page) c pages l within copies h b writes k x new = absurd new.programs
left_written W plan n (does.CopyProgram page) c pages l within copies h b writes k x new =
    let own : page ≡ x.page = new.programs in
    let q = copies page refl in
    let y = h.newest page q.0 q.1 in
    written_as W y.label.page x.page y.label.bytes x.bytes (y.own ∙ own)
    (b page q.0 y.label q.1 y.stands ∙ (ap (bytes_of pages) own ∙ sym new.bytes))
    (k q.0 y.label y.stands)
left_written W plan n (does.Erase block) c pages l within copies h b writes k x new = absurd new.programs

step_written : (W : Written) (plan : DiePlan) (n : ℕ) (act : Act) (c : Cells) (pages : List PageData) (l : Labels) → 0 < plan.shape.pages
    → AreSoundCells plan c → HasFreePage plan c act → ((page : ℕ) → Programs act page → page < length pages)
    → ((b : ℕ) → act ≡ does.Erase b → IsClosed plan c b × IsUnplaced c b)
    → ((page : ℕ) → act ≡ does.CopyProgram page → (q : Place) × (place_of c.places page ≡ Some q))
    → AreLabelled plan c l → HaveBytes c l.blocks pages → ((page : ℕ) (bytes : PageData) → act ≡ does.Write page bytes → W page bytes)
    → AreWritten W l.blocks → AreWritten W (labels_after plan c pages (Some (n, act)) l).blocks
step_written W plan n act c pages l more s room within ok copies h b writes k q x e =
    by_case (act_left plan n act c pages l more s room within ok h q x e)
  where
    by_case : (label_at l.blocks q ≡ Some x) ⊎ IsLeft act l (contents_after (Some (n, act)) pages) x → W x.page x.bytes
    by_case (inl old) = k q x old
    by_case (inr new) = left_written W plan n act c pages l within copies h b writes k x new

-- Logs

pub log_written : (W : Written) (start : Start) (first : Labels) → IsOpening start → IsLabelled start first → AreWritten W first.blocks
    → (log : Log) → IsExact start log → ((page : ℕ) (bytes : PageData) → WritesIn page bytes log → W page bytes)
    → AreWritten W (labels start first log).blocks
log_written W start first opens labelled k [] exact writes = k
log_written W start first opens labelled k (e ∷ past) exact writes =
    by_ran (ran_by e.reply) refl (carried_sound start opens e past exact)
    (log_written W start first opens labelled k past exact.0 (λ page bytes w. writes page bytes (inl w)))
  where
    by_ran : (ran : Carried) → ran_by e.reply ≡ ran → IsSoundCarried start past ran → AreWritten W (labels start first past).blocks
        → AreWritten W (labels_after start.plan (cells start past) (contents start past) ran (labels start first past)).blocks
    by_ran None is sound before = before
    by_ran (Some (n, act)) is sound before =
        let s = (stands_well start opens past exact.0).0.collects.sound in
        let t = stands_labelled start first opens labelled past exact.0 in
        step_written W start.plan n act (cells start past) (contents start past) (labels start first past) (has_pages start.plan opens.bound) s
        sound.room (λ page own. omega (arith, sound.within page own, s.places, contents_len start past, opens.pages)) sound.erases sound.copies
        t.labelled t.bytes
        (λ page bytes a. writes page bytes (inr (subst (WritesPage page bytes) (sym (is ∙ ap (λ (x : Act). Some (n, x)) a)) (refl, refl)))) before

-- Mounts

pub acts_written : (W : Written) (plan : DiePlan) (c : Cells) (pages : List PageData) (l : Labels) (from : ℕ → ℕ) → MeetsBound plan
    → IsRecoverable plan c pages l from → (acts : List Act) → AreMountActs plan c acts → AreWritten W l.blocks
    → AreWritten W (labels_of plan pages acts c l).blocks
acts_written W plan c pages l from bound h [] may k = k
acts_written W plan c pages l from bound h (act ∷ earlier) may k =
    let there = all_go_on plan c pages l from bound h earlier may.0 in
    let is = mount_act plan (cells_of plan earlier c) act may.1 in
    step_written W plan 0 act (cells_of plan earlier c) pages (labels_of plan pages earlier c l) (has_pages plan bound) there.sound is.room
    (λ page own. omega (arith, is.within page own, there.sound.places, there.contents)) is.erases
    (λ page a. copied page (subst (MayMount plan (cells_of plan earlier c)) a may.1))
    there.labelled there.bytes (λ page bytes a. absurd (subst (MayMount plan (cells_of plan earlier c)) a may.1))
    (acts_written W plan c pages l from bound h earlier may.0 k)
  where
    copied : (page : ℕ) → MayMount plan (cells_of plan earlier c) (does.CopyProgram page)
        → (q : Place) × (place_of (cells_of plan earlier c).places page ≡ Some q)
    copied page m = let q = of_block (cells_of plan earlier c) page m.1.0 m.1.1 in (q.0, q.1)

-- the labels that a mount leaves of those seen
pub left_written_on : (W : Written) (plan : DiePlan) (pages : List PageData) (from : ℕ → ℕ) (seen : Shown) → IsMountable plan pages from seen
    → (erased next : ℕ) → erased < length seen → AreWritten W seen → AreWritten W (remounted_labels erased seen next).blocks
left_written_on W plan pages from seen h erased next lt k q x e = k q x (cleared_cases seen erased lt q x e).1

-- what is seen during an act is what was there before it, or is there after it
during_less : (plan : DiePlan) (c : Cells) (pages : List PageData) (l : Labels) (act : Act) (seen : Shown) → MayMount plan c act
    → MaySeeDuring plan c pages l (Some (0, act)) seen → IsLess seen l.blocks ⊎ IsLess seen (labels_after plan c pages (Some (0, act)) l).blocks
during_less plan c pages l (does.Read page bytes) seen may w = absurd may
during_less plan c pages l (does.Write page bytes) seen may w = absurd may
during_less plan c pages l (does.Trim page) seen may w = absurd may
during_less plan c pages l (does.CopyRead page) seen may w = absurd may
during_less plan c pages l (does.CopyProgram page) seen may (inl w) = inl w.remains
during_less plan c pages l (does.CopyProgram page) seen may (inr w) = inr w.remains
during_less plan c pages l (does.Erase b) seen may w = inl w.remains

-- and so is what is seen after a mount that was cut
pub again_written : (W : Written) (plan : DiePlan) (pages : List PageData) (from : ℕ → ℕ) (before seen : Shown) → MeetsBound plan
    → IsMountable plan pages from before → MaySeeAgain plan from before seen → AreWritten W before → AreWritten W seen
again_written W plan pages from before seen bound h w k = by_sees w.sees
  where
    c : Cells
    c = remounted_cells plan from w.erased w.erases before

    l : Labels
    l = remounted_labels w.erased before w.next

    there : IsRecoverable plan c pages l from
    there = remounts plan pages from before h w.erased w.rule w.erases w.next w.above

    left : AreWritten W l.blocks
    left = left_written_on W plan pages from before h w.erased w.next (erased_within plan pages from before w.erased h w.rule) k

    in_acts : MaySeeInActs plan c pages l seen → AreWritten W seen
    in_acts v = by_act v.sees
      where
        before_it : AreWritten W (labels_of plan pages v.acts c l).blocks
        before_it = acts_written W plan c pages l from bound there v.acts v.may left

        by_less : (act : Act) → MayMount plan (cells_of plan v.acts c) act
            → IsLess seen (labels_of plan pages v.acts c l).blocks
            ⊎ IsLess seen (labels_after plan (cells_of plan v.acts c) pages (Some (0, act)) (labels_of plan pages v.acts c l)).blocks
            → AreWritten W seen
        by_less act may (inl less) = less_written W (labels_of plan pages v.acts c l).blocks seen less before_it
        by_less act may (inr less) =
            less_written W (labels_of plan pages (act ∷ v.acts) c l).blocks seen less
            (acts_written W plan c pages l from bound there (act ∷ v.acts) (v.may, may) left)

        by_act : MaySeeAfter (cells_of plan v.acts c) (labels_of plan pages v.acts c l) seen
            ⊎ ((act : Act) × MayMount plan (cells_of plan v.acts c) act × IsSafe plan c (act ∷ v.acts)
            × MaySeeDuring plan (cells_of plan v.acts c) pages (labels_of plan pages v.acts c l) (Some (0, act)) seen)
            → AreWritten W seen
        by_act (inl s) = less_written W (labels_of plan pages v.acts c l).blocks seen s.remains before_it
        by_act (inr s) =
            by_less s.0 s.1 (during_less plan (cells_of plan v.acts c) pages (labels_of plan pages v.acts c l) s.0 seen s.1 s.3)

    by_sees : MaySeeInErase w.erased before seen
        ⊎ MaySeeInActs plan (remounted_cells plan from w.erased w.erases before) (mounted_contents from plan.logical before)
        (remounted_labels w.erased before w.next) seen
        → AreWritten W seen
    by_sees (inl v) = less_written W before seen v.remains k
    by_sees (inr v) = in_acts (subst (λ (ps : List PageData). MaySeeInActs plan (remounted_cells plan from w.erased w.erases before) ps
        (remounted_labels w.erased before w.next) seen) h.found v)

-- Other numbers

abbrev row : ℕ → List (Option Label) → Option Label
row k xs = get_or xs k None

-- a label of the die is one of the part
die_stands : (last aside : ℕ) (l : Labels) → length l.blocks ≡ last + 1 → (q : Place) (x : Label) → label_at (die_labels last aside l).blocks q ≡ Some x
    → (r : Place) × (label_at l.blocks r ≡ Some x)
die_stands last aside l long q x e = by_case (cases_lt q.block last)
  where
    by_case : (q.block < last) ⊎ (last ≤ q.block) → (r : Place) × (label_at l.blocks r ≡ Some x)
    by_case (inl lt) = (cell (on_part last aside q.block) q.page, sym (ap (row q.page) (without_at last aside [] l.blocks q.block long lt)) ∙ e)
    by_case (inr past) = absurd (none-some x (sym (ap (row q.page) (without_past last aside [] l.blocks q.block long past)) ∙ e))

pub die_written : (W : Written) (last aside : ℕ) (l : Labels) → length l.blocks ≡ last + 1 → AreWritten W l.blocks
    → AreWritten W (die_labels last aside l).blocks
die_written W last aside l long k q x e = let r = die_stands last aside l long q x e in k r.0 x r.1

-- and one of the part is one of the die
pub part_stands : (aside : ℕ) (l : Labels) → aside ≤ length l.blocks → (q : Place) (x : Label) → label_at (part_labels aside l).blocks q ≡ Some x
    → (r : Place) × (label_at l.blocks r ≡ Some x)
part_stands aside l le q x e = by_case (cases_eq q.block aside)
  where
    by_case : (q.block ≡ aside) ⊎ (q.block ≡ aside → ⊥) → (r : Place) × (label_at l.blocks r ≡ Some x)
    by_case (inl is) =
        absurd (none-some x (sym (ap (row q.page) (ap (labels_in (part_labels aside l).blocks) is ∙ with_at_aside aside [] [] l.blocks le)) ∙ e))
    by_case (inr other) =
        (cell (on_die (length l.blocks) aside q.block) q.page, sym (ap (row q.page) (with_at aside [] l.blocks q.block other)) ∙ e)
