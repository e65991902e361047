-- Where the power goes during a mount, the next one can go on from what it sees.
use Rattle.std.proofs.Common.{◌≡◌, ◌⊎◌, ℕ, ◌<◌, List, [], ◌∷◌, ◌++◌, length, Some, refl, ap, sym, ◌∙◌, subst, inl, inr}
use Rattle.std.proofs.Common.{arith}
use Rattle.std.proofs.lemmas.Bool.{cases_lt}
use Rattle.std.proofs.lemmas.List.{length-set}
use Rattle.slot_types.specs.declared.plans.DiePlan.{DiePlan}
use Rattle.slot_types.specs.declared.pages.PageData.{PageData}
use Rattle.slot_types.specs.declared.acts.Act.{Act}
use Rattle.slot_types.specs.declared.acts.Act.TheVariants as does
use Rattle.plan_rules.specs.Bound.{MeetsBound}
use Rattle.die_log.specs.Model.Flash.{Cells, block_at, block_after_erase_slot, cells_after}
use Rattle.die_log.proofs.Cells.Steps.{within_blocks}
use Rattle.die_log.proofs.Legal.Exact.{has_pages}
use Rattle.power_loss.specs.Labels.{Labels, Shown, labels_after}
use Rattle.power_loss.specs.Laws.{CutsInActs, ForAllMountable, ForAllRecoverable}
use Rattle.power_loss.specs.Mounted.{mounted_contents}
use Rattle.power_loss.specs.Recovery.{IsRecoverable, IsMountable, MayMount, cells_of, labels_of, AreMountActs}
use Rattle.power_loss.specs.Recovery.{HasUnplaced, CanGoBack, IsSafe, without_block}
use Rattle.power_loss.specs.Recovery.{remounted_cells, remounted_labels, MaySeeInErase, MaySeeInActs, MaySeeAgain}
use Rattle.power_loss.specs.Seen.{MaySeeAfter, MaySeeDuring, MaySeePlaced}
use Rattle.power_loss.proofs.TwoMounts.{less_fit}
use Rattle.power_loss.proofs.MountActs.{acts_are_seen, acts_go_on, all_go_on}
use Rattle.power_loss.proofs.Recovering.{mounts_it}
use Rattle.power_loss.proofs.Remounting.{cut_in_erase, remounts}
use Rattle.power_loss.proofs.Seeing.{after_placed}
use Rattle.power_loss.proofs.Undoing.{IsIntoOne, copies_into, sees_before, may_undo, finds_none, finds_places}

-- Acts in two parts

cells_parts : (plan : DiePlan) (c : Cells) (xs ys : List Act) → cells_of plan (xs ++ ys) c ≡ cells_of plan xs (cells_of plan ys c)
cells_parts plan c [] ys = refl
cells_parts plan c (x ∷ xs) ys = ap (cells_after plan (Some (0, x))) (cells_parts plan c xs ys)

labels_parts : (plan : DiePlan) (c : Cells) (pages : List PageData) (l : Labels) (xs ys : List Act)
    → labels_of plan pages (xs ++ ys) c l ≡ labels_of plan pages xs (cells_of plan ys c) (labels_of plan pages ys c l)
labels_parts plan c pages l [] ys = refl
labels_parts plan c pages l (x ∷ xs) ys =
    ap (λ (d : Cells). labels_after plan d pages (Some (0, x)) (labels_of plan pages (xs ++ ys) c l)) (cells_parts plan c xs ys)
    ∙ ap (labels_after plan (cells_of plan xs (cells_of plan ys c)) pages (Some (0, x))) (labels_parts plan c pages l xs ys)

may_parts : (plan : DiePlan) (c : Cells) (xs ys : List Act) → AreMountActs plan c (xs ++ ys)
    → AreMountActs plan c ys × AreMountActs plan (cells_of plan ys c) xs
may_parts plan c [] ys may = (may, tt)
may_parts plan c (x ∷ xs) ys may =
    let k = may_parts plan c xs ys may.0 in
    (k.0, (k.1, subst (λ (d : Cells). MayMount plan d x) (cells_parts plan c xs ys) may.1))

-- Moments

-- a mount goes by all that it sees, where in some block no page is placed
pub from_here : (plan : DiePlan) (c : Cells) (pages : List PageData) (l : Labels) (from : ℕ → ℕ) → MeetsBound plan → IsRecoverable plan c pages l from
    → HasUnplaced c → (seen : Shown) → MaySeePlaced c l.blocks seen → IsMountable plan pages from seen
from_here plan c pages l from bound h u seen w =
    let all = mounts_it plan bound c pages l from h seen w in record {
      blocks = w.long ∙ (h.labelled.blocks ∙ h.sound.blocks);
      fit = less_fit plan l.blocks seen w.remains h.labelled.fit;
      found = ap (λ n. mounted_contents from n seen) (sym h.contents) ∙ all.contents;
      room = inl (
        u.b,
        omega (arith, u.stands, h.sound.blocks),
        finds_none plan c from seen u.b (finds_places plan c pages from seen all h.sound.places) u.none,
      );
    }

-- else it undoes the block to which it copied last
pub from_back : (plan : DiePlan) (c : Cells) (pages : List PageData) (l : Labels) (from : ℕ → ℕ) → MeetsBound plan → IsRecoverable plan c pages l from
    → (acts : List Act) → AreMountActs plan c acts → CanGoBack plan c acts → (seen : Shown)
    → MaySeeAfter (cells_of plan acts c) (labels_of plan pages acts c l) seen → IsMountable plan pages from seen
from_back plan c pages l from bound h acts may back seen w =
    by_copies (copies_into plan d pages m from bound (all_go_on plan c pages l from bound h back.earlier parts.0) back.idle
    back.none_open back.copies parts.1 back.are)
  where
    e : Cells
    e = cells_of plan acts c

    le : Labels
    le = labels_of plan pages acts c l

    here : IsRecoverable plan e pages le from
    here = all_go_on plan c pages l from bound h acts may

    sees : MaySeePlaced e le.blocks seen
    sees = after_placed plan e le seen here.sound w

    d : Cells
    d = cells_of plan back.earlier c

    m : Labels
    m = labels_of plan pages back.earlier c l

    parts : AreMountActs plan c back.earlier × AreMountActs plan d back.copies
    parts = may_parts plan c back.copies back.earlier (subst (AreMountActs plan c) back.is may)

    as_parts : IsIntoOne plan pages from (cells_of plan back.copies d) (labels_of plan pages back.copies d m) → IsIntoOne plan pages from e le
    as_parts one = subst (λ (xs : List Act). IsIntoOne plan pages from (cells_of plan xs c) (labels_of plan pages xs c l)) (sym back.is)
        (subst (λ (x : Cells). IsIntoOne plan pages from x (labels_of plan pages (back.copies ++ back.earlier) c l)) (sym (cells_parts plan c back.copies back.earlier))
        (subst (λ (x : Labels). IsIntoOne plan pages from (cells_of plan back.copies d) x) (sym (labels_parts plan c pages l back.copies back.earlier)) one))

    undo : (one : IsIntoOne plan pages from e le) → IsMountable plan pages from seen
    undo one =
        let v = mounts_it plan bound one.d pages one.m from one.recoverable (without_block one.o seen) (sees_before plan pages from e le one seen w) in
        let all = mounts_it plan bound e pages le from here seen sees in
        record {
          blocks = w.long ∙ (here.labelled.blocks ∙ here.sound.blocks);
          fit = less_fit plan le.blocks seen w.remains here.labelled.fit;
          found = ap (λ n. mounted_contents from n seen) (sym here.contents) ∙ all.contents;
          room = inr (one.o, may_undo plan pages from e le one seen w (ap (λ n. mounted_contents from n (without_block one.o seen)) (sym h.contents) ∙ v.contents));
        }

    -- without a copy the block that had no page then has none now
    none_copied : back.copies ≡ [] → HasUnplaced e
    none_copied none = subst (λ (xs : List Act). HasUnplaced (cells_of plan xs c)) (sym (back.is ∙ ap (λ (xs : List Act). xs ++ back.earlier) none)) back.unplaced

    by_copies : (back.copies ≡ []) ⊎ IsIntoOne plan pages from (cells_of plan back.copies d) (labels_of plan pages back.copies d m) → IsMountable plan pages from seen
    by_copies (inl none) = from_here plan e pages le from bound here (none_copied none) seen sees
    by_copies (inr one) = undo (as_parts one)

after_acts : (plan : DiePlan) (c : Cells) (pages : List PageData) (l : Labels) (from : ℕ → ℕ) → MeetsBound plan → IsRecoverable plan c pages l from
    → (acts : List Act) → AreMountActs plan c acts → IsSafe plan c acts → (seen : Shown)
    → MaySeeAfter (cells_of plan acts c) (labels_of plan pages acts c l) seen → IsMountable plan pages from seen
after_acts plan c pages l from bound h acts may (inr back) seen w = from_back plan c pages l from bound h acts may back seen w
after_acts plan c pages l from bound h acts may (inl u) seen w =
    let there = all_go_on plan c pages l from bound h acts may in
    from_here plan (cells_of plan acts c) pages (labels_of plan pages acts c l) from bound there u seen
    (after_placed plan (cells_of plan acts c) (labels_of plan pages acts c l) seen there.sound w)

-- During an act

in_erase : (plan : DiePlan) (c : Cells) (pages : List PageData) (l : Labels) (from : ℕ → ℕ) (b : ℕ) → MeetsBound plan → IsRecoverable plan c pages l from
    → MayMount plan c (does.Erase b) → (seen : Shown) → MaySeeDuring plan c pages l (Some (0, does.Erase b)) seen
    → IsMountable plan pages from seen
in_erase plan c pages l from b bound h may seen w = by_case (acts_are_seen plan bound c pages l from h (does.Erase b) may seen w)
  where
    stands : b < length c.blocks
    stands = within_blocks plan c b (let closed : (block_at c b).filled ≡ plan.shape.pages = may.0 in omega (arith, has_pages plan bound))
        (cases_lt b (length c.blocks))

    by_case : MaySeePlaced c l.blocks seen
        ⊎ MaySeePlaced (cells_after plan (Some (0, does.Erase b)) c) (labels_after plan c pages (Some (0, does.Erase b)) l).blocks seen
        → IsMountable plan pages from seen
    by_case (inl v) = from_here plan c pages l from bound h (record { b = b; stands = stands; none = may.1 }) seen v
    by_case (inr v) =
        let d : Cells = cells_after plan (Some (0, does.Erase b)) c in
        from_here plan d pages (labels_after plan c pages (Some (0, does.Erase b)) l) from bound
        (acts_go_on plan bound c pages l from h (does.Erase b) may)
        (record { b = b; stands = omega (arith, stands, length-set c.blocks b (block_after_erase_slot plan (block_at c b))); none = may.1 }) seen v

during_acts : (plan : DiePlan) (c : Cells) (pages : List PageData) (l : Labels) (from : ℕ → ℕ) → MeetsBound plan → IsRecoverable plan c pages l from
    → (act : Act) (acts : List Act) → AreMountActs plan c acts → MayMount plan (cells_of plan acts c) act → IsSafe plan c acts → IsSafe plan c (act ∷ acts)
    → (seen : Shown) → MaySeeDuring plan (cells_of plan acts c) pages (labels_of plan pages acts c l) (Some (0, act)) seen → IsMountable plan pages from seen
during_acts plan c pages l from bound h (does.Read page bytes) acts earlier may safe then seen w = absurd may
during_acts plan c pages l from bound h (does.Write page bytes) acts earlier may safe then seen w = absurd may
during_acts plan c pages l from bound h (does.Trim page) acts earlier may safe then seen w = absurd may
during_acts plan c pages l from bound h (does.CopyRead page) acts earlier may safe then seen w = absurd may
during_acts plan c pages l from bound h (does.CopyProgram page) acts earlier may safe then seen (inl w) =
    after_acts plan c pages l from bound h acts earlier safe seen w
during_acts plan c pages l from bound h (does.CopyProgram page) acts earlier may safe then seen (inr w) =
    after_acts plan c pages l from bound h (does.CopyProgram page ∷ acts) (earlier, may) then seen w
during_acts plan c pages l from bound h (does.Erase b) acts earlier may safe then seen w =
    in_erase plan (cells_of plan acts c) pages (labels_of plan pages acts c l) from b bound (all_go_on plan c pages l from bound h acts earlier) may
    seen w

pub cut_in_acts : ForAllRecoverable CutsInActs
cut_in_acts plan bound c pages l from h seen w = by_sees w.sees
  where
    by_sees : MaySeeAfter (cells_of plan w.acts c) (labels_of plan pages w.acts c l) seen
        ⊎ ((act : Act) × MayMount plan (cells_of plan w.acts c) act × IsSafe plan c (act ∷ w.acts)
        × MaySeeDuring plan (cells_of plan w.acts c) pages (labels_of plan pages w.acts c l) (Some (0, act)) seen)
        → IsMountable plan pages from seen
    by_sees (inl v) = after_acts plan c pages l from bound h w.acts w.may w.safe seen v
    by_sees (inr v) = during_acts plan c pages l from bound h v.0 w.acts w.may v.1 w.safe v.2 seen v.3

-- Where a mount is cut, the next one may go on

pub in_first_erase : ForAllMountable (λ plan pages from seen erased. (later : Shown) → MaySeeInErase erased seen later → IsMountable plan pages from later)
in_first_erase plan bound pages from seen h erased may later w = cut_in_erase plan pages from seen h erased may later w

pub cut_again : (plan : DiePlan) → MeetsBound plan → (pages : List PageData) (from : ℕ → ℕ) (before seen : Shown) → IsMountable plan pages from before
    → MaySeeAgain plan from before seen → IsMountable plan pages from seen
cut_again plan bound pages from before seen h w = by_sees w.sees
  where
    there : IsRecoverable plan (remounted_cells plan from w.erased w.erases before) pages (remounted_labels w.erased before w.next) from
    there = remounts plan pages from before h w.erased w.rule w.erases w.next w.above

    by_sees : MaySeeInErase w.erased before seen
        ⊎ MaySeeInActs plan (remounted_cells plan from w.erased w.erases before) (mounted_contents from plan.logical before)
        (remounted_labels w.erased before w.next) seen
        → IsMountable plan pages from seen
    by_sees (inl v) = cut_in_erase plan pages from before h w.erased w.rule seen v
    by_sees (inr v) =
        cut_in_acts plan bound (remounted_cells plan from w.erased w.erases before) pages (remounted_labels w.erased before w.next) from there seen
        (subst (λ (ps : List PageData). MaySeeInActs plan (remounted_cells plan from w.erased w.erases before) ps (remounted_labels w.erased before w.next) seen)
        h.found v)
