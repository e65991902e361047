-- After a loss of power another log may start, beside another block.
use Rattle.std.proofs.Common.{◌≡◌, ◌⊎◌, ℕ, ◌+◌, ◌-◌, ◌*◌, ◌/◌, ◌<◌, ◌≤◌, List, [], ◌∷◌, length, Some, None, refl, ap}
use Rattle.std.proofs.Common.{sym, ◌∙◌, subst, inl, inr, arith, sum, All}
use Rattle.std.specs.Prelude.{sum_by, count_by}
use Rattle.std.proofs.Math.Nat.{add-div_right}
use Rattle.std.proofs.lemmas.List.Elements.{All-head, All-tail, All-cons}
use Rattle.std.proofs.lemmas.List.Sums.{sum_by-cons}
use Rattle.std.proofs.lemmas.Option.{none-some}
use Rattle.slot_types.specs.Places.{place_of}
use Rattle.slot_types.specs.declared.plans.DiePlan.{DiePlan}
use Rattle.slot_types.specs.declared.pages.PageData.{PageData}
use Rattle.slot_types.specs.declared.pages.Place.{Place}
use Rattle.slot_types.specs.declared.acts.Act.{Act}
use Rattle.slot_types.specs.declared.replies.Entry.{Entry}
use Rattle.plan_rules.specs.Bound.{MeetsBound, fmax_of, closed_of}
use Rattle.die_log.specs.Model.Log.{Log}
use Rattle.die_log.specs.Model.Flash.{Cells, cells, contents, free_in, ran_by}
use Rattle.die_log.specs.Model.Start.{Start}
use Rattle.die_log.specs.Model.Opening.{IsOpening}
use Rattle.die_log.specs.Model.Answers.{IsExact}
use Rattle.die_log.specs.Model.Work.{is_copy_program, is_erase}
use Rattle.die_log.proofs.Legal.Exact.{has_pages}
use Rattle.power_loss.specs.Aside.{raised, part_of, part_cells, part_labels, die_cells, die_labels, without_aside}
use Rattle.power_loss.specs.Aside.{MaySeeOnPart, MaySeeAgainOnPart}
use Rattle.power_loss.specs.Aside.{StandsOnPart, StartsBeside, CanStartBeside, EndsBeside, ForEveryLogOnPart}
use Rattle.power_loss.specs.Labels.{IsLabelled, Label, Labels, MayCountFrom, Shown, counts_from, label_at, labels}
use Rattle.power_loss.specs.Laws.{ForEveryLabelledLog, ShowsOnPart}
use Rattle.power_loss.specs.Mounted.{all_count, mounted_contents}
use Rattle.power_loss.specs.Recovery.{IsRecoverable, IsFreeBlock, AreIdle, CanEnd, enough_of, AreMountActs, cells_of}
use Rattle.power_loss.specs.Recovery.{labels_of, remounted_cells}
use Rattle.power_loss.specs.Recovery.{remounted_labels, IsAbove, MayErase, FindsNoneIn, mounted_start, full_accounts}
use Rattle.power_loss.specs.Seen.{MaySeeAfter, MaySeeDuring, MaySeePlaced}
use Rattle.power_loss.proofs.Aside.Parts.{part_counts, part_recoverable, part_sees, die_recoverable, die_idle, die_free}
use Rattle.power_loss.proofs.Again.{cut_again}
use Rattle.power_loss.proofs.Compacting.{can_end}
use Rattle.power_loss.proofs.TwoMounts.{less_fit}
use Rattle.power_loss.proofs.FreeBlocks.{has_free_block}
use Rattle.power_loss.proofs.MountActs.{all_go_on}
use Rattle.power_loss.proofs.MountedStarts.{all_open, full_agree}
use Rattle.power_loss.proofs.Mounting.{mounted_stands, mounts_all, mounts_placed}
use Rattle.power_loss.proofs.Recovering.{log_recoverable, log_seen}
use Rattle.power_loss.proofs.Remounting.{remounts, remounted_idle, free_remounted, erased_within}
use Rattle.power_loss.proofs.Seeing.{placed_during, shows}

-- The part as a plan

pub raised_length : (pages : ℕ) (caps : List ℕ) → length (raised pages caps) ≡ length caps
raised_length pages [] = refl
raised_length pages (own ∷ caps) = refl

pub raised_sum : (pages : ℕ) (caps : List ℕ) → 1 ≤ length caps → sum (raised pages caps) ≡ sum caps + pages
raised_sum pages [] some = absurd (omega (arith, some))
raised_sum pages (own ∷ caps) some =
    omega (arith, sum_by-cons (λ (n : ℕ). n) (own + pages) caps, sum_by-cons (λ (n : ℕ). n) own caps)

raised_some : (pages : ℕ) (caps : List ℕ) → All (λ cap. 1 ≤ cap) caps → All (λ cap. 1 ≤ cap) (raised pages caps)
raised_some pages [] h = h
raised_some pages (own ∷ caps) h =
    let first : 1 ≤ own = All-head (λ cap. 1 ≤ cap) own caps h in
    All-cons (λ cap. 1 ≤ cap) (own + pages) caps (omega (arith, first)) (All-tail (λ cap. 1 ≤ cap) own caps h)

pub part_bound : (plan : DiePlan) → MeetsBound plan → plan.shape.blocks < 1024 → MeetsBound (part_of plan)
part_bound plan bound less =
    let pages = plan.shape.pages in
    let lim = bound.limits in
    let long = raised_length pages plan.caps in
    let more : fmax_of (part_of plan) ≡ fmax_of plan + pages = omega (arith, ap (λ n. n * (pages - plan.alpha)) long, raised_sum pages plan.caps lim.some_tasks) in
    let div : fmax_of (part_of plan) / pages ≡ fmax_of plan / pages + 1 = ap (λ n. n / pages) more ∙ add-div_right (fmax_of plan) (has_pages plan bound) in
    let closed : closed_of (part_of plan) ≡ closed_of plan = omega (arith, div, long) in
    record {
      shape = record {
        some_blocks = omega (arith, bound.shape.some_blocks);
        few_blocks = omega (arith, less);
        some_pages = bound.shape.some_pages;
        few_pages = bound.shape.few_pages;
        some_slots = bound.shape.some_slots;
        few_slots = bound.shape.few_slots;
      };
      limits = record {
        some_tasks = omega (arith, long, lim.some_tasks);
        few_tasks = omega (arith, long, lim.few_tasks);
        some_logical = lim.some_logical;
        some_alpha = lim.some_alpha;
        alpha_fits = lim.alpha_fits;
        some_cap = raised_some pages plan.caps lim.some_cap;
      };
      closed = omega (arith, div, long, bound.closed);
      live = subst (λ n. plan.logical < n * (pages - plan.alpha + 1)) (sym closed) bound.live;
    }

-- What is seen of the part

-- no page is found in the block aside
none_aside : (plan : DiePlan) (aside : ℕ) (from : ℕ → ℕ) (seen : Shown) → ((place : Place) → place.block ≡ aside → label_at seen place ≡ None)
    → FindsNoneIn (part_of plan) from seen aside
none_aside plan aside from seen none page lt q e is =
    let s = mounted_stands (from page) page seen q e in none-some s.0 (sym (none q is) ∙ s.1)

pub shows_on_part : (plan : DiePlan) (c : Cells) (pages : List PageData) (l : Labels) (known from : ℕ → ℕ) → IsRecoverable plan c pages l from
    → MayCountFrom c l known → (aside : ℕ) → aside ≤ plan.shape.blocks → (seen : Shown)
    → MaySeeOnPart plan.shape.blocks aside (MaySeePlaced c l.blocks) seen → ShowsOnPart plan aside c pages l known from seen
shows_on_part plan c pages l known from h k aside le seen w = record {
  stands = record {
    blocks = w.blocks;
    fit = less_fit part m.blocks seen v.remains p.labelled.fit;
    found = refl;
    room = inl (aside, omega (arith, le), none_aside plan aside known seen w.none);
  };
  finds = mounts_placed d pages known from seen counts (shows part d pages m from seen v p.labelled p.bytes p.counts);
  had = v.remains;
  all = λ counted.
      let t = part_recoverable plan aside c pages l known le (record {
        sound = h.sound;
        labelled = h.labelled;
        bytes = h.bytes;
        counts = counted;
        below = k.below;
        contents = h.contents;
        blank = h.blank;
      }) in
      ap (λ n. mounted_contents known n seen) (sym h.contents)
      ∙ (mounts_all d pages known seen (shows part d pages m known seen v t.labelled t.bytes t.counts) t.blank).contents;
}
  where
    part : DiePlan
    part = part_of plan

    d : Cells
    d = part_cells plan.shape.blocks aside c

    m : Labels
    m = part_labels aside l

    p : IsRecoverable (part_of plan) (part_cells plan.shape.blocks aside c) pages (part_labels aside l) from
    p = part_recoverable plan aside c pages l from le h

    v : MaySeePlaced (part_cells plan.shape.blocks aside c) (part_labels aside l).blocks seen
    v = part_sees plan aside c l seen le h.sound (h.labelled.blocks ∙ h.sound.blocks) w

    counts : (page : ℕ) (q : Place) (x : Label) → place_of (part_cells plan.shape.blocks aside c).places page ≡ Some q → label_at seen q ≡ Some x
        → known page ≤ x.serial
    counts page q x e f = part_counts plan aside c pages l known le h k.placed page q x e (v.remains q x f)

-- of the die's blocks what a mount rests on
rests_on : {On Than : Shown → Type 0} (last aside : ℕ) (seen : Shown) → (On (without_aside last aside [] seen) → Than (without_aside last aside [] seen))
    → MaySeeOnPart last aside On seen → MaySeeOnPart last aside Than seen
rests_on last aside seen less w = record { blocks = w.blocks; die = less w.die; none = w.none }

pub at_end : (start : Start) (first : Labels) → IsOpening start → IsLabelled start first → (log : Log) → IsExact start log
    → (aside : ℕ) (seen : Shown) → MaySeeOnPart start.plan.shape.blocks aside (MaySeeAfter (cells start log) (labels start first log)) seen
    → MaySeeOnPart start.plan.shape.blocks aside (MaySeePlaced (cells start log) (labels start first log).blocks) seen
at_end start first opens labelled log exact aside seen w =
    rests_on {On = MaySeeAfter (cells start log) (labels start first log)} {Than = MaySeePlaced (cells start log) (labels start first log).blocks}
    start.plan.shape.blocks aside seen
    (log_seen start first opens labelled log exact (without_aside start.plan.shape.blocks aside [] seen)) w

pub in_call : (start : Start) (first : Labels) → IsOpening start → IsLabelled start first → (e : Entry) (past : Log) → IsExact start (e ∷ past)
    → (aside : ℕ) (seen : Shown) → MaySeeOnPart start.plan.shape.blocks aside
    (MaySeeDuring start.plan (cells start past) (contents start past) (labels start first past) (ran_by e.reply)) seen
    → MaySeeOnPart start.plan.shape.blocks aside (MaySeePlaced (cells start past) (labels start first past).blocks) seen
    ⊎ MaySeeOnPart start.plan.shape.blocks aside (MaySeePlaced (cells start (e ∷ past)) (labels start first (e ∷ past)).blocks) seen
in_call start first opens labelled e past exact aside seen w =
    by_case (placed_during start opens first e past exact (without_aside start.plan.shape.blocks aside [] seen) w.die)
  where
    On : Log → Shown → Type 0
    On log = MaySeePlaced (cells start log) (labels start first log).blocks

    by_case : On past (without_aside start.plan.shape.blocks aside [] seen) ⊎ On (e ∷ past) (without_aside start.plan.shape.blocks aside [] seen)
        → MaySeeOnPart start.plan.shape.blocks aside (On past) seen ⊎ MaySeeOnPart start.plan.shape.blocks aside (On (e ∷ past)) seen
    by_case (inl v) = inl (record { blocks = w.blocks; die = v; none = w.none })
    by_case (inr v) = inr (record { blocks = w.blocks; die = v; none = w.none })

abbrev ShowsLog : ℕ → Start → Labels → Log → (ℕ → ℕ) → Shown → Type 0
ShowsLog aside start first log known seen =
    ShowsOnPart start.plan aside (cells start log) (contents start log) (labels start first log) known (counts_from start first log) seen

pub shows_log : (start : Start) (first : Labels) → IsOpening start → IsLabelled start first → (log : Log) → IsExact start log
    → (known : ℕ → ℕ) → MayCountFrom (cells start log) (labels start first log) known → (aside : ℕ) → aside ≤ start.plan.shape.blocks → (seen : Shown)
    → MaySeeOnPart start.plan.shape.blocks aside (MaySeePlaced (cells start log) (labels start first log).blocks) seen
    → ShowsOnPart start.plan aside (cells start log) (contents start log) (labels start first log) known (counts_from start first log) seen
shows_log start first opens labelled log exact known k aside le seen w =
    shows_on_part start.plan (cells start log) (contents start log) (labels start first log) known (counts_from start first log)
    (log_recoverable start first opens labelled log exact) k aside le seen w

-- of no trim, or of all
pub none_known : (c : Cells) (l : Labels) → MayCountFrom c l all_count
none_known c l = record { placed = λ page q x e f. omega arith; below = λ page. omega arith }

pub all_known : ForEveryLabelledLog (λ start first log. MayCountFrom (cells start log) (labels start first log) (counts_from start first log))
all_known start first opens labelled log exact =
    let r = log_recoverable start first opens labelled log exact in
    record { placed = r.counts.placed; below = r.below }

pub all_shown_after : ForEveryLogOnPart (λ start first log aside. (known : ℕ → ℕ) → MayCountFrom (cells start log) (labels start first log) known
    → (seen : Shown) → MaySeeOnPart start.plan.shape.blocks aside (MaySeeAfter (cells start log) (labels start first log)) seen
    → ShowsOnPart start.plan aside (cells start log) (contents start log) (labels start first log) known (counts_from start first log) seen)
all_shown_after start first opens labelled log exact aside le less known k seen w =
    shows_log start first opens labelled log exact known k aside le seen (at_end start first opens labelled log exact aside seen w)

pub all_shown_during : ForEveryLogOnPart (λ start first log aside. (e : Entry) (past : Log) → log ≡ e ∷ past → (known : ℕ → ℕ)
    → MayCountFrom (cells start past) (labels start first past) known → MayCountFrom (cells start log) (labels start first log) known
    → (seen : Shown) → MaySeeOnPart start.plan.shape.blocks aside
    (MaySeeDuring start.plan (cells start past) (contents start past) (labels start first past) (ran_by e.reply)) seen
    → ShowsOnPart start.plan aside (cells start past) (contents start past) (labels start first past) known (counts_from start first past) seen
    ⊎ ShowsOnPart start.plan aside (cells start log) (contents start log) (labels start first log) known (counts_from start first log) seen)
all_shown_during start first opens labelled log exact aside le less e past is known k then seen w =
    subst (λ (x : Log). ShowsLog aside start first past known seen ⊎ ShowsLog aside start first x known seen) (sym is)
    (by_case (in_call start first opens labelled e past whole aside seen w))
  where
    whole : IsExact start (e ∷ past)
    whole = subst (IsExact start) is exact

    after : MayCountFrom (cells start (e ∷ past)) (labels start first (e ∷ past)) known
    after = subst (λ (x : Log). MayCountFrom (cells start x) (labels start first x) known) is then

    by_case : MaySeeOnPart start.plan.shape.blocks aside (MaySeePlaced (cells start past) (labels start first past).blocks) seen
        ⊎ MaySeeOnPart start.plan.shape.blocks aside (MaySeePlaced (cells start (e ∷ past)) (labels start first (e ∷ past)).blocks) seen
        → ShowsLog aside start first past known seen ⊎ ShowsLog aside start first (e ∷ past) known seen
    by_case (inl v) = inl (shows_log start first opens labelled past whole.0 known k aside le seen v)
    by_case (inr v) = inr (shows_log start first opens labelled (e ∷ past) whole known after aside le seen v)

-- A log starts

-- beside a free block, where as many pages are free as all caps, all reserves and that block come to
pub starts_at : (plan : DiePlan) (from : ℕ → ℕ) (c : Cells) (pages : List PageData) (l : Labels) → MeetsBound plan → plan.shape.blocks < 1024
    → IsRecoverable (part_of plan) c pages l from → (acts : List Act) → AreMountActs (part_of plan) c acts
    → AreIdle (cells_of (part_of plan) acts c) → (aside : ℕ) → IsFreeBlock (cells_of (part_of plan) acts c) aside
    → enough_of plan + plan.shape.pages ≤ sum_by (free_in plan) (cells_of (part_of plan) acts c).blocks
    → (start : Start) × (first : Labels) × StartsBeside plan from c pages l acts aside start first
starts_at plan from c pages l bound less h acts may idle aside free all =
    let part = part_of plan in
    let p : Cells = cells_of part acts c in
    let m : Labels = labels_of part pages acts c l in
    let last = plan.shape.blocks in
    let there : IsRecoverable part p pages m from = all_go_on part c pages l from (part_bound plan bound less) h acts may in
    let d : Cells = die_cells last aside p in
    let k : Labels = die_labels last aside m in
    let own : IsRecoverable plan d pages k from = die_recoverable plan aside p pages m from (has_pages plan bound) free there in
    let rest = die_free plan aside p there.sound.blocks free in
    let s = all_open plan bound d pages k from own (die_idle plan aside p there.sound.blocks idle) _
    (full_agree plan (sum_by (free_in plan) d.blocks) (omega (arith, all, rest))) in (
      mounted_start plan d pages (full_accounts plan (sum_by (free_in plan) d.blocks)),
      k,
      record { free = free; cells = refl; labels = refl; is = refl; opens = s.0; labelled = s.1; counts = own.counts },
    )

-- a mount can get there
starts : (plan : DiePlan) (from : ℕ → ℕ) (c : Cells) (pages : List PageData) (l : Labels) → MeetsBound plan → plan.shape.blocks < 1024
    → IsRecoverable (part_of plan) c pages l from → AreIdle c → (b : ℕ) → IsFreeBlock c b → CanStartBeside plan from c pages l
starts plan from c pages l bound less h idle b free =
    let part = part_of plan in
    let wide = part_bound plan bound less in
    let e : CanEnd part c = can_end part c b wide h.sound idle free in
    let p : Cells = cells_of part e.acts c in
    let there : IsRecoverable part p pages (labels_of part pages e.acts c l) from = all_go_on part c pages l from wide h e.acts e.may in
    let sums = raised_sum plan.shape.pages plan.caps bound.limits.some_tasks in
    let long = raised_length plan.shape.pages plan.caps in
    let all : enough_of plan + plan.shape.pages ≤ sum_by (free_in plan) p.blocks =
    omega (arith, e.enough, sums, ap (λ n. n * (plan.shape.pages - plan.alpha)) long) in
    let same : enough_of part - plan.shape.pages ≡ enough_of plan = omega (arith, sums, ap (λ n. n * (plan.shape.pages - plan.alpha)) long) in
    let f = has_free_block part p (has_pages plan bound) there.sound (omega (arith, all)) in
    let s = starts_at plan from c pages l bound less h e.acts e.may e.idle f.0 f.1 all in
    record {
      acts = e.acts;
      few = subst (λ n. length e.acts ≤ (n + plan.alpha - 1) / plan.alpha * (plan.shape.pages - plan.alpha + plan.shape.erase_slots)) same e.few;
      rounds = record {
        copies = subst (λ n. count_by is_copy_program e.acts ≤ (n + plan.alpha - 1) / plan.alpha * (plan.shape.pages - plan.alpha)) same e.rounds.copies;
        slots = subst (λ n. count_by is_erase e.acts ≤ (n + plan.alpha - 1) / plan.alpha * plan.shape.erase_slots) same e.rounds.slots;
      };
      may = e.may;
      safe = e.safe;
      aside = f.0;
      start = s.0;
      first = s.1;
      starts = s.2;
    }

-- the state after the first erase of a mount
there_on_part : (plan : DiePlan) (pages : List PageData) (from : ℕ → ℕ) (seen : Shown) → StandsOnPart plan pages from seen → (erased : ℕ)
    → MayErase (part_of plan) from seen erased → (erases : ℕ → ℕ) (next : ℕ) → IsAbove seen from next
    → IsRecoverable (part_of plan) (remounted_cells (part_of plan) from erased erases seen) pages (remounted_labels erased seen next) from
there_on_part plan pages from seen h erased may erases next above = remounts (part_of plan) pages from seen h erased may erases next above

pub starts_beside : (plan : DiePlan) (pages : List PageData) (from : ℕ → ℕ) (seen : Shown) → MeetsBound plan → plan.shape.blocks < 1024
    → StandsOnPart plan pages from seen → (erased : ℕ) → MayErase (part_of plan) from seen erased → (erases : ℕ → ℕ) (next : ℕ)
    → IsAbove seen from next
    → CanStartBeside plan from (remounted_cells (part_of plan) from erased erases seen) pages (remounted_labels erased seen next)
starts_beside plan pages from seen bound less h erased may erases next above =
    let part = part_of plan in
    starts plan from (remounted_cells part from erased erases seen) pages (remounted_labels erased seen next) bound less
    (there_on_part plan pages from seen h erased may erases next above) (remounted_idle part from erased erases seen) erased
    (free_remounted part from erased erases seen (omega (arith, erased_within part pages from seen erased h may, h.blocks)))

-- wherever it stops
pub ends_beside : (plan : DiePlan) (pages : List PageData) (from : ℕ → ℕ) (seen : Shown) → MeetsBound plan → plan.shape.blocks < 1024
    → StandsOnPart plan pages from seen → (erased : ℕ) → MayErase (part_of plan) from seen erased → (erases : ℕ → ℕ) (next : ℕ)
    → IsAbove seen from next → (acts : List Act)
    → AreMountActs (part_of plan) (remounted_cells (part_of plan) from erased erases seen) acts
    → EndsBeside plan from (remounted_cells (part_of plan) from erased erases seen) pages (remounted_labels erased seen next) acts
ends_beside plan pages from seen bound less h erased may erases next above acts are idle aside free enough =
    starts_at plan from (remounted_cells (part_of plan) from erased erases seen) pages (remounted_labels erased seen next) bound less
    (there_on_part plan pages from seen h erased may erases next above) acts are idle aside free enough

-- Where a mount is cut

pub cut_on_part : (plan : DiePlan) (pages : List PageData) (from : ℕ → ℕ) (before seen : Shown) → MeetsBound plan → plan.shape.blocks < 1024
    → StandsOnPart plan pages from before → MaySeeAgainOnPart plan from before seen → StandsOnPart plan pages from seen
cut_on_part plan pages from before seen bound less h w = cut_again (part_of plan) (part_bound plan bound less) pages from before seen h w
