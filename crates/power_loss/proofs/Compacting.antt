-- A mount can put pages together until as many are free as all caps and reserves come to.
use Rattle.std.proofs.Common.{◌≡◌, ◌≢◌, ◌⊎◌, ℕ, zero, suc, ◌+◌, ◌-◌, ◌*◌, ◌/◌, ◌<◌, ◌≤◌, ◌==◌, Bool, true, cond, List}
use Rattle.std.proofs.Common.{[], ◌∷◌, length}
use Rattle.std.proofs.Common.{Option, Some, None, refl, ap, sym, ◌∙◌, subst, inl, inr, arith}
use Rattle.std.specs.Prelude.{sum_by, count_by}
use Rattle.std.proofs.Math.Nat.{suc-mul, lt-div-mul-add}
use Rattle.std.proofs.lemmas.Bool.{cases_eq, cases_lt, eq-eqb, ne_eqb}
use Rattle.std.proofs.lemmas.List.Sums.{get_or-le-sum_by, sum_by-cons}
use Rattle.std.proofs.lemmas.Option.{slice_get-get_or}
use Rattle.slot_types.specs.Places.{place_of}
use Rattle.slot_types.specs.declared.plans.DiePlan.{DiePlan}
use Rattle.slot_types.specs.declared.pages.Place.{Place}
use Rattle.slot_types.specs.declared.acts.Act.{Act}
use Rattle.slot_types.specs.declared.acts.Act.TheVariants as does
use Rattle.plan_rules.specs.Bound.{MeetsBound}
use Rattle.die_log.specs.Model.Flash.{Cells, Block, free_block, open_block, block_at, free_in, valid}
use Rattle.die_log.specs.Model.Flash.{cells_after_program_in, cells_after_program, cells_after}
use Rattle.die_log.specs.Model.Work.{is_copy_program, is_erase}
use Rattle.die_log.specs.Invariants.SoundCells.{AreSoundCells, IsClosed, IsProgram, IsEraseSlot, TakesNext}
use Rattle.die_log.proofs.Cells.Acts.{in_block}
use Rattle.die_log.proofs.Cells.FreePages.{free_idle, program_free, erase_free}
use Rattle.die_log.proofs.Cells.Steps.{opens, open_is, program_is, erase_slot_is, within_blocks}
use Rattle.die_log.proofs.Legal.Exact.{has_pages, has_slots}
use Rattle.die_log.proofs.Tokens.Copying.{program_away}
use Rattle.power_loss.specs.Recovery.{MayMount, cells_of, AreMountActs, AreIdle, AreSafe, CanGoBack, HasUnplaced}
use Rattle.power_loss.specs.Recovery.{IsFreeBlock, IsSafe, NoneOpen, IsWorthIt, CanEnd, FitRounds, enough_of}
use Rattle.power_loss.specs.Recovery.{most_rounds, most_acts}
use Rattle.power_loss.proofs.Carrying.{placed_within}
use Rattle.power_loss.proofs.MountActs.{mount_act, after_sound}
use Rattle.power_loss.proofs.MountedStarts.{finds_block}
use Rattle.power_loss.proofs.Remounting.{placed_in, free_unplaced}

-- Acts, one after the other

-- how many of them are copies, and slots of erases
abbrev pub copies_in : List Act → ℕ
copies_in acts = count_by is_copy_program acts

abbrev pub slots_in : List Act → ℕ
slots_in acts = count_by is_erase acts

pub copy_counts : (page : ℕ) (acts : List Act)
    → (copies_in (does.CopyProgram page ∷ acts) ≡ copies_in acts + 1) × (slots_in (does.CopyProgram page ∷ acts) ≡ slots_in acts)
copy_counts page acts = (
  omega (arith, sum_by-cons (λ (a : Act). cond (is_copy_program a) 1 0) (does.CopyProgram page) acts),
  omega (arith, sum_by-cons (λ (a : Act). cond (is_erase a) 1 0) (does.CopyProgram page) acts),
)

pub slot_counts : (b : ℕ) (acts : List Act)
    → (copies_in (does.Erase b ∷ acts) ≡ copies_in acts) × (slots_in (does.Erase b ∷ acts) ≡ slots_in acts + 1)
slot_counts b acts = (
  omega (arith, sum_by-cons (λ (a : Act). cond (is_copy_program a) 1 0) (does.Erase b) acts),
  omega (arith, sum_by-cons (λ (a : Act). cond (is_erase a) 1 0) (does.Erase b) acts),
)

abbrev pub free_of : DiePlan → Cells → ℕ
free_of plan c = sum_by (free_in plan) c.blocks

-- acts of a mount lead from the first cells to these, which are sound, and at each moment of them the power may go
pub record Reaches (plan : DiePlan) (first c : Cells) : Type 0 where
  pub acts : List Act
  pub may : AreMountActs plan first acts
  pub safe : AreSafe plan first acts
  pub is : cells_of plan acts first ≡ c
  pub sound : AreSoundCells plan c

pub further : (plan : DiePlan) (first c : Cells) (act : Act) → MeetsBound plan → (r : Reaches plan first c) → MayMount plan c act
    → IsSafe plan first (act ∷ r.acts) → Reaches plan first (cells_after plan (Some (0, act)) c)
further plan first c act bound r may safe = record {
  acts = act ∷ r.acts;
  may = (r.may, subst (λ (x : Cells). MayMount plan x act) (sym r.is) may);
  safe = (r.safe, safe);
  is = ap (cells_after plan (Some (0, act))) r.is;
  sound = after_sound plan c act bound r.sound (mount_act plan c act may);
}

-- a block is wholly free
pub record IsWhollyFree (c : Cells) : Type 0 where
  pub b : ℕ
  pub stands : b < length c.blocks
  pub none : (block_at c b).filled ≡ 0

-- while pages are copied
abbrev pub MayCopyOn : DiePlan → (first c : Cells) → List Act → Type 0
MayCopyOn plan first c acts = IsWhollyFree c ⊎ CanGoBack plan first acts

pub safe_there : (plan : DiePlan) (first c : Cells) (acts : List Act) → cells_of plan acts first ≡ c → AreSoundCells plan c → MayCopyOn plan first c acts
    → IsSafe plan first acts
safe_there plan first c acts is s (inl free) = inl (subst HasUnplaced (sym is) (free_unplaced plan c free.b s free.stands free.none))
safe_there plan first c acts is s (inr back) = inr back

-- a copy goes to the open block, or opens one that was wholly free
pub copies_on : (plan : DiePlan) (first c : Cells) (page : ℕ) → MeetsBound plan → (r : Reaches plan first c) → AreIdle c → 0 < free_of plan c
    → MayCopyOn plan first c r.acts → MayCopyOn plan first (cells_after_program plan page c) (does.CopyProgram page ∷ r.acts)
copies_on plan first c page bound r idle room (inr back) = inr (record {
  copies = does.CopyProgram page ∷ back.copies;
  earlier = back.earlier;
  is = ap (λ (xs : List Act). does.CopyProgram page ∷ xs) back.is;
  are = (back.are, tt);
  idle = back.idle;
  none_open = back.none_open;
  unplaced = back.unplaced;
})
copies_on plan first c page bound r idle room (inl free) =
    let o = opens plan c room in
    let k = open_is plan c o.0 (has_pages plan bound) r.sound o.1 in
    let w = program_is plan page o.0 c k.stands k.room k.alone in
    by_open o.0 o.1 k w (cases_eq (block_at c o.0).filled 0)
  where
    still : (o : ℕ) → IsProgram plan page o c (cells_after_program_in page (Some o) c) → ((block_at c o).filled ≡ 0 → ⊥)
        → IsWhollyFree (cells_after_program_in page (Some o) c)
    still o w filled = record {
      b = free.b;
      stands = omega (arith, free.stands, w.blocks);
      none = ap (λ (t : Block). t.filled) (w.others free.b (λ is. filled (sym (ap (λ (x : ℕ). (block_at c x).filled) is) ∙ free.none))) ∙ free.none;
    }

    none_open : (o : ℕ) → TakesNext plan c o → (block_at c o).filled ≡ 0 → NoneOpen plan c
    none_open o k unfilled b less = by_filled (cases_eq (block_at c b).filled 0)
      where
        by_filled : ((block_at c b).filled ≡ 0) ⊎ ((block_at c b).filled ≡ 0 → ⊥) → (block_at c b).filled ≡ 0
        by_filled (inl e) = e
        by_filled (inr some) =
            let same : b ≡ o = k.alone b (omega arith, less) in
            absurd (some (ap (λ (x : ℕ). (block_at c x).filled) same ∙ unfilled))

    by_open : (o : ℕ) → open_block plan c ≡ Some o → TakesNext plan c o → IsProgram plan page o c (cells_after_program_in page (Some o) c)
        → ((block_at c o).filled ≡ 0) ⊎ ((block_at c o).filled ≡ 0 → ⊥)
        → MayCopyOn plan first (cells_after_program plan page c) (does.CopyProgram page ∷ r.acts)
    by_open o e k w (inl unfilled) = inr (record {
      copies = does.CopyProgram page ∷ [];
      earlier = r.acts;
      is = refl;
      are = (tt, tt);
      idle = subst AreIdle (sym r.is) idle;
      none_open = subst (NoneOpen plan) (sym r.is) (none_open o k unfilled);
      unplaced = subst HasUnplaced (sym r.is) (free_unplaced plan c free.b r.sound free.stands free.none);
    })
    by_open o e k w (inr filled) = inl (subst (λ (x : Option ℕ). IsWhollyFree (cells_after_program_in page x c)) (sym e) (still o w filled))

-- Copies

-- what a copy out of a closed block does
pub record IsCopied (plan : DiePlan) (c d : Cells) (b : ℕ) : Type 0 where
  pub idle : AreIdle d
  pub closed : IsClosed plan d b
  pub fewer : valid d b + 1 ≤ valid c b
  pub free : free_of plan d + 1 ≡ free_of plan c

pub copied : (plan : DiePlan) (c : Cells) (b page : ℕ) (q : Place) → MeetsBound plan → AreSoundCells plan c → AreIdle c → IsClosed plan c b
    → 0 < free_of plan c → place_of c.places page ≡ Some q → q.block ≡ b → IsCopied plan c (cells_after_program plan page c) b
copied plan c b page q bound s idle closed room e is =
    let o = opens plan c room in
    let more = has_pages plan bound in
    let k = open_is plan c o.0 more s o.1 in
    let w = program_is plan page o.0 c k.stands k.room k.alone in
    let lt : page < length c.places = placed_within c page b (in_block c page b q e is) in
    record {
      idle = λ a. subst (λ (x : Option ℕ). (block_at (cells_after_program_in page x c) a).erasing ≡ 0) (sym o.1)
          (idle_by o.0 a w (cases_eq a o.0));
      closed = subst (λ (x : Option ℕ). IsClosed plan (cells_after_program_in page x c) b) (sym o.1)
          (ap (λ (t : Block). t.filled) (w.others b (λ same. apart o.0 k.room same)) ∙ closed);
      fewer = program_away plan c page b o.0 (Some q) more s closed o.1 (slice_get-get_or c.places page None lt ∙ ap Some e)
          (eq-eqb q.block b is);
      free = program_free plan page c more s room;
    }
  where
    apart : (o : ℕ) → (block_at c o).filled < plan.shape.pages → b ≡ o → ⊥
    apart o less same = omega (arith, closed, ap (λ (x : ℕ). (block_at c x).filled) same)

    idle_by : (o a : ℕ) → IsProgram plan page o c (cells_after_program_in page (Some o) c) → (a ≡ o) ⊎ (a ≡ o → ⊥)
        → (block_at (cells_after_program_in page (Some o) c) a).erasing ≡ 0
    idle_by o a w (inl same) = ap (λ (x : ℕ). (block_at (cells_after_program_in page (Some o) c) x).erasing) same ∙ (w.erasing ∙ idle o)
    idle_by o a w (inr other) = ap (λ (t : Block). t.erasing) (w.others a other) ∙ idle a

-- all its pages are copied
record IsEmptied (plan : DiePlan) (first c : Cells) (r : Reaches plan first c) (b : ℕ) : Type 0 where
  d : Cells
  reached : Reaches plan first d
  idle : AreIdle d
  closed : IsClosed plan d b
  none : valid d b ≡ 0
  free : free_of plan c ≤ free_of plan d + valid c b
  took : length reached.acts ≤ length r.acts + valid c b
  copies : copies_in reached.acts ≤ copies_in r.acts + valid c b
  slots : slots_in reached.acts ≤ slots_in r.acts

copies_out : (plan : DiePlan) (first c : Cells) (b n : ℕ) → MeetsBound plan → (r : Reaches plan first c) → MayCopyOn plan first c r.acts → AreIdle c
    → IsClosed plan c b → valid c b ≤ n → valid c b ≤ free_of plan c → IsEmptied plan first c r b
unfolding further
copies_out plan first c b zero bound r on idle closed few room =
    record { d = c; reached = r; idle = idle; closed = closed; none = omega arith; free = omega arith; took = omega arith; copies = omega arith; slots = omega arith }
copies_out plan first c b (suc n) bound r on idle closed few room = by_case (λ d. copies_out plan first d b n bound) (cases_eq (valid c b) 0)
  where
    Again : Type 0
    Again = (d : Cells) (q : Reaches plan first d) → MayCopyOn plan first d q.acts → AreIdle d → IsClosed plan d b → valid d b ≤ n
        → valid d b ≤ free_of plan d → IsEmptied plan first d q b

    by_case : Again → (valid c b ≡ 0) ⊎ (valid c b ≡ 0 → ⊥) → IsEmptied plan first c r b
    by_case again (inl none) = record { d = c; reached = r; idle = idle; closed = closed; none = none; free = omega arith; took = omega arith; copies = omega arith; slots = omega arith }
    by_case again (inr some) =
        let p = placed_in c b some in
        let free : 0 < free_of plan c = omega arith in
        let k = copied plan c b p.0 p.1 bound r.sound idle closed free p.2 p.3 in
        let act : Act = does.CopyProgram p.0 in
        let may : MayMount plan c act = (free, (b, in_block c p.0 b p.1 p.2 p.3)) in
        let d : Cells = cells_after_program plan p.0 c in
        let then : MayCopyOn plan first d (act ∷ r.acts) = copies_on plan first c p.0 bound r idle free on in
        let safe : IsSafe plan first (act ∷ r.acts) = safe_there plan first d (act ∷ r.acts) (ap (cells_after plan (Some (0, act))) r.is)
        (after_sound plan c act bound r.sound (mount_act plan c act may)) then in
        let e = again d (further plan first c act bound r may safe) then k.idle k.closed (omega (arith, k.fewer)) (omega (arith, k.fewer, k.free)) in
        record {
          d = e.d;
          reached = e.reached;
          idle = e.idle;
          closed = e.closed;
          none = e.none;
          free = omega (arith, e.free, k.fewer, k.free);
          took = omega (arith, e.took, k.fewer);
          copies = omega (arith, e.copies, k.fewer, (copy_counts p.0 r.acts).0);
          slots = omega (arith, e.slots, (copy_counts p.0 r.acts).1);
        }

-- Erases

record IsErased (plan : DiePlan) (first c : Cells) (r : Reaches plan first c) (slots : ℕ) : Type 0 where
  d : Cells
  reached : Reaches plan first d
  idle : AreIdle d
  whole : IsWhollyFree d
  free : free_of plan c + plan.shape.pages ≤ free_of plan d
  took : length reached.acts ≤ length r.acts + slots
  copies : copies_in reached.acts ≤ copies_in r.acts
  slots_too : slots_in reached.acts ≤ slots_in r.acts + slots

abbrev pub after_erase : DiePlan → ℕ → Cells → Cells
after_erase plan b c = cells_after plan (Some (0, does.Erase b)) c

-- during its erase no page is placed in the block
pub erase_safe : (plan : DiePlan) (first c : Cells) (b : ℕ) (acts : List Act) → cells_of plan acts first ≡ c
    → IsEraseSlot plan b c (after_erase plan b c) → b < length c.blocks → valid c b ≡ 0 → IsSafe plan first (does.Erase b ∷ acts)
erase_safe plan first c b acts is w stands none =
    inl (subst (λ (x : Cells). HasUnplaced (after_erase plan b x)) (sym is) (record { b = b; stands = omega (arith, w.blocks); none = none }))

-- k slots of its erase are left
erases_out : (plan : DiePlan) (first c : Cells) (b k : ℕ) → MeetsBound plan → (r : Reaches plan first c)
    → ((a : ℕ) → a ≢ b → (block_at c a).erasing ≡ 0) → IsClosed plan c b → valid c b ≡ 0 → (block_at c b).erasing + suc k ≡ plan.shape.erase_slots
    → IsErased plan first c r (suc k)
unfolding further
erases_out plan first c b zero bound r others closed none left =
    let more = has_pages plan bound in
    let stands = within_blocks plan c b (omega arith) (cases_lt b (length c.blocks)) in
    let w : IsEraseSlot plan b c (after_erase plan b c) = erase_slot_is plan b c stands in
    let last : ((block_at c b).erasing + 1 == plan.shape.erase_slots) ≡ true = eq-eqb ((block_at c b).erasing + 1) plan.shape.erase_slots (omega arith) in
    record {
      d = after_erase plan b c;
      reached = further plan first c (does.Erase b) bound r (closed, none) (erase_safe plan first c b r.acts r.is w stands none);
      idle = λ a. idle_by w a (cases_eq a b);
      whole = record { b = b; stands = omega (arith, stands, w.blocks); none = unfilled w };
      free = omega (arith, erase_free plan 0 b c more closed, ap (λ (t : Bool). cond t plan.shape.pages 0) last);
      took = omega arith;
      copies = omega (arith, (slot_counts b r.acts).0);
      slots_too = omega (arith, (slot_counts b r.acts).1);
    }
  where
    unfilled : IsEraseSlot plan b c (after_erase plan b c) → (block_at (after_erase plan b c) b).filled ≡ 0
    unfilled w = by_slot w.slot
      where
        by_slot : (((block_at c b).erasing + 1 ≡ plan.shape.erase_slots) × ((block_at (after_erase plan b c) b).filled ≡ 0)
            × ((block_at (after_erase plan b c) b).erasing ≡ 0))
            ⊎ (((block_at c b).erasing + 1 ≢ plan.shape.erase_slots) × ((block_at (after_erase plan b c) b).filled ≡ (block_at c b).filled)
            × ((block_at (after_erase plan b c) b).erasing ≡ (block_at c b).erasing + 1))
            → (block_at (after_erase plan b c) b).filled ≡ 0
        by_slot (inl h) = h.1
        by_slot (inr h) = absurd (h.0 (omega arith))

    own : IsEraseSlot plan b c (after_erase plan b c) → (block_at (after_erase plan b c) b).erasing ≡ 0
    own w = by_slot w.slot
      where
        by_slot : (((block_at c b).erasing + 1 ≡ plan.shape.erase_slots) × ((block_at (after_erase plan b c) b).filled ≡ 0)
            × ((block_at (after_erase plan b c) b).erasing ≡ 0))
            ⊎ (((block_at c b).erasing + 1 ≢ plan.shape.erase_slots) × ((block_at (after_erase plan b c) b).filled ≡ (block_at c b).filled)
            × ((block_at (after_erase plan b c) b).erasing ≡ (block_at c b).erasing + 1))
            → (block_at (after_erase plan b c) b).erasing ≡ 0
        by_slot (inl h) = h.2
        by_slot (inr h) = absurd (h.0 (omega arith))

    idle_by : IsEraseSlot plan b c (after_erase plan b c) → (a : ℕ) → (a ≡ b) ⊎ (a ≡ b → ⊥) → (block_at (after_erase plan b c) a).erasing ≡ 0
    idle_by w a (inl same) = ap (λ (x : ℕ). (block_at (after_erase plan b c) x).erasing) same ∙ own w
    idle_by w a (inr other) = ap (λ (t : Block). t.erasing) (w.others a other) ∙ others a other
erases_out plan first c b (suc k) bound r others closed none left =
    let more = has_pages plan bound in
    let stands = within_blocks plan c b (omega arith) (cases_lt b (length c.blocks)) in
    let w : IsEraseSlot plan b c (after_erase plan b c) = erase_slot_is plan b c stands in
    let not_last : (block_at c b).erasing + 1 ≢ plan.shape.erase_slots = λ e. omega arith in
    let s = slot_is w w.slot in
    let e = erases_out plan first (after_erase plan b c) b k bound
    (further plan first c (does.Erase b) bound r (closed, none) (erase_safe plan first c b r.acts r.is w stands none))
    (λ a other. ap (λ (t : Block). t.erasing) (w.others a other) ∙ others a other) (s.0 ∙ closed) none (omega (arith, s.1)) in
    record {
      d = e.d;
      reached = e.reached;
      idle = e.idle;
      whole = e.whole;
      free = omega (
        arith,
        e.free,
        erase_free plan 0 b c more closed,
        ap (λ (t : Bool). cond t plan.shape.pages 0) (ne_eqb ((block_at c b).erasing + 1) plan.shape.erase_slots not_last),
      );
      took = omega (arith, e.took);
      copies = omega (arith, e.copies, (slot_counts b r.acts).0);
      slots_too = omega (arith, e.slots_too, (slot_counts b r.acts).1);
    }
  where
    slot_is : IsEraseSlot plan b c (after_erase plan b c)
        → (((block_at c b).erasing + 1 ≡ plan.shape.erase_slots) × ((block_at (after_erase plan b c) b).filled ≡ 0)
        × ((block_at (after_erase plan b c) b).erasing ≡ 0))
        ⊎ (((block_at c b).erasing + 1 ≢ plan.shape.erase_slots) × ((block_at (after_erase plan b c) b).filled ≡ (block_at c b).filled)
        × ((block_at (after_erase plan b c) b).erasing ≡ (block_at c b).erasing + 1))
        → ((block_at (after_erase plan b c) b).filled ≡ (block_at c b).filled)
        × ((block_at (after_erase plan b c) b).erasing ≡ (block_at c b).erasing + 1)
    slot_is w (inl h) = absurd (omega (arith, h.0))
    slot_is w (inr h) = (h.1, h.2)

-- A block that is worth it

-- where a block is wholly free, as many pages are free as a block has, or more
pub free_pages : (plan : DiePlan) (c : Cells) → AreIdle c → IsWhollyFree c → plan.shape.pages ≤ free_of plan c
free_pages plan c idle f =
    let one : free_in plan (block_at c f.b) ≡ plan.shape.pages = free_idle plan (block_at c f.b) (idle f.b) ∙ omega (arith, f.none) in
    omega (arith, one, get_or-le-sum_by (free_in plan) c.blocks f.b free_block f.stands)

-- how many acts it takes at most to empty a block and erase it
abbrev round_of : DiePlan → ℕ
round_of plan = plan.shape.pages - plan.alpha + plan.shape.erase_slots

-- more pages are free, and a block wholly
record HasGained (plan : DiePlan) (first c : Cells) (r : Reaches plan first c) : Type 0 where
  d : Cells
  reached : Reaches plan first d
  idle : AreIdle d
  whole : IsWhollyFree d
  free : free_of plan c + plan.alpha ≤ free_of plan d
  took : length reached.acts ≤ length r.acts + round_of plan
  copies : copies_in reached.acts ≤ copies_in r.acts + (plan.shape.pages - plan.alpha)
  slots : slots_in reached.acts ≤ slots_in r.acts + plan.shape.erase_slots

-- its pages are copied, and it is erased
gains : (plan : DiePlan) (first c : Cells) (b : ℕ) → MeetsBound plan → (r : Reaches plan first c) → AreIdle c → IsWorthIt plan c b → IsWhollyFree c
    → HasGained plan first c r
gains plan first c b bound r idle worth free =
    let fits = bound.limits.alpha_fits in
    let room = free_pages plan c idle free in
    let e = copies_out plan first c b (valid c b) bound r (inl free) idle worth.closed (omega arith) (omega (arith, worth.few)) in
    let slots = has_slots plan bound in
    let x = erases_out plan first e.d b (plan.shape.erase_slots - 1) bound e.reached (λ a other. e.idle a) e.closed e.none
    (omega (arith, e.idle b)) in
    record {
      d = x.d;
      reached = x.reached;
      idle = x.idle;
      whole = x.whole;
      free = omega (arith, x.free, e.free, worth.few);
      took = omega (arith, x.took, e.took, worth.few);
      copies = omega (arith, x.copies, e.copies, worth.few);
      slots = omega (arith, x.slots_too, e.slots, slots);
    }

pub rounded : (x a : ℕ) → 0 < a → x ≤ (x + a - 1) / a * a
rounded x a some = omega (arith, lt-div-mul-add {a = x + a - 1} {b = a} some, some)

ended : (plan : DiePlan) (first c : Cells) → (r : Reaches plan first c) → AreIdle c → length r.acts ≤ most_acts plan
    → FitRounds plan (most_rounds plan) r.acts → enough_of plan ≤ free_of plan c → CanEnd plan first
ended plan first c r idle few rounds enough = record {
  acts = r.acts;
  few = few;
  rounds = rounds;
  may = r.may;
  safe = r.safe;
  idle = subst AreIdle (sym r.is) idle;
  enough = subst (λ (x : Cells). enough_of plan ≤ free_of plan x) (sym r.is) enough;
}

-- with n more rounds these acts are as many rounds as may be
record LeavesRounds (plan : DiePlan) (acts : List Act) (n : ℕ) : Type 0 where
  few : length acts + n * round_of plan ≤ most_acts plan
  copies : copies_in acts + n * (plan.shape.pages - plan.alpha) ≤ most_rounds plan * (plan.shape.pages - plan.alpha)
  slots : slots_in acts + n * plan.shape.erase_slots ≤ most_rounds plan * plan.shape.erase_slots

fits_rounds : (plan : DiePlan) (acts : List Act) (n : ℕ) → LeavesRounds plan acts n → FitRounds plan (most_rounds plan) acts
fits_rounds plan acts n h = record { copies = omega (arith, h.copies); slots = omega (arith, h.slots) }

-- n rounds are left
ends_by : (plan : DiePlan) (first c : Cells) (n : ℕ) → MeetsBound plan → (r : Reaches plan first c) → AreIdle c → IsWhollyFree c
    → enough_of plan ≤ free_of plan c + n * plan.alpha → LeavesRounds plan r.acts n → CanEnd plan first
ends_by plan first c zero bound r idle free lacks few =
    ended plan first c r idle (omega (arith, few.few)) (fits_rounds plan r.acts zero few) (omega (arith, lacks))
ends_by plan first c (suc n) bound r idle free lacks few = by_case (λ d. ends_by plan first d n bound) (cases_lt (free_of plan c) (enough_of plan))
  where
    by_case : ((d : Cells) → (q : Reaches plan first d) → AreIdle d → IsWhollyFree d → enough_of plan ≤ free_of plan d + n * plan.alpha
        → LeavesRounds plan q.acts n → CanEnd plan first)
        → (free_of plan c < enough_of plan) ⊎ (enough_of plan ≤ free_of plan c) → CanEnd plan first
    by_case again (inl short) =
        let some = bound.limits.some_alpha in
        let f = finds_block plan c bound r.sound idle (omega arith) in
        let g = gains plan first c f.0 bound r idle f.1 free in
        again g.d g.reached g.idle g.whole (omega (arith, g.free, lacks, suc-mul n plan.alpha)) (record {
          few = omega (arith, g.took, few.few, suc-mul n (round_of plan));
          copies = omega (arith, g.copies, few.copies, suc-mul n (plan.shape.pages - plan.alpha));
          slots = omega (arith, g.slots, few.slots, suc-mul n plan.shape.erase_slots);
        })
    by_case again (inr enough) = ended plan first c r idle (omega (arith, few.few)) (fits_rounds plan r.acts (suc n) few) enough

-- a mount that has a wholly free block can end
pub can_end : (plan : DiePlan) (c : Cells) (b : ℕ) → MeetsBound plan → AreSoundCells plan c → AreIdle c → IsFreeBlock c b → CanEnd plan c
can_end plan c b bound s idle f =
    let free : IsWhollyFree c = record { b = b; stands = f.stands; none = f.unfilled } in
    let lacks = rounded (enough_of plan - plan.shape.pages) plan.alpha bound.limits.some_alpha in
    ends_by plan c c (most_rounds plan) bound (record {
      acts = [];
      may = tt;
      safe = inl (free_unplaced plan c b s f.stands f.unfilled);
      is = refl;
      sound = s;
    }) idle free (omega (arith, lacks, free_pages plan c idle free)) (record { few = omega arith; copies = omega arith; slots = omega arith })
