-- The head of a slot acts as its job or collection may.
use Rattle.std.proofs.Common.{◌≡◌, ◌≢◌, ◌⊎◌, ℕ, zero, suc, ◌+◌, ◌<◌, ◌==◌, ◌&&◌, not, nat_lt, Bool, true, false, cond, List, [], ◌∷◌, ◌++◌}
use Rattle.std.proofs.Common.{Option, Some, None, refl, ap, sym, ◌∙◌, subst, inl, inr, arith, length, slice_get}
use Rattle.std.specs.Prelude.{Contains, count_by}
use Rattle.std.specs.List.{last_or, range_with_len, AllByRecursion}
use Rattle.std.proofs.lemmas.Bool.{true≢false, and_parts, and_from, not-true, not_from_false, ne_eqb, eq-eqb, eqb-true, eqb-false, lt-ltb}
use Rattle.std.proofs.lemmas.Option.{same_Some, none-some}
use Rattle.std.proofs.lemmas.List.{length_push}
use Rattle.std.proofs.lemmas.List.Sums.{sum_by_push}
use Rattle.slot_types.specs.declared.plans.DiePlan.{DiePlan}
use Rattle.slot_types.specs.declared.acts.Act.{Act}
use Rattle.slot_types.specs.declared.acts.Act.TheVariants as does
use Rattle.slot_types.specs.declared.events.Op.{Op}
use Rattle.slot_types.specs.declared.events.Op.TheVariants as asks
use Rattle.slot_types.specs.declared.replies.Entry.{Entry}
use Rattle.die_log.specs.Model.Log.{Log, Job, Carried, jobs, act_of, acts, work}
use Rattle.die_log.specs.Model.Flash.{ran_by, Cells, cells, cells_after, block_at, is_closed}
use Rattle.die_log.specs.Model.Work.{are_all, is_done, is_erase, victim_of, shown_by, block_shown}
use Rattle.die_log.specs.Model.Answers.{is_running, is_block, is_collected, candidates, victim, block_for, buffer_after, collect_act, act_of_op}
use Rattle.die_log.specs.Model.Answers.{act_for}
use Rattle.die_log.specs.Results.Legal.{changed_since, changed_by, FindsFree}
use Rattle.die_log.specs.Invariants.SoundCells.{IsClosed, IsUnplaced, AreSoundCells, IsCollecting, IsEraseSlot, IsCellStep, HasFreePage, MayDo}
use Rattle.die_log.specs.Invariants.RunningCollections.{AreNumbered, RunsOnBlock, KeepsCollections}
use Rattle.die_log.proofs.Choices.{OfSome}
use Rattle.die_log.proofs.Cells.Steps.{step_is, step_sound}
use Rattle.die_log.proofs.Cells.Collections.{begins_collecting, own_step, next_may}
use Rattle.die_log.proofs.LogInvariants.OneMoreEntry.{act_own, acts_grow, no_victim, kept_both, best_all, any_contained}
use Rattle.die_log.proofs.LogInvariants.AfterNoAct.{runs_with, RunsWith, runs_says, collecting_as}
use Rattle.die_log.proofs.LogInvariants.AfterAct.{IsActor, acted}
use Rattle.die_log.specs.Model.Start.{Start}

-- Which block a collection has

-- before its act: it collects the block, nobody else does, and it has no other
pub record IsBegun (start : Start) (past : Log) (j : Job) (b : ℕ) : Type 0 where
  pub collecting : IsCollecting start.plan (cells start past) (acts j.number past) (λ p. changed_since j.number p past) b
  pub shown : (victim_of start j.number past ≡ Some b) ⊎ (acts j.number past ≡ [])
  pub apart : (i : Job) → RunsOnBlock start past i b → i.number ≡ j.number
  pub same : (a : ℕ) → RunsOnBlock start past j a → a ≡ b

all_any : (xs : List ℕ) → AllByRecursion (λ (x : ℕ). Unit {0}) xs
all_any [] = tt
all_any (x ∷ xs) = (tt, all_any xs)

victim_is : (start : Start) (past : Log) (b : ℕ) → victim start past ≡ Some b → IsClosed start.plan (cells start past) b
    × (is_collected start past b ≡ false)
victim_is start past b e =
    let t : ℕ → Bool = λ x. is_closed start.plan (block_at (cells start past) x) && not (is_collected start past x) in
    let h = subst (OfSome (λ (x : ℕ). Unit {0} × (t x ≡ true))) e
    (best_all (λ (x : ℕ). Unit {0} × (t x ≡ true)) _ (candidates start past)
    (kept_both (λ (x : ℕ). Unit {0}) t (range_with_len 0 start.plan.shape.blocks) (all_any _))) in
    let k = and_parts (is_closed start.plan (block_at (cells start past) b)) (not (is_collected start past b)) h.1 in
    (eqb-true _ _ k.0, not-true (is_collected start past b) k.1)

block_is : (b : ℕ) (o : Option ℕ) → o ≡ Some b → is_block b o ≡ true
block_is b None h = absurd cc
block_is b (Some v) h = eq-eqb v b (same_Some v b h)

-- a block on which somebody runs is collected
pub runs_collected : (start : Start) (past : Log) (i : Job) (b : ℕ) → RunsOnBlock start past i b → is_collected start past b ≡ true
runs_collected start past i b r =
    any_contained (λ j. is_running start.plan past j && is_block b (victim_of start j.number past)) (jobs past) i r.stands
    (and_from (is_running start.plan past i) (is_block b (victim_of start i.number past)) r.running
    (block_is b (victim_of start i.number past) r.victim))

nil_by : (xs : List Act) → length xs ≡ 0 → xs ≡ []
nil_by [] h = refl
nil_by (x ∷ xs) h = absurd (omega arith)

zero_or : (n : ℕ) → (n ≡ 0 → ⊥) → 0 < n
zero_or zero h = absurd (h refl)
zero_or (suc n) h = omega arith

pub runs_from : (plan : DiePlan) (j : Job) (own : List Act) → RunsWith plan j own → runs_with plan j own ≡ true
runs_from plan j own h =
    and_from (j.collects && nat_lt 0 (length own)) (not (are_all plan j own))
    (and_from j.collects (nat_lt 0 (length own)) h.collects (lt-ltb 0 (length own) h.begun))
    (not_from_false (are_all plan j own) h.undone)

begun_by : (start : Start) (past : Log) (j : Job) (b : ℕ) → KeepsCollections start past → Contains (jobs past) j → j.collects ≡ true
    → is_done start.plan past j ≡ false
    → (t : Bool) → (length (acts j.number past) == 0) ≡ t → cond t (victim start past) (victim_of start j.number past) ≡ Some b
    → IsBegun start past j b
begun_by start past j b k stands collects undone true zero_test e =
    let v = victim_is start past b e in
    let nil : acts j.number past ≡ [] = nil_by (acts j.number past) (eqb-true (length (acts j.number past)) 0 zero_test) in
    record {
      collecting = collecting_as start.plan (cells start past) [] (acts j.number past) (λ p. changed_since j.number p past)
          (λ p. changed_since j.number p past) b nil (λ p x. x)
          (begins_collecting start.plan (cells start past) (λ p. changed_since j.number p past) b v.0
          (idle (block_at (cells start past) b).erasing refl v.1));
      shown = inr nil;
      apart = λ i r. absurd (true≢false (sym (runs_collected start past i b r) ∙ v.1));
      same = λ a r. absurd (omega (arith, (runs_says start.plan j (acts j.number past) r.running).begun, ap length nil));
    }
  where
    idle : (n : ℕ) → (block_at (cells start past) b).erasing ≡ n → is_collected start past b ≡ false → n ≡ 0
    idle zero is not_collected = refl
    idle (suc n) is not_collected = let o = k.owned b (omega arith) in absurd
        (true≢false (sym (runs_collected start past o.0 b o.1) ∙ not_collected))
begun_by start past j b k stands collects undone false zero_test e =
    let runs : RunsOnBlock start past j b = record {
      stands = stands;
      running = runs_from start.plan j (acts j.number past) (record {
        collects = collects;
        begun = zero_or (length (acts j.number past)) (eqb-false (length (acts j.number past)) 0 zero_test);
        undone
            = undone;
      });
      victim = e;
    } in record {
      collecting = k.collecting j b runs;
      shown = inl e;
      apart = λ i r. k.different i j b r runs;
      same = λ a r. same_Some a b (sym r.victim ∙ e);
    }

-- the block for a collection that isn't done
pub begun : (start : Start) (past : Log) (j : Job) (b : ℕ) → KeepsCollections start past → Contains (jobs past) j → j.collects ≡ true
    → is_done start.plan past j ≡ false → block_for start past j ≡ Some b → IsBegun start past j b
begun start past j b k stands collects undone e = begun_by start past j b k stands collects undone (length (acts j.number past) == 0) refl e

-- Collections

pub may_erase : (plan : DiePlan) (c : Cells) (own : List Act) (fresh : ℕ → Bool) (b : ℕ) (act : Act) → MayDo plan c own fresh b act
    → (a : ℕ) → act ≡ does.Erase a → (a ≡ b) × IsClosed plan c a × IsUnplaced c a
may_erase plan c own fresh b (does.Read page bytes) may a e = absurd may
may_erase plan c own fresh b (does.Write page bytes) may a e = absurd may
may_erase plan c own fresh b (does.Trim page) may a e = absurd may
may_erase plan c own fresh b (does.CopyRead page) may a e = absurd cc
may_erase plan c own fresh b (does.CopyProgram page) may a e = absurd cc
may_erase plan c own fresh b (does.Erase x) may a e =
    let is : x ≡ a = cc in
    let at : a ≡ b = sym is ∙ may.same in
    (at, subst (IsClosed plan c) (sym at) may.closed, subst (IsUnplaced c) (sym at) may.unplaced)

-- what isn't an erase slot needs a page that is placed in the block
pub may_placed : (plan : DiePlan) (c : Cells) (own : List Act) (fresh : ℕ → Bool) (b : ℕ) (act : Act) → MayDo plan c own fresh b act
    → (act ≡ does.Erase b → ⊥) → IsUnplaced c b → ⊥
may_placed plan c own fresh b (does.Read page bytes) may not_erased none = may
may_placed plan c own fresh b (does.Write page bytes) may not_erased none = may
may_placed plan c own fresh b (does.Trim page) may not_erased none = may
may_placed plan c own fresh b (does.CopyRead page) may not_erased none = none page may.placed
may_placed plan c own fresh b (does.CopyProgram page) may not_erased none = none page may.placed
may_placed plan c own fresh b (does.Erase x) may not_erased none = not_erased (ap does.Erase may.same)

first_shown : (plan : DiePlan) (c : Cells) (own : List Act) (fresh : ℕ → Bool) (b : ℕ) (act : Act) → MayDo plan c own fresh b act → own ≡ []
    → block_shown c act ≡ Some b
first_shown plan c own fresh b (does.Read page bytes) may nil = absurd may
first_shown plan c own fresh b (does.Write page bytes) may nil = absurd may
first_shown plan c own fresh b (does.Trim page) may nil = absurd may
first_shown plan c own fresh b (does.CopyRead page) may nil = may.placed
first_shown plan c own fresh b (does.CopyProgram page) may nil = absurd
    (none-some (does.CopyRead page) (sym (ap (last_or None) nil) ∙ may.follows))
first_shown plan c own fresh b (does.Erase x) may nil = ap Some may.same

-- the act shows the collection's block
pub act_shows : (start : Start) (past : Log) (j : Job) (b : ℕ) (act : Act) → IsBegun start past j b
    → MayDo start.plan (cells start past) (acts j.number past) (λ p. changed_since j.number p past) b act
    → shown_by start past (victim_of start j.number past) (Some act) ≡ Some b
act_shows start past j b act k may = by_case k.shown
  where
    by_case : (victim_of start j.number past ≡ Some b) ⊎ (acts j.number past ≡ [])
        → shown_by start past (victim_of start j.number past) (Some act) ≡ Some b
    by_case (inl e) = ap (λ (o : Option ℕ). shown_by start past o (Some act)) e
    by_case (inr nil) = ap (λ (o : Option ℕ). shown_by start past o (Some act)) (no_victim start j.number past nil)
        ∙ first_shown start.plan (cells start past) (acts j.number past) (λ p. changed_since j.number p past) b act may nil

pub all_is : (plan : DiePlan) (j : Job) (own : List Act) → j.collects ≡ true → are_all plan j own
    ≡ (count_by is_erase own == plan.shape.erase_slots)
all_is plan j own e = rw e refl

pub erases_push : (own : List Act) (a : ℕ) → count_by is_erase (own ++ does.Erase a ∷ []) ≡ count_by is_erase own + 1
erases_push own a = sum_by_push (λ x. cond (is_erase x) 1 0) own (does.Erase a)

-- a collection acts as one may
pub collection_actor : (start : Start) (e : Entry) (past : Log) (j : Job) (act : Act) (b : ℕ) → ran_by e.reply ≡ Some (j.number, act)
    → j.collects ≡ true
    → AreSoundCells start.plan (cells start past) → IsBegun start past j b
    → MayDo start.plan (cells start past) (acts j.number past) (λ p. changed_since j.number p past) b act
    → IsCellStep start.plan act (cells start past) (cells start (e ∷ past))
    → IsActor start e past j act
collection_actor start e past j act b ran collects sound k may step = record {
  mine = λ r. (
    b,
    shows,
    subst (λ (xs : List Act). IsCollecting start.plan (cells start (e ∷ past)) xs (λ p. changed_since j.number p (e ∷ past)) b) (sym grown)
        (own_step start.plan act (cells start past) (cells start (e ∷ past)) (acts j.number past) (λ p. changed_since j.number p past)
        (λ p. changed_since j.number p (e ∷ past)) b k.collecting may step (undone r) never),
    k.apart,
  );
  others = λ i a r other is. other (k.apart i (subst (λ (x : ℕ). RunsOnBlock start past i x) (erased a is).0 r));
  erasing = λ a is h. (
    running a (subst (λ (x : Act). IsCellStep start.plan x (cells start past) (cells start (e ∷ past))) is step) is h,
    shows
        ∙ ap Some (sym (erased a is).0),
  );
  erases = λ a r not_erased h.
      let at : a ≡ b = k.same a r in
      may_placed start.plan (cells start past) (acts j.number past) (λ p. changed_since j.number p past) b act may
      (λ x. not_erased (x ∙ ap does.Erase (sym at))) (subst (IsUnplaced (cells start past)) at (sound.erasing a h).2);
}
  where
    acted_own : act_of j.number (ran_by e.reply) ≡ Some act
    acted_own = ap (act_of j.number) ran ∙ act_own j.number act

    grown : acts j.number (e ∷ past) ≡ acts j.number past ++ act ∷ []
    grown = acts_grow j.number e past act acted_own

    shows : victim_of start j.number (e ∷ past) ≡ Some b
    shows = ap (shown_by start past (victim_of start j.number past)) acted_own ∙ act_shows start past j b act k may

    erased : (a : ℕ) → act ≡ does.Erase a → (a ≡ b) × IsClosed start.plan (cells start past) a × IsUnplaced (cells start past) a
    erased a is = may_erase start.plan (cells start past) (acts j.number past) (λ p. changed_since j.number p past) b act may a is

    own_written : (p : ℕ) (before : Bool) → changed_by (Some (j.number, act)) j.number p before ≡ false
    own_written p before = rw (eq-eqb j.number j.number refl) refl

    never : (p : ℕ) → changed_since j.number p (e ∷ past) ≡ false
    never p = ap (λ (c : Carried). changed_by c j.number p (changed_since j.number p past)) ran
        ∙ own_written p (changed_since j.number p past)

    undone : is_running start.plan (e ∷ past) j ≡ true → count_by is_erase (acts j.number past ++ act ∷ []) ≢ start.plan.shape.erase_slots
    undone r is =
        let h = (runs_says start.plan j (acts j.number (e ∷ past)) r).undone in
        let same : are_all start.plan j (acts j.number (e ∷ past))
        ≡ (count_by is_erase (acts j.number past ++ act ∷ []) == start.plan.shape.erase_slots) = ap (are_all start.plan j) grown
        ∙ all_is start.plan j (acts j.number past ++ act ∷ []) collects in
        eqb-false (count_by is_erase (acts j.number past ++ act ∷ [])) start.plan.shape.erase_slots (sym same ∙ h) is

    running : (a : ℕ) → IsEraseSlot start.plan a (cells start past) (cells start (e ∷ past)) → act ≡ does.Erase a → 0
        < (block_at (cells start (e ∷ past)) a).erasing → is_running start.plan (e ∷ past) j ≡ true
    running a w is h = by_case w.slot
      where
        at : a ≡ b
        at = (erased a is).0

        count : count_by is_erase (acts j.number past ++ act ∷ []) ≡ (block_at (cells start past) a).erasing + 1
        count = ap (λ (x : Act). count_by is_erase (acts j.number past ++ x ∷ [])) is
            ∙ (erases_push (acts j.number past) a ∙ ap (λ (n : ℕ). n + 1) (sym k.collecting.erases
            ∙ ap (λ (x : ℕ). (block_at (cells start past) x).erasing) (sym at)))

        by_case : (((block_at (cells start past) a).erasing + 1 ≡ start.plan.shape.erase_slots) × ((block_at (cells start (e ∷ past)) a).filled ≡ 0)
            × ((block_at (cells start (e ∷ past)) a).erasing ≡ 0))
            ⊎ (((block_at (cells start past) a).erasing + 1 ≢ start.plan.shape.erase_slots)
            × ((block_at (cells start (e ∷ past)) a).filled ≡ (block_at (cells start past) a).filled)
            × ((block_at (cells start (e ∷ past)) a).erasing ≡ (block_at (cells start past) a).erasing + 1))
            → is_running start.plan (e ∷ past) j ≡ true
        by_case (inl x) = absurd (omega (arith, x.2))
        by_case (inr x) =
            ap (runs_with start.plan j) grown ∙ runs_from start.plan j (acts j.number past ++ act ∷ []) (record {
              collects = collects;
              begun = omega (arith, length_push (acts j.number past) act);
              undone = all_is start.plan j (acts j.number past ++ act ∷ []) collects
                  ∙ ne_eqb (count_by is_erase (acts j.number past ++ act ∷ [])) start.plan.shape.erase_slots (λ y. x.0 (sym count ∙ y));
            })

-- Jobs

-- a read, a write or a trim
abbrev pub IsJobAct : Act → Type 0
IsJobAct (does.Read page bytes) = Unit {0}
IsJobAct (does.Write page bytes) = Unit {0}
IsJobAct (does.Trim page) = Unit {0}
IsJobAct _ = ⊥

pub job_erases_not : (act : Act) → IsJobAct act → (a : ℕ) → act ≡ does.Erase a → ⊥
job_erases_not (does.Read page bytes) h a e = absurd cc
job_erases_not (does.Write page bytes) h a e = absurd cc
job_erases_not (does.Trim page) h a e = absurd cc
job_erases_not (does.CopyRead page) h a e = absurd h
job_erases_not (does.CopyProgram page) h a e = absurd h
job_erases_not (does.Erase x) h a e = absurd h

pub op_act : (start : Start) (past : Log) (o : Option Op) (act : Act) → act_of_op start past o ≡ Some act → IsJobAct act
op_act start past None act e = absurd cc
op_act start past (Some (asks.Read page)) act e = subst IsJobAct (same_Some _ act e) tt
op_act start past (Some (asks.Write page bytes)) act e = subst IsJobAct (same_Some _ act e) tt
op_act start past (Some (asks.Trim page)) act e = subst IsJobAct (same_Some _ act e) tt

-- a job erases nothing
pub job_actor : (start : Start) (e : Entry) (past : Log) (j : Job) (act : Act) → j.collects ≡ false → IsJobAct act
    → IsActor start e past j act
job_actor start e past j act is_job h = record {
  mine = λ r. absurd (true≢false (sym (runs_says start.plan j (acts j.number (e ∷ past)) r).collects ∙ is_job));
  others = λ i a r other is. job_erases_not act h a is;
  erasing = λ a is x. absurd (job_erases_not act h a is);
  erases = λ a r not_erased x. absurd (true≢false (sym (runs_says start.plan j (acts j.number past) r.running).collects ∙ is_job));
}

-- Steps of logs

pub room_of : (start : Start) (past : Log) (act : Act) → FindsFree start past act → HasFreePage start.plan (cells start past) act
room_of start past (does.Read page bytes) h = tt
room_of start past (does.Write page bytes) h = h
room_of start past (does.Trim page) h = tt
room_of start past (does.CopyRead page) h = tt
room_of start past (does.CopyProgram page) h = h
room_of start past (does.Erase b) h = tt

pub block_some : (plan : DiePlan) (c : Cells) (buffer o : Option ℕ) (act : Act) → collect_act plan c buffer o ≡ Some act → (b : ℕ)
    × (o ≡ Some b)
block_some plan c buffer None act e = absurd cc
block_some plan c buffer (Some b) act e = (b, refl)

-- a collection that is the head has a block, and does what it may
pub collection_may : (start : Start) (past : Log) (j : Job) (act : Act) → 0 < start.plan.shape.erase_slots → KeepsCollections start past
    → Contains (jobs past) j → j.collects ≡ true → is_done start.plan past j ≡ false → act_for start past j ≡ Some act
    → (b : ℕ) × IsBegun start past j b × MayDo start.plan (cells start past) (acts j.number past) (λ p. changed_since j.number p past) b act
collection_may start past j act more k stands collects undone e =
    let buffer : Option ℕ = buffer_after (last_or None (acts j.number past)) in
    let is : collect_act start.plan (cells start past) buffer (block_for start past j) ≡ Some act =
    ap (λ (t : Bool). cond t (collect_act start.plan (cells start past) buffer (block_for start past j))
    (act_of_op start past (slice_get j.ops (work j.number past)))) (sym collects) ∙ e in
    let b = block_some start.plan (cells start past) buffer (block_for start past j) act is in
    let has = begun start past j b.0 k stands collects undone b.1 in
    let at : collect_act start.plan (cells start past) buffer (Some b.0) ≡ Some act = ap (collect_act start.plan (cells start past) buffer) (sym b.1)
    ∙ is in (
      b.0,
      has,
      next_may start.plan (cells start past) (acts j.number past) (λ p. changed_since j.number p past) b.0 act more k.sound has.collecting
          at,
    )

pub job_act : (start : Start) (past : Log) (j : Job) (act : Act) → j.collects ≡ false → act_for start past j ≡ Some act
    → act_of_op start past (slice_get j.ops (work j.number past)) ≡ Some act
job_act start past j act is_job e =
    ap (λ (t : Bool). cond t (collect_act start.plan (cells start past) (buffer_after (last_or None (acts j.number past))) (block_for start past j))
    (act_of_op start past (slice_get j.ops (work j.number past)))) (sym is_job) ∙ e

-- the head's act keeps what stands
pub head_acted : (start : Start) (e : Entry) (past : Log) (j : Job) (act : Act) → 0 < start.plan.shape.pages → 0 < start.plan.shape.erase_slots
    → ran_by e.reply ≡ Some (j.number, act) → jobs (e ∷ past) ≡ jobs past
    → AreNumbered 0 (jobs past) → Contains (jobs past) j → is_done start.plan past j ≡ false → act_for start past j ≡ Some act
    → FindsFree start past act → KeepsCollections start past → KeepsCollections start (e ∷ past)
head_acted start e past j act pages more ran same numbered stands undone is finds k = by_kind j.collects refl
  where
    number : ℕ
    number = j.number

    after : cells start (e ∷ past) ≡ cells_after start.plan (Some (number, act)) (cells start past)
    after = ap (λ (c : Carried). cells_after start.plan c (cells start past)) ran

    step : ((b : ℕ) → act ≡ does.Erase b → IsClosed start.plan (cells start past) b) → IsCellStep start.plan act (cells start past) (cells start (e ∷ past))
    step closed = subst (IsCellStep start.plan act (cells start past)) (sym after)
        (step_is start.plan number act (cells start past) pages k.sound (room_of start past act finds) closed)

    by_kind : (t : Bool) → j.collects ≡ t → KeepsCollections start (e ∷ past)
    by_kind false kind =
        let h : IsJobAct act = op_act start past (slice_get j.ops (work j.number past)) act (job_act start past j act kind is) in
        let w : IsCellStep start.plan act (cells start past) (cells start (e ∷ past)) = step (λ b x. absurd (job_erases_not act h b x)) in
        acted start e past j act ran same numbered stands k
        (step_sound start.plan act (cells start past) (cells start (e ∷ past)) more k.sound (λ b x. absurd (job_erases_not act h b x)) w) w
        (job_actor start e past j act kind h)
    by_kind true kind =
        let m = collection_may start past j act more k stands kind undone is in
        let erased : (a : ℕ) → act ≡ does.Erase a → (a ≡ m.0) × IsClosed start.plan (cells start past) a × IsUnplaced (cells start past) a =
        λ a x. may_erase start.plan (cells start past) (acts j.number past) (λ p. changed_since j.number p past) m.0 act m.2 a x in
        let w : IsCellStep start.plan act (cells start past) (cells start (e ∷ past)) = step (λ a x. (erased a x).1) in
        acted start e past j act ran same numbered stands k
        (step_sound start.plan act (cells start past) (cells start (e ∷ past)) more k.sound (λ a x. ((erased a x).1, (erased a x).2)) w) w
        (collection_actor start e past j act m.0 ran kind k.sound m.1 m.2 w)
