-- What an exact log carries is legal.
use Rattle.std.proofs.Common.{◌≡◌, ◌≢◌, ℕ, zero, suc, ◌<◌, ◌==◌, not, Bool, true, false, List, [], ◌∷◌, ◌++◌, Option, Some, None, refl, ap}
use Rattle.std.proofs.Common.{sym, ◌∙◌, subst, arith, length, slice_get}
use Rattle.std.specs.Prelude.{Contains, MatchBool, MatchOption}
use Rattle.std.specs.List.{AllByRecursion}
use Rattle.std.proofs.lemmas.Bool.{true≢false, and_parts, not-true, leb-true, or_from, eq-eqb, ne_eqb}
use Rattle.std.proofs.lemmas.Option.{same_Some}
use Rattle.std.proofs.lemmas.List.Folds.{list_any-append}
use Rattle.slot_types.specs.declared.plans.DiePlan.{DiePlan}
use Rattle.slot_types.specs.declared.acts.Act.{Act}
use Rattle.slot_types.specs.declared.acts.Act.TheVariants as does
use Rattle.slot_types.specs.declared.events.Op.{Op}
use Rattle.slot_types.specs.declared.events.Op.TheVariants as asks
use Rattle.slot_types.specs.declared.replies.Waived.{Waived}
use Rattle.die_log.specs.Model.Log.{Log, Job, jobs, now, acts, work, waived_collections, is_waived}
use Rattle.die_log.specs.Model.Flash.{cells}
use Rattle.die_log.specs.Model.Work.{is_done, least}
use Rattle.plan_rules.specs.Accounts.{Accounts, given_of}
use Rattle.plan_rules.specs.Accounts as moves
use Rattle.die_log.specs.Model.Answers.{Choice, is_running, is_waivable, without, head_or_waiver, choice_by_head, choice_among, act_for, act_of_op}
use Rattle.die_log.specs.Results.Legal.{Does, IsNextOperation, IsCollectAct, IsNextCollectAct, MayErase, changed_since, is_among, SaysContent}
use Rattle.die_log.specs.Results.Legal.{FindsFree, IsLegalAct}
use Rattle.die_log.specs.Invariants.SoundCells.{MayDo, MayEraseSlot}
use Rattle.die_log.specs.Invariants.RunningCollections.{RunsOnBlock, KeepsJobsAndCells}
use Rattle.die_log.proofs.Choices.{OfSome, names_waiting}
use Rattle.die_log.proofs.LogInvariants.OneMoreEntry.{stands_at, kept_both, IsWaiting}
use Rattle.die_log.proofs.LogInvariants.HeadActs.{IsBegun, runs_from, act_shows, job_act, collection_may}
use Rattle.die_log.proofs.LogInvariants.EveryLog.{waiting_undone}
use Rattle.die_log.specs.Model.Start.{Start}

-- Operations

does_op : (start : Start) (past : Log) (o : Option Op) (act : Act) → act_of_op start past o ≡ Some act → MatchOption o ⊥ (λ op. Does op act)
    × SaysContent start past act
does_op start past None act e = absurd cc
does_op start past (Some (asks.Read page)) act e = subst (λ (x : Act). Does (asks.Read page) x × SaysContent start past x)
    (same_Some _ act e) (refl, refl)
does_op start past (Some (asks.Write page bytes)) act e = subst (λ (x : Act). Does (asks.Write page bytes) x × SaysContent start past x)
    (same_Some _ act e) ((refl, refl), tt)
does_op start past (Some (asks.Trim page)) act e = subst (λ (x : Act). Does (asks.Trim page) x × SaysContent start past x)
    (same_Some _ act e) (refl, tt)

-- Collections

some_in : (xs : List Act) (x : Act) → Contains xs x → 0 < length xs
some_in xs x h = omega (arith, h.1)

-- who erased a slot of the block and isn't done runs on it
erased_runs : (start : Start) (past : Log) (i : Job) (b : ℕ) → KeepsJobsAndCells start past → Contains (jobs past) i
    → Contains (acts i.number past) (does.Erase b) → is_done start.plan past i ≡ false → RunsOnBlock start past i b
erased_runs start past i b s stands h undone = by_kind i.collects refl
  where
    by_kind : (t : Bool) → i.collects ≡ t → RunsOnBlock start past i b
    by_kind false kind = absurd ((s.of_jobs i stands kind).unerased b h)
    by_kind true kind =
        let running : is_running start.plan past i ≡ true = runs_from start.plan i (acts i.number past)
        (record { collects = kind; begun = some_in (acts i.number past) (does.Erase b) h; undone = undone }) in
        let r = s.collects.shown i stands running in
        subst (RunsOnBlock start past i) (sym ((s.collects.collecting i r.0 r.1).of_own b h)) r.1

erase_may : (start : Start) (past : Log) (j : Job) (b block : ℕ) → KeepsJobsAndCells start past → IsBegun start past j b
    → MayEraseSlot start.plan (cells start past) (acts j.number past) b block → MayErase start past j.number b block
erase_may start past j b block s k may = record {
  own = may.same;
  left = may.left;
  closed = λ z. may.closed;
  unplaced = λ z. may.valid_none;
  alone = λ i stands other h. by_done i stands other h (is_done start.plan past i) refl;
}
  where
    by_done : (i : Job) → Contains (jobs past) i → i.number ≢ j.number → Contains (acts i.number past) (does.Erase b) → (t : Bool)
        → is_done start.plan past i ≡ t → t ≡ true
    by_done i stands other h true e = refl
    by_done i stands other h false e = absurd (other (k.apart i (erased_runs start past i b s stands h e)))

pub may_legal : (start : Start) (past : Log) (j : Job) (b : ℕ) (act : Act) → KeepsJobsAndCells start past → IsBegun start past j b
    → MayDo start.plan (cells start past) (acts j.number past) (λ p. changed_since j.number p past) b act
    → IsCollectAct start past j.number b act × SaysContent start past act
may_legal start past j b (does.Read page bytes) s k may = absurd may
may_legal start past j b (does.Write page bytes) s k may = absurd may
may_legal start past j b (does.Trim page) s k may = absurd may
may_legal start past j b (does.CopyRead page) s k may = (
  record
      { placed = may.placed; once = λ h. may.none_left page h may.placed; unerased = may.unerased },
  tt,
)
may_legal start past j b (does.CopyProgram page) s k may = (record { follows = may.follows; unchanged = may.unchanged }, tt)
may_legal start past j b (does.Erase block) s k may = (erase_may start past j b block s k may, tt)

-- Waived in the same slot

abbrev NotWaived : Choice → Job → Type 0
NotWaived c j = is_among j.number c.waived ≡ false

all_jobs : (xs : List Job) → AllByRecursion (λ (x : Job). Unit {0}) xs
all_jobs [] = tt
all_jobs (x ∷ xs) = (tt, all_jobs xs)

other_number : (i j : Job) → not (i.number == j.number) ≡ true → (j.number == i.number) ≡ false
other_number i j h = ne_eqb j.number i.number (λ e. true≢false (sym h ∙ ap not (eqb_at e)))
  where
    eqb_at : j.number ≡ i.number → (i.number == j.number) ≡ true
    eqb_at e = eq-eqb i.number j.number (sym e)

head_apart : (w : Waived) (ws : List Waived) (o : Option Job) → OfSome (λ h. is_among h.number ws ≡ false) o
    → OfSome (λ h. (w.number == h.number) ≡ false) o → OfSome (λ h. is_among h.number (w ∷ ws) ≡ false) o
head_apart w ws None p q = tt
head_apart w ws (Some h) p q = or_from (w.number == h.number) (is_among h.number ws) q p

apart_of : (j : Job) (o : Option Job) → OfSome (λ i. Unit {0} × (not (i.number == j.number) ≡ true)) o
    → OfSome (λ i. (j.number == i.number) ≡ false) o
apart_of j None h = tt
apart_of j (Some i) h = other_number i j h.1

unwaived_weighed : (plan : DiePlan) (past : Log) (rounds : ℕ) (a : Accounts) (waiting : List Job) (j : Job) (b : Bool)
    → ((a' : Accounts) (rest : List Job) → OfSome (NotWaived (choice_among plan past rounds a' rest))
    (choice_among plan past rounds a' rest).head)
    → OfSome (NotWaived (head_or_waiver a waiting (choice_among plan past rounds) j b)) (head_or_waiver a waiting (choice_among plan past rounds) j b).head
unwaived_weighed plan past rounds a waiting j false ih = refl
unwaived_weighed plan past rounds a waiting j true ih =
    let a2 : Accounts = moves.accounts_after_waiver a j.task in
    let rest : Choice = choice_among plan past rounds a2 (without j waiting) in
    let names = names_waiting (λ (i : Job). Unit {0} × (not (i.number == j.number) ≡ true)) plan past rounds a2 (without j waiting)
    (kept_both (λ (i : Job). Unit {0}) (λ i. not (i.number == j.number)) waiting (all_jobs waiting)) in
    head_apart (record { number = j.number; given = given_of a j.task }) rest.waived rest.head (ih a2 (without j waiting))
    (apart_of j rest.head names.head)

unwaived_chosen : (plan : DiePlan) (past : Log) (rounds : ℕ) (a : Accounts) (waiting : List Job) (o : Option Job)
    → ((a' : Accounts) (rest : List Job) → OfSome (NotWaived (choice_among plan past rounds a' rest))
    (choice_among plan past rounds a' rest).head)
    → OfSome (NotWaived (choice_by_head plan past a waiting (choice_among plan past rounds) o))
    (choice_by_head plan past a waiting (choice_among plan past rounds) o).head
unwaived_chosen plan past rounds a waiting None ih = tt
unwaived_chosen plan past rounds a waiting (Some j) ih = unwaived_weighed plan past rounds a waiting j (is_waivable plan past a j) ih

-- a head isn't waived in its slot
pub head_unwaived : (plan : DiePlan) (past : Log) (rounds : ℕ) (a : Accounts) (waiting : List Job)
    → OfSome (NotWaived (choice_among plan past rounds a waiting)) (choice_among plan past rounds a waiting).head
head_unwaived plan past zero a waiting = tt
head_unwaived plan past (suc rounds) a waiting = unwaived_chosen plan past rounds a waiting (least waiting) (head_unwaived plan past rounds)

-- The head's act

-- the head's act is legal, if it finds the free page that it needs
pub head_legal : (start : Start) (past : Log) (ws : List Waived) (j : Job) (act : Act) → 0 < start.plan.shape.erase_slots → KeepsJobsAndCells start past
    → IsWaiting start.plan past j → is_among j.number ws ≡ false → act_for start past j ≡ Some act → FindsFree start past act
    → IsLegalAct start past (waived_collections past ++ ws) j j.number act
head_legal start past ws j act more s w unwaived e finds = record {
  known = stands_at (jobs past) j s.numbered w.0;
  released = leb-true j.release (now past) (and_parts _ _ (and_parts _ _ w.1).0).0;
  undone = undone;
  unwaived = list_any-append (λ x. x.number == j.number) (waived_collections past) ws
      ∙ or_from (is_waived past j.number) (is_among j.number ws) (not-true (is_waived past j.number) (and_parts _ _ w.1).1) unwaived;
  next = (by_kind j.collects refl).0;
  says = (by_kind j.collects refl).1;
  finds = finds;
}
  where
    undone : is_done start.plan past j ≡ false
    undone = waiting_undone start.plan past j w.1

    by_kind : (t : Bool) → j.collects ≡ t → MatchBool t (IsNextCollectAct start past j.number act) (IsNextOperation past j act)
        × SaysContent start past act
    by_kind false kind = does_op start past (slice_get j.ops (work j.number past)) act (job_act start past j act kind e)
    by_kind true kind =
        let m = collection_may start past j act more s.collects w.0 kind undone e in
        let l = may_legal start past j m.0 act s m.1 m.2 in
        ((m.0, act_shows start past j m.0 act m.1 m.2, l.0), l.1)
