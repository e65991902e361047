-- What a slot changes of what tasks are held and lent.
use Rattle.std.proofs.Common.{◌≡◌, ℕ, zero, suc, ◌+◌, ◌≤◌, ◌==◌, ◌&&◌, ◌||◌, not, Bool, true, false, List, [], ◌∷◌, ◌++◌, length, drop}
use Rattle.std.proofs.Common.{sum_by, count_by, Some, refl, ap, sym, ◌∙◌, arith, slice_get, length-append, inl, inr}
use Rattle.std.proofs.lemmas.Bool.{cases_eq}
use Rattle.std.proofs.lemmas.Option.{same_Some, slice_get_within, get_or_from_slice_get}
use Rattle.std.proofs.lemmas.List.Sums.{sum_by-drop_more}
use Rattle.slot_types.specs.declared.plans.DiePlan.{DiePlan}
use Rattle.slot_types.specs.declared.acts.Act.{Act}
use Rattle.slot_types.specs.declared.events.Op.{Op}
use Rattle.die_log.specs.Model.Log.{Job}
use Rattle.slot_types.specs.Operations.{is_write, writes}
use Rattle.die_log.specs.Model.Work.{are_all, is_copy_program}
use Rattle.die_log.specs.Invariants.TrueAccounts.{at_task, left_of, held_of, is_pending, lent_of, lent_to, pending_of}
use Rattle.die_log.proofs.Tokens.Sums.{one_if, some_if, sum_at, le_at, held_at, lent_same, lent_at}

-- Of all that waivers touch, no act was carried

-- those of `am` are waived, and none of them has an act
pub record Waives (own : ℕ → List Act) (gone gone' am : ℕ → Bool) : Type 0 where
  pub gone_is : (n : ℕ) → gone' n ≡ (gone n || am n)
  pub idle : (n : ℕ) → am n ≡ true → own n ≡ []

-- one act more of this number
pub record Acts (own own' : ℕ → List Act) (number : ℕ) (act : Act) : Type 0 where
  pub other : (n : ℕ) → (n ≡ number → ⊥) → own n ≡ own' n
  pub more : own' number ≡ own number ++ act ∷ []

abbrev IsNumbered : List Job → Type 0
IsNumbered js = (k : ℕ) (j : Job) → slice_get js k ≡ Some j → j.number ≡ k

apart_by : (js : List Job) (m k : ℕ) (i : Job) → IsNumbered js → slice_get js m ≡ Some i → (m ≡ k → ⊥) → i.number ≡ k → ⊥
apart_by js m k i numbered is apart e = apart (sym (numbered m i is) ∙ e)

-- Held

left_next : (ops : List Op) (k : ℕ) (op : Op) → slice_get ops k ≡ Some op → writes (drop k ops)
    ≡ writes (drop (k + 1) ops) + one_if (is_write op)
left_next ops k op e =
    omega (
      arith,
      sum_by-drop_more (λ o. one_if (is_write o)) ops k op (slice_get_within ops k op e),
      ap (λ o. one_if (is_write o))
          (get_or_from_slice_get ops k op op e),
    )

left_after : (own own' : ℕ → List Act) (j : Job) (act : Act) (op : Op) → Acts own own' j.number act
    → slice_get j.ops (length (own j.number)) ≡ Some op
    → left_of own j ≡ left_of own' j + one_if (is_write op)
left_after own own' j act op a e =
    let longer : length (own' j.number) ≡ length (own j.number) + 1 = ap (λ (l : List Act). length l) a.more
    ∙ length-append (own j.number) (act ∷ []) in
    let rest : left_of own' j ≡ writes (drop (length (own j.number) + 1) j.ops) = ap (λ n. writes (drop n j.ops)) longer in
    omega (arith, left_next j.ops (length (own j.number)) op e, rest)

drop_none : (n : ℕ) → writes (drop n []) ≡ 0
drop_none zero = refl
drop_none (suc n) = refl

left_none : (own : ℕ → List Act) (j : Job) → j.ops ≡ [] → left_of own j ≡ 0
left_none own j e = ap (λ (ops : List Op). writes (drop (length (own j.number)) ops)) e ∙ drop_none (length (own j.number))

-- `d` writes are carried
pub held_after : (own own' : ℕ → List Act) (js : List Job) (j : Job) (act : Act) (d : ℕ) → IsNumbered js → slice_get js j.number ≡ Some j
    → Acts own own' j.number act → left_of own j ≡ left_of own' j + d
    → (t : ℕ) → held_of own js t ≡ held_of own' js t + at_task j.task d t
held_after own own' js j act d numbered known a more =
    held_at own own' js d j.number j known more (λ m i is apart. ap (λ (l : List Act). writes (drop (length l) i.ops))
    (a.other i.number (apart_by js m j.number i numbered is apart)))

pub owed_after : (own own' : ℕ → List Act) (js : List Job) (j : Job) (act : Act) (d : ℕ) → IsNumbered js → slice_get js j.number ≡ Some j
    → Acts own own' j.number act → left_of own j ≡ left_of own' j + d
    → sum_by (left_of own) js ≡ sum_by (left_of own') js + d
owed_after own own' js j act d numbered known a more =
    sum_at (left_of own) (left_of own') d js j.number j known more
    (λ m i is apart. ap (λ (l : List Act). writes (drop (length l) i.ops))
    (a.other i.number (apart_by js m j.number i numbered is apart)))

pub left_job : (own own' : ℕ → List Act) (j : Job) (act : Act) (op : Op) → Acts own own' j.number act
    → slice_get j.ops (length (own j.number)) ≡ Some op → left_of own j ≡ left_of own' j + one_if (is_write op)
left_job own own' j act op a e = left_after own own' j act op a e

pub left_collection : (own own' : ℕ → List Act) (j : Job) → j.ops ≡ [] → left_of own j ≡ left_of own' j + 0
left_collection own own' j e = omega (arith, left_none own j e, left_none own' j e)

-- Lent

abbrev pending_in : DiePlan → Job → List Act → Bool → Bool
pending_in plan i own gone = i.collects && not (are_all plan i own) && not gone

abbrev lent_in : DiePlan → Job → List Act → Bool → ℕ
lent_in plan i own gone = some_if (pending_in plan i own gone) (count_by is_copy_program own)

no_copies : (b : Bool) → some_if b 0 ≡ 0
no_copies true = refl
no_copies false = refl

lent_waived : (plan : DiePlan) (i : Job) (own : List Act) (gone am : Bool) → (am ≡ true → own ≡ []) → lent_in plan i own gone
    ≡ lent_in plan i own (gone || am)
lent_waived plan i own gone true idle = rw (idle refl) (no_copies (pending_in plan i [] gone)
    ∙ sym (no_copies (pending_in plan i [] (gone || true))))
lent_waived plan i own true false idle = refl
lent_waived plan i own false false idle = refl

-- one without a new act is lent the same
pub lent_other : (plan : DiePlan) (own own' : ℕ → List Act) (gone gone' am : ℕ → Bool) (i : Job) → Waives own gone gone' am → own i.number
    ≡ own' i.number → lent_of plan own gone i ≡ lent_of plan own' gone' i
lent_other plan own own' gone gone' am i w e =
    lent_waived plan i (own i.number) (gone i.number) (am i.number) (w.idle i.number)
    ∙ (ap (λ (b : Bool). lent_in plan i (own i.number) b) (sym (w.gone_is i.number))
    ∙ ap (λ (l : List Act). lent_in plan i l (gone' i.number)) e)

pub lent_idle : (plan : DiePlan) (own own' : ℕ → List Act) (gone gone' am : ℕ → Bool) (js : List Job) → Waives own gone gone' am
    → ((n : ℕ) → own n ≡ own' n)
    → (t : ℕ) → lent_to plan own gone js t ≡ lent_to plan own' gone' js t
lent_idle plan own own' gone gone' am js w same = lent_same plan own own' gone gone' js
    (λ k i e. lent_other plan own own' gone gone' am i w (same i.number))

-- one has copied d more
pub lent_more : (plan : DiePlan) (own own' : ℕ → List Act) (gone gone' am : ℕ → Bool) (js : List Job) (j : Job) (act : Act) (d : ℕ)
    → IsNumbered js → slice_get js j.number ≡ Some j → Waives own gone gone' am → Acts own own' j.number act
    → lent_of plan own' gone' j ≡ lent_of plan own gone j + d → (t : ℕ) → lent_to plan own' gone' js t
    ≡ lent_to plan own gone js t + at_task j.task d t
lent_more plan own own' gone gone' am js j act d numbered known w a more =
    lent_at plan own' own gone' gone js d j.number j known more
    (λ m i is apart. sym (lent_other plan own own' gone gone' am i w (a.other i.number (apart_by js m j.number i numbered is apart))))

-- one that had copied d is closed
pub lent_less : (plan : DiePlan) (own own' : ℕ → List Act) (gone gone' am : ℕ → Bool) (js : List Job) (j : Job) (act : Act) (d : ℕ)
    → IsNumbered js → slice_get js j.number ≡ Some j → Waives own gone gone' am → Acts own own' j.number act
    → lent_of plan own gone j ≡ lent_of plan own' gone' j + d → (t : ℕ) → lent_to plan own gone js t
    ≡ lent_to plan own' gone' js t + at_task j.task d t
lent_less plan own own' gone gone' am js j act d numbered known w a more =
    lent_at plan own own' gone gone' js d j.number j known more
    (λ m i is apart. lent_other plan own own' gone gone' am i w (a.other i.number (apart_by js m j.number i numbered is apart)))

-- Pending

still_pending : (c d gone am : Bool) → (c && d && not (gone || am)) ≡ true → (c && d && not gone) ≡ true
still_pending true true true am h = absurd cc
still_pending true true false am h = refl
still_pending true false gone am h = absurd cc
still_pending false d gone am h = absurd cc

pub pending_other : (plan : DiePlan) (own own' : ℕ → List Act) (gone gone' am : ℕ → Bool) (i : Job) → Waives own gone gone' am
    → own i.number ≡ own' i.number → is_pending plan own' gone' i ≡ true → is_pending plan own gone i ≡ true
pending_other plan own own' gone gone' am i w e is =
    still_pending i.collects (not (are_all plan i (own i.number))) (gone i.number) (am i.number) (
    ap (λ (b : Bool). pending_in plan i (own i.number) b) (sym (w.gone_is i.number))
    ∙ (ap (λ (l : List Act). pending_in plan i l (gone' i.number)) e ∙ is)
    )

pub one_less : (e b c : Bool) → (c ≡ true → b ≡ true) → one_if (e && c) ≤ one_if (e && b)
one_less false b c h = omega arith
one_less true b true h = rw (h refl) (omega arith)
one_less true b false h = omega arith

pub pending_less : (plan : DiePlan) (own own' : ℕ → List Act) (gone gone' : ℕ → Bool) (js : List Job)
    → ((k : ℕ) (i : Job) → slice_get js k ≡ Some i → is_pending plan own' gone' i ≡ true → is_pending plan own gone i ≡ true)
    → (t : ℕ) → pending_of plan own' gone' js t ≤ pending_of plan own gone js t
pending_less plan own own' gone gone' js h t =
    le_at (λ i. one_if ((i.task == t) && is_pending plan own' gone' i)) (λ i. one_if ((i.task == t) && is_pending plan own gone i)) js
    (λ k i is. one_less (i.task == t) (is_pending plan own gone i) (is_pending plan own' gone' i) (h k i is))

-- no collection opens in a slot
pub pending_idle : (plan : DiePlan) (own own' : ℕ → List Act) (gone gone' am : ℕ → Bool) (js : List Job) → Waives own gone gone' am
    → ((n : ℕ) → own n ≡ own' n) → (t : ℕ) → pending_of plan own' gone' js t ≤ pending_of plan own gone js t
pending_idle plan own own' gone gone' am js w same = pending_less plan own own' gone gone' js
    (λ k i e. pending_other plan own own' gone gone' am i w (same i.number))

collects_if : (c d g : Bool) → (c && d && g) ≡ true → c ≡ true
collects_if true d g h = refl
collects_if false d g h = absurd cc

pub pending_after : (plan : DiePlan) (own own' : ℕ → List Act) (gone gone' am : ℕ → Bool) (js : List Job) (j : Job) (act : Act)
    → IsNumbered js → slice_get js j.number ≡ Some j → Waives own gone gone' am → Acts own own' j.number act
    → (j.collects ≡ true → is_pending plan own gone j ≡ true) → (t : ℕ) → pending_of plan own' gone' js t ≤ pending_of plan own gone js t
pending_after plan own own' gone gone' am js j act numbered known w a was = pending_less plan own own' gone gone' js one
  where
    one : (k : ℕ) (i : Job) → slice_get js k ≡ Some i → is_pending plan own' gone' i ≡ true → is_pending plan own gone i ≡ true
    one k i is h = elim (cases_eq i.number j.number) [
      | inl e ↦
          let here : slice_get js i.number ≡ Some j = rw e known in
          let there : slice_get js i.number ≡ Some i = ap (λ n. slice_get js n) (numbered k i is) ∙ is in
          let same : j ≡ i = same_Some j i (sym here ∙ there) in
          ap (is_pending plan own gone) (sym same) ∙ was (ap (λ (x : Job). x.collects) same
          ∙ collects_if i.collects (not (are_all plan i (own' i.number))) (not (gone' i.number)) h)
      | inr apart ↦ pending_other plan own own' gone gone' am i w (a.other i.number apart) h
    ]
