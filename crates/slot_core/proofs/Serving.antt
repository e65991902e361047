-- What the head of a slot finds: an operation left, a page of the die, a token for a write, room for what a read gives.
use Rattle.std.proofs.Common.{◌≡◌, ℕ, zero, suc, ◌+◌, ◌<◌, ◌≤◌, ◌==◌, Bool, true, false, cond, List, [], ◌∷◌, ◌++◌, Option, Some, None}
use Rattle.std.proofs.Common.{refl, ap, sym, ◌∙◌, subst, length, length-set, take, drop, slice_get, slice_index, length-append, add-one}
use Rattle.std.proofs.Common.{inl, inr, ◌⊎◌, arith}
use Rattle.std.specs.Prelude.{count_by, MatchOption, MatchBool}
use Rattle.std.specs.List.{sum_by, cons_option}
use Rattle.std.proofs.lemmas.Bool.{eqb-true}
use Rattle.std.proofs.lemmas.Option.{same_Some, none-some}
use Rattle.std.proofs.lemmas.List.{length_push}
use Rattle.std.proofs.lemmas.List.Elements.{filter_map-append}
use Rattle.std.proofs.lemmas.List.Sums.{sum_by-cons}
use Rattle.slot_types.specs.declared.plans.DiePlan.{DiePlan}
use Rattle.slot_types.specs.declared.acts.Act.{Act}
use Rattle.slot_types.specs.declared.acts.Act.TheVariants as does
use Rattle.slot_types.specs.declared.events.Op.{Op}
use Rattle.slot_types.specs.declared.events.Op.TheVariants as asks
use Rattle.slot_types.specs.declared.events.Event.{Event}
use Rattle.slot_types.specs.declared.events.Event.TheVariants as events
use Rattle.slot_types.specs.declared.replies.Reply.{Reply}
use Rattle.slot_types.specs.declared.replies.Reply.TheVariants as replies
use Rattle.slot_types.specs.declared.replies.SlotReply.{SlotReply}
use Rattle.slot_types.specs.declared.replies.Waived.{Waived}
use Rattle.slot_types.specs.declared.replies.Entry.{Entry}
use Rattle.slot_types.specs.declared.pages.PageData.{PageData}
use Rattle.plan_rules.specs.Accounts.{Accounts}
use Rattle.job_table.specs.Jobs.{is_read}
use Rattle.die_log.specs.Model.Log.{Log, Job, Carried, jobs, job_at, act_of, acts, work}
use Rattle.die_log.specs.Model.Answers.{IsExact}
use Rattle.die_log.specs.Results.Legal.{IsLegal, IsLegalReply, IsLegalRun, IsNumbered, IsNextOperation, IsNextCollectAct, Does}
use Rattle.die_log.proofs.Legality.{entry}
use Rattle.die_log.proofs.LogInvariants.OneMoreEntry.{acts_stay, acts_grow}
use Rattle.die_log.proofs.Collecting.{no_acts}
use Rattle.die_log.specs.Model.Flash.{contents, contents_after, ran_by}
use Rattle.slot_types.specs.Operations.{is_write, writes}
use Rattle.die_log.specs.Invariants.TrueAccounts.{AccountsAgree, held_of, left_of, at_task}
use Rattle.die_log.proofs.Tokens.Amounts.{at_itself}
use Rattle.slot_core.specs.Records.{reads_of, bytes_read}
use Rattle.die_log.specs.Model.Start.{Start}
use Rattle.die_log.specs.Model.Opening.{IsOpening}
use Rattle.die_log.proofs.Renewal.{contents_len as kept_len}

-- Pages

written_len : (c : Carried) (pages : List PageData) → length (contents_after c pages) ≡ length pages
written_len None pages = refl
written_len (Some (n, does.Read page bytes)) pages = refl
written_len (Some (n, does.Write page bytes)) pages = length-set pages page bytes
written_len (Some (n, does.Trim page)) pages = length-set pages page _
written_len (Some (n, does.CopyRead page)) pages = refl
written_len (Some (n, does.CopyProgram page)) pages = refl
written_len (Some (n, does.Erase block)) pages = refl

pub contents_len : (start : Start) → IsOpening start → (log : Log) → length (contents start log) ≡ start.plan.logical
contents_len start bound log = kept_len start log ∙ bound.pages

-- Tokens

part_of_sum : {X : Type 0} (f : X → ℕ) (xs : List X) (k : ℕ) (x : X) → slice_get xs k ≡ Some x → f x ≤ sum_by f xs
part_of_sum f [] k x e = absurd (none-some x e)
part_of_sum f (y ∷ xs) zero x e = omega (arith, sum_by-cons f y xs, ap f (same_Some y x e))
part_of_sum f (y ∷ xs) (suc k) x e = omega (arith, sum_by-cons f y xs, part_of_sum f xs k x e)

abbrev one_if : {X : Type 0} → (X → Bool) → X → ℕ
one_if p x = cond (p x) 1 0

write_left : (ops : List Op) (w : ℕ) (op : Op) → slice_get ops w ≡ Some op → is_write op ≡ true → 0 < writes (drop w ops)
write_left [] w op e is = absurd (none-some op e)
write_left (x ∷ ops) zero op e is =
    let one : one_if is_write x ≡ 1 = ap (λ (b : Bool). cond b 1 0) (ap is_write (same_Some x op e) ∙ is) in
    omega (arith, sum_by-cons (one_if is_write) x ops, one)
write_left (x ∷ ops) (suc w) op e is = write_left ops w op e is

-- a job whose next operation is a write holds a token
pub hold_positive : (plan : DiePlan) (a : Accounts) (own : ℕ → List Act) (lent : ℕ → ℕ) (owed free : ℕ) (js : List Job) (j : Job) (op : Op)
    → AccountsAgree plan a (held_of own js) lent owed free → j.task < length plan.caps
    → slice_get js j.number ≡ Some j → slice_get j.ops (length (own j.number)) ≡ Some op → is_write op ≡ true → 0
    < slice_index a.holds j.task
hold_positive plan a own lent owed free js j op agree task at next is =
    let left : 0 < left_of own j = write_left j.ops (length (own j.number)) op next is in
    let part : at_task j.task (left_of own j) j.task ≤ held_of own js j.task = part_of_sum
    (λ (i : Job). at_task i.task (left_of own i) j.task) js j.number j at in
    omega (arith, agree.holds_are j.task task, part, at_itself j.task (left_of own j), left)

-- Reads

read_among : (ops : List Op) (w : ℕ) (op : Op) → slice_get ops w ≡ Some op → is_read op ≡ true → count_by is_read (take w ops)
    < count_by is_read ops
read_among [] w op e is = absurd (none-some op e)
read_among (x ∷ ops) zero op e is =
    let one : one_if is_read x ≡ 1 = ap (λ (b : Bool). cond b 1 0) (ap is_read (same_Some x op e) ∙ is) in
    omega (arith, sum_by-cons (one_if is_read) x ops, one)
read_among (x ∷ ops) (suc w) op e is =
    omega (arith, sum_by-cons (one_if is_read) x ops, sum_by-cons (one_if is_read) x (take w ops), read_among ops w op e is)

read_count : (op : Op) (act : Act) → Does op act → length (cons_option (bytes_read act) []) ≡ one_if is_read op
read_count (asks.Read page) (does.Read p bytes) h = refl
read_count (asks.Read page) (does.Write p bytes) h = absurd h
read_count (asks.Read page) (does.Trim p) h = absurd h
read_count (asks.Read page) (does.CopyRead p) h = absurd h
read_count (asks.Read page) (does.CopyProgram p) h = absurd h
read_count (asks.Read page) (does.Erase b) h = absurd h
read_count (asks.Write page b) (does.Read p bytes) h = absurd h
read_count (asks.Write page b) (does.Write p bytes) h = refl
read_count (asks.Write page b) (does.Trim p) h = absurd h
read_count (asks.Write page b) (does.CopyRead p) h = absurd h
read_count (asks.Write page b) (does.CopyProgram p) h = absurd h
read_count (asks.Write page b) (does.Erase c) h = absurd h
read_count (asks.Trim page) (does.Read p bytes) h = absurd h
read_count (asks.Trim page) (does.Write p bytes) h = absurd h
read_count (asks.Trim page) (does.Trim p) h = refl
read_count (asks.Trim page) (does.CopyRead p) h = absurd h
read_count (asks.Trim page) (does.CopyProgram p) h = absurd h
read_count (asks.Trim page) (does.Erase c) h = absurd h

count_suc : (ops : List Op) (w : ℕ) (op : Op) → slice_get ops w ≡ Some op → count_by is_read (take (suc w) ops)
    ≡ count_by is_read (take w ops) + one_if is_read op
count_suc [] w op e = absurd (none-some op e)
count_suc (x ∷ ops) zero op e = omega (arith, sum_by-cons (one_if is_read) x [], ap (one_if is_read) (same_Some x op e))
count_suc (x ∷ ops) (suc w) op e =
    omega (arith, sum_by-cons (one_if is_read) x (take (suc w) ops), sum_by-cons (one_if is_read) x (take w ops), count_suc ops w op e)

count_next : (ops : List Op) (w : ℕ) (op : Op) → slice_get ops w ≡ Some op → count_by is_read (take (w + 1) ops)
    ≡ count_by is_read (take w ops) + one_if is_read op
count_next ops w op e = ap (λ (n : ℕ). count_by is_read (take n ops)) (add-one w) ∙ count_suc ops w op e

-- a job's reads so far are the reads among its operations so far
abbrev pub ReadsSoFar : Log → Job → Type 0
ReadsSoFar log j = j.collects ≡ false → length (reads_of (acts j.number log)) ≡ count_by is_read (take (work j.number log) j.ops)

abbrev CountReads : Log → Type 0
CountReads log = (n : ℕ) (j : Job) → job_at log n ≡ Some j → (j.number ≡ n) × ReadsSoFar log j

get_push : {X : Type 0} (xs : List X) (x : X) (n : ℕ) (y : X) → slice_get (xs ++ x ∷ []) n ≡ Some y → (slice_get xs n ≡ Some y)
    ⊎ ((n ≡ length xs) × (x ≡ y))
get_push [] x zero y e = inr (refl, same_Some x y e)
get_push [] x (suc n) y e = absurd (none-some y e)
get_push (z ∷ xs) x zero y e = inl e
get_push (z ∷ xs) x (suc n) y e = by_rest (get_push xs x n y e)
  where
    by_rest : (slice_get xs n ≡ Some y) ⊎ ((n ≡ length xs) × (x ≡ y)) → (slice_get xs n ≡ Some y) ⊎ ((suc n ≡ length (z ∷ xs)) × (x ≡ y))
    by_rest (inl h) = inl h
    by_rest (inr h) = inr (omega (arith, h.0), h.1)

taken_reads : (past : Log) (new : Job) → new.number ≡ length (jobs past) → acts (length (jobs past)) past ≡ [] → CountReads past
    → (n : ℕ) (j : Job) → slice_get (jobs past ++ new ∷ []) n ≡ Some j → (j.number ≡ n) × ReadsSoFar past j
taken_reads past new number fresh h n j e = by_place (get_push (jobs past) new n j e)
  where
    by_place : (slice_get (jobs past) n ≡ Some j) ⊎ ((n ≡ length (jobs past)) × (new ≡ j)) → (j.number ≡ n) × ReadsSoFar past j
    by_place (inl at) = h n j at
    by_place (inr is) = subst (λ (k : Job). (k.number ≡ n) × ReadsSoFar past k) is.1
        (omega (arith, number, is.0), λ plain. rw number (rw fresh refl))

-- after an act of its own
acted_reads : (past : Log) (e : Entry) (j : Job) (act : Act) → act_of j.number (ran_by e.reply) ≡ Some act
    → (j.collects ≡ false → IsNextOperation past j act) → ReadsSoFar past j → ReadsSoFar (e ∷ past) j
acted_reads past e j act is next before plain = by_op (slice_get j.ops (work j.number past)) refl (next plain)
  where
    grown : acts j.number (e ∷ past) ≡ acts j.number past ++ act ∷ []
    grown = acts_grow j.number e past act is

    by_op : (o : Option Op) → slice_get j.ops (work j.number past) ≡ o → MatchOption o ⊥ (λ op. Does op act)
        → length (reads_of (acts j.number (e ∷ past))) ≡ count_by is_read (take (work j.number (e ∷ past)) j.ops)
    by_op None at h = absurd h
    by_op (Some op) at h = rw grown (rw (filter_map-append bytes_read (acts j.number past) (act ∷ []))
        (rw (length_push (acts j.number past) act)
        (omega (
          arith,
          length-append (reads_of (acts j.number past)) (cons_option (bytes_read act) []),
          read_count op act h,
          before plain,
          count_next j.ops (work j.number past) op at,
        ))))

ran_reads : (start : Start) (past : Log) (caller : ℕ) (s : SlotReply) (ws : List Waived) (c : Carried) → s.ran ≡ c
    → IsLegalRun start past ws c → CountReads past → CountReads (entry caller events.Slot (replies.Slot s) ∷ past)
ran_reads start past caller s ws None is legal h n j at =
    let k = h n j at in
    (k.0, λ plain. rw (acts_stay j.number (entry caller events.Slot (replies.Slot s)) past (ap (act_of j.number) is)) (k.1 plain))
ran_reads start past caller s ws (Some (number, act)) is legal h n j at = by_own (number == j.number) refl
  where
    e : Entry
    e = entry caller events.Slot (replies.Slot s)

    k : (j.number ≡ n) × ReadsSoFar past j
    k = h n j at

    by_own : (b : Bool) → (number == j.number) ≡ b → (j.number ≡ n) × ReadsSoFar (entry caller events.Slot (replies.Slot s) ∷ past) j
    by_own false differs = (
      k.0,
      λ plain. rw (acts_stay j.number (entry caller events.Slot (replies.Slot s)) past (ap (act_of j.number) is
          ∙ rw differs refl)) (k.1 plain),
    )
    by_own true same =
        let number_is : number ≡ j.number = eqb-true number j.number same in
        let job_is : legal.0 ≡ j = same_Some legal.0 j (sym legal.1.known ∙ (ap (slice_get (jobs past)) (number_is ∙ k.0) ∙ at)) in (
          k.0,
          acted_reads past (entry caller events.Slot (replies.Slot s)) j act (ap (act_of j.number) is ∙ rw same refl)
              (subst (λ (i : Job). i.collects ≡ false → IsNextOperation past i act) job_is
              (λ plain. subst (λ (b : Bool). MatchBool b (IsNextCollectAct start past number act) (IsNextOperation past legal.0 act))
              plain legal.1.next)) k.1,
        )

pub reads_counted : (start : Start) (log : Log) → IsExact start log → IsLegal start log → CountReads log
reads_counted start [] x l = λ n j e. absurd (none-some j e)
reads_counted start (e ∷ past) x l = by_kind e.event e.reply l.1.numbered l.1.slot (reads_counted start past x.0 l.0)
  where
    by_kind : (event : Event) (reply : Reply) → IsNumbered past event reply → IsLegalReply start past reply → CountReads past
        → CountReads (entry e.caller event reply ∷ past)
    by_kind (events.Submit task release due ops) (replies.Taken number) is legal h = taken_reads past _ is (no_acts start past x.0) h
    by_kind (events.Submit task release due ops) (replies.Slot s) is legal h = absurd is
    by_kind (events.Submit task release due ops) (replies.Refused r) is legal h = absurd is
    by_kind (events.Collect task release due) (replies.Taken number) is legal h = taken_reads past _ is (no_acts start past x.0) h
    by_kind (events.Collect task release due) (replies.Slot s) is legal h = absurd is
    by_kind (events.Collect task release due) (replies.Refused r) is legal h = absurd is
    by_kind events.Slot (replies.Slot s) is legal h = ran_reads start past e.caller s s.waived s.ran refl legal.1 h
    by_kind events.Slot (replies.Taken number) is legal h = absurd is
    by_kind events.Slot (replies.Refused r) is legal h = absurd is
