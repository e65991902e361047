-- What the reads of an exact log give are pages, and collections read nothing.
use Rattle.std.proofs.Common.{◌≡◌, ℕ, zero, suc, ◌==◌, Bool, true, false, cond, List, [], ◌∷◌, ◌++◌, Option, Some, None, refl, ap, sym, ◌∙◌}
use Rattle.std.proofs.Common.{subst, length, replicate, set, get_or, slice_get, arith}
use Rattle.std.specs.Prelude.{All, Contains}
use Rattle.std.specs.List.{AllByRecursion, cons_option, filter_map, last_or}
use Rattle.std.proofs.lemmas.Bool.{eqb-true, true≢false}
use Rattle.std.proofs.lemmas.Option.{same_Some, none-some}
use Rattle.std.proofs.lemmas.List.Elements.{All-from_recursion, recursion_from_All}
use Rattle.hex.specs.Hex.{IsBytes}
use Rattle.slot_types.specs.declared.plans.DiePlan.{DiePlan}
use Rattle.slot_types.specs.declared.pages.PageData.{PageData}
use Rattle.slot_types.specs.declared.acts.Act.{Act}
use Rattle.slot_types.specs.declared.acts.Act.TheVariants as does
use Rattle.slot_types.specs.declared.events.Op.{Op}
use Rattle.slot_types.specs.declared.events.Op.TheVariants as asks
use Rattle.slot_types.specs.declared.events.Event.{Event}
use Rattle.slot_types.specs.declared.events.Event.TheVariants as events
use Rattle.slot_types.specs.declared.replies.Waived.{Waived}
use Rattle.plan_rules.specs.Bound.{MeetsBound}
use Rattle.die_log.specs.Model.Log.{Log, Job, Carried, jobs, job_at, carried_slots, act_of, acts, work}
use Rattle.die_log.specs.Model.Flash.{Cells, blank_page, cells, contents, valid_pages, contents_after}
use Rattle.die_log.specs.Model.Work.{is_ready, ready}
use Rattle.die_log.specs.Model.Accounts.{accounts}
use Rattle.die_log.specs.Model.Answers.{IsExact, reply_if_accepted, act_for, act_of_op, block_for, buffer_after, choice, collect_act, is_placed_in}
use Rattle.die_log.specs.Model.Answers.{read_or_erase, refusals, reply_with, slot_reply}
use Rattle.die_log.specs.Invariants.RunningCollections.{AreNumbered}
use Rattle.die_log.proofs.Choices.{Names, OfSome, all_kept, names_waiting}
use Rattle.die_log.proofs.Known.{all_append}
use Rattle.die_log.proofs.Legality.{entry, exact_induction}
use Rattle.die_log.proofs.Legal.Exact.{stands_well}
use Rattle.die_log.proofs.LogInvariants.OneMoreEntry.{number_at, stands_at}
use Rattle.die_log.proofs.Tokens.TrueAccounts.{all_known}
use Rattle.slot_core.specs.Records.{reads_of}
use Rattle.script_texts.specs.AskedPages.{WritesPage}
use Rattle.text_base.specs.Pages.{IsPage}
use Rattle.task_script.specs.LogPages.{EntryHasPages, HasPages}
use Rattle.die_log.specs.Model.Start.{fresh}
use Rattle.die_log.proofs.Openings.{fresh_opens}

-- Lists

all_at : {X : Type 0} (P : X → Type 0) (xs : List X) (i : ℕ) (x : X) → AllByRecursion P xs → slice_get xs i ≡ Some x → P x
all_at P [] i x h at = absurd (none-some x at)
all_at P (y ∷ ys) zero x h at = subst P (same_Some y x at) h.0
all_at P (y ∷ ys) (suc i) x h at = all_at P ys i x h.1 at

all_or : {X : Type 0} (P : X → Type 0) (xs : List X) (i : ℕ) (d : X) → AllByRecursion P xs → P d → P (get_or xs i d)
all_or P [] i d h k = k
all_or P (x ∷ xs) zero d h k = h.0
all_or P (x ∷ xs) (suc i) d h k = all_or P xs i d h.1 k

all_set : {X : Type 0} (P : X → Type 0) (xs : List X) (i : ℕ) (x : X) → AllByRecursion P xs → P x → AllByRecursion P (set xs i x)
all_set P [] i x h k = tt
all_set P (y ∷ ys) zero x h k = (k, h.1)
all_set P (y ∷ ys) (suc i) x h k = (h.0, all_set P ys i x h.1 k)

all_same : {X : Type 0} (P : X → Type 0) (n : ℕ) (x : X) → P x → AllByRecursion P (replicate n x)
all_same P zero x k = tt
all_same P (suc n) x k = (k, all_same P n x k)

still_at : {X : Type 0} (xs ys : List X) (i : ℕ) (x : X) → slice_get xs i ≡ Some x → slice_get (xs ++ ys) i ≡ Some x
still_at [] ys i x at = absurd (none-some x at)
still_at (y ∷ xs) ys zero x at = at
still_at (y ∷ xs) ys (suc i) x at = still_at xs ys i x at

-- Pages

full_bytes : (n : ℕ) → IsBytes (replicate n 255)
full_bytes zero i = omega arith
full_bytes (suc n) zero = omega arith
full_bytes (suc n) (suc i) = full_bytes n i

blank_is : IsPage blank_page
blank_is = record { len = refl; bytes = full_bytes 16 }

-- What was carried

-- a collection reads nothing, and what a job reads and writes are pages
abbrev HasActPages : Bool → Act → Type 0
HasActPages collects (does.Read page bytes) = (collects ≡ false) × IsPage bytes
HasActPages collects (does.Write page bytes) = IsPage bytes
HasActPages collects _ = Unit {0}

-- an act of one of these jobs
abbrev HasRunPages : List Job → Carried → Type 0
HasRunPages js None = Unit {0}
HasRunPages js (Some (n, act)) = (j : Job) × (slice_get js n ≡ Some j) × HasActPages j.collects act

run_later : (js more : List Job) (c : Carried) → HasRunPages js c → HasRunPages (js ++ more) c
run_later js more None h = tt
run_later js more (Some (n, act)) h = (h.0, still_at js more n h.0 h.1, h.2)

runs_later : (js more : List Job) (cs : List Carried) → AllByRecursion (HasRunPages js) cs → AllByRecursion (HasRunPages (js ++ more)) cs
runs_later js more [] h = tt
runs_later js more (c ∷ cs) h = (run_later js more c h.0, runs_later js more cs h.1)

abbrev HasJobPages : Job → Type 0
HasJobPages j = AllByRecursion WritesPage j.ops

-- a log in which all that was written and read are pages
record KeepsPages (plan : DiePlan) (log : Log) : Type 0 where
  held : AllByRecursion IsPage (contents (fresh plan) log)
  asked : AllByRecursion HasJobPages (jobs log)
  ran : AllByRecursion (HasRunPages (jobs log)) (carried_slots log)

-- One slot

op_pages : (plan : DiePlan) (past : Log) (o : Option Op) (act : Act) → KeepsPages plan past → OfSome WritesPage o → act_of_op (fresh plan) past o
    ≡ Some act → HasActPages false act
op_pages plan past None act k h e = absurd (none-some act e)
op_pages plan past (Some (asks.Read page)) act k h e = subst (HasActPages false) (same_Some _ act e)
    (refl, all_or IsPage (contents (fresh plan) past) page blank_page k.held blank_is)
op_pages plan past (Some (asks.Write page bytes)) act k h e = subst (HasActPages false) (same_Some _ act e) h
op_pages plan past (Some (asks.Trim page)) act k h e = subst (HasActPages false) (same_Some _ act e) tt

op_at : (ops : List Op) (n : ℕ) (o : Option Op) → slice_get ops n ≡ o → AllByRecursion WritesPage ops → OfSome WritesPage o
op_at ops n None at h = tt
op_at ops n (Some op) at h = all_at WritesPage ops n op h at

erase_pages : (b : ℕ) (pages : List ℕ) → HasActPages true (read_or_erase b pages)
erase_pages b [] = tt
erase_pages b (page ∷ pages) = tt

placed_pages : (placed : Bool) (page b : ℕ) (pages : List ℕ) (act : Act)
    → cond placed (Some (does.CopyProgram page)) (Some (read_or_erase b pages)) ≡ Some act → HasActPages true act
placed_pages true page b pages act e = subst (HasActPages true) (same_Some _ act e) tt
placed_pages false page b pages act e = subst (HasActPages true) (same_Some _ act e) (erase_pages b pages)

collect_pages : (plan : DiePlan) (c : Cells) (buffer block : Option ℕ) (act : Act) → collect_act plan c buffer block ≡ Some act
    → HasActPages true act
collect_pages plan c buffer None act e = absurd (none-some act e)
collect_pages plan c buffer (Some b) act e = placed_pages (is_placed_in c b buffer) _ b (valid_pages plan c b) act e

act_pages : (plan : DiePlan) (past : Log) (j : Job) (act : Act) → KeepsPages plan past → HasJobPages j → act_for (fresh plan) past j ≡ Some act
    → HasActPages j.collects act
act_pages plan past j act k h = by_kind j.collects
  where
    by_kind : (b : Bool) → cond b (collect_act plan (cells (fresh plan) past) (buffer_after (last_or None (acts j.number past)))
        (block_for (fresh plan) past j)) (act_of_op (fresh plan) past (slice_get j.ops (work j.number past))) ≡ Some act → HasActPages b act
    by_kind true e = collect_pages plan (cells (fresh plan) past) _ (block_for (fresh plan) past j) act e
    by_kind false e = op_pages plan past (slice_get j.ops (work j.number past)) act k (op_at j.ops (work j.number past) _ refl h) e

-- a job that stands, and writes pages
abbrev IsHead : Log → Job → Type 0
IsHead past j = (job_at past j.number ≡ Some j) × HasJobPages j

head_ran : (plan : DiePlan) (past : Log) (ws : List Waived) (j : Job) (o : Option Act) → KeepsPages plan past → IsHead past j
    → act_for (fresh plan) past j ≡ o → HasRunPages (jobs past) (reply_with plan past ws j o).ran
head_ran plan past ws j None k h e = tt
head_ran plan past ws j (Some act) k h e = (j, h.0, act_pages plan past j act k h.1 e)

slot_ran : (plan : DiePlan) (past : Log) (ws : List Waived) (o : Option Job) → KeepsPages plan past → OfSome (IsHead past) o
    → HasRunPages (jobs past) (slot_reply (fresh plan) past ws o).ran
slot_ran plan past ws None k h = tt
slot_ran plan past ws (Some j) k h = head_ran plan past ws j (act_for (fresh plan) past j) k h refl

-- what a slot wrote is a page
held_after : (js : List Job) (c : Carried) (pages : List PageData) → HasRunPages js c → AllByRecursion IsPage pages
    → AllByRecursion IsPage (contents_after c pages)
held_after js None pages h k = k
held_after js (Some (n, does.Read page bytes)) pages h k = k
held_after js (Some (n, does.Write page bytes)) pages h k = all_set IsPage pages page bytes k h.2
held_after js (Some (n, does.Trim page)) pages h k = all_set IsPage pages page blank_page k blank_is
held_after js (Some (n, does.CopyRead page)) pages h k = k
held_after js (Some (n, does.CopyProgram page)) pages h k = k
held_after js (Some (n, does.Erase block)) pages h k = k

-- Logs

both : {X : Type 0} (P Q : X → Type 0) (xs : List X) → AllByRecursion P xs → AllByRecursion Q xs → AllByRecursion (λ x. P x × Q x) xs
both P Q [] h k = tt
both P Q (x ∷ xs) h k = ((h.0, k.0), both P Q xs h.1 k.1)

numbered : (plan : DiePlan) (log : Log) → MeetsBound plan → IsExact (fresh plan) log → AreNumbered 0 (jobs log)
numbered plan log bound exact = (stands_well (fresh plan) (fresh_opens plan bound) log exact).0.numbered

heads : (plan : DiePlan) (past : Log) → MeetsBound plan → IsExact (fresh plan) past → KeepsPages plan past
    → AllByRecursion (IsHead past) (jobs past)
heads plan past bound exact k =
    both (λ (j : Job). job_at past j.number ≡ Some j) HasJobPages (jobs past)
    (all_known past (λ i j at. omega (arith, number_at 0 (jobs past) i j (numbered plan past bound exact) at))) k.asked

slot_kept : (plan : DiePlan) (past : Log) (caller : ℕ) → MeetsBound plan → IsExact (fresh plan) past → KeepsPages plan past
    → KeepsPages plan (entry caller events.Slot (reply_if_accepted (fresh plan) past events.Slot) ∷ past)
slot_kept plan past caller bound exact k =
    let c = choice (fresh plan) past in
    let ran = (slot_reply (fresh plan) past c.waived c.head).ran in
    let names : Names (IsHead past) c =
    names_waiting (IsHead past) plan past (length (ready plan past)) (accounts (fresh plan) past) (ready plan past)
    (all_kept (IsHead past) (is_ready plan past) (jobs past) (heads plan past bound exact k)) in
    let good : HasRunPages (jobs past) ran = slot_ran plan past c.waived c.head k names.head in
    record {
      held = held_after (jobs past) ran (contents (fresh plan) past) good k.held;
      asked = k.asked;
      ran = all_append (HasRunPages (jobs past)) (carried_slots past) (ran ∷ []) k.ran (good, tt);
    }

abbrev pub AreAsked : Log → Type 0
AreAsked log = AllByRecursion EntryHasPages log

pages_kept : (plan : DiePlan) → MeetsBound plan → (log : Log) → IsExact (fresh plan) log → AreAsked log → KeepsPages plan log
pages_kept plan bound = exact_induction (fresh plan) (λ log. AreAsked log → KeepsPages plan log) none step
  where
    none : AreAsked [] → KeepsPages plan []
    none h = record { held = all_same IsPage plan.logical blank_page blank_is; asked = tt; ran = tt }

    step : (past : Log) (caller : ℕ) (event : Event) → IsExact (fresh plan) past → (AreAsked past → KeepsPages plan past)
        → AllByRecursion (λ c. c.0 ≡ false) (refusals (fresh plan) past event)
        → AreAsked (entry caller event (reply_if_accepted (fresh plan) past event) ∷ past)
        → KeepsPages plan (entry caller event (reply_if_accepted (fresh plan) past event) ∷ past)
    step past caller (events.Submit task release due ops) exact h none asked =
        let k = h asked.1 in
        record {
          held = k.held;
          asked = all_append HasJobPages (jobs past) (_ ∷ []) k.asked (recursion_from_All WritesPage ops asked.0, tt);
          ran = runs_later (jobs past) (_ ∷ []) (carried_slots past) k.ran;
        }
    step past caller (events.Collect task release due) exact h none asked =
        let k = h asked.1 in
        record {
          held = k.held;
          asked = all_append HasJobPages (jobs past) (_ ∷ []) k.asked (tt, tt);
          ran = runs_later (jobs past) (_ ∷ [])
              (carried_slots past) k.ran;
        }
    step past caller events.Slot exact h none asked = slot_kept plan past caller bound exact (h asked.1)

-- What a job or collection did

cons_pages : {X : Type 0} (P : X → Type 0) (o : Option X) (xs : List X) → OfSome P o → AllByRecursion P xs
    → AllByRecursion P (cons_option o xs)
cons_pages P None xs h k = k
cons_pages P (Some x) xs h k = (h, k)

own_act : (js : List Job) (n : ℕ) (j : Job) (c : Carried) → slice_get js n ≡ Some j → HasRunPages js c
    → OfSome (HasActPages j.collects) (act_of n c)
own_act js n j None at h = tt
own_act js n j (Some (m, act)) at h = by_number (m == n) refl
  where
    by_number : (b : Bool) → (m == n) ≡ b → OfSome (HasActPages j.collects) (cond b (Some act) None)
    by_number true e =
        let same : h.0 ≡ j = same_Some h.0 j (sym h.1 ∙ (ap (slice_get js) (eqb-true m n e) ∙ at)) in
        subst (λ (i : Job). HasActPages i.collects act) same h.2
    by_number false e = tt

own_acts : (js : List Job) (n : ℕ) (j : Job) (cs : List Carried) → slice_get js n ≡ Some j → AllByRecursion (HasRunPages js) cs
    → AllByRecursion (HasActPages j.collects) (filter_map (λ c. act_of n c) cs)
own_acts js n j [] at h = tt
own_acts js n j (c ∷ cs) at h = cons_pages (HasActPages j.collects) (act_of n c) (filter_map (λ x. act_of n x) cs) (own_act js n j c at h.0)
    (own_acts js n j cs at h.1)

acts_pages : (plan : DiePlan) (log : Log) (j : Job) → MeetsBound plan → IsExact (fresh plan) log → HasPages log → Contains (jobs log) j
    → AllByRecursion (HasActPages j.collects) (acts j.number log)
acts_pages plan log j bound exact asked stands =
    let k = pages_kept plan bound log exact (recursion_from_All EntryHasPages log asked) in
    own_acts (jobs log) j.number j (carried_slots log) (stands_at (jobs log) j (numbered plan log bound exact) stands) k.ran

read_pages : (collects : Bool) (own : List Act) → AllByRecursion (HasActPages collects) own → AllByRecursion IsPage (reads_of own)
read_pages collects [] h = tt
read_pages collects (does.Read page bytes ∷ own) h = (h.0.1, read_pages collects own h.1)
read_pages collects (does.Write page bytes ∷ own) h = read_pages collects own h.1
read_pages collects (does.Trim page ∷ own) h = read_pages collects own h.1
read_pages collects (does.CopyRead page ∷ own) h = read_pages collects own h.1
read_pages collects (does.CopyProgram page ∷ own) h = read_pages collects own h.1
read_pages collects (does.Erase block ∷ own) h = read_pages collects own h.1

no_reads : (own : List Act) → AllByRecursion (HasActPages true) own → reads_of own ≡ []
no_reads [] h = refl
no_reads (does.Read page bytes ∷ own) h = absurd (true≢false h.0.0)
no_reads (does.Write page bytes ∷ own) h = no_reads own h.1
no_reads (does.Trim page ∷ own) h = no_reads own h.1
no_reads (does.CopyRead page ∷ own) h = no_reads own h.1
no_reads (does.CopyProgram page ∷ own) h = no_reads own h.1
no_reads (does.Erase block ∷ own) h = no_reads own h.1

pub reads_are_pages : (plan : DiePlan) (log : Log) (j : Job) → MeetsBound plan → IsExact (fresh plan) log → HasPages log → Contains (jobs log) j
    → All IsPage (reads_of (acts j.number log))
reads_are_pages plan log j bound exact asked stands =
    All-from_recursion IsPage (reads_of (acts j.number log))
    (read_pages j.collects (acts j.number log) (acts_pages plan log j bound exact asked stands))

pub collections_read_nothing : (plan : DiePlan) (log : Log) (j : Job) → MeetsBound plan → IsExact (fresh plan) log → HasPages log
    → Contains (jobs log) j → j.collects ≡ true → reads_of (acts j.number log) ≡ []
collections_read_nothing plan log j bound exact asked stands kind =
    no_reads (acts j.number log) (subst (λ (b : Bool). AllByRecursion (HasActPages b) (acts j.number log)) kind
    (acts_pages plan log j bound exact asked stands))
