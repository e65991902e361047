-- The first of what is ready is the first of what is overdue, if it is overdue; and it is read off the table.
use Rattle.std.proofs.Common.{◌≡◌, ℕ, ◌<◌, ◌≤◌, nat_le, Bool, true, false, cond, List, [], ◌∷◌, ◌++◌, Option, Some, None, fold, filter, map}
use Rattle.std.proofs.Common.{refl, ap, sym, ◌∙◌, subst, arith, slice_get, option_map, inl, inr}
use Rattle.std.proofs.lemmas.Bool.{cases_Bool}
use Rattle.std.proofs.lemmas.Bool.Decides.{nat_tests}
use Rattle.std.proofs.lemmas.List.{append-nil}
use Rattle.slot_types.specs.declared.plans.DiePlan.{DiePlan}
use Rattle.slot_types.specs.declared.replies.Waived.{Waived}
use Rattle.job_table.specs.Jobs.{JobRecord}
use Rattle.job_table.specs.Table.{Table}
use Rattle.job_table.specs.Order as table
use Rattle.die_log.specs.Model.Start.{Start}
use Rattle.die_log.specs.Model.Log.{Log, Job, jobs, now, waived_collections}
use Rattle.die_log.specs.Model.Work.{goes_first, ready, least}
use Rattle.die_log.specs.Results.Overdue.{overdue}
use Rattle.die_log.specs.Invariants.RunningCollections.{AreNumbered}
use Rattle.die_log.proofs.Legal.Exact.{stands_well}
use Rattle.die_log.proofs.LogInvariants.OneMoreEntry.{number_at}
use Rattle.slot_core.specs.Records.{record_with, job_records}
use Rattle.slot_core.specs.Device.{FlashState}
use Rattle.slot_core.specs.Agreement.{AgreeWithLog}
use Rattle.slot_core.specs.WithinSlot.{without_waived}
use Rattle.slot_core.specs.Overdues.{overdue_as, overdue_of, overdue_by, overdue_in}
use Rattle.slot_core.specs.declared.overdues.Overdue.{Overdue}
use Rattle.slot_core.proofs.Heading.{slice_get-mapped, head_least, nothing_least, table_at}

-- What is due by a slot goes before what isn't

abbrev lesser : Job → Job → Job
lesser best j = cond (goes_first j best) j best

abbrev due_by : ℕ → Job → Bool
due_by n j = nat_le j.due n

due_first : (n : ℕ) (i j : Job) → due_by n i ≡ true → due_by n j ≡ false → goes_first i j ≡ true
due_first n i j due later = grind (arith, nat_tests)

later_last : (n : ℕ) (i j : Job) → due_by n i ≡ true → due_by n j ≡ false → goes_first j i ≡ false
later_last n i j due later = grind (arith, nat_tests)

one_of_two : (n : ℕ) (best x : Job) (b c : Bool) → due_by n best ≡ b → due_by n x ≡ b → due_by n (cond c x best) ≡ b
one_of_two n best x b true e f = f
one_of_two n best x b false e f = e

abbrev if_due : ℕ → Job → Option Job
if_due n j = cond (due_by n j) (Some j) None

abbrev if_some_due : ℕ → Option Job → Option Job
if_some_due n None = None
if_some_due n (Some j) = if_due n j

is_due : (n : ℕ) (j : Job) → due_by n j ≡ true → if_due n j ≡ Some j
is_due n j due = ap (λ (b : Bool). cond b (Some j) None) due

fold_due : (n : ℕ) (best : Job) (xs : List Job) → due_by n best ≡ true → (fold lesser best (filter (due_by n) xs) ≡ fold lesser best xs)
    × (due_by n (fold lesser best xs) ≡ true)
fold_due n best [] due = (refl, due)
fold_due n best (x ∷ xs) due = elim (cases_Bool (due_by n x)) [
  | inl h ↦ rw h (fold_due n (lesser best x) xs (one_of_two n best x true (goes_first x best) due h))
  | inr h ↦
      let same : lesser best x ≡ best = ap (λ (b : Bool). cond b x best) (later_last n best x due h) in
      rw h (subst (λ (m : Job). (fold lesser best (filter (due_by n) xs) ≡ fold lesser m xs) × (due_by n (fold lesser m xs) ≡ true)) (sym same)
      (fold_due n best xs due))
]

fold_later : (n : ℕ) (best : Job) (xs : List Job) → due_by n best ≡ false → least (filter (due_by n) xs) ≡ if_due n (fold lesser best xs)
fold_later n best [] later = sym (ap (λ (b : Bool). cond b (Some best) None) later)
fold_later n best (x ∷ xs) later = elim (cases_Bool (due_by n x)) [
  | inl h ↦
      let rest = fold_due n x xs h in
      let same : lesser best x ≡ x = ap (λ (b : Bool). cond b x best) (due_first n x best h later) in
      let found : least (x ∷ filter (due_by n) xs) ≡ if_due n (fold lesser (lesser best x) xs) = ap {B = Option Job} Some rest.0
      ∙ (sym (is_due n (fold lesser x xs) rest.1) ∙ ap (λ (m : Job). if_due n (fold lesser m xs)) (sym same)) in
      ap (λ (b : Bool). least (cond b (x ∷ filter (due_by n) xs) (filter (due_by n) xs))) h ∙ found
  | inr h ↦ ap (λ (b : Bool). least (cond b (x ∷ filter (due_by n) xs) (filter (due_by n) xs))) h
      ∙ fold_later n (lesser best x) xs (one_of_two n best x false (goes_first x best) later h)
]

-- so the least of what is due by then is the least of all, if that is due by then
least_due : (n : ℕ) (xs : List Job) → least (filter (due_by n) xs) ≡ if_some_due n (least xs)
least_due n [] = refl
least_due n (x ∷ xs) = elim (cases_Bool (due_by n x)) [
  | inl h ↦
      let rest = fold_due n x xs h in
      ap (λ (b : Bool). least (cond b (x ∷ filter (due_by n) xs) (filter (due_by n) xs))) h
      ∙ (ap {B = Option Job} Some rest.0 ∙ sym (is_due n (fold lesser x xs) rest.1))
  | inr h ↦ ap (λ (b : Bool). least (cond b (x ∷ filter (due_by n) xs) (filter (due_by n) xs))) h ∙ fold_later n x xs h
]

-- As the table has it

abbrev as_overdue : ℕ → Job → Overdue
as_overdue n j = overdue_as n j.number j.due

by_due : (n : ℕ) (j : Job) (b : Bool) → cond b (Some (as_overdue n j)) None ≡ option_map (as_overdue n) (cond b (Some j) None)
by_due n j true = refl
by_due n j false = refl

told : (present n number : ℕ) (j : Job) (least_one : Option Job) (at : Option JobRecord) (r : JobRecord) → present ≡ n → at ≡ Some r
    → j.due ≡ r.due → j.number ≡ number → least_one ≡ Some j → overdue_by present number at ≡ option_map (as_overdue n) (if_some_due n least_one)
told present n number j least_one at r now_is at_is due_is number_is least_is =
    let same : overdue_by present number (Some r) ≡ cond (due_by n j) (Some (as_overdue n j)) None =
    λ i. cond (nat_le ((sym due_is) i) (now_is i)) (Some (overdue_as (now_is i) ((sym number_is) i) ((sym due_is) i))) None in
    ap (overdue_by present number) at_is ∙ (same ∙ (by_due n j (due_by n j)
    ∙ sym (ap (λ (o : Option Job). option_map (as_overdue n) (if_some_due n o)) least_is)))

unwaived_none : (js : List Job) → without_waived [] js ≡ js
unwaived_none [] = refl
unwaived_none (j ∷ js) = ap (λ (l : List Job). j ∷ l) (unwaived_none js)

module _ (start : Start) (log : Log) (present : ℕ) (kept : Table) (failed : Bool) (f : FlashState) (t : Table)
    (k : AgreeWithLog start log present kept failed f) (is : t ≡ record kept { clock = present }) where
  abbrev here : Table
  here = record kept { clock = now log; jobs = job_records start log }

  here_is : table_at kept start log [] ≡ here
  here_is = ap (λ (ws : List Waived). record kept { clock = now log; jobs = map (record_with start log ws) (jobs log) }) (append-nil (waived_collections log))

  at_present : t ≡ here
  at_present = is ∙ (λ i. record kept { clock = k.now_is i; jobs = k.jobs_are i })

  unwaived : least (without_waived [] (ready start.plan log)) ≡ least (ready start.plan log)
  unwaived = ap least (unwaived_none (ready start.plan log))

  due_least : overdue_of start.plan log ≡ option_map (as_overdue (now log)) (if_some_due (now log) (least (ready start.plan log)))
  due_least = ap (λ (o : Option Job). option_map (as_overdue (now log)) o) (least_due (now log) (ready start.plan log))

  pub overdue_told : (n : ℕ) → table.IsHead t n → overdue_in t n present ≡ overdue_of start.plan log
  overdue_told n head =
      let h : table.IsHead here n = subst (λ (u : Table). table.IsHead u n) at_present head in
      let numbered = (stands_well start k.bound log k.exact).0.numbered in
      let j = slice_get-mapped (record_with start log (waived_collections log)) (jobs log) n h.head h.is_at in
      let least_is : least (ready start.plan log) ≡ Some j.0 = sym unwaived
      ∙ head_least start log [] kept n j.0 numbered j.1 (subst (λ (u : Table). table.IsHead u n) (sym here_is) h) in
      let at : slice_get t.jobs n ≡ Some h.head = ap (λ (u : Table). slice_get u.jobs n) at_present ∙ h.is_at in
      told present (now log) n j.0 (least (ready start.plan log)) (slice_get t.jobs n) h.head k.now_is at
      (ap (λ (r : JobRecord). r.due) j.2) (omega (arith, number_at 0 (jobs log) n j.0 numbered j.1)) least_is ∙ sym due_least

  pub nothing_overdue : table.NothingReady t → None ≡ overdue_of start.plan log
  nothing_overdue none =
      let least_is = sym unwaived ∙ nothing_least start log [] kept
      (subst table.NothingReady (at_present ∙ sym here_is) none) in
      sym (due_least ∙ ap (λ (o : Option Job). option_map (as_overdue (now log)) (if_some_due (now log) o)) least_is)
