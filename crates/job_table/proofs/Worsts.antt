-- Who is worst, before and after somebody is done.
use Rattle.std.proofs.Common.{◌≡◌, ◌≢◌, ℕ, Bool, true, false, refl, sym, ap, ◌∙◌, arith, ◌&&◌, ◌||◌, not, List, [], ◌∷◌, ◌++◌, slice_get}
use Rattle.std.proofs.Common.{Option, Some, None, MatchOption, ◌⊎◌, inl, inr, ℤ, ◌<ℤ◌, int_lt}
use Rattle.std.proofs.lemmas.Bool.{cases_eq}
use Rattle.std.proofs.lemmas.Bool.Decides.{nat_tests}
use Rattle.std.proofs.lemmas.Int.{ints}
use Rattle.due_queue.specs.Pairs.{is_pair_before}
use Rattle.due_queue.proofs.Orders.{pairs_strict}
use Rattle.job_table.specs.Jobs.{JobRecord, is_done, completion_in, lateness_of}
use Rattle.job_table.specs.Table.{changed_at}
use Rattle.job_table.specs.Worst.{is_worse, IsWorst, NothingDone, IsDoneAt, IsWorstBeside, NothingDoneBeside}
use Rattle.job_table.proofs.Changed.{changed_elsewhere, same_at, push_before, push_cases}
use Rattle.job_table.proofs.Keyed.{changed_cases}

-- by lateness, and where it is equal by a test
abbrev ranks_above : ℤ → ℤ → Bool → Bool
ranks_above late other_late before = int_lt other_late late || (not (int_lt late other_late) && before)

above_cases : (late other_late : ℤ) (before : Bool) → ranks_above late other_late before ≡ true → (other_late <ℤ late)
    ⊎ ((late ≡ other_late) × (before ≡ true))
above_cases late other_late before h = grind (arith, ints)

above_by_lateness : (late other_late : ℤ) (before : Bool) → other_late <ℤ late → ranks_above late other_late before ≡ true
above_by_lateness late other_late before h = grind (arith, ints)

above_by_test : (late other_late : ℤ) (before : Bool) → late ≡ other_late → before ≡ true → ranks_above late other_late before ≡ true
above_by_test late other_late before h g = grind (arith, ints)

chain : (a b c : ℤ) (p q r : ℕ × ℕ) → ranks_above a b (is_pair_before p q) ≡ true → ranks_above b c (is_pair_before q r) ≡ true
    → ranks_above a c (is_pair_before p r) ≡ true
chain a b c p q r h g =
    elim (above_cases a b (is_pair_before p q) h) [
      | inl e ↦ elim (above_cases b c (is_pair_before q r) g) [
        | inl f ↦ above_by_lateness a c (is_pair_before p r) (omega (arith, ints))
        | inr f ↦ above_by_lateness a c (is_pair_before p r) (omega (arith, ints))
      ]
      | inr e ↦ elim (above_cases b c (is_pair_before q r) g) [
        | inl f ↦ above_by_lateness a c (is_pair_before p r) (omega (arith, ints))
        | inr f ↦ above_by_test a c (is_pair_before p r) (e.0 ∙ f.0) (pairs_strict.chain p q r e.1 f.1)
      ]
    ]

not_above_itself : (late : ℤ) (completion n : ℕ) → ranks_above late late (is_pair_before (completion, n) (completion, n)) ≡ false
not_above_itself late completion n = grind (arith, ints, nat_tests)

pub not_worse_itself : (n : ℕ) (job : JobRecord) → is_worse n job n job ≡ false
not_worse_itself n job = not_above_itself (lateness_of job) (completion_in job.stage) n

pub worse_chain : (k : ℕ) (a : JobRecord) (m : ℕ) (b : JobRecord) (n : ℕ) (c : JobRecord) → is_worse k a m b ≡ true → is_worse m b n c
    ≡ true → is_worse k a n c ≡ true
worse_chain k a m b n c h g =
    chain (lateness_of a) (lateness_of b) (lateness_of c) (completion_in a.stage, k) (completion_in b.stage, m) (completion_in c.stage, n) h
    g

-- One has just been done

pub worst_alone : (jobs : List JobRecord) (n : ℕ) → IsDoneAt jobs n → NothingDoneBeside jobs n → IsWorst jobs n
worst_alone jobs n here none = record {
  worst = here.job;
  is_at = here.is_at;
  done = here.done;
  most = λ m other at_m done_m.
      elim (cases_eq m n) [
        | inl same ↦
            let e : here.job ≡ other = same_at n m jobs here.job other (sym same) here.is_at at_m in
            ap (λ k. is_worse k other n here.job) same ∙ ap (λ j. is_worse n j n here.job) (sym e) ∙ not_worse_itself n here.job
        | inr differs ↦ absurd (let e = none m other differs at_m in cc)
      ];
}

pub worst_now : (jobs : List JobRecord) (n w : ℕ) (here : IsDoneAt jobs n) (beside : IsWorstBeside jobs n w)
    → is_worse n here.job w beside.worst ≡ true → IsWorst jobs n
worst_now jobs n w here beside worse = record {
  worst = here.job;
  is_at = here.is_at;
  done = here.done;
  most = λ m other at_m done_m.
      elim (cases_eq m n) [
        | inl same ↦
            let e : here.job ≡ other = same_at n m jobs here.job other (sym same) here.is_at at_m in
            ap (λ k. is_worse k other n here.job) same ∙ ap (λ j. is_worse n j n here.job) (sym e) ∙ not_worse_itself n here.job
        | inr differs ↦ not_above m other differs at_m done_m (is_worse m other n here.job) refl
      ];
}
  where
    not_above : (m : ℕ) (other : JobRecord) → m ≢ n → slice_get jobs m ≡ Some other → is_done other.stage ≡ true → (b : Bool)
        → is_worse m other n here.job ≡ b → is_worse m other n here.job ≡ false
    not_above m other differs at_m done_m true e =
        absurd (let f = worse_chain m other n here.job w beside.worst e worse in let g = beside.most m other differs at_m done_m in cc)
    not_above m other differs at_m done_m false e = e

pub worst_stays : (jobs : List JobRecord) (n w : ℕ) (here : IsDoneAt jobs n) (beside : IsWorstBeside jobs n w)
    → is_worse n here.job w beside.worst ≡ false → IsWorst jobs w
worst_stays jobs n w here beside not_worse = record {
  worst = beside.worst;
  is_at = beside.is_at;
  done = beside.done;
  most = λ m other at_m done_m.
      elim (cases_eq m n) [
        | inl same ↦
            let e : here.job ≡ other = same_at n m jobs here.job other (sym same) here.is_at at_m in
            ap (λ k. is_worse k other w beside.worst) same ∙ ap (λ j. is_worse n j w beside.worst) (sym e) ∙ not_worse
        | inr differs ↦ beside.most m other differs at_m done_m
      ];
}

-- there is one worst
pub one_worst : (jobs : List JobRecord) (m n : ℕ) → IsWorst jobs m → IsWorst jobs n → m ≡ n
one_worst jobs m n first second =
    same_rank (lateness_of first.worst) (lateness_of second.worst) (completion_in first.worst.stage) (completion_in second.worst.stage) m n
    (second.most m first.worst first.is_at first.done) (first.most n second.worst second.is_at second.done)
  where
    same_rank : (a b : ℤ) (x y m n : ℕ) → ranks_above a b (is_pair_before (x, m) (y, n)) ≡ false
        → ranks_above b a (is_pair_before (y, n) (x, m)) ≡ false → m ≡ n
    same_rank a b x y m n h g = grind (arith, ints, nat_tests)

-- A change that makes nobody done and changes nobody done

pub undone_worst : (jobs : List JobRecord) (n : ℕ) (change : JobRecord → JobRecord) (worst : Option ℕ)
    → ((job : JobRecord) → slice_get jobs n ≡ Some job → (is_done job.stage ≡ false) × (is_done (change job).stage ≡ false))
    → MatchOption worst (NothingDone jobs) (IsWorst jobs)
    → MatchOption worst (NothingDone (changed_at jobs n change)) (IsWorst (changed_at jobs n change))
undone_worst jobs n change None undone none = λ m other at_m.
    elim (changed_cases jobs n change m other at_m) [
      | inl h ↦ none m other h.1
      | inr h ↦ ap (λ j. is_done j.stage) (sym h.1.2) ∙ (undone h.1.0 (ap (slice_get jobs) (sym h.0) ∙ h.1.1)).1
    ]
undone_worst jobs n change (Some w) undone worst = record {
  worst = worst.worst;
  is_at = changed_elsewhere jobs n change w (λ same. let e = (undone worst.worst (ap (slice_get jobs) (sym same) ∙ worst.is_at)).0 in let f
      = worst.done in absurd cc) ∙ worst.is_at;
  done = worst.done;
  most = λ m other at_m done_m.
      elim (changed_cases jobs n change m other at_m) [
        | inl h ↦ worst.most m other h.1 done_m
        | inr h ↦ absurd (let e = ap (λ j. is_done j.stage) (sym h.1.2) ∙ (undone h.1.0 (ap (slice_get jobs) (sym h.0) ∙ h.1.1)).1 in cc)
      ];
}

-- one more that isn't done
pub pushed_worst : (jobs : List JobRecord) (job : JobRecord) (worst : Option ℕ) → is_done job.stage ≡ false
    → MatchOption worst (NothingDone jobs) (IsWorst jobs)
    → MatchOption worst (NothingDone (jobs ++ job ∷ [])) (IsWorst (jobs ++ job ∷ []))
pushed_worst jobs job None undone none = λ m other at_m.
    elim (push_cases jobs job m other at_m) [
      | inl h ↦ none m other h
      | inr h ↦ ap (λ j. is_done j.stage) (sym h.1) ∙ undone
    ]
pushed_worst jobs job (Some w) undone worst = record {
  worst = worst.worst;
  is_at = push_before jobs job w worst.worst worst.is_at;
  done = worst.done;
  most = λ m other at_m done_m.
      elim (push_cases jobs job m other at_m) [
        | inl h ↦ worst.most m other h done_m
        | inr h ↦ absurd (let e = ap (λ j. is_done j.stage) (sym h.1) ∙ undone in cc)
      ];
}

-- of the others the worst is as it was, where one that wasn't done is done now
pub worst_of_others : (jobs : List JobRecord) (n : ℕ) (change : JobRecord → JobRecord) (worst : Option ℕ)
    → ((job : JobRecord) → slice_get jobs n ≡ Some job → is_done job.stage ≡ false)
    → MatchOption worst (NothingDone jobs) (IsWorst jobs)
    → MatchOption worst (NothingDoneBeside (changed_at jobs n change) n) (IsWorstBeside (changed_at jobs n change) n)
worst_of_others jobs n change None undone none = λ m other differs at_m. none m other (sym (changed_elsewhere jobs n change m differs)
    ∙ at_m)
worst_of_others jobs n change (Some w) undone worst =
    let differs : w ≢ n = λ same. absurd (let e = undone worst.worst (ap (slice_get jobs) (sym same) ∙ worst.is_at) in let f = worst.done in
    cc) in
    record {
      other_one = differs;
      worst = worst.worst;
      is_at = changed_elsewhere jobs n change w differs ∙ worst.is_at;
      done = worst.done;
      most = λ m other apart at_m done_m. worst.most m other (sym (changed_elsewhere jobs n change m apart) ∙ at_m) done_m;
    }
