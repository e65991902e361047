-- A list of jobs with one of them changed, or with one more.
use Rattle.std.proofs.Common.{◌≡◌, ◌≢◌, ℕ, zero, suc, ◌+◌, ◌<◌, Bool, true, false, cond, refl, sym, ap, ◌∙◌, arith, List, [], ◌∷◌, ◌++◌}
use Rattle.std.proofs.Common.{length, get_or, set, slice_get, Some, option_map, count_by, ◌||◌, ◌⊎◌, inl, inr}
use Rattle.std.specs.List.{list_any}
use Rattle.std.proofs.lemmas.List.Sums.{sum_by-cons}
use Rattle.std.proofs.lemmas.Option.{get_or_from_slice_get}
use Rattle.job_table.specs.Jobs.{JobRecord}
use Rattle.job_table.specs.Table.{Table, changed_at, with_change}

pub length-changed_at : (jobs : List JobRecord) (n : ℕ) (change : JobRecord → JobRecord) → length (changed_at jobs n change) ≡ length jobs
length-changed_at [] n change = refl
length-changed_at (job ∷ jobs) zero change = refl
length-changed_at (job ∷ jobs) (suc n) change = ap suc (length-changed_at jobs n change)

-- the changed job
pub changed_here : (jobs : List JobRecord) (n : ℕ) (change : JobRecord → JobRecord) → slice_get (changed_at jobs n change) n
    ≡ option_map change (slice_get jobs n)
changed_here [] n change = refl
changed_here (job ∷ jobs) zero change = refl
changed_here (job ∷ jobs) (suc n) change = changed_here jobs n change

-- every other
pub changed_elsewhere : (jobs : List JobRecord) (n : ℕ) (change : JobRecord → JobRecord) (m : ℕ) → m ≢ n
    → slice_get (changed_at jobs n change) m ≡ slice_get jobs m
changed_elsewhere [] n change m other = refl
changed_elsewhere (job ∷ jobs) zero change zero other = absurd (other refl)
changed_elsewhere (job ∷ jobs) zero change (suc m) other = refl
changed_elsewhere (job ∷ jobs) (suc n) change zero other = refl
changed_elsewhere (job ∷ jobs) (suc n) change (suc m) other = changed_elsewhere jobs n change m (λ e. other (ap suc e))

-- what a write leaves
pub changed_at-set : (jobs : List JobRecord) (n : ℕ) (change : JobRecord → JobRecord) (job : JobRecord) → slice_get jobs n ≡ Some job
    → set jobs n (change job) ≡ changed_at jobs n change
changed_at-set [] n change job e = absurd cc
changed_at-set (j ∷ jobs) zero change job e = let same : j ≡ job = cc in ap (λ x. change x ∷ jobs) (sym same)
changed_at-set (j ∷ jobs) (suc n) change job e = ap (λ l. j ∷ l) (changed_at-set jobs n change job e)

-- 1 for a job that passes
abbrev pub one_if : (JobRecord → Bool) → JobRecord → ℕ
one_if p job = cond (p job) 1 0

-- what a write at a job leaves
pub written : (jobs : List JobRecord) (n : ℕ) (change : JobRecord → JobRecord) (head job x : JobRecord) → slice_get jobs n ≡ Some head → job
    ≡ get_or jobs n job → x ≡ change job → set jobs n x ≡ changed_at jobs n change
written jobs n change head job x at_n read is =
    let same : job ≡ head = read ∙ get_or_from_slice_get jobs n head job at_n in
    ap (set jobs n) (is ∙ ap change same) ∙ changed_at-set jobs n change head at_n

-- a table seen before and after
pub viewed : (old view : Table) (jobs : List JobRecord) (n m : ℕ) (change : JobRecord → JobRecord) → view ≡ old → m ≡ n → jobs
    ≡ changed_at view.jobs m change → ◌≡◌ {A = Table} (record view { jobs = jobs }) (with_change old n change)
viewed old view jobs n m change view_is number_is jobs_is =
    ap (λ (l : List JobRecord). record view { jobs = l }) (jobs_is ∙ ap (λ k. changed_at view.jobs k change) number_is)
    ∙ ap (λ (t : Table). with_change t n change) view_is

-- a count loses the job as it was, and gains it as it is
pub count_by-changed_at : (p : JobRecord → Bool) (jobs : List JobRecord) (n : ℕ) (change : JobRecord → JobRecord) (job : JobRecord)
    → slice_get jobs n ≡ Some job
    → count_by p (changed_at jobs n change) + one_if p job ≡ count_by p jobs + one_if p (change job)
count_by-changed_at p [] n change job e = absurd cc
count_by-changed_at p (j ∷ jobs) zero change job e =
    let same : j ≡ job = cc in
    let here : one_if p j ≡ one_if p job = ap (one_if p) same in
    let there : one_if p (change j) ≡ one_if p (change job) = ap (λ x. one_if p (change x)) same in
    omega (arith, here, there, sum_by-cons (one_if p) j jobs, sum_by-cons (one_if p) (change j) jobs)
count_by-changed_at p (j ∷ jobs) (suc n) change job e =
    let h = count_by-changed_at p jobs n change job e in
    omega (arith, h, sum_by-cons (one_if p) j jobs, sum_by-cons (one_if p) j (changed_at jobs n change))

-- there is one exactly where the count isn't 0
pub list_any-none : (p : JobRecord → Bool) (jobs : List JobRecord) → count_by p jobs ≡ 0 → list_any p jobs ≡ false
list_any-none p [] h = refl
list_any-none p (j ∷ jobs) h =
    elim (p j) as (λ v. cond v 1 0 + count_by p jobs ≡ 0 → (v || list_any p jobs) ≡ false)
    [ true ↦ λ a. absurd (omega arith) | false ↦ λ a. list_any-none p jobs (omega arith) ] (sym (sum_by-cons (one_if p) j jobs) ∙ h)

pub list_any-some : (p : JobRecord → Bool) (jobs : List JobRecord) → 0 < count_by p jobs → list_any p jobs ≡ true
list_any-some p [] h = absurd (omega arith)
list_any-some p (j ∷ jobs) h =
    elim (p j) as (λ v. 0 < cond v 1 0 + count_by p jobs → (v || list_any p jobs) ≡ true)
    [ true ↦ λ a. refl | false ↦ λ a. list_any-some p jobs (omega arith) ] (omega (arith, h, sum_by-cons (one_if p) j jobs))

-- One more

pub push_before : (jobs : List JobRecord) (job : JobRecord) (n : ℕ) (other : JobRecord) → slice_get jobs n ≡ Some other
    → slice_get (jobs ++ job ∷ []) n ≡ Some other
push_before [] job n other e = absurd cc
push_before (j ∷ jobs) job zero other e = e
push_before (j ∷ jobs) job (suc n) other e = push_before jobs job n other e

pub push_here : (jobs : List JobRecord) (job : JobRecord) → slice_get (jobs ++ job ∷ []) (length jobs) ≡ Some job
push_here [] job = refl
push_here (j ∷ jobs) job = push_here jobs job

-- a job of the longer list is one of the shorter one, or the new one
pub push_cases : (jobs : List JobRecord) (job : JobRecord) (n : ℕ) (other : JobRecord) → slice_get (jobs ++ job ∷ []) n ≡ Some other
    → (slice_get jobs n ≡ Some other) ⊎ ((n ≡ length jobs) × (job ≡ other))
push_cases [] job zero other e = inr (refl, cc)
push_cases [] job (suc n) other e = absurd cc
push_cases (j ∷ jobs) job zero other e = inl e
push_cases (j ∷ jobs) job (suc n) other e =
    elim (push_cases jobs job n other e) [ inl h ↦ inl h | inr h ↦ inr (ap suc h.0, h.1) ]

-- jobs are equal that are equal by number
pub same_at : (n m : ℕ) (jobs : List JobRecord) (job other : JobRecord) → n ≡ m → slice_get jobs n ≡ Some job → slice_get jobs m
    ≡ Some other → job ≡ other
same_at n m jobs job other same e f = let g : slice_get jobs n ≡ slice_get jobs m = ap (slice_get jobs) same in cc
