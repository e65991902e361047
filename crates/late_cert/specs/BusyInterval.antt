-- The busy interval before a completion that carried no greater key, and what makes its jobs a certificate.
use Rattle.std.specs.Prelude.{◌≡◌, ℕ, zero, suc, ◌<◌, ◌≤◌, Bool, true, false, if◌then◌else◌, ◌==◌, nat_lt, nat_le, ◌&&◌, ◌||◌, ◌↔◌, List}
use Rattle.std.specs.Prelude.{length, map, Option, Some, None, filter}
use Rattle.std.specs.List.Sorted.{IsStrictlyIncreasing}
use Rattle.late_cert.specs.declared.rows.JobRow.{JobRow}
use Rattle.late_cert.specs.Schedule.{Slots, slot_at, is_named, work_in, completion_in}
use Rattle.late_cert.specs.Rows.{RowsRise, is_known, is_done, release_of, due_of, work_of, completion_of}
use Rattle.late_cert.specs.Bound.{is_listed}

-- the key (deadline, number) is not above the other; the smaller key goes first
abbrev pub key_at_most : ℕ → ℕ → ℕ → ℕ → Bool
key_at_most due j due' k = nat_lt due due' || ((due == due') && nat_le j k)

-- the slot carries a number with a row, whose key is not above that of j
abbrev pub is_within : List JobRow → ℕ → Option ℕ → Bool
is_within rows j None = false
is_within rows j (Some k) = is_known rows k && key_at_most (due_of rows k) k (due_of rows j) j

-- the busy interval of a done job j: it starts at the least slot from which on each slot below the completion
-- carries a key not above that of j, and its jobs are the numbers carried there, rising
pub record IsBusyInterval (rows : List JobRow) (carried : Slots) (j start completion : ℕ) (jobs : List ℕ) : Type 0 where
  pub ordered : start ≤ completion
  pub carries : (t : ℕ) → start ≤ t → t < completion → is_within rows j (slot_at carried t) ≡ true
  pub least : (t : ℕ) → start ≡ suc t → is_within rows j (slot_at carried t) ≡ false
  pub rising : IsStrictlyIncreasing jobs
  pub listed : (k : ℕ) → (is_listed jobs k ≡ true) ↔ ((t : ℕ) × (start ≤ t) × (t < completion) × (slot_at carried t ≡ Some k))

-- the slots carried the jobs of the rows: what is carried has a row and was released, the rows say how often
-- it was carried and where a done job ended, and while a released job was not done, no slot was idle or carried a
-- greater key than the job's
pub record CarriesLeastKeys (rows : List JobRow) (carried : Slots) : Type 0 where
  pub rising : RowsRise rows
  pub known : (t j : ℕ) → slot_at carried t ≡ Some j → is_known rows j ≡ true
  pub released : (t j : ℕ) → slot_at carried t ≡ Some j → release_of rows j ≤ t
  pub works : (j : ℕ) → is_known rows j ≡ true → work_of rows j ≡ work_in carried j
  pub begun : (j : ℕ) → is_done rows j ≡ true → 0 < work_of rows j
  pub completes : (j : ℕ) → is_done rows j ≡ true → completion_of rows j ≡ completion_in carried j
  pub least : (t j : ℕ) → t < length carried → is_known rows j ≡ true → release_of rows j ≤ t
      → (is_done rows j ≡ true → t < completion_of rows j)
      → is_within rows j (slot_at carried t) ≡ true

-- the start of the busy interval of j that ends below n
abbrev pub start_of : List JobRow → Slots → ℕ → ℕ → ℕ
start_of rows carried j zero = 0
start_of rows carried j (suc n) = if is_within rows j (slot_at carried n) then start_of rows carried j n else suc n

-- some slot from start on, below n, carries k
abbrev pub is_carried : Slots → ℕ → ℕ → ℕ → Bool
is_carried carried start zero k = false
is_carried carried start (suc n) k = (nat_le start n && is_named k (slot_at carried n)) || is_carried carried start n k

-- the numbers carried there, rising where the rows do
abbrev pub jobs_of : List JobRow → Slots → ℕ → ℕ → List ℕ
jobs_of rows carried start n = filter (is_carried carried start n) (map (λ (row : JobRow). row.number) rows)
