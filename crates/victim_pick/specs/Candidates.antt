-- The blocks that a collection may take.
use Rattle.std.specs.Prelude.{◌≡◌, ℕ, ◌-◌, ◌≤◌, List, Option, Some, None, slice_index_or, slice_set, unwrap_or}

-- the pages of a block, and by block the count of valid pages and the finished erases of a candidate
pub record Candidates : Type 0 where
  pub pages : ℕ
  pub counts : List (Option ℕ)
  pub erases : List (Option ℕ)

-- the valid pages of a block, if it is a candidate
abbrev pub count_of : List (Option ℕ) → ℕ → Option ℕ
count_of counts block = slice_index_or counts block None

-- the finished erases of a candidate, and 0 for any other block
abbrev pub erases_of : List (Option ℕ) → ℕ → ℕ
erases_of erases block = unwrap_or (slice_index_or erases block None) 0

-- one valid page less
abbrev pub one_page_less : Option ℕ → Option ℕ
one_page_less None = None
one_page_less (Some valid) = Some (valid - 1)

-- no block is a candidate
abbrev pub HasNone : List (Option ℕ) → Type 0
HasNone counts = (block : ℕ) → count_of counts block ≡ None

-- no candidate has fewer valid pages, and of those with as many none has fewer erases, and this is the first of those
pub record IsLeast (counts erases : List (Option ℕ)) (block : ℕ) : Type 0 where
  pub valid : ℕ
  pub counted : count_of counts block ≡ Some valid
  pub fewest : (other fewer : ℕ) → count_of counts other ≡ Some fewer → valid ≤ fewer
  pub least_worn : (other : ℕ) → count_of counts other ≡ Some valid → erases_of erases block ≤ erases_of erases other
  pub first : (other : ℕ) → count_of counts other ≡ Some valid → erases_of erases other ≡ erases_of erases block → block ≤ other

-- the counts, or the erases, without this candidate
abbrev pub without : Option ℕ → List (Option ℕ) → List (Option ℕ)
without None counts = counts
without (Some block) counts = slice_set counts block None
