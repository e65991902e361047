-- Entries that are laid down as they are used.
use Rattle.std.proofs.Common.{◌≡◌, ℕ, ◌+◌, ◌-◌, ◌<◌, ◌≤◌, List, [], Option, None, Some, ◌++◌, length, get_or, set, sym, ap, ◌∙◌}
use Rattle.std.proofs.Common.{append_assoc, length-append, arith, inl, inr}
use Rattle.std.specs.Prelude.{replicate}
use Rattle.std.proofs.lemmas.Bool.{cases_lt}
use Rattle.std.proofs.lemmas.List.{append-nil, get_or-append-add, get_or_append_left, get_or-replicate, get_or_past, length-replicate}
use Rattle.std.proofs.lemmas.List.{length-set, replicate-append-replicate, set-append_left}
use Rattle.page_map.specs.Tables.{entries_up_to}

abbrev empties : (X : Type 0) → ℕ → List (Option X)
empties X n = replicate n None

length-more : (X : Type 0) (count : ℕ) (entries : List (Option X)) → length (entries_up_to count entries) ≡ length entries + (count - length entries)
length-more X count entries = omega (
  arith,
  length-append entries (empties X (count - length entries)),
  length-replicate {A = Option X}
      (count - length entries) None,
)

laid-all : (X : Type 0) (count : ℕ) (entries : List (Option X)) → count ≤ length entries → entries_up_to count entries ≡ entries
laid-all X count entries enough =
    let none : count - length entries ≡ 0 = omega (arith, enough) in
    ap (λ (n : ℕ). entries ++ empties X n) none ∙ append-nil entries

pub laid-none : (X : Type 0) (count : ℕ) (entries : List (Option X)) → entries ≡ [] → entries_up_to count entries ≡ replicate count None
laid-none X count entries is =
    let whole : count - 0 ≡ count = omega arith in
    ap (λ (l : List (Option X)). entries_up_to count l) is ∙ ap (λ (n : ℕ). empties X n) whole

pub length-laid : {X : Type 0} (count : ℕ) (entries : List (Option X)) → length entries ≤ count → length (entries_up_to count entries) ≡ count
length-laid {X} count entries few = omega (arith, length-more X count entries, few)

pub some-laid : {X : Type 0} (count some : ℕ) (entries : List (Option X)) → some ≤ count → length entries ≤ count
    → length (entries_up_to some entries) ≤ count
some-laid {X} count some entries few entries_few = omega (arith, length-more X some entries, few, entries_few)

pub below-laid : {X : Type 0} (some i : ℕ) (entries : List (Option X)) → i < some → i < length (entries_up_to some entries)
below-laid {X} some i entries below = omega (arith, length-more X some entries, below)

none_at : (X : Type 0) (n i : ℕ) → get_or (empties X n) i None ≡ None
none_at X n i =
    elim (cases_lt i n) [
      | inl below ↦ get_or-replicate {A = Option X} n i None None below
      | inr past ↦ get_or_past {X = Option X} (empties X n) i None (omega (arith, past, length-replicate {A = Option X} n None))
    ]

-- an entry that is not laid down has nothing
pub read-laid : {X : Type 0} (count : ℕ) (entries : List (Option X)) (i : ℕ) → get_or (entries_up_to count entries) i None ≡ get_or entries i None
read-laid {X} count entries i =
    elim (cases_lt i (length entries)) [
      | inl below ↦ get_or_append_left entries (empties X (count - length entries)) None i below
      | inr past ↦
          let at : i ≡ length entries + (i - length entries) = omega (arith, past) in
          ap (λ (n : ℕ). get_or (entries_up_to count entries) n None) at
          ∙ get_or-append-add entries (empties X (count - length entries)) (i - length entries) None
          ∙ none_at X (count - length entries) (i - length entries) ∙ sym (get_or_past entries i None past)
    ]

-- to lay some down first changes nothing
laid-laid : (X : Type 0) (count some : ℕ) (entries : List (Option X)) → some ≤ count → length entries ≤ count
    → entries_up_to count (entries_up_to some entries) ≡ entries_up_to count entries
laid-laid X count some entries few entries_few =
    elim (cases_lt some (length entries)) [
      | inl less ↦ ap (λ (l : List (Option X)). entries_up_to count l) (laid-all X some entries (omega (arith, less)))
      | inr more ↦
          let n : ℕ = some - length entries in
          let rest : count - length (entries_up_to some entries) ≡ count - some = ap (λ (k : ℕ). count - k) (length-laid some entries more) in
          let sum : n + (count - some) ≡ count - length entries = omega (arith, more, few) in
          ap (λ (k : ℕ). entries_up_to some entries ++ empties X k) rest
          ∙ append_assoc entries (empties X n) (empties X (count - some))
          ∙ ap (λ (l : List (Option X)). entries ++ l) (replicate-append-replicate {A = Option X} n (count - some) None)
          ∙ ap (λ (k : ℕ). entries ++ empties X k) sum
    ]

-- a write into an entry that is laid down
pub set-laid : {X : Type 0} (count : ℕ) (entries : List (Option X)) (i : ℕ) (entry : Option X) → i < length entries
    → entries_up_to count (set entries i entry) ≡ set (entries_up_to count entries) i entry
set-laid {X} count entries i entry below =
    ap (λ (k : ℕ). set entries i entry ++ empties X (count - k)) (length-set entries i entry)
    ∙ sym (set-append_left entries (empties X (count - length entries)) i entry below)

-- a write into an entry that is laid down for it
pub write-laid : {X : Type 0} (count some : ℕ) (entries : List (Option X)) (i : ℕ) (entry : Option X) → some ≤ count → i < some
    → length entries ≤ count → entries_up_to count (set (entries_up_to some entries) i entry) ≡ set (entries_up_to count entries) i entry
write-laid {X} count some entries i entry few below entries_few =
    set-laid count (entries_up_to some entries) i entry (below-laid some i entries below)
    ∙ ap (λ (l : List (Option X)). set l i entry) (laid-laid X count some entries few entries_few)

-- an entry that has something is laid down
pub laid_below : {X : Type 0} (count : ℕ) (entries : List (Option X)) (i : ℕ) (x : X) → get_or (entries_up_to count entries) i None ≡ Some x → i
    < length entries
laid_below {X} count entries i x is =
    elim (cases_lt i (length entries)) [
      | inl below ↦ below
      | inr past ↦
          let read : get_or (entries_up_to count entries) i None ≡ get_or entries i None = read-laid count entries i in
          let none : get_or entries i None ≡ None = get_or_past entries i None past in
          absurd (cc)
    ]
