-- Runners, what is sent to them, and what they ran.
use Rattle.std.specs.Prelude.{ℕ, zero, suc, List, [], ◌∷◌, ◌++◌}
use Rattle.std.specs.List.{FoldsTo}

-- a runner as it began, and what was sent to it
pub record SentTo (M B : Type 0) : Type 0 where
  pub first : M
  pub batches : List B

abbrev pub sent_to : {M B : Type 0} → M → List B → SentTo M B
sent_to first batches = record { first = first; batches = batches }

-- runners to which nothing was sent
abbrev pub nothing_sent : {M B : Type 0} → List M → List (SentTo M B)
nothing_sent [] = []
nothing_sent (first ∷ firsts) = sent_to first [] ∷ nothing_sent firsts

-- a batch was sent to the runner of a place
abbrev pub with_batch : {M B : Type 0} → ℕ → B → List (SentTo M B) → List (SentTo M B)
with_batch place batch [] = []
with_batch zero batch (s ∷ sents) = sent_to s.first (s.batches ++ batch ∷ []) ∷ sents
with_batch (suc place) batch (s ∷ sents) = s ∷ with_batch place batch sents

-- it has run all that was sent to it, one batch after the other
abbrev pub HasRunAll : {M B : Type 0} → (M → B → M → Type 0) → SentTo M B → M → Type 0
HasRunAll runs s runner = FoldsTo runs s.first s.batches runner

-- it was given these batches since it began
abbrev pub WasGiven : {M B : Type 0} → (M → Type 0) → (M → B → M → Type 0) → List B → M → Type 0
WasGiven {M} begins runs before runner = (first : M) × begins first × FoldsTo runs first before runner
