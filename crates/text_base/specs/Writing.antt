-- How much of a text a writer took, and whether it failed.
use Rattle.std.specs.Prelude.{◌≡◌, ◌⊎◌, ◌↔◌, ⊤, ℕ, ◌<◌, List, [], ◌++◌, length, take, Bool, true, false, Option, None, Some}
use Rattle.std.specs.Prelude.{Result, Err, IfErr, OnOk}
use Rattle.std.specs.Io.KnownBytes.{Appends}
use Rattle.slot_types.specs.declared.refusals.Refusal.{Refusal}
use Rattle.slot_types.specs.declared.refusals.Refusal.TheVariants.{NoMemory, WriteFault}
use Rattle.text_base.specs.Flags.{KeepsFlag, SetsFlag}

-- known bytes grew by a front of a text that isn't the whole of it
abbrev pub AppendsPart : Option (List ℕ) → Option (List ℕ) → List ℕ → Type 0
AppendsPart old new text = (n : ℕ) × (n < length text) × Appends old new (take n text)

-- known bytes grew by the front of a text, of which this is left
abbrev pub AppendsUpTo : Option (List ℕ) → Option (List ℕ) → List ℕ → List ℕ → Type 0
AppendsUpTo old new text left = (front : List ℕ) × (text ≡ front ++ left) × Appends old new front

-- of what prints so after nothing a front was written, and not the whole
abbrev pub InPart : (Option (List ℕ) → Option (List ℕ) → Type 0) → Option (List ℕ) → Option (List ℕ) → Type 0
InPart prints old new = (whole : List ℕ) × prints (Some []) (Some whole) × AppendsPart old new whole

-- nothing was written; or the writer failed, and took a front, and not the whole
abbrev pub IsNotWhole : {W : Type 0} → (W → Option (List ℕ)) → (W → Option Bool) → (Option (List ℕ) → Option (List ℕ) → Type 0) → W → W
    → Type 0
IsNotWhole contents has_failed prints old new =
    (new ≡ old) ⊎ (SetsFlag (has_failed old) (has_failed new) × InPart prints (contents old) (contents new))

-- the writer failed, and took a front of what prints so, and not the whole
pub record IsCut {W : Type 0} (contents : W → Option (List ℕ)) (has_failed : W → Option Bool)
    (prints : Option (List ℕ) → Option (List ℕ) → Type 0) (old new : W) (refusal : Refusal) : Type 0 where
  pub refusal_is : refusal ≡ WriteFault
  pub failed : SetsFlag (has_failed old) (has_failed new)
  pub part : InPart prints (contents old) (contents new)

-- a refusal comes so, and nothing was written; or the writer failed
abbrev pub RefusesOrCuts : {W : Type 0} → (W → Option (List ℕ)) → (W → Option Bool) → (Refusal → Type 0)
    → (Option (List ℕ) → Option (List ℕ) → Type 0) → W → W → Refusal → Type 0
RefusesOrCuts contents has_failed refuses prints old new refusal =
    (refuses refusal × (new ≡ old)) ⊎ IsCut contents has_failed prints old new refusal

-- the clauses of a call that writes a text, and may be out of memory
pub record EndsWriting {W : Type 0} (contents : W → Option (List ℕ)) (has_failed : W → Option Bool) (text : List ℕ) (old : W)
    (result : Result (Unit {0}) Refusal) (new : W) : Type 0 where
  pub written : OnOk result (Appends (contents old) (contents new) text)
  pub works : OnOk result (KeepsFlag (has_failed old) (has_failed new))
  pub memory : result ≡ Err NoMemory → new ≡ old
  pub part : result ≡ Err WriteFault → AppendsPart (contents old) (contents new) text
  pub failed : result ≡ Err WriteFault → SetsFlag (has_failed old) (has_failed new)
  pub refused : IfErr result (λ refusal. (refusal ≡ NoMemory) ⊎ (refusal ≡ WriteFault))

-- two such calls of one writer end in one way, except for memory and for where the writer fails
pub record HaveOneEnd {W : Type 0} (contents : W → Option (List ℕ)) (has_failed : W → Option Bool) (old : W)
    (one other : Result (Unit {0}) Refusal) (left right : W) : Type 0 where
  pub text : (known : List ℕ) → contents old ≡ Some known → OnOk one (OnOk other (contents left ≡ contents right))
  pub memory : one ≡ Err NoMemory → other ≡ Err NoMemory → left ≡ right
  pub answers : (one ≡ other) ⊎ (one ≡ Err NoMemory) ⊎ (one ≡ Err WriteFault) ⊎ (other ≡ Err NoMemory) ⊎ (other ≡ Err WriteFault)
  -- of a writer whose flag wasn't set: WriteFault comes exactly where it is set, and so the flag tells it
  pub fault : has_failed old ≡ Some false → (one ≡ Err WriteFault) ↔ (has_failed left ≡ Some true)
  pub flagged : has_failed old ≡ Some false → has_failed left ≡ has_failed right
      → (one ≡ other) ⊎ (one ≡ Err NoMemory) ⊎ (other ≡ Err NoMemory)
