-- What a call that reads a text gave, apart from what the text says.
use Rattle.std.specs.Prelude.{◌≡◌, ◌≢◌, ◌⊎◌, Bool, true, Result, Ok, Err}
use Rattle.slot_types.specs.declared.refusals.Refusal.{Refusal}
use Rattle.slot_types.specs.declared.refusals.Refusal.TheVariants.{NoMemory, ReadFault}

-- the second step, if the first gave a value
infixl 10 ◌>>=◌
abbrev pub ◌>>=◌ : {A B : Type 0} → Result A Refusal → (A → Result B Refusal) → Result B Refusal
(Ok x) >>= f = f x
(Err e) >>= f = Err e

-- what a call gave, seen by view, is what the text says, unless memory ran out
abbrev pub Shows : {X Y : Type 0} → (X → Y) → Result X Refusal → Result Y Refusal → Type 0
Shows view (Ok x) read = read ≡ Ok (view x)
Shows view (Err e) read = (e ≡ NoMemory) ⊎ (read ≡ Err e)

abbrev pub GivesReading : {X : Type 0} → Result X Refusal → Result X Refusal → Type 0
GivesReading result read = Shows (λ x. x) result read

-- a refusal that is no fault of a text: memory ran out, or the reader failed
abbrev pub IsOutside : Refusal → Type 0
IsOutside refusal = (refusal ≡ NoMemory) ⊎ (refusal ≡ ReadFault)

-- whether a reader of records has failed: ReadFault comes where it then has, and where it fails no other refusal comes but a lack of
-- memory; else it stays as it was
abbrev pub FailsAtReadFault : {X : Type 0} → Bool → Bool → Result X Refusal → Type 0
FailsAtReadFault old new (Ok x) = new ≡ old
FailsAtReadFault old new (Err e) = (IsOutside e × (new ≡ true)) ⊎ ((e ≢ ReadFault) × (new ≡ old))
