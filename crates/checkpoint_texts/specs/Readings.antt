-- What a call that reads a checkpoint gave, apart from what its text says.
use Rattle.std.specs.Prelude.{◌≡◌, ◌≢◌, ◌⊎◌, ⊤, ℕ, Bool, true, Option, Some, None, Result, Ok, Err}
use Rattle.checkpoint_texts.specs.declared.fault.RecordFault.{RecordFault}
use Rattle.checkpoint_texts.specs.declared.fault.TextFault.{TextFault}
use Rattle.checkpoint_texts.specs.declared.fault.TextFault.TheVariants.{NoMemory, ReadFault, Broken}

-- the second step, if the first gave a value
infixl 10 ◌>>=◌
abbrev pub ◌>>=◌ : {A B : Type 0} → Result A TextFault → (A → Result B TextFault) → Result B TextFault
(Ok x) >>= f = f x
(Err e) >>= f = Err e

-- this field of this record is at fault
abbrev pub broken_field : {A : Type 0} → ℕ → ℕ → RecordFault → Result A TextFault
broken_field record_no field fault = Err (Broken record_no field fault)

-- the value, or that fault
abbrev pub or_broken : {A : Type 0} → ℕ → ℕ → RecordFault → Option A → Result A TextFault
or_broken record_no field fault None = broken_field record_no field fault
or_broken record_no field fault (Some x) = Ok x

-- no fault of a text: memory ran out, or the reader failed
abbrev pub IsOutside : TextFault → Type 0
IsOutside e = (e ≡ NoMemory) ⊎ (e ≡ ReadFault)

-- what a call gave, seen by view, is what the text says, unless memory ran out
abbrev pub Shows : {X Y : Type 0} → (X → Y) → Result X TextFault → Result Y TextFault → Type 0
Shows view (Ok x) read = read ≡ Ok (view x)
Shows view (Err e) read = (e ≡ NoMemory) ⊎ (read ≡ Err e)

-- a call gave what the text says, if that is known, and memory and the reader didn't fail
abbrev pub Says : {X : Type 0} → Option (Result X TextFault) → Result X TextFault → Type 0
Says None result = ⊤
Says (Some read) (Ok x) = read ≡ Ok x
Says (Some read) (Err e) = IsOutside e ⊎ (read ≡ Err e)

-- whether a reader of records has failed: ReadFault comes where it then has, and where it fails no other fault comes but
-- a lack of memory; else it stays as it was
abbrev pub FailsAtReadFault : {X : Type 0} → Bool → Bool → Result X TextFault → Type 0
FailsAtReadFault old new (Ok x) = new ≡ old
FailsAtReadFault old new (Err e) = (IsOutside e × (new ≡ true)) ⊎ ((e ≢ ReadFault) × (new ≡ old))
