-- How a checkpoint is read, record by record.
use Rattle.std.proofs.Common.{◌≡◌, ℕ, ◌+◌, ◌<◌, ◌≤◌, List, [], ◌∷◌, Bool, true, false, Option, Some, None, Ok, Err, refl, sym, ap, ◌∙◌}
use Rattle.std.proofs.Common.{◌⊎◌, inl, inr, arith}
use Rattle.std.specs.Prelude.{option_map, OnOk, IfSome, nat_lt}
use Rattle.report_texts.specs.RecordsLeft.{Stays}
use Rattle.text_base.specs.CsvRecords.{Fields, TakesRow}
use Rattle.text_base.specs.CsvRecordsLeft.{KeepsFit}
use Rattle.checkpoint_texts.specs.CheckpointOf.{Reading, checkpoint_from, dies_from, header_of, most_records, whole_at}
use Rattle.checkpoint_texts.specs.Gathering.{between, with_record}
use Rattle.checkpoint_texts.specs.Readings.{Says}
use Rattle.checkpoint_texts.specs.declared.fault.RecordFault.TheVariants as fault
use Rattle.checkpoint_texts.specs.declared.fault.TextFault.{TextFault}
use Rattle.checkpoint_texts.specs.declared.fault.TextFault.TheVariants.{NoMemory, Broken}
use Rattle.checkpoint_texts.specs.declared.gathered.Gathered.{Gathered}

-- the numbers of records
pub low-line : (n : ℕ) → n ≤ 2105481 → nat_lt most_records n ≡ false
low-line n low = grind (arith)

pub high-line : (n : ℕ) → 2105481 < n → nat_lt most_records n ≡ true
high-line n high = grind (arith)

pub says-same : (read r : Reading) → read ≡ r → Says (Some read) r
says-same read (Ok x) same = same
says-same read (Err e) same = inr same

-- what is known of the records so far says the same
said-on : (whole : Option Reading) (here r : Reading) → Stays whole (Some here) → Says (Some here) r → Says whole r
said-on None here r so-far said = tt
said-on (Some w) here (Ok x) so-far said = let same : here ≡ w = cc so-far in sym same ∙ said
said-on (Some w) here (Err e) so-far (inl out) = inl out
said-on (Some w) here (Err e) so-far (inr bad) = let same : here ≡ w = cc so-far in inr (sym same ∙ bad)

record-then : (g g2 : Gathered) (n : ℕ) (fields : Fields) (rest : List Fields) → nat_lt most_records n ≡ false → with_record n g fields ≡ Ok g2
    → dies_from g n (fields ∷ rest) ≡ dies_from g2 (n + 1) rest
unfolding dies_from
record-then g g2 n fields rest low is = rw (low, is) refl

record-fault : (g : Gathered) (n : ℕ) (fields : Fields) (rest : List Fields) (e : TextFault) → nat_lt most_records n ≡ false
    → with_record n g fields ≡ Err e → dies_from g n (fields ∷ rest) ≡ Err e
unfolding dies_from
record-fault g n fields rest e low is = rw (low, is) refl

record-over : (g : Gathered) (n : ℕ) (fields : Fields) (rest : List Fields) → nat_lt most_records n ≡ true
    → dies_from g n (fields ∷ rest) ≡ Err (Broken n 1 fault.TooMany)
unfolding dies_from
record-over g n fields rest high = rw high refl

record-none : (g : Gathered) (n : ℕ) → dies_from g n [] ≡ whole_at n g
unfolding dies_from
record-none g n = refl

-- one more record
pub dies-more : (g g2 : Gathered) (n : ℕ) (fields : Fields) (left new : Option (List Fields)) (whole : Option Reading)
    → TakesRow left new true fields → nat_lt most_records n ≡ false → with_record n g fields ≡ Ok g2
    → Stays whole (option_map (dies_from g n) left) → Stays whole (option_map (dies_from g2 (n + 1)) new)
dies-more g g2 n fields left new None takes low is so-far = tt
dies-more g g2 n fields None new (Some w) takes low is so-far = absurd (cc so-far)
dies-more g g2 n fields (Some rows) new (Some w) takes low is so-far =
    rw takes.1 (ap Some (sym (record-then g g2 n fields takes.0 low is)) ∙ (rw takes.2 at so-far))

-- a record that adds nothing
pub dies-fault : (g : Gathered) (n : ℕ) (fields : Fields) (left new : Option (List Fields)) (whole : Option Reading) (e : TextFault)
    → TakesRow left new true fields → nat_lt most_records n ≡ false → (e ≡ NoMemory) ⊎ (with_record n g fields ≡ Err e)
    → Stays whole (option_map (dies_from g n) left) → Says whole (Err e)
dies-fault g n fields left new None e takes low why so-far = tt
dies-fault g n fields None new (Some w) e takes low why so-far = absurd (cc so-far)
dies-fault g n fields (Some rows) new (Some w) e takes low (inl memory) so-far = inl (inl memory)
dies-fault g n fields (Some rows) new (Some w) e takes low (inr is) so-far =
    said-on (Some w) (dies_from g n rows) (Err e) so-far (inr (rw takes.2 (record-fault g n fields takes.0 e low is)))

-- a record too many
pub dies-over : (g : Gathered) (n : ℕ) (fields : Fields) (left new : Option (List Fields)) (whole : Option Reading)
    → TakesRow left new true fields → nat_lt most_records n ≡ true
    → Stays whole (option_map (dies_from g n) left) → Says whole (Err (Broken n 1 fault.TooMany))
dies-over g n fields left new None takes high so-far = tt
dies-over g n fields None new (Some w) takes high so-far = absurd (cc so-far)
dies-over g n fields (Some rows) new (Some w) takes high so-far =
    said-on (Some w) (dies_from g n rows) (Err (Broken n 1 fault.TooMany)) so-far
    (inr (rw takes.2 (record-over g n fields takes.0 high)))

-- no record is left
pub dies-end : (g : Gathered) (n : ℕ) (fields : Fields) (left new : Option (List Fields)) (whole : Option Reading) (r : Reading)
    → TakesRow left new false fields → r ≡ whole_at n g
    → Stays whole (option_map (dies_from g n) left) → Says whole r
dies-end g n fields left new None r takes is so-far = tt
dies-end g n fields None new (Some w) r takes is so-far = absurd (cc so-far)
dies-end g n fields (Some rows) new (Some w) r takes is so-far =
    said-on (Some w) (dies_from g n rows) r so-far (says-same (dies_from g n rows) r (rw takes (record-none g n) ∙ sym is))

pub fits-then : (a b c : Option Bool) → Stays a b → KeepsFit b c true → Stays a c
fits-then None b c one two = tt
fits-then (Some fit) None c one two = absurd (cc one)
fits-then (Some fit) (Some own) c one two = two ∙ one

-- The header

pub header-read : (fields : Fields) (old mid : Option (List Fields)) (r : Reading) → TakesRow old mid true fields
    → header_of fields ≡ Ok tt → Says (option_map (dies_from (between []) 2) mid) r → Says (option_map checkpoint_from old) r
header-read fields None mid r takes is said = tt
header-read fields (Some rows) mid r takes is said =
    said-on (Some (checkpoint_from rows)) (dies_from (between []) 2 takes.0) r
    (ap Some (sym (rw (takes.2, is) refl))) (rw takes.1 at said)

pub header-fault : (fields : Fields) (old mid : Option (List Fields)) (e : TextFault) → TakesRow old mid true fields
    → header_of fields ≡ Err e → Says (option_map checkpoint_from old) (Err e)
header-fault fields None mid e takes is = tt
header-fault fields (Some rows) mid e takes is = inr (rw (takes.2, is) refl)

pub header-none : (fields : Fields) (old mid : Option (List Fields)) → TakesRow old mid false fields
    → Says (option_map checkpoint_from old) (Err (Broken 1 1 fault.Header))
header-none fields None mid takes = tt
header-none fields (Some rows) mid takes = inr (rw takes refl)

pub fits-beyond : (r : Reading) (a b : Option Bool) → KeepsFit a b true → OnOk r (IfSome b (λ fit. fit ≡ true))
    → OnOk r (IfSome a (λ fit. fit ≡ true))
fits-beyond (Err e) a b keeps fits = tt
fits-beyond (Ok x) None b keeps fits = tt
fits-beyond (Ok x) (Some fit) b keeps fits = rw keeps at fits
