-- How a report is read, record by record.
use Rattle.std.proofs.Common.{◌≡◌, ℕ, ◌+◌, ◌<◌, ◌≤◌, List, [], ◌∷◌, ◌++◌, Bool, true, false, Option, Some, None, Ok, Err, length}
use Rattle.std.proofs.Common.{take, drop, get_or, set, refl, sym, ap, ◌∙◌, ◌⊎◌, inl, inr, append_assoc, arith}
use Rattle.std.specs.Prelude.{option_map}
use Rattle.std.proofs.lemmas.Bool.{cases_Bool}
use Rattle.report_texts.proofs.RecordLaws.{reads-broken}
use Rattle.std.proofs.lemmas.List.{append-nil, drop_all, drop_more, drop-set-lt, take_all, take_more_set}
use Rattle.slot_types.specs.declared.refusals.Refusal.{Refusal}
use Rattle.slot_types.specs.declared.refusals.Refusal.TheVariants.{ReportText}
use Rattle.text_base.specs.Readings.{IsOutside}
use Rattle.report_texts.specs.RecordsLeft.{Loses, Stays, hand_of, unless_cert, with_hand}
use Rattle.report_texts.specs.ReportOf.{Gathered, Reading, Reads, Says, all_dies, broken_at, certs_for, certs_from, gathered_with, rows_from, with_die}
use Rattle.text_base.specs.CsvRecords.{Fields}
use Rattle.report_texts.specs.Worst.{is_cert, worst_of}
use Rattle.report_texts.specs.declared.reports.DieReport.{DieReport}

-- these dies, and then those that are read
abbrev pub front_dies : List DieReport → Reading → Reading
front_dies front (Ok dies) = Ok (front ++ dies)
front_dies front (Err e) = Err e

-- the record at hand, where it isn't of a certificate
unless-cert : (o : Option Fields) (fields : Fields) → unless_cert o ≡ Some fields → (o ≡ Some fields) × (is_cert fields ≡ false)
unless-cert None fields e = absurd (cc e)
unless-cert (Some own) fields e = elim (cases_Bool (is_cert own)) [
  | inl yes_cert ↦ absurd (cc (rw yes_cert at e))
  | inr other ↦
      let is : own ≡ fields = cc (rw other at e) in
      (ap Some is, rw (← is) other)
]

row-then : (g g2 : Gathered) (line : ℕ) (fields : Fields) (rest : List Fields) → is_cert fields ≡ false → gathered_with g fields ≡ Some g2
    → rows_from g line (fields ∷ rest) ≡ rows_from g2 (line + 1) rest
unfolding rows_from
row-then g g2 line fields rest other more = rw (other, more) refl

-- one more row
pub rows-more : (g g2 : Gathered) (line line2 : ℕ) (found : Bool) (own fields : Fields) (left new : Option (List Fields))
    (whole : Option Reading)
    → unless_cert (hand_of found own) ≡ Some fields → gathered_with g fields ≡ Some g2 → line2 ≡ line + 1
    → Loses (with_hand found own left) new
    → Stays whole (option_map (rows_from g line) (with_hand found own left)) → Stays whole (option_map (rows_from g2 line2) new)
rows-more g g2 line line2 found own fields left new None at more next loses so-far = tt
rows-more g g2 line line2 false own fields left new (Some w) at more next loses so-far = absurd (cc at)
rows-more g g2 line line2 true own fields None new (Some w) at more next loses so-far = absurd (cc so-far)
rows-more g g2 line line2 true own fields (Some rest) new (Some w) at more next loses so-far =
    let row = unless-cert (Some own) fields at in
    let is : own ≡ fields = cc row.0 in
    let here : rows_from g line (own ∷ rest) ≡ w = cc so-far in
    rw (loses, next) (ap Some (sym (row-then g g2 line fields rest row.1 more) ∙ ap (λ f. rows_from g line (f ∷ rest)) (sym is) ∙ here))

row-else : (g : Gathered) (line : ℕ) (fields : Fields) (rest : List Fields) → is_cert fields ≡ false → gathered_with g fields ≡ None
    → rows_from g line (fields ∷ rest) ≡ broken_at line
unfolding rows_from
row-else g line fields rest other none = rw (other, none) refl

-- a record that is no row that may come next
pub rows-broken : {A : Type 0} (after : A → List Fields → Reading) (g : Gathered) (line : ℕ) (found : Bool) (own fields : Fields)
    (left new : Option (List Fields))
    → unless_cert (hand_of found own) ≡ Some fields → gathered_with g fields ≡ None
    → Reads (rows_from g line) after (with_hand found own left) new (Err (ReportText line))
rows-broken after g line found own fields left new at none =
    let row = unless-cert (hand_of found own) fields at in
    reads-broken (rows_from g line) after found own fields left new (ReportText line) row.0 (λ rest. row-else g line fields rest row.1 none)

-- no row is left
pub rows-end : (g : Gathered) (dies : List DieReport) (line : ℕ) (found : Bool) (own : Fields) (left : Option (List Fields))
    → unless_cert (hand_of found own) ≡ None
    → dies ≡ all_dies g → Reads (rows_from g line) (λ ds. certs_from ds line) (with_hand found own left) (with_hand found own left)
    (Ok dies)
unfolding rows_from
rows-end g dies line false own left at are = ([], refl, rw are refl)
rows-end g dies line true own None at are = tt
rows-end g dies line true own (Some rest) at are = elim (cases_Bool (is_cert own)) [
  | inl yes_cert ↦ (own ∷ rest, refl, rw (yes_cert, are) refl)
  | inr other ↦ absurd (cc (rw other at at))
]

front-more : (front : List DieReport) (die : DieReport) (more : Reading) → front_dies (front ++ die ∷ []) more
    ≡ front_dies front (with_die die more)
front-more front die (Ok dies) = ap Ok (append_assoc front (die ∷ []) dies)
front-more front die (Err e) = refl

certs-first : (dies : List DieReport) (i : ℕ) (old : DieReport) (line : ℕ) (records : List Fields) → i < length dies → old
    ≡ get_or dies i old
    → certs_from (drop i dies) line records ≡ certs_for old (certs_from (drop (i + 1) dies)) (worst_of old.rows) line records
unfolding certs_from
certs-first dies i old line records below at = rw (drop_more dies i old below, ← at) refl

-- the certificate of one more die
pub certs-more : (dies : List DieReport) (i : ℕ) (old die : DieReport) (line line2 : ℕ) (left new : Option (List Fields))
    (whole : Option Reading) → i < length dies → old ≡ get_or dies i old
    → Reads (certs_for old (certs_from (drop (i + 1) dies)) (worst_of old.rows) line)
    (λ (u : Unit {0}) rest. with_die die (certs_from (drop (i + 1) dies) line2 rest)) left new (Ok tt)
    → Stays whole (option_map (λ records. front_dies (take i dies) (certs_from (drop i dies) line records)) left)
    → Stays whole (option_map (λ records. front_dies (take (i + 1) (set dies i die))
    (certs_from (drop (i + 1) (set dies i die)) line2 records)) new)
certs-more dies i old die line line2 left new None below at step so-far = tt
certs-more dies i old die line line2 None new (Some w) below at step so-far = absurd (cc so-far)
certs-more dies i old die line line2 (Some records) new (Some w) below at step so-far =
    let here : front_dies (take i dies) (certs_from (drop i dies) line records) ≡ w = cc so-far in
    let first : certs_from (drop i dies) line records ≡ with_die die (certs_from (drop (i + 1) dies) line2 step.0) = certs-first dies i old
    line records below at ∙ step.2 in
    rw (step.1, take_more_set dies i die below, drop-set-lt (i + 1) dies i die (omega arith))
    (ap Some (front-more (take i dies) die (certs_from (drop (i + 1) dies) line2 step.0) ∙ ap (front_dies (take i dies)) (sym first)
    ∙ here))

-- the certificate of one more die is none
pub certs-fault : {A : Type 0} (after : A → List Fields → Reading) (dies : List DieReport) (i : ℕ) (old : DieReport) (line : ℕ)
    (left new : Option (List Fields)) (whole : Option Reading) (e : Refusal)
    → i < length dies → old ≡ get_or dies i old
    → Reads (certs_for old (certs_from (drop (i + 1) dies)) (worst_of old.rows) line) after left new (Err e)
    → Stays whole (option_map (λ records. front_dies (take i dies) (certs_from (drop i dies) line records)) left)
    → Says whole (Err e)
certs-fault after dies i old line left new None e below at step so-far = tt
certs-fault after dies i old line None new (Some w) e below at step so-far = absurd (cc so-far)
certs-fault after dies i old line (Some records) new (Some w) e below at (inl out) so-far = inl out
certs-fault after dies i old line (Some records) new (Some w) e below at (inr bad) so-far =
    let here : front_dies (take i dies) (certs_from (drop i dies) line records) ≡ w = cc so-far in
    inr (sym here ∙ ap (front_dies (take i dies)) (certs-first dies i old line records below at ∙ bad))

-- a record after the certificates
pub certs-over : (dies : List DieReport) (i line : ℕ) (found : Bool) (own : Fields) (left : Option (List Fields)) (whole : Option Reading)
    → length dies ≤ i → found ≡ true
    → Stays whole (option_map (λ records. front_dies (take i dies) (certs_from (drop i dies) line records)) (with_hand found own left))
    → Says whole (Err (ReportText line))
unfolding certs_from
certs-over dies i line found own left None above at so-far = tt
certs-over dies i line false own left (Some w) above at so-far = absurd (cc at)
certs-over dies i line true own None (Some w) above at so-far = absurd (cc so-far)
certs-over dies i line true own (Some rest) (Some w) above at so-far =
    let here : front_dies (take i dies) (certs_from (drop i dies) line (own ∷ rest)) ≡ w = cc so-far in
    inr (sym here ∙ rw (drop_all i dies above) refl)

-- no record is left
pub certs-end : (dies : List DieReport) (i line : ℕ) (found : Bool) (own : Fields) (left : Option (List Fields)) (whole : Option Reading)
    → length dies ≤ i → found ≡ false
    → Stays whole (option_map (λ records. front_dies (take i dies) (certs_from (drop i dies) line records)) (with_hand found own left))
    → Says whole (Ok dies)
unfolding certs_from
certs-end dies i line found own left None above at so-far = tt
certs-end dies i line true own left (Some w) above at so-far = absurd (cc at)
certs-end dies i line false own left (Some w) above at so-far =
    let here : front_dies (take i dies) (certs_from (drop i dies) line []) ≡ w = cc so-far in
    sym here ∙ rw (drop_all i dies above, take_all i dies above, append-nil dies) refl

late : {before here : Reading} (e : Refusal) → before ≡ here → IsOutside e ⊎ (here ≡ Err e) → IsOutside e ⊎ (before ≡ Err e)
late e same (inl out) = inl out
late e same (inr bad) = inr (same ∙ bad)

pub says-then : {A : Type 0} (before : List Fields → Reading) (mid : A → List Fields → Reading) (o n : Option (List Fields)) (x : A)
    (r : Reading)
    → Reads before mid o n (Ok x) → Says (option_map (mid x) n) r → Says (option_map before o) r
says-then before mid None n x r one said = tt
says-then before mid (Some records) n x (Ok report) one said = one.2 ∙ rw one.1 at said
says-then before mid (Some records) n x (Err e) one said = late e one.2 (rw one.1 at said)
