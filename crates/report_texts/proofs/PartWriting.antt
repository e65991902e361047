-- Texts that are written piece by piece, one after the other.
use Rattle.std.proofs.Common.{◌≡◌, ◌<◌, ◌+◌, ℕ, List, [], ◌∷◌, ◌++◌, length, take, drop, get_or, Option, Result, Ok, Err, OnErr, refl, sym, ap, ◌∙◌, subst}
use Rattle.std.proofs.Common.{append-nil, length-append, arith}
use Rattle.std.specs.Prelude.{OnOk, flat_map}
use Rattle.std.specs.Io.KnownBytes.{Appends}
use Rattle.std.proofs.KnownBytes.{Appends-trans}
use Rattle.std.proofs.Math.Seq.{take-append-add}
use Rattle.std.proofs.lemmas.List.{drop_more, take-append-le}
use Rattle.csv.specs.Writing.{default_writer, row_text}
use Rattle.report_texts.specs.ReportText.{cert_record, die_records, header_fields, records_text, report_text}
use Rattle.report_texts.specs.TextSoFar.{TextSoFar, certs_of_parts, joined_text, rows_of_parts, text_so_far}
use Rattle.report_texts.specs.declared.reports.DieReport.{DieReport}
use Rattle.report_texts.proofs.TextParts.{whole_is}
use Rattle.text_base.specs.Writing.{AppendsPart, AppendsUpTo}
use Rattle.text_base.proofs.WritingLaws.{up-to-more}

-- a front of the piece that comes next was written
pub part-after : (a b c : Option (List ℕ)) (text left piece rest : List ℕ) → AppendsUpTo a b text left → left ≡ piece ++ rest
    → AppendsPart b c piece → AppendsPart a c text
part-after a b c text left piece rest (front, parts, took) split (n, few, takes) =
    let whole : text ≡ front ++ (piece ++ rest) = parts ∙ ap (λ (l : List ℕ). front ++ l) split in
    let taken : take (length front + n) text ≡ front ++ take n piece
    = ap (take (length front + n)) whole ∙ (take-append-add front (piece ++ rest) n
    ∙ ap (λ (l : List ℕ). front ++ l) (take-append-le n piece rest (omega (arith, few)))) in (
      length front + n,
      omega (arith, few, ap length whole, length-append front (piece ++ rest), length-append piece rest),
      subst (Appends a c) (sym taken) (Appends-trans a b c front (take n piece) took takes),
    )

-- Two texts, one after the other

pub front-part : (a b : Option (List ℕ)) (first second : List ℕ) → AppendsPart a b first → AppendsPart a b (first ++ second)
front-part a b first second (n, few, takes) = (
  n,
  omega (arith, few, length-append first second),
  subst (Appends a b) (sym (take-append-le n first second (omega (arith, few)))) takes,
)

pub second-part : (a b c : Option (List ℕ)) (first second : List ℕ) → Appends a b first → AppendsPart b c second
    → AppendsPart a c (first ++ second)
second-part a b c first second took part =
    part-after a b c (first ++ second) second second [] (first, refl, took) (sym (append-nil second)) part

-- Pieces of a list, item by item

piece-cut : {A : Type 0} (f : A → List ℕ) (xs : List A) (i : ℕ) (x : A) → i < length xs → x ≡ get_or xs i x
    → flat_map f (drop i xs) ≡ f x ++ flat_map f (drop (i + 1) xs)
piece-cut f xs i x below is =
    ap (flat_map f) (drop_more xs i x below) ∙ ap (λ y. f y ++ flat_map f (drop (i + 1) xs)) (sym is)

pub piece-more : {A : Type 0} (f : A → List ℕ) (a b c : Option (List ℕ)) (xs : List A) (i : ℕ) (x : A) → i < length xs
    → x ≡ get_or xs i x → AppendsUpTo a b (flat_map f xs) (flat_map f (drop i xs)) → Appends b c (f x)
    → AppendsUpTo a c (flat_map f xs) (flat_map f (drop (i + 1) xs))
piece-more f a b c xs i x below is so-far took =
    up-to-more a b c (flat_map f xs) (flat_map f (drop i xs)) (flat_map f (drop (i + 1) xs)) so-far (f x, piece-cut f xs i x below is, took)

pub piece-part : {A : Type 0} (f : A → List ℕ) (a b c : Option (List ℕ)) (xs : List A) (i : ℕ) (x : A) → i < length xs
    → x ≡ get_or xs i x → AppendsUpTo a b (flat_map f xs) (flat_map f (drop i xs)) → AppendsPart b c (f x)
    → AppendsPart a c (flat_map f xs)
piece-part f a b c xs i x below is so-far part =
    part-after a b c (flat_map f xs) (flat_map f (drop i xs)) (f x) (flat_map f (drop (i + 1) xs)) so-far (piece-cut f xs i x below is) part

-- what holds after an error, from what held after it
pub on-error-then : {A E : Type 0} (r : Result A E) (P Q : Type 0) → (P → Q) → OnErr r P → OnErr r Q
on-error-then (Ok x) P Q turn p = p
on-error-then (Err e) P Q turn p = turn p

-- and so after none
pub on-ok-then : {A E : Type 0} (r : Result A E) (P Q : Type 0) → (P → Q) → OnOk r P → OnOk r Q
on-ok-then (Ok x) P Q turn p = turn p
on-ok-then (Err e) P Q turn p = p

-- the header, and after it the lines of all dies, are the text of their report
pub parts_whole : (parts : List TextSoFar) (report : List DieReport) → rows_of_parts parts ≡ records_text (flat_map die_records report)
    → certs_of_parts parts ≡ records_text (flat_map cert_record report) → joined_text (text_so_far [] ∷ parts) ≡ report_text report
parts_whole parts report rows certs =
    (λ i. (append-nil (row_text default_writer header_fields) i ++ rows i) ++ certs i) ∙ whole_is report (text_so_far report) refl
