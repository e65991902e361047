-- How the records of a text follow csv's next record.
use Rattle.std.proofs.Common.{◌≡◌, ℕ, List, [], ◌∷◌, ◌++◌, Bool, true, false, Option, Some, None, refl, sym, ap, subst, ◌∙◌, inl, inr, ◌⊎◌}
use Rattle.std.specs.Prelude.{All, ◌||◌, ◌&&◌, not, is_none, IsSome, option_map}
use Rattle.std.proofs.lemmas.Bool.{cases_Bool}
use Rattle.csv.specs.Machine.{Read, next_record, step, is_end, ends_at_end, fields_after, field_after}
use Rattle.text_base.specs.Plain.{is_ready}
use Rattle.csv.specs.Reading.{Ready, ReadRecord, took_first, names_headers, reader_headers, Reached, default_config, reader_config}
use Rattle.csv.specs.Reading.{ExplainsRead, is_flexible, reader_state, records_next, source_of, stops_reader, strip_bom}
use Rattle.csv.specs.declared.error.ErrorKind.{ErrorKind}
use Rattle.csv.specs.declared.error.ErrorKind.TheVariants as kind
use Rattle.csv.specs.declared.parser.State.{State}
use Rattle.csv.specs.declared.parser.State.TheVariants as st
use Rattle.csv.specs.declared.reader.Reader.{Reader}
use Rattle.csv.proofs.ReadFacts.{rows-more, rows-end}
use Rattle.text_base.specs.BoundedReaders.{bounded_remaining}
use Rattle.text_base.specs.Marks.{is_marked, is_within, with_mark}
use Rattle.text_base.specs.CsvRecords.{Fields, rows_from, rows_of, TakesRow}
use Rattle.text_base.specs.CsvRecordsLeft.{KeepsFit, fits_left, is_between, marked_left, rows_left}
use Rattle.text_base.specs.declared.bounded.Bounded.{Bounded}
use Rattle.text_base.proofs.MarkLaws.{IsByte, begun, between-no_comment, bytes-unmarked, marked-cases, marked-snoc, next-between}
use Rattle.text_base.proofs.MarkLaws.{next-marked, next-plain, next-there, unmarked-snoc}

-- all records are the next one and those after it
pub rows-next : (s : State) (fields : Fields) (field xs : List ℕ)
    → rows_from s fields field xs ≡ records_next (λ s2 ys. rows_from s2 [] [] ys) (next_record default_config s fields field xs)
unfolding rows_from next_record
rows-next s fields field [] = elim (cases_Bool (ends_at_end s)) [
  | inl last ↦ rw last refl
  | inr more ↦ rw more refl
]
rows-next s fields field (c ∷ rest) = elim (cases_Bool (is_end (step default_config s c).1)) [
  | inl last ↦ rw last refl
  | inr more ↦ rw more (rows-next (step default_config s c).0 (fields_after (step default_config s c).1 fields field)
      (field_after (step default_config s c).1 c field) rest)
]

-- a read took the next record of what was left
record-taken : {R : Type 0} (rem : R → Option (List ℕ)) (a b : Reader R) (f : Fields) (y : List ℕ)
    → reader_config a ≡ default_config → source_of rem a ≡ Some y → ReadRecord rem a b true f
    → (p : Read) × (next_record default_config (reader_state a) [] [] y ≡ Some p) × (f ≡ p.0) × (p.1 ≡ reader_state b)
    × (source_of rem b ≡ Some p.2)
unfolding Reached
record-taken rem a b f y plain known read =
    let r = rows-more rem a b f default_config (reader_state a) y y [] plain known (refl, refl) read in
    let (p, next, same, there) = r.2 in
    (p, next, same, there.0, r.1 ∙ ap Some (sym there.1))

-- its records are that one and those after it
rows-taken : (s s2 : State) (f : Fields) (text rest : List ℕ) → next_record default_config s [] [] text ≡ Some (f, s2, rest)
    → rows_from s [] [] text ≡ f ∷ rows_from s2 [] [] rest
rows-taken s s2 f text rest next = rows-next s [] [] text ∙ rw next refl

as-parts : (p : Read) (f : Fields) (s : State) → f ≡ p.0 → p.1 ≡ s → Some p ≡ Some (f, s, p.2)
as-parts p f s same state = rw (same, ← state) refl

-- what a read took from a text, and whether it still fits its bound
abbrev pub Takes : {R : Type 0} → (R → Option (List ℕ)) → Reader (Bounded R) → Reader (Bounded R) → Bool → Fields → Type 0
Takes rem a b found f = TakesRow (rows_left rem a) (rows_left rem b) found f × KeepsFit (fits_left rem a) (fits_left rem b) found

-- nothing is known of what is left
takes-unknown : {R : Type 0} (rem : R → Option (List ℕ)) (a b : Reader (Bounded R)) (found : Bool) (f : Fields) → marked_left rem a ≡ None
    → Takes rem a b found f
unfolding rows_left fits_left
takes-unknown rem a b found f unknown = rw unknown (tt, tt)

-- a read took a record of a text without a mark
found-plain : {R : Type 0} (rem : R → Option (List ℕ)) (a b : Reader (Bounded R)) (f : Fields) (text rest : List ℕ)
    → is_between (reader_state a) ≡ true → is_between (reader_state b) ≡ true → source_of (bounded_remaining rem) a ≡ Some text
    → source_of (bounded_remaining rem) b ≡ Some rest
    → is_marked text ≡ false → is_marked rest ≡ false → rows_from (reader_state a) [] [] text ≡ f ∷ rows_from (reader_state b) [] [] rest
    → Takes rem a b true f
unfolding rows_left fits_left
found-plain rem a b f text rest between between2 known left clean clean2 rows =
    rw (between, known, between2, left, clean, clean2) ((rows_from (reader_state b) [] [] rest, refl, rows), refl)

-- a read took a record of a text with a mark
found-marked : {R : Type 0} (rem : R → Option (List ℕ)) (a b : Reader (Bounded R)) (f : Fields) (text rest : List ℕ)
    → is_between (reader_state a) ≡ true → is_between (reader_state b) ≡ true
    → source_of (bounded_remaining rem) a ≡ Some (text ++ 256 ∷ []) → source_of (bounded_remaining rem) b ≡ Some (rest ++ 256 ∷ [])
    → rows_from (reader_state a) [] [] text ≡ f ∷ rows_from (reader_state b) [] [] rest → Takes rem a b true f
unfolding rows_left fits_left
found-marked rem a b f text rest between between2 known left rows =
    rw (between, known, between2, left, unmarked-snoc text, unmarked-snoc rest, marked-snoc text, marked-snoc rest)
    ((rows_from (reader_state b) [] [] rest, refl, rows), refl)

-- a read took a record of a known text
takes-found : {R : Type 0} (rem : R → Option (List ℕ)) (a b : Reader (Bounded R)) (f : Fields) (y : List ℕ)
    → reader_config a ≡ default_config → is_between (reader_state a) ≡ true → source_of (bounded_remaining rem) a ≡ Some y
    → ReadRecord (bounded_remaining rem) a b true f → All (All IsByte) f → Takes rem a b true f
takes-found rem a b f y plain between known read bytes =
    let (p, next, same, state, left) = record-taken (bounded_remaining rem) a b f y plain known read in
    let between2 : is_between (reader_state b) ≡ true = ap is_between (sym state) ∙ next-between _ _ _ y p next in
    elim (marked-cases y) [
      | inl clean ↦
          let rows = rows-taken (reader_state a) (reader_state b) f y p.2 (next ∙ as-parts p f (reader_state b) same state) in
          found-plain rem a b f y p.2 between between2 known left clean (next-plain _ _ _ y p next clean) rows
      | inr m ↦
          let next2 = subst (λ (text : List ℕ). next_record default_config (reader_state a) [] [] text ≡ Some p) m.1 next in
          elim (next-marked _ _ _ m.0 p (between-no_comment _ between) next2) [
            | inl has ↦ absurd (bytes-unmarked p.0 (subst (All (All IsByte)) same bytes) has)
            | inr r ↦
                let rows = rows-taken (reader_state a) (reader_state b) f m.0 r.0 (r.2
                ∙ as-parts (p.0, p.1, r.0) f (reader_state b) same state) in
                found-marked rem a b f m.0 r.0 between between2 (known ∙ ap Some m.1) (left ∙ ap Some r.1) rows
          ]
    ]

-- a read found no record in a known text
takes-none : {R : Type 0} (rem : R → Option (List ℕ)) (a b : Reader (Bounded R)) (f : Fields) (y : List ℕ)
    → reader_config a ≡ default_config → is_between (reader_state a) ≡ true → source_of (bounded_remaining rem) a ≡ Some y
    → ReadRecord (bounded_remaining rem) a b false f → Takes rem a b false f
unfolding rows_left fits_left
takes-none rem a b f y plain between known read =
    let none = rows-end (bounded_remaining rem) a b f default_config y plain known read in
    elim (marked-cases y) [
      | inl clean ↦ rw (between, known, clean) (rows-next (reader_state a) [] [] y ∙ rw none refl, refl)
      | inr m ↦ absurd (next-there _ _ _ m.0 (between-no_comment _ between)
          (subst (λ (text : List ℕ). next_record default_config (reader_state a) [] [] text ≡ None) m.1 none))
    ]

-- a reader's known bytes, or none
source_cases : (o : Option (List ℕ)) → (o ≡ None) ⊎ ((y : List ℕ) × (o ≡ Some y))
source_cases None = inl refl
source_cases (Some y) = inr (y, refl)

-- what a read does to the records that are left
takes-known : {R : Type 0} (rem : R → Option (List ℕ)) (a b : Reader (Bounded R)) (found : Bool) (f : Fields) (y : List ℕ)
    → reader_config a ≡ default_config → is_between (reader_state a) ≡ true → source_of (bounded_remaining rem) a ≡ Some y
    → ReadRecord (bounded_remaining rem) a b found f → All (All IsByte) f → Takes rem a b found f
takes-known rem a b true f y plain between known read bytes = takes-found rem a b f y plain between known read bytes
takes-known rem a b false f y plain between known read bytes = takes-none rem a b f y plain between known read

pub rows-read : {R : Type 0} (rem : R → Option (List ℕ)) (a b : Reader (Bounded R)) (found : Bool) (f : Fields)
    → reader_config a ≡ default_config → ReadRecord (bounded_remaining rem) a b found f → All (All IsByte) f → Takes rem a b found f
rows-read rem a b found f plain read bytes = elim (cases_Bool (is_between (reader_state a))) [
  | inr other ↦ takes-unknown rem a b found f (rw other refl)
  | inl between ↦ elim (source_cases (source_of (bounded_remaining rem) a)) [
    | inl unknown ↦ takes-unknown rem a b found f (rw (between, unknown) refl)
    | inr known ↦ takes-known rem a b found f known.0 plain between known.1 read bytes
  ]
]

-- the records of a text, and whether it fits its bound, where nothing was read yet
pub begins : (most : ℕ) {R : Type 0} (rem : R → Option (List ℕ)) (r : Reader (Bounded R)) (text : Option (List ℕ))
    → reader_state r ≡ st.StartRecord
    → source_of (bounded_remaining rem) r ≡ option_map strip_bom (option_map (with_mark most) text)
    → (rows_left rem r ≡ option_map rows_of text) × (fits_left rem r ≡ option_map (is_within most) text)
unfolding rows_left fits_left
begins most rem r None start source = rw (start, source) (refl, refl)
begins most rem r (Some text) start source =
    let (rows, fits) = begun most text in
    rw (start, source, rows, fits) (refl, refl)

-- the cases of the test for a reader whose next read is of one record
ready-cases : {H : Type 0} (first named : Bool) (h : Option H) → (first || (not named && is_none h)) ≡ true
    → (first ≡ true) ⊎ ((named ≡ true) × IsSome h) ⊎ ((named ≡ false) × (h ≡ None))
ready-cases true named h e = inl refl
ready-cases false true h e = cc e
ready-cases false false None e = inr (inr (refl, refl))
ready-cases false false (Some x) e = cc e

pub ready : {R : Type 0} (r : Reader R) → is_ready r ≡ true → Ready r
ready r e = ready-cases (took_first r) (names_headers r) (reader_headers r) e

-- a read of bytes, of records of any length, is refused for what stops its reader alone
pub stopped : {R : Type 0} (rem : R → Option (List ℕ)) (old new : Reader R) (why : ErrorKind) → is_flexible old ≡ true
    → ExplainsRead rem old new false why → stops_reader why ≡ true
stopped rem old new (kind.Io e) flexible h = refl
stopped rem old new kind.OutOfMemory flexible h = refl
stopped rem old new (kind.UnequalLengths pos expected len) flexible h = absurd (let apart = sym flexible ∙ h.0 in cc)
stopped rem old new (kind.Utf8 pos err) flexible h = absurd (let apart = h.0 in cc)
stopped rem old new (kind.Serialize text) flexible h = absurd h
stopped rem old new (kind.Deserialize pos err) flexible h = absurd h
