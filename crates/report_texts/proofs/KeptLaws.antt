-- How what is kept of a report is read, beside the report itself.
use Rattle.std.proofs.Common.{◌≡◌, ℕ, ◌+◌, ◌<◌, ◌≤◌, ◌==◌, List, [], ◌∷◌, Bool, true, false, Option, Some, None, Result, Ok, Err}
use Rattle.std.proofs.Common.{length, map, take, drop, get_or, set, refl, sym, ap, subst, ◌∙◌, inl, inr, arith}
use Rattle.std.specs.Prelude.{IfOk, option_map}
use Rattle.std.proofs.lemmas.Bool.{cases_Bool}
use Rattle.std.proofs.lemmas.List.{get_or-map, get_or_default, length-map, map-append, map-id, map-set}
use Rattle.std.proofs.lemmas.List.Elements.{All-nil, All-set}
use Rattle.std.proofs.lemmas.Option.{same_Some}
use Rattle.slot_types.specs.declared.pages.PageData.{PageData}
use Rattle.slot_types.specs.declared.refusals.Refusal.{Refusal}
use Rattle.slot_types.specs.declared.refusals.Refusal.TheVariants.{ReportText}
use Rattle.text_base.specs.CsvRecords.{Fields}
use Rattle.report_texts.specs.KeptDies.{ReadsCert, ReadsKept, SaysKept, kept_row, kept_so_far}
use Rattle.report_texts.specs.Numbering.{AreNumbered, GathersNumbered, IsNumbered}
use Rattle.report_texts.specs.RecordsLeft.{Loses, Stays, hand_of, unless_cert, with_hand}
use Rattle.report_texts.specs.ReportOf.{Gathered, Reading, Reads, Says, all_dies, certs_from, comes_next, gathered_with, may_follow}
use Rattle.report_texts.specs.ReportOf.{no_rows, report_on, rows_from, with_die, with_last, with_row}
use Rattle.report_texts.specs.ReportRows.{sound_row}
use Rattle.report_texts.specs.declared.gathered.KeptSoFar.{KeptSoFar}
use Rattle.report_texts.specs.declared.report_rows.DieRow.{DieRow}
use Rattle.report_texts.specs.declared.reports.DieReport.{DieReport}
use Rattle.report_texts.proofs.NumberLaws.{numbered-dies, numbered-more}
use Rattle.report_texts.proofs.ProgressLaws.{further, length-last, progress}
use Rattle.report_texts.proofs.ReadingLaws.{certs-end, certs-fault, certs-more, certs-over, front_dies, rows-broken, rows-end, rows-more}
use Rattle.report_texts.proofs.ReadingLaws.{says-then}
use Rattle.report_texts.proofs.RecordLaws.{reads-on}

-- One more row

pub kept-all : {K : Type 0} (kept : DieReport → K) (g : Gathered)
    → with_last (map kept g.done) (length g.rows) (kept (report_on g.die g.rows)) ≡ map kept (all_dies g)
kept-all kept g = elim (cases_Bool (length g.rows == 0)) [
  | inl none ↦ rw none (sym (map-append kept g.done []))
  | inr some ↦ rw some (sym (map-append kept g.done (report_on g.die g.rows ∷ [])))
]

mapped : {A B : Type 0} (f : A → B) (o : Option A) (y : B) → Some y ≡ option_map f o → (x : A) × (o ≡ Some x) × (y ≡ f x)
mapped f None y e = absurd (cc e)
mapped f (Some x) y e = (x, refl, same_Some y (f x) e)

unmapped : {A B : Type 0} (f : A → B) (o : Option A) → None ≡ option_map f o → o ≡ None
unmapped f None e = refl
unmapped f (Some x) e = absurd (cc e)

-- a later die is begun
pub kept-begun : {K : Type 0} (kept : DieReport → K) (reads : List PageData → List PageData) (g : Gathered) (x next : DieRow)
    (old : KeptSoFar K) (last : K) (done : List K)
    → (next.die ≡ old.die → ⊥) → old ≡ kept_so_far kept g → next ≡ kept_row reads x → last ≡ kept (report_on next.die (x.row ∷ []))
    → done ≡ with_last old.done old.rows old.last
    → record { done = done; die = next.die; rows = 1; last = last } ≡ kept_so_far kept (with_row g x)
kept-begun kept reads g x next old last done other is row last-is done-is = elim (cases_Bool (x.die == g.die)) [
  | inl same ↦ absurd (other (grind (arith, is, row, same)))
  | inr later ↦
      let all : done ≡ map kept (all_dies g) = done-is ∙ ap (λ (s : KeptSoFar _). with_last s.done s.rows s.last) is ∙ kept-all kept g in
      rw (later, all, last-is, row) refl
]

-- a row that may not come next
pub none-follows : {K : Type 0} (kept : DieReport → K) (reads : List PageData → List PageData) (g : Gathered) (fields : Fields)
    (next : DieRow) (old : KeptSoFar K)
    → Some next ≡ option_map (kept_row reads) (sound_row fields) → false ≡ comes_next old.die old.rows next → old ≡ kept_so_far kept g
    → None ≡ option_map (kept_so_far kept) (gathered_with g fields)
none-follows kept reads g fields next old said other is =
    let (x, at, row) = mapped (kept_row reads) (sound_row fields) next said in
    let none : may_follow g x ≡ false = sym (rw (is, row) at other) in
    rw (at, none) refl

-- a row that may come next
pub some-follows : {K : Type 0} (kept : DieReport → K) (reads : List PageData → List PageData) (g : Gathered) (fields : Fields)
    (next : DieRow) (old new : KeptSoFar K)
    → Some next ≡ option_map (kept_row reads) (sound_row fields) → true ≡ comes_next old.die old.rows next → old ≡ kept_so_far kept g
    → ((x : DieRow) → next ≡ kept_row reads x → new ≡ kept_so_far kept (with_row g x))
    → Some new ≡ option_map (kept_so_far kept) (gathered_with g fields)
some-follows kept reads g fields next old new said follows is added =
    let (x, at, row) = mapped (kept_row reads) (sound_row fields) next said in
    let yes : may_follow g x ≡ true = sym (rw (is, row) at follows) in
    rw (at, yes) (ap Some (added x row))

-- The rows so far

-- this is kept of rows so far, which what is left goes on from
pub record AreRowsRead {K : Type 0} (kept : DieReport → K) (so_far : KeptSoFar K) (before : Option Reading) (line : ℕ)
    (left : Option (List Fields)) : Type 0 where
  pub whole : Gathered
  pub is : so_far ≡ kept_so_far kept whole
  pub few : length whole.rows ≤ 65536
  pub low : whole.die < 8
  pub dies : length whole.done ≤ whole.die
  pub early : line ≤ progress whole.die (length whole.rows) + 2
  pub numbered : GathersNumbered whole
  pub read : Stays before (option_map (rows_from whole line) left)

abbrev HasNumbers : DieReport → Type 0
HasNumbers die = IsNumbered die.rows

pub stays-same : {A : Type 0} (known : Option A) → Stays known known
stays-same None = tt
stays-same (Some x) = refl

-- no row yet
pub rows-start : {K : Type 0} (kept : DieReport → K) (so_far : KeptSoFar K) (line : ℕ) (left : Option (List Fields))
    → so_far ≡ kept_so_far kept no_rows → line ≡ 2 → AreRowsRead kept so_far (option_map (rows_from no_rows line) left) line left
rows-start kept so_far line left is second = record {
  whole = no_rows;
  is = is;
  few = omega arith;
  low = omega arith;
  dies = omega arith;
  early = omega (arith, second);
  numbered = (All-nil HasNumbers, tt);
  read = stays-same (option_map (rows_from no_rows line) left);
}

-- one more row
pub rows-next : {K : Type 0} (kept : DieReport → K) (old new : KeptSoFar K) (before : Option Reading) (line line2 : ℕ) (found : Bool)
    (own fields : Fields) (left next : Option (List Fields))
    → unless_cert (hand_of found own) ≡ Some fields → line2 ≡ line + 1 → Loses (with_hand found own left) next
    → (rows : AreRowsRead kept old before line (with_hand found own left))
    → Some new ≡ option_map (kept_so_far kept) (gathered_with rows.whole fields) → AreRowsRead kept new before line2 next
rows-next kept old new before line line2 found own fields left next at lines loses rows row =
    let (more, is-row, is) = mapped (kept_so_far kept) (gathered_with rows.whole fields) new row in
    let far = further rows.whole more fields rows.few is-row in
    record {
      whole = more;
      is = is;
      few = far.few;
      low = far.low;
      dies = far.dies rows.dies;
      early = omega (arith, lines, rows.early, far.grows);
      numbered = numbered-more rows.whole more fields is-row rows.numbered;
      read = rows-more rows.whole more line line2 found own fields left next before at is-row lines loses rows.read;
    }

-- the rows come further, within their limits
pub rows-further : {K : Type 0} (kept : DieReport → K) (old new : KeptSoFar K) (before : Option Reading) (line : ℕ) (fields : Fields)
    (left : Option (List Fields)) (rows : AreRowsRead kept old before line left)
    → Some new ≡ option_map (kept_so_far kept) (gathered_with rows.whole fields)
    → (progress old.die old.rows < progress new.die new.rows) × (progress new.die new.rows ≤ 524288)
rows-further kept old new before line fields left rows row =
    let (more, is-row, is) = mapped (kept_so_far kept) (gathered_with rows.whole fields) new row in
    let far = further rows.whole more fields rows.few is-row in
    rw (rows.is, is) (far.grows, far.bound)

-- a record of a row has a low number
pub rows-early : {K : Type 0} (kept : DieReport → K) (so_far : KeptSoFar K) (before : Option Reading) (line : ℕ)
    (left : Option (List Fields))
    → AreRowsRead kept so_far before line left → line ≤ 524290
rows-early kept so_far before line left rows = omega (arith, rows.early, rows.low, rows.few)

-- there are at most eight dies
pub rows-few : {K : Type 0} (kept : DieReport → K) (so_far : KeptSoFar K) (all : List K) (before : Option Reading) (line : ℕ)
    (left : Option (List Fields))
    → all ≡ with_last so_far.done so_far.rows so_far.last → AreRowsRead kept so_far before line left → length all ≤ 8
rows-few kept so_far all before line left is rows =
    let longer : length (with_last so_far.done so_far.rows so_far.last) ≤ length so_far.done + 1 =
    length-last so_far.done so_far.rows so_far.last in
    let done : length so_far.done ≡ length rows.whole.done = ap (λ (s : KeptSoFar _). length s.done) rows.is
    ∙ length-map rows.whole.done kept in
    rw is (omega (arith, longer, done, rows.dies, rows.low))

-- a record that is no row that may come next
pub rows-stop : {K A : Type 0} (kept : DieReport → K) (before : List Fields → Reading) (after : A → List Fields → Reading)
    (left0 : Option (List Fields)) (so_far : KeptSoFar K) (line : ℕ) (found : Bool) (own fields : Fields) (left new : Option (List Fields))
    → unless_cert (hand_of found own) ≡ Some fields
    → (rows : AreRowsRead kept so_far (option_map before left0) line (with_hand found own left))
    → None ≡ option_map (kept_so_far kept) (gathered_with rows.whole fields)
    → Reads before after left0 new (Err (ReportText line))
rows-stop kept before after left0 so_far line found own fields left new at rows none =
    let g = rows.whole in
    reads-on before (rows_from g line) after left0 (with_hand found own left) new (Err (ReportText line)) rows.read
    (rows-broken after g line found own fields left new at (unmapped (kept_so_far kept) (gathered_with g fields) none))

-- no row is left
pub rows-done : {K : Type 0} (kept : DieReport → K) (before : List Fields → Reading) (left0 : Option (List Fields)) (so_far : KeptSoFar K)
    (all : List K) (line : ℕ) (found : Bool) (own : Fields) (left : Option (List Fields))
    → unless_cert (hand_of found own) ≡ None → all ≡ with_last so_far.done so_far.rows so_far.last
    → AreRowsRead kept so_far (option_map before left0) line (with_hand found own left)
    → ReadsKept kept before (λ dies. certs_from dies line) left0 (with_hand found own left) (Ok all)
rows-done kept before left0 so_far all line found own left at is rows =
    let g = rows.whole in (
      all_dies g,
      is ∙ ap (λ (s : KeptSoFar _). with_last s.done s.rows s.last) rows.is ∙ kept-all kept g,
      numbered-dies g rows.numbered,
      reads-on before (rows_from g line) (λ dies. certs_from dies line) left0 (with_hand found own left) (with_hand found own left)
          (Ok (all_dies g)) rows.read
          (rows-end g (all_dies g) line found own left at refl),
    )

-- The certificates so far

-- this is kept of dies, the first with their certificates, which what is left goes on from
pub record AreCertsRead {K : Type 0} (kept : DieReport → K) (all : List K) (i : ℕ) (before : Option Reading) (line : ℕ)
    (left : Option (List Fields)) : Type 0 where
  pub dies : List DieReport
  pub is : all ≡ map kept dies
  pub numbered : AreNumbered dies
  pub read : Stays before (option_map (λ records. front_dies (take i dies) (certs_from (drop i dies) line records)) left)

abbrev die-at : List DieReport → ℕ → DieReport
die-at dies i = get_or dies i (report_on 0 [])

length-kept : {K : Type 0} (kept : DieReport → K) (all : List K) (dies : List DieReport) → all ≡ map kept dies → length all ≡ length dies
length-kept kept all dies is = ap length is ∙ length-map dies kept

kept-at : {K : Type 0} (kept : DieReport → K) (all : List K) (dies : List DieReport) (i : ℕ) (old : K) → all ≡ map kept dies
    → i < length dies → old ≡ get_or all i old → old ≡ kept (die-at dies i)
kept-at kept all dies i old is below at = at ∙ ap (λ ks. get_or ks i old) is ∙ get_or-map kept dies i (report_on 0 []) old below

front-none : (r : Reading) → front_dies [] r ≡ r
front-none (Ok dies) = refl
front-none (Err e) = refl

certs-none : (dies : List DieReport) (line : ℕ) (left : Option (List Fields)) → Stays (option_map (certs_from dies line) left)
    (option_map (λ records. front_dies (take 0 dies) (certs_from (drop 0 dies) line records)) left)
certs-none dies line None = tt
certs-none dies line (Some records) = ap Some (front-none (certs_from dies line records))

-- no certificate yet
pub certs-start : {K : Type 0} (kept : DieReport → K) (all : List K) (dies : List DieReport) (line : ℕ) (left : Option (List Fields))
    → all ≡ map kept dies → AreNumbered dies → AreCertsRead kept all 0 (option_map (certs_from dies line) left) line left
certs-start kept all dies line left is numbered = record { dies = dies; is = is; numbered = numbered; read = certs-none dies line left }

-- the certificate of one more die
pub certs-next : {K : Type 0} (kept : DieReport → K) (all : List K) (i line line2 : ℕ) (old new : K) (before : Option Reading)
    (left next : Option (List Fields))
    → i < length all → old ≡ get_or all i old
    → ((die : DieReport) → old ≡ kept die → ReadsCert kept die new line line2 left next (Ok tt))
    → AreCertsRead kept all i before line left → AreCertsRead kept (set all i new) (i + 1) before line2 next
certs-next kept all i line line2 old new before left next below at step certs =
    let dies = certs.dies in
    let d : DieReport = die-at dies i in
    let inside : i < length dies = omega (arith, length-kept kept all dies certs.is) in
    let (cert, new-is, read) = step d (kept-at kept all dies i old certs.is inside at) in
    let d2 : DieReport = record d { cert = cert } in
    let d-is : d ≡ get_or dies i d = get_or_default dies i (report_on 0 []) d inside in
    record {
      dies = set dies i d2;
      is = ap (λ ks. set ks i new) certs.is ∙ ap (set (map kept dies) i) new-is ∙ sym (map-set kept dies i d2);
      numbered = All-set HasNumbers dies i d2 (subst HasNumbers (sym d-is) (certs.numbered i d inside)) certs.numbered;
      read = certs-more dies i d d2 line line2 left next before inside d-is (read (certs_from (drop (i + 1) dies))) certs.read;
    }

-- the certificate of one more die is none
pub certs-stop : {K : Type 0} (kept : DieReport → K) (all : List K) (i line line2 : ℕ) (old new : K) (before : Option Reading)
    (left next : Option (List Fields)) (e : Refusal)
    → i < length all → old ≡ get_or all i old
    → ((die : DieReport) → old ≡ kept die → ReadsCert kept die new line line2 left next (Err e))
    → AreCertsRead kept all i before line left → SaysKept kept before (Err e)
certs-stop kept all i line line2 old new before left next e below at step certs =
    let dies = certs.dies in
    let d : DieReport = die-at dies i in
    let inside : i < length dies = omega (arith, length-kept kept all dies certs.is) in
    let (cert, new-is, read) = step d (kept-at kept all dies i old certs.is inside at) in
    certs-fault (λ (u : Unit {0}) rest. with_die (record d { cert = cert }) (certs_from (drop (i + 1) dies) line2 rest)) dies i d line left
    next before e inside (get_or_default dies i (report_on 0 []) d inside) (read (certs_from (drop (i + 1) dies))) certs.read

-- a record after the certificates
pub certs-past : {K : Type 0} (kept : DieReport → K) (all : List K) (i line : ℕ) (found : Bool) (own : Fields) (left : Option (List Fields))
    (before : Option Reading)
    → length all ≤ i → found ≡ true → AreCertsRead kept all i before line (with_hand found own left)
    → SaysKept kept before (Err (ReportText line))
certs-past kept all i line found own left before above at certs =
    let over : length certs.dies ≤ i = omega (arith, length-kept kept all certs.dies certs.is) in
    certs-over certs.dies i line found own left before over at certs.read

-- no record is left
pub certs-done : {K : Type 0} (kept : DieReport → K) (all : List K) (i line : ℕ) (found : Bool) (own : Fields) (left : Option (List Fields))
    (before : Option Reading)
    → length all ≤ i → found ≡ false → AreCertsRead kept all i before line (with_hand found own left) → SaysKept kept before (Ok all)
certs-done kept all i line found own left before above at certs =
    let over : length certs.dies ≤ i = omega (arith, length-kept kept all certs.dies certs.is) in
    (certs.dies, certs.is, certs.numbered, certs-end certs.dies i line found own left before over at certs.read)

-- From step to step

-- a call, and then one that gives what is kept
pub kept-then : {K A : Type 0} (kept : DieReport → K) (before : List Fields → Reading) (mid : A → List Fields → Reading)
    (o n : Option (List Fields)) (x : A) (r : Result (List K) Refusal)
    → Reads before mid o n (Ok x) → SaysKept kept (option_map (mid x) n) r → SaysKept kept (option_map before o) r
kept-then kept before mid o n x (Ok all) one said = (said.0, said.1, said.2, says-then before mid o n x (Ok said.0) one said.3)
kept-then kept before mid o n x (Err e) one said = says-then before mid o n x (Err e) one said

-- a call, and then one that was refused
pub says-stop : {A B : Type 0} (before : List Fields → Reading) (mid : A → List Fields → Reading)
    (after : B → List Fields → Reading) (o n m : Option (List Fields)) (x : A) (e : Refusal)
    → Reads before mid o n (Ok x) → Reads (mid x) after n m (Err e) → Says (option_map before o) (Err e)
says-stop before mid after None n m x e one stop = tt
says-stop before mid after (Some records) None m x e one stop = absurd (cc one.1)
says-stop before mid after (Some records) (Some rest) m x e one (inl out) = inl out
says-stop before mid after (Some records) (Some rest) m x e one (inr bad) =
    let same : one.0 ≡ rest = cc one.1 in inr (one.2 ∙ ap (mid x) same ∙ bad)

-- a call that was refused
pub says-refused : {A : Type 0} (before : List Fields → Reading) (after : A → List Fields → Reading) (o n : Option (List Fields))
    (e : Refusal)
    → Reads before after o n (Err e) → Says (option_map before o) (Err e)
says-refused before after None n e stop = tt
says-refused before after (Some records) n e stop = stop

-- what is known of the records stays, from the first on
pub says-first : (before : List Fields → Reading) (unread left : Option (List Fields)) (r : Reading)
    → Stays unread left → Says (option_map before left) r → Says (option_map before unread) r
says-first before None left r stays said = tt
says-first before (Some records) left r stays said = rw stays at said

pub kept-first : {K : Type 0} (kept : DieReport → K) (before : List Fields → Reading) (unread left : Option (List Fields))
    (r : Result (List K) Refusal)
    → Stays unread left → SaysKept kept (option_map before left) r → SaysKept kept (option_map before unread) r
kept-first kept before unread left (Ok all) stays said = (said.0, said.1, said.2, says-first before unread left (Ok said.0) stays said.3)
kept-first kept before unread left (Err e) stays said = says-first before unread left (Err e) stays said

-- what is kept is all of a report
pub kept-whole : (known : Option Reading) (r : Reading) → SaysKept (λ die. die) known r → Says known r × IfOk r AreNumbered
kept-whole known (Ok all) (report, is, numbered, says) =
    let whole : all ≡ report = is ∙ map-id report in
    (rw whole says, rw whole numbered)
kept-whole known (Err e) says = (says, tt)
