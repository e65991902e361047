-- The parts of a report that were made, each by itself, make the report.
use Rattle.std.proofs.Common.{◌≡◌, ℕ, suc, ◌+◌, ◌<◌, List, [], ◌∷◌, ◌++◌, length, map, get_or, take, drop, Option, Some, refl, ap, sym, ◌∙◌, subst, arith}
use Rattle.std.proofs.Common.{◌==◌, true, false, Bool, None}
use Rattle.std.specs.Prelude.{IfSome, flat_map, if◌then◌else◌}
use Rattle.std.specs.List.{filter, reduce}
use Rattle.std.proofs.lemmas.Bool.Decides.{nat_tests}
use Rattle.std.proofs.lemmas.List.{append-nil, drop_more, map-append, take_more}
use Rattle.std.proofs.lemmas.Grind.{flat_map-append}
use Rattle.std.proofs.lemmas.Option.{same_Some}
use Rattle.die_log.specs.Model.Log.{Log, Job, jobs}
use Rattle.die_log.specs.Model.Rows.{certificate, certificate_for}
use Rattle.die_log.specs.Model.Start.{Start}
use Rattle.die_log.specs.Model.Work.{is_done, is_worse}
use Rattle.late_cert.specs.declared.certificates.Certificate.{Certificate}
use Rattle.slot_core.specs.Core.{Core}
use Rattle.flash_die.specs.Memory.{Memory}
use Rattle.report_texts.specs.ReportText.{cert_record, die_records, records_text, report_text}
use Rattle.report_texts.specs.TextSoFar.{TextSoFar, certs_of_parts, die_added, joined_text, no_lines, rows_of_parts, text_so_far}
use Rattle.report_texts.specs.declared.reports.DieReport.{DieReport}
use Rattle.report_texts.specs.declared.reports.ReportRow.{ReportRow}
use Rattle.report_texts.proofs.PartWriting.{parts_whole}
use Rattle.task_script.specs.DieReports.{die_report_of, report_row_of, report_rows_of}
use Rattle.task_script.specs.DieTexts.{AreMade, IsMade, die_part, die_parts, report_parts}
use Rattle.task_script.specs.StoreRuns.{reports_of}
use Rattle.task_script.specs.declared.die_texts.DieText.{DieText}

-- what each thread makes, they all make
pub all_made : (number : ℕ) (xs ys : List DieText) → length ys ≡ length xs
    → ((i : ℕ) (d : DieText) → i < length xs → IsMade (number + i) (get_or xs i d) (get_or ys i d)) → AreMade number xs ys
all_made number [] [] same each = tt
all_made number [] (y ∷ ys) same each = absurd (omega (arith, same))
all_made number (x ∷ xs) [] same each = absurd (omega (arith, same))
all_made number (x ∷ xs) (y ∷ ys) same each = (
  subst (λ (n : ℕ). IsMade n x y) (omega arith) (each 0 x (omega arith)),
  all_made (number + 1) xs ys (omega (arith, same))
      (λ i d below. subst (λ (n : ℕ). IsMade n (get_or xs i d) (get_or ys i d)) (omega arith)
      (each (suc i) d (omega (arith, below)))),
)

pub made_length : (number : ℕ) (xs ys : List DieText) → AreMade number xs ys → length ys ≡ length xs
made_length number [] [] made = refl
made_length number [] (y ∷ ys) made = absurd made
made_length number (x ∷ xs) [] made = absurd made
made_length number (x ∷ xs) (y ∷ ys) made = ap suc (made_length (number + 1) xs ys made.1)

module _ {A : Type 0} where
  head_is : (x y : A) (xs ys : List A) → x ∷ xs ≡ y ∷ ys → x ≡ y
  head_is x y xs ys e = cc

  tail_is : (x y : A) (xs ys : List A) → x ∷ xs ≡ y ∷ ys → xs ≡ ys
  tail_is x y xs ys e = cc

  -- what is left of two lists begins with the same
  same_at : (xs ys : List A) (i : ℕ) (x : A) → i < length xs → i < length ys → drop i xs ≡ drop i ys → get_or xs i x ≡ get_or ys i x
  same_at xs ys i x within inside left = head_is _ _ _ _ (sym (drop_more xs i x within) ∙ (left ∙ drop_more ys i x inside))

-- one part more is taken out
pub taken_more : (header : Option TextSoFar) (parts : List TextSoFar) (part : TextSoFar) (olds now : List DieText) (i : ℕ) (made : DieText)
    → i < length olds → i < length now → drop i now ≡ drop i olds → made ≡ get_or now i made → made.text ≡ Some part
    → map Some parts ≡ header ∷ map (λ (text : DieText). text.text) (take i olds)
    → map Some (parts ++ part ∷ []) ≡ header ∷ map (λ (text : DieText). text.text) (take (i + 1) olds)
taken_more header parts part olds now i made within inside left is said so_far =
    let same : made ≡ get_or olds i made = is ∙ same_at now olds i made inside within left in
    let text : DieText → Option TextSoFar = λ text. text.text in
    map-append Some parts (part ∷ []) ∙ (ap (λ l. l ++ Some part ∷ []) so_far
    ∙ ap (λ l. header ∷ l) (sym (ap (map text) (take_more olds i made within)
    ∙ (map-append text (take i olds) (get_or olds i made ∷ [])
    ∙ ap (λ (o : Option TextSoFar). map text (take i olds) ++ o ∷ []) (ap text (sym same) ∙ said)))))

part_is : (number : ℕ) (die : Core Memory) (old new : DieText) (part : TextSoFar) → old.die ≡ Some die → Some part ≡ new.text
    → IsMade number old new → part ≡ die_part number die
part_is number die old new part was is made =
    subst (λ (o : Option TextSoFar). IfSome o (λ text. text ≡ die_part number die)) (sym is)
    (subst (λ (o : Option (Core Memory)). IfSome o (λ d. IfSome new.text (λ text. text ≡ die_part number d))) was made)

made_parts : (number : ℕ) (dies : List (Core Memory)) (olds news : List DieText) (parts : List TextSoFar)
    → map (λ (text : DieText). text.die) olds ≡ map Some dies → AreMade number olds news
    → map Some parts ≡ map (λ (text : DieText). text.text) news → parts ≡ die_parts number dies
made_parts number [] [] [] [] were made are = refl
made_parts number [] [] [] (part ∷ parts) were made are = absurd (omega (arith, ap length are))
made_parts number [] [] (new ∷ news) parts were made are = absurd made
made_parts number [] (old ∷ olds) news parts were made are = absurd (omega (arith, ap length were))
made_parts number (die ∷ dies) [] news parts were made are = absurd (omega (arith, ap length were))
made_parts number (die ∷ dies) (old ∷ olds) [] parts were made are = absurd made
made_parts number (die ∷ dies) (old ∷ olds) (new ∷ news) [] were made are = absurd (omega (arith, ap length are))
made_parts number (die ∷ dies) (old ∷ olds) (new ∷ news) (part ∷ parts) were made are =
    let first = part_is number die old new part (head_is _ _ _ _ were) (head_is _ _ _ _ are) made.0 in
    let rest = made_parts (number + 1) dies olds news parts (tail_is _ _ _ _ were) made.1 (tail_is _ _ _ _ are) in
    λ i. first i ∷ rest i

-- the header, and after it the lines of each die
pub parts_are : (dies : List (Core Memory)) (olds news : List DieText) (parts : List TextSoFar)
    → map (λ (text : DieText). text.die) olds ≡ map Some dies → AreMade 0 olds news
    → map Some parts ≡ Some (text_so_far []) ∷ map (λ (text : DieText). text.text) news → parts ≡ report_parts dies
parts_are dies olds news [] were made are = absurd (omega (arith, ap length are))
parts_are dies olds news (part ∷ parts) were made are =
    let first = same_Some part (text_so_far []) (head_is _ _ _ _ are) in
    let rest = made_parts 0 dies olds news parts were made (tail_is _ _ _ _ are) in
    λ i. first i ∷ rest i

-- The text of the parts

some_rows : (row : ReportRow) (rows : List ReportRow) → (length (row ∷ rows) == 0) ≡ true → ⊥
some_rows row rows e = grind (arith, nat_tests)

pub no_cert : (start : Start) (log : Log) → (length (report_rows_of start log) == 0) ≡ true → certificate start.plan log ≡ None
no_cert start log none = by (jobs log) refl none
  where
    among : List Job → Option Certificate
    among js = certificate_for start.plan log (reduce (λ best j. if is_worse log j best then j else best) (filter (is_done start.plan log) js))

    by : (js : List Job) → jobs log ≡ js → (length (map (report_row_of start log) (jobs log)) == 0) ≡ true → certificate start.plan log ≡ None
    by [] e h = ap among e
    by (j ∷ js) e h = absurd (some_rows (report_row_of start log j) (map (report_row_of start log) js) (rw e at h))

-- a die without rows adds nothing
pub adds_nothing : (made : DieReport) (text : TextSoFar) → made.rows ≡ [] → made.cert ≡ None → die_added made text ≡ text
adds_nothing made text rows cert =
    ap (λ (rs : List ReportRow). die_added (record { die = made.die; rows = rs; cert = made.cert }) text) rows
    ∙ (ap (λ (c : Option Certificate). die_added (record { die = made.die; rows = []; cert = c }) text) cert
    ∙ λ i. record { rows = append-nil text.rows i; certs = append-nil text.certs i })

pub no_rows : (rows : List ReportRow) → (length rows == 0) ≡ true → rows ≡ []
no_rows [] e = refl
no_rows (row ∷ rows) e = absurd (some_rows row rows e)

abbrev rows_text : List DieReport → List ℕ
rows_text report = records_text (flat_map die_records report)

abbrev certs_text : List DieReport → List ℕ
certs_text report = records_text (flat_map cert_record report)

-- of one die more
rows_first : (f : DieReport → List (List (List ℕ))) (die : DieReport) (rest : List DieReport)
    → records_text (f die) ++ records_text (flat_map f rest) ≡ records_text (flat_map f (die ∷ rest))
rows_first f die rest = sym (flat_map-append _ (f die) (flat_map f rest))

module _ {N : Type 0} where
  -- the lines of the dies are those of the reports that have rows
  record ArePartsOf (number : ℕ) (dies : List (Core N)) : Type 0 where
    pub rows : rows_of_parts (die_parts number dies) ≡ rows_text (reports_of number dies)
    pub certs : certs_of_parts (die_parts number dies) ≡ certs_text (reports_of number dies)

  -- with one die before them
  lines_more : (number : ℕ) (die : Core N) (dies : List (Core N)) → ArePartsOf (number + 1) dies → ArePartsOf number (die ∷ dies)
  lines_more number die dies more = by (length made.rows == 0) refl
    where
      made : DieReport
      made = die_report_of die.start die.log number

      rest : List DieReport
      rest = reports_of (number + 1) dies

      by : (b : Bool) → (length made.rows == 0) ≡ b → ArePartsOf number (die ∷ dies)
      by true e =
          let none : die_added made no_lines ≡ no_lines = adds_nothing made no_lines (no_rows made.rows e) (no_cert die.start die.log e) in
          record {
            rows = rw e (ap (λ (part : TextSoFar). part.rows ++ rows_of_parts (die_parts (number + 1) dies)) none ∙ more.rows);
            certs = rw e (ap (λ (part : TextSoFar). part.certs ++ certs_of_parts (die_parts (number + 1) dies)) none ∙ more.certs);
          }
      by false e = record {
        rows = rw e (ap (λ (l : List ℕ). records_text (die_records made) ++ l) more.rows ∙ rows_first die_records made rest);
        certs = rw e (ap (λ (l : List ℕ). records_text (cert_record made) ++ l) more.certs ∙ rows_first cert_record made rest);
      }

  lines_are : (number : ℕ) (dies : List (Core N)) → ArePartsOf number dies
  lines_are number [] = record { rows = refl; certs = refl }
  lines_are number (die ∷ dies) = lines_more number die dies (lines_are (number + 1) dies)

  -- the text of the parts is the report of the dies that have rows
  pub parts_text : (dies : List (Core N)) → joined_text (report_parts dies) ≡ report_text (reports_of 0 dies)
  parts_text dies = let lines = lines_are 0 dies in parts_whole (die_parts 0 dies) (reports_of 0 dies) lines.rows lines.certs
