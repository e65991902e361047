-- Rows as they are kept.
use Rattle.std.proofs.Common.{◌≡◌, ℕ, zero, suc, ◌+◌, ◌<◌, List, [], ◌∷◌, ◌++◌, refl, ap, sym, ◌∙◌, length, get_or, drop, arith}
use Rattle.csv.specs.Records.{field_at}
use Rattle.text_base.specs.Fields.{field_or}
use Rattle.script_texts.specs.RowTexts.{RowText, row_text, rows_with}
use Rattle.script_texts.specs.declared.script_rows.RowHead.{RowHead}

pub rows_push : (heads heads2 : List RowHead) (texts texts2 : List (List ℕ)) (head : RowHead) (text : List ℕ) → length heads ≡ length texts
    → heads2 ≡ heads ++ head ∷ [] → texts2 ≡ texts ++ text ∷ [] → rows_with heads2 texts2 ≡ rows_with heads texts ++ row_text head text ∷ []
rows_push heads heads2 texts texts2 head text same heads_are texts_are =
    ap (λ (hs : List RowHead). rows_with hs texts2) heads_are
    ∙ (ap (rows_with (heads ++ head ∷ [])) texts_are ∙ by heads texts same)
  where
    by : (hs : List RowHead) (ts : List (List ℕ)) → length hs ≡ length ts
        → rows_with (hs ++ head ∷ []) (ts ++ text ∷ []) ≡ rows_with hs ts ++ row_text head text ∷ []
    by [] [] same = refl
    by [] (t ∷ ts) same = absurd (omega (arith, same))
    by (h ∷ hs) [] same = absurd (omega (arith, same))
    by (h ∷ hs) (t ∷ ts) same = ap (λ (rows : List RowText). row_text h t ∷ rows) (by hs ts (omega (arith, same)))

pub rows_at : (heads : List RowHead) (texts : List (List ℕ)) (place : ℕ) (head : RowHead) (text : List ℕ) → length heads ≡ length texts
    → place < length heads → head ≡ get_or heads place head → text ≡ field_or texts place
    → rows_with (drop place heads) (drop place texts) ≡ row_text head text ∷ rows_with (drop (place + 1) heads) (drop (place + 1) texts)
unfolding field_at
rows_at [] texts place head text same below head_is text_is = absurd (omega (arith, below))
rows_at (h ∷ heads) [] place head text same below head_is text_is = absurd (omega (arith, same))
rows_at (h ∷ heads) (t ∷ texts) zero head text same below head_is text_is =
    λ i. row_text (sym head_is i) (sym text_is i) ∷ rows_with heads texts
rows_at (h ∷ heads) (t ∷ texts) (suc place) head text same below head_is text_is =
    let next : suc place + 1 ≡ suc (place + 1) = omega arith in
    rows_at heads texts place head text (omega (arith, same)) (omega (arith, below)) head_is text_is
    ∙ ap (λ (n : ℕ). row_text head text ∷ rows_with (drop n (h ∷ heads)) (drop n (t ∷ texts))) (sym next)

pub rows_long : (heads : List RowHead) (texts : List (List ℕ)) → length heads ≡ length texts → length (rows_with heads texts) ≡ length heads
rows_long [] [] same = refl
rows_long [] (t ∷ texts) same = refl
rows_long (h ∷ heads) [] same = absurd (omega (arith, same))
rows_long (h ∷ heads) (t ∷ texts) same = ap suc (rows_long heads texts (omega (arith, same)))

pub rows_drop : (place : ℕ) (heads : List RowHead) (texts : List (List ℕ)) → length heads ≡ length texts
    → drop place (rows_with heads texts) ≡ rows_with (drop place heads) (drop place texts)
rows_drop zero heads texts same = refl
rows_drop (suc place) [] [] same = refl
rows_drop (suc place) [] (t ∷ texts) same = absurd (omega (arith, same))
rows_drop (suc place) (h ∷ heads) [] same = absurd (omega (arith, same))
rows_drop (suc place) (h ∷ heads) (t ∷ texts) same = rows_drop place heads texts (omega (arith, same))
