-- One block more in a table that is begun.
use Rattle.std.proofs.Common.{◌≡◌, ◌≢◌, ◌⊎◌, ℕ, ◌+◌, ◌<◌, ◌≤◌, Bool, true, false, List, [], ◌∷◌, ◌++◌, length, get_or, refl, ap, sym, ◌∙◌, subst, inl, inr, arith}
use Rattle.std.specs.Prelude.{Contains}
use Rattle.std.proofs.lemmas.Bool.{cases_eq, cases_lt}
use Rattle.std.proofs.lemmas.List.{get_or_past, get_or_push, get_or_append_left, length_push}
use Rattle.spare_blocks.specs.declared.cells.BlockUse.{BlockUse}
use Rattle.spare_blocks.specs.declared.cells.BlockUse.TheVariants as use_as
use Rattle.spare_blocks.specs.Tables.{Table, use_of, empty_table}
use Rattle.stepped_spares.specs.Beginning.{IsAdded, AreAdded}

pub none_added : (limit : ℕ) (bad : List ℕ) → AreAdded limit bad empty_table 0
none_added limit bad = record {
  uses = refl;
  few = omega arith;
  known = λ x listed. refl;
  good = λ x lt off. absurd (omega (arith, lt));
}

module _ (limit k : ℕ) (bad : List ℕ) (t u : Table) (listed : Bool) (is : AreAdded limit bad t k) (one : IsAdded listed limit t u)
    (told : Contains bad k → listed ≡ true) (free : (Contains bad k → ⊥) → listed ≡ false) where
  use_here : (x : ℕ) → x ≡ k → use_of u x ≡ one.becomes
  use_here x same =
      ap (λ (l : List BlockUse). get_or l x use_as.Bad) one.pushed
      ∙ get_or_push t.uses one.becomes use_as.Bad x (is.uses ∙ sym same)

  use_other : (x : ℕ) → x ≢ k → use_of u x ≡ use_of t x
  use_other x other = ap (λ (l : List BlockUse). get_or l x use_as.Bad) one.pushed ∙ by_case (cases_lt x (length t.uses))
    where
      by_case : (x < length t.uses) ⊎ (length t.uses ≤ x) → get_or (t.uses ++ one.becomes ∷ []) x use_as.Bad ≡ get_or t.uses x use_as.Bad
      by_case (inl below) = get_or_append_left t.uses (one.becomes ∷ []) use_as.Bad x below
      by_case (inr past) =
          get_or_past (t.uses ++ one.becomes ∷ []) x use_as.Bad (omega (arith, past, other, is.uses, length_push t.uses one.becomes))
          ∙ sym (get_or_past t.uses x use_as.Bad past)

  known_at : (x : ℕ) → Contains bad x → (x ≡ k) ⊎ (x ≡ k → ⊥) → use_of u x ≡ use_as.Bad
  known_at x has (inl same) = use_here x same ∙ one.bad (told (subst (λ (y : ℕ). Contains bad y) same has))
  known_at x has (inr other) = use_other x other ∙ is.known x has

  good_at : (x : ℕ) → x < k + 1 → (Contains bad x → ⊥) → (x ≡ k) ⊎ (x ≡ k → ⊥) → use_of u x ≡ use_as.Bad → ⊥
  good_at x lt off (inl same) e =
      one.good (free (λ has. off (subst (λ (y : ℕ). Contains bad y) (sym same) has))) (sym (use_here x same) ∙ e)
  good_at x lt off (inr other) e = is.good x (omega (arith, lt, other)) off (sym (use_other x other) ∙ e)

  pub one_added : AreAdded limit bad u (k + 1)
  one_added = record {
    uses = ap (λ (l : List BlockUse). length l) one.pushed ∙ (length_push t.uses one.becomes ∙ ap (λ (n : ℕ). n + 1) is.uses);
    few = one.few is.few;
    known = λ x has. known_at x has (cases_eq x k);
    good = λ x lt off. good_at x lt off (cases_eq x k);
  }
