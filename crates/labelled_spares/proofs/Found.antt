-- The blocks of a device that is made anew show what was seen of the one before, by other numbers.
use Rattle.std.proofs.Common.{◌≡◌, ◌≢◌, ◌⊎◌, ℕ, zero, suc, ◌+◌, ◌-◌, ◌<◌, ◌≤◌, List, [], ◌∷◌, length, map, get_or, refl, ap, sym, ◌∙◌, subst, inl, inr, arith}
use Rattle.std.specs.Prelude.{Option, Some, None, option_map, Contains}
use Rattle.std.proofs.lemmas.Bool.{cases_eq, cases_lt}
use Rattle.std.proofs.lemmas.List.{get_or-map, get_or_past, length-map}
use Rattle.std.proofs.lemmas.Option.{none-some, same_Some}
use Rattle.slot_types.specs.declared.pages.Place.{Place}
use Rattle.slot_types.specs.declared.plans.DiePlan.{DiePlan}
use Rattle.slot_types.specs.declared.plans.Shape.{Shape}
use Rattle.power_loss.specs.Labels.{Label, Shown, label_at, labels_in, FitPlan}
use Rattle.spare_blocks.specs.declared.cells.BlockUse.{BlockUse}
use Rattle.spare_blocks.specs.declared.cells.BlockUse.TheVariants as use_as
use Rattle.spare_blocks.specs.declared.cells.Cell.{Cell}
use Rattle.spare_blocks.specs.declared.cells.Mark.{Mark}
use Rattle.spare_blocks.specs.Parts.{PartBlock, part_block, blank_cell}
use Rattle.spare_blocks.specs.Powering.{mark_at, HasNoMark, StartsWith, GoesAsFar, HasNumber, IsNeedless, IsPoweredTable}
use Rattle.spare_blocks.specs.Tables.{Table, IsTable, use_of, on_part}
use Rattle.labelled_spares.specs.Labels.{cell_label, label_of, block_labels}
use Rattle.labelled_spares.specs.Numbers.{HasAll, HasNoLabel, AreRenumbered}
use Rattle.labelled_spares.specs.Shown.{IsCopyOf, MayShow}
use Rattle.labelled_spares.proofs.Pigeons.{one_is_left}
use Rattle.labelled_spares.proofs.Renumbered.{find_label}

-- Labels and marks

abbrev cell_of : PartBlock → ℕ → Cell
cell_of b page = get_or b.cells page blank_cell

abbrev label : PartBlock → ℕ → Option Label
label b page = get_or (block_labels b) page None

label_is : (b : PartBlock) (page : ℕ) → label b page ≡ cell_label (cell_of b page)
label_is b page = elim (cases_lt page (length b.cells)) [
  | inl lt ↦ get_or-map cell_label b.cells page blank_cell None lt
  | inr past ↦ get_or_past (block_labels b) page None (omega (arith, past, length-map b.cells cell_label))
      ∙ sym (ap cell_label (get_or_past b.cells page blank_cell past))
]

abbrev marked : Label → Mark
marked x = record { page = x.page; serial = x.serial }

mark_back : (c : Cell) → option_map marked (cell_label c) ≡ c.mark
mark_back c = by_mark c.bytes c.mark
  where
    by_mark : (bytes : _) (m : Option Mark) → option_map marked (option_map (label_of bytes) m) ≡ m
    by_mark bytes None = refl
    by_mark bytes (Some m) = refl

mark_is : (b : PartBlock) (page : ℕ) → mark_at b page ≡ option_map marked (label b page)
mark_is b page = sym (ap (option_map marked) (label_is b page) ∙ mark_back (cell_of b page))

label_none : (b : PartBlock) (page : ℕ) → mark_at b page ≡ None → label b page ≡ None
label_none b page e = label_is b page ∙ ap (λ (m : Option Mark). option_map (label_of (cell_of b page).bytes) m) e

-- a cell with a label has its mark
marked_there : (b : PartBlock) (page : ℕ) (w : Label) → label b page ≡ Some w → mark_at b page ≡ Some (marked w)
marked_there b page w e = mark_is b page ∙ ap (option_map marked) e

-- and a cell with a mark has a label of that serial
record HasSerial (b : PartBlock) (page serial : ℕ) : Type 0 where
  pub w : Label
  pub is : label b page ≡ Some w
  pub serial_is : w.serial ≡ serial

labelled_there : (b : PartBlock) (page : ℕ) (m : Mark) → mark_at b page ≡ Some m → HasSerial b page m.serial
labelled_there b page m e = record {
  w = label_of (cell_of b page).bytes m;
  is = label_is b page ∙ ap (λ (o : Option Mark). option_map (label_of (cell_of b page).bytes) o) e;
  serial_is = refl;
}

-- the first label of a block that has one
first_label : (b : PartBlock) (k : ℕ) → ((page : ℕ) → page < k → mark_at b page ≡ None) ⊎ ((first : ℕ) × (m : Mark) × StartsWith b first m)
first_label b zero = inl (λ page lt. absurd (omega (arith, lt)))
first_label b (suc k) = elim (first_label b k) [
  | inr found ↦ inr found
  | inl none ↦ by_mark none (mark_at b k) refl
]
  where
    by_mark : ((page : ℕ) → page < k → mark_at b page ≡ None) → (o : Option Mark) → mark_at b k ≡ o
        → ((page : ℕ) → page < suc k → mark_at b page ≡ None) ⊎ ((first : ℕ) × (m : Mark) × StartsWith b first m)
    by_mark none None e = inl (λ page lt. elim (cases_lt page k) [
      | inl below ↦ none page below
      | inr past ↦ ap (mark_at b) (omega (arith, past, lt)) ∙ e
    ])
    by_mark none (Some m) e = inr (k, m, record { is = e; before = none })

starts : (b : PartBlock) (page : ℕ) (m : Mark) → mark_at b page ≡ Some m → (first : ℕ) × (f : Mark) × StartsWith b first f
starts b page m e = elim (first_label b (page + 1)) [
  | inl none ↦ absurd (none-some m (sym (none page (omega arith)) ∙ e))
  | inr found ↦ found
]

-- which number a block has, if it shows what is seen of one
find_number : (block : ℕ → ℕ) (n y : ℕ) → ((b : ℕ) × (b < n) × (block b ≡ y)) ⊎ ((b : ℕ) → b < n → block b ≢ y)
find_number block zero y = inr (λ b lt. absurd (omega (arith, lt)))
find_number block (suc n) y = elim (cases_eq (block n) y) [
  | inl here ↦ inl (n, omega arith, here)
  | inr apart ↦ elim (find_number block n y) [
    | inl (b, lt, e) ↦ inl (b, omega (arith, lt), e)
    | inr none ↦ inr (λ b lt e. elim (cases_lt b n) [
      | inl below ↦ none b below e
      | inr past ↦ apart (ap block (omega (arith, past, lt)) ∙ e)
    ])
  ]
]

plan-differs : {b : ℕ} → use_as.InPlan b ≡ use_as.Bad → ⊥
plan-differs e = cc

module _ (plan : DiePlan) (shape part : Shape) (bad : List ℕ) (t : Table) (seen : Shown) (shown after : List PartBlock) (fit : FitPlan plan seen)
    (table : IsPoweredTable shape bad t part shown after) (count : length shown ≡ part.blocks) (may : MayShow shape.blocks bad seen shown) where
  abbrev n : ℕ
  n = shape.blocks

  abbrev P : ℕ → PartBlock
  P x = part_block shown x

  -- the same labels
  abbrev Alike : ℕ → ℕ → Type 0
  Alike x y = (page : ℕ) → label (P x) page ≡ label (P y) page

  sound : IsTable t
  sound = table.table

  -- numbers whose blocks have a label of one serial are one
  same_number : (b c p q serial : ℕ) → b < n → c < n → HasSerial (P (may.block b)) p serial → HasSerial (P (may.block c)) q serial → b ≡ c
  same_number b c p q serial lb lc x y =
      ap (λ (r : Place). r.block) (fit.apart (record { block = b; page = p }) (record { block = c; page = q }) x.w y.w
      (sym (may.labels b p lb) ∙ x.is) (sym (may.labels c q lc) ∙ y.is) (x.serial_is ∙ sym y.serial_is))

  -- a block with a number of the table

  unlisted : (c : ℕ) → c < n → Contains bad (on_part t c) → ⊥
  unlisted c lt listed =
      plan-differs (sym (sound.numbered c (omega (arith, lt, table.count))) ∙ table.known (on_part t c) listed)

  within : (c : ℕ) → c < n → on_part t c < length shown
  within c lt = omega (arith, table.within c lt, count)

  -- a copy that goes as far has all labels
  copy_has_all : (x y : ℕ) → IsCopyOf (P x) (P y) → GoesAsFar (P y) (P x) → Alike y x
  copy_has_all x y copy far page = by_end (cases_lt page copy.end)
    where
      first_in : far.first < copy.end
      first_in = elim (cases_lt far.first copy.end) [
        | inl lt ↦ lt
        | inr past ↦ absurd (none-some far.mark (sym (copy.none far.first past) ∙ far.own_first.is))
      ]

      by_end : (page < copy.end) ⊎ (copy.end ≤ page) → label (P y) page ≡ label (P x) page
      by_end (inl lt) = label_is (P y) page ∙ (ap cell_label (copy.same page lt) ∙ sym (label_is (P x) page))
      by_end (inr past) =
          label_none (P y) page (copy.none page past)
          ∙ sym (label_none (P x) page (far.far (copy.end - 1) (λ k more. copy.none k (omega (arith, more, first_in))) page (omega (arith, past, first_in))))

  -- a block that goes as far as that of number b, and has a number, has its labels
  far_alike : (b c : ℕ) → b < n → c < n → GoesAsFar (P (on_part t c)) (P (may.block b)) → Alike (on_part t c) (may.block b)
  far_alike b c lb lc far = by_number (find_number may.block n (on_part t c))
    where
      y : ℕ
      y = on_part t c

      seen_first : HasSerial (P (may.block b)) far.first far.mark.serial
      seen_first = labelled_there (P (may.block b)) far.first far.mark far.other_first.is

      by_others : HasNoMark (P y) ⊎ ((k : ℕ) × (k < n) × IsCopyOf (P (may.block k)) (P y)) → Alike y (may.block b)
      by_others (inl none) = absurd (none-some far.mark (sym (none far.first) ∙ far.own_first.is))
      by_others (inr (k, lk, copy)) = elim (cases_lt far.first copy.end) [
        | inr past ↦ absurd (none-some far.mark (sym (copy.none far.first past) ∙ far.own_first.is))
        | inl lt ↦
            let there : mark_at (P (may.block k)) far.first ≡ Some far.mark = sym (ap (λ (q : Cell). q.mark) (copy.same far.first lt)) ∙ far.own_first.is in
            let same : k ≡ b = same_number k b far.first far.first far.mark.serial lk lb (labelled_there (P (may.block k)) far.first far.mark there) seen_first in
            copy_has_all (may.block b) y (subst (λ (j : ℕ). IsCopyOf (P (may.block j)) (P y)) same copy) far
      ]

      by_number : ((k : ℕ) × (k < n) × (may.block k ≡ y)) ⊎ ((k : ℕ) → k < n → may.block k ≢ y) → Alike y (may.block b)
      by_number (inl (k, lk, e)) = λ page.
          let there : mark_at (P (may.block k)) far.first ≡ Some far.mark = ap (λ (x : ℕ). mark_at (P x) far.first) e ∙ far.own_first.is in
          let same : k ≡ b = same_number k b far.first far.first far.mark.serial lk lb (labelled_there (P (may.block k)) far.first far.mark there) seen_first in
          ap (λ (x : ℕ). label (P x) page) (sym e ∙ ap may.block same)
      by_number (inr none) = by_others (may.others y (within c lc) (unlisted c lc) none)

  -- There

  record IsHeld (b : ℕ) : Type 0 where
    pub number : ℕ
    pub lt : number < n
    pub alike : Alike (on_part t number) (may.block b)

  held : (b p : ℕ) (w : Label) → b < n → label (P (may.block b)) p ≡ Some w → IsHeld b
  held b p w lt e = by_use (use_of t (may.block b)) refl
    where
      spare_none : HasNumber use_as.Spare → ⊥
      spare_none (k, h) = cc

      bad_none : HasNumber use_as.Bad → ⊥
      bad_none (k, h) = cc

      unnumbered : (u : BlockUse) → (HasNumber u → ⊥) → use_of t (may.block b) ≡ u → IsHeld b
      unnumbered u none is = by_needless (table.rest (may.block b) (omega (arith, may.has b lt, count)) (λ has. none (subst HasNumber is has)))
        where
          by_needless : IsNeedless bad t shown (may.block b) → IsHeld b
          by_needless (inl listed) = absurd (may.unlisted b lt listed)
          by_needless (inr (inl blank)) = absurd (none-some (marked w) (sym (blank p) ∙ marked_there (P (may.block b)) p w e))
          by_needless (inr (inr (c, less, far))) =
              let lc : c < n = omega (arith, less, table.count) in record { number = c; lt = lc; alike = far_alike b c lt lc far }

      by_use : (u : BlockUse) → use_of t (may.block b) ≡ u → IsHeld b
      by_use (use_as.InPlan c) is =
          let l = sound.listed (may.block b) c is in
          record { number = c; lt = omega (arith, l.0, table.count); alike = λ page. ap (λ (x : ℕ). label (P x) page) l.1 }
      by_use use_as.Spare is = unnumbered use_as.Spare (λ has. spare_none has) is
      by_use use_as.Bad is = unnumbered use_as.Bad (λ has. bad_none has) is

  -- two numbers of the table with the same labels are one
  one_held : (c k p : ℕ) (w : Label) → c < n → k < n → label (P (on_part t c)) p ≡ Some w → Alike (on_part t c) (on_part t k) → c ≡ k
  one_held c k p w lc lk e alike =
      let f = starts (P (on_part t c)) p (marked w) (marked_there (P (on_part t c)) p w e) in
      table.once c k f.0 f.1 lc lk f.2 (record {
        is = same_mark f.0 ∙ f.2.is;
        before = λ page lt. same_mark page ∙ f.2.before page lt;
      })
    where
      same_mark : (page : ℕ) → mark_at (P (on_part t k)) page ≡ mark_at (P (on_part t c)) page
      same_mark page = mark_is (P (on_part t k)) page ∙ (ap (option_map marked) (sym (alike page)) ∙ sym (mark_is (P (on_part t c)) page))

  -- Here

  record IsShown (c : ℕ) : Type 0 where
    pub number : ℕ
    pub lt : number < n
    pub alike : Alike (on_part t c) (may.block number)

  is_shown : (c p : ℕ) (w : Label) → c < n → label (P (on_part t c)) p ≡ Some w → IsShown c
  is_shown c p w lt e = by_number (find_number may.block n (on_part t c))
    where
      y : ℕ
      y = on_part t c

      by_copy : (b : ℕ) → b < n → IsCopyOf (P (may.block b)) (P y) → IsShown c
      by_copy b lb copy =
          let f = starts (P y) p (marked w) (marked_there (P y) p w e) in
          elim (cases_lt f.0 copy.end) [
            | inr past ↦ absurd (none-some f.1 (sym (copy.none f.0 past) ∙ f.2.is))
            | inl inside ↦
                let there : StartsWith (P (may.block b)) f.0 f.1 = record {
                  is = sym (ap (λ (q : Cell). q.mark) (copy.same f.0 inside)) ∙ f.2.is;
                  before = λ page less. sym (ap (λ (q : Cell). q.mark) (copy.same page (omega (arith, less, inside)))) ∙ f.2.before page less;
                } in
                let l = labelled_there (P (may.block b)) f.0 f.1 there.is in
                let h = held b f.0 l.w lb l.is in
                let start_h : StartsWith (P (on_part t h.number)) f.0 f.1 = record {
                  is = same_mark h f.0 ∙ there.is;
                  before = λ page less. same_mark h page ∙ there.before page less;
                } in
                let one : c ≡ h.number = table.once c h.number f.0 f.1 lt h.lt f.2 start_h in
                record { number = b; lt = lb; alike = subst (λ (k : ℕ). Alike (on_part t k) (may.block b)) (sym one) h.alike }
          ]
        where
          same_mark : (h : IsHeld b) (page : ℕ) → mark_at (P (on_part t h.number)) page ≡ mark_at (P (may.block b)) page
          same_mark h page =
              mark_is (P (on_part t h.number)) page ∙ (ap (option_map marked) (h.alike page) ∙ sym (mark_is (P (may.block b)) page))

      by_others : HasNoMark (P y) ⊎ ((k : ℕ) × (k < n) × IsCopyOf (P (may.block k)) (P y)) → IsShown c
      by_others (inl none) = absurd (none-some (marked w) (sym (none p) ∙ marked_there (P y) p w e))
      by_others (inr (k, lk, copy)) = by_copy k lk copy

      by_number : ((k : ℕ) × (k < n) × (may.block k ≡ y)) ⊎ ((k : ℕ) → k < n → may.block k ≢ y) → IsShown c
      by_number (inl (k, lk, at)) = record { number = k; lt = lk; alike = λ page. ap (λ (x : ℕ). label (P x) page) (sym at) }
      by_number (inr none) = by_others (may.others y (within c lt) (unlisted c lt) none)

  -- two numbers before with the same labels are one
  one_shown : (b k p : ℕ) (w : Label) → b < n → k < n → label (P (may.block b)) p ≡ Some w → Alike (may.block b) (may.block k) → b ≡ k
  one_shown b k p w lb lk e alike = same_number b k p p w.serial lb lk
      (record { w = w; is = e; serial_is = refl }) (record { w = w; is = sym (alike p) ∙ e; serial_is = refl })

  -- By the other numbers

  module _ (other : Shown) (seen_count : length seen ≡ n) (other_count : length other ≡ n)
      (other_at : (c page : ℕ) → c < n → label_at other (record { block = c; page = page }) ≡ label (P (on_part t c)) page) where
    choose_to : (b : ℕ) → IsHeld b ⊎ ((p : ℕ) (w : Label) → b < n → label (P (may.block b)) p ≡ Some w → ⊥)
    choose_to b = elim (cases_lt b n) [
      | inr past ↦ inr (λ p w lt e. absurd (omega (arith, past, lt)))
      | inl lt ↦ elim (find_label (block_labels (P (may.block b)))) [
        | inl (k, w, e) ↦ inl (held b k w lt e)
        | inr none ↦ inr (λ p w less e. none-some w (sym (none p) ∙ e))
      ]
    ]

    choose_back : (c : ℕ) → IsShown c ⊎ ((p : ℕ) (w : Label) → c < n → label (P (on_part t c)) p ≡ Some w → ⊥)
    choose_back c = elim (cases_lt c n) [
      | inr past ↦ inr (λ p w lt e. absurd (omega (arith, past, lt)))
      | inl lt ↦ elim (find_label (block_labels (P (on_part t c)))) [
        | inl (k, w, e) ↦ inl (is_shown c k w lt e)
        | inr none ↦ inr (λ p w less e. none-some w (sym (none p) ∙ e))
      ]
    ]

    pick_to : (b : ℕ) → IsHeld b ⊎ ((p : ℕ) (w : Label) → b < n → label (P (may.block b)) p ≡ Some w → ⊥) → ℕ
    pick_to b (inl h) = h.number
    pick_to b (inr none) = 0

    pick_back : (c : ℕ) → IsShown c ⊎ ((p : ℕ) (w : Label) → c < n → label (P (on_part t c)) p ≡ Some w → ⊥) → ℕ
    pick_back c (inl h) = h.number
    pick_back c (inr none) = 0

    to : ℕ → ℕ
    to b = pick_to b (choose_to b)

    back : ℕ → ℕ
    back c = pick_back c (choose_back c)

    to_is : (b p : ℕ) (w : Label) → b < n → label (P (may.block b)) p ≡ Some w → (to b < n) × Alike (on_part t (to b)) (may.block b)
    unfolding pick_to to choose_to
    to_is b p w lt e = by_choice (choose_to b)
      where
        by_choice : (d : IsHeld b ⊎ ((p : ℕ) (w : Label) → b < n → label (P (may.block b)) p ≡ Some w → ⊥))
            → (pick_to b d < n) × Alike (on_part t (pick_to b d)) (may.block b)
        by_choice (inl h) = (h.lt, h.alike)
        by_choice (inr none) = absurd (none p w lt e)

    back_is : (c p : ℕ) (w : Label) → c < n → label (P (on_part t c)) p ≡ Some w → (back c < n) × Alike (on_part t c) (may.block (back c))
    unfolding pick_back back choose_back
    back_is c p w lt e = by_choice (choose_back c)
      where
        by_choice : (d : IsShown c ⊎ ((p : ℕ) (w : Label) → c < n → label (P (on_part t c)) p ≡ Some w → ⊥))
            → (pick_back c d < n) × Alike (on_part t c) (may.block (pick_back c d))
        by_choice (inl h) = (h.lt, h.alike)
        by_choice (inr none) = absurd (none p w lt e)

    in_range : (l : Shown) (q : Place) (x : Label) → length l ≡ n → label_at l q ≡ Some x → q.block < n
    in_range l q x size e = elim (cases_lt q.block n) [
      | inl lt ↦ lt
      | inr past ↦ absurd (none-some x (sym (ap (λ (cells : List (Option Label)). get_or cells q.page None)
          (get_or_past l q.block [] (omega (arith, past, size)))) ∙ e))
    ]

    seen_label : (q : Place) (x : Label) → label_at seen q ≡ Some x → label (P (may.block q.block)) q.page ≡ Some x
    seen_label q x e = may.labels q.block q.page (in_range seen q x seen_count e) ∙ e

    other_label : (q : Place) (x : Label) → label_at other q ≡ Some x → label (P (on_part t q.block)) q.page ≡ Some x
    other_label q x e = sym (other_at q.block q.page (in_range other q x other_count e)) ∙ e

    there : HasAll to back seen other
    there = record {
      stands = λ q x e.
          let k = to_is q.block q.page x (in_range seen q x seen_count e) (seen_label q x e) in
          other_at (to q.block) q.page k.0 ∙ (k.1 q.page ∙ seen_label q x e);
      back_again = λ q x e.
          let lt = in_range seen q x seen_count e in
          let k = to_is q.block q.page x lt (seen_label q x e) in
          let l : label (P (on_part t (to q.block))) q.page ≡ Some x = k.1 q.page ∙ seen_label q x e in
          let m = back_is (to q.block) q.page x k.0 l in
          one_shown (back (to q.block)) q.block q.page x m.0 lt (sym (m.1 q.page) ∙ l) (λ page. sym (m.1 page) ∙ k.1 page);
    }

    here : HasAll back to other seen
    here = record {
      stands = λ q x e.
          let k = back_is q.block q.page x (in_range other q x other_count e) (other_label q x e) in
          sym (may.labels (back q.block) q.page k.0) ∙ (sym (k.1 q.page) ∙ other_label q x e);
      back_again = λ q x e.
          let lt = in_range other q x other_count e in
          let k = back_is q.block q.page x lt (other_label q x e) in
          let l : label (P (may.block (back q.block))) q.page ≡ Some x = sym (k.1 q.page) ∙ other_label q x e in
          let m = to_is (back q.block) q.page x k.0 l in
          one_held (to (back q.block)) q.block q.page x m.0 lt (m.1 q.page ∙ l) (λ page. m.1 page ∙ sym (k.1 page));
    }

    -- a block without labels, or each of so many has one
    find_blank : (k : ℕ) → k ≤ n → ((c : ℕ) × (c < k) × HasNoLabel other c)
        ⊎ ((c : ℕ) → c < k → (p : ℕ) × (w : Label) × (label (P (on_part t c)) p ≡ Some w))
    find_blank zero le = inr (λ c lt. absurd (omega (arith, lt)))
    find_blank (suc k) le = elim (find_label (block_labels (P (on_part t k)))) [
      | inr none ↦ inl (
        k,
        omega arith,
        λ q same. ap (λ (b : ℕ). label_at other (record { block = b; page = q.page })) same
            ∙ (other_at k q.page (omega (arith, le)) ∙ none q.page),
      )
      | inl (p, w, e) ↦ elim (find_blank k (omega (arith, le))) [
        | inl (c, lt, none) ↦ inl (c, omega (arith, lt), none)
        | inr all ↦ inr (λ c lt. elim (cases_lt c k) [
          | inl below ↦ all c below
          | inr past ↦ (p, w, ap (λ (b : ℕ). label (P (on_part t b)) p) (omega (arith, past, lt)) ∙ e)
        ])
      ]
    ]

    empty : (b : ℕ) → b < length seen → HasNoLabel seen b → ((c : ℕ) × (c < length other) × HasNoLabel other c)
    empty b less none = elim (find_blank n (omega arith)) [
      | inl (c, lt, blank) ↦ (c, omega (arith, lt, other_count), blank)
      | inr all ↦ absurd (one_is_left n b back lt_b
          (λ c lt. let f = all c lt in let k = back_is c f.0 f.1 lt f.2 in
          let r : (back c < n) × (back c ≡ b → ⊥) = (k.0, λ same. apart c f.0 f.1 f.2 k.1 same) in r)
          (λ c e lc le same. one_back c e lc le same all))
    ]
      where
        lt_b : b < n
        lt_b = omega (arith, less, seen_count)

        apart : (c p : ℕ) (w : Label) → label (P (on_part t c)) p ≡ Some w → Alike (on_part t c) (may.block (back c)) → back c ≡ b → ⊥
        apart c p w e alike same = none-some w (sym (none (record { block = b; page = p }) refl)
            ∙ (sym (may.labels b p lt_b) ∙ (ap (λ (k : ℕ). label (P (may.block k)) p) (sym same) ∙ (sym (alike p) ∙ e))))

        one_back : (c e : ℕ) → c < n → e < n → back c ≡ back e
            → ((k : ℕ) → k < n → (p : ℕ) × (w : Label) × (label (P (on_part t k)) p ≡ Some w)) → c ≡ e
        one_back c e lc le same all =
            let f = all c lc in
            let g = all e le in
            let cq : Place = record { block = c; page = f.0 } in
            let eq : Place = record { block = e; page = g.0 } in
            sym (here.back_again cq f.1 (other_at c f.0 lc ∙ f.2)) ∙ (ap to same ∙ here.back_again eq g.1 (other_at e g.0 le ∙ g.2))

    pub are_renumbered : AreRenumbered seen other
    are_renumbered = record { count = other_count ∙ sym seen_count; to = to; back = back; there = there; here = here; empty = empty }
