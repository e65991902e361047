-- A spare block is filled, call by call.
use Rattle.std.proofs.Common.{◌≡◌, ◌≢◌, ℕ, ◌+◌, ◌*◌, ◌<◌, ◌≤◌, Bool, true, false, List, [], ◌∷◌, ◌++◌, length, take, get_or, set, refl, ap, sym, ◌∙◌, subst, arith}
use Rattle.std.specs.Prelude.{Option, Some, nat_lt, if◌then◌else◌}
use Rattle.std.proofs.lemmas.Bool.{false≢true}
use Rattle.std.proofs.lemmas.Bool.Decides.{nat_tests}
use Rattle.std.proofs.lemmas.List.{get_or-set_same, get_or-set_other, take_more, take_all, length-take-le}
use Rattle.std.proofs.lemmas.Option.{none-some}
use Rattle.spare_blocks.specs.declared.cells.BlockUse.TheVariants as use_as
use Rattle.spare_blocks.specs.declared.cells.Cell.{Cell}
use Rattle.spare_blocks.specs.declared.cells.Ended.TheVariants as ended
use Rattle.spare_blocks.specs.Parts.{PartBlock, part_block, blank_cell, cell_on, IsFreeCell, block_after_program, blocks_after_program}
use Rattle.spare_blocks.specs.Tables.{Table, IsTable, IsSpare, use_of, on_part, replaced, spares_in, without_spare}
use Rattle.spare_blocks.specs.Trying.{IsUsedUp, IsSource, AreFree, AreFreeBut}
use Rattle.spare_blocks.proofs.Numbers.{bad-spare, spare_within, spares_given_up, spares_replaced}
use Rattle.spare_blocks.proofs.PlanCells.{set_here, set_other}
use Rattle.stepped_spares.specs.declared.moves.Outcome.{Outcome}
use Rattle.stepped_spares.specs.declared.moves.Outcome.TheVariants as outcome
use Rattle.stepped_spares.specs.declared.moves.Stage.{Stage}
use Rattle.stepped_spares.specs.declared.moves.Stage.TheVariants as stage
use Rattle.stepped_spares.specs.declared.moves.Move.{Move}
use Rattle.stepped_spares.specs.declared.moves.Move.TheVariants as moves
use Rattle.stepped_spares.specs.Stepping.{IsNextFill, IsMovedBy, IsSoundAt, cell_at, fill_move, move_at}
use Rattle.stepped_spares.specs.Carrying.{IsFilledAnew, IsFilledInVain, IsCarried, IsShort, MayCarry, beyond, cost_by, cost_of, serial_at}

abbrev pub held : List Cell → PartBlock
held cells = record { cells = cells; erasing = 0; failed = false }

-- a spare block holds so many of the first cells of the block that failed, and each other one is free
pub record IsAtCell (first t : Table) (blocks_first blocks : List PartBlock) (failed spare k : ℕ) : Type 0 where
  pub used : IsUsedUp first t
  pub others : (x : ℕ) → (IsSpare first x → ⊥) → part_block blocks x ≡ part_block blocks_first x
  pub holds : part_block blocks spare ≡ held (take k (part_block blocks_first failed).cells)
  pub rest : AreFreeBut t blocks spare

-- what holds while the calls are carried out
abbrev pub IsFillingOn : (first t : Table) (blocks_first blocks : List PartBlock) (number cells : ℕ) (last : Cell) (faulted : Bool) → Stage → Type 0
IsFillingOn first t blocks_first blocks number cells last faulted (stage.Filling n spare c k) =
    (n ≡ number) × (c ≡ cells) × IsAtCell first t blocks_first blocks (on_part first number) spare k × (faulted ≡ false)
IsFillingOn first t blocks_first blocks number cells last faulted stage.Working =
    IsFilledAnew number ((part_block blocks_first (on_part first number)).cells ++ last ∷ []) first t blocks_first blocks × (faulted ≡ false)
IsFillingOn first t blocks_first blocks number cells last faulted stage.WornOut =
    IsFilledInVain ((part_block blocks_first (on_part first number)).cells ++ last ∷ []) first t blocks_first blocks × (faulted ≡ false)
IsFillingOn first t blocks_first blocks number cells last faulted stage.Faulted = IsUsedUp first t × (faulted ≡ true)
IsFillingOn first t blocks_first blocks number cells last faulted (stage.Erasing x all) = ⊥

-- Which call it is

below : (a b : ℕ) → nat_lt a b ≡ true → a < b
below a b e = grind (arith, nat_tests)

past : (a b : ℕ) → nat_lt a b ≡ false → b ≤ a
past a b e = grind (arith, nat_tests)

is_copy : (x spare n k : ℕ) → nat_lt k n ≡ true → fill_move x spare n k ≡ moves.Copy (cell_at x k) (cell_at spare k)
is_copy x spare n k e = ap (λ (b : Bool). if b then moves.Copy (cell_at x k) (cell_at spare k) else moves.Program (cell_at spare k)) e

is_program : (x spare n k : ℕ) → nat_lt k n ≡ false → fill_move x spare n k ≡ moves.Program (cell_at spare k)
is_program x spare n k e = ap (λ (b : Bool). if b then moves.Copy (cell_at x k) (cell_at spare k) else moves.Program (cell_at spare k)) e

some_is : {x y : Move} → Some x ≡ Some y → x ≡ y
some_is e = grind arith

-- A spare block less
pub other_of : (t : Table) (spare x : ℕ) → x ≢ spare → use_of (without_spare spare t) x ≡ use_of t x
other_of t spare x far = get_or-set_other t.uses spare x use_as.Bad use_as.Bad far

pub spares_of : (t : Table) (spare x : ℕ) → IsSpare t spare → IsSpare (without_spare spare t) x → (x ≢ spare) × IsSpare t x
spares_of t spare x is has =
    let far : x ≢ spare = λ same. bad-spare (sym (ap (λ (y : ℕ). use_of (without_spare spare t) y) same
    ∙ get_or-set_same t.uses spare use_as.Bad use_as.Bad (spare_within t spare is)) ∙ has) in
    (far, sym (other_of t spare x far) ∙ has)

-- The first call

pub filling_begins : (t : Table) (blocks : List PartBlock) (number cells : ℕ) (last : Cell) (s : Stage) → AreFree t blocks → IsNextFill t number cells s
    → IsFillingOn t t blocks blocks number cells last false s
filling_begins t blocks number cells last (stage.Filling n spare c k) free (a, b, d, is) = (a, b, at_first, refl)
  where
    at_first : IsAtCell t t blocks blocks (on_part t number) spare k
    at_first = record {
      used = record { numbers = refl; others = λ x other. refl; spares = λ x has. has };
      others = λ x other. refl;
      holds = free spare is ∙ ap (λ (i : ℕ). held (take i (part_block blocks (on_part t number)).cells)) (sym d);
      rest = λ y other has. free y has;
    }
filling_begins t blocks number cells last stage.WornOut free none = (
  record {
    used = record { numbers = refl; others = λ x other. refl; spares = λ x has. has };
    none = record { others = λ x other. refl; taken = none };
  },
  refl,
)
filling_begins t blocks number cells last stage.Working free is = absurd is
filling_begins t blocks number cells last stage.Faulted free is = absurd is
filling_begins t blocks number cells last (stage.Erasing x all) free is = absurd is

-- A call more

module _ (first t : Table) (bf b : List PartBlock) (number n pages : ℕ) (spare k : ℕ) (source : IsSource bf (on_part first number) n)
    (apart : IsSpare first (on_part first number) → ⊥) (is : IsSpare t spare) (at : IsAtCell first t bf b (on_part first number) spare k) (le : k ≤ n) (room : n < pages) where
  abbrev on : ℕ
  on = on_part first number

  abbrev src : List Cell
  src = (part_block bf on).cells

  on_now : on_part t number ≡ on
  on_now = ap (λ (l : List ℕ). get_or l number 0) at.used.numbers

  source_now : part_block b (on_part t number) ≡ part_block bf on
  source_now = ap (part_block b) on_now ∙ at.others on apart

  whole : (part_block b spare).failed ≡ false
  whole = ap (λ (x : PartBlock). x.failed) at.holds

  filled : length (part_block b spare).cells ≡ k
  filled = ap (λ (x : PartBlock). length x.cells) at.holds ∙ length-take-le k src (omega (arith, le, source.count))

  free_cell : IsFreeCell b pages (cell_at spare k)
  free_cell = record { whole = whole; next = sym filled; room = omega (arith, le, room); quiet = ap (λ (x : PartBlock). x.erasing) at.holds }

  may : MayCarry b pages (fill_move (on_part t number) spare n k)
  may = by_test (nat_lt k n) refl
    where
      by_test : (x : Bool) → nat_lt k n ≡ x → MayCarry b pages (fill_move (on_part t number) spare n k)
      by_test true e = subst (MayCarry b pages) (sym (is_copy (on_part t number) spare n k e)) (
        record {
          filled = omega (arith, below k n e, source.count, ap (λ (x : PartBlock). length x.cells) source_now);
          quiet = ap (λ (x : PartBlock). x.erasing) source_now ∙ source.quiet;
        },
        free_cell,
      )
      by_test false e = subst (MayCarry b pages) (sym (is_program (on_part t number) spare n k e)) free_cell

  other_spare : (x : ℕ) → (IsSpare first x → ⊥) → x ≢ spare
  other_spare x other same = other (subst (IsSpare first) (sym same) (at.used.spares spare is))

  -- the spare block is changed alone
  others_on : (new : PartBlock) (x : ℕ) → (IsSpare first x → ⊥) → part_block (set b spare new) x ≡ part_block bf x
  others_on new x other = set_other b spare x new (other_spare x other) ∙ at.others x other

  rest_on : (new : PartBlock) → AreFreeBut t (set b spare new) spare
  rest_on new y far has = set_other b spare y new far ∙ at.rest y far has

  -- with one cell more
  grown : (cell : Cell) → part_block (set b spare (block_after_program ended.Done cell (part_block b spare))) spare ≡ held (take k src ++ cell ∷ [])
  grown cell =
      set_here b spare (block_after_program ended.Done cell (part_block b spare)) whole
      ∙ ap (λ (x : PartBlock). record x { cells = x.cells ++ cell ∷ [] }) at.holds

  copied : k < n → IsAtCell first t bf (blocks_after_program ended.Done b spare (cell_on b (cell_at (on_part t number) k))) on spare (k + 1)
  copied lt = record {
    used = at.used;
    others = others_on _;
    holds = grown (cell_on b (cell_at (on_part t number) k))
        ∙ (ap (λ (x : PartBlock). held (take k src ++ get_or x.cells k blank_cell ∷ [])) source_now
        ∙ ap held (sym (take_more src k blank_cell (omega (arith, lt, source.count)))));
    rest = rest_on _;
  }

  programmed : (last : Cell) → n ≤ k
      → IsFilledAnew number (src ++ last ∷ []) first (replaced number spare t) bf (blocks_after_program ended.Done b spare last)
  programmed last ge = record {
    spare = spare;
    tried = t;
    used = at.used;
    taken = record {
      others = others_on _;
      taken = record {
        spare = is;
        holds = grown last ∙ ap (λ (l : List Cell). held (l ++ last ∷ [])) (take_all k src (omega (arith, ge, source.count)));
        rest = rest_on _;
      };
    };
    replaced_is = refl;
  }

  abbrev u : Table
  u = without_spare spare t

  used_up : IsUsedUp first u
  used_up = record {
    numbers = at.used.numbers;
    others = λ x other. without_other_of x other;
    spares = λ x has. at.used.spares x (given_up x has).1;
  }
    where
      given_up : (x : ℕ) → IsSpare u x → (x ≢ spare) × IsSpare t x
      given_up x has = spares_of t spare x is has

      without_other_of : (x : ℕ) → (IsSpare first x → ⊥) → use_of u x ≡ use_of first x
      without_other_of x other = other_of t spare x (other_spare x other) ∙ at.used.others x other

  free_on : (new : PartBlock) → AreFree u (set b spare new)
  free_on new x has = let r = spares_of t spare x is has in rest_on new x r.0 r.1

  failed_on : (new : PartBlock) (last : Cell) (v : Stage) → IsNextFill u number n v
      → IsFillingOn first u bf (set b spare new) number n last false v
  failed_on new last (stage.Filling m s c j) (e, f, g, has) = (
    e,
    f,
    record {
      used = used_up;
      others = others_on new;
      holds = free_on new s has ∙ ap (λ (i : ℕ). held (take i src)) (sym g);
      rest = λ y far h. free_on new y h;
    },
    refl,
  )
  failed_on new last stage.WornOut none = (record { used = used_up; none = record { others = others_on new; taken = none } }, refl)
  failed_on new last stage.Working e = absurd e
  failed_on new last stage.Faulted e = absurd e
  failed_on new last (stage.Erasing x all) e = absurd e

-- The next call, whichever it is

module _ (first : Table) (bf : List PartBlock) (number n pages : ℕ) (source : IsSource bf (on_part first number) n)
    (apart : IsSpare first (on_part first number) → ⊥) (room : n < pages) where
  same_move : (t : Table) (m spare c k : ℕ) → m ≡ number → c ≡ n → fill_move (on_part t m) spare c k ≡ fill_move (on_part t number) spare n k
  same_move t m spare c k e f = ap (λ (i : ℕ). fill_move (on_part t i) spare c k) e ∙ ap (λ (j : ℕ). fill_move (on_part t number) spare j k) f

  pub may_carry : (t : Table) (b : List PartBlock) (last : Cell) (f : Bool) (s : Stage) (call : Move) → IsSoundAt t pages s → move_at t s ≡ Some call
      → IsFillingOn first t bf b number n last f s → MayCarry b pages call
  may_carry t b last f (stage.Filling m spare c k) call (within, is, le, fits) e (mn, cn, at, well) =
      subst (MayCarry b pages) (sym (same_move t m spare c k mn cn) ∙ some_is e)
      (may first t bf b number n pages spare k source apart is at (omega (arith, le, cn)) room)
  may_carry t b last f stage.Working call sound e on_it = absurd (none-some call e)
  may_carry t b last f stage.WornOut call sound e on_it = absurd (none-some call e)
  may_carry t b last f stage.Faulted call sound e on_it = absurd (none-some call e)
  may_carry t b last f (stage.Erasing x all) call sound e on_it = absurd on_it

  module _ (t u : Table) (b a : List PartBlock) (last : Cell) (page : Option ℕ) (serial next : ℕ) (f : Bool) (m spare c k : ℕ) (v : Stage)
      (is : IsSpare t spare) (le : k ≤ c) (mn : m ≡ number) (cn : c ≡ n) (at : IsAtCell first t bf b (on_part first number) spare k) where
    less : k ≤ n
    less = omega (arith, le, cn)

    abbrev move : (x : Bool) → nat_lt k n ≡ x → Move
    move true e = moves.Copy (cell_at (on_part t number) k) (cell_at spare k)
    move false e = moves.Program (cell_at spare k)

    move_is : (x : Bool) (e : nat_lt k n ≡ x) → fill_move (on_part t m) spare c k ≡ move x e
    move_is true e = same_move t m spare c k mn cn ∙ is_copy (on_part t number) spare n k e
    move_is false e = same_move t m spare c k mn cn ∙ is_program (on_part t number) spare n k e

    done_by : (x : Bool) (e : nat_lt k n ≡ x) → IsCarried outcome.Done (move x e) last page b a serial next f
        → (k < c → (u ≡ t) × (v ≡ stage.Filling m spare c (k + 1))) → (c ≤ k → (u ≡ replaced m spare t) × (v ≡ stage.Working))
        → IsFillingOn first u bf a number n last f v
    done_by true e (blocks, serials, well) more over =
        let r = more (omega (arith, below k n e, cn)) in
        let grew = copied first t bf b number n pages spare k source apart is at less room (below k n e) in
        let there : IsAtCell first t bf a (on_part first number) spare (k + 1) = subst (λ (l : List PartBlock). IsAtCell first t bf l (on_part first number) spare (k + 1)) (sym blocks) grew in
        subst (IsFillingOn first u bf a number n last f) (sym r.1)
        (mn, cn, subst (λ (w : Table). IsAtCell first w bf a (on_part first number) spare (k + 1)) (sym r.0) there, well)
    done_by false e (blocks, serials, well) more over =
        let r = over (omega (arith, past k n e, cn)) in
        let full = programmed first t bf b number n pages spare k source apart is at less room last (past k n e) in
        subst (IsFillingOn first u bf a number n last f) (sym r.1) (
          subst (λ (w : Table). IsFilledAnew number ((part_block bf (on_part first number)).cells ++ last ∷ []) first w bf a)
              (ap (λ (i : ℕ). replaced i spare t) (sym mn) ∙ sym r.0)
              (subst (λ (l : List PartBlock). IsFilledAnew number ((part_block bf (on_part first number)).cells ++ last ∷ []) first (replaced number spare t) bf l) (sym blocks) full),
          well,
        )

    failed_by : (x : Bool) (e : nat_lt k n ≡ x) → IsCarried outcome.Failed (move x e) last page b a serial next f → u ≡ without_spare spare t
        → IsNextFill u m c v → IsFillingOn first u bf a number n last f v
    failed_by x e carried same then_on = subst (λ (w : Table). IsFillingOn first w bf a number n last f v) (sym same)
        (failed_in x e carried (subst (λ (w : Table). IsNextFill w number n v) same
        (subst (λ (i : ℕ). IsNextFill u i n v) mn (subst (λ (j : ℕ). IsNextFill u m j v) cn then_on))))
      where
        failed_in : (x : Bool) (e : nat_lt k n ≡ x) → IsCarried outcome.Failed (move x e) last page b a serial next f
            → IsNextFill (without_spare spare t) number n v → IsFillingOn first (without_spare spare t) bf a number n last f v
        failed_in true e (blocks, serials, well) on_it = subst (λ (w : Bool). IsFillingOn first (without_spare spare t) bf a number n last w v) (sym well)
            (subst (λ (l : List PartBlock). IsFillingOn first (without_spare spare t) bf l number n last false v) (sym blocks)
            (failed_on first t bf b number n pages spare k source apart is at less room _ last v on_it))
        failed_in false e (blocks, serials, well) on_it = subst (λ (w : Bool). IsFillingOn first (without_spare spare t) bf a number n last w v) (sym well)
            (subst (λ (l : List PartBlock). IsFillingOn first (without_spare spare t) bf l number n last false v) (sym blocks)
            (failed_on first t bf b number n pages spare k source apart is at less room _ last v on_it))

    fault_by : (x : Bool) (e : nat_lt k n ≡ x) → IsCarried outcome.Fault (move x e) last page b a serial next f → u ≡ t → v ≡ stage.Faulted
        → IsFillingOn first u bf a number n last f v
    fault_by x e fault same at_end = subst (IsFillingOn first u bf a number n last f) (sym at_end)
        (subst (λ (w : Table). IsUsedUp first w) (sym same) at.used, fault)

    pub step_by : (how : Outcome) (call : Move) → fill_move (on_part t m) spare c k ≡ call → IsCarried how call last page b a serial next f
        → (q r : ℕ) → IsMovedBy how (record { table = t; pages = q; stage = stage.Filling m spare c k }) (record { table = u; pages = r; stage = v })
        → IsFillingOn first u bf a number n last f v
    step_by outcome.Done call e carried q r (more, over) =
        done_by (nat_lt k n) refl (subst (λ (w : Move). IsCarried outcome.Done w last page b a serial next f) (sym e ∙ move_is (nat_lt k n) refl) carried) more over
    step_by outcome.Failed call e carried q r (same, then_on) =
        failed_by (nat_lt k n) refl (subst (λ (w : Move). IsCarried outcome.Failed w last page b a serial next f) (sym e ∙ move_is (nat_lt k n) refl) carried) same then_on
    step_by outcome.Fault call e carried q r (same, at_end) =
        fault_by (nat_lt k n) refl (subst (λ (w : Move). IsCarried outcome.Fault w last page b a serial next f) (sym e ∙ move_is (nat_lt k n) refl) carried) same at_end

  pub carried_on : (t u : Table) (b a : List PartBlock) (last : Cell) (page : Option ℕ) (serial next : ℕ) (before f : Bool) (s v : Stage) (how : Outcome) (call : Move) (q r : ℕ)
      → IsSoundAt t pages s → move_at t s ≡ Some call → IsFillingOn first t bf b number n last before s → IsCarried how call last page b a serial next f
      → IsMovedBy how (record { table = t; pages = q; stage = s }) (record { table = u; pages = r; stage = v })
      → IsFillingOn first u bf a number n last f v
  carried_on t u b a last page serial next before f (stage.Filling m spare c k) v how call q r (within, is, le, fits) e (mn, cn, at, well) carried moved =
      step_by t u b a last page serial next f m spare c k v is le mn cn at how call (some_is e) carried q r moved
  carried_on t u b a last page serial next before f stage.Working v how call q r sound e on_it carried moved = absurd (none-some call e)
  carried_on t u b a last page serial next before f stage.WornOut v how call q r sound e on_it carried moved = absurd (none-some call e)
  carried_on t u b a last page serial next before f stage.Faulted v how call q r sound e on_it carried moved = absurd (none-some call e)
  carried_on t u b a last page serial next before f (stage.Erasing x all) v how call q r sound e on_it carried moved = absurd on_it

-- The serial, and the cost

abbrev CarriedAs : (how : Outcome) (x : Bool) (on spare k : ℕ) → (last : Cell) → Option ℕ → (b a : List PartBlock) → (serial next : ℕ) → Bool → Type 0
CarriedAs how true from spare k last page b a serial next f = IsCarried how (moves.Copy (cell_at from k) (cell_at spare k)) last page b a serial next f
CarriedAs how false from spare k last page b a serial next f = IsCarried how (moves.Program (cell_at spare k)) last page b a serial next f

as_carried : (how : Outcome) (x : Bool) (on spare n k : ℕ) (last : Cell) (page : Option ℕ) (b a : List PartBlock) (serial next : ℕ) (f : Bool) → nat_lt k n ≡ x
    → IsCarried how (fill_move on spare n k) last page b a serial next f → CarriedAs how x on spare k last page b a serial next f
as_carried how true on spare n k last page b a serial next f e = subst (λ (w : Move). IsCarried how w last page b a serial next f) (is_copy on spare n k e)
as_carried how false on spare n k last page b a serial next f e = subst (λ (w : Move). IsCarried how w last page b a serial next f) (is_program on spare n k e)

serial_of_next : (u : Table) (m c serial : ℕ) (page : Option ℕ) (v : Stage) → IsNextFill u m c v → serial_at v page serial ≡ serial
serial_of_next u m c serial page (stage.Filling n spare j k) is = refl
serial_of_next u m c serial page stage.WornOut is = refl
serial_of_next u m c serial page stage.Working is = absurd is
serial_of_next u m c serial page stage.Faulted is = absurd is
serial_of_next u m c serial page (stage.Erasing x all) is = absurd is

module _ (t u : Table) (on m spare c k : ℕ) (v : Stage) (last : Cell) (page : Option ℕ) (b a : List PartBlock) (serial next : ℕ) (f : Bool) (le : k ≤ c) where
  serial_by : (how : Outcome) (x : Bool) → nat_lt k c ≡ x → CarriedAs how x on spare k last page b a serial next f → (q r : ℕ)
      → IsMovedBy how (record { table = t; pages = q; stage = stage.Filling m spare c k }) (record { table = u; pages = r; stage = v })
      → f ≡ false → next ≡ serial_at v page serial
  serial_by outcome.Done true e (blocks, serials, well) q r (more, over) w =
      serials ∙ sym (ap (λ (z : Stage). serial_at z page serial) (more (below k c e)).1)
  serial_by outcome.Done false e (blocks, serials, well) q r (more, over) w =
      serials ∙ sym (ap (λ (z : Stage). serial_at z page serial) (over (past k c e)).1)
  serial_by outcome.Failed true e (blocks, serials, well) q r (same, then_on) w = serials ∙ sym (serial_of_next u m c serial page v then_on)
  serial_by outcome.Failed false e (blocks, serials, well) q r (same, then_on) w = serials ∙ sym (serial_of_next u m c serial page v then_on)
  serial_by outcome.Fault x e carried q r moved w = absurd (false≢true (sym w ∙ fault_of x carried))
    where
      fault_of : (x : Bool) → CarriedAs outcome.Fault x on spare k last page b a serial next f → f ≡ true
      fault_of true is = is
      fault_of false is = is

beyond_next : (u : Table) (m c : ℕ) (v : Stage) → IsNextFill u m c v → beyond c v ≡ 0
beyond_next u m c (stage.Filling n spare j k) (a, b, d, is) = omega (arith, d)
beyond_next u m c stage.WornOut is = refl
beyond_next u m c stage.Working is = absurd is
beyond_next u m c stage.Faulted is = absurd is
beyond_next u m c (stage.Erasing x all) is = absurd is

spare_cost : (n l m : ℕ) → l + 1 ≡ m → (2 * n + 1) * l + (2 * n + 1) ≡ (2 * n + 1) * m
spare_cost n l m one = subst (λ (x : ℕ). (2 * n + 1) * l + (2 * n + 1) ≡ (2 * n + 1) * x) one (grind arith)

abbrev cost_as : Bool → ℕ
cost_as true = 2
cost_as false = 1

module _ (t u : Table) (sound : IsTable t) (m spare c k total spent later : ℕ) (v : Stage) (number : m < length t.blocks) (is : IsSpare t spare) (le : k ≤ c)
    (was : cost_by c t spent ≤ total + 2 * k) where
  cost_through : (how : Outcome) (x : Bool) → nat_lt k c ≡ x → later ≤ spent + cost_as x → (q r : ℕ)
      → IsMovedBy how (record { table = t; pages = q; stage = stage.Filling m spare c k }) (record { table = u; pages = r; stage = v })
      → cost_by c u later ≤ total + beyond c v
  cost_through outcome.Done true e more q r (on_it, over) =
      let w = on_it (below k c e) in
      subst (λ (z : Stage). cost_by c u later ≤ total + beyond c z) (sym w.1)
      (subst (λ (z : Table). cost_by c z later ≤ total + 2 * (k + 1)) (sym w.0) (omega (arith, more, was)))
  cost_through outcome.Done false e more q r (on_it, over) =
      let w = over (past k c e) in
      subst (λ (z : Stage). cost_by c u later ≤ total + beyond c z) (sym w.1)
      (subst (λ (z : Table). cost_by c z later ≤ total + 0) (sym w.0)
      (omega (arith, more, was, le, spare_cost c (spares_in (replaced m spare t)) (spares_in t) (spares_replaced t sound m spare number is))))
  cost_through outcome.Failed x e more q r (same, then_on) =
      subst (λ (z : ℕ). cost_by c u later ≤ total + z) (sym (beyond_next u m c v then_on))
      (subst (λ (z : Table). cost_by c z later ≤ total + 0) (sym same) (by_test x e more))
    where
      by_test : (x : Bool) → nat_lt k c ≡ x → later ≤ spent + cost_as x → cost_by c (without_spare spare t) later ≤ total + 0
      by_test true e more = omega (arith, more, was, below k c e, spare_cost c (spares_in (without_spare spare t)) (spares_in t) (spares_given_up t spare is))
      by_test false e more = omega (arith, more, was, le, spare_cost c (spares_in (without_spare spare t)) (spares_in t) (spares_given_up t spare is))
  cost_through outcome.Fault x e more q r (same, at_end) =
      subst (λ (z : Stage). cost_by c u later ≤ total + beyond c z) (sym at_end)
      (subst (λ (z : Table). cost_by c z later ≤ total + (2 * c + 1)) (sym same) (by_test x e more))
    where
      by_test : (x : Bool) → nat_lt k c ≡ x → later ≤ spent + cost_as x → cost_by c t later ≤ total + (2 * c + 1)
      by_test true e more = omega (arith, more, was, below k c e)
      by_test false e more = omega (arith, more, was, le)

pub serial_kept : (t : Table) (s : Stage) (call : Move) (page : Option ℕ) (serial : ℕ) → move_at t s ≡ Some call → serial_at s page serial ≡ serial
serial_kept t (stage.Filling m spare c k) call page serial e = refl
serial_kept t (stage.Erasing x all) call page serial e = refl
serial_kept t stage.Working call page serial e = absurd (none-some call e)
serial_kept t stage.WornOut call page serial e = refl
serial_kept t stage.Faulted call page serial e = refl

module _ (first : Table) (bf : List PartBlock) (number n : ℕ) where
  pub is_well : (t : Table) (b : List PartBlock) (last : Cell) (f : Bool) (s : Stage) (call : Move) → move_at t s ≡ Some call
      → IsFillingOn first t bf b number n last f s → f ≡ false
  is_well t b last f (stage.Filling m spare c k) call e (mn, cn, at, well) = well
  is_well t b last f (stage.Erasing x all) call e on_it = absurd on_it
  is_well t b last f stage.Working call e on_it = absurd (none-some call e)
  is_well t b last f stage.WornOut call e on_it = absurd (none-some call e)
  is_well t b last f stage.Faulted call e on_it = absurd (none-some call e)

  pub serial_on : (t u : Table) (b a : List PartBlock) (last : Cell) (page : Option ℕ) (serial next pages : ℕ) (before f : Bool) (s v : Stage) (how : Outcome) (call : Move) (q r : ℕ)
      → IsSoundAt t pages s → move_at t s ≡ Some call → IsFillingOn first t bf b number n last before s → IsCarried how call last page b a serial next f
      → IsMovedBy how (record { table = t; pages = q; stage = s }) (record { table = u; pages = r; stage = v })
      → f ≡ false → next ≡ serial_at v page serial
  serial_on t u b a last page serial next pages before f (stage.Filling m spare c k) v how call q r (within, is, le, fits) e on_it carried moved =
      serial_by t u (on_part t m) m spare c k v last page b a serial next f le how (nat_lt k c) refl
      (as_carried how (nat_lt k c) (on_part t m) spare c k last page b a serial next f refl
      (subst (λ (w : Move). IsCarried how w last page b a serial next f) (sym (some_is e)) carried)) q r moved
  serial_on t u b a last page serial next pages before f (stage.Erasing x all) v how call q r sound e on_it carried moved = absurd on_it
  serial_on t u b a last page serial next pages before f stage.Working v how call q r sound e on_it carried moved = absurd (none-some call e)
  serial_on t u b a last page serial next pages before f stage.WornOut v how call q r sound e on_it carried moved = absurd (none-some call e)
  serial_on t u b a last page serial next pages before f stage.Faulted v how call q r sound e on_it carried moved = absurd (none-some call e)

  pub cost_on : (t u : Table) (b : List PartBlock) (last : Cell) (pages total spent later : ℕ) (f : Bool) (s v : Stage) (how : Outcome) (call : Move) (q r : ℕ)
      → IsTable t → IsSoundAt t pages s → move_at t s ≡ Some call → IsFillingOn first t bf b number n last f s
      → (IsShort call → later ≤ spent + cost_of call) → cost_by n t spent ≤ total + beyond n s
      → IsMovedBy how (record { table = t; pages = q; stage = s }) (record { table = u; pages = r; stage = v })
      → cost_by n u later ≤ total + beyond n v
  cost_on t u b last pages total spent later f (stage.Filling m spare c k) v how call q r sound (within, is, le, fits) e (mn, cn, at, well) more was moved =
      subst (λ (j : ℕ). cost_by j u later ≤ total + beyond j v) cn
      (cost_through t u sound m spare c k total spent later v within is le (subst (λ (j : ℕ). cost_by j t spent ≤ total + 2 * k) (sym cn) was)
      how (nat_lt k c) refl (spends (nat_lt k c) refl) q r moved)
    where
      spends : (x : Bool) → nat_lt k c ≡ x → later ≤ spent + cost_as x
      spends true h =
          let g = some_is e in
          let w : call ≡ moves.Copy (cell_at (on_part t m) k) (cell_at spare k) = sym g ∙ is_copy (on_part t m) spare c k h in
          subst (λ (z : Move). IsShort z → later ≤ spent + cost_of z) w more tt
      spends false h =
          let g = some_is e in
          let w : call ≡ moves.Program (cell_at spare k) = sym g ∙ is_program (on_part t m) spare c k h in
          subst (λ (z : Move). IsShort z → later ≤ spent + cost_of z) w more tt
  cost_on t u b last pages total spent later f (stage.Erasing x all) v how call q r sound at e on_it more was moved = absurd on_it
  cost_on t u b last pages total spent later f stage.Working v how call q r sound at e on_it more was moved = absurd (none-some call e)
  cost_on t u b last pages total spent later f stage.WornOut v how call q r sound at e on_it more was moved = absurd (none-some call e)
  cost_on t u b last pages total spent later f stage.Faulted v how call q r sound at e on_it more was moved = absurd (none-some call e)
