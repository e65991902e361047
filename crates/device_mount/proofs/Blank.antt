-- A part of which no cell shows a label, and the first life of a die that was mounted.
use Rattle.std.proofs.Common.{◌≡◌, ◌⊎◌, ℕ, zero, suc, ◌-◌, ◌<◌, [], ◌∷◌, get_or, map, replicate}
use Rattle.std.proofs.Common.{Option, Some, None, refl, ap, sym, ◌∙◌, inl, inr, false, arith}
use Rattle.std.specs.Prelude.{◌≤◌, option_map}
use Rattle.std.proofs.lemmas.Bool.{cases_lt}
use Rattle.std.proofs.lemmas.List.{get_or-map, get_or-replicate, get_or_past, length-map, length-replicate}
use Rattle.std.proofs.lemmas.List.FromFn.{length-map-range_with_len, get_or-map-range_with_len}
use Rattle.std.proofs.lemmas.Option.{none-some}
use Rattle.slot_types.specs.declared.pages.Place.{Place}
use Rattle.slot_types.specs.declared.plans.DiePlan.{DiePlan}
use Rattle.slot_types.specs.declared.plans.Shape.{Shape}
use Rattle.die_log.specs.Model.Start.{Start, blank_page, fresh}
use Rattle.die_mount.specs.Told.{told_at, told_cells, told_label}
use Rattle.labelled_die.specs.Scanning.{cells_shown}
use Rattle.labelled_die.proofs.Seeing.{cells_len}
use Rattle.labelled_nand.specs.Memory.{block_labels, cell_label, closed_cells, device_labels, fresh_marked, no_cells, powered_up, torn_cell}
use Rattle.power_loss.specs.Aside.{MountsTo, StandsOnPart, part_of}
use Rattle.power_loss.specs.Labels.{Labels, Shown, label_at}
use Rattle.power_loss.specs.Losses.{AreLives}
use Rattle.power_loss.specs.Mounted.{all_count, bytes_at, mounted_place}
use Rattle.power_loss.proofs.Aside.ComingBack.{none_known}
use Rattle.power_loss.proofs.Mounting.{mounted_stands}
use Rattle.power_loss.proofs.TwoMounts.{all_found}
use Rattle.device_mount.specs.Parts.{IsPlanOf, ShowsNothing}
use Rattle.device_mount.specs.Refusals.{RefusesMount}
use Rattle.device_mount.specs.declared.refusals.MountRefusal.{MountRefusal}
use Rattle.device_mount.specs.declared.refusals.MountRefusal.TheVariants as faults
use Rattle.device_mount.proofs.Refusing.{stands_well}

module _ (plan : DiePlan) (seen : Shown) (blank : ShowsNothing plan seen) where
  nowhere : (from page : ℕ) → mounted_place from page seen ≡ None
  nowhere from page = by_case (mounted_place from page seen) refl
    where
      by_case : (o : Option Place) → mounted_place from page seen ≡ o → mounted_place from page seen ≡ None
      by_case None e = e
      by_case (Some q) e = let f = mounted_stands from page seen q e in absurd (none-some f.0 (sym (blank.none q) ∙ f.1))

  pub stands : (from : ℕ → ℕ) → StandsOnPart plan (fresh plan).contents from seen
  stands from = record {
    blocks = blank.blocks;
    fit = record {
      cells = λ place x e. absurd (none-some x (sym (blank.none place) ∙ e));
      pages = λ place x e. absurd (none-some x (sym (blank.none place) ∙ e));
      apart = λ q r x y e f same. absurd (none-some x (sym (blank.none q) ∙ e));
    };
    found = all_found from plan.logical seen (replicate plan.logical blank_page) (length-replicate plan.logical blank_page)
        (λ page lt. ap (bytes_at seen) (nowhere (from page) page) ∙ sym (get_or-replicate plan.logical page blank_page blank_page lt));
    room = inl (0, omega arith, λ page lt q e. absurd (none-some q (sym (nowhere (from page) page) ∙ e)));
  }

  none_told : (block pages cell : ℕ) → told_at (told_cells (cells_shown seen block pages)) cell ≡ None
  none_told block pages cell = by_case (cases_lt cell pages)
    where
      by_case : (cell < pages) ⊎ (pages ≤ cell) → told_at (told_cells (cells_shown seen block pages)) cell ≡ None
      by_case (inl lt) =
          get_or-map (option_map told_label) (cells_shown seen block pages) cell None None
          (omega (arith, lt, length-map-range_with_len (λ page. label_at seen (record { block = block; page = page })) 0 pages))
          ∙ ap (option_map told_label)
          (get_or-map-range_with_len (λ page. label_at seen (record { block = block; page = page })) 0 pages cell cell None lt (omega arith)
          ∙ blank.none (record { block = block; page = cell }))
      by_case (inr past) = get_or_past (told_cells (cells_shown seen block pages)) cell None (omega (arith, past, cells_len seen block pages))

  refused : (shape : Shape) (failures : ℕ) (why : MountRefusal) → IsPlanOf plan shape → RefusesMount plan shape seen failures why
      → (why ≡ faults.NoMemory) ⊎ (why ≡ faults.DeviceFault)
  refused shape failures faults.BadPlan of h = absurd (h of.0)
  refused shape failures faults.OtherShape of h = absurd (h.1 of.1)
  refused shape failures faults.NoMemory of h = inl refl
  refused shape failures (faults.OtherLabel block cell) of h = absurd (none-some h.1.bad.label (sym (none_told block shape.pages cell) ∙ h.1.bad.stands))
  refused shape failures faults.NoIdleBlock of h = absurd (stands_well plan shape (fresh plan).contents seen failures (stands all_count) h)
  refused shape failures faults.DeviceFault of h = inr refl

pub refuses : (plan : DiePlan) (shape : Shape) (seen : Shown) (failures : ℕ) (why : MountRefusal) → ShowsNothing plan seen → IsPlanOf plan shape
    → RefusesMount plan shape seen failures why → (why ≡ faults.NoMemory) ⊎ (why ≡ faults.DeviceFault)
refuses plan shape seen failures why blank = refused plan seen blank shape failures why

-- A device in memory that is fresh

map_all : {X Y : Type 0} (f : X → Y) (n : ℕ) (x : X) → map f (replicate n x) ≡ replicate n (f x)
map_all f zero x = refl
map_all f (suc n) x = ap (λ ys. f x ∷ ys) (map_all f n x)

all_same : {X : Type 0} (n i : ℕ) (x : X) → get_or (replicate n x) i x ≡ x
all_same zero i x = refl
all_same (suc n) zero x = refl
all_same (suc n) (suc i) x = all_same n i x

same_in : {X : Type 0} (blocks pages b i : ℕ) (x : X) → get_or (get_or (replicate blocks (replicate pages x)) b []) i x ≡ x
same_in zero pages b i x = refl
same_in (suc n) pages zero i x = all_same pages i x
same_in (suc n) pages (suc b) i x = same_in n pages b i x

pub fresh_shows_nothing : (plan : DiePlan) (serial : ℕ)
    → ShowsNothing plan (device_labels (powered_up (fresh_marked (part_of plan).shape serial))).blocks
fresh_shows_nothing plan serial = record {
  blocks = length-map (map (closed_cells pages) (replicate count no_cells)) block_labels
      ∙ (length-map (replicate count no_cells) (closed_cells pages) ∙ length-replicate count no_cells);
  none = λ place. ap (λ (shown : Shown). label_at shown place) are ∙ same_in count (pages - 0) place.block place.page None;
}
  where
    count : ℕ
    count = (part_of plan).shape.blocks

    pages : ℕ
    pages = (part_of plan).shape.pages

    are : map block_labels (map (closed_cells pages) (replicate count no_cells)) ≡ replicate count (replicate (pages - 0) None)
    are =
        ap (map block_labels) (map_all (closed_cells pages) count no_cells)
        ∙ (map_all block_labels count (closed_cells pages no_cells)
        ∙ ap (replicate count) (map_all cell_label (pages - 0) torn_cell))

-- The first life

pub may_be_first : (plan : DiePlan) (seen : Shown) (start : Start) (first : Labels) → MountsTo plan all_count seen start first
    → AreLives (record { start = start; first = first; from = all_count; log = []; lost = false } ∷ [])
may_be_first plan seen start first m =
    (tt, record { opens = m.starts.opens; labelled = m.starts.labelled; exact = tt }, (m.starts.counts, none_known start.cells first))
