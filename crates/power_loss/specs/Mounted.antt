-- What a mount makes of the labels that it sees: where each page lies, and what it holds.
use Rattle.std.specs.Prelude.{ℕ, ◌+◌, ◌==◌, ◌&&◌, nat_lt, nat_le, if◌then◌else◌, List, [], ◌∷◌, Option, Some, None, map}
use Rattle.std.specs.Prelude.{option_map}
use Rattle.std.specs.List.{range_with_len}
use Rattle.slot_types.specs.declared.pages.PageData.{PageData}
use Rattle.slot_types.specs.declared.pages.Place.{Place}
use Rattle.die_log.specs.Model.Start.{blank_page}
use Rattle.power_loss.specs.Labels.{Label, Shown, label_at}

-- a label's cell and number
pub record Found : Type 0 where
  pub place : Place
  pub serial : ℕ

-- of the newest so far and the next one, the newer
abbrev pub newer : Option Found → Found → Option Found
newer None next = Some next
newer (Some best) next = if nat_lt best.serial next.serial then Some next else Some best

-- a label of the page is looked at if it counts from this number on
abbrev pub found_at : ℕ → ℕ → Place → Label → Option Found → Option Found
found_at from page place x best =
    if (x.page == page) && nat_le from x.serial then newer best (record { place = place; serial = x.serial }) else best

abbrev pub found_in_cell : ℕ → ℕ → Place → Option Label → Option Found → Option Found
found_in_cell from page place None best = best
found_in_cell from page place (Some x) best = found_at from page place x best

-- the cells of block b from k on
abbrev pub found_in_block : ℕ → ℕ → ℕ → ℕ → List (Option Label) → Option Found → Option Found
found_in_block from page b k [] best = best
found_in_block from page b k (x ∷ xs) best =
    found_in_block from page b (k + 1) xs (found_in_cell from page (record { block = b; page = k }) x best)

-- those of the blocks from b on
abbrev pub found_in : ℕ → ℕ → ℕ → Shown → Option Found → Option Found
found_in from page b [] best = best
found_in from page b (xs ∷ blocks) best = found_in from page (b + 1) blocks (found_in_block from page b 0 xs best)

-- what a mount goes by that knows of no trim: all labels of a page count
abbrev pub all_count : ℕ → ℕ
all_count page = 0

-- the cell with the page's newest label, of those that count
abbrev pub mounted_place : ℕ → ℕ → Shown → Option Place
mounted_place from page seen = option_map (λ f. f.place) (found_in from page 0 seen None)

abbrev pub bytes_of_label : Option Label → PageData
bytes_of_label None = blank_page
bytes_of_label (Some x) = x.bytes

abbrev pub bytes_at : Shown → Option Place → PageData
bytes_at seen None = blank_page
bytes_at seen (Some place) = bytes_of_label (label_at seen place)

-- its bytes, and a blank page where there is none
abbrev pub mounted_content : ℕ → ℕ → Shown → PageData
mounted_content from page seen = bytes_at seen (mounted_place from page seen)

-- by page
abbrev pub mounted_places : (ℕ → ℕ) → ℕ → Shown → List (Option Place)
mounted_places from logical seen = map (λ page. mounted_place (from page) page seen) (range_with_len 0 logical)

abbrev pub mounted_contents : (ℕ → ℕ) → ℕ → Shown → List PageData
mounted_contents from logical seen = map (λ page. mounted_content (from page) page seen) (range_with_len 0 logical)
