-- What a collection finds before its next step.
use Rattle.std.proofs.Common.{◌≡◌, ℕ, ◌∙◌, List, Option, Some, None, sym, ap}
use Rattle.std.specs.Prelude.{slice_index_or}
use Rattle.std.proofs.lemmas.List.{get_or-map}
use Rattle.slot_types.specs.declared.pages.Place.{Place}
use Rattle.slot_types.specs.Places.{place_of}
use Rattle.plan_rules.specs.Accounts.{Accounts}
use Rattle.page_map.proofs.Owners.{within}
use Rattle.flash_die.specs.Flash.{Block, blank}
use Rattle.flash_volume.specs.declared.collection.Collection.{Collection}
use Rattle.flash_volume.specs.declared.collection.Copied.{Copied}
use Rattle.flash_volume.specs.Cells.{content_at, contents}
use Rattle.flash_volume.specs.Running.{RunWell}

-- the page in its buffer, which still lies where it was read, has the bytes of its page
pub copied_content : {accounts : Accounts} {pages : ℕ} {blocks : List Block} {places : List (Option Place)} {task : ℕ} {c : Collection}
    (k : Copied) → RunWell accounts pages blocks places task c → c.buffer ≡ Some k → place_of places k.page ≡ Some k.source
    → k.bytes ≡ slice_index_or (contents blocks places) k.page blank
copied_content {blocks = blocks} {places = places} k run holds lies =
    run.bytes k holds lies
    ∙ (ap (content_at blocks) (sym lies)
    ∙ sym (get_or-map (content_at blocks) places k.page None blank (within places k.page k.source lies)))
