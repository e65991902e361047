-- What contracts see of a scan, and what is true of it.
use Rattle.std.specs.Prelude.{◌≡◌, ◌<◌, ◌≤◌, ◌^◌, Some, length}
use Rattle.die_mount.specs.declared.newest.Newest.{Newest}
use Rattle.die_mount.specs.declared.scan.Scan.TheInside.{Inside}
use Rattle.die_mount.specs.Scanned.{Scanned, LieBefore}

abbrev pub scanned_of : Inside → Scanned
scanned_of s = record { shape = s.shape; places = s.map.places; serials = s.serials.items; told = s.told; newest = s.newest; erases = s.erases.items }

-- the map is of this shape; each page has a serial; pages lie in blocks that were reported; and serials are in their range
pub record IsSoundScan (s : Inside) : Type 0 where
  pub shape : s.map.shape ≡ s.shape
  pub some_blocks : 0 < s.shape.blocks
  pub few_blocks : s.shape.blocks ≤ 1024
  pub few_pages : s.shape.pages ≤ 256
  pub serials : length s.serials.items ≡ length s.map.places
  pub told : s.told ≤ s.shape.blocks
  pub erases : length s.erases.items ≡ s.shape.blocks
  pub before : LieBefore s.told 0 s.map.places
  pub range : (n : Newest) → s.newest ≡ Some n → n.serial < 2 ^ 63
