-- The rule of the lock's table, which holds between any two steps. Word 0 is twice the number of entries, and 1 more
-- while a pass has the turn. Slot 0 has the book, and the count of passes made, while no pass has the turn.
use Rattle.std.specs.Prelude.{◌≡◌, ℕ, ◌+◌, ◌*◌, ◌<◌, ◌≤◌, true, List, [], ◌∷◌, ◌++◌, length, Option, Some, None}
use mathlib.Core.Option.{some}
use mathlib.Core.Option as maybe
use lib.ListN.{get_elem?}
use Rattle.atomic_table.specs.Table.{State}
use Rattle.turn_lock.specs.declared.entry.Entry.{Entry}
use Rattle.turn_lock.specs.declared.view.View.{View}
use Rattle.turn_lock.specs.declared.view.Kept.{Kept}
use Rattle.turn_lock.specs.Log.{times, once_below, total, calls_by, GrowsWithout}
use Rattle.turn_lock.specs.Views.{numbers_of}

module _ {E R A : Type 0} where
  -- what the pass of seat `id` knows, where these are the entries and the count of passes made. The bit is 1 while the
  -- seat `holder` has the turn
  pub record Knows (fits : A → List (Entry E R) → Type 0) (log : List (Entry E R)) (count : ℕ) (about : A) (bit holder id : ℕ)
      (v : View E R A) : Type 0 where
    pub about_is : v.live ≡ true → v.about ≡ Some about
    pub fit : v.live ≡ true → fits about v.seen
    pub below : v.made ≤ count
    pub seen : GrowsWithout (numbers_of v) v.seen log
    pub last_join : GrowsWithout v.beyond v.shorter_seen v.longer_seen
    pub sole : v.sole ≡ true → (v.made ≡ count) × (length (numbers_of v) ≡ count)
    pub turn : v.turn ≡ true → (bit ≡ 1) × (holder ≡ id) × (v.seen ≡ log) × (v.made ≡ count)

module _ {E R A B : Type 0} where
  -- while nobody has used the lock there is one pass, nobody has the turn, and the slot has the book that was put in
  abbrev pub MayBeUnused : B → ℕ → ℕ → List (maybe.Option (Option (Kept B))) → View E R A → Type 0
  MayBeUnused first count bit homes v = v.unused ≡ true
      → (v.live ≡ true) × (count ≡ 1) × (bit ≡ 0) × (homes ≡ some (Some record { book = first; made = 1 }) ∷ [])

module _ {E R A B : Type 0} (log : B → List (Entry E R)) (about : B → A) where
  -- the slot is at home with a book of these entries
  abbrev pub AtHome : List (Entry E R) → ℕ → A → List (maybe.Option (Option (Kept B))) → Type 0
  AtHome es count a homes = (k : Kept B) × (homes ≡ some (Some k) ∷ []) × (log k.book ≡ es) × (k.made ≡ count) × (about k.book ≡ a)

  -- Each number below the count stands in one view, once (`parted`, `sized`), and no entry has another number
  -- (`named`). The lock was made with the book `first`.
  pub record KeepsRule (fits : A → List (Entry E R) → Type 0) (first : B) (s : State (Option (Kept B)) (View E R A)) : Type 0 where
    pub entries : List (Entry E R)
    pub count : ℕ
    pub topic : A
    pub bit : ℕ
    pub holder : ℕ
    pub small : bit < 2
    pub few : count ≤ 65536
    pub word : s.words ≡ (2 * length entries + bit) ∷ []
    pub width : length s.homes ≡ 1
    pub home : bit ≡ 0 → AtHome entries count topic s.homes
    pub fitting : fits topic entries
    pub named : (p : ℕ) → count ≤ p → calls_by p entries ≡ []
    pub parted : (p : ℕ) → total (λ v. times p (numbers_of v)) s.views ≡ once_below p count
    pub sized : total (λ v. length (numbers_of v)) s.views ≡ count
    pub each : (id : ℕ) (v : View E R A) → get_elem? s.views id ≡ some v → Knows fits entries count topic bit holder id v
    pub unused : (id : ℕ) (v : View E R A) → get_elem? s.views id ≡ some v → MayBeUnused first count bit s.homes v
