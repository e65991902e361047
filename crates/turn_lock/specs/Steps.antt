-- What each kind of step tells the pass that makes it.
use Rattle.std.specs.Prelude.{◌≡◌, ◌≢◌, ◌⊎◌, ℕ, ◌+◌, ◌*◌, ◌<◌, ◌≤◌, true, false, ◌==◌}
use Rattle.std.specs.Prelude.{List, [], ◌∷◌, ◌++◌, length, Option, Some, None}
use Rattle.atomic_table.specs.declared.shared.Seat.{Seat}
use Rattle.atomic_table.specs.Seated.{TableId}
use Rattle.atomic_table.specs.Table.{Me, Step}
use Rattle.turn_lock.specs.declared.entry.Entry.{Entry}
use Rattle.turn_lock.specs.declared.view.View.{View}
use Rattle.turn_lock.specs.declared.view.Kept.{Kept}
use Rattle.turn_lock.specs.Log.{times, entry, calls_by, NoneBy, AllBy, GrowsWithout}
use Rattle.turn_lock.specs.Views.{numbers_of, SeesFitting}

abbrev pub IsTurnTable : TableId → Type 0
IsTurnTable table = (table.words ≡ 1) × (table.slots ≡ 1)

module _ {E R A B : Type 0} where
  abbrev pub IsSameSeat : Seat (Option (Kept B)) (View E R A) → Seat (Option (Kept B)) (View E R A) → Type 0
  IsSameSeat s t = (t.table_id ≡ s.table_id) × (t.id ≡ s.id)

  -- the lock is used from now on
  abbrev pub begun : Step (Option (Kept B)) → Me (Option (Kept B)) (View E R A) → ℕ → Me (Option (Kept B)) (View E R A) → Type 0
  begun st m r m' = (m'.1 ≡ m.1) × (m'.0 ≡ record m.0 { unused = false })

module _ {E R A : Type 0} where
  -- these are the entries that the pass has seen, and then none, or one of its own
  abbrev pub AddsOwn : View E R A → List (Entry E R) → Type 0
  AddsOwn v es = (es ≡ v.seen) ⊎ ((event : E) × (reply : R) × (es ≡ v.seen ++ entry v.number event reply ∷ []))

  -- a look that shows, after a join, that the longer of what both had seen is the shorter and then nothing by the pass
  -- that had seen that, and that no number stands twice; what the pass has seen fits
  abbrev pub compared : {S : Type 0} → (A → List (Entry E R) → Type 0) → Step S → Me S (View E R A) → ℕ → Me S (View E R A) → Type 0
  compared fits st m r m' =
      (m' ≡ m) × GrowsWithout m.0.beyond m.0.shorter_seen m.0.longer_seen
      × ((p : ℕ) → times p (numbers_of m.0) ≤ 1) × (length (numbers_of m.0) ≤ 65536) × SeesFitting fits m.0

module _ {E R A B : Type 0} (log : B → List (Entry E R)) (about : B → A) where
  -- a look: the pass has seen all entries, which are those that it had seen where no other pass is left
  abbrev pub looked : (A → List (Entry E R) → Type 0) → Step (Option (Kept B)) → Me (Option (Kept B)) (View E R A) → ℕ
      → Me (Option (Kept B)) (View E R A) → Type 0
  looked fits st m r m' = (m'.1 ≡ m.1)
      × ((more : List (Entry E R)) × (m'.0 ≡ record m.0 { seen = m.0.seen ++ more }) × NoneBy (numbers_of m.0) more
      × (m.0.sole ≡ true → more ≡ []))
      × ((b : ℕ) × (b < 2) × (r ≡ 2 * length m'.0.seen + b))
      × ((a : A) × (m.0.about ≡ Some a) × fits a m'.0.seen)

  -- the pass has won the turn, with this in the slot
  pub record Wins (fits : A → List (Entry E R) → Type 0) (v : View E R A) (k : Kept B) (w : View E R A) : Type 0 where
    pub more : List (Entry E R)
    pub view_is : w ≡ record v { seen = v.seen ++ more; made = k.made; turn = true; sole = length (numbers_of v) == k.made }
    pub none : NoneBy (numbers_of v) more
    pub log_is : log k.book ≡ v.seen ++ more
    pub about_is : v.about ≡ Some (about k.book)
    pub fit : fits (about k.book) (log k.book)
    pub unnamed : (p : ℕ) → k.made ≤ p → calls_by p (log k.book) ≡ []
    pub later : v.made ≤ k.made
    pub few : k.made ≤ 65536
    pub enough : length (numbers_of v) ≤ k.made
    pub whole : length (numbers_of v) ≡ k.made → more ≡ []
    pub own : length (numbers_of v) ≡ k.made → AllBy (numbers_of v) (log k.book)
    pub alone : v.sole ≡ true → length (numbers_of v) ≡ k.made

  -- a take that finds another number than it looked for changes nothing
  abbrev pub taken : (A → List (Entry E R) → Type 0) → Step (Option (Kept B)) → Me (Option (Kept B)) (View E R A) → ℕ
      → Me (Option (Kept B)) (View E R A) → Type 0
  taken fits st m r m' = (r ≡ st.first → (k : Kept B) × (m'.1 ≡ (0, Some k) ∷ m.1) × Wins fits m.0 k m'.0) × (r ≢ st.first → m' ≡ m)

  -- a release: the pass has seen the book that it puts back, to which it added one entry of its own or none, and the word
  -- is twice the number of its entries
  abbrev pub released : Step (Option (Kept B)) → Me (Option (Kept B)) (View E R A) → ℕ → Me (Option (Kept B)) (View E R A) → Type 0
  released st m n m' = (k : Kept B) → m.1 ≡ (0, Some k) ∷ []
      → (m'.1 ≡ []) × (m'.0 ≡ record m.0 { seen = log k.book; turn = false }) × AddsOwn m.0 (log k.book) × (n ≡ 2 * length (log k.book))
