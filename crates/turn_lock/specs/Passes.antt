-- What each call of the lock does to the pass that makes it: `v` is what the pass knew before, `w` what it knows after.
use Rattle.std.specs.Prelude.{◌≡◌, ℕ, ◌+◌, ◌<◌, ◌≤◌, Bool, true, List, [], ◌∷◌, ◌++◌, length, Some, MatchBool}
use Rattle.slot_types.specs.declared.refusals.Refusal.{Refusal}
use Rattle.slot_types.specs.declared.refusals.Refusal.TheVariants.{PassesOut}
use Rattle.turn_lock.specs.declared.entry.Entry.{Entry}
use Rattle.turn_lock.specs.declared.view.View.{View}
use Rattle.turn_lock.specs.Log.{times, StartsWith, entry, calls_by, NoneBy}
use Rattle.turn_lock.specs.Views.{numbers_of, left_part, right_part, joined_view}

module _ {E R A : Type 0} where
  -- the pass has seen what others did since: no entry of its own, nor of a pass that was joined into it, and none at all
  -- where no other pass was left
  pub record SeesMore (fits : A → List (Entry E R) → Type 0) (v w : View E R A) : Type 0 where
    pub more : List (Entry E R)
    pub made : ℕ
    pub topic : A
    pub sole : Bool
    pub view_is : w ≡ record v { seen = v.seen ++ more; made = made; sole = sole }
    pub none : NoneBy (numbers_of v) more
    pub alone : v.sole ≡ true → more ≡ []
    pub later : v.made ≤ made
    pub stays_sole : v.sole ≡ true → sole ≡ true
    pub about_is : v.about ≡ Some topic
    pub fit : fits topic w.seen

  abbrev pub Answers : {Q S : Type 0} (fits : A → List (Entry E R) → Type 0) (says : A → List (Entry E R) → Q → S → Type 0) → View E R A
      → Q → S → View E R A → Type 0
  Answers fits says v query answer w = (g : SeesMore fits v w) × says g.topic w.seen query answer

  abbrev pub Refuses : (fits : A → List (Entry E R) → Type 0) (gives : A → List (Entry E R) → ℕ → E → R → Type 0) → View E R A → E → R
      → View E R A → Type 0
  Refuses fits gives v event reply w = (g : SeesMore fits v w) × gives g.topic w.seen v.number event reply

  -- what was seen grows by what others did, and then by this call
  abbrev pub Accepts : (fits : A → List (Entry E R) → Type 0) (gives : A → List (Entry E R) → ℕ → E → R → Type 0) → View E R A → E → R
      → View E R A → Type 0
  Accepts fits gives v event reply w = (u : View E R A) × (g : SeesMore fits v u)
      × (w ≡ record u { seen = u.seen ++ entry v.number event reply ∷ [] }) × gives g.topic u.seen v.number event reply
      × fits g.topic w.seen

  abbrev pub Replies : (accepts : R → Bool) (fits : A → List (Entry E R) → Type 0) (gives : A → List (Entry E R) → ℕ → E → R → Type 0)
      → View E R A → E → R → View E R A → Type 0
  Replies accepts fits gives v event reply w = MatchBool (accepts reply) (Accepts fits gives v event reply w)
      (Refuses fits gives v event reply w)

  -- a pass was made by this turn, with the next number
  abbrev pub Parts : (fits : A → List (Entry E R) → Type 0) → View E R A → View E R A → View E R A → Type 0
  Parts fits v w given = (u : View E R A) × SeesMore fits v u × (u.made < 65536) × (w ≡ left_part u) × (given ≡ right_part u)

  -- the passes made are the most
  abbrev pub IsFull : (fits : A → List (Entry E R) → Type 0) → View E R A → View E R A → Type 0
  IsFull fits v w = SeesMore fits v w × (w.made ≡ 65536)

  -- The longer of what both had seen, of which both are beginnings, and the numbers of both, each once. Of each of
  -- these numbers there are just the entries that its own pass had seen
  pub record IsJoined (v other w : View E R A) : Type 0 where
    pub view_is : w ≡ joined_view v other
    pub first : StartsWith w.seen v.seen
    pub second : StartsWith w.seen other.seen
    pub once : (p : ℕ) → times p (w.number ∷ w.joined) ≤ 1
    pub own : (p : ℕ) → 0 < times p (v.number ∷ v.joined) → calls_by p w.seen ≡ calls_by p v.seen
    pub others : (p : ℕ) → 0 < times p (other.number ∷ other.joined) → calls_by p w.seen ≡ calls_by p other.seen

  -- `out` passes are neither this one nor joined into it; where there are none, the pass had seen all entries. There
  -- are none where the pass knew that no other is left
  abbrev pub IsOut : (fits : A → List (Entry E R) → Type 0) → View E R A → ℕ → View E R A → Type 0
  IsOut fits v out w = SeesMore fits v w × (out + 1 + length w.joined ≡ w.made) × (out ≡ 0 → w.sole ≡ true) × (out ≡ 0 → w.seen ≡ v.seen)
      × (v.sole ≡ true → out ≡ 0)

  -- the lock stays open: `out` passes are out, and some are
  abbrev pub StaysOpen : (fits : A → List (Entry E R) → Type 0) → View E R A → Refusal → View E R A → Type 0
  StaysOpen fits v refusal w = (out : ℕ) × (refusal ≡ PassesOut out) × (0 < out) × IsOut fits v out w

module _ {E R A B : Type 0} (log : B → List (Entry E R)) (about : B → A) where
  -- no pass is out, and the book has just what the pass has seen
  abbrev pub Closes : View E R A → B → Type 0
  Closes v book = (log book ≡ v.seen) × (v.about ≡ Some (about book)) × ((made : ℕ) × (v.made ≤ made) × (made ≡ 1 + length v.joined))
