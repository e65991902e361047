-- What a pass knows, and what becomes of it where passes are made, split and joined.
use Rattle.std.specs.Prelude.{◌≡◌, ℕ, ◌+◌, ◌<◌, true, false, nat_lt, if◌then◌else◌, max}
use Rattle.std.specs.Prelude.{List, [], ◌∷◌, ◌++◌, length, Some, None}
use Rattle.atomic_table.specs.Seated.{TableId}
use Rattle.turn_lock.specs.declared.entry.Entry.{Entry}
use Rattle.turn_lock.specs.declared.view.View.{View}
use Rattle.turn_lock.specs.Log.{times, longer, shorter}

-- a pass, as clauses see it: which lock it is of, and what it knows
pub record PassView (E R A : Type 0) : Type 0 where
  pub lock : TableId
  pub view : View E R A

module _ {E R A : Type 0} where
  -- the pass of the same lock, with the same numbers
  abbrev pub IsSamePass : PassView E R A → PassView E R A → Type 0
  IsSamePass p q = (q.lock ≡ p.lock) × (q.view.number ≡ p.view.number) × (q.view.joined ≡ p.view.joined) × (q.view.about ≡ p.view.about)

  -- the numbers of a pass, its own and those that were joined into it: none once it is spent
  abbrev pub numbers_of : View E R A → List ℕ
  numbers_of v = if v.live then v.number ∷ v.joined else []

  -- the count of passes made, as the pass knows it, is above each of its numbers
  abbrev pub CountsOwn : View E R A → Type 0
  CountsOwn v = (p : ℕ) → 0 < times p (v.number ∷ v.joined) → p < v.made

  -- a pass that wasn't joined into another, and knows of more passes than each of its numbers
  abbrev pub IsLive : View E R A → Type 0
  IsLive v = (v.live ≡ true) × CountsOwn v

  -- what the pass has seen is a list of a book about this
  abbrev pub SeesFitting : (A → List (Entry E R) → Type 0) → View E R A → Type 0
  SeesFitting fits v = (a : A) × (v.about ≡ Some a) × fits a v.seen

  -- the first pass of a lock, which is its only one
  abbrev pub first_view : A → View E R A
  first_view a = record {
    number = 0;
    seen = [];
    joined = [];
    made = 1;
    shorter_seen = [];
    longer_seen = [];
    beyond = [];
    about = Some a;
    live = true;
    turn = false;
    sole = true;
    unused = false;
  }

  -- the same, while nobody has used the lock
  abbrev pub unused_view : A → View E R A
  unused_view a = record (first_view a) { unused = true }

  -- a pass that was joined into another
  abbrev pub spent_view : View E R A
  spent_view = record {
    number = 0;
    seen = [];
    joined = [];
    made = 0;
    shorter_seen = [];
    longer_seen = [];
    beyond = [];
    about = None;
    live = false;
    turn = false;
    sole = false;
    unused = false;
  }

  -- the pass that is split, where it knows of all passes made
  abbrev pub left_part : View E R A → View E R A
  left_part v = record v { made = v.made + 1; sole = false }

  -- the pass that a split makes: it has the next number
  abbrev pub right_part : View E R A → View E R A
  right_part v = record {
    number = v.made;
    seen = v.seen;
    joined = [];
    made = v.made + 1;
    shorter_seen = [];
    longer_seen = [];
    beyond = [];
    about = v.about;
    live = true;
    turn = false;
    sole = false;
    unused = false;
  }

  -- of two passes, the numbers of the one that has seen the shorter: of the second where they have seen as much
  abbrev pub numbers_after : View E R A → View E R A → List ℕ
  numbers_after v w = if nat_lt (length v.seen) (length w.seen) then v.number ∷ v.joined else w.number ∷ w.joined

  -- the first of two passes, once the second is joined into it
  abbrev pub joined_view : View E R A → View E R A → View E R A
  joined_view v w = record v {
    seen = longer v.seen w.seen;
    shorter_seen = shorter v.seen w.seen;
    longer_seen = longer v.seen w.seen;
    beyond = numbers_after v w;
    joined = v.joined ++ w.number ∷ w.joined;
    made = max v.made w.made;
    sole = false;
    unused = false;
  }
