-- Fields that hold several words, with one space between two.
use Rattle.std.specs.Prelude.{◌≡◌, ℕ, ◌==◌, List, [], ◌∷◌, ◌++◌, All, Bool, false, Option, Some, None, Result, Ok, Err, if◌then◌else◌}
use Rattle.std.specs.List.{slice_split}
use Rattle.hex.specs.Hex.{decode_sized}
use Rattle.hex.specs.declared.error.FromHexError.{FromHexError}
use Rattle.slot_types.specs.declared.pages.PageData.{PageData}

abbrev pub and_word : {A : Type 0} → Option A → Option (List A) → Option (List A)
and_word None found = None
and_word (Some x) None = None
and_word (Some x) (Some found) = Some (x ∷ found)

-- what all of these words say, if each says something
unfoldable pub all_of : {A : Type 0} → (List ℕ → Option A) → List (List ℕ) → Option (List A)
all_of read [] = Some []
all_of read (word ∷ words) = and_word (read word) (all_of read words)

-- the words of a text, if there is one
abbrev pub words_of : Option (List ℕ) → List (List ℕ)
words_of None = []
words_of (Some text) = slice_split (λ b. b == 32) text

-- what the words of a field say, if each says something; an empty field has none
abbrev pub list_of : {A : Type 0} → (List ℕ → Option A) → List ℕ → Option (List A)
list_of read [] = Some []
list_of read (b ∷ bytes) = all_of read (slice_split (λ c. c == 32) (b ∷ bytes))

-- what was read, if that is the whole
abbrev pub if_whole : {A : Type 0} → Bool → List A → Option (List A)
if_whole whole items = if whole then Some items else None

-- what stands after a word: nothing, or a space and more
abbrev pub beyond : Option (List ℕ) → List ℕ
beyond None = []
beyond (Some rest) = 32 ∷ rest

-- a text begins with bytes that say this, no space among them, and the rest stands after them
pub record StartsWith {A : Type 0} (read : List ℕ → Option A) (text : List ℕ) (x : A) (rest : List ℕ) : Type 0 where
  pub front : List ℕ
  pub parts : text ≡ front ++ rest
  pub says : read front ≡ Some x
  pub whole : All (λ b. (b == 32) ≡ false) front

-- the first word of a text says this, and these words follow it
pub record IsFirstWord {A : Type 0} (read : List ℕ → Option A) (text : List ℕ) (x : A) (more : List (List ℕ)) : Type 0 where
  pub word : List ℕ
  pub parts : slice_split (λ b. b == 32) text ≡ word ∷ more
  pub says : Some x ≡ read word
