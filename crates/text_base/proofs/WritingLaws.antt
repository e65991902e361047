-- Writing a text goes on where it stopped, and what isn't left at the end was written.
use Rattle.std.proofs.Common.{◌≡◌, ◌<◌, ℕ, ◌-◌, List, [], ◌++◌, length, take, drop, Bool, Option, None, Some, Result, Ok, Err, OnErr, sym, ap, ◌∙◌, subst, append_assoc}
use Rattle.std.proofs.Common.{length-append, arith}
use Rattle.std.specs.Io.KnownBytes.{Appends, Keeps}
use Rattle.std.proofs.KnownBytes.{Appends-kept, Appends-trans}
use Rattle.std.proofs.Math.Seq.{take-append_seam}
use Rattle.std.proofs.lemmas.List.{length-drop, take-append-drop, take_all}
use Rattle.text_base.specs.Flags.{KeepsFlag, SetsFlag}
use Rattle.text_base.specs.Writing.{AppendsPart, AppendsUpTo}

-- one more call
pub up-to-more : (a b c : Option (List ℕ)) (text left rest : List ℕ) → AppendsUpTo a b text left → AppendsUpTo b c left rest
    → AppendsUpTo a c text rest
up-to-more a b c text left rest (front, parts, took) (more, split, takes) =
    (front ++ more, parts ∙ ap (λ l. front ++ l) split ∙ sym (append_assoc front more rest), Appends-trans a b c front more took takes)

-- a call that takes the front of what is left, and the slice of what is left then
pub up-to-taken : (a b c : Option (List ℕ)) (text left : List ℕ) (n : ℕ) → AppendsUpTo a b text left → Appends b c (take n left)
    → AppendsUpTo a c text (take (length left - n) (drop n left))
up-to-taken a b c text left n up takes =
    let rest : take (length left - n) (drop n left) ≡ drop n left =
    take_all (length left - n) (drop n left) (omega (arith, length-drop n left)) in
    up-to-more a b c text left _ up (take n left, sym (ap (λ l. take n left ++ l) rest ∙ take-append-drop n left), takes)

-- where something is left, and nothing more is written, it isn't
pub up-to-part : (a b c : Option (List ℕ)) (text left : List ℕ) → AppendsUpTo a b text left → 0 < length left → Keeps b c
    → AppendsPart a c text
up-to-part a b c text left (front, parts, took) some kept =
    let size : length text ≡ length (front ++ left) = ap length parts in
    let seam : take (length front) text ≡ front = ap (take (length front)) parts ∙ take-append_seam front left in
    (length front, omega (arith, some, size, length-append front left), subst (Appends a c) (sym seam) (Appends-kept a b c front took kept))

-- what holds after an error holds of any result
pub on-error : {A E : Type 0} (r : Result A E) (P : Type 0) → P → OnErr r P
on-error (Ok x) P p = tt
on-error (Err e) P p = p

-- after calls that kept a flag it is what the next one makes of it
pub flag-kept-then : (a b c : Option Bool) → KeepsFlag a b → KeepsFlag b c → KeepsFlag a c
flag-kept-then None b c kept more = tt
flag-kept-then (Some flag) b c kept more = subst (λ known. KeepsFlag known c) kept more

pub flag-set-then : (a b c : Option Bool) → KeepsFlag a b → SetsFlag b c → SetsFlag a c
flag-set-then None b c kept set = tt
flag-set-then (Some flag) b c kept set = subst (λ known. SetsFlag known c) kept set
