-- A checkpoint's text is read in one way, except for memory and its reader.
use Rattle.std.proofs.Common.{◌≡◌, ◌⊎◌, Result, Ok, Err, Some, refl, sym, ◌∙◌, inl, inr}
use Rattle.checkpoint_texts.specs.Readings.{Says}
use Rattle.checkpoint_texts.specs.OutsideFaults.{EndsOutside}
use Rattle.checkpoint_texts.specs.declared.fault.TextFault.{TextFault}

pub one-reading : {X : Type 0} (read one other : Result X TextFault) → Says (Some read) one → Says (Some read) other
    → (one ≡ other) ⊎ EndsOutside one ⊎ EndsOutside other
one-reading read (Ok x) (Ok y) a b = inl (sym a ∙ b)
one-reading read (Ok x) (Err e) a (inl out) = inr (inr (e, refl, out))
one-reading read (Ok x) (Err e) a (inr b) = inl (sym a ∙ b)
one-reading read (Err e) other (inl out) b = inr (inl (e, refl, out))
one-reading read (Err e) (Ok y) (inr a) b = inl (sym a ∙ b)
one-reading read (Err e) (Err f) (inr a) (inl out) = inr (inr (f, refl, out))
one-reading read (Err e) (Err f) (inr a) (inr b) = inl (sym a ∙ b)
