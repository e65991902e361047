-- A report's text is read in one way, except for memory and its reader.
use Rattle.std.proofs.Common.{◌≡◌, ◌⊎◌, Ok, Err, Some, refl, sym, ◌∙◌, inl, inr}
use Rattle.report_texts.specs.OutsideFaults.{EndsOutside}
use Rattle.report_texts.specs.ReportOf.{Reading, Says}

pub one-reading : (read one other : Reading) → Says (Some read) one → Says (Some read) other
    → (one ≡ other) ⊎ EndsOutside one ⊎ EndsOutside other
one-reading read (Ok x) (Ok y) a b = inl (sym a ∙ b)
one-reading read (Ok x) (Err e) a (inl out) = inr (inr (e, refl, out))
one-reading read (Ok x) (Err e) a (inr b) = inl (sym a ∙ b)
one-reading read (Err e) other (inl out) b = inr (inl (e, refl, out))
one-reading read (Err e) (Ok y) (inr a) b = inl (sym a ∙ b)
one-reading read (Err e) (Err f) (inr a) (inl out) = inr (inr (f, refl, out))
one-reading read (Err e) (Err f) (inr a) (inr b) = inl (sym a ∙ b)
