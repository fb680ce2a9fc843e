-- Texts of keys.
use Rattle.std.proofs.Common.{◌≡◌, ℕ, List, [], Bool, true, false, if◌then◌else◌, refl, sym, ap, ◌∙◌}
use Rattle.std.specs.Str.{IsUtf8, is_utf8}
use Rattle.std.proofs.lemmas.Str.{is_utf8-from_IsUtf8, IsUtf8-from_is_utf8}
use Rattle.manifest_codec.specs.Keys.{as_text}

pub is_text : (v t : List ℕ) → t ≡ v → IsUtf8 v → t ≡ as_text v
is_text v t e h = e ∙ sym (ap (λ b. if b then v else []) (is_utf8-from_IsUtf8 v h))

pub no_text : (v : List ℕ) → (IsUtf8 v → ⊥) → [] ≡ as_text v
no_text v none = by_case (is_utf8 v) refl
  where
    by_case : (b : Bool) → is_utf8 v ≡ b → [] ≡ (if b then v else [])
    by_case true e = absurd (none (IsUtf8-from_is_utf8 v e))
    by_case false e = refl
