-- Bytes that are a text or none.
use Rattle.std.proofs.Common.{◌≡◌, true, false, refl, List, ℕ, IsTrue, ◌↔◌, get_or}
use Rattle.std.specs.List.{All, list_all}
use Rattle.std.specs.Str.{is_utf8, IsUtf8}
use Rattle.std.proofs.lemmas.List.Sums.{AllPass-from_list_all, list_all-from_AllPass}
use Rattle.std.proofs.lemmas.Str.{IsUtf8-from_is_utf8, is_utf8-from_IsUtf8}

pub not_text : (bs : List ℕ) → ¬ (IsUtf8 bs) → false ≡ is_utf8 bs
not_text bs h = elim (is_utf8 bs) as (λ t. is_utf8 bs ≡ t → false ≡ t) [ true ↦ λ e. absurd (h (IsUtf8-from_is_utf8 bs e)) | false ↦ λ e. refl ] refl

-- the test of each key tells whether all keys are texts
pub keys_decided : {A : Type 0} (key : A → List ℕ) (xs : List A) → IsTrue (list_all (λ x. is_utf8 (key x)) xs) ↔ All (λ x. IsUtf8 (key x)) xs
keys_decided key xs = (
  λ t k d within. IsUtf8-from_is_utf8 (key (get_or xs k d)) (AllPass-from_list_all (λ x. is_utf8 (key x)) xs t k d within),
  λ h. list_all-from_AllPass (λ x. is_utf8 (key x)) xs (λ k d within. is_utf8-from_IsUtf8 (key (get_or xs k d)) (h k d within)),
)
