-- Each field of a spec without unknown transforms has a known one.
use Rattle.std.proofs.Common.{◌≡◌, ℕ, ◌<◌, List, length, get_or, Bool, true, false, refl, sym, ap, ◌∙◌}
use Rattle.std.specs.List.{list_all}
use Rattle.std.proofs.lemmas.List.Folds.{list_all_at}
use Rattle.schema_types.specs.declared.types.SpecField.{SpecField}
use Rattle.schema_types.specs.Known.{is_known}

pub known_at : (fs : List SpecField) (i : ℕ) (f : SpecField) → i < length fs → f ≡ get_or fs i f → list_all (λ g. is_known g.transform) fs ≡ true → is_known f.transform ≡ true
known_at fs i f within is all = go (is_known f.transform) refl
  where
    go : (b : Bool) → is_known f.transform ≡ b → is_known f.transform ≡ true
    go true e = e
    go false e = absurd (let none = list_all_at (λ g. is_known g.transform) fs i f within (ap (λ g. is_known g.transform) (sym is) ∙ e) in cc)
