-- A property is found in the list as in the object.
use Rattle.std.proofs.Common.{◌≡◌, ℕ, List, Bool, true, false, Option, Some, option_map, cond, Ordering, Less, Equal, Greater, is_eq, bytes_eq, refl, ap, ◌∙◌}
use Rattle.std.specs.Ordering.{nat_cmp, match_ordering}
use Rattle.std.specs.Cmp.Lexicographic.{slice_cmp}
use Rattle.std.proofs.lemmas.Map.Text.{is_eq-slice_cmp}
use Rattle.serde_json.specs.Data.{Data, Members, no_members, member}
use Rattle.serde_json.specs.Find.{get_member}
use Rattle.metadata_view.specs.View.{text_in, properties_in, value_in}

value_at : (o : Ordering) (b : Bool) (e : Data) (rest : Option Data) → is_eq o ≡ b → cond b (Some (text_in e)) (option_map text_in rest) ≡ option_map text_in (match_ordering o rest (Some e) rest)
value_at Less true e rest h = absurd (cc)
value_at Less false e rest h = refl
value_at Equal true e rest h = refl
value_at Equal false e rest h = absurd (cc)
value_at Greater true e rest h = absurd (cc)
value_at Greater false e rest h = refl

pub value_in-members : (k : List ℕ) (ms : Members) → value_in k (properties_in ms) ≡ option_map text_in (get_member k ms)
value_in-members k no_members = refl
value_in-members k (member l e ms) =
    ap (λ o. cond (bytes_eq k l) (Some (text_in e)) o) (value_in-members k ms) ∙ value_at (slice_cmp nat_cmp k l) (bytes_eq k l) e (get_member k ms) (is_eq-slice_cmp k l)
