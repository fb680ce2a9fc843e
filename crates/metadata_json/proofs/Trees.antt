-- Lists of values and the data that they stand for.
use Rattle.std.proofs.Common.{◌≡◌, ℕ, List, [], ◌∷◌, ◌++◌, map, ◌-◌, ◌<◌, ◌≤◌, length, drop, arith, length-append, refl, ap, sym, ◌∙◌}
use Rattle.std.proofs.lemmas.List.{drop-append-le, drop-map, length-map, map-append}
use Rattle.serde_json.specs.Data.{Data}
use Rattle.serde_json.specs.View.{view, items_of}
use Rattle.serde_json.specs.declared.value.Value.{Value}
use Rattle.metadata_json.specs.Fields.{list_of}
use Rattle.metadata_json.specs.Edits.{last}

pub list_of-items_of : (ds : List Data) → list_of (items_of ds) ≡ ds
list_of-items_of [] = refl
list_of-items_of (d ∷ ds) = ap (λ xs. d ∷ xs) (list_of-items_of ds)

-- the last items of a list that has one more
pub last-push : (vs : List Value) (v : Value) (n : ℕ) → 0 < n → map view (drop (length vs - (n - 1)) vs ++ v ∷ []) ≡ last n (map view vs ++ view v ∷ [])
last-push vs v n some =
    let k = length vs - (n - 1) in
    let len : length (map view vs ++ view v ∷ []) - n ≡ k = omega (arith, length-append (map view vs) (view v ∷ []), length-map vs view) in
    let fits : k ≤ length (map view vs) = omega (arith, length-map vs view) in
    map-append view (drop k vs) (v ∷ []) ∙ ap (λ xs. xs ++ view v ∷ []) (sym (drop-map view k vs)) ∙ sym (drop-append-le k (map view vs) (view v ∷ []) fits) ∙ ap (λ i. drop i (map view vs ++ view v ∷ [])) (sym len)
