-- Lists of values and the data that they stand for.
use Rattle.std.proofs.Common.{◌≡◌, List, [], ◌∷◌, map, refl, ap}
use Rattle.serde_json.specs.View.{view}
use Rattle.serde_json.specs.Data.{Data}
use Rattle.serde_json.specs.declared.value.Value.{Value}

pub map-view : {X : Type 0} (f : Data → X) (vs : List Value) → map (λ v. f (view v)) vs ≡ map f (map view vs)
map-view f [] = refl
map-view f (v ∷ vs) = ap (λ xs. f (view v) ∷ xs) (map-view f vs)
