-- Sources behind those that were found before.
use Rattle.std.proofs.Common.{◌≡◌, List, [], ◌∷◌, ◌++◌, Option, Some, None, refl, ap, append_assoc}
use Rattle.std.proofs.lemmas.List.{append-nil}
use Rattle.ice_schema.specs.declared.projection.Source.{Source}
use Rattle.ice_schema.specs.Projections.{with_first}

-- more behind those that are done
abbrev pub behind : List Source → Option (List Source) → Option (List Source)
behind done None = None
behind done (Some more) = Some (done ++ more)

pub behind_none : (o : Option (List Source)) → behind [] o ≡ o
behind_none None = refl
behind_none (Some more) = refl

pub behind_more : (done : List Source) (s : Source) (o : Option (List Source)) → behind (done ++ s ∷ []) o ≡ behind done (with_first (Some s) o)
behind_more done s None = refl
behind_more done s (Some more) = ap Some (append_assoc done (s ∷ []) more)

pub behind_all : (done : List Source) → behind done (Some []) ≡ Some done
behind_all done = ap Some (append-nil done)
