-- Laws of relations between the histories at entry and exit.
use Rattle.std.proofs.Common.{◌≡◌, List, [], ◌∷◌, Option, Some, None, refl, sym, ◌∙◌, subst}
use Rattle.ice_store.specs.History.{Disk, replay, later}
use Rattle.ice_store.specs.Others.{Acted, Answered, Answers, WhereTold, Stands, Allowed}
use Rattle.ice_store.specs.Since.{Since}
use Rattle.ice_store.proofs.OthersLaws.{later-nil}
use Rattle.ice_store.specs.declared.history.Event.{Event}
use Rattle.ice_store.specs.declared.history.Past.{Past}
use Rattle.ice_store.specs.declared.history.Step.{Step}

-- a store call after what was done so far
pub since_call : (allows : Past → Step → Type 0) (o a b : Option Past) (R T : Past → Past → Type 0) (A : Disk → List Event → Type 0)
    → Since o a R → Answers allows a b A → ((old at new : Past) → R old at → Answered allows at (Some new) A → T old new) → Since o b T
since_call allows None a b R T A since answers turn = subst (λ q. Answers allows q b A) since answers
since_call allows (Some old) a b R T A since answers turn =
    let answered = subst (λ q. Answers allows q b A) since.is answers in
    let new = later answered.reached answered.ours in
    record { now = new; is = answered.told; holds = turn old since.now new since.holds (subst (λ q. Answered allows since.now q A) answered.told answered) }

-- and its condition
pub since_stands : (allows : Past → Step → Type 0) (o a : Option Past) (R : Past → Past → Type 0) (C : Disk → Type 0)
    → Since o a R → ((old at reached : Past) → R old at → Acted allows at reached → C (replay reached)) → Stands allows a C
since_stands allows None a R C since turn = subst (λ q. Stands allows q C) (sym since) tt
since_stands allows (Some old) a R C since turn = subst (λ q. Stands allows q C) (sym since.is) (λ reached acted. turn old since.now reached since.holds acted)

pub since_turned : (o a : Option Past) (R T : Past → Past → Type 0) → Since o a R → ((old at : Past) → R old at → T old at) → Since o a T
since_turned None a R T since turn = since
since_turned (Some old) a R T since turn = record { now = since.now; is = since.is; holds = turn old since.now since.holds }

-- nothing has been done yet
pub since_start : (o : Option Past) (C : Past → Type 0) (R : Past → Past → Type 0) → WhereTold o C → ((old : Past) → C old → R old old) → Since o o R
since_start None C R told turn = refl
since_start (Some old) C R told turn = record { now = old; is = refl; holds = turn old told }

pub since_with : (o a : Option Past) (C : Past → Type 0) (R T : Past → Past → Type 0) → WhereTold o C → Since o a R → ((old at : Past) → C old → R old at → T old at) → Since o a T
since_with None a C R T told since turn = since
since_with (Some old) a C R T told since turn = record { now = since.now; is = since.is; holds = turn old since.now told since.holds }

-- one call after another
pub since_then : (o a b : Option Past) (P Q T : Past → Past → Type 0) → Since o a P → Since a b Q → ((old mid new : Past) → P old mid → Q mid new → T old new) → Since o b T
since_then None a b P Q T one two turn = subst (λ x. Since x b Q) one two
since_then (Some old) a b P Q T one two turn =
    let next = subst (λ x. Since x b Q) one.is two in
    record { now = next.now; is = next.is; holds = turn old one.now next.now one.holds next.holds }

-- a fact of the exit
pub since_where : (o a : Option Past) (P : Past → Past → Type 0) (C : Past → Type 0) → Since o a P → ((old now : Past) → P old now → C now) → WhereTold a C
since_where None a P C one turn = subst (λ x. WhereTold x C) (sym one) tt
since_where (Some old) a P C one turn = subst (λ x. WhereTold x C) (sym one.is) (turn old one.now one.holds)

-- nobody acts under manners that allow nothing
pub nobody : (old reached : Past) → Acted (λ _ _. ⊥) old reached → reached ≡ old
nobody old reached acted = acted.is ∙ by_none acted.theirs acted.allowed
  where
    by_none : (es : List Event) → Allowed (λ _ _. ⊥) old es → later old es ≡ old
    by_none [] h = later-nil old
    by_none (e ∷ es) h = absurd h.1
