-- Laws of what others do between two calls.
use Rattle.std.proofs.Common.{◌≡◌, ℕ, List, [], ◌∷◌, ◌++◌, refl, sym, ap, ◌∙◌, subst, append-nil}
use Rattle.ice_store.specs.History.{later}
use Rattle.ice_store.specs.Others.{Allowed, Acted}
use Rattle.ice_store.proofs.HistoryLaws.{later-later}
use Rattle.ice_store.specs.declared.history.Event.{Event}
use Rattle.ice_store.specs.declared.history.Past.{Past}
use Rattle.ice_store.specs.declared.history.Step.{Step}
use Rattle.ice_store.specs.declared.history.Who.TheVariants.{Them}

pub later-nil : (past : Past) → later past [] ≡ past
later-nil past = ap (λ (l : List Event). record past { events = l }) (append-nil past.events)

pub Allowed-append : (allows : Past → Step → Type 0) (past : Past) (es fs : List Event) → Allowed allows past es → Allowed allows (later past es) fs → Allowed allows past (es ++ fs)
Allowed-append allows past [] fs h k = subst (λ p. Allowed allows p fs) (later-nil past) k
Allowed-append allows past (e ∷ es) fs h k =
    (h.0, h.1, Allowed-append allows (later past (e ∷ [])) es fs h.2 (subst (λ p. Allowed allows p fs) (sym (later-later past (e ∷ []) es)) k))

pub nobody_acted : (allows : Past → Step → Type 0) (past : Past) → Acted allows past past
nobody_acted allows past = record { theirs = []; allowed = tt; is = sym (later-nil past) }

pub acted_then : (allows : Past → Step → Type 0) (a b c : Past) → Acted allows a b → Acted allows b c → Acted allows a c
acted_then allows a b c h k = record {
  theirs = h.theirs ++ k.theirs;
  allowed = Allowed-append allows a h.theirs k.theirs h.allowed (subst (λ p. Allowed allows p k.theirs) h.is k.allowed);
  is = k.is ∙ ap (λ (p : Past). later p k.theirs) h.is ∙ later-later a h.theirs k.theirs;
}

-- one allowed step of Them
pub one_acted : (allows : Past → Step → Type 0) (past : Past) (step : Step) (t : ℕ) → allows past step → Acted allows past (later past (record { who = Them; step = step; ms = t } ∷ []))
one_acted allows past step t h = record { theirs = record { who = Them; step = step; ms = t } ∷ []; allowed = (refl, h, tt); is = refl }
