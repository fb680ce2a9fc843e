-- One more step of a neighbour.
use Rattle.std.proofs.Common.{◌≡◌, ℕ, suc, ◌+◌, ◌<◌, List, [], ◌∷◌, length, get_or, drop, sym, ap, ◌∙◌, subst, add-one}
use Rattle.std.proofs.Math.Seq.{drop-cons}
use Rattle.ice_store.specs.History.{later}
use Rattle.ice_store.specs.Others.{Allowed, Acted}
use Rattle.store_memory.specs.Neighbours.{by_them, next_moment}
use Rattle.ice_store.proofs.HistoryLaws.{later-later}
use Rattle.ice_store.proofs.OthersLaws.{acted_then, one_acted}
use Rattle.ice_store.specs.declared.history.Event.{Event}
use Rattle.ice_store.specs.declared.history.Past.{Past}
use Rattle.ice_store.specs.declared.history.Step.{Step}
use Rattle.ice_store.specs.declared.history.Who.TheVariants.{Them}

abbrev theirs : Step → ℕ → Event
theirs step t = record { who = Them; step = step; ms = t }

pub record More (allows : Past → Step → Type 0) (old new : Past) (left all : List Event) : Type 0 where
  pub acted : Acted allows old new
  pub rest : Allowed allows new left
  pub ends : later new left ≡ later old all

pub one_more : (allows : Past → Step → Type 0) (old here new : Past) (steps : List Step) (all : List Event) (i t u : ℕ) (s c : Step) → i < length steps → s ≡ get_or steps i s → c ≡ s
    → new ≡ later here (theirs c t ∷ []) → u ≡ next_moment t → More allows old here (by_them t (drop i steps)) all → More allows old new (by_them u (drop (i + 1) steps)) all
one_more allows old here new steps all i t u s c lt is copied added later_t so_far =
    let left = drop (i + 1) steps in
    let split : drop i steps ≡ s ∷ left = drop-cons steps i s lt ∙ ap (λ (x : Step). x ∷ drop (suc i) steps) (sym is) ∙ ap (λ (n : ℕ). s ∷ drop n steps) (sym (add-one i)) in
    let rest = subst (λ (l : List Step). Allowed allows here (by_them t l)) split so_far.rest in
    let done = later here (theirs s t ∷ []) in
    let there : new ≡ done = added ∙ ap (λ (x : Step). later here (theirs x t ∷ [])) copied in
    record {
      acted = subst (λ p. Acted allows old p) (sym there) (acted_then allows old here done so_far.acted (one_acted allows here s t rest.1));
      rest = subst (λ (n : ℕ). Allowed allows new (by_them n left)) (sym later_t) (subst (λ p. Allowed allows p (by_them (next_moment t) left)) (sym there) rest.2);
      ends = ap (λ (p : Past). later p (by_them u left)) there
          ∙ ap (λ (n : ℕ). later done (by_them n left)) later_t
          ∙ later-later here (theirs s t ∷ []) (by_them (next_moment t) left)
          ∙ ap (λ (l : List Step). later here (by_them t l)) (sym split)
          ∙ so_far.ends;
    }
