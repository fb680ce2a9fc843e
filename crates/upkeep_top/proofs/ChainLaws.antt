-- Laws of steps one after another.
use Rattle.std.proofs.Common.{◌≡◌, List, [], ◌∷◌, ◌++◌, refl, sym, ap, subst}
use Rattle.upkeep_top.specs.Chains.{Leads}

module _ {T P : Type 0} (Goes : T → P → P → Type 0) where
  -- one more
  pub leads_on : (ts : List T) (t : T) (p mid q : P) → Leads Goes ts p mid → Goes t mid q → Leads Goes (ts ++ t ∷ []) p q
  leads_on [] t p mid q h last = (q, subst (λ x. Goes t x q) h last, refl)
  leads_on (u ∷ us) t p mid q h last = (h.0, h.1, leads_on us t h.0 mid q h.2 last)

  -- the last one
  pub record Last (ts : List T) (p q : P) : Type 0 where
    pub before : List T
    pub last : T
    pub is : ts ≡ before ++ last ∷ []
    pub from : P
    pub leads : Leads Goes before p from
    pub goes : Goes last from q

  last_behind : (t u : T) (us : List T) (p mid q : P) → Goes t p mid → Last (u ∷ us) mid q → Last (t ∷ u ∷ us) p q
  last_behind t u us p mid q first l = record { before = t ∷ l.before; last = l.last; is = ap (λ (x : List T). t ∷ x) l.is; from = l.from; leads = (mid, first, l.leads); goes = l.goes }

  pub last_of : (t : T) (ts : List T) (p q : P) → Leads Goes (t ∷ ts) p q → Last (t ∷ ts) p q
  last_of t [] p q h = record { before = []; last = t; is = refl; from = p; leads = refl; goes = subst (λ x. Goes t p x) (sym h.2) h.1 }
  last_of t (u ∷ us) p q h = last_behind t u us p h.0 q h.1 (last_of u us h.0 q h.2)
