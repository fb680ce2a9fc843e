-- The parts of what was read.
use Rattle.std.proofs.Common.{◌≡◌, ℕ, List, ◌++◌, Result, Ok, Err, refl, sym, ap, ◌∙◌, append_assoc, cond, Bool, true, false}
use Rattle.avro_container.specs.Spelling.{Joins, Fronts}
use Rattle.avro_container.specs.Reading.{Read, Fault, ◌>>=◌}

module _ {C : Type 0} where
  pub same_ok : {A : Type 0} {x y : A} → ◌≡◌ {A = Result A (Fault C)} (Ok x) (Ok y) → x ≡ y
  same_ok e = cc

  pub same_value : {A B : Type 0} {x y : A × B} → ◌≡◌ {A = Result (A × B) (Fault C)} (Ok x) (Ok y) → x.0 ≡ y.0
  same_value e = ap (λ p. p.0) (same_ok e)

  pub same_rest : {A B : Type 0} {x y : A × B} → ◌≡◌ {A = Result (A × B) (Fault C)} (Ok x) (Ok y) → x.1 ≡ y.1
  same_rest e = ap (λ p. p.1) (same_ok e)

  -- a fault is no value
  pub clash : {A : Type 0} {r : Result A (Fault C)} {e : Fault C} {x : A} → r ≡ Err e → r ≡ Ok x → ⊥
  clash h k = cc

  pub bind_ok : {A B : Type 0} (r : Result A (Fault C)) (f : A → Result B (Fault C)) (y : B) → (r >>= f) ≡ Ok y → (x : A) × (r ≡ Ok x) × (f x ≡ Ok y)
  bind_ok (Ok x) f y e = (x, refl, e)
  bind_ok (Err d) f y e = absurd cc

  pub guard_ok : {A : Type 0} (b : Bool) (d : Fault C) (x y : A) → ◌≡◌ {A = Result A (Fault C)} (cond b (Err d) (Ok x)) (Ok y) → (b ≡ false) × (x ≡ y)
  guard_ok true d x y e = absurd cc
  guard_ok false d x y e = (refl, same_ok e)

  pub pass_ok : {A : Type 0} (b : Bool) (d : Fault C) (x y : A) → ◌≡◌ {A = Result A (Fault C)} (cond b (Ok x) (Err d)) (Ok y) → (b ≡ true) × (x ≡ y)
  pass_ok true d x y e = (refl, same_ok e)
  pass_ok false d x y e = absurd cc

-- one front behind another
pub joined : {P Q : List ℕ → Type 0} {bytes mid rest : List ℕ} → Fronts P bytes mid → Fronts Q mid rest → Fronts (Joins P Q) bytes rest
joined p q = record {
  front = p.front ++ q.front;
  spells = record { front = p.front; rest = q.front; first = p.spells; second = q.spells; is = refl };
  is = p.is ∙ ap (λ r. p.front ++ r) q.is ∙ sym (append_assoc p.front q.front _);
}

pub as_spelled : {P Q : List ℕ → Type 0} {bytes rest : List ℕ} → ((b : List ℕ) → P b → Q b) → Fronts P bytes rest → Fronts Q bytes rest
as_spelled h p = record { front = p.front; spells = h p.front p.spells; is = p.is }

pub ends_at : {P : List ℕ → Type 0} {bytes rest end : List ℕ} → rest ≡ end → Fronts P bytes rest → Fronts P bytes end
ends_at e p = record { front = p.front; spells = p.spells; is = p.is ∙ ap (λ r. p.front ++ r) e }

-- joined spellings, with what follows them
pub regrouped : {P Q : List ℕ → Type 0} (b rest : List ℕ) (s : Joins P Q b) → b ++ rest ≡ s.front ++ (s.rest ++ rest)
regrouped b rest s = ap (λ x. x ++ rest) s.is ∙ append_assoc s.front s.rest rest

-- What is read so is spelled so.
abbrev pub IsFound : {C A : Type 0} → (A → List ℕ → Type 0) → (List ℕ → Read C A) → Type 0
IsFound {C} {A} P r = (bytes : List ℕ) (x : A) (rest : List ℕ) → r bytes ≡ Ok (x, rest) → Fronts (P x) bytes rest

-- What is spelled so is read, whatever follows.
abbrev pub IsRead : {C A : Type 0} → (A → List ℕ → Type 0) → (List ℕ → Read C A) → Type 0
IsRead {C} {A} P r = (x : A) (b rest : List ℕ) → P x b → r (b ++ rest) ≡ Ok (x, rest)
