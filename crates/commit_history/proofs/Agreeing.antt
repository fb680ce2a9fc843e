-- Maps that agree on what the table reaches.
use Rattle.std.proofs.Common.{◌≡◌, ◌⊎◌, inl, inr, ℕ, zero, suc, ◌<◌, ◌≤◌, true, false, List, [], ◌∷◌, Some, None, is_some, nat_eq, refl, sym, ap, ◌∙◌, subst, arith}
use Rattle.std.specs.List.{find as first}
use Rattle.std.proofs.lemmas.Bool.{cases_lt, eqb-true, eq-eqb}
use Rattle.std.proofs.Math.Nat.{max-eq_left, max-eq_right}
use Rattle.ice_store.specs.Places.{Parts, same_place}
use Rattle.ice_store.specs.Files.{find, is_named}
use Rattle.ice_store.proofs.FileLaws.{by_test, place_decides, same_itself, find_head, find_tail}
use Rattle.ice_store.specs.declared.history.Held.{Held}
use Rattle.commit_history.specs.Readings.{Reading, IsLocal}
use Rattle.commit_history.specs.Tables.{version, table, table_at, sealed_at, sealed_bytes, Whole, IsGood, InReach, IsOutside, IsNumbering}

-- gs has what counts in fs
pub record Agrees (reading : Reading) (fs gs : List Held) : Type 0 where
  pub named : (p : Parts) → 0 < reading.number p → is_named gs p ≡ is_named fs p
  pub bytes : (p : Parts) (x : List ℕ) → (0 < reading.number p) ⊎ InReach reading fs p → sealed_at fs p ≡ Some x → sealed_at gs p ≡ Some x

pub named_file : (hs : List Held) (p : Parts) → is_named hs p ≡ true → (h : Held) × (find hs p ≡ Some h)
named_file hs p there = elim (find hs p) as (λ o. find hs p ≡ o → (h : Held) × (find hs p ≡ Some h)) [
  | None ↦ λ e. let k : is_some {T = Held} None ≡ true = sym (ap is_some e) ∙ there in absurd (cc (k))
  | Some h ↦ λ e. (h, e)
] refl

pub find_place : (hs : List Held) (p : Parts) (h : Held) → find hs p ≡ Some h → h.place ≡ p
find_place [] p h is = absurd (cc)
find_place (k ∷ hs) p h is = by_test (same_place k.place p)
    (λ e. let it : k ≡ h = cc (is, find_head k hs p e) in sym (ap (λ (x : Held). x.place) it) ∙ (place_decides k.place p).0 e)
    (λ e. find_place hs p h (sym (find_tail k hs p e) ∙ is))

module _ (number : Parts → ℕ) where
  pub number_of_named : (hs : List Held) (p : Parts) (h : Held) → find hs p ≡ Some h → number p ≤ version number hs
  number_of_named [] p h is = absurd (cc)
  number_of_named (k ∷ hs) p h is = by_test (same_place k.place p)
      (λ e. let at : number k.place ≡ number p = ap number ((place_decides k.place p).0 e) in omega (arith, at))
      (λ e. let below = number_of_named hs p h (sym (find_tail k hs p e) ∙ is) in omega (arith, below))

  pub record IsVersionPlace (hs : List Held) (p : Parts) : Type 0 where
    pub is : number p ≡ version number hs
    pub file : Held
    pub stands : find hs p ≡ Some file

  first_head : (k : Held) (hs : List Held) (n : ℕ) → nat_eq (number k.place) n ≡ true → first (λ h. nat_eq (number h.place) n) (k ∷ hs) ≡ Some k
  first_head k hs n e = rw e refl

  first_tail : (k : Held) (hs : List Held) (n : ℕ) → nat_eq (number k.place) n ≡ false → first (λ h. nat_eq (number h.place) n) (k ∷ hs) ≡ first (λ h. nat_eq (number h.place) n) hs
  first_tail k hs n e = rw e refl

  -- a file at this place stands in hs
  some_named : (k : Held) (hs : List Held) (p : Parts) → (h : Held) × (find hs p ≡ Some h) → (h : Held) × (find (k ∷ hs) p ≡ Some h)
  some_named k hs p at = by_test (same_place k.place p) (λ e. (k, find_head k hs p e)) (λ e. (at.0, find_tail k hs p e ∙ at.1))

  pub version_named : (hs : List Held) → 0 < version number hs → (p : Parts) × IsVersionPlace hs p
  version_named [] pos = absurd (omega arith)
  version_named (k ∷ hs) pos = elim (cases_lt (number k.place) (version number hs)) [
    | inl lt ↦
        let rest = version_named hs (omega arith) in
        let more = some_named k hs rest.0 (rest.1.file, rest.1.stands) in
        (rest.0, record { is = rest.1.is ∙ sym (max-eq_right (omega arith)); file = more.0; stands = more.1 })
    | inr ge ↦ (k.place, record { is = sym (max-eq_left ge); file = k; stands = find_head k hs k.place (same_itself k.place) })
  ]

  module _ (ruled : IsNumbering number) where
    first_is_find : (hs : List Held) (p : Parts) (n : ℕ) → number p ≡ suc n → first (λ h. nat_eq (number h.place) (suc n)) hs ≡ find hs p
    first_is_find [] p n e = refl
    first_is_find (k ∷ hs) p n e = by_test (same_place k.place p)
        (λ same. let at : number k.place ≡ suc n = ap number ((place_decides k.place p).0 same) ∙ e in
        let hit : nat_eq (number k.place) (suc n) ≡ true = eq-eqb (number k.place) (suc n) at in
        first_head k hs (suc n) hit ∙ sym (find_head k hs p same))
        (λ other. let miss : nat_eq (number k.place) (suc n) ≡ false = by_test (nat_eq (number k.place) (suc n))
        (λ hit. absurd (cc (other, ap (λ (q : Parts). same_place q p) (sym (ruled.single p k.place (omega (arith, e)) (e ∙ sym (eqb-true (number k.place) (suc n) hit)))), same_itself p)))
        (λ miss. miss) in
        first_tail k hs (suc n) miss ∙ first_is_find hs p n e ∙ sym (find_tail k hs p other))

    table_at_is : (hs : List Held) (p : Parts) (n : ℕ) → 0 < n → number p ≡ n → table_at number n hs ≡ sealed_at hs p
    table_at_is hs p zero pos e = absurd (omega arith)
    table_at_is hs p (suc n) pos e = ap sealed_bytes (first_is_find hs p n e)

    -- the table stands at the version's place
    pub table_is : (hs : List Held) (p : Parts) → IsVersionPlace hs p → 0 < version number hs → table number hs ≡ sealed_at hs p
    table_is hs p at pos = table_at_is hs p (version number hs) pos at.is

  pub no_table : (hs : List Held) → version number hs ≡ 0 → table number hs ≡ None
  no_table hs e = ap (λ (n : ℕ). table_at number n hs) e

  half_version : (ls bs : List Held) → ((p : Parts) → 0 < number p → is_named ls p ≡ is_named bs p) → version number ls ≤ version number bs
  half_version ls bs same = elim (cases_lt 0 (version number ls)) [
    | inl pos ↦
        let at = version_named ls pos in
        let there : is_named bs at.0 ≡ true = sym (same at.0 (omega (arith, at.1.is))) ∙ ap is_some at.1.stands in
        let file = named_file bs at.0 there in
        let le = number_of_named bs at.0 file.0 file.1 in
        omega (arith, le, at.1.is)
    | inr none ↦ omega arith
  ]

  -- the version is a fact of the names
  pub version_alike : (fs gs : List Held) → ((p : Parts) → 0 < number p → is_named gs p ≡ is_named fs p) → version number gs ≡ version number fs
  version_alike fs gs same = let a = half_version gs fs same in let b = half_version fs gs (λ p pos. sym (same p pos)) in omega (arith, a, b)

module _ (reading : Reading) where
  module _ (fs gs : List Held) (agrees : Agrees reading fs gs) where
    pub same_version : version reading.number gs ≡ version reading.number fs
    same_version = version_alike reading.number fs gs agrees.named

    module _ (ruled : IsNumbering reading.number) (localized : IsLocal reading) where
      moved_good : (b : List ℕ) → table reading.number fs ≡ Some b → (p : Parts) (x : List ℕ) → reading.reached b (sealed_at fs) p → sealed_at fs p ≡ Some x → sealed_at gs p ≡ Some x
      moved_good b is p x reached at = agrees.bytes p x (inr (record { bytes = b; is = is; reached = reached })) at

      same_table_at : IsGood reading fs → 0 < version reading.number fs → table reading.number gs ≡ table reading.number fs
      same_table_at good pos =
          let at = version_named reading.number fs pos in
          let here : table reading.number fs ≡ sealed_at fs at.0 = table_is reading.number ruled fs at.0 at.1 pos in
          let kept : sealed_at gs at.0 ≡ Some good.bytes = agrees.bytes at.0 good.bytes (inl (omega (arith, at.1.is))) (sym here ∙ good.is) in
          let there : is_named gs at.0 ≡ true = agrees.named at.0 (omega (arith, at.1.is)) ∙ ap is_some at.1.stands in
          let file = named_file gs at.0 there in
          let it : IsVersionPlace reading.number gs at.0 = record { is = at.1.is ∙ sym same_version; file = file.0; stands = file.1 } in
          table_is reading.number ruled gs at.0 it (omega (arith, same_version)) ∙ kept ∙ sym good.is

      same_none : version reading.number fs ≡ 0 → table reading.number gs ≡ table reading.number fs
      same_none e = no_table reading.number gs (same_version ∙ e) ∙ sym (no_table reading.number fs e)

      pub same_table : Whole reading fs → table reading.number gs ≡ table reading.number fs
      same_table (inl e) = same_none e
      same_table (inr good) = elim (cases_lt 0 (version reading.number fs)) [ inl pos ↦ same_table_at good pos | inr none ↦ same_none (omega arith) ]

      pub still_whole : Whole reading fs → Whole reading gs
      still_whole (inl e) = inl (same_version ∙ e)
      still_whole (inr good) = inr (record {
        bytes = good.bytes;
        is = same_table (inr good) ∙ good.is;
        good = localized.stays good.bytes (sealed_at fs) (sealed_at gs) good.good (moved_good good.bytes good.is);
      })

      no_reach : version reading.number fs ≡ 0 → (p : Parts) → InReach reading gs p → ⊥
      no_reach e p r = let k : None ≡ Some r.bytes = sym (no_table reading.number gs (same_version ∙ e)) ∙ r.is in absurd (cc (k))

      pub no_more_reach : Whole reading fs → (p : Parts) → InReach reading gs p → InReach reading fs p
      no_more_reach (inl e) p r = absurd (no_reach e p r)
      no_more_reach (inr good) p r =
          let k : Some r.bytes ≡ Some good.bytes = sym r.is ∙ same_table (inr good) ∙ good.is in
          let e : r.bytes ≡ good.bytes = cc (k) in
          record { bytes = good.bytes; is = good.is; reached = localized.reach good.bytes (sealed_at fs) (sealed_at gs) good.good (moved_good good.bytes good.is) p (subst (λ (b : List ℕ). reading.reached b (sealed_at gs) p) e r.reached) }

      pub still_outside : Whole reading fs → (p : Parts) → IsOutside reading fs p → IsOutside reading gs p
      still_outside whole p out = record { no_version = out.no_version; unreached = λ r. out.unreached (no_more_reach whole p r) }

  -- a place of the reach is there
  pub reach_there : (localized : IsLocal reading) (fs : List Held) (p : Parts) → Whole reading fs → InReach reading fs p → (x : List ℕ) × (sealed_at fs p ≡ Some x)
  reach_there localized fs p (inl e) r = let k : None ≡ Some r.bytes = sym (no_table reading.number fs e) ∙ r.is in absurd (cc (k))
  reach_there localized fs p (inr good) r =
      let k : Some r.bytes ≡ Some good.bytes = sym r.is ∙ good.is in
      let e : r.bytes ≡ good.bytes = cc (k) in
      localized.there good.bytes (sealed_at fs) p good.good (subst (λ (b : List ℕ). reading.reached b (sealed_at fs) p) e r.reached)
