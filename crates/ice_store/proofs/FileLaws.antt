-- Laws of files by their places: what stands at a place after a change.
use Rattle.std.proofs.Common.{◌≡◌, Bool, true, false, List, [], ◌∷◌, ◌++◌, Option, Some, None, refl, sym, ap, ◌∙◌, nat_eq}
use Rattle.std.specs.Cmp.Lexicographic.{pointwise}
use Rattle.std.specs.Bool.{Decides}
use Rattle.std.proofs.lemmas.Slice.Eq.{slice_eq-Decides, bytes_eq-Decides}
use Rattle.ice_store.specs.Places.{Parts, same_place}
use Rattle.ice_store.specs.Files.{find, without, changed, put, moved, renamed, renamed_by}
use Rattle.ice_store.specs.declared.history.Held.{Held}

pub place_decides : (p q : Parts) → Decides (same_place p q) (p ≡ q)
place_decides p q = slice_eq-Decides {E = pointwise nat_eq} bytes_eq-Decides p q _ refl

pub same_itself : (p : Parts) → same_place p p ≡ true
same_itself p = (place_decides p p).1 refl

pub not_same : (p q : Parts) → (p ≡ q → ⊥) → same_place p q ≡ false
not_same p q other = elim (same_place p q) as (λ b. same_place p q ≡ b → b ≡ false) [ true ↦ λ e. absurd (other ((place_decides p q).0 e)) | false ↦ λ e. refl ] refl

module _ (h : Held) (hs : List Held) (q : Parts) where
  pub find_head : same_place h.place q ≡ true → find (h ∷ hs) q ≡ Some h
  find_head e = rw e refl

  pub find_tail : same_place h.place q ≡ false → find (h ∷ hs) q ≡ find hs q
  find_tail e = rw e refl

  pub drop_head : same_place h.place q ≡ true → without (h ∷ hs) q ≡ without hs q
  drop_head e = rw e refl

  pub keep_head : same_place h.place q ≡ false → without (h ∷ hs) q ≡ h ∷ without hs q
  keep_head e = rw e refl

  pub change_head : (f : Held → Held) → same_place h.place q ≡ true → changed f (h ∷ hs) q ≡ f h ∷ hs
  change_head f e = rw e refl

  pub change_tail : (f : Held → Held) → same_place h.place q ≡ false → changed f (h ∷ hs) q ≡ h ∷ changed f hs q
  change_tail f e = rw e refl

-- a case for each answer of a test
pub by_test : {G : Type 0} (b : Bool) → (b ≡ true → G) → (b ≡ false → G) → G
by_test true on off = on refl
by_test false on off = off refl

pub find_without_same : (hs : List Held) (p : Parts) → find (without hs p) p ≡ None
find_without_same [] p = refl
find_without_same (h ∷ hs) p = by_test (same_place h.place p)
    (λ e. ap (λ (l : List Held). find l p) (drop_head h hs p e) ∙ find_without_same hs p)
    (λ e. ap (λ (l : List Held). find l p) (keep_head h hs p e) ∙ find_tail h (without hs p) p e ∙ find_without_same hs p)

pub find_without_other : (hs : List Held) (p q : Parts) → (p ≡ q → ⊥) → find (without hs p) q ≡ find hs q
find_without_other [] p q other = refl
find_without_other (h ∷ hs) p q other = by_test (same_place h.place p)
    (λ e. ap (λ (l : List Held). find l q) (drop_head h hs p e) ∙ find_without_other hs p q other
    ∙ sym (find_tail h hs q (not_same h.place q (λ k. other (sym ((place_decides h.place p).0 e) ∙ k)))))
    (λ e. ap (λ (l : List Held). find l q) (keep_head h hs p e)
    ∙ by_test (same_place h.place q)
    (λ k. find_head h (without hs p) q k ∙ sym (find_head h hs q k))
    (λ k. find_tail h (without hs p) q k ∙ find_without_other hs p q other ∙ sym (find_tail h hs q k)))

find_push_other : (h : Held) (hs : List Held) (q : Parts) → (h.place ≡ q → ⊥) → find (hs ++ h ∷ []) q ≡ find hs q
find_push_other h [] q other = find_tail h [] q (not_same h.place q other)
find_push_other h (k ∷ hs) q other = by_test (same_place k.place q)
    (λ e. find_head k (hs ++ h ∷ []) q e ∙ sym (find_head k hs q e))
    (λ e. find_tail k (hs ++ h ∷ []) q e ∙ find_push_other h hs q other ∙ sym (find_tail k hs q e))

find_push_same : (h : Held) (hs : List Held) → find hs h.place ≡ None → find (hs ++ h ∷ []) h.place ≡ Some h
find_push_same h [] none = find_head h [] h.place (same_itself h.place)
find_push_same h (k ∷ hs) none = by_test (same_place k.place h.place)
    (λ e. absurd (cc (none, find_head k hs h.place e)))
    (λ e. find_tail k (hs ++ h ∷ []) h.place e ∙ find_push_same h hs (sym (find_tail k hs h.place e) ∙ none))

pub find_put_same : (h : Held) (hs : List Held) → find (put h hs) h.place ≡ Some h
find_put_same h hs = find_push_same h (without hs h.place) (find_without_same hs h.place)

pub find_put_other : (h : Held) (hs : List Held) (q : Parts) → (h.place ≡ q → ⊥) → find (put h hs) q ≡ find hs q
find_put_other h hs q other = find_push_other h (without hs h.place) q other ∙ find_without_other hs h.place q other

pub find_changed_other : (f : Held → Held) → ((h : Held) → (f h).place ≡ h.place) → (hs : List Held) (p q : Parts) → (p ≡ q → ⊥) → find (changed f hs p) q ≡ find hs q
find_changed_other f keeps [] p q other = refl
find_changed_other f keeps (h ∷ hs) p q other = by_test (same_place h.place p)
    (λ e. let away : h.place ≡ q → ⊥ = λ k. other (sym ((place_decides h.place p).0 e) ∙ k) in
    ap (λ (l : List Held). find l q) (change_head h hs p f e) ∙ find_tail (f h) hs q (not_same (f h).place q (λ k. away (sym (keeps h) ∙ k)))
    ∙ sym (find_tail h hs q (not_same h.place q away)))
    (λ e. ap (λ (l : List Held). find l q) (change_tail h hs p f e)
    ∙ by_test (same_place h.place q)
    (λ k. find_head h (changed f hs p) q k ∙ sym (find_head h hs q k))
    (λ k. find_tail h (changed f hs p) q k ∙ find_changed_other f keeps hs p q other ∙ sym (find_tail h hs q k)))

pub find_changed_same : (f : Held → Held) → ((h : Held) → (f h).place ≡ h.place) → (hs : List Held) (p : Parts) (x : Held) → find hs p ≡ Some x → find (changed f hs p) p ≡ Some (f x)
find_changed_same f keeps [] p x is = absurd (cc)
find_changed_same f keeps (h ∷ hs) p x is = by_test (same_place h.place p)
    (λ e. let it : h ≡ x = cc (is, find_head h hs p e) in
    ap (λ (l : List Held). find l p) (change_head h hs p f e) ∙ find_head (f h) hs p (ap (λ (r : Parts). same_place r p) (keeps h) ∙ e) ∙ ap (λ (y : Held). Some (f y)) it)
    (λ e. ap (λ (l : List Held). find l p) (change_tail h hs p f e) ∙ find_tail h (changed f hs p) p e ∙ find_changed_same f keeps hs p x (sym (find_tail h hs p e) ∙ is))

module _ (hs : List Held) (p q : Parts) (x : Held) (is : find hs p ≡ Some x) where
  renamed_is : renamed p q hs ≡ put (moved q x) (without hs p)
  renamed_is = ap (λ (o : Option Held). renamed_by o p q hs) is

  pub find_renamed_to : find (renamed p q hs) q ≡ Some (moved q x)
  find_renamed_to = ap (λ (l : List Held). find l q) renamed_is ∙ find_put_same (moved q x) (without hs p)

  pub find_renamed_from : (q ≡ p → ⊥) → find (renamed p q hs) p ≡ None
  find_renamed_from other = ap (λ (l : List Held). find l p) renamed_is ∙ find_put_other (moved q x) (without hs p) p other ∙ find_without_same hs p

  pub find_renamed_other : (r : Parts) → (p ≡ r → ⊥) → (q ≡ r → ⊥) → find (renamed p q hs) r ≡ find hs r
  find_renamed_other r from to = ap (λ (l : List Held). find l r) renamed_is ∙ find_put_other (moved q x) (without hs p) r to ∙ find_without_other hs p r from
