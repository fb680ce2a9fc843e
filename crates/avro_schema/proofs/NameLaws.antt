-- Laws of names and of the types known by name.
use Rattle.std.proofs.Common.{◌≡◌, ℕ, suc, ◌<◌, List, [], ◌∷◌, ◌++◌, length, get_or, String, string_bytes, string_cmp, nat_cmp, Ordering, Less, Equal, Greater, Some, None, Bool, true, false, cond, ◌==◌, is_eq, refl, sym, ap, ◌∙◌, arith, eqb-true, Global, ◌||◌, ◌⊎◌, inl, inr}
use Rattle.std.proofs.lemmas.Cmp.{nat_list_cmp_total, tied_itself}
use Rattle.std.proofs.lemmas.Map.Text.{is_eq-slice_cmp}
use Rattle.std.proofs.lemmas.Slice.Eq.{bytes_eq-Decides}
use Rattle.std.specs.Cmp.Lexicographic.{slice_cmp}
use Rattle.std.specs.Str.{bytes_eq}
use Rattle.std.specs.Ordering.{match_ordering}
use Rattle.std.specs.Map.{lookup}
use Rattle.std.specs.BTreeMap.{insert_entry, is_at}
use Rattle.avro_schema.specs.declared.known.Known.{Known}
use Rattle.avro_schema.specs.Writing.{is_written, with_name}
use Rattle.avro_schema.specs.Names.{last_from, last_part, Names, find, define, names_of}

pub last_from-dot : (best xs ys : List ℕ) → last_from best (xs ++ 46 ∷ ys) ≡ last_from ys ys
last_from-dot best [] ys = refl
last_from-dot best (x ∷ xs) ys = elim (x == 46) as (λ b. cond b (last_from (xs ++ 46 ∷ ys) (xs ++ 46 ∷ ys)) (last_from best (xs ++ 46 ∷ ys)) ≡ last_from ys ys) [
  | true ↦ last_from-dot (xs ++ 46 ∷ ys) xs ys
  | false ↦ last_from-dot best xs ys
]

pub last_part-dot : (xs ys : List ℕ) → last_part (xs ++ 46 ∷ ys) ≡ last_part ys
unfolding last_part
last_part-dot xs ys = last_from-dot (xs ++ 46 ∷ ys) xs ys

-- a text without dots
abbrev pub HasNoDot : List ℕ → Type 0
HasNoDot bs = (i : ℕ) → i < length bs → get_or bs i 0 ≡ 46 → ⊥

last_from-plain : (best bs : List ℕ) → HasNoDot bs → last_from best bs ≡ best
last_from-plain best [] h = refl
last_from-plain best (b ∷ bs) h =
    elim (b == 46) as (λ t. (b == 46) ≡ t → cond t (last_from bs bs) (last_from best bs) ≡ best) [
      | true ↦ λ e. absurd (h 0 (omega arith) (eqb-true b 46 e))
      | false ↦ λ e. last_from-plain best bs (λ i within. h (suc i) (omega arith))
    ] refl

pub last_part-plain : (bs : List ℕ) → HasNoDot bs → last_part bs ≡ bs
unfolding last_part
last_part-plain bs h = last_from-plain bs bs h

abbrev Entry : Type 0
Entry = String Global × Known

names_of-match_ordering : (o : Ordering) (a b c : List Entry) → names_of (match_ordering o a b c) ≡ match_ordering o (names_of a) (names_of b) (names_of c)
names_of-match_ordering Less a b c = refl
names_of-match_ordering Equal a b c = refl
names_of-match_ordering Greater a b c = refl

pub names_of-insert_entry : (es : List Entry) (k : String Global) (v : Known) → names_of (insert_entry string_cmp es k v) ≡ define (string_bytes k) v (names_of es)
names_of-insert_entry [] k v = refl
names_of-insert_entry (e ∷ es) k v = names_of-match_ordering (string_cmp k e.0) _ _ _ ∙ rw (names_of-insert_entry es k v) refl

pub find-names_of : (name : List ℕ) (es : List Entry) → lookup (is_at (λ k. slice_cmp nat_cmp name (string_bytes k))) es ≡ find name (names_of es)
find-names_of name [] = refl
find-names_of name (e ∷ es) = rw (find-names_of name es) refl

-- What is known under a name after a definition.

same_text : (xs : List ℕ) → slice_cmp nat_cmp xs xs ≡ Equal
same_text xs = tied_itself nat_list_cmp_total xs

differ : (xs ys : List ℕ) (b : Bool) → bytes_eq xs ys ≡ b → (xs ≡ ys → ⊥) → b ≡ false
differ xs ys true e other = absurd (other ((bytes_eq-Decides xs ys).0 e))
differ xs ys false e other = refl

-- the test that finds a name is false at another
apart : (q k : List ℕ) → (q ≡ k → ⊥) → is_at (slice_cmp nat_cmp q) k ≡ false
apart q k other = is_eq-slice_cmp q k ∙ differ q k _ refl other

here : (k : List ℕ) → is_at (slice_cmp nat_cmp k) k ≡ true
here k = ap is_eq (same_text k)

equal_texts : (k l : List ℕ) → slice_cmp nat_cmp k l ≡ Equal → k ≡ l
equal_texts k l e = (bytes_eq-Decides k l).0 (sym (is_eq-slice_cmp k l) ∙ ap is_eq e)

find-define_at : (o : Ordering) (k : List ℕ) (v : Known) (e : List ℕ × Known) (es : Names) → slice_cmp nat_cmp k e.0 ≡ o → find k (define k v es) ≡ Some v
    → find k (match_ordering o ((k, v) ∷ e ∷ es) ((e.0, v) ∷ es) (e ∷ define k v es)) ≡ Some v
find-define_at Less k v e es is later = ap (λ b. cond b (Some v) (find k (e ∷ es))) (here k)
find-define_at Equal k v e es is later = ap (λ b. cond b (Some v) (find k es)) (ap is_eq is)
find-define_at Greater k v e es is later = ap (λ b. cond b (Some e.1) (find k (define k v es))) (ap is_eq is) ∙ later

pub find-define : (k : List ℕ) (v : Known) (es : Names) → find k (define k v es) ≡ Some v
find-define k v [] = ap (λ b. cond b (Some v) None) (here k)
find-define k v (e ∷ es) = find-define_at (slice_cmp nat_cmp k e.0) k v e es refl (find-define k v es)

skips : (q k : List ℕ) (v : Known) (es : Names) → (q ≡ k → ⊥) → find q ((k, v) ∷ es) ≡ find q es
skips q k v es other = ap (λ b. cond b (Some v) (find q es)) (apart q k other)

find-define_other_at : (o : Ordering) (q k : List ℕ) (v : Known) (e : List ℕ × Known) (es : Names) → slice_cmp nat_cmp k e.0 ≡ o → (q ≡ k → ⊥) → find q (define k v es) ≡ find q es
    → find q (match_ordering o ((k, v) ∷ e ∷ es) ((e.0, v) ∷ es) (e ∷ define k v es)) ≡ find q (e ∷ es)
find-define_other_at Less q k v e es is other later = skips q k v (e ∷ es) other
find-define_other_at Equal q k v e es is other later =
    let apart_too = λ (h : q ≡ e.0). other (h ∙ sym (equal_texts k e.0 is)) in
    skips q e.0 v es apart_too ∙ sym (skips q e.0 e.1 es apart_too)
find-define_other_at Greater q k v e es is other later = ap (cond (is_at (slice_cmp nat_cmp q) e.0) (Some e.1)) later

pub find-define_other : (q k : List ℕ) (v : Known) (es : Names) → (q ≡ k → ⊥) → find q (define k v es) ≡ find q es
find-define_other q k v [] other = skips q k v [] other
find-define_other q k v (e ∷ es) other = find-define_other_at (slice_cmp nat_cmp k e.0) q k v e es refl other (find-define_other q k v es other)

-- Whether a name was written, after one more was.

or_true : (a b : Bool) → b ≡ true → (a || b) ≡ true
or_true true b e = refl
or_true false b e = e

is_written-with_name_at : (o : Ordering) (k x : List ℕ) (xs : List (List ℕ)) → slice_cmp nat_cmp k x ≡ o → is_written k (with_name k xs) ≡ true
    → is_written k (match_ordering o (k ∷ x ∷ xs) (x ∷ xs) (x ∷ with_name k xs)) ≡ true
is_written-with_name_at Less k x xs is later = ap (λ b. b || is_written k (x ∷ xs)) (here k)
is_written-with_name_at Equal k x xs is later = ap (λ b. b || is_written k xs) (ap is_eq is)
is_written-with_name_at Greater k x xs is later = or_true (is_at (slice_cmp nat_cmp k) x) _ later

pub is_written-with_name : (k : List ℕ) (xs : List (List ℕ)) → is_written k (with_name k xs) ≡ true
is_written-with_name k [] = ap (λ b. b || false) (here k)
is_written-with_name k (x ∷ xs) = is_written-with_name_at (slice_cmp nat_cmp k x) k x xs refl (is_written-with_name k xs)

is_written-other_at : (o : Ordering) (q k x : List ℕ) (xs : List (List ℕ)) → slice_cmp nat_cmp k x ≡ o → (q ≡ k → ⊥) → is_written q (with_name k xs) ≡ is_written q xs
    → is_written q (match_ordering o (k ∷ x ∷ xs) (x ∷ xs) (x ∷ with_name k xs)) ≡ is_written q (x ∷ xs)
is_written-other_at Less q k x xs is other later = ap (λ b. b || is_written q (x ∷ xs)) (apart q k other)
is_written-other_at Equal q k x xs is other later = refl
is_written-other_at Greater q k x xs is other later = ap (λ b. is_at (slice_cmp nat_cmp q) x || b) later

pub is_written-other : (q k : List ℕ) (xs : List (List ℕ)) → (q ≡ k → ⊥) → is_written q (with_name k xs) ≡ is_written q xs
is_written-other q k [] other = ap (λ b. b || false) (apart q k other)
is_written-other q k (x ∷ xs) other = is_written-other_at (slice_cmp nat_cmp k x) q k x xs refl other (is_written-other q k xs other)

-- Two texts are equal or not.
pub text_cases : (q k : List ℕ) → (q ≡ k) ⊎ (q ≡ k → ⊥)
text_cases q k = elim (bytes_eq q k) as (λ b. bytes_eq q k ≡ b → (q ≡ k) ⊎ (q ≡ k → ⊥)) [
  | true ↦ λ e. inl ((bytes_eq-Decides q k).0 e)
  | false ↦ λ e. inr (λ same. (let yes = (bytes_eq-Decides q k).1 same in absurd cc))
] refl
