-- A directory that is added to those that are noted.
use Rattle.std.proofs.Common.{◌≡◌, ℕ, Bool, true, false, cond, List, String, Result, Ok, Err, OnOk, refl, ap, ◌∙◌, subst}
use Rattle.std.proofs.lemmas.Map.Text.{btree_set_updates_text}
use Rattle.std.proofs.lemmas.Slice.Eq.{bytes_eq-Decides}
use Rattle.std.specs.BTreeSet.{BTreeSet, Updates, UpdatesBy, contains_text, IsUnchanged}
use Rattle.std.specs.Cmp.Lexicographic.{slice_cmp}
use Rattle.std.specs.Ordering.{nat_cmp}
use Rattle.std.specs.declared.alloc.Global.{Global}
use Rattle.std.specs.Str.{bytes_eq}
use Rattle.std.specs.String.{string_cmp, string_bytes}
use Rattle.store_directory.specs.Noted.{KeepsNoted, Notes, NotesParent, IsParentNoted}

either : (b c : Bool) → c ≡ true → cond b true c ≡ true
either true c is = refl
either false c is = is

pub added : (old new : BTreeSet (String Global)) (key : String Global) (dir : List ℕ) → Updates string_cmp old new key true → string_bytes key ≡ dir → Notes old new dir
added old new key dir updates is =
    let at : UpdatesBy string_cmp (λ k. slice_cmp nat_cmp dir (string_bytes k)) old new true =
    subst (λ (bs : List ℕ). UpdatesBy string_cmp (λ k. slice_cmp nat_cmp bs (string_bytes k)) old new true) is updates in
    let each : (cs : List ℕ) → contains_text new cs ≡ cond (bytes_eq dir cs) true (contains_text old cs) = btree_set_updates_text dir old new true at in
    record {
      here = each dir ∙ ap (λ (b : Bool). cond b true (contains_text old dir)) ((bytes_eq-Decides dir dir).1 refl);
      kept = λ q noted. each q ∙ either (bytes_eq dir q) (contains_text old q) noted;
    }

-- Nothing is added.

pub still : (old new : BTreeSet (String Global)) → IsUnchanged old new → KeepsNoted old new
still old new same q noted = ap (λ (s : List (String Global)). contains_text (record { keys = s }) q) same ∙ noted

pub stands : (old new : BTreeSet (String Global)) (dir : List ℕ) → IsUnchanged old new → contains_text old dir ≡ true → Notes old new dir
stands old new dir same noted = record { here = still old new same dir noted; kept = still old new same }

-- The directory of a path stays noted, whatever a call answers.

pub parent_stays : (old mid new : BTreeSet (String Global)) (path : List ℕ) → NotesParent old mid path → KeepsNoted mid new → IsParentNoted new path
parent_stays old mid new path h kept = record { dir = h.dir; is = h.is; here = kept h.dir h.noted.here }

pub parent_now : (old new : BTreeSet (String Global)) (path : List ℕ) → NotesParent old new path → IsParentNoted new path
parent_now old new path h = record { dir = h.dir; is = h.is; here = h.noted.here }

pub on_ok : {T E : Type 0} (r : Result T E) (P : Type 0) → P → OnOk r P
on_ok (Ok value) P p = p
on_ok (Err e) P p = tt
