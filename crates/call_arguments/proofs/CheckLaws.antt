-- What stands where no argument is refused.
use Rattle.std.proofs.Common.{◌≡◌, ℕ, ◌+◌, Bool, true, false, not, ◌&&◌, ◌||◌, List, [], ◌∷◌, ◌++◌, length, find, Option, Some, None, if◌then◌else◌, option_and_then, option_map, refl, sym, ap, ◌∙◌}
use Rattle.std.specs.List.{AllByRecursion}
use Rattle.std.proofs.lemmas.List.{length-append}
use Rattle.call_text.specs.declared.call.Arg.{Arg}
use Rattle.call_text.specs.declared.call.ArgValue.{ArgValue}
use Rattle.call_arguments.specs.declared.procedure.Procedure.{Procedure}
use Rattle.call_arguments.specs.declared.table.ArgName.{ArgName}
use Rattle.call_arguments.specs.declared.table.ArgLine.{ArgLine}
use Rattle.call_arguments.specs.Table.{argument_name, arguments_of, line_for}
use Rattle.call_arguments.specs.Check.{is_null, goes_by, stands_for, value_from, is_repeated, is_right, right_line, wrong_name, go_on, first_wrong, lacks, first_lacking, first_of, IsRightFor, GivenAreRight, NoneLack}

first_true : (a b : Bool) → (a && b) ≡ true → a ≡ true
first_true true b e = refl
first_true false b e = absurd cc

kept : (a b : Bool) (k l : ArgLine) → (if a || not b then None else Some k) ≡ Some l → (k ≡ l) × (b ≡ true)
kept true b k l e = absurd cc
kept false true k l e = (cc, refl)
kept false false k l e = absurd cc

-- the line of a right argument
line_is : (repeated right : ArgLine → Bool) (o : Option ArgLine) (l : ArgLine) → option_and_then (λ (k : ArgLine). if repeated k || not (right k) then None else Some k) o ≡ Some l → (o ≡ Some l) × (right l ≡ true)
line_is repeated right None l e = absurd cc
line_is repeated right (Some k) l e =
    let h = kept (repeated k) (right k) k l e in
    (ap Some h.0, ap right (sym h.0) ∙ h.1)

-- the value of an argument that is right, or one behind it
value_is : (p : Procedure) (all : List Arg) (n : ArgName) (v : ArgValue) (a : Arg) (l : ArgLine) (o : Option ArgLine) (g : Bool) (behind : Option ArgValue) → o ≡ Some l → is_right p all l a.value ≡ true
    → (goes_by o n && not (is_null a.value)) ≡ g → (behind ≡ Some v → IsRightFor p all n v) → (if g then Some a.value else behind) ≡ Some v → IsRightFor p all n v
value_is p all n v a l o true behind line right goes later at =
    let same : a.value ≡ v = cc in
    let named : goes_by o n ≡ true = first_true (goes_by o n) (not (is_null a.value)) goes in
    (l, (ap (λ (x : Option ArgLine). goes_by x n) (sym line) ∙ named, ap (λ (x : ArgValue). is_right p all l x) (sym same) ∙ right))
value_is p all n v a l o false behind line right goes later at = later at

longer : (seen : List ArgLine) (l : ArgLine) → length (seen ++ l ∷ []) ≡ length seen + 1
longer seen l = length-append seen (l ∷ [])

first_on : (p : Procedure) (all : List Arg) (seen : List ArgLine) (rest : List Arg) (n : ArgName) (v : ArgValue) (a : Arg) (line : Option ArgLine) → right_line p all seen a ≡ line
    → ((more : List ArgLine) → first_wrong p all more rest ≡ None → value_from p (length more) rest n ≡ Some v → IsRightFor p all n v)
    → go_on line (wrong_name p seen a) (λ l. first_wrong p all (seen ++ l ∷ []) rest) ≡ None → value_from p (length seen) (a ∷ rest) n ≡ Some v → IsRightFor p all n v
first_on p all seen rest n v a None e later ok at = absurd cc
first_on p all seen rest n v a (Some l) e later ok at =
    let h = line_is (is_repeated seen) (λ k. is_right p all k a.value) (line_for p (length seen) a.name) l e in
    let on : value_from p (length seen + 1) rest n ≡ Some v → IsRightFor p all n v = λ found. later (seen ++ l ∷ []) ok (ap (λ (k : ℕ). value_from p k rest n) (longer seen l) ∙ found) in
    value_is p all n v a l (line_for p (length seen) a.name) (stands_for p (length seen) a n) (value_from p (length seen + 1) rest n) h.0 h.1 refl on at

given_from : (p : Procedure) (all : List Arg) (n : ArgName) (v : ArgValue) (rest : List Arg) (seen : List ArgLine) → first_wrong p all seen rest ≡ None → value_from p (length seen) rest n ≡ Some v → IsRightFor p all n v
given_from p all n v [] seen ok at = absurd cc
given_from p all n v (a ∷ rest) seen ok at = first_on p all seen rest n v a (right_line p all seen a) refl (given_from p all n v rest) ok at

none_first : (a b : Option (List ℕ)) → first_of a b ≡ None → (a ≡ None) × (b ≡ None)
none_first None b e = (refl, e)
none_first (Some x) b e = absurd cc

pub given_are_right : GivenAreRight
given_are_right p args n v ok at = given_from p args n v args [] ((none_first (first_wrong p args [] args) (first_lacking p args) ok).0) at

none_mapped : (o : Option ArgLine) → option_map (λ (l : ArgLine). argument_name l.name) o ≡ None → o ≡ None
none_mapped None e = refl
none_mapped (Some l) e = absurd cc

module _ (f : ArgLine → Bool) where
  not_here : (g : Bool) (l : ArgLine) (rest : Option ArgLine) → f l ≡ g → (if g then Some l else rest) ≡ None → (f l ≡ false) × (rest ≡ None)
  not_here true l rest e h = absurd cc
  not_here false l rest e h = (e, h)

  none_holds : (ls : List ArgLine) → find f ls ≡ None → AllByRecursion (λ (l : ArgLine). f l ≡ false) ls
  none_holds [] e = tt
  none_holds (l ∷ ls) e = let h = not_here (f l) l (find f ls) refl e in (h.0, none_holds ls h.1)

pub none_lack : NoneLack
none_lack p args ok = none_holds (lacks p args) (arguments_of p) (none_mapped (find (lacks p args) (arguments_of p)) ((none_first (first_wrong p args [] args) (first_lacking p args) ok).1))
