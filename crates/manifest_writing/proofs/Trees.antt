-- Trees without floats, which aren't too deep.
use Rattle.std.proofs.Common.{◌≡◌, ℕ, suc, ℤ, pos, negsuc, ◌≤◌, List, [], ◌∷◌, Bool, true, false, ◌||◌, Ordering, Less, Equal, Greater, Option, Some, None, refl, arith}
use Rattle.std.specs.Ordering.{nat_cmp, match_ordering}
use Rattle.std.specs.Cmp.Lexicographic.{slice_cmp}
use Rattle.std.specs.List.{AllByRecursion}
use Rattle.serde_json.specs.Data.{Data, number, string, array, object, unsigned, Members, no_members, member, put, depth, items_depth, members_depth}
use Rattle.serde_json.specs.Find.{of_integer}
use Rattle.serde_json.specs.Written.{has_float, items_have_float, members_have_float}
use Rattle.serde_json.specs.View.{items_of}

-- no number in it is a float, and it isn't deeper
abbrev pub IsTame : ℕ → Data → Type 0
IsTame n d = (has_float d ≡ false) × (depth d ≤ n)

abbrev pub AreTame : ℕ → Members → Type 0
AreTame n ms = (members_have_float ms ≡ false) × (members_depth ms ≤ n)

either : (a b : Bool) → (a || b) ≡ false → (a ≡ false) × (b ≡ false)
either true b e = absurd cc
either false b e = (refl, e)

neither : (a b : Bool) → a ≡ false → b ≡ false → (a || b) ≡ false
neither a b p q = rw (p, q) refl

pub weaker : (m n : ℕ) (d : Data) → m ≤ n → IsTame m d → IsTame n d
weaker m n d h p = (p.0, omega (arith, p.1, h))

tame_member : (n : ℕ) (k : List ℕ) (d : Data) (ms : Members) → IsTame n d → AreTame n ms → AreTame n (member k d ms)
tame_member n k d ms p q = (neither _ _ p.0 q.0, omega (arith, p.1, q.1))

tame_first : (n : ℕ) (k : List ℕ) (d : Data) (ms : Members) → AreTame n (member k d ms) → IsTame n d
tame_first n k d ms p = ((either _ _ p.0).0, omega (arith, p.1))

tame_rest : (n : ℕ) (k : List ℕ) (d : Data) (ms : Members) → AreTame n (member k d ms) → AreTame n ms
tame_rest n k d ms p = ((either _ _ p.0).1, omega (arith, p.1))

tame_by : (n : ℕ) (o : Ordering) (a b c : Members) → AreTame n a → AreTame n b → AreTame n c → AreTame n (match_ordering o a b c)
tame_by n Less a b c p q r = p
tame_by n Equal a b c p q r = q
tame_by n Greater a b c p q r = r

pub tame_put : (n : ℕ) (k : List ℕ) (d : Data) (ms : Members) → IsTame n d → AreTame n ms → AreTame n (put k d ms)
tame_put n k d no_members p q = tame_member n k d no_members p q
tame_put n k d (member l e ms) p q =
    let rest = tame_rest n l e ms q in
    tame_by n (slice_cmp nat_cmp k l) _ _ _ (tame_member n k d (member l e ms) p q) (tame_member n l d ms p rest) (tame_member n l e (put k d ms) (tame_first n l e ms q) (tame_put n k d ms p rest))

pub tame_none : (n : ℕ) → AreTame n no_members
tame_none n = (refl, omega arith)

pub tame_object : (n : ℕ) (ms : Members) → AreTame n ms → IsTame (suc n) (object ms)
tame_object n ms p = (p.0, omega (arith, p.1))

pub tame_text : (n : ℕ) (s : List ℕ) → IsTame n (string s)
tame_text n s = (refl, omega arith)

pub tame_integer : (n : ℕ) (id : ℤ) → IsTame n (number (of_integer id))
tame_integer n (pos m) = (refl, omega arith)
tame_integer n (negsuc m) = (refl, omega arith)

pub tame_unsigned : (n m : ℕ) → IsTame n (number (unsigned m))
tame_unsigned n m = (refl, omega arith)

tame_items : (n : ℕ) (ds : List Data) → AllByRecursion (IsTame n) ds → (items_have_float (items_of ds) ≡ false) × (items_depth (items_of ds) ≤ n)
tame_items n [] p = (refl, omega arith)
tame_items n (d ∷ ds) p = let rest = tame_items n ds p.1 in (neither _ _ p.0.0 rest.0, omega (arith, p.0.1, rest.1))

pub tame_array : (n : ℕ) (ds : List Data) → AllByRecursion (IsTame n) ds → IsTame (suc n) (array (items_of ds))
tame_array n ds p = let all = tame_items n ds p in (all.0, omega (arith, all.1))
