use Rattle.std.proofs.Common.{◌≡◌, ◌<◌, ◌≤◌, ◌+◌, ◌-◌, ◌*◌, ◌∷◌, [], ℕ, List, Bool, true, false, drop, length, Option, Some, None, cond, ◌&&◌, not, ◌==◌, refl, sym, ap, ◌∙◌, arith}
use Rattle.std.specs.Prelude.{nat_le, slice_index}
use Rattle.std.specs.Str.{all_ascii_digits}
use Rattle.std.proofs.lemmas.List.{drop_more}
use Rattle.ice_store.specs.Numbers.{number_on, natural_of, largest_long}
use Rattle.ice_store.proofs.numbers.natural_of.Goals as goal

-- more digits make no smaller number
number_on-le : (n : ℕ) (ds : List ℕ) → n ≤ number_on n ds
number_on-le n [] = omega arith
number_on-le n (d ∷ ds) = let more = number_on-le (10 * n + (d - 48)) ds in omega (arith, more)

above : (m n : ℕ) → m < n → nat_le n m ≡ false
above m n lt = grind arith

too_large : (a b : Bool) (n : ℕ) (o : Option ℕ) → largest_long < n → cond (a && b && nat_le n largest_long) o None ≡ None
too_large true true n o h = ap (λ t. cond t o None) (above largest_long n h)
too_large true false n o h = refl
too_large false b n o h = refl

pub returns-then-number : goal.returns-then-number
unfolding natural_of
returns-then-number c =
    let text = c.args.text.now in
    let i = c.loop-digit.digit-index in
    let n = c.loop-digit.number * 10 + (slice_index text i - 48) in
    let rest = drop (i + 1) text in
    let on : number_on c.loop-digit.number (drop i text) ≡ number_on n rest = ap (number_on c.loop-digit.number) (drop_more text i 0 (omega arith)) ∙ ap (λ k. number_on k rest) (omega arith) in
    let large : largest_long < number_on 0 text = omega (arith, number_on-le n rest, sym on ∙ c.loop-digit.invariant.value) in
    sym (too_large (all_ascii_digits text) (not (length text == 0)) (number_on 0 text) (Some (number_on 0 text)) large)
