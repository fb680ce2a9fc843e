-- Laws of the last version in a listing.
use Rattle.std.proofs.Common.{◌≡◌, ℕ, zero, suc, ◌+◌, ◌<◌, ◌≤◌, max, List, [], ◌∷◌, length, take, get_or, slice_get, Option, Some, None, ap, ◌∙◌, arith}
use Rattle.std.proofs.lemmas.List.{take_more}
use Rattle.std.specs.Option.{IsSomeAnd}
use Rattle.ice_store.specs.Places.{Parts}
use Rattle.ice_store.specs.declared.store.Listed.{Listed}
use Rattle.commit_history.specs.Listings.{greatest}
use Rattle.commit_history.proofs.ListingLaws.{greatest-push}

pub one_more : (number : Parts → ℕ) (l : List Listed) (i : ℕ) (d : Listed) → i < length l → greatest number (take (i + 1) l) ≡ max (greatest number (take i l)) (number (get_or l i d).place)
one_more number l i d lt = ap (greatest number) (take_more l i d lt) ∙ greatest-push number (take i l) (get_or l i d)

pub at_index : (P : Listed → Type 0) (l : List Listed) (i : ℕ) (d : Listed) → i < length l → P (get_or l i d) → IsSomeAnd (slice_get l i) P
at_index P [] i d lt here = absurd (omega (arith, lt))
at_index P (x ∷ l) zero d lt here = here
at_index P (x ∷ l) (suc i) d lt here = at_index P l i d (omega (arith, lt)) here

-- two facts of one item
pub both_of : (P Q R : Listed → Type 0) (o : Option Listed) → ((l : Listed) → P l → Q l → R l) → IsSomeAnd o P → IsSomeAnd o Q → IsSomeAnd o R
both_of P Q R None turn p q = p
both_of P Q R (Some l) turn p q = turn l p q

pub fact_of : (F : Type 0) (P : Listed → Type 0) (o : Option Listed) → ((l : Listed) → P l → F) → IsSomeAnd o P → F
fact_of F P None turn p = absurd p
fact_of F P (Some l) turn p = turn l p

-- no item has a number above the greatest
pub below_greatest : (number : Parts → ℕ) (l : List Listed) (i n : ℕ) → IsSomeAnd (slice_get l i) (λ e. n ≤ number e.place) → n ≤ greatest number l
below_greatest number [] i n here = absurd here
below_greatest number (x ∷ l) zero n here = omega (arith, here)
below_greatest number (x ∷ l) (suc i) n here = let rest = below_greatest number l i n here in omega (arith, rest)
