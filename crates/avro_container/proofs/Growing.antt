use Rattle.std.proofs.Common.{◌≡◌, ℕ, List, ◌++◌, length, take, ap, ◌∙◌, append_assoc}
use Rattle.std.proofs.Math.Seq.{take-append_seam}
use Rattle.avro_container.specs.Growth.{Grows}

pub grows_more : (a b c xs : List ℕ) → Grows a b → c ≡ b ++ xs → Grows a c
grows_more a b c xs g e = record { more = g.more ++ xs; is = e ∙ ap (λ y. y ++ xs) g.is ∙ append_assoc a g.more xs }

pub grows_on : (a b c : List ℕ) → Grows a b → Grows b c → Grows a c
grows_on a b c g h = grows_more a b c h.more g h.is

-- what it was before, once the rest is cut off
pub cut_back : (a b c : List ℕ) (n : ℕ) → Grows a b → n ≡ length a → c ≡ take n b → c ≡ a
cut_back a b c n g h e = e ∙ ap (λ k. take k b) h ∙ ap (take (length a)) g.is ∙ take-append_seam a g.more
