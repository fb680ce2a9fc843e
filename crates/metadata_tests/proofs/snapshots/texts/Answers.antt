use Rattle.std.proofs.Common.{ℕ, zero, suc, List, [], ◌∷◌, IsUtf8, arith}
use Rattle.metadata_snapshots.specs.Conditions.{AreTexts}
use Rattle.metadata_tests.proofs.snapshots.texts.Goals as goal

two_texts : (a b c d : List ℕ) → IsUtf8 a → IsUtf8 b → IsUtf8 c → IsUtf8 d → AreTexts ((a, b) ∷ ((c, d) ∷ []))
two_texts a b c d a_is b_is c_is d_is zero x within = (a_is, b_is)
two_texts a b c d a_is b_is c_is d_is (suc zero) x within = (c_is, d_is)
two_texts a b c d a_is b_is c_is d_is (suc (suc k)) x within = absurd (omega arith)

pub returns : goal.returns
returns c =
    rw c.new.ensures (rw c.in_ok-push-2.ensures.items (rw c.in_ok-push.ensures.items (rw c.new-pairs.ensures.items
    (two_texts _ _ _ _ c.in_ok-other.ensures c.in_ok-value.ensures c.in_ok-added.ensures c.in_ok-number.ensures))))
