-- The words of the language: their spelling, and the test for them.
use Rattle.std.proofs.Common.{◌≡◌, ℕ, Bool, true, false, cond, List, Option, Some, refl, sym, ◌∙◌, ap, inl, inr}
use Rattle.std.specs.Prelude.{◌⊎◌, ◌↔◌, IsTrue, codes}
use Rattle.std.proofs.lemmas.Bool.Decides.{same_from_decides, Decides-like}
use Rattle.std.proofs.lemmas.Option.{same_Some, none-some}
use Rattle.std.proofs.lemmas.Slice.Eq.{bytes_eq-Decides}
use Rattle.std.specs.Str.{bytes_eq}
use Rattle.call_text.specs.declared.keyword.Keyword.{Keyword}
use Rattle.call_text.specs.declared.keyword.Keyword.TheVariants as words
use Rattle.call_text.specs.Keywords.{spelling, keyword_of, lower, is_keyword}

pub keyword-spelling : (k : Keyword) → keyword_of (spelling k) ≡ Some k
unfolding keyword_of spelling
keyword-spelling words.Call = refl
keyword-spelling words.System = refl
keyword-spelling words.True = refl
keyword-spelling words.False = refl
keyword-spelling words.Null = refl
keyword-spelling words.Timestamp = refl
keyword-spelling words.Map = refl
keyword-spelling words.Array = refl

at_test : (b : Bool) (P : Type 0) (x k : Keyword) (rest : Option Keyword) → (b ≡ true → P) → cond b (Some x) rest ≡ Some k → (P × (x ≡ k)) ⊎ (rest ≡ Some k)
at_test true P x k rest h e = inl (h refl, same_Some x k e)
at_test false P x k rest h e = inr e

at_word : (w v : List ℕ) (x k : Keyword) (rest : Option Keyword) → v ≡ spelling x → cond (bytes_eq w v) (Some x) rest ≡ Some k → (rest ≡ Some k → w ≡ spelling k) → w ≡ spelling k
at_word w v x k rest is e h = elim (at_test (bytes_eq w v) (w ≡ v) x k rest (bytes_eq-Decides w v).0 e) [
  | inl p ↦ p.0 ∙ is ∙ ap spelling p.1
  | inr r ↦ h r
]

pub keyword_is : (w : List ℕ) (k : Keyword) → keyword_of w ≡ Some k → w ≡ spelling k
unfolding keyword_of spelling
keyword_is w k e =
    at_word w (codes "call") words.Call k _ refl e (λ e1.
    at_word w (codes "system") words.System k _ refl e1 (λ e2.
    at_word w (codes "true") words.True k _ refl e2 (λ e3.
    at_word w (codes "false") words.False k _ refl e3 (λ e4.
    at_word w (codes "null") words.Null k _ refl e4 (λ e5.
    at_word w (codes "timestamp") words.Timestamp k _ refl e5 (λ e6.
    at_word w (codes "map") words.Map k _ refl e6 (λ e7.
    at_word w (codes "array") words.Array k _ refl e7 (λ e8. absurd (none-some k e8)))))))))

lower-spelling : (k : Keyword) → lower (spelling k) ≡ spelling k
unfolding spelling
lower-spelling words.Call = refl
lower-spelling words.System = refl
lower-spelling words.True = refl
lower-spelling words.False = refl
lower-spelling words.Null = refl
lower-spelling words.Timestamp = refl
lower-spelling words.Map = refl
lower-spelling words.Array = refl

pub word_test : (r : Bool) (w s : List ℕ) (k : Keyword) → s ≡ spelling k → IsTrue r ↔ (lower w ≡ lower s) → r ≡ is_keyword k w
word_test r w s k is h = same_from_decides r (is_keyword k w) (Decides-like r (λ e. e ∙ ap lower is ∙ lower-spelling k) (λ e. e ∙ sym (ap lower is ∙ lower-spelling k)) (h.0, h.1)) (bytes_eq-Decides (lower w) (spelling k))

pub word_from : (w : List ℕ) (k : Keyword) → lower w ≡ spelling k → is_keyword k w ≡ true
word_from w k e = (bytes_eq-Decides (lower w) (spelling k)).1 e

pub word_is : (w : List ℕ) (k : Keyword) → is_keyword k w ≡ true → lower w ≡ spelling k
word_is w k e = (bytes_eq-Decides (lower w) (spelling k)).0 e
