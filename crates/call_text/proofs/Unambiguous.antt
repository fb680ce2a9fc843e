-- A text spells one call at most, is at fault at one place at most, never both, and always one of the two.
use Rattle.std.proofs.Common.{◌≡◌, ℕ, zero, suc, Option, None, ◌-◌, ◌<◌, ◌≤◌, List, [], ◌∷◌, ◌++◌, length, Some, None, Result, Ok, Err, refl, sym, ◌∙◌, ap, subst, append_assoc, arith, inl, inr}
use Rattle.std.specs.Prelude.{◌⊎◌, IfOk}
use Rattle.std.proofs.lemmas.List.{append-nil}
use Rattle.std.proofs.lemmas.Option.{same_Some}
use Rattle.call_text.specs.declared.token.Token.{Token}
use Rattle.call_text.specs.Cutting.{token_of}
use Rattle.call_text.specs.Spelling.{IsFirstToken}
use Rattle.call_text.proofs.Spelled.{token_first}
use Rattle.call_text.specs.declared.call.Call.{Call}
use Rattle.call_text.specs.declared.error.SyntaxErr.{SyntaxErr}
use Rattle.call_text.specs.declared.error.SyntaxErr.TheVariants as errors
use Rattle.call_text.specs.declared.state.State.{State}
use Rattle.call_text.specs.declared.state.State.TheVariants as states
use Rattle.call_text.specs.Grammar.{IsStatement, Begins}
use Rattle.call_text.specs.Steps.{token_step, run, finished}
use Rattle.call_text.specs.Statement.{past_blanks, CutsFrom, Spells, Fails, IsFault, Answers}
use Rattle.call_text.proofs.Complete.{complete}
use Rattle.call_text.proofs.Reading.{Reached, begin_reached, step_reached, step_shorter, no_step, no_end, at_end}

nothing_cut : (t : Token) (after : List ℕ) → token_of [] ≡ Some (t, after) → ⊥
unfolding token_of
nothing_cut t after e = cc

no_bytes : (t : Token) (after : List ℕ) → IsFirstToken [] t after → ⊥
no_bytes t after h = nothing_cut t after (token_first [] t after h)

-- of two cuts of one text one goes on with the other
record GoesOn (us : List Token) (rest : List ℕ) (ts : List Token) (end : List ℕ) : Type 0 where
  more : List Token
  is : ts ≡ us ++ more
  cut : CutsFrom rest more end

one_or_other : (us ts : List Token) (bytes rest end : List ℕ) → CutsFrom bytes us rest → CutsFrom bytes ts end → GoesOn us rest ts end ⊎ GoesOn ts end us rest
one_or_other [] ts bytes rest end h k = inl (record { more = ts; is = refl; cut = subst (λ x. CutsFrom x ts end) h k })
one_or_other (u ∷ us) [] bytes rest end h k = inr (record { more = u ∷ us; is = refl; cut = subst (λ x. CutsFrom x (u ∷ us) rest) k h })
one_or_other (u ∷ us) (t ∷ ts) bytes rest end h k =
    let same = same_Some (u, h.0) (t, k.0) (sym (token_first bytes u h.0 h.1) ∙ token_first bytes t k.0 k.1) in
    let token : u ≡ t = ap (λ (p : Token × List ℕ). p.0) same in
    let after : h.0 ≡ k.0 = ap (λ (p : Token × List ℕ). p.1) same in
    elim (one_or_other us ts (past_blanks h.0) rest end h.2 (subst (λ x. CutsFrom (past_blanks x) ts end) (sym after) k.2)) [
      | inl g ↦ inl (record { more = g.more; is = cc (token, g.is); cut = g.cut })
      | inr g ↦ inr (record { more = g.more; is = cc (token, g.is); cut = g.cut })
    ]

stop_at : (us ts : List Token) (rest end : List ℕ) (more : List Token) → Fails us rest → Begins ts → ts ≡ us ++ more → CutsFrom rest more end → (ts ≡ us) × (rest ≡ end)
stop_at us ts rest end [] fails b is cut = (is ∙ append-nil us, cut)
stop_at us ts [] end (t ∷ more) fails b is cut = absurd (no_bytes t cut.0 cut.1)
stop_at us ts (x ∷ rest) end (t ∷ more) fails b is cut =
    absurd (fails t cut.0 cut.1 (more ++ b.0, b.1, subst (IsStatement b.1) (ap (λ (y : List Token). y ++ b.0) is ∙ append_assoc us (t ∷ more) b.0 ∙ sym (append_assoc us (t ∷ []) (more ++ b.0))) b.2))

-- nothing goes on behind a place of fault
stops : (us ts : List Token) (rest end : List ℕ) → Fails us rest → Begins ts → GoesOn us rest ts end → (ts ≡ us) × (rest ≡ end)
stops us ts rest end fails b g = stop_at us ts rest end g.more fails b g.is g.cut

whole_begins : (c : Call) (ts : List Token) → IsStatement c ts → Begins ts
whole_begins c ts h = ([], c, subst (IsStatement c) (sym (append-nil ts)) h)

nothing_more : (us : List Token) (ts : List Token) (end : List ℕ) (more : List Token) → ts ≡ us ++ more → CutsFrom [] more end → (ts ≡ us) × ([] ≡ end)
nothing_more us ts end [] is cut = (is ∙ append-nil us, cut)
nothing_more us ts end (t ∷ more) is cut = absurd (no_bytes t cut.0 cut.1)

same_finish : (us ts : List Token) (c d : Call) → us ≡ ts → IsStatement c us → IsStatement d ts → c ≡ d
same_finish us ts c d e h k =
    let f = complete us c h in
    let g = complete ts d k in
    let last : f.last ≡ g.last = same_Some f.last g.last (sym f.runs ∙ ap (run states.Start) e ∙ g.runs) in
    same_Some c d (sym f.is ∙ ap finished last ∙ g.is)

pub one_call : (text : List ℕ) (c d : Call) → Spells text c → Spells text d → c ≡ d
one_call text c d h k = elim (one_or_other h.tokens k.tokens (past_blanks text) [] [] h.cut k.cut) [
  | inl g ↦ same_finish h.tokens k.tokens c d (sym (nothing_more h.tokens k.tokens [] g.more g.is g.cut).0) h.is_statement k.is_statement
  | inr g ↦ same_finish h.tokens k.tokens c d (nothing_more k.tokens h.tokens [] g.more g.is g.cut).0 h.is_statement k.is_statement
]

fails_end : (us ts : List Token) (rest : List ℕ) (c : Call) → us ≡ ts → [] ≡ rest → Fails us rest → IsStatement c ts → ⊥
fails_end us ts rest c e none h is = subst (Fails us) (sym none) h c (subst (IsStatement c) (sym e) is)

pub never_both : (text : List ℕ) (c : Call) (at : ℕ) → Spells text c → IsFault text at → ⊥
never_both text c at h k = elim (one_or_other h.tokens k.tokens (past_blanks text) [] k.rest h.cut k.cut) [
  | inl g ↦ let e = nothing_more h.tokens k.tokens k.rest g.more g.is g.cut in fails_end k.tokens h.tokens k.rest c e.0 e.1 k.fails h.is_statement
  | inr g ↦ let e = stops k.tokens h.tokens k.rest [] k.fails (whole_begins c h.tokens h.is_statement) g in fails_end k.tokens h.tokens k.rest c (sym e.0) (sym e.1) k.fails h.is_statement
]

pub one_place : (text : List ℕ) (a b : ℕ) → IsFault text a → IsFault text b → a ≡ b
one_place text a b h k = elim (one_or_other h.tokens k.tokens (past_blanks text) h.rest k.rest h.cut k.cut) [
  | inl g ↦ let e = ap length (stops h.tokens k.tokens h.rest k.rest h.fails k.begins g).1 in omega (arith, e, h.place, k.place)
  | inr g ↦ let e = ap length (stops k.tokens h.tokens k.rest h.rest k.fails h.begins g).1 in omega (arith, e, h.place, k.place)
]

abbrev pub bad : ℕ → Result Call SyntaxErr
bad at = Err (errors.Bad at)

pub bad_place : (a at : ℕ) (text : List ℕ) → bad a ≡ bad at → IsFault text a → IsFault text at
bad_place a at text e h = let same : a ≡ at = cc in subst (IsFault text) same h

abbrev found : Call → Result Call ℕ
found c = Ok c

abbrev failed : ℕ → Result Call ℕ
failed at = Err at

pub answers_ok : (r : Result Call SyntaxErr) (text : List ℕ) → IfOk r (Spells text) → ((at : ℕ) → r ≡ bad at → IsFault text at) → (c : Call) → Spells text c → Answers r (found c)
answers_ok (Ok d) text ok not_ok c h = ap found (one_call text c d h ok)
answers_ok (Err errors.Memory) text ok not_ok c h = tt
answers_ok (Err (errors.Bad at)) text ok not_ok c h = absurd (never_both text c at h (not_ok at refl))

pub answers_err : (r : Result Call SyntaxErr) (text : List ℕ) → IfOk r (Spells text) → ((at : ℕ) → r ≡ bad at → IsFault text at) → (at : ℕ) → IsFault text at → Answers r (failed at)
answers_err (Ok d) text ok not_ok at h = absurd (never_both text d at ok h)
answers_err (Err errors.Memory) text ok not_ok at h = tt
answers_err (Err (errors.Bad b)) text ok not_ok at h = ap failed (one_place text at b h (not_ok b refl))

-- ---- a text spells a call or is at fault, as the steps through it tell

abbrev Either : List ℕ → Type 0
Either text = ((c : Call) × Spells text c) ⊎ ((at : ℕ) × IsFault text at)

ends_so : (text : List ℕ) (s : State) (o : Option Call) → finished s ≡ o → Reached text s [] → Either text
ends_so text s (Some c) e h = inl (c, at_end text s [] c h refl e)
ends_so text s None e h = inr (length text, no_end text s [] (length text) h refl refl e)

goes_so : (text : List ℕ) (s : State) (rest : List ℕ) (o : Option (State × List ℕ)) → token_step s rest ≡ o → 0 < length rest → Reached text s rest
    → ((n : State) (next : List ℕ) → length next < length rest → Reached text n next → Either text) → Either text
goes_so text s rest None e some h go = inr (length text - length rest, no_step text s rest (length text - length rest) h some (omega (arith, h.within)) e)
goes_so text s rest (Some x) e some h go = go x.0 x.1 (step_shorter s rest x.0 x.1 e) (step_reached text s rest x.0 x.1 h e)

either_from : (most : ℕ) (text : List ℕ) (s : State) (rest : List ℕ) → length rest ≤ most → Reached text s rest → Either text
either_from most text s [] few h = ends_so text s (finished s) refl h
either_from zero text s (b ∷ rest) few h = absurd (omega arith)
either_from (suc most) text s (b ∷ rest) few h =
    goes_so text s (b ∷ rest) (token_step s (b ∷ rest)) refl (omega arith) h (λ n next shorter reached. either_from most text n next (omega arith) reached)

pub one_of_both : (text : List ℕ) → ((c : Call) × Spells text c) ⊎ ((at : ℕ) × IsFault text at)
one_of_both text = either_from (length (past_blanks text)) text states.Start (past_blanks text) (omega arith) (begin_reached text (past_blanks text) refl)
