-- The loop over a text's tokens.
use Rattle.std.proofs.Common.{◌≡◌, ℕ, ◌+◌, ◌<◌, ◌≤◌, List, [], ◌∷◌, ◌++◌, length, Some, None, refl, sym, ◌∙◌, ap, subst, arith}
use Rattle.std.specs.Prelude.{option_and_then}
use Rattle.std.specs.Option.{option_map}
use Rattle.std.specs.List.{position_or_len}
use Rattle.std.proofs.lemmas.List.{length-drop}
use Rattle.std.proofs.lemmas.Option.{same_Some, option_and_then_some}
use Rattle.call_text.specs.declared.token.Token.{Token}
use Rattle.call_text.specs.Cutting.{token_of}
use Rattle.call_text.specs.Spelling.{IsFirstToken}
use Rattle.call_text.proofs.Spelled.{first_token, token_first}
use Rattle.call_text.proofs.Shorter.{token_shorter, mapped}
use Rattle.call_text.specs.declared.call.Call.{Call}
use Rattle.call_text.specs.declared.state.State.{State}
use Rattle.call_text.specs.declared.state.State.TheVariants as states
use Rattle.call_text.specs.Grammar.{Begins}
use Rattle.call_text.specs.Steps.{state_step, token_step, run, finished}
use Rattle.call_text.specs.Statement.{is_no_blank, past_blanks, CutsFrom, Cuts, Spells, IsFault}
use Rattle.call_text.proofs.StateLaws.{sound}
use Rattle.call_text.proofs.Complete.{complete, begins, begun, run-append}

pub record Reached (bytes : List ℕ) (s : State) (rest : List ℕ) : Type 0 where
  pub tokens : List Token
  pub cut : Cuts bytes tokens rest
  pub runs : run states.Start tokens ≡ Some s
  pub within : length rest ≤ length bytes

past_shorter : (bytes : List ℕ) → length (past_blanks bytes) ≤ length bytes
unfolding past_blanks
past_shorter bytes = omega (arith, length-drop (position_or_len is_no_blank bytes) bytes)

pub begin_reached : (bytes rest : List ℕ) → rest ≡ past_blanks bytes → Reached bytes states.Start rest
unfolding run
begin_reached bytes rest e = record { tokens = []; cut = sym e; runs = refl; within = rw e (past_shorter bytes) }

cuts_push : (ts : List Token) (bytes : List ℕ) (t : Token) (rest after : List ℕ) → CutsFrom bytes ts rest → IsFirstToken rest t after → CutsFrom bytes (ts ++ t ∷ []) (past_blanks after)
cuts_push [] bytes t rest after h e = (after, subst (λ x. IsFirstToken x t after) (sym h) e, refl)
cuts_push (u ∷ ts) bytes t rest after h e = (h.0, h.1, cuts_push ts (past_blanks h.0) t rest after h.2 e)

run_push : (ts : List Token) (t : Token) (s n : State) → run states.Start ts ≡ Some s → state_step s t ≡ Some n → run states.Start (ts ++ t ∷ []) ≡ Some n
unfolding run
run_push ts t s n e k = run-append ts (t ∷ []) states.Start ∙ ap (option_and_then (λ x. run x (t ∷ []))) e ∙ ap (option_and_then (λ x. run x [])) k

-- the parts of a step
record Steps (s : State) (rest : List ℕ) (n : State) (next : List ℕ) : Type 0 where
  token : Token
  after : List ℕ
  token_is : token_of rest ≡ Some (token, after)
  state_is : state_step s token ≡ Some n
  next_is : past_blanks after ≡ next

steps : (s : State) (rest : List ℕ) (n : State) (next : List ℕ) → token_step s rest ≡ Some (n, next) → Steps s rest n next
steps s rest n next e =
    option_and_then_some (λ x. option_map (λ (m : State). (m, past_blanks x.1)) (state_step s x.0)) (token_of rest) (n, next) e (λ x is e'.
    let m = mapped (λ (m : State). (m, past_blanks x.1)) (state_step s x.0) (n, next) e' in
    record {
      token = x.0;
      after = x.1;
      token_is = is;
      state_is = m.1 ∙ ap (λ (k : State). Some k) (ap (λ (p : State × List ℕ). p.0) m.2);
      next_is = ap (λ (p : State × List ℕ). p.1) m.2;
    })

pub step_shorter : (s : State) (rest : List ℕ) (n : State) (next : List ℕ) → token_step s rest ≡ Some (n, next) → length next < length rest
step_shorter s rest n next e =
    let k = steps s rest n next e in
    omega (arith, token_shorter rest (k.token, k.after) k.token_is, past_shorter k.after, ap length k.next_is)

pub step_reached : (bytes : List ℕ) (s : State) (rest : List ℕ) (n : State) (next : List ℕ) → Reached bytes s rest → token_step s rest ≡ Some (n, next) → Reached bytes n next
step_reached bytes s rest n next h e =
    let k = steps s rest n next e in
    record {
      tokens = h.tokens ++ k.token ∷ [];
      cut = subst (λ x. Cuts bytes (h.tokens ++ k.token ∷ []) x) k.next_is (cuts_push h.tokens (past_blanks bytes) k.token rest k.after h.cut (first_token rest k.token k.after k.token_is));
      runs = run_push h.tokens k.token s n h.runs k.state_is;
      within = omega (arith, h.within, step_shorter s rest n next e);
    }

no_token : (s : State) (ts : List Token) (rest : List ℕ) (t : Token) (after : List ℕ) → run states.Start ts ≡ Some s → token_step s rest ≡ None → token_of rest ≡ Some (t, after) → Begins (ts ++ t ∷ []) → ⊥
unfolding run
no_token s ts rest t after r none is b =
    let f = begun (ts ++ t ∷ []) b in
    let one : option_and_then (λ x. run x []) (state_step s t) ≡ Some f.0 = sym (run-append ts (t ∷ []) states.Start ∙ ap (option_and_then (λ x. run x (t ∷ []))) r) ∙ f.1 in
    option_and_then_some (λ x. run x []) (state_step s t) f.0 one (λ n step _.
    let some : token_step s rest ≡ Some (n, past_blanks after) = ap (option_and_then (λ (x : Token × List ℕ). option_map (λ (m : State). (m, past_blanks x.1)) (state_step s x.0))) is ∙ ap (option_map (λ (m : State). (m, past_blanks after))) step in
    absurd (cc (none, some)))

pub no_step : (bytes : List ℕ) (s : State) (rest : List ℕ) (at : ℕ) → Reached bytes s rest → 0 < length rest → at + length rest ≡ length bytes → token_step s rest ≡ None → IsFault bytes at
no_step bytes s [] at h some place e = absurd (omega arith)
no_step bytes s (b ∷ bs) at h some place e = record {
  tokens = h.tokens;
  rest = b ∷ bs;
  cut = h.cut;
  begins = begins h.tokens s h.runs;
  fails = λ t after is more. no_token s h.tokens (b ∷ bs) t after h.runs e (token_first (b ∷ bs) t after is) more;
  place = place;
}

same_state : (s n : State) (c : Call) → Some s ≡ Some n → finished s ≡ None → finished n ≡ Some c → ⊥
same_state s n c e none some = absurd (cc (ap finished (same_Some s n e), none, some))

pub no_end : (bytes : List ℕ) (s : State) (rest : List ℕ) (at : ℕ) → Reached bytes s rest → length rest ≡ 0 → at ≡ length bytes → finished s ≡ None → IsFault bytes at
no_end bytes s [] at h none place e = record {
  tokens = h.tokens;
  rest = [];
  cut = h.cut;
  begins = begins h.tokens s h.runs;
  fails = λ c is. let f = complete h.tokens c is in same_state s f.last c (sym h.runs ∙ f.runs) e f.is;
  place = omega (arith, place);
}
no_end bytes s (b ∷ bs) at h none place e = absurd (omega arith)

pub at_end : (bytes : List ℕ) (s : State) (rest : List ℕ) (c : Call) → Reached bytes s rest → length rest ≡ 0 → finished s ≡ Some c → Spells bytes c
at_end bytes s [] c h none e = record { tokens = h.tokens; cut = h.cut; is_statement = sound h.tokens s c h.runs e }
at_end bytes s (b ∷ bs) c h none e = absurd (omega arith)
