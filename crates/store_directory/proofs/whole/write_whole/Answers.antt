use Rattle.std.proofs.Common.{◌≡◌, ℕ, ◌-◌, List, ◌++◌, Option, None, Some, length, take, drop, sym, ap, ◌∙◌, subst, append_assoc, take-append-drop, le_refl}
use Rattle.std.proofs.lemmas.List.{take_rest, take-append-le, take_all}
use Rattle.std.specs.Io.KnownBytes.{Appends, Keeps}
use Rattle.std.proofs.KnownBytes.{Appends-trans}
use Rattle.store_directory.proofs.whole.write_whole.Goals as goal

moves_front : (all done rest : List ℕ) (n : ℕ) → all ≡ done ++ rest → all ≡ (done ++ take n rest) ++ take (length rest - n) (drop n rest)
moves_front all done rest n e =
    e ∙ ap (λ l. done ++ l) (sym (take-append-drop n rest)) ∙ sym (append_assoc done (take n rest) (drop n rest)) ∙ ap (λ l. (done ++ take n rest) ++ l) (sym (take_rest rest n))

Appends-kept : (a b c : Option (List ℕ)) (bs : List ℕ) → Appends a b bs → Keeps b c → Appends a c bs
Appends-kept None b c bs p q = tt
Appends-kept (Some x) None c bs p q = absurd p
Appends-kept (Some x) (Some y) None bs p q = absurd q
Appends-kept (Some x) (Some y) (Some z) bs p q = q ∙ p

-- what was taken is a front of all
front_taken : (a b : Option (List ℕ)) (all done rest : List ℕ) → all ≡ done ++ rest → Appends a b done → (n : ℕ) × Appends a b (take n all)
front_taken a b all done rest e h =
    (length done, subst (Appends a b) (sym (ap (take (length done)) e ∙ take-append-le (length done) done rest (le_refl _) ∙ take_all (length done) done (le_refl _))) h)

pub loop-preserved : goal.loop-preserved
loop-preserved g c =
    let (done, split, appended) = c.loop.invariant in
    let rest = c.loop.rest.now in
    let n = c.in-Ok.n in
    (done ++ take n rest, moves_front _ done rest n split, Appends-trans _ _ _ _ _ appended c.in-Ok.ensures.taken)

pub returns-in-Err : goal.returns-in-Err
returns-in-Err g c =
    let (done, split, appended) = c.loop.invariant in
    front_taken _ _ _ done _ split (Appends-kept _ _ _ _ appended c.in-Err.ensures.taken)

pub returns : goal.returns
returns g c =
    let (done, split, appended) = c.loop.invariant in
    front_taken _ _ _ done _ split appended
