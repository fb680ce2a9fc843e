-- Where the last slash of a path stands.
use Rattle.std.proofs.Common.{◌≡◌, ℕ, ◌-◌, List, [], ◌∷◌, ◌++◌, inl, inr, take, drop, sym, ap, ◌∙◌, subst, arith, take-append-drop, ◌==◌}
use Rattle.std.proofs.lemmas.Str.Pattern.{NoCharPasses-char, drop_at_char}
use Rattle.std.specs.Str.{NoCharPasses}
use Rattle.std.specs.Str.Pattern.{RFindsChar, SplitsAroundMatch}
use Rattle.store_directory.specs.Paths.{HasNoSlash, or_root, IsParent}

pub no_slash : (bs : List ℕ) → NoCharPasses (λ d. d == 47) bs → HasNoSlash bs
no_slash bs none i lt = NoCharPasses-char 47 bs i none (omega arith) lt

pub parent_split : (bs before name dir : List ℕ) → SplitsAroundMatch (RFindsChar 47) bs before name → dir ≡ or_root before → IsParent bs dir
parent_split bs before name dir h folder =
    let i = h.0 in
    let j = h.1 in
    let rest : drop i bs ≡ 47 ∷ drop j bs = drop_at_char 47 bs i j h.2.1 (omega arith) in
    inl (record {
      before = before;
      name = name;
      is = sym (take-append-drop i bs) ∙ ap (λ (l : List ℕ). take i bs ++ l) rest ∙ sym (λ k. h.3 k ++ 47 ∷ h.4 k);
      last = subst HasNoSlash (sym h.4) (no_slash (drop j bs) h.2.0);
      folder = folder;
    })

pub parent_none : (bs dir : List ℕ) → NoCharPasses (λ d. d == 47) bs → dir ≡ 47 ∷ [] → IsParent bs dir
parent_none bs dir none root = inr (no_slash bs none, root)
