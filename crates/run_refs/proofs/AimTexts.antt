-- Names of refs are UTF-8.
use Rattle.std.proofs.Common.{codes, Result, Ok, Err, IsUtf8, refl}
use Rattle.std.specs.Prelude.{IfOk, OnOk}
use Rattle.run_refs.specs.Moves.{Aim}

pub main_utf8 : IsUtf8 (codes "main")
unfolding lib.Utf8.encode
main_utf8 = (codes "main", (refl, refl))

pub on_ok : (x : Aim) (P : Type 0) → P → OnOk x P
on_ok (Ok id) P p = p
on_ok (Err e) P p = tt

pub on_both : {E : Type 0} (x : Result Aim E) (P : Type 0) → P → IfOk x (λ aim. OnOk aim P)
on_both (Ok aim) P p = on_ok aim P p
on_both (Err e) P p = tt
