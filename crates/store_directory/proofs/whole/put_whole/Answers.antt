use Rattle.std.proofs.Common.{length, sym, subst, le_refl}
use Rattle.std.proofs.lemmas.List.{take_all}
use Rattle.std.proofs.KnownBytes.{Appends-kept}
use Rattle.std.specs.Io.KnownBytes.{Appends}
use Rattle.store_directory.proofs.whole.put_whole.Goals as goal

pub returns-in-Ok : goal.returns-in-Ok
returns-in-Ok g c = Appends-kept _ _ _ _ c.in_ok-write_whole.ensures c.in-Ok.ensures.bytes

pub returns-in-Err : goal.returns-in-Err
returns-in-Err g c =
    let bytes = c.args.bytes.now in
    (length bytes, subst (Appends _ _) (sym (take_all (length bytes) bytes (le_refl _))) (Appends-kept _ _ _ _ c.in_ok-write_whole.ensures c.in-Err.ensures.bytes))
