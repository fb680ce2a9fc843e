use Rattle.std.proofs.Common.{◌<◌, List, [], ◌∷◌, map, subst, sym, arith, codes, IsSomeAnd, IfSome, ◌≡◌, ℕ, zero, suc}
use Rattle.std.specs.List.{IsDistinct, All, AllByRecursion}
use Rattle.std.specs.Str.{IsUtf8, bytes_eq}
use Rattle.avro_container.specs.Container.{Pair, value_of}
use Rattle.avro_container.proofs.HeaderWritten.{ascii_is_text}
use Rattle.avro_tests.proofs.containers.container_of_two_longs.Goals as goal

text : List ℕ
text = 34 ∷ 108 ∷ 111 ∷ 110 ∷ 103 ∷ 34 ∷ []

alone : List Pair
alone = (codes "avro.schema", text) ∷ []

pub write_header-requires-clause-keys : goal.write_header-requires-clause-keys
unfolding alone text IsDistinct
write_header-requires-clause-keys g c = subst (λ m. IsDistinct bytes_eq (map (λ e. e.0) m)) (sym c.in_ok-meta.ensures) (tt, tt)

pub write_header-requires-clause-schema : goal.write_header-requires-clause-schema
unfolding alone text
write_header-requires-clause-schema g c =
    let few : AllByRecursion (λ b. b < 128) text = (omega arith, (omega arith, (omega arith, (omega arith, (omega arith, (omega arith, tt)))))) in
    let is : IsSomeAnd (value_of (codes "avro.schema") alone) IsUtf8 = ascii_is_text text few in
    subst (λ m. IsSomeAnd (value_of (codes "avro.schema") m) IsUtf8) (sym c.in_ok-meta.ensures) is

pub write_header-requires-clause-codec : goal.write_header-requires-clause-codec
unfolding alone text
write_header-requires-clause-codec g c =
    let none : IfSome (value_of (codes "avro.codec") alone) (λ x. x ≡ codes "null") = tt in
    subst (λ m. IfSome (value_of (codes "avro.codec") m) (λ x. x ≡ codes "null")) (sym c.in_ok-meta.ensures) none

texts : All (λ e. IsUtf8 e.0) alone
unfolding alone text
texts zero d within =
    let few : AllByRecursion (λ b. b < 128) (codes "avro.schema") = (omega arith, (omega arith, (omega arith, (omega arith, (omega arith, (omega arith, (omega arith, (omega arith, (omega arith, (omega arith, (omega arith, tt))))))))))) in
    ascii_is_text (codes "avro.schema") few
texts (suc k) d within = absurd (omega arith)

pub write_header-requires-clause-utf8 : goal.write_header-requires-clause-utf8
unfolding alone text
write_header-requires-clause-utf8 g c = subst (λ m. All (λ e. IsUtf8 e.0) m) (sym c.in_ok-meta.ensures) texts
