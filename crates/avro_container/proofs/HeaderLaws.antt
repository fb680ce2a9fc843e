-- What is read is a header, and a header is read.
use Rattle.std.proofs.Common.{◌≡◌, ℕ, List, ◌++◌, length, take, drop, map, Result, Ok, Err, refl, sym, ap, ◌∙◌, append_assoc, cond, true, false, subst, IfOk, codes}
use Rattle.std.proofs.lemmas.List.{take-append-drop, append_cancel_right}
use Rattle.std.specs.Str.{bytes_eq}
use Rattle.std.proofs.lemmas.Slice.Eq.{bytes_eq-Decides}
use Rattle.avro_container.specs.declared.fault.ContainerCause.{ContainerCause}
use Rattle.avro_container.specs.declared.fault.ContainerCause.TheVariants.{Short, BadMagic}
use Rattle.avro_container.specs.declared.fault.ContainerErr.{ContainerErr}
use Rattle.avro_container.specs.declared.fault.ContainerErr.TheVariants as errors
use Rattle.avro_container.specs.declared.header.Header.{Header}
use Rattle.avro_container.specs.Spelling.{Fronts}
use Rattle.avro_container.specs.Reading.{Read, ◌>>=◌, bytes_at}
use Rattle.avro_container.specs.Container.{magic, Pair, SpellsMeta, SpellsHeader, IsHeaderOf, NoHeader, HeadersAreApart, value_of}
use Rattle.avro_container.specs.ContainerReading.{causes, magic_at, entries_at, schema_of, pair_of, header_at, Said, OnFault, GivesHeader}
use Rattle.avro_container.proofs.Binding.{same_value, same_rest, bind_ok, clash}
use Rattle.avro_container.proofs.Found.{bytes_found}
use Rattle.avro_container.proofs.Again.{bytes_again}
use Rattle.avro_container.proofs.MetaLaws.{Says, meta_found, meta_again, schema_found, schema_again}

magic_found : (bytes : List ℕ) (u : Unit {0}) (rest : List ℕ) → magic_at bytes ≡ Ok (u, rest) → bytes ≡ magic ++ rest
unfolding magic_at
magic_found bytes u rest e =
    elim (bytes_eq (take 4 bytes) magic) as (λ t. bytes_eq (take 4 bytes) magic ≡ t
    → ◌≡◌ {A = Read ContainerCause (Unit {0})} (cond t (Ok (tt, drop 4 bytes)) (cond (bytes_eq bytes (take (length bytes) magic)) (Err (Short, 0)) (Err (BadMagic, length bytes)))) (Ok (u, rest)) → bytes ≡ magic ++ rest) [
      | true ↦ λ t e. (sym (take-append-drop 4 bytes) ∙ ap (λ x. x ++ drop 4 bytes) ((bytes_eq-Decides _ _).0 t) ∙ ap (λ r. magic ++ r) (same_rest e))
      | false ↦ λ t e. elim (bytes_eq bytes (take (length bytes) magic)) as (λ s. ◌≡◌ {A = Read ContainerCause (Unit {0})} (cond s (Err (Short, 0)) (Err (BadMagic, length bytes))) (Ok (u, rest)) → bytes ≡ magic ++ rest) [ true ↦ λ e. absurd cc | false ↦ λ e. absurd cc ] e
    ] refl e

magic_again : (rest : List ℕ) → magic_at (magic ++ rest) ≡ Ok (tt, rest)
unfolding magic_at
magic_again rest = refl

-- the reading of what follows the magic bytes, of what follows the metadata, and of the marker
marked : List ℕ → List Pair → List ℕ → Read ContainerCause Said
marked text meta bytes = bytes_at causes 16 bytes >>= λ s. Ok ((text, meta, s.0), s.1)

behind_magic : ℕ → List ℕ → Read ContainerCause Said
behind_magic n bytes = entries_at n bytes >>= λ e. schema_of n e.0 >>= λ text. marked text (map pair_of e.0) e.1

pub header_found : (bytes text : List ℕ) (meta : List Pair) (sync rest : List ℕ) → header_at bytes ≡ Ok ((text, meta, sync), rest) → Fronts (SpellsHeader text meta sync) bytes rest
unfolding header_at behind_magic marked
header_found bytes text meta sync rest e =
    let n = length bytes in
    let m = bind_ok (magic_at bytes) (λ m. behind_magic n m.1) ((text, meta, sync), rest) e in
    let p = bind_ok (entries_at n m.0.1) (λ e. schema_of n e.0 >>= λ text. marked text (map pair_of e.0) e.1) ((text, meta, sync), rest) m.2 in
    let t = bind_ok (schema_of n p.0.0) (λ text. marked text (map pair_of p.0.0) p.0.1) ((text, meta, sync), rest) p.2 in
    let s = bind_ok (bytes_at causes 16 p.0.1) (λ s. Ok ((t.0, map pair_of p.0.0, s.0), s.1)) ((text, meta, sync), rest) t.2 in
    let front = magic_found bytes m.0.0 m.0.1 m.1 in
    let middle = meta_found n m.0.1 p.0.0 p.0.1 p.1 in
    let says = schema_found n p.0.0 t.0 t.1 in
    let last = bytes_found causes 16 p.0.1 s.0.0 s.0.1 s.1 in
    let said : (t.0, map pair_of p.0.0, s.0.0) ≡ (text, meta, sync) = same_value s.2 in
    let texts : t.0 ≡ text = ap (λ x. x.0) said in
    let pairs : map pair_of p.0.0 ≡ meta = ap (λ x. x.1) said in
    let mark : s.0.0 ≡ sync = ap (λ x. x.2) said in
    let told : Says (value_of (codes "avro.codec") meta) (value_of (codes "avro.schema") meta) text =
    subst (λ x. Says (value_of (codes "avro.codec") meta) (value_of (codes "avro.schema") meta) x) texts (subst (λ es. Says (value_of (codes "avro.codec") es) (value_of (codes "avro.schema") es) t.0) pairs says) in
    record {
      front = magic ++ (middle.front ++ sync);
      spells = record {
        middle = middle.front;
        map = subst (λ es. SpellsMeta es middle.front) pairs middle.spells;
        codec = told.codec;
        text = told.text;
        utf8 = told.utf8;
        marker = ap length (sym mark) ∙ last.1;
        is = refl;
      };
      is = front ∙ ap (λ r. magic ++ r) (middle.is ∙ ap (λ r. middle.front ++ r) (last.0 ∙ ap (λ x. x ++ s.0.1) mark ∙ ap (λ r. sync ++ r) (same_rest s.2)))
          ∙ ap (λ r. magic ++ r) (sym (append_assoc middle.front sync rest));
    }

pub header_again : (text : List ℕ) (meta : List Pair) (sync front rest : List ℕ) → SpellsHeader text meta sync front → header_at (front ++ rest) ≡ Ok ((text, meta, sync), rest)
unfolding header_at behind_magic marked
header_again text meta sync front rest s =
    let n = length (front ++ rest) in
    let regroup : front ++ rest ≡ magic ++ (s.middle ++ (sync ++ rest)) = ap (λ x. x ++ rest) s.is ∙ ap (λ r. magic ++ r) (append_assoc s.middle sync rest) in
    let read = meta_again n meta s.middle (sync ++ rest) s.map in
    let says : Says (value_of (codes "avro.codec") meta) (value_of (codes "avro.schema") meta) text = record { codec = s.codec; text = s.text; utf8 = s.utf8 } in
    ap (λ b. magic_at b >>= λ m. behind_magic n m.1) regroup
    ∙ ap (λ r. r >>= λ m. behind_magic n m.1) (magic_again (s.middle ++ (sync ++ rest)))
    ∙ ap (λ r. r >>= λ e. schema_of n e.0 >>= λ text. marked text (map pair_of e.0) e.1) read.1
    ∙ ap (λ r. r >>= λ text. marked text (map pair_of read.0) (sync ++ rest)) (schema_again n read.0 meta text read.2 says)
    ∙ ap (λ es. marked text es (sync ++ rest)) read.2
    ∙ ap (λ k. bytes_at causes k (sync ++ rest) >>= λ s. Ok ((text, meta, s.0), s.1)) (sym s.marker)
    ∙ ap (λ r. r >>= λ s. Ok ((text, meta, s.0), s.1)) (bytes_again causes sync rest)

pub is_header : (bytes : List ℕ) (r : Result Header ContainerErr) → GivesHeader bytes r → IfOk r (λ h. IsHeaderOf bytes h.schema_text h.meta h.sync h.end)
is_header bytes (Ok h) g = let found = header_found bytes h.schema_text h.meta h.sync (drop h.end bytes) g.0 in (found.front, found.spells, found.is, g.1)
is_header bytes (Err e) g = tt

pub no_header : (bytes : List ℕ) (r : Result Header ContainerErr) → GivesHeader bytes r → OnFault r (NoHeader bytes)
no_header bytes (Ok h) g = tt
no_header bytes (Err errors.Memory) g = tt
no_header bytes (Err (errors.Bad at cause)) g = λ text meta sync front rest s is. absurd (clash g.0 (ap header_at is ∙ header_again text meta sync front rest s))

pub apart : HeadersAreApart
apart s t v w p q a b x y i j e =
    let both = sym (header_again s v p a x i) ∙ ap header_at e ∙ header_again t w q b y j in
    let rests : x ≡ y = same_rest both in
    let said : (s, v, p) ≡ (t, w, q) = same_value both in
    (append_cancel_right a b x (e ∙ ap (λ r. b ++ r) (sym rests)), ap (λ z. z.0) said, ap (λ z. z.1) said, ap (λ z. z.2) said)
