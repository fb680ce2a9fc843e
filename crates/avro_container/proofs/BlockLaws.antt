-- What is read is a block, and a block is read.
use Rattle.std.proofs.Common.{◌≡◌, ℕ, ℤ, pos, negsuc, ◌*◌, ◌^◌, ◌≤◌, ◌<◌, List, [], ◌∷◌, ◌++◌, length, drop, zero, suc, Ok, Err, refl, sym, ap, ◌∙◌, append_assoc, arith, subst, cond, true, nat_lt, ltb-false, le-ltb}
use Rattle.std.proofs.lemmas.List.{append_cancel_right}
use Rattle.std.specs.Str.{bytes_eq}
use Rattle.std.proofs.lemmas.Slice.Eq.{bytes_eq-Decides}
use Rattle.avro_container.specs.Long.{SpellsLong, written_long}
use Rattle.avro_container.specs.LongReading.{groups_at, unsigned_at, long_at}
use Rattle.avro_container.proofs.LongWritten.{written_spells}
use Rattle.avro_container.specs.declared.fault.ContainerCause.{ContainerCause}
use Rattle.avro_container.specs.declared.fault.ContainerCause.TheVariants.{Short, BadSync, TooMany, BlockTooLarge}
use Rattle.avro_container.specs.Reading.{Fault, ◌>>=◌, number_at, bytes_at}
use Rattle.avro_container.specs.Container.{SpellsBlock, NoBlockAt, BlocksAreApart, most_items, most_block_bytes}
use Rattle.avro_container.specs.ContainerReading.{causes, bounded, count_at, size_at, marker_at, container_block_at}
use Rattle.avro_container.specs.ContainerWriting.{written_block}
use Rattle.avro_container.proofs.Binding.{same_value, same_rest, bind_ok, guard_ok, pass_ok, clash}
use Rattle.avro_container.proofs.Found.{number_found, bytes_found}
use Rattle.avro_container.proofs.Again.{number_again, bytes_again}

bounded_found : (most left : ℕ) (above : ContainerCause) (n : ℤ × List ℕ) (k : ℕ) (rest : List ℕ) → bounded most above left n ≡ Ok (k, rest) → (n.0 ≡ pos k) × (n.1 ≡ rest) × (k ≤ most)
bounded_found most left above (pos n, r) k rest e =
    let test = guard_ok (nat_lt most n) (above, left) (n, r) (k, rest) e in
    let num : n ≡ k = ap (λ p. p.0) test.1 in
    (ap pos num, ap (λ p. p.1) test.1, subst (λ m. m ≤ most) num (ltb-false most n test.0))
bounded_found most left above (negsuc n, r) k rest e = absurd cc

bounded_front : (most : ℕ) (above : ContainerCause) (bytes : List ℕ) (k : ℕ) (rest : List ℕ) → (number_at causes bytes >>= bounded most above (length bytes)) ≡ Ok (k, rest) → (front : List ℕ) × SpellsLong front (pos k) × (bytes ≡ front ++ rest) × (k ≤ most)
bounded_front most above bytes k rest e =
    let got = bind_ok (number_at causes bytes) (bounded most above (length bytes)) (k, rest) e in
    let parts = bounded_found most (length bytes) above got.0 k rest got.2 in
    let found = number_found causes bytes got.0.0 got.0.1 got.1 in
    (found.front, subst (λ z. SpellsLong found.front z) parts.0 found.spells, found.is ∙ ap (λ r. found.front ++ r) parts.1, parts.2)

marker_front : (sync bytes rest : List ℕ) (u : Unit {0}) → marker_at sync bytes ≡ Ok (u, rest) → bytes ≡ sync ++ rest
unfolding marker_at
marker_front sync bytes rest u e =
    let got = bind_ok (bytes_at causes (length sync) bytes) (λ m. cond (bytes_eq m.0 sync) (Ok (tt, m.1)) (Err (BadSync, length bytes))) (u, rest) e in
    let part = bytes_found causes (length sync) bytes got.0.0 got.0.1 got.1 in
    let test = pass_ok (bytes_eq got.0.0 sync) (BadSync, length bytes) (tt, got.0.1) (u, rest) got.2 in
    part.0 ∙ ap (λ x. x ++ got.0.1) ((bytes_eq-Decides got.0.0 sync).0 test.0) ∙ ap (λ r. sync ++ r) (ap (λ p. p.1) test.1)

pub block_found : (sync bytes : List ℕ) (count : ℕ) (body rest : List ℕ) → container_block_at sync bytes ≡ Ok ((count, body), rest) → (front : List ℕ) × SpellsBlock sync count body front × (bytes ≡ front ++ rest)
unfolding container_block_at count_at size_at
block_found sync bytes count body rest e =
    let n = bind_ok (count_at bytes) (λ n. size_at n.1 >>= λ s. bytes_at causes s.0 s.1 >>= λ b. marker_at sync b.1 >>= λ m. Ok ((n.0, b.0), m.1)) ((count, body), rest) e in
    let s = bind_ok (size_at n.0.1) (λ s. bytes_at causes s.0 s.1 >>= λ b. marker_at sync b.1 >>= λ m. Ok ((n.0.0, b.0), m.1)) ((count, body), rest) n.2 in
    let b = bind_ok (bytes_at causes s.0.0 s.0.1) (λ b. marker_at sync b.1 >>= λ m. Ok ((n.0.0, b.0), m.1)) ((count, body), rest) s.2 in
    let m = bind_ok (marker_at sync b.0.1) (λ m. Ok ((n.0.0, b.0.0), m.1)) ((count, body), rest) b.2 in
    let counts = bounded_front most_items TooMany bytes n.0.0 n.0.1 n.1 in
    let sizes = bounded_front most_block_bytes BlockTooLarge n.0.1 s.0.0 s.0.1 s.1 in
    let part = bytes_found causes s.0.0 s.0.1 b.0.0 b.0.1 b.1 in
    let mark = marker_front sync b.0.1 m.0.1 m.0.0 m.1 in
    let last = same_rest m.2 in
    let number : n.0.0 ≡ count = ap (λ p. p.0) (same_value m.2) in
    let text : b.0.0 ≡ body = ap (λ p. p.1) (same_value m.2) in
    let len : s.0.0 ≡ length body = sym part.1 ∙ ap length text in (
      counts.0 ++ (sizes.0 ++ (body ++ sync)),
      record {
        head = counts.0;
        size = sizes.0;
        counts = subst (λ k. SpellsLong counts.0 (pos k)) number counts.1;
        sizes = subst (λ k. SpellsLong sizes.0 (pos k)) len sizes.1;
        few = subst (λ k. k ≤ most_items) number counts.3;
        small = subst (λ k. k ≤ most_block_bytes) len sizes.3;
        is = refl;
      },
      counts.2 ∙ ap (λ r. counts.0 ++ r) (sizes.2 ∙ ap (λ r. sizes.0 ++ r) (part.0 ∙ ap (λ x. x ++ b.0.1) text ∙ ap (λ r. body ++ r) (mark ∙ ap (λ r. sync ++ r) last)))
          ∙ (simp append_assoc),
    )

bounded_again : (most : ℕ) (above : ContainerCause) (b rest : List ℕ) (k : ℕ) → SpellsLong b (pos k) → k ≤ most → (number_at causes (b ++ rest) >>= bounded most above (length (b ++ rest))) ≡ Ok (k, rest)
bounded_again most above b rest k s h = ap (λ r. r >>= bounded most above (length (b ++ rest))) (number_again causes b rest (pos k) s) ∙ rw (le-ltb most k h) refl

marker_again : (sync rest : List ℕ) → marker_at sync (sync ++ rest) ≡ Ok (tt, rest)
unfolding marker_at
marker_again sync rest =
    let itself : bytes_eq sync sync ≡ true = (bytes_eq-Decides sync sync).1 refl in
    ap (λ r. r >>= λ m. cond (bytes_eq m.0 sync) (Ok (tt, m.1)) (Err (BadSync, length (sync ++ rest)))) (bytes_again causes sync rest) ∙ rw itself refl

pub block_again : (sync : List ℕ) (count : ℕ) (body front rest : List ℕ) → SpellsBlock sync count body front → container_block_at sync (front ++ rest) ≡ Ok ((count, body), rest)
unfolding container_block_at count_at size_at
block_again sync count body front rest s =
    let regroup : front ++ rest ≡ s.head ++ (s.size ++ (body ++ (sync ++ rest))) = ap (λ x. x ++ rest) s.is ∙ simp append_assoc in
    ap (container_block_at sync) regroup
    ∙ ap (λ r. r >>= λ n. size_at n.1 >>= λ s. bytes_at causes s.0 s.1 >>= λ b. marker_at sync b.1 >>= λ m. Ok ((n.0, b.0), m.1)) (bounded_again most_items TooMany s.head (s.size ++ (body ++ (sync ++ rest))) count s.counts s.few)
    ∙ ap (λ r. r >>= λ s. bytes_at causes s.0 s.1 >>= λ b. marker_at sync b.1 >>= λ m. Ok ((count, b.0), m.1)) (bounded_again most_block_bytes BlockTooLarge s.size (body ++ (sync ++ rest)) (length body) s.sizes s.small)
    ∙ ap (λ r. r >>= λ b. marker_at sync b.1 >>= λ m. Ok ((count, b.0), m.1)) (bytes_again causes body (sync ++ rest))
    ∙ ap (λ r. r >>= λ m. Ok ((count, body), m.1)) (marker_again sync rest)

pub no_block : (sync bytes : List ℕ) (at : ℕ) (e : Fault ContainerCause) → container_block_at sync (drop at bytes) ≡ Err e → NoBlockAt sync bytes at
no_block sync bytes at e h = λ count body front rest s is. absurd (clash h (ap (container_block_at sync) is ∙ block_again sync count body front rest s))

-- past the end there is no block
pub block_past : (sync bytes : List ℕ) (at : ℕ) → length bytes < at → container_block_at sync (drop at bytes) ≡ Err (Short, 0)
unfolding container_block_at count_at number_at long_at unsigned_at groups_at
block_past sync bytes at h = ap (container_block_at sync) (nothing at bytes h)
  where
    nothing : (at : ℕ) (bytes : List ℕ) → length bytes < at → drop at bytes ≡ []
    nothing zero bytes h = absurd (omega arith)
    nothing (suc at) [] h = refl
    nothing (suc at) (b ∷ bytes) h = nothing at bytes (omega arith)

pub apart : BlocksAreApart
apart sync m n v w a b x y s t e =
    let both = sym (block_again sync m v a x s) ∙ ap (container_block_at sync) e ∙ block_again sync n w b y t in
    let rests : x ≡ y = same_rest both in
    let said : (m, v) ≡ (n, w) = same_value both in
    (append_cancel_right a b x (e ∙ ap (λ r. b ++ r) (sym rests)), ap (λ p. p.0) said, ap (λ p. p.1) said)

count_written : (n : ℕ) → n ≤ most_block_bytes → SpellsLong (written_long (pos n)) (pos n)
count_written n h = written_spells (pos n) (let fits : 2 * n < 2 ^ 64 = omega arith in fits)

pub block_written : (sync : List ℕ) (count : ℕ) (body : List ℕ) → count ≤ most_items → length body ≤ most_block_bytes → SpellsBlock sync count body (written_block sync count body)
block_written sync count body few small = record {
  head = written_long (pos count);
  size = written_long (pos (length body));
  counts = count_written count (omega arith);
  sizes = count_written (length body) small;
  few = few;
  small = small;
  is = refl;
}
