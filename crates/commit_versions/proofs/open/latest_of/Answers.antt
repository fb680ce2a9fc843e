use Rattle.std.proofs.Common.{◌≡◌, ◌<◌, ◌≤◌, ℕ, length, get_or, slice_get, sym, ap, ◌∙◌, arith, subst}
use Rattle.std.specs.Option.{IsSomeAnd}
use Rattle.ice_store.specs.declared.store.Listed.{Listed}
use Rattle.commit_history.specs.Versions.{number_in}
use Rattle.commit_versions.specs.Opening.{version_limit}
use Rattle.commit_versions.proofs.LatestLaws.{one_more, at_index}
use Rattle.commit_versions.proofs.open.latest_of.Goals.{then-number-best, else-number-best}
use Rattle.commit_versions.proofs.open.latest_of.Goals as goal

pub returns-in_default : goal.returns-in_default
returns-in_default c =
    let P : Listed → Type 0 = λ l. version_limit ≤ number_in c.args.table.now l.place in
    let x = c.index-listed-i.result in
    let here : P (get_or c.args.listed.now c.loop-i.i x) = omega (arith, c.in_default.ensures) in
    (c.loop-i-test.true, at_index P c.args.listed.now c.loop-i.i x c.loop-i-test.true here, omega (arith, c.loop-i.invariant.greatest_is, c.loop-i.invariant.below))

pub returns-then-number-ge-VERSION_LIMIT : goal.returns-then-number-ge-VERSION_LIMIT
returns-then-number-ge-VERSION_LIMIT c =
    let P : Listed → Type 0 = λ l. version_limit ≤ number_in c.args.table.now l.place in
    let x = c.index-listed-i.result in
    let here : P (get_or c.args.listed.now c.loop-i.i x) = omega (arith, c.in-Some.ensures, c.if-number-ge-VERSION_LIMIT.true) in
    (c.loop-i-test.true, at_index P c.args.listed.now c.loop-i.i x c.loop-i-test.true here, omega (arith, c.loop-i.invariant.greatest_is, c.loop-i.invariant.below))

pub loop-i-preserved : goal.loop-i-preserved
loop-i-preserved c =
    let number = number_in c.args.table.now in
    let l = c.args.listed.now in
    let i = c.loop-i.i in
    let x = c.index-listed-i.result in
    let n = c.in-Some.number in
    let inv = c.loop-i.invariant in
    let lt : i < length l = c.loop-i-test.true in
    let more = one_more number l i x lt in
    let is : number (get_or l i x).place ≡ n = sym c.in-Some.ensures in
    elim c.if-number-best.branch [
      | then-number-best w ↦
          let v : c.if-number-best.best.version ≡ n = ap (λ b. b.version) w.best-is in
          let k : c.if-number-best.best.index ≡ i = ap (λ b. b.index) w.best-is in
          record {
            greatest_is = omega (arith, v, more, is, inv.greatest_is, w.if-number-best.true);
            below = omega (arith, v, c.if-number-ge-VERSION_LIMIT.false);
            placed = λ pos. (
              omega (arith, k, lt),
              subst (λ (m : ℕ). IsSomeAnd (slice_get l m) (λ e. number e.place ≡ c.if-number-best.best.version)) (sym k) (at_index (λ e. number e.place ≡ c.if-number-best.best.version) l i x lt (is ∙ sym v)),
            );
          }
      | else-number-best w ↦
          let v : c.if-number-best.best.version ≡ c.loop-i.best.version = ap (λ b. b.version) w.best-is in
          let k : c.if-number-best.best.index ≡ c.loop-i.best.index = ap (λ b. b.index) w.best-is in
          record {
            greatest_is = omega (arith, v, more, is, inv.greatest_is, w.if-number-best.false);
            below = omega (arith, v, inv.below);
            placed = λ pos.
                let there = inv.placed (omega (arith, pos, v)) in (
                  omega (arith, k, there.0),
                  subst (λ (m : ℕ). IsSomeAnd (slice_get l m) (λ e. number e.place ≡ c.if-number-best.best.version)) (sym k)
                      (subst (λ (m : ℕ). IsSomeAnd (slice_get l c.loop-i.best.index) (λ e. number e.place ≡ m)) (sym v) there.1),
                );
          }
    ]
