use Rattle.std.proofs.Common.{◌≡◌, ◌∙◌, ℕ, ℤ, true≢false, List, Some, sym, ap, subst, FitsSigned, w64, to_z, of_z, rules}
use Rattle.std.proofs.lemmas.Int.{to_z-of_z}
use Rattle.std.specs.Prelude.{IsSome}
use Rattle.serde_json.specs.View.{view}
use Rattle.table_metadata.specs.Edits.{with_ref}
use Rattle.metadata_view.specs.View.{snapshots_of}
use Rattle.metadata_view.specs.Walk.{snapshot_with}
use Rattle.run_refs.specs.Moves.{Aim, Aims}
use Rattle.run_refs.specs.Refs.{goal_ref, ref_at}
use Rattle.run_refs.proofs.AimLaws.{known, moves_to}
use Rattle.run_refs.proofs.moves.move_on.Goals as goal

pub into_with_ref-requires-clause-known : goal.into_with_ref-requires-clause-known
into_with_ref-requires-clause-known c =
    let wish = c.args.goal.now in
    let tree = view c.args.meta in
    let id = c.in-Ok.id in
    let fits : FitsSigned w64 id = search rules in
    let aims = subst (λ (x : Aim). Aims wish tree x) c.in-Ok.is c.in_ok-id.ensures.aim in
    subst (λ (z : ℤ). IsSome (snapshot_with (snapshots_of tree) z)) (sym (to_z-of_z w64 id fits)) (known wish tree id aims)

pub returns-clause-built : goal.returns-clause-built
returns-clause-built c =
    let wish = c.args.goal.now in
    let tree = view c.args.meta in
    let id = c.in-Ok.id in
    let fits : FitsSigned w64 id = search rules in
    let same = to_z-of_z w64 id fits in
    let aims = subst (λ (x : Aim). Aims wish tree x) c.in-Ok.is c.in_ok-id.ensures.aim in
    let named : c.in_ok-name.name ≡ goal_ref wish = c.in_ok-name.ensures in
    let was : c.ref_at-previous.result ≡ ref_at (goal_ref wish) tree = c.ref_at-previous.ensures ∙ ap (λ (n : List ℕ). ref_at n tree) named in
    let away = λ (h : ref_at (goal_ref wish) tree ≡ Some id).
    true≢false (sym (c.is_at.ensures.1 (was ∙ h ∙ ap (λ (z : ℤ). Some z) (sym same))) ∙ c.if-is_at.false) in
    let is : view c.in_ok-built.built ≡ with_ref (goal_ref wish) id c.args.now tree =
    c.in_ok-built.ensures ∙ ap (λ (n : List ℕ). with_ref n (to_z w64 (of_z w64 id)) c.args.now tree) named ∙ ap (λ (z : ℤ). with_ref (goal_ref wish) z c.args.now tree) same in
    moves_to wish c.args.now tree (view c.in_ok-built.built) id aims away is
