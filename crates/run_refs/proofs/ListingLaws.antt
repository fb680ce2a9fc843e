-- Each table has one listing.
use Rattle.std.proofs.Common.{◌≡◌, ℤ, List, [], map, Option, Some, None, Ok, Err, sym, ap, ◌∙◌, subst}
use Rattle.serde_json.specs.Data.{Data}
use Rattle.metadata_view.specs.View.{snapshots_of, current_of}
use Rattle.metadata_view.specs.Walk.{next_snapshot}
use Rattle.table_metadata.specs.declared.cause.EditErr.TheVariants.{UnknownSnapshot}
use Rattle.metadata_view.specs.declared.types.Snapshot.{Snapshot}
use Rattle.metadata_view.proofs.WalkLaws.{one_walk}
use Rattle.run_refs.specs.declared.ancestors.Ancestor.{Ancestor}
use Rattle.run_refs.specs.Ancestors.{IsListing, Lists, row_of}

same_rows : (ss : List Snapshot) (from : Option ℤ) (rows others : List Ancestor) → IsListing ss from rows → IsListing ss from others → rows ≡ others
same_rows ss from rows others a b = a.is ∙ ap (map (row_of ss)) (one_walk ss from a.ids b.ids a.walk b.walk) ∙ sym b.is

pub one_listing : (given : Option ℤ) (tree : Data) (rows others : List Ancestor) → Lists given tree (Ok rows) → Lists given tree (Ok others) → rows ≡ others
one_listing None tree rows others a b = same_rows (snapshots_of tree) (current_of tree) rows others a b
one_listing (Some id) tree rows others a b = same_rows (snapshots_of tree) (Some id) rows others a.1 b.1

pub lists_or_lacks : (given : Option ℤ) (tree : Data) (rows : List Ancestor) (id : ℤ) → Lists given tree (Ok rows) → Lists given tree (Err (UnknownSnapshot id)) → ⊥
lists_or_lacks None tree rows id a b = b
lists_or_lacks (Some given) tree rows id a b = let known = a.0 in let lacks = b.1 in absurd (cc)

-- without a current snapshot there are no rows
pub lists_nothing : (given : Option ℤ) (tree : Data) (rows : List Ancestor) → given ≡ None → current_of tree ≡ None → rows ≡ [] → Lists given tree (Ok rows)
unfolding next_snapshot
lists_nothing given tree rows g c r = subst (λ (o : Option ℤ). Lists o tree (Ok rows)) (sym g) (record { ids = []; walk = ap (next_snapshot (snapshots_of tree)) c; is = r })
