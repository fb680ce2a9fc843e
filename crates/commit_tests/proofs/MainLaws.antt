-- Metadata with `main` set stays the table's.
use Rattle.std.proofs.Common.{◌≡◌, ℕ, ℤ, [], codes, Option, option_map, option_and_then, unwrap_or, sym, ap, subst}
use Rattle.std.specs.Prelude.{IsSome}
use Rattle.serde_json.specs.Data.{Data}
use Rattle.serde_json.specs.Find.{get, get_member, as_str}
use Rattle.metadata_json.specs.Fields.{members_in}
use Rattle.metadata_view.specs.View.{property_of, text_in}
use Rattle.table_metadata.specs.Edits.{with_ref, version_limit, limit_in}
use Rattle.table_metadata.proofs.EditLaws.{stays-with_ref}
use Rattle.commit_protocol.specs.Attempts.{StaysTable}

same_limit : (d e : Data) → get (codes "properties") e ≡ get (codes "properties") d → version_limit e ≡ version_limit d
unfolding version_limit property_of
same_limit d e same = ap (λ (o : Option Data). limit_in (option_map text_in (get_member (codes "write.metadata.previous-versions-max") (members_in o)))) same

pub stays_table : (id : ℤ) (now : ℕ) (d : Data) → StaysTable d (with_ref (codes "main") id now d)
stays_table id now d =
    let kept = stays-with_ref (codes "main") id now d in
    record {
      location = ap (λ (o : Option Data). unwrap_or (option_and_then as_str o) []) (kept (codes "location") (λ e. absurd (cc (e))) (λ e. absurd (cc (e))) (λ e. absurd (cc (e))));
      limit = λ h. subst (λ (o : Option ℕ). IsSome o) (sym (same_limit d (with_ref (codes "main") id now d) (kept (codes "properties") (λ e. absurd (cc (e))) (λ e. absurd (cc (e))) (λ e. absurd (cc (e)))))) h;
    }
