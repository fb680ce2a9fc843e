use Rattle.std.proofs.Common.{◌≡◌, ◌∙◌, sym, ap, codes, false, is_some, bytes_eq}
use Rattle.serde_json.specs.Data.{Members, no_members}
use Rattle.serde_json.specs.Find.{get_member}
use Rattle.serde_json.specs.View.{view, members_view}
use Rattle.metadata_json.specs.Fields.{members_at}
use Rattle.run_refs.proofs.RefLaws.{no_ref}
use Rattle.run_refs.proofs.look.may_be_ref.Goals as goal

pub returns-in-Some-clause-none : goal.returns-in-Some-clause-none
returns-in-Some-clause-none c e =
    let name = c.args.name.now in
    let other : bytes_eq name (codes "main") ≡ false = cc in
    let at : members_view c.in-Some.members.now.entries ≡ members_at (codes "refs") (view c.args.meta.now) = cc (c.in-Some.ensures.some) in
    let none = ap (λ (ms : Members). is_some (get_member name ms)) (sym at) ∙ sym c.has_member.ensures.value ∙ e in
    no_ref (view c.args.meta.now) name other none

pub returns-in-None-clause-none : goal.returns-in-None-clause-none
returns-in-None-clause-none c e =
    let name = c.args.name.now in
    let other : bytes_eq name (codes "main") ≡ false = cc in
    let at : members_at (codes "refs") (view c.args.meta.now) ≡ no_members = cc (c.in-None.ensures.none) in
    no_ref (view c.args.meta.now) name other (ap (λ (ms : Members). is_some (get_member name ms)) at)
