use Rattle.std.proofs.Common.{◌≡◌, ◌∙◌, true, false, true≢false, is_some, string_bytes, bytes_eq, List, sym, ap}
use Rattle.std.proofs.lemmas.Slice.Eq.{bytes_eq-Decides}
use Rattle.serde_json.specs.Find.{get_member}
use Rattle.serde_json.specs.View.{members_view}
use Rattle.serde_json.proofs.Views.{Entry, member_here, member_later}
use Rattle.run_refs.proofs.look.has_member.Goals as goal

pub returns-then-eq-clause-value : goal.returns-then-eq-clause-value
returns-then-eq-clause-value c =
    let name = c.args.name.now in
    let test : bytes_eq name (string_bytes c.in-Some.key.now) ≡ true = cc in
    let here = member_here name (c.in-Some.key.now, c.in-Some._value.now) c.next.new.self ((bytes_eq-Decides name (string_bytes c.in-Some.key.now)).0 test) in
    let all : get_member name (members_view c.loop-key.key-iterator) ≡ get_member name (members_view c.args.members.now.entries) = c.loop-key.invariant in
    sym (ap (λ o. is_some o) (sym all ∙ ap (λ (es : List Entry). get_member name (members_view es)) c.in-Some.ensures.steps ∙ here))

pub loop-key-preserved : goal.loop-key-preserved
loop-key-preserved c =
    let name = c.args.name.now in
    let test : bytes_eq name (string_bytes c.in-Some.key.now) ≡ false = cc in
    let other = λ (same : name ≡ string_bytes c.in-Some.key.now). true≢false (sym ((bytes_eq-Decides name (string_bytes c.in-Some.key.now)).1 same) ∙ test) in
    let later = member_later name (c.in-Some.key.now, c.in-Some._value.now) c.next.new.self other in
    let all : get_member name (members_view c.loop-key.key-iterator) ≡ get_member name (members_view c.args.members.now.entries) = c.loop-key.invariant in
    sym later ∙ sym (ap (λ (es : List Entry). get_member name (members_view es)) c.in-Some.ensures.steps) ∙ all
