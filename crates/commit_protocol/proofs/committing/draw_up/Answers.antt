use Rattle.std.proofs.Common.{◌≡◌, ◌<◌, ◌≤◌, ℕ, length, List, refl, ap, ◌∙◌, subst, arith}
use Rattle.ice_store.specs.Places.{place_in}
use Rattle.serde_json.specs.View.{view}
use Rattle.metadata_view.specs.View.{location_of}
use Rattle.commit_versions.specs.Opening.{file_limit}
use Rattle.commit_protocol.specs.Written.{next_tree}
use Rattle.commit_protocol.proofs.CommitLaws as laws
use Rattle.commit_protocol.proofs.committing.draw_up.Goals as goal

pub returns-then-len-gt-FILE_LIMIT-clause-err : goal.returns-then-len-gt-FILE_LIMIT-clause-err
returns-then-len-gt-FILE_LIMIT-clause-err c =
    let long : file_limit < length c.in_ok-bytes.bytes = omega (arith, c.len.ensures, c.if-len-gt-FILE_LIMIT.true) in
    (refl, c.in_ok-draft.ensures.place, subst (λ (b : List ℕ). file_limit < length b) c.in_ok-bytes.ensures.text long)

pub returns-clause-ok : goal.returns-clause-ok
returns-clause-ok c =
    let base = c.args.base in
    let built = view c.args.meta in
    let location : location_of (next_tree base built c.args.now) ≡ location_of built = laws.location_next base.previous c.args.now built in
    let short : length c.in_ok-bytes.bytes ≤ file_limit = omega (arith, c.len.ensures, c.if-len-gt-FILE_LIMIT.false) in
    record {
      table_is = c.in_ok-route.ensures.table;
      base_is = c.in_ok-route.ensures.base;
      text_is = c.in_ok-route.ensures.text;
      draft_is = c.in_ok-route.ensures.draft ∙ c.in_ok-draft.ensures.place;
      target_is = c.in_ok-route.ensures.target;
      aim = c.in_ok-route.ensures.aim;
      written = c.in_ok-bytes.ensures.text;
      spells = record { spells = c.in_ok-bytes.ensures.spells; here = ap place_in location ∙ c.requires.here };
      short = short;
    }
