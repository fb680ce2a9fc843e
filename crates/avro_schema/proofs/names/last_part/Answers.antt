use Rattle.std.proofs.Common.{Some, None, sym, ap, ◌∙◌, lit<, rules}
use Rattle.std.proofs.lemmas.Str.Pattern.{split_parts}
use Rattle.avro_schema.specs.Names.{last_part}
use Rattle.avro_schema.proofs.NameLaws.{last_part-dot, last_part-plain}
use Rattle.avro_schema.proofs.names.last_part.Goals as goal

pub loop-after-preserved : goal.loop-after-preserved
loop-after-preserved c =
    let parts = split_parts 46 c.loop-after.rest.now (Some (c.in-Some.field-0-0, c.in-Some.after)) c.in-Some.ensures.cases (lit< tt) in
    (search rules, sym (ap last_part parts.0 ∙ last_part-dot c.in-Some.field-0-0.now c.in-Some.after.now) ∙ c.loop-after.invariant.1)

pub returns : goal.returns
returns c =
    let none = split_parts 46 c.loop-after.rest.now None c.in_default.ensures.cases (lit< tt) in
    sym (last_part-plain c.loop-after.rest.now none) ∙ c.loop-after.invariant.1
