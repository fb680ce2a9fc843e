use Rattle.std.proofs.Common.{◌≡◌, ◌↔◌, Result, Ok, Err, Option, Some, None, IsOk, is_ok, is_some, refl, ◌∙◌}
use Rattle.uuid.specs.Text.{parsed}
use Rattle.metadata_form.specs.Form.{is_uuid}
use Rattle.metadata_form.proofs.form.is_uuid.Goals as goal

is_ok-if : {A E X : Type 0} (r : Result A E) (o : Option X) → (IsOk r ↔ ((x : X) × (o ≡ Some x))) → is_ok r ≡ is_some o
is_ok-if (Ok a) (Some x) h = refl
is_ok-if (Ok a) None h = let none = h.0 refl in let same = none.1 in absurd (cc)
is_ok-if (Err e) (Some x) h = let wrong = h.1 (x, refl) in absurd (cc)
is_ok-if (Err e) None h = refl

pub returns : goal.returns
unfolding is_uuid
returns c = c.is_ok.ensures.value ∙ is_ok-if c.try_parse.result (parsed c.args.text.now) c.try_parse.ensures.ok
