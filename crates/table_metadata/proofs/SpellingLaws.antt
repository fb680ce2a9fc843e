-- Bytes that spell no metadata are so for one cause, at one path.
use Rattle.std.proofs.Common.{◌≡◌, inl, inr, ℕ, List, Some, sym, ap, ◌∙◌}
use Rattle.serde_json.specs.Data.{Data}
use Rattle.metadata_form.specs.declared.fault.Fault.{Fault}
use Rattle.metadata_form.specs.declared.fault.MetaCause.{MetaCause}
use Rattle.metadata_form.specs.declared.fault.MetaCause.TheVariants.{NotJson}
use Rattle.metadata_view.specs.Fault.{fault_of}
use Rattle.table_metadata.specs.Spelling.{Spells, HasFault}

abbrev pub fault : List ℕ → MetaCause → Fault
fault path cause = record { path = path; cause = cause }

pub one_fault : (bytes p q : List ℕ) (a b : MetaCause) → HasFault bytes p a → HasFault bytes q b → fault p a ≡ fault q b
one_fault bytes p q a b (inl x) (inl y) = ap (λ c. fault p c) x.0 ∙ ap (λ path. fault path NotJson) (x.1 ∙ sym y.1) ∙ ap (λ c. fault q c) (sym y.0)
one_fault bytes p q a b (inl x) (inr y) = let none = x.2 y.1 in let some = y.2 in absurd (cc)
one_fault bytes p q a b (inr x) (inl y) = let none = y.2 x.1 in let some = x.2 in absurd (cc)
one_fault bytes p q a b (inr x) (inr y) =
    let trees : x.0 ≡ y.0 = let one = x.2 in let other = y.2 in cc in
    let first : fault_of y.0 ≡ Some (fault p a) = ap fault_of (sym trees) ∙ x.3 in
    let second = y.3 in
    cc

pub no_fault_of : (bytes : List ℕ) (d : Data) (path : List ℕ) (cause : MetaCause) → Spells bytes d → HasFault bytes path cause → ⊥
no_fault_of bytes d path cause s (inl h) = let none = h.2 s.utf8 in let some = s.json in absurd (cc)
no_fault_of bytes d path cause s (inr h) =
    let one : h.0 ≡ d = let a = h.2 in let b = s.json in cc in
    let found = h.3 in
    let same : fault_of d ≡ Some (fault path cause) = ap fault_of (sym one) ∙ found in
    let none = s.sound in
    absurd (cc)
