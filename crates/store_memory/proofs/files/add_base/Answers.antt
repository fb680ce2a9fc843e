use Rattle.std.proofs.Common.{◌≡◌, ◌∙◌, ◌∷◌, ◌++◌, [], None, if◌then◌else◌, ap, sym, rules, is_some}
use Rattle.ice_store.specs.Files.{find, put}
use Rattle.ice_store.specs.History.{durable}
use Rattle.store_memory.proofs.SlotSteps.{without_none}
use Rattle.store_memory.proofs.files.add_base.Goals as goal

pub returns-in_ok-put : goal.returns-in_ok-put
returns-in_ok-put c =
    let files = c.args.files.now in
    let file = c.args.file.now in
    let none : find files file.place ≡ None = search rules in
    c.in_ok-put.ensures.ok ∙ ap (λ held. put held files) c.in_ok-durable.ensures ∙ ap (λ l. l ++ durable file ∷ []) (without_none files file.place none)
    ∙ sym (ap (λ o. if is_some o then files else (files ++ durable file ∷ [])) none)
