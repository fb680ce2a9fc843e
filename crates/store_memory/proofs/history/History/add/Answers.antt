use Rattle.std.proofs.Common.{◌≡◌, List, [], ◌∷◌, ◌++◌, length, get_or, ◌∙◌, refl, sym, ap}
use Rattle.ice_store.specs.History.{Disk, disk_after, replay}
use Rattle.ice_store.proofs.HistoryLaws.{replay-later}
use Rattle.ice_store.specs.declared.history.Event.{Event}
use Rattle.store_memory.proofs.history.History.add.Goals as goal

last_of : (events : List Event) (event other : Event) → get_or (events ++ event ∷ []) (length events) other ≡ event
last_of [] event other = refl
last_of (first ∷ events) event other = last_of events event other

pub invariant_of-self-in-Ok : goal.invariant_of-self-in-Ok
invariant_of-self-in-Ok c =
    let past = c.self.inside.past in
    let told = c.in-Ok.ensures in
    let it = c.index-event.ensures ∙ (λ i. get_or ((c.inner.ensures ∙ c.in_ok-push.ensures.ok) i) (c.len-count.ensures i) c.index-event.result.now) ∙ last_of past.events c.args.event c.index-event.result.now in
    ap (λ (es : List Event). replay (record past { events = es })) c.in_ok-push.ensures.ok
    ∙ replay-later past (c.args.event ∷ [])
    ∙ ap (λ (d : Disk). disk_after d c.args.event) c.self.invariant
    ∙ ap (λ (e : Event). disk_after (record { files = c.self.inside.files; pending = c.self.inside.pending.items }) e) (sym it)
    ∙ sym (λ i. record { files = told.files i; pending = told.pending i })
