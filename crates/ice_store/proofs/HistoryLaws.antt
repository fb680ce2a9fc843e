-- Laws of histories: a replay goes on event by event.
use Rattle.std.proofs.Common.{◌≡◌, List, [], ◌∷◌, ◌++◌, refl, ap, append_assoc}
use Rattle.ice_store.specs.History.{Disk, disk_after, replay_from, replay, later}
use Rattle.ice_store.specs.declared.history.Event.{Event}
use Rattle.ice_store.specs.declared.history.Past.{Past}

pub replay_from-append : (d : Disk) (es fs : List Event) → replay_from d (es ++ fs) ≡ replay_from (replay_from d es) fs
replay_from-append d [] fs = refl
replay_from-append d (e ∷ es) fs = replay_from-append (disk_after d e) es fs

pub replay-later : (past : Past) (es : List Event) → replay (later past es) ≡ replay_from (replay past) es
replay-later past es = replay_from-append _ past.events es

pub later-later : (past : Past) (es fs : List Event) → later (later past es) fs ≡ later past (es ++ fs)
later-later past es fs = ap (λ (l : List Event). record past { events = l }) (append_assoc past.events es fs)
