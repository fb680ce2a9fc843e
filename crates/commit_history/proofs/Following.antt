-- A history goes on.
use Rattle.std.proofs.Common.{◌≡◌, ℕ, Bool, true, false, List, [], ◌∷◌, ◌++◌, refl, ap, ◌∙◌}
use Rattle.ice_store.specs.Places.{Parts}
use Rattle.ice_store.specs.History.{Disk, disk_after, replay_from, replay, later, base_from}
use Rattle.ice_store.specs.declared.history.Event.{Event}
use Rattle.ice_store.specs.declared.history.Past.{Past}
use Rattle.commit_history.specs.Commits.{Standing, Tables, standing_by, standing_after, standing_from, standing, at_first, settles, commit_of}

by_disk : (b : Bool) (d : Disk) (acknowledged unacknowledged : Tables) → (standing_by b d acknowledged unacknowledged).disk ≡ d
by_disk true d acknowledged unacknowledged = refl
by_disk false d acknowledged unacknowledged = refl

module _ (number : Parts → ℕ) where
  pub after_disk : (s : Standing) (e : Event) → (standing_after number s e).disk ≡ disk_after s.disk e
  after_disk s e = by_disk (settles e.who e.step) (disk_after s.disk e) s.acknowledged (s.unacknowledged ++ commit_of number e.step (disk_after s.disk e).files)

  from_disk : (s : Standing) (es : List Event) → (standing_from number s es).disk ≡ replay_from s.disk es
  from_disk s [] = refl
  from_disk s (e ∷ es) = from_disk (standing_after number s e) es ∙ ap (λ (d : Disk). replay_from d es) (after_disk s e)

  -- what stands is the replay
  pub standing_disk : (past : Past) → (standing number past).disk ≡ replay past
  standing_disk past = from_disk (at_first number (base_from [] past.base)) past.events

  pub from_append : (s : Standing) (es fs : List Event) → standing_from number s (es ++ fs) ≡ standing_from number (standing_from number s es) fs
  from_append s [] fs = refl
  from_append s (e ∷ es) fs = from_append (standing_after number s e) es fs

  -- one event more
  pub standing_later : (past : Past) (e : Event) → standing number (later past (e ∷ [])) ≡ standing_after number (standing number past) e
  standing_later past e = from_append (at_first number (base_from [] past.base)) past.events (e ∷ [])
