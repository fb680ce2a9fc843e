-- Steps from place to place: a table says for each place where a step from it leads, if anywhere.
use Rattle.std.specs.Prelude.{ℕ, zero, suc, List, [], ◌∷◌, map, slice_index_or, Option, Some, None}
use Rattle.metadata_view.specs.Walk.{place_of}
use Rattle.metadata_view.specs.declared.types.Snapshot.{Snapshot}

-- one step
abbrev pub step_from : List (Option ℕ) → Option ℕ → Option ℕ
step_from steps None = None
step_from steps (Some i) = slice_index_or steps i None

-- n steps
unfoldable pub steps_from : List (Option ℕ) → ℕ → Option ℕ → Option ℕ
steps_from steps zero from = from
steps_from steps (suc n) from = steps_from steps n (step_from steps from)

-- the step from each snapshot to its parent
abbrev pub parents_among : List Snapshot → List Snapshot → List (Option ℕ)
parents_among all ss = map (λ s. place_of all s.parent) ss

-- the place of the first that leads somewhere, from the place i on
abbrev pub first_some : ℕ → List (Option ℕ) → Option ℕ
first_some i [] = None
first_some i (None ∷ places) = first_some (suc i) places
first_some i (Some j ∷ places) = Some i
