-- What the ref procedures mean to a run: a move of a ref, and a listing of ancestors.
use Rattle.std.specs.Prelude.{◌≡◌, ℕ, ℤ, List, Option, Ok, Err}
use Rattle.serde_json.specs.Data.{Data}
use Rattle.table_metadata.specs.Edits.{HasVersionLimit}
use Rattle.table_metadata.specs.declared.cause.EditErr.TheVariants.{UnknownSnapshot as Lacks}
use Rattle.commit_protocol.specs.Meanings.{Meanings, Procedure, looking}
use Rattle.commit_protocol.specs.declared.errors.AttemptErr.{AttemptErr}
use Rattle.commit_protocol.specs.declared.errors.AttemptErr.TheVariants.{Refused}
use Rattle.commit_protocol.specs.declared.errors.Refusal.TheVariants.{UnknownSnapshot}
use Rattle.run_refs.specs.Ancestors.{Lists}
use Rattle.run_refs.specs.Meanings.{moves_of}
use Rattle.run_refs.specs.Moves.{HasSeen}
use Rattle.run_refs.specs.Reports.{list_report, move_report}
use Rattle.run_refs.specs.declared.ancestors.Ancestor.{Ancestor}
use Rattle.run_refs.specs.declared.goal.Goal.{Goal}

-- nothing is said of what was kept of a base
abbrev pub Unasked : Data → Type 0
Unasked tree = Unit {0}

-- where the ref was and is to be, as its report says it
abbrev pub SaysMove : Goal → Data → List ℕ → Type 0
SaysMove goal tree text = (previous : Option ℤ) × (id : ℤ) × HasSeen goal tree previous id × (text ≡ move_report goal previous id)

-- a move of a ref, at a moment
abbrev pub move_procedure : Goal → ℕ → Procedure
move_procedure goal now = record { change = moves_of goal now Unasked; needs = HasVersionLimit; says = SaysMove goal }

-- the table has a listing
abbrev pub HasListing : Option ℤ → Data → Type 0
HasListing given tree = (rows : List Ancestor) × Lists given tree (Ok rows)

-- the table lacks the snapshot from which its ancestors were asked for
abbrev pub RefusesListing : Option ℤ → Data → AttemptErr → Type 0
RefusesListing given tree e = (id : ℤ) × Lists given tree (Err (Lacks id)) × (e ≡ Refused (UnknownSnapshot id))

-- the rows of the listing, as its report says them
abbrev pub SaysListing : Option ℤ → Data → List ℕ → Type 0
SaysListing given tree text = (rows : List Ancestor) × Lists given tree (Ok rows) × (text ≡ list_report rows)

-- a listing builds nothing, and refuses where the table lacks the snapshot
abbrev pub listing_of : Option ℤ → Meanings
listing_of given = looking (λ tree built. ⊥) (HasListing given) (RefusesListing given) Unasked

-- a listing of ancestors
abbrev pub list_procedure : Option ℤ → Procedure
list_procedure given = record { change = listing_of given; needs = Unasked; says = SaysListing given }
