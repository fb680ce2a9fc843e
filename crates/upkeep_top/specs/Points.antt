-- A moment of a run, as contracts see it.
use Rattle.std.specs.Prelude.{ℕ, List, [], Option}
use Rattle.ice_store.specs.Places.{Parts}
use Rattle.ice_store.specs.declared.history.Failure.{Failure}
use Rattle.ice_store.specs.declared.history.Past.{Past}
use Rattle.commit_publish.specs.declared.publish.Log.{Log}
use Rattle.run_answers.specs.declared.status.Outcome.{Outcome}

-- the store's history, its faults and the mark of the last one; the moments and identifiers that were given; what the
-- output took, and its faults; and the log
pub record Point : Type 0 where
  pub past : Option Past
  pub faults : ℕ
  pub halted : Option Failure
  pub moments : Option (List ℕ)
  pub identifiers : Option (List ℕ)
  pub output : Option (List ℕ)
  pub output_faults : ℕ
  pub committed : List ℕ
  pub left : List Parts

-- what a run noted: the versions that it published and acknowledged, and the places that it left
pub record Notes : Type 0 where
  pub committed : List ℕ
  pub left : List Parts

-- nothing yet
abbrev pub no_notes : Notes
no_notes = record { committed = []; left = [] }

-- in a log
abbrev pub noted : Log → Notes
noted log = record { committed = log.committed.items; left = log.left.items }

-- in the outcome of a run
abbrev pub run_notes : Outcome → Notes
run_notes outcome = record { committed = outcome.committed; left = outcome.left }

-- what a store, a clock, a source of identifiers and an output tell of themselves
pub record Tells (S C I O : Type 0) : Type 0 where
  pub past : S → Option Past
  pub faults : S → ℕ
  pub halted : S → Option Failure
  pub moments : C → Option (List ℕ)
  pub identifiers : I → Option (List ℕ)
  pub output : O → Option (List ℕ)
  pub output_faults : O → ℕ

-- such objects
pub record Objects (S C I O : Type 0) : Type 0 where
  pub store : S
  pub clock : C
  pub ids : I
  pub out : O

module _ {S C I O : Type 0} where
  -- by these functions
  abbrev pub tells : (S → Option Past) → (S → ℕ) → (S → Option Failure) → (C → Option (List ℕ)) → (I → Option (List ℕ)) → (O → Option (List ℕ)) → (O → ℕ) → Tells S C I O
  tells past faults halted moments identifiers output output_faults = record { past = past; faults = faults; halted = halted; moments = moments; identifiers = identifiers; output = output; output_faults = output_faults }

  -- these objects
  abbrev pub at : S → C → I → O → Objects S C I O
  at store clock ids out = record { store = store; clock = clock; ids = ids; out = out }

  -- the moment at which they are so, and this is noted
  abbrev pub moment : Tells S C I O → Objects S C I O → Notes → Point
  moment t x notes = record {
    past = t.past x.store;
    faults = t.faults x.store;
    halted = t.halted x.store;
    moments = t.moments x.clock;
    identifiers = t.identifiers x.ids;
    output = t.output x.out;
    output_faults = t.output_faults x.out;
    committed = notes.committed;
    left = notes.left;
  }

  -- the moments before and after a call, with what the log has at each, are in a relation
  abbrev pub Between : Tells S C I O → Objects S C I O → Objects S C I O → Log → Log → (Point → Point → Type 0) → Type 0
  Between t before after log log' Relation = Relation (moment t before (noted log)) (moment t after (noted log'))
