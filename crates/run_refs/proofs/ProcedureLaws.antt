-- The meanings of the ref procedures exclude one another, and none of them refuses a table for an argument.
use Rattle.std.proofs.Common.{◌≡◌, inl, inr, ℕ, ℤ, List, Option, Some, None, Err, refl, sym, ap, ◌∙◌}
use Rattle.serde_json.specs.Data.{Data}
use Rattle.metadata_view.specs.View.{snapshots_of, current_of}
use Rattle.metadata_view.specs.Walk.{snapshot_with}
use Rattle.metadata_view.specs.declared.types.Snapshot.{Snapshot}
use Rattle.ice_store.specs.declared.faults.ReadErr.TheVariants.{Missing, Damaged, Unsupported, StoreFault, Memory}
use Rattle.table_metadata.specs.declared.cause.EditErr.TheVariants.{UnknownSnapshot as Lacks}
use Rattle.commit_publish.specs.Kinds as kinds
use Rattle.commit_protocol.specs.Kinds.{attempt_kind}
use Rattle.commit_protocol.specs.Verdicts.{IsDecided}
use Rattle.commit_protocol.specs.declared.errors.AttemptErr.{AttemptErr}
use Rattle.commit_protocol.specs.declared.errors.AttemptErr.TheVariants.{Refused, Conflict, NameTaken, Read}
use Rattle.commit_protocol.specs.declared.errors.Refusal.{Refusal}
use Rattle.commit_protocol.specs.declared.errors.Refusal.TheVariants.{UnknownSnapshot, BadArgument}
use Rattle.run_refs.specs.declared.goal.Goal.{Goal}
use Rattle.run_refs.specs.declared.goal.Goal.TheVariants.{Rollback, SetCurrent, SetCurrentTo, FastForward}
use Rattle.run_refs.specs.Ancestors.{Lists}
use Rattle.run_refs.specs.Meanings.{moves_of}
use Rattle.run_refs.specs.Moves.{Aim, Aims, AimsIfAncestor, AimsBack, AimsAt, AimsTo, AimsForward, Moves, IsThere, RefusesMove}
use Rattle.run_refs.specs.Procedures.{Unasked, RefusesListing, listing_of}
use Rattle.run_refs.specs.Refs.{ref_at, branch_at}
use Rattle.run_refs.proofs.AimLaws.{one_refusal, one_successor, moves_or_is_there, not_both}
use Rattle.run_refs.proofs.ListingLaws.{lists_or_lacks}

-- ---- a move of a ref

module _ (goal : Goal) (tree : Data) where
  -- a refusal that is told is one of the table
  refused_aim : (e : AttemptErr) → attempt_kind e ≡ kinds.Told → RefusesMove goal tree e → (refusal : Refusal) × (e ≡ Refused refusal) × Aims goal tree (Err refusal)
  refused_aim (Refused refusal) told r = (refusal, refl, r)
  refused_aim (Conflict place other) told r = absurd r
  refused_aim (NameTaken place) told r = absurd r
  refused_aim (Read (Missing place)) told r = absurd r
  refused_aim (Read (Damaged place at)) told r = absurd r
  refused_aim (Read (Unsupported place what)) told r = absurd r
  refused_aim (Read (StoreFault place)) told r = absurd r
  refused_aim (Read Memory) told r = absurd (cc (told))

  same_refusal : (e f : AttemptErr) → attempt_kind e ≡ kinds.Told → attempt_kind f ≡ kinds.Told → RefusesMove goal tree e → RefusesMove goal tree f → e ≡ f
  same_refusal e f told other r s =
      let a = refused_aim e told r in
      let b = refused_aim f other s in
      a.1 ∙ ap (λ (x : Refusal). Refused x) (one_refusal goal tree a.0 b.0 a.2 b.2) ∙ sym b.1

  moves_or_refused : (now : ℕ) (built : Data) (e : AttemptErr) → attempt_kind e ≡ kinds.Told → Moves goal now tree built → RefusesMove goal tree e → ⊥
  moves_or_refused now built e told m r = let a = refused_aim e told r in not_both goal tree m.id a.0 m.aims a.2

  there_or_refused : (e : AttemptErr) → attempt_kind e ≡ kinds.Told → IsThere goal tree → RefusesMove goal tree e → ⊥
  there_or_refused e told there r = let a = refused_aim e told r in not_both goal tree there.id a.0 there.aims a.2

pub move_decided : (goal : Goal) (now : ℕ) → IsDecided (moves_of goal now Unasked)
move_decided goal now = record {
  one_refusal = same_refusal goal;
  one_successor = one_successor goal now;
  built_or_same = moves_or_is_there goal now;
  built_or_refused = λ tree built. moves_or_refused goal tree now built;
  same_or_refused = there_or_refused goal;
}

-- ---- a listing

lacked : (given : Option ℤ) (tree : Data) (id : ℤ) → Lists given tree (Err (Lacks id)) → given ≡ Some id
lacked None tree id l = absurd l
lacked (Some from) tree id l = ap (λ (x : ℤ). Some x) (sym l.0)

same_lack : (given : Option ℤ) (tree : Data) (e f : AttemptErr) → RefusesListing given tree e → RefusesListing given tree f → e ≡ f
same_lack given tree e f r s =
    let both : ◌≡◌ {A = Option ℤ} (Some r.0) (Some s.0) = sym (lacked given tree r.0 r.1) ∙ lacked given tree s.0 s.1 in
    let same : r.0 ≡ s.0 = cc (both) in
    r.2 ∙ ap (λ (x : ℤ). Refused (UnknownSnapshot x)) same ∙ sym s.2

pub listing_decided : (given : Option ℤ) → IsDecided (listing_of given)
listing_decided given = record {
  one_refusal = λ tree e f told other. same_lack given tree e f;
  one_successor = λ tree a b built. absurd built;
  built_or_same = λ tree a built. absurd built;
  built_or_refused = λ tree a e told built. absurd built;
  same_or_refused = λ tree e told same r. lists_or_lacks given tree same.0 r.0 same.1 r.1;
}

-- ---- no argument is refused

module _ (name : List ℕ) where
  abbrev pub no_argument : Aim
  no_argument = Err (BadArgument name)

  not_if_ancestor : (ss : List Snapshot) (id of aim : ℤ) → AimsIfAncestor ss id of aim no_argument → ⊥
  not_if_ancestor ss id of aim (inl a) = let e = a.0 in absurd (cc (e))
  not_if_ancestor ss id of aim (inr a) = let e = a.0 in absurd (cc (e))

  not_back : (ss : List Snapshot) (id : ℤ) (found : Option Snapshot) (current : Option ℤ) → AimsBack ss id found current no_argument → ⊥
  not_back ss id None current a = absurd (cc (a))
  not_back ss id (Some s) None a = absurd (cc (a))
  not_back ss id (Some s) (Some of) a = not_if_ancestor ss id of id a

  not_at : (id : ℤ) (found : Option Snapshot) → AimsAt id found no_argument → ⊥
  not_at id None a = absurd (cc (a))
  not_at id (Some s) a = absurd (cc (a))

  not_to : (ss : List Snapshot) (of : List ℕ) (at : Option ℤ) → AimsTo ss of at no_argument → ⊥
  not_to ss of None a = absurd (cc (a))
  not_to ss of (Some id) a = not_at id (snapshot_with ss id) a

  not_forward : (ss : List Snapshot) (branch to : List ℕ) (from aim : Option ℤ) → AimsForward ss branch to from aim no_argument → ⊥
  not_forward ss branch to None aim a = absurd (cc (a))
  not_forward ss branch to (Some from) None a = absurd (cc (a))
  not_forward ss branch to (Some from) (Some aim) a = not_if_ancestor ss from aim aim a

pub move_names_none : (goal : Goal) (tree : Data) (name : List ℕ) → RefusesMove goal tree (Refused (BadArgument name)) → ⊥
move_names_none (Rollback id) tree name a = not_back name (snapshots_of tree) id (snapshot_with (snapshots_of tree) id) (current_of tree) a
move_names_none (SetCurrent id) tree name a = not_at name id (snapshot_with (snapshots_of tree) id) a
move_names_none (SetCurrentTo ref) tree name a = not_to name (snapshots_of tree) ref (ref_at ref tree) a
move_names_none (FastForward branch to) tree name a = not_forward name (snapshots_of tree) branch to (branch_at branch tree) (ref_at to tree) a

pub listing_names_none : (given : Option ℤ) (tree : Data) (name : List ℕ) → RefusesListing given tree (Refused (BadArgument name)) → ⊥
listing_names_none given tree name r = let e = r.2 in absurd (cc (e))
