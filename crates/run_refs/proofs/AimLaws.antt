-- Each goal has one aim.
use Rattle.std.proofs.Common.{◌≡◌, inl, inr, ℕ, ℤ, List, [], ◌∷◌, Option, Some, None, Ok, Err, is_some, codes, unwrap_or, option_and_then, option_map, refl, sym, ap, ◌∙◌, subst, arith}
use Rattle.std.specs.Prelude.{IsSome, Contains}
use Rattle.serde_json.specs.Data.{Data}
use Rattle.serde_json.specs.Find.{get, get_member, as_str}
use Rattle.metadata_json.specs.Fields.{members_in}
use Rattle.table_metadata.specs.Edits.{with_ref, version_limit, limit_in}
use Rattle.metadata_view.specs.View.{snapshots_of, current_of, property_of, text_in}
use Rattle.table_metadata.proofs.EditLaws.{stays-with_ref}
use Rattle.commit_protocol.specs.Attempts.{StaysTable}
use Rattle.metadata_view.specs.Walk.{snapshot_with, next_snapshot, IsWalk, IsAncestor}
use Rattle.metadata_view.specs.declared.types.Snapshot.{Snapshot}
use Rattle.commit_protocol.specs.declared.errors.Refusal.{Refusal}
use Rattle.commit_protocol.specs.declared.errors.Refusal.TheVariants.{NotAncestor}
use Rattle.run_refs.specs.declared.goal.Goal.{Goal}
use Rattle.run_refs.specs.declared.goal.Goal.TheVariants.{Rollback, SetCurrent, SetCurrentTo, FastForward}
use Rattle.run_refs.specs.Moves.{Aim, AimBy, AimsIfAncestor, AimsBack, AimsAt, AimsTo, AimsForward, Aims, Moves, IsThere}
use Rattle.run_refs.specs.Refs.{goal_ref, ref_at, branch_at}

one_answer : (P : Type 0) (if_so if_not x y : Aim) → AimBy P if_so if_not x → AimBy P if_so if_not y → x ≡ y
one_answer P if_so if_not x y (inl a) (inl b) = a.0 ∙ sym b.0
one_answer P if_so if_not x y (inl a) (inr b) = absurd (b.1 a.1)
one_answer P if_so if_not x y (inr a) (inl b) = absurd (a.1 b.1)
one_answer P if_so if_not x y (inr a) (inr b) = a.0 ∙ sym b.0

one_if_ancestor : (ss : List Snapshot) (id of aim : ℤ) (x y : Aim) → AimsIfAncestor ss id of aim x → AimsIfAncestor ss id of aim y → x ≡ y
one_if_ancestor ss id of aim x y p q = one_answer (IsAncestor ss id of) (Ok aim) (Err (NotAncestor id (Some of))) x y p q

one_back : (ss : List Snapshot) (id : ℤ) (found : Option Snapshot) (current : Option ℤ) (x y : Aim) → AimsBack ss id found current x → AimsBack ss id found current y → x ≡ y
one_back ss id None current x y p q = p ∙ sym q
one_back ss id (Some s) None x y p q = p ∙ sym q
one_back ss id (Some s) (Some of) x y p q = one_if_ancestor ss id of id x y p q

one_at : (id : ℤ) (found : Option Snapshot) (x y : Aim) → AimsAt id found x → AimsAt id found y → x ≡ y
one_at id None x y p q = p ∙ sym q
one_at id (Some s) x y p q = p ∙ sym q

one_to : (ss : List Snapshot) (name : List ℕ) (at : Option ℤ) (x y : Aim) → AimsTo ss name at x → AimsTo ss name at y → x ≡ y
one_to ss name None x y p q = p ∙ sym q
one_to ss name (Some id) x y p q = one_at id (snapshot_with ss id) x y p q

one_forward : (ss : List Snapshot) (branch to : List ℕ) (from aim : Option ℤ) (x y : Aim) → AimsForward ss branch to from aim x → AimsForward ss branch to from aim y → x ≡ y
one_forward ss branch to None aim x y p q = p ∙ sym q
one_forward ss branch to (Some from) None x y p q = p ∙ sym q
one_forward ss branch to (Some from) (Some aim) x y p q = one_if_ancestor ss from aim aim x y p q

pub one_aim : (goal : Goal) (tree : Data) (x y : Aim) → Aims goal tree x → Aims goal tree y → x ≡ y
one_aim (Rollback id) tree x y p q = one_back (snapshots_of tree) id (snapshot_with (snapshots_of tree) id) (current_of tree) x y p q
one_aim (SetCurrent id) tree x y p q = one_at id (snapshot_with (snapshots_of tree) id) x y p q
one_aim (SetCurrentTo name) tree x y p q = one_to (snapshots_of tree) name (ref_at name tree) x y p q
one_aim (FastForward branch to) tree x y p q = one_forward (snapshots_of tree) branch to (branch_at branch tree) (ref_at to tree) x y p q

pub one_id : (goal : Goal) (tree : Data) (id other : ℤ) → Aims goal tree (Ok id) → Aims goal tree (Ok other) → id ≡ other
one_id goal tree id other p q = let same : ◌≡◌ {A = Aim} (Ok id) (Ok other) = one_aim goal tree (Ok id) (Ok other) p q in cc

pub not_both : (goal : Goal) (tree : Data) (id : ℤ) (refusal : Refusal) → Aims goal tree (Ok id) → Aims goal tree (Err refusal) → ⊥
not_both goal tree id refusal p q = let same : ◌≡◌ {A = Aim} (Ok id) (Err refusal) = one_aim goal tree (Ok id) (Err refusal) p q in cc

pub one_refusal : (goal : Goal) (tree : Data) (refusal other : Refusal) → Aims goal tree (Err refusal) → Aims goal tree (Err other) → refusal ≡ other
one_refusal goal tree refusal other p q = let same : ◌≡◌ {A = Aim} (Err refusal) (Err other) = one_aim goal tree (Err refusal) (Err other) p q in cc

pub one_successor : (goal : Goal) (now : ℕ) (tree built other : Data) → Moves goal now tree built → Moves goal now tree other → built ≡ other
one_successor goal now tree built other a b =
    a.is ∙ ap (λ (id : ℤ). with_ref (goal_ref goal) id now tree) (one_id goal tree a.id b.id a.aims b.aims) ∙ sym b.is

pub moves_or_is_there : (goal : Goal) (now : ℕ) (tree built : Data) → Moves goal now tree built → IsThere goal tree → ⊥
moves_or_is_there goal now tree built a b =
    a.away (b.there ∙ ap (λ (id : ℤ). Some id) (one_id goal tree b.id a.id b.aims a.aims))

-- ---- the table with a moved ref stays the table

same_limit : (d e : Data) → get (codes "properties") e ≡ get (codes "properties") d → version_limit e ≡ version_limit d
unfolding version_limit property_of
same_limit d e same = ap (λ (o : Option Data). limit_in (option_map text_in (get_member (codes "write.metadata.previous-versions-max") (members_in o)))) same

pub stays_table : (name : List ℕ) (id : ℤ) (now : ℕ) (d : Data) → StaysTable d (with_ref name id now d)
stays_table name id now d =
    let kept = stays-with_ref name id now d in
    record {
      location = ap (λ (o : Option Data). unwrap_or (option_and_then as_str o) []) (kept (codes "location") (λ e. absurd (cc (e))) (λ e. absurd (cc (e))) (λ e. absurd (cc (e))));
      limit = λ h. subst (λ (o : Option ℕ). IsSome o) (sym (same_limit d (with_ref name id now d) (kept (codes "properties") (λ e. absurd (cc (e))) (λ e. absurd (cc (e))) (λ e. absurd (cc (e)))))) h;
    }

-- what a move to its aim makes
pub moves_to : (goal : Goal) (now : ℕ) (tree built : Data) (id : ℤ) → Aims goal tree (Ok id) → (ref_at (goal_ref goal) tree ≡ Some id → ⊥) → built ≡ with_ref (goal_ref goal) id now tree → Moves goal now tree built × StaysTable tree built
moves_to goal now tree built id aims away is = (
  record { id = id; aims = aims; away = away; is = is },
  subst (λ (d : Data). StaysTable tree d) (sym is) (stays_table (goal_ref goal) id now tree),
)

-- ---- where a ref is to go, there is a snapshot

known_walk : (ss : List Snapshot) (id of : ℤ) (ids : List ℤ) → IsWalk ss (Some of) ids → Contains ids id → IsSome (snapshot_with ss of)
unfolding next_snapshot
known_walk ss id of [] w c = absurd (omega (arith, c.1))
known_walk ss id of (i ∷ ids) w c = ap (λ (o : Option Snapshot). is_some o) w.1

by_ancestor : (ss : List Snapshot) (id of aim x : ℤ) → AimsIfAncestor ss id of aim (Ok x) → (x ≡ aim) × IsAncestor ss id of
by_ancestor ss id of aim x (inl a) = let e : ◌≡◌ {A = Aim} (Ok x) (Ok aim) = a.0 in (cc, a.1)
by_ancestor ss id of aim x (inr a) = let e : ◌≡◌ {A = Aim} (Ok x) (Err (NotAncestor id (Some of))) = a.0 in absurd (cc)

known_back : (ss : List Snapshot) (id : ℤ) (found : Option Snapshot) (current : Option ℤ) (x : ℤ) → snapshot_with ss id ≡ found → AimsBack ss id found current (Ok x) → IsSome (snapshot_with ss x)
known_back ss id None current x e p = absurd (cc)
known_back ss id (Some s) None x e p = absurd (cc)
known_back ss id (Some s) (Some of) x e p =
    let back = by_ancestor ss id of id x p in
    ap (λ (i : ℤ). is_some (snapshot_with ss i)) back.0 ∙ ap (λ (o : Option Snapshot). is_some o) e

known_at : (ss : List Snapshot) (id : ℤ) (found : Option Snapshot) (x : ℤ) → snapshot_with ss id ≡ found → AimsAt id found (Ok x) → IsSome (snapshot_with ss x)
known_at ss id None x e p = absurd (cc)
known_at ss id (Some s) x e p = let same : x ≡ id = cc in ap (λ (i : ℤ). is_some (snapshot_with ss i)) same ∙ ap (λ (o : Option Snapshot). is_some o) e

known_to : (ss : List Snapshot) (name : List ℕ) (at : Option ℤ) (x : ℤ) → AimsTo ss name at (Ok x) → IsSome (snapshot_with ss x)
known_to ss name None x p = absurd (cc)
known_to ss name (Some id) x p = known_at ss id (snapshot_with ss id) x refl p

known_forward : (ss : List Snapshot) (branch to : List ℕ) (from aim : Option ℤ) (x : ℤ) → AimsForward ss branch to from aim (Ok x) → IsSome (snapshot_with ss x)
known_forward ss branch to None aim x p = absurd (cc)
known_forward ss branch to (Some from) None x p = absurd (cc)
known_forward ss branch to (Some from) (Some aim) x p =
    let there = by_ancestor ss from aim aim x p in
    let a = there.1 in
    ap (λ (i : ℤ). is_some (snapshot_with ss i)) there.0 ∙ known_walk ss from aim a.0 a.1 a.2

pub known : (goal : Goal) (tree : Data) (id : ℤ) → Aims goal tree (Ok id) → IsSome (snapshot_with (snapshots_of tree) id)
known (Rollback id) tree x p = known_back (snapshots_of tree) id (snapshot_with (snapshots_of tree) id) (current_of tree) x refl p
known (SetCurrent id) tree x p = known_at (snapshots_of tree) id (snapshot_with (snapshots_of tree) id) x refl p
known (SetCurrentTo name) tree x p = known_to (snapshots_of tree) name (ref_at name tree) x p
known (FastForward branch to) tree x p = known_forward (snapshots_of tree) branch to (branch_at branch tree) (ref_at to tree) x p
