-- The standing's two lists are the commits, and those of them that aren't acknowledged.
use Rattle.std.proofs.Common.{◌≡◌, ℕ, Bool, true, false, ◌||◌, List, [], ◌∷◌, ◌++◌, refl, sym, ap, ◌∙◌, append-nil, append_assoc}
use Rattle.ice_store.specs.Places.{Parts}
use Rattle.ice_store.specs.History.{Disk, disk_after, base_from}
use Rattle.ice_store.proofs.FileLaws.{by_test}
use Rattle.ice_store.specs.declared.history.Event.{Event}
use Rattle.ice_store.specs.declared.history.Past.{Past}
use Rattle.ice_store.specs.declared.history.Step.{Step}
use Rattle.ice_store.specs.declared.history.Step.TheVariants.{Create, Append, Seal, Rename, Remove, SyncNames}
use Rattle.ice_store.specs.declared.history.Who.{Who}
use Rattle.ice_store.specs.declared.history.Who.TheVariants.{Us, Them}
use Rattle.commit_history.specs.Tables.{table}
use Rattle.commit_history.specs.Commits.{Standing, Tables, standing_by, standing_after, standing_from, standing, at_first, settles, commit_of}
use Rattle.commit_history.specs.Commits.{Commit, is_them, some_settles, commits_by, commits_from, tables_of, open_of}
use Rattle.commit_history.proofs.Following.{after_disk}

tables-append : (cs ds : List Commit) → tables_of (cs ++ ds) ≡ tables_of cs ++ tables_of ds
tables-append [] ds = refl
tables-append (c ∷ cs) ds = ap (λ (l : Tables). c.table ∷ l) (tables-append cs ds)

tables_by : (b : Bool) (ts : Tables) → tables_of (commits_by b ts) ≡ ts
tables_by b [] = refl
tables_by b (t ∷ ts) = ap (λ (l : Tables). t ∷ l) (tables_by b ts)

open-append : (cs ds : List Commit) → open_of (cs ++ ds) ≡ open_of cs ++ open_of ds
open-append [] ds = refl
open-append (c ∷ cs) ds = by_test c.is_acknowledged
    (λ e. on c (cs ++ ds) e ∙ open-append cs ds ∙ ap (λ (l : Tables). l ++ open_of ds) (sym (on c cs e)))
    (λ e. off c (cs ++ ds) e ∙ ap (λ (l : Tables). c.table ∷ l) (open-append cs ds) ∙ ap (λ (l : Tables). l ++ open_of ds) (sym (off c cs e)))
  where
    on : (c : Commit) (cs : List Commit) → c.is_acknowledged ≡ true → open_of (c ∷ cs) ≡ open_of cs
    on c cs e = rw e refl

    off : (c : Commit) (cs : List Commit) → c.is_acknowledged ≡ false → open_of (c ∷ cs) ≡ c.table ∷ open_of cs
    off c cs e = rw e refl

open_true : (ts : Tables) → open_of (commits_by true ts) ≡ []
open_true [] = refl
open_true (t ∷ ts) = open_true ts

open_false : (ts : Tables) → open_of (commits_by false ts) ≡ ts
open_false [] = refl
open_false (t ∷ ts) = ap (λ (l : Tables). t ∷ l) (open_false ts)

all_by : (b : Bool) (d : Disk) (acknowledged unacknowledged : Tables) → (standing_by b d acknowledged unacknowledged).acknowledged ++ (standing_by b d acknowledged unacknowledged).unacknowledged ≡ acknowledged ++ unacknowledged
all_by true d acknowledged unacknowledged = append-nil (acknowledged ++ unacknowledged)
all_by false d acknowledged unacknowledged = refl

module _ (number : Parts → ℕ) where
  -- all commits, in order
  from_tables : (s : Standing) (es : List Event) → (standing_from number s es).acknowledged ++ (standing_from number s es).unacknowledged ≡ (s.acknowledged ++ s.unacknowledged) ++ tables_of (commits_from number s.disk es)
  from_tables s [] = sym (append-nil (s.acknowledged ++ s.unacknowledged))
  from_tables s (e ∷ es) =
      let d = disk_after s.disk e in
      let C = commit_of number e.step d.files in
      from_tables (standing_after number s e) es
      ∙ ap (λ (l : Tables). l ++ tables_of (commits_from number (standing_after number s e).disk es)) (all_by (settles e.who e.step) d s.acknowledged (s.unacknowledged ++ C))
      ∙ ap (λ (x : Disk). (s.acknowledged ++ (s.unacknowledged ++ C)) ++ tables_of (commits_from number x es)) (after_disk number s e)
      ∙ ap (λ (l : Tables). l ++ tables_of (commits_from number d es)) (sym (append_assoc s.acknowledged s.unacknowledged C))
      ∙ append_assoc (s.acknowledged ++ s.unacknowledged) C (tables_of (commits_from number d es))
      ∙ ap (λ (l : Tables). (s.acknowledged ++ s.unacknowledged) ++ l) (ap (λ (l : Tables). l ++ tables_of (commits_from number d es)) (sym (tables_by (is_them e.who || some_settles es) C)) ∙ sym (tables-append (commits_by (is_them e.who || some_settles es) C) (commits_from number d es)))

  kept : Bool → Tables → Tables
  kept true ts = []
  kept false ts = ts

  -- one event, where nothing after it settles
  one_unsure : (w : Who) (step : Step) (d : Disk) (acknowledged unacknowledged : Tables) → (standing_by (settles w step) d acknowledged (unacknowledged ++ commit_of number step d.files)).unacknowledged ≡ kept (settles w step) unacknowledged ++ open_of (commits_by (is_them w) (commit_of number step d.files))
  unfolding kept
  one_unsure Them step d acknowledged unacknowledged = sym (open_true (commit_of number step d.files))
  one_unsure Us (Create p) d acknowledged unacknowledged = refl
  one_unsure Us (Append p more) d acknowledged unacknowledged = refl
  one_unsure Us (Seal p) d acknowledged unacknowledged = refl
  one_unsure Us (Rename p q) d acknowledged unacknowledged = ap (λ (l : Tables). unacknowledged ++ l) (sym (open_false (commit_of number (Rename p q) d.files)))
  one_unsure Us (Remove p) d acknowledged unacknowledged = refl
  one_unsure Us SyncNames d acknowledged unacknowledged = refl

  step_unsure : (b : Bool) (w : Who) (step : Step) (d : Disk) (acknowledged unacknowledged : Tables)
      → kept b (standing_by (settles w step) d acknowledged (unacknowledged ++ commit_of number step d.files)).unacknowledged ≡ kept (settles w step || b) unacknowledged ++ open_of (commits_by (is_them w || b) (commit_of number step d.files))
  unfolding kept
  step_unsure true w step d acknowledged unacknowledged = sym (ap (λ (x : Bool). kept x unacknowledged ++ open_of (commits_by (is_them w || true) (commit_of number step d.files))) (or_true (settles w step)) ∙ ap (λ (x : Bool). open_of (commits_by x (commit_of number step d.files))) (or_true (is_them w)) ∙ open_true (commit_of number step d.files))
    where
      or_true : (x : Bool) → (x || true) ≡ true
      or_true true = refl
      or_true false = refl
  step_unsure false w step d acknowledged unacknowledged = one_unsure w step d acknowledged unacknowledged ∙ sym (ap (λ (x : Bool). kept x unacknowledged ++ open_of (commits_by (is_them w || false) (commit_of number step d.files))) (or_false (settles w step)) ∙ ap (λ (x : Bool). kept (settles w step) unacknowledged ++ open_of (commits_by x (commit_of number step d.files))) (or_false (is_them w)))
    where
      or_false : (x : Bool) → (x || false) ≡ x
      or_false true = refl
      or_false false = refl

  -- those that aren't acknowledged
  from_unsure : (s : Standing) (es : List Event) → (standing_from number s es).unacknowledged ≡ kept (some_settles es) s.unacknowledged ++ open_of (commits_from number s.disk es)
  unfolding kept
  from_unsure s [] = sym (append-nil s.unacknowledged)
  from_unsure s (e ∷ es) =
      let d = disk_after s.disk e in
      let C = commit_of number e.step d.files in
      from_unsure (standing_after number s e) es
      ∙ ap (λ (x : Disk). kept (some_settles es) (standing_after number s e).unacknowledged ++ open_of (commits_from number x es)) (after_disk number s e)
      ∙ ap (λ (l : Tables). l ++ open_of (commits_from number d es)) (step_unsure (some_settles es) e.who e.step d s.acknowledged s.unacknowledged)
      ∙ append_assoc (kept (some_settles (e ∷ es)) s.unacknowledged) (open_of (commits_by (is_them e.who || some_settles es) C)) (open_of (commits_from number d es))
      ∙ ap (λ (l : Tables). kept (some_settles (e ∷ es)) s.unacknowledged ++ l) (sym (open-append (commits_by (is_them e.who || some_settles es) C) (commits_from number d es)))

  abbrev pub first : Past → Disk
  first past = record { files = base_from [] past.base; pending = [] }

  pub standing_commits : (past : Past) → (standing number past).acknowledged ++ (standing number past).unacknowledged ≡ table number (base_from [] past.base) ∷ tables_of (commits_from number (first past) past.events)
  standing_commits past = from_tables (at_first number (base_from [] past.base)) past.events

  pub standing_open : (past : Past) → (standing number past).unacknowledged ≡ open_of (commits_from number (first past) past.events)
  unfolding kept
  standing_open past = from_unsure (at_first number (base_from [] past.base)) past.events ∙ ap (λ (l : Tables). l ++ open_of (commits_from number (first past) past.events)) (kept_none (some_settles past.events))
    where
      kept_none : (b : Bool) → kept b [] ≡ []
      kept_none true = refl
      kept_none false = refl
