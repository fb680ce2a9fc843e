-- A publish of another writer is allowed, step by step.
use Rattle.std.proofs.Common.{◌≡◌, ℕ, ◌+◌, ◌<◌, List, [], ◌∷◌, Option, Some, None, Bor, Result, Ok, Err, IfOk, false, is_some, refl, sym, ap, ◌∙◌, inr, arith}
use Rattle.std.specs.Option.{option_copied}
use Rattle.ice_store.specs.Places.{Parts}
use Rattle.ice_store.specs.Files.{find, is_named, renamed, moved}
use Rattle.ice_store.specs.History.{Disk, later, files_after, new_file, appended, sealed}
use Rattle.ice_store.specs.Others.{Allowed}
use Rattle.ice_store.proofs.FileLaws.{find_put_same, find_put_other, find_changed_same, find_changed_other, find_renamed_to}
use Rattle.ice_store.proofs.HistoryLaws.{replay-later}
use Rattle.ice_store.specs.declared.history.Event.{Event}
use Rattle.ice_store.specs.declared.history.Held.{Held}
use Rattle.ice_store.specs.declared.history.Past.{Past}
use Rattle.ice_store.specs.declared.history.Step.{Step}
use Rattle.ice_store.specs.declared.history.Step.TheVariants.{Create, Append, Seal}
use Rattle.ice_store.specs.declared.history.Who.TheVariants.{Them}
use Rattle.store_memory.specs.Neighbours.{by_them, next_moment}
use Rattle.commit_history.specs.Readings.{Reading, IsLocal}
use Rattle.commit_history.specs.Tables.{version, table, sealed_at, sealed_bytes, IsNumbering}
use Rattle.commit_history.specs.Mannered.{IsNext, AllowsStep, files_of}
use Rattle.commit_history.proofs.Agreeing.{version_alike, table_is}
use Rattle.commit_history.proofs.Manners.{rename_rises}
use Rattle.commit_tests.specs.Publishing.{publishes}

-- the files after one event more
files_on : (p : Past) (e : Event) → files_of (later p (e ∷ [])) ≡ files_after (files_of p) e.step e.who e.ms
files_on p e = ap (λ (d : Disk). d.files) (replay-later p (e ∷ []))

-- what is found after one event more
found_on : (p : Past) (e : Event) (q : Parts) → find (files_of (later p (e ∷ []))) q ≡ find (files_after (files_of p) e.step e.who e.ms) q
found_on p e q = ap (λ (l : List Held). find l q) (files_on p e)

-- a publish of these bytes under free names, where they are good as the next version
module _ (reading : Reading) (ruled : IsNumbering reading.number) (localized : IsLocal reading) (past : Past) (from to : Parts) (bytes : List ℕ)
    (plain : reading.number from ≡ 0) (from_free : is_named (files_of past) from ≡ false) (to_free : is_named (files_of past) to ≡ false)
    (next : reading.number to ≡ version reading.number (files_of past) + 1) (good : (others : Parts → Option (List ℕ)) → reading.good bytes others) (ms : ℕ) where
  abbrev pub created : Event
  created = record { who = Them; step = Create from; ms = ms }

  abbrev pub filled : Event
  filled = record { who = Them; step = Append from bytes; ms = next_moment ms }

  abbrev pub shut : Event
  shut = record { who = Them; step = Seal from; ms = next_moment (next_moment ms) }

  abbrev pub past1 : Past
  past1 = later past (created ∷ [])

  abbrev pub past2 : Past
  past2 = later past1 (filled ∷ [])

  abbrev pub past3 : Past
  past3 = later past2 (shut ∷ [])

  -- the new file after each of them
  abbrev pub file1 : Held
  file1 = new_file from Them ms

  abbrev pub file2 : Held
  file2 = appended bytes (next_moment ms) file1

  abbrev pub file3 : Held
  file3 = sealed file2

  stands1 : find (files_of past1) from ≡ Some file1
  stands1 = found_on past created from ∙ find_put_same file1 (files_of past)

  stands2 : find (files_of past2) from ≡ Some file2
  stands2 = found_on past1 filled from ∙ find_changed_same (appended bytes (next_moment ms)) (λ h. refl) (files_of past1) from file1 stands1

  stands3 : find (files_of past3) from ≡ Some file3
  stands3 = found_on past2 shut from ∙ find_changed_same sealed (λ h. refl) (files_of past2) from file2 stands2

  -- a version's place isn't that of the new file
  apart : (q : Parts) → 0 < reading.number q → from ≡ q → ⊥
  apart q pos e = let k : reading.number from ≡ reading.number q = ap reading.number e in absurd (omega (arith, k, plain, pos))

  -- the version files stand as they did
  versions_stand : (q : Parts) → 0 < reading.number q → find (files_of past3) q ≡ find (files_of past) q
  versions_stand q pos =
      found_on past2 shut q ∙ find_changed_other sealed (λ h. refl) (files_of past2) from q (apart q pos)
      ∙ (found_on past1 filled q ∙ find_changed_other (appended bytes (next_moment ms)) (λ h. refl) (files_of past1) from q (apart q pos))
      ∙ (found_on past created q ∙ find_put_other file1 (files_of past) q (apart q pos))

  next_is : reading.number to ≡ version reading.number (files_of past3) + 1
  next_is = next ∙ ap (λ (n : ℕ). n + 1) (sym (version_alike reading.number (files_of past) (files_of past3) (λ q pos. ap is_some (versions_stand q pos))))

  rises : version reading.number (renamed from to (files_of past3)) ≡ version reading.number (files_of past3) + 1
  rises = rename_rises reading ruled localized (files_of past3) from to file3 stands3 plain next_is

  new_table : table reading.number (renamed from to (files_of past3)) ≡ Some bytes
  new_table =
      let at = find_renamed_to (files_of past3) from to file3 stands3 in
      table_is reading.number ruled (renamed from to (files_of past3)) to (record { is = next_is ∙ sym rises; file = moved to file3; stands = at }) (omega (arith, rises)) ∙ ap sealed_bytes at

  is_next : IsNext reading (files_of past3) from to
  is_next = record {
    source = record { file = file3; stands = stands3; theirs = refl; sealed_is = refl };
    plain = plain;
    free = ap is_some (versions_stand to (omega (arith, next))) ∙ to_free;
    next = next_is;
    whole = λ before. inr (record { bytes = bytes; is = new_table; good = good (sealed_at (renamed from to (files_of past3))) });
  }

  pub publish_allowed : Allowed (AllowsStep reading) past (by_them ms (publishes from to bytes))
  publish_allowed = (
    refl,
    (from_free, plain),
    (
      refl,
      record { file = file1; stands = stands1; theirs = refl; sealed_is = refl },
      (refl, record { file = file2; stands = stands2; theirs = refl; sealed_is = refl }, (refl, is_next, tt)),
    ),
  )

-- no file is found, where none is lent
pub none_found : (lent : Option (Bor Held)) (found : Option Held) → option_copied lent ≡ found → is_some lent ≡ false → is_some found ≡ false
none_found None found e none = sym (ap is_some e)
none_found (Some h) found e none = absurd (cc)

-- a fact of the steps, where there was memory for them
pub of_steps : {E : Type 0} (P Q : List Step → Type 0) (r : Result (List Step) E) → ((steps : List Step) → P steps → Q steps) → IfOk r P → IfOk r Q
of_steps P Q (Ok steps) turn here = turn steps here
of_steps P Q (Err e) turn here = tt
