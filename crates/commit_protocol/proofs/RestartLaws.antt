-- A history that begins with files has at each place the first of them there, as they were found.
use Rattle.std.proofs.Common.{◌≡◌, true, false, List, [], ◌∷◌, ◌++◌, map, is_some, refl, sym, ap, ◌∙◌, append_assoc, append-nil}
use Rattle.ice_store.specs.Places.{Parts, same_place}
use Rattle.ice_store.specs.Files.{find, is_named}
use Rattle.ice_store.specs.History.{base_from, durable, replay}
use Rattle.ice_store.specs.declared.history.FileRec.{FileRec}
use Rattle.ice_store.specs.declared.history.Held.{Held}
use Rattle.ice_store.proofs.FileLaws.{by_test, place_decides, not_same, find_head, find_tail}
use Rattle.commit_history.specs.Commits.{found}
use Rattle.commit_history.specs.Readings.{Reading}
use Rattle.commit_history.specs.Tables.{sealed_bytes}
use Rattle.commit_history.proofs.Agreeing.{Agrees}
use Rattle.commit_protocol.specs.Promises.{restarted}

module _ (h : Held) (hs : List Held) (p : Parts) where
  -- a file elsewhere isn't found at this place
  past_other : (fs : List Held) → (h.place ≡ p → ⊥) → find (fs ++ h ∷ hs) p ≡ find (fs ++ hs) p
  past_other [] other = find_tail h hs p (not_same h.place p other)
  past_other (k ∷ fs) other = by_test (same_place k.place p)
      (λ e. find_head k (fs ++ h ∷ hs) p e ∙ sym (find_head k (fs ++ hs) p e))
      (λ e. find_tail k (fs ++ h ∷ hs) p e ∙ past_other fs other ∙ sym (find_tail k (fs ++ hs) p e))

  -- nor is one behind another with its place
  past_second : (fs : List Held) → is_named fs h.place ≡ true → find (fs ++ h ∷ hs) p ≡ find (fs ++ hs) p
  past_second [] there = absurd (cc (there))
  past_second (k ∷ fs) there = by_test (same_place k.place p)
      (λ e. find_head k (fs ++ h ∷ hs) p e ∙ sym (find_head k (fs ++ hs) p e))
      (λ e. find_tail k (fs ++ h ∷ hs) p e
      ∙ by_test (same_place k.place h.place)
      (λ same. past_other fs (λ at. absurd (cc (e, (place_decides k.place p).1 ((place_decides k.place h.place).0 same ∙ at)))))
      (λ other. past_second fs (sym (ap is_some (find_tail k fs h.place other)) ∙ there))
      ∙ sym (find_tail k (fs ++ hs) p e))

begin_with : (fs : List Held) (file : FileRec) (more : List FileRec) → is_named fs file.place ≡ true → base_from fs (file ∷ more) ≡ base_from fs more
begin_with fs file more e = rw e refl

begin_more : (fs : List Held) (file : FileRec) (more : List FileRec) → is_named fs file.place ≡ false → base_from fs (file ∷ more) ≡ base_from (fs ++ durable file ∷ []) more
begin_more fs file more e = rw e refl

-- of several files with one place the first is found, in a base as in a list
find_base : (fs : List Held) (files : List FileRec) (p : Parts) → find (base_from fs files) p ≡ find (fs ++ map durable files) p
find_base fs [] p = ap (λ (l : List Held). find l p) (sym (append-nil fs))
find_base fs (file ∷ more) p = by_test (is_named fs file.place)
    (λ e. ap (λ (l : List Held). find l p) (begin_with fs file more e) ∙ find_base fs more p ∙ sym (past_second (durable file) (map durable more) p fs e))
    (λ e. ap (λ (l : List Held). find l p) (begin_more fs file more e) ∙ find_base (fs ++ durable file ∷ []) more p
    ∙ ap (λ (l : List Held). find l p) (append_assoc fs (durable file ∷ []) (map durable more)))

pub begun_agrees : (reading : Reading) (files : List FileRec) → Agrees reading (found files) (replay (restarted files)).files
begun_agrees reading files = record {
  named = λ p pos. ap is_some (find_base [] files p);
  bytes = λ p x counts at. ap sealed_bytes (find_base [] files p) ∙ at;
}
