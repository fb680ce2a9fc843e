-- Laws of opening: a listing, and then a read, while others may act.
use Rattle.std.proofs.Common.{◌≡◌, ◌⊎◌, inl, inr, ℕ, zero, suc, ◌+◌, ◌<◌, ◌≤◌, Bool, true, false, List, [], ◌∷◌, ◌++◌, length, take, drop, Option, Some, None, Result, Ok, Err, is_some, refl, sym, ap, ◌∙◌, subst, arith, nat_lt, if◌then◌else◌}
use Rattle.std.proofs.lemmas.Bool.Decides.{nat_tests}
use Rattle.ice_store.specs.Places.{Parts, is_under}
use Rattle.ice_store.specs.Files.{find, is_named}
use Rattle.ice_store.specs.History.{Disk, replay, later, files_after}
use Rattle.ice_store.specs.Others.{Answered}
use Rattle.ice_store.specs.Calls.{IsListing, NamesAnswer, ReadAnswer, part_of}
use Rattle.ice_store.proofs.OthersLaws.{later-nil}
use Rattle.ice_store.proofs.HistoryLaws.{replay-later}
use Rattle.ice_store.proofs.FileLaws.{by_test}
use Rattle.ice_store.specs.declared.history.Event.{Event}
use Rattle.ice_store.specs.declared.history.Held.{Held}
use Rattle.ice_store.specs.declared.history.Past.{Past}
use Rattle.ice_store.specs.declared.history.Step.{Step}
use Rattle.ice_store.specs.declared.history.Who.TheVariants.{Them}
use Rattle.ice_store.specs.declared.store.Listed.{Listed}
use Rattle.ice_store.specs.declared.store.StoreErr.{StoreErr}
use Rattle.commit_history.specs.Tables.{version, table, sealed_at, sealed_bytes, Whole, IsNumbering}
use Rattle.commit_history.specs.Readings.{Rules, IsLocal}
use Rattle.commit_history.specs.Commits.{standing}
use Rattle.commit_history.specs.Steady.{Steady}
use Rattle.commit_history.specs.Mannered.{IsMannered}
use Rattle.commit_history.specs.Runs.{Ran, IsSafe}
use Rattle.commit_history.specs.Listings.{greatest}
use Rattle.commit_history.proofs.Agreeing.{version_named, table_is}
use Rattle.commit_history.proofs.Following.{standing_disk}
use Rattle.commit_history.proofs.ListingLaws.{listing_version}
use Rattle.commit_history.proofs.Stepping.{them}
use Rattle.commit_history.proofs.Running.{Kept, along_last, ran_turned, ran_then, begins, idle, new_is}
use Rattle.commit_publish.specs.Stages.{Creating, InState}
use Rattle.commit_publish.specs.Steps.{Exactly, Anything}
use Rattle.commit_versions.specs.Opening.{OpenStage, IsLong, IsBeyond, IsBase, IsText, Listed as WasListed, IsOpened, FindLeaves, ReadLeaves, ReadErrOf, ReadOpened, ReadErrLeaves, FoundStage, FoundLeaves, OpenLeaves, file_limit, version_limit}
use Rattle.commit_versions.specs.Latest.{IsFound}
use Rattle.commit_versions.proofs.BeyondLaws.{is_beyond}
use Rattle.std.specs.Prelude.{IfOk}
use Rattle.ice_store.specs.declared.faults.What.TheVariants.{Codec, FormatVersion, Transform, SchemaSize, BlockBytes, ItemCount, FileBytes, GroupBytes, NoManifestList, VersionNumber, Sequence}
use Rattle.ice_store.specs.declared.faults.ReadErr.{ReadErr}
use Rattle.ice_store.specs.declared.faults.ReadErr.TheVariants.{Missing, Damaged, Unsupported, StoreFault, Memory}
use Rattle.commit_versions.specs.declared.types.Opened.{Opened}
use Rattle.commit_versions.specs.declared.types.OpenErr.{OpenErr}
use Rattle.commit_versions.specs.declared.types.OpenErr.TheVariants.{NoTable, LocationDiffers, Read}
use Rattle.commit_versions.specs.declared.types.Found.{Found}
use Rattle.commit_versions.specs.declared.types.Found.TheVariants.{NoVersion, Base, Beyond}
use Rattle.commit_versions.specs.declared.types.VersionFile.TheVariants as texts

-- a prefix that isn't full is all there is
take_short : (n : ℕ) (l : List ℕ) → length (take n l) < n → take n l ≡ l
take_short zero l lt = absurd (omega arith)
take_short (suc n) [] lt = refl
take_short (suc n) (x ∷ l) lt = ap (λ (k : List ℕ). x ∷ k) (take_short n l (omega (arith, lt)))

take_within : (n : ℕ) (l : List ℕ) → length (take n l) ≤ length l
take_within zero l = omega arith
take_within (suc n) [] = omega arith
take_within (suc n) (x ∷ l) = let rest = take_within n l in omega (arith, rest)

drop_none : (l : List ℕ) → drop 0 l ≡ l
drop_none [] = refl
drop_none (x ∷ l) = refl

module _ (rules : Rules) (ruled : IsNumbering rules.reading.number) (localized : IsLocal rules.reading) (mannered : IsMannered rules) where
  abbrev pub number : Parts → ℕ
  number = rules.reading.number

  abbrev pub allows : Past → Step → Type 0
  allows = rules.allows

  abbrev pub RR : (List Step → Type 0) → (Past → Type 0) → Past → Past → Type 0
  RR = Ran rules

  abbrev pub KC : Past → Type 0
  KC = InState (λ d. Creating d.pending)

  abbrev pub KO : Parts → Past → Type 0
  KO base = InState (OpenStage number base)

  abbrev pub Kp : (Past → Type 0) → Type 0
  Kp = Kept rules ruled localized mannered

  kc : Kp KC
  kc past step t may here = subst (λ (d : Disk). Creating d.pending) (sym (replay-later past (them step t ∷ []))) tt

  -- others keep what the listing showed: they publish the next version at most, and then its place is taken
  ko : (base : Parts) → 0 < number base → Kp (KO base)
  ko base pos past step t may here = subst (OpenStage number base) (sym (replay-later past (them step t ∷ []))) (record { pending = tt; last_or_taken = λ target next. last target next (here.last_or_taken target next) })
    where
      last : (target : Parts) → number target ≡ number base + 1 → (version number (replay past).files ≡ number base) ⊎ (is_named (replay past).files target ≡ true)
          → (version number (files_after (replay past).files step Them t) ≡ number base) ⊎ (is_named (files_after (replay past).files step Them t) target ≡ true)
      last target next (inr e) = inr (mannered.stays past step t target may (omega (arith, next)) e)
      last target next (inl e) = elim (mannered.rises past step t may) [
        | inl same ↦ inl (same ∙ e)
        | inr one ↦
            let gs = files_after (replay past).files step Them t in
            let at = version_named number gs (omega (arith, one)) in
            let it : target ≡ at.0 = ruled.single target at.0 (omega (arith, next)) (omega (arith, next, at.1.is, one, e)) in
            inr (subst (λ (p : Parts). is_named gs p ≡ true) (sym it) (ap is_some at.1.stands))
      ]

  pub starts : (K : Past → Type 0) (old : Past) → K old → RR (Exactly []) K old old
  starts = begins rules ruled localized

  pub forget : (K : Past → Type 0) (old now : Past) → RR (Exactly []) K old now → RR (Exactly []) Anything old now
  forget K old now run = ran_turned rules (Exactly []) (Exactly []) K Anything old now run (λ l e. e) (λ h. tt)

  pub turn : (K L : Past → Type 0) (old now : Past) → RR (Exactly []) K old now → (K now → L now) → RR (Exactly []) L old now
  turn K L old now run f = ran_turned rules (Exactly []) (Exactly []) K L old now run (λ l e. e) f

  none_more : (l k : List Step) → l ≡ [] → k ≡ [] → l ++ k ≡ []
  none_more l k a b = ap (λ (x : List Step). x ++ k) a ∙ b

  pub idle_then : (K L : Past → Type 0) (old mid new : Past) → RR (Exactly []) K old mid → RR (Exactly []) L mid new → RR (Exactly []) L old new
  idle_then K L old mid new a b = ran_then rules (Exactly []) (Exactly []) (Exactly []) K L none_more old mid new a b

  -- a call that adds nothing
  module _ (K : Past → Type 0) (kept : Kp K) (old now new : Past) (run : RR (Exactly []) K old now) (A : Disk → List Event → Type 0) (told : Answered allows now (Some new) A) (none : told.ours ≡ []) where
    still : RR (Exactly []) K old new
    still = idle rules ruled localized mannered (Exactly []) K kept old now new run A told none

    same_at : told.reached ≡ new
    same_at = sym (new_is rules ruled localized mannered (Exactly []) K kept old now new run A told ∙ ap (λ (es : List Event). later told.reached es) none ∙ later-nil told.reached)

  -- The listing.

  pub record Listing (dir : Parts) (listed : List Listed) (old now : Past) : Type 0 where
    pub run : RR (Exactly []) KC old now
    pub is : IsListing dir (replay now).files listed

  names_ok : (dir : Parts) (listed : List Listed) (old now new : Past) → RR (Exactly []) KC old now → Answered allows now (Some new) (NamesAnswer dir (Ok listed)) → Listing dir listed old new
  names_ok dir listed old now new run told = record {
    run = still KC kc old now new run (NamesAnswer dir (Ok listed)) told told.answer.1;
    is = subst (λ (p : Past). IsListing dir (replay p).files listed) (same_at KC kc old now new run (NamesAnswer dir (Ok listed)) told told.answer.1) told.answer.0;
  }

  pub names_err : (dir : Parts) (e : StoreErr) (old now new : Past) → RR (Exactly []) KC old now → Answered allows now (Some new) (NamesAnswer dir (Err e)) → RR (Exactly []) Anything old new
  names_err dir e old now new run told = forget KC old new (still KC kc old now new run (NamesAnswer dir (Err e)) told told.answer)

  pub names_any : (dir : Parts) (listed : List Listed) (old now new : Past) → RR (Exactly []) KC old now → Answered allows now (Some new) (NamesAnswer dir (Ok listed)) → RR (Exactly []) Anything old new
  names_any dir listed old now new run told = forget KC old new (still KC kc old now new run (NamesAnswer dir (Ok listed)) told told.answer.1)

  module _ (dir : Parts) (within : (p : Parts) → 0 < number p → is_under p dir ≡ true) (listed : List Listed) (old now : Past) (l : Listing dir listed old now) where
    last_is : version number (replay now).files ≡ greatest number listed
    last_is = sym (listing_version number dir within (replay now).files listed l.is)

    module _ (base : Parts) (pos : 0 < number base) (found : number base ≡ greatest number listed) where
      last_base : version number (replay now).files ≡ number base
      last_base = last_is ∙ sym found

      at_listing : RR (Exactly []) (KO base) old now
      at_listing = turn KC (KO base) old now l.run (λ h. record { pending = h; last_or_taken = λ target next. inl last_base })

      base_named : is_named (replay now).files base ≡ true
      base_named =
          let fs = (replay now).files in
          let at = version_named number fs (omega (arith, last_base, pos)) in
          let it : base ≡ at.0 = ruled.single base at.0 pos (sym last_base ∙ sym at.1.is) in
          subst (λ (p : Parts). is_named fs p ≡ true) (sym it) (ap is_some at.1.stands)

      -- in a whole map the version's file is sealed
      sealed_base : (fs : List Held) → Whole rules.reading fs → version number fs ≡ number base → (b : List ℕ) × (sealed_at fs base ≡ Some b)
      sealed_base fs (inl none) is = absurd (omega (arith, none, is, pos))
      sealed_base fs (inr good) is =
          let at = version_named number fs (omega (arith, is, pos)) in
          let it : base ≡ at.0 = ruled.single base at.0 pos (sym is ∙ sym at.1.is) in
          (good.bytes, subst (λ (p : Parts). sealed_at fs p ≡ Some good.bytes) (sym it) (sym (table_is number ruled fs at.0 at.1 (omega (arith, is, pos))) ∙ good.is))

      base_at : Steady rules.reading (standing number old) → (b : List ℕ) × (sealed_at (replay now).files base ≡ Some b)
      base_at steady =
          let s = along_last (IsSafe rules.reading) old l.run.events (l.run.safe steady) in
          let here : Steady rules.reading (standing number now) = subst (λ p. Steady rules.reading (standing number p)) (sym l.run.is) s.steady in
          sealed_base (replay now).files (subst (λ (d : Disk). Whole rules.reading d.files) (standing_disk number now) here.whole) last_base

      is_base : number base < version_limit → IsBase rules base old now
      is_base below = record { positive = pos; below = below; run = at_listing; last = last_base; named = base_named; sealed = base_at }

    pub found_ok : (f : Found) → IsFound number listed f → FindLeaves rules (Ok f) old now
    found_ok NoVersion none = turn KC (InState (λ d. version number d.files ≡ 0)) old now l.run (λ h. last_is ∙ none)
    found_ok (Base base v) (is, greatest_is) = is_base base (omega (arith, is.is, is.positive)) (is.is ∙ greatest_is) (omega (arith, is.is, is.below))
    found_ok (Beyond place) (beyond, all) = turn KC (InState (λ d. IsBeyond number place d.files)) old now l.run (λ h. is_beyond dir number within (replay now).files listed l.is place beyond (record { place = place; ms = 0; size = 0 }) (omega (arith, all, last_is)))

  pub find_ok : (dir : Parts) (within : (p : Parts) → 0 < number p → is_under p dir ≡ true) (listed : List Listed) (f : Found) → IsFound number listed f → (old now new : Past) → RR (Exactly []) KC old now
      → Answered allows now (Some new) (NamesAnswer dir (Ok listed)) → FindLeaves rules (Ok f) old new
  find_ok dir within listed f is old now new run told = found_ok dir within listed old new (names_ok dir listed old now new run told) f is

  -- The read.

  module _ (base : Parts) (pos : 0 < number base) where
    pub read_err : (n : ℕ) (e : StoreErr) (old now new : Past) → RR (Exactly []) (KO base) old now → Answered allows now (Some new) (ReadAnswer base 0 n (Err e)) → RR (Exactly []) Anything old new
    read_err n e old now new run told = forget (KO base) old new (still (KO base) (ko base pos) old now new run (ReadAnswer base 0 n (Err e)) told told.answer)

    module _ (n : ℕ) (r : Option (List ℕ)) (old new : Past) (here : KO base old) (told : Answered allows old (Some new) (ReadAnswer base 0 n (Ok r))) where
      abbrev pub begun : RR (Exactly []) (KO base) old old
      begun = starts (KO base) old here

      read_run : RR (Exactly []) (KO base) old new
      read_run = still (KO base) (ko base pos) old old new begun (ReadAnswer base 0 n (Ok r)) told told.answer.1

      read_same : told.reached ≡ new
      read_same = same_at (KO base) (ko base pos) old old new begun (ReadAnswer base 0 n (Ok r)) told told.answer.1

      read_at_new : r ≡ part_of 0 n (find (replay new).files base)
      read_at_new = subst (λ (p : Past). r ≡ part_of 0 n (find (replay p).files base)) read_same told.answer.0

      kept_sealed : (b : List ℕ) → sealed_at (replay old).files base ≡ Some b → sealed_at (replay new).files base ≡ Some b
      kept_sealed b at = read_run.stays base b pos at

    absent_by : (o : Option Held) (n : ℕ) → None ≡ part_of 0 n o → is_some o ≡ false
    absent_by None n e = refl
    absent_by (Some h) n e = absurd (cc (e))

    pub read_absent : (n : ℕ) (old new : Past) → KO base old → Answered allows old (Some new) (ReadAnswer base 0 n (Ok None)) → RR (Exactly []) (InState (λ d. is_named d.files base ≡ false)) old new
    read_absent n old new here told = turn (KO base) (InState (λ d. is_named d.files base ≡ false)) old new (read_run n None old new here told) (λ k. absent_by (find (replay new).files base) n (read_at_new n None old new here told))

    -- a file whose first bytes are these
    pub record Fronts (n : ℕ) (text : List ℕ) (fs : List Held) : Type 0 where
      pub file : Held
      pub stands : find fs base ≡ Some file
      pub front : text ≡ take n file.bytes

    fronts_by : (fs : List Held) (n : ℕ) (text : List ℕ) (o : Option Held) → find fs base ≡ o → Some text ≡ part_of 0 n o → Fronts n text fs
    fronts_by fs n text None e f = absurd (cc (f))
    fronts_by fs n text (Some h) e f = record { file = h; stands = e; front = let g : text ≡ take n (drop 0 h.bytes) = cc (f) in g ∙ ap (take n) (drop_none h.bytes) }

    -- over any limit, of which a read asks for one byte more
    module _ (limit n : ℕ) (more : n ≡ limit + 1) (text : List ℕ) (old new : Past) (here : KO base old) (told : Answered allows old (Some new) (ReadAnswer base 0 n (Ok (Some text)))) where
      fronts : Fronts n text (replay new).files
      fronts = fronts_by (replay new).files n text (find (replay new).files base) refl (read_at_new n (Some text) old new here told)

      longer : limit < length text → limit < length fronts.file.bytes
      longer lt = let within = take_within n fronts.file.bytes in let same = ap length fronts.front in omega (arith, lt, same, within)

      module _ (le : length text ≤ limit) where
        all_of : fronts.file.bytes ≡ text
        all_of = let same = ap length fronts.front in sym (fronts.front ∙ take_short n fronts.file.bytes (omega (arith, le, same, more)))

        sealed_is : (h : Held) (b : List ℕ) → sealed_bytes (Some h) ≡ Some b → h.bytes ≡ b
        sealed_is h b e = by_mark h.is_sealed refl
          where
            by_mark : (m : Bool) → h.is_sealed ≡ m → h.bytes ≡ b
            by_mark true k = let f : Some h.bytes ≡ Some b = rw k at e in cc (f)
            by_mark false k = let f : None ≡ Some b = rw k at e in absurd (cc (f))

        still_sealed : (b : List ℕ) → sealed_at (replay old).files base ≡ Some b → sealed_at (replay new).files base ≡ Some text
        still_sealed b at =
            let there = kept_sealed n (Some text) old new here told b at in
            let is : fronts.file.bytes ≡ b = sealed_is fronts.file b (sym (ap sealed_bytes fronts.stands) ∙ there) in
            there ∙ ap (λ (x : List ℕ). Some x) (sym is ∙ all_of)

    module _ (limit : ℕ) (same_limit : limit ≡ file_limit) (n : ℕ) (more : n ≡ limit + 1) (text : List ℕ) (old new : Past) (here : KO base old) (told : Answered allows old (Some new) (ReadAnswer base 0 n (Ok (Some text)))) where
      long : limit < length text → ReadLeaves rules base (Ok texts.TooLong) old new
      long lt =
          let f = fronts limit n more text old new here told in
          turn (KO base) (InState (λ d. IsLong base d.files)) old new (read_run n (Some text) old new here told)
          (λ k. record { file = f.file; stands = f.stands; long = subst (λ (m : ℕ). m < length f.file.bytes) same_limit (longer limit n more text old new here told lt) })

      whole : length text ≤ limit → ReadLeaves rules base (Ok (texts.Whole text)) old new
      whole le =
          let f = fronts limit n more text old new here told in
          record {
            run = read_run n (Some text) old new here told;
            file = record { file = f.file; stands = f.stands; bytes_is = all_of limit n more text old new here told le };
            short = subst (λ (m : ℕ). length text ≤ m) same_limit le;
            sealed = still_sealed limit n more text old new here told le;
          }

      pub read_ok : ReadLeaves rules base (Ok (if nat_lt limit (length text) then texts.TooLong else texts.Whole text)) old new
      read_ok = by_test (nat_lt limit (length text))
          (λ e. rw e (long (grind (arith, nat_tests))))
          (λ e. rw e (whole (grind (arith, nat_tests))))

  -- Both.

  pub opened : (base : Parts) (text : List ℕ) (old mid new : Past) → IsBase rules base old mid → IsText rules base text mid new → IsOpened rules base text old new
  opened base text old mid new b t = record {
    listed = record { positive = b.positive; below = b.below; listed = mid; listing = forget (KO base) old mid b.run; behind = forget (KO base) mid new t.run; last = b.last; named = b.named; run = idle_then (KO base) (KO base) old mid new b.run t.run };
    file = t.file;
    short = t.short;
    sealed = λ steady. let s = b.sealed steady in t.sealed s.0 s.1;
  }

  pub listed_then : (base : Parts) (K : Past → Type 0) (old mid new : Past) → IsBase rules base old mid → RR (Exactly []) K mid new → WasListed rules base K old new
  listed_then base K old mid new b run = record { positive = b.positive; below = b.below; listed = mid; listing = forget (KO base) old mid b.run; behind = forget K mid new run; last = b.last; named = b.named; run = idle_then (KO base) K old mid new b.run run }

  pub idle_after : (base : Parts) (old mid new : Past) → IsBase rules base old mid → RR (Exactly []) Anything mid new → RR (Exactly []) Anything old new
  idle_after base old mid new b run = idle_then (KO base) Anything old mid new b.run run

  -- Both calls, by their answers.

  abbrev pub Found_ : Result Found StoreErr → Past → Past → Type 0
  Found_ = FindLeaves rules

  pub find_by : (dir : Parts) (within : (p : Parts) → 0 < number p → is_under p dir ≡ true) (listed : List Listed) (r : Result Found StoreErr) → IfOk r (IsFound number listed) → (old now new : Past) → RR (Exactly []) KC old now
      → Answered allows now (Some new) (NamesAnswer dir (Ok listed)) → Found_ r old new
  find_by dir within listed (Ok f) is old now new run told = find_ok dir within listed f is old now new run told
  find_by dir within listed (Err e) is old now new run told = names_any dir listed old now new run told

  module _ (table base : Parts) (old mid new : Past) (b : IsBase rules base old mid) where
    read_err_by : (e : ReadErr) → ReadErrOf rules base e mid new → ReadErrLeaves rules e old new
    read_err_by (Missing place) r = subst (λ (p : Parts). WasListed rules p (InState (λ d. is_named d.files p ≡ false)) old new) (sym r.0) (listed_then base (InState (λ d. is_named d.files base ≡ false)) old mid new b r.1)
    read_err_by (Damaged place at) r = absurd r
    read_err_by (Unsupported place FileBytes) r = subst (λ (p : Parts). WasListed rules p (InState (λ d. IsLong p d.files)) old new) (sym r.0) (listed_then base (InState (λ d. IsLong base d.files)) old mid new b r.1)
    read_err_by (Unsupported place VersionNumber) r = absurd r
    read_err_by (Unsupported place Codec) r = absurd r
    read_err_by (Unsupported place FormatVersion) r = absurd r
    read_err_by (Unsupported place Transform) r = absurd r
    read_err_by (Unsupported place SchemaSize) r = absurd r
    read_err_by (Unsupported place BlockBytes) r = absurd r
    read_err_by (Unsupported place ItemCount) r = absurd r
    read_err_by (Unsupported place GroupBytes) r = absurd r
    read_err_by (Unsupported place NoManifestList) r = absurd r
    read_err_by (Unsupported place Sequence) r = absurd r
    read_err_by (StoreFault place) r = idle_after base old mid new b r
    read_err_by Memory r = idle_after base old mid new b r

    pub opened_by : (r : Result Opened OpenErr) → ReadOpened rules base r mid new → OpenLeaves rules table r old new
    opened_by (Ok o) (at_base, text) = subst (λ (p : Parts). IsOpened rules p o.text old new) (sym at_base) (opened base o.text old mid new b text)
    opened_by (Err (NoTable place)) r = absurd r
    opened_by (Err (LocationDiffers place location)) r = absurd r
    opened_by (Err (Read e)) r = read_err_by e r

  -- where the next call begins
  pub stage_of : (f : Found) (old now : Past) → Found_ (Ok f) old now → FoundStage number f now
  stage_of NoVersion old now h = tt
  stage_of (Base base v) old now h = h.run.stage
  stage_of (Beyond place) old now h = tt

  pub found_then : (table : Parts) (f : Found) (r : Result Opened OpenErr) (old mid new : Past) → Found_ (Ok f) old mid → FoundLeaves rules table f r mid new → OpenLeaves rules table r old new
  found_then table NoVersion r old mid new a b =
      subst (λ (x : Result Opened OpenErr). OpenLeaves rules table x old new) (sym b.0)
      (refl, subst (λ (p : Past). RR (Exactly []) (InState (λ d. version number d.files ≡ 0)) old p) (sym b.1) a)
  found_then table (Base base v) r old mid new a b = opened_by table base old mid new a r b
  found_then table (Beyond place) r old mid new a b =
      subst (λ (x : Result Opened OpenErr). OpenLeaves rules table x old new) (sym b.0)
      (subst (λ (p : Past). RR (Exactly []) (InState (λ d. IsBeyond number place d.files)) old p) (sym b.1) a)
