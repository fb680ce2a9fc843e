-- No two told answers of an opening, or of a commit, have their causes in the same files.
use Rattle.std.proofs.Common.{◌≡◌, ◌⊎◌, inl, inr, ℕ, ◌+◌, ◌<◌, ◌≤◌, true, false, List, [], ◌∷◌, ◌++◌, length, Option, Some, None, Result, Ok, Err, refl, sym, ap, ◌∙◌, subst, arith}
use Rattle.std.proofs.lemmas.List.{append_cancel_left}
use Rattle.serde_json.specs.Data.{Data}
use Rattle.serde_json.specs.View.{view}
use Rattle.serde_json.specs.Written.{compact_text}
use Rattle.ice_store.specs.Places.{Parts, place_in}
use Rattle.ice_store.specs.Given.{Gives}
use Rattle.ice_store.specs.declared.history.Held.{Held}
use Rattle.ice_store.specs.declared.faults.What.{What}
use Rattle.ice_store.specs.declared.faults.What.TheVariants.{Codec, FormatVersion, Transform, SchemaSize, BlockBytes, ItemCount, FileBytes, GroupBytes, NoManifestList, VersionNumber, Sequence}
use Rattle.ice_store.specs.declared.faults.Where.{Where}
use Rattle.ice_store.specs.declared.faults.Where.TheVariants.{Path}
use Rattle.ice_store.specs.declared.faults.ReadErr.TheVariants.{Missing, Damaged, Unsupported, StoreFault, Memory}
use Rattle.commit_history.specs.Tables.{version}
use Rattle.commit_history.specs.Versions.{number_in}
use Rattle.commit_history.proofs.Numbering.{numbering}
use Rattle.metadata_form.specs.declared.fault.Fault.{Fault}
use Rattle.table_metadata.specs.Spelling.{Spells}
use Rattle.table_metadata.proofs.SpellingLaws.{one_fault, no_fault_of}
use Rattle.metadata_view.specs.View.{location_of}
use Rattle.table_metadata.specs.Edits.{next_version}
use Rattle.commit_publish.specs.Kinds as kinds
use Rattle.commit_protocol.specs.Kinds.{attempt_kind}
use Rattle.commit_versions.specs.Names.{version_text_of}
use Rattle.commit_versions.specs.Opening.{FileIs, IsBeyond, file_limit}
use Rattle.commit_versions.specs.declared.types.OpenErr.{OpenErr}
use Rattle.commit_versions.specs.declared.types.OpenErr.TheVariants.{NoTable, LocationDiffers, Read}
use Rattle.commit_versions.proofs.FirstPlace.{one_first}
use Rattle.commit_protocol.specs.Meanings.{Meanings}
use Rattle.commit_protocol.specs.Metadata.{IsMetadata, IsElsewhere, IsDamaged, IsUnsupported, unsupported}
use Rattle.commit_protocol.specs.Attempts.{IsNextOf, limit_path}
use Rattle.commit_protocol.specs.Prepares.{named_beside}
use Rattle.commit_protocol.specs.Written.{draft_at}
use Rattle.commit_protocol.specs.Verdicts.{IsLastFile, IsTable, LimitVerdict, OpenVerdict, Shown, opening_shown, IsOpeningTold, OnBase, IsShort, IsLongText, DrawsUp, CommitVerdict, IsTold, IsDecided, IsOneDrawn}
use Rattle.commit_protocol.specs.declared.opening.At.{At}
use Rattle.commit_protocol.specs.declared.errors.AttemptErr.{AttemptErr}
use Rattle.commit_protocol.specs.declared.errors.AttemptErr.TheVariants as attempts
use Rattle.commit_protocol.specs.declared.errors.CommitErr.{CommitErr}
use Rattle.commit_protocol.specs.declared.errors.CommitErr.TheVariants.{Open, Attempt, Contended, CommitUnknown}
use Rattle.commit_protocol.specs.declared.errors.Committed.{Committed}
use Rattle.commit_protocol.specs.declared.errors.Committed.TheVariants.{Same, Published}

-- refused bytes spell nothing
damaged_unspelled : (bytes : List ℕ) (at : Where) (tree : Data) → IsDamaged bytes at → Spells bytes tree → ⊥
damaged_unspelled bytes at tree x spells = no_fault_of bytes tree x.path x.cause spells x.fault

unsupported_unspelled : (bytes : List ℕ) (of : What) (tree : Data) → IsUnsupported bytes of → Spells bytes tree → ⊥
unsupported_unspelled bytes of tree x spells = no_fault_of bytes tree x.path x.cause spells x.fault

-- and are refused in one way
damaged_once : (bytes : List ℕ) (a b : Where) → IsDamaged bytes a → IsDamaged bytes b → a ≡ b
damaged_once bytes a b x y =
    let same = one_fault bytes x.path y.path x.cause y.cause x.fault y.fault in
    let paths : x.path ≡ y.path = ap (λ (f : Fault). f.path) same in
    x.there ∙ ap Path paths ∙ sym y.there

unsupported_once : (bytes : List ℕ) (a b : What) → IsUnsupported bytes a → IsUnsupported bytes b → a ≡ b
unsupported_once bytes a b x y =
    let same = one_fault bytes x.path y.path x.cause y.cause x.fault y.fault in
    let causes : x.cause ≡ y.cause = ap (λ (f : Fault). f.cause) same in
    let told : Some a ≡ Some b = sym x.told ∙ ap unsupported causes ∙ y.told in
    cc (told)

damaged_or_unsupported : (bytes : List ℕ) (at : Where) (of : What) → IsDamaged bytes at → IsUnsupported bytes of → ⊥
damaged_or_unsupported bytes at of x y =
    let same = one_fault bytes x.path y.path x.cause y.cause x.fault y.fault in
    let causes : x.cause ≡ y.cause = ap (λ (f : Fault). f.cause) same in
    let told : None ≡ Some of = sym x.told ∙ ap unsupported causes ∙ y.told in
    absurd (cc (told))

one_tree : (bytes : List ℕ) (a b : Data) → Spells bytes a → Spells bytes b → a ≡ b
one_tree bytes a b x y = cc (x.json, y.json)

one_file : (files : List Held) (place : Parts) (a b : List ℕ) → FileIs place a files → FileIs place b files → a ≡ b
one_file files place a b x y =
    let same : x.file ≡ y.file = cc (x.stands, y.stands) in
    sym x.bytes_is ∙ ap (λ (h : Held). h.bytes) same ∙ y.bytes_is

-- An opening.
module _ (table : Parts) (files : List Held) where
  abbrev pub Answer : Type 0
  Answer = Result Shown OpenErr

  -- the bytes of the last version's file are refused
  abbrev pub RefusedCase : Parts → List ℕ → Answer → Type 0
  RefusedCase place bytes r = ((at : Where) × IsDamaged bytes at × (r ≡ Err (Read (Damaged place at))))
      ⊎ ((of : What) × IsUnsupported bytes of × (r ≡ Err (Read (Unsupported place of))))

  -- the last version's file isn't too long
  abbrev pub ShortCase : Parts → ℕ → List ℕ → Answer → Type 0
  ShortCase place last bytes r = RefusedCase place bytes r
      ⊎ (((location : List ℕ) × IsElsewhere table bytes location × (r ≡ Err (LocationDiffers table location)))
      ⊎ ((tree : Data) × IsMetadata table bytes tree × (r ≡ Ok (record { place = place; last = last; bytes = bytes; tree = tree }))))

  abbrev pub LastCase : Parts → ℕ → List ℕ → Answer → Type 0
  LastCase place last bytes r = ((file_limit < length bytes) × (r ≡ Err (Read (Unsupported place FileBytes)))) ⊎ ((length bytes ≤ file_limit) × ShortCase place last bytes r)

  pub record InLast (r : Answer) : Type 0 where
    pub place : Parts
    pub last : ℕ
    pub bytes : List ℕ
    pub file : IsLastFile table files place last bytes
    pub which : LastCase place last bytes r

  -- the three cases of an opening: no version, one beyond the limit, or a last version
  abbrev pub OpenCase : Answer → Type 0
  OpenCase r = ((version (number_in table) files ≡ 0) × (r ≡ Err (NoTable table)))
      ⊎ (((place : Parts) × IsBeyond (number_in table) place files × (r ≡ Err (Read (Unsupported place VersionNumber)))) ⊎ InLast r)

  limit_case : (place : Parts) (what : What) → LimitVerdict table files place what → OpenCase (Err (Read (Unsupported place what)))
  limit_case place VersionNumber v = inr (inl (place, v, refl))
  limit_case place FileBytes v = inr (inr (record { place = place; last = v.last; bytes = v.bytes; file = v.file; which = inl (v.long, refl) }))
  limit_case place Codec v = absurd v
  limit_case place FormatVersion v = absurd v
  limit_case place Transform v = absurd v
  limit_case place SchemaSize v = absurd v
  limit_case place BlockBytes v = absurd v
  limit_case place ItemCount v = absurd v
  limit_case place GroupBytes v = absurd v
  limit_case place NoManifestList v = absurd v
  limit_case place Sequence v = absurd v

  pub case_of : (r : Result At OpenErr) → IsOpeningTold r → OpenVerdict table files r → OpenCase (opening_shown r)
  case_of (Ok at) told v = inr (inr (record { place = at.place; last = at.version; bytes = at.text; file = v.file; which = inr (v.short, inr (inr (view at.meta, v.metadata, refl))) }))
  case_of (Err (NoTable place)) told v = inl (v.1, ap (λ (p : Parts). Err (NoTable p)) v.0)
  case_of (Err (LocationDiffers place location)) told v =
      let h = v.1 in inr (inr (record { place = h.place; last = h.last; bytes = h.bytes; file = h.file; which = inr (h.short, inr (inl (location, h.holds, ap (λ (p : Parts). Err (LocationDiffers p location)) v.0))) }))
  case_of (Err (Read (Missing place))) told v = absurd v
  case_of (Err (Read (Damaged place at))) told v = inr (inr (record { place = v.place; last = v.last; bytes = v.bytes; file = v.file; which = inr (v.short, inl (inl (at, v.holds.1, ap (λ (p : Parts). Err (Read (Damaged p at))) v.holds.0))) }))
  case_of (Err (Read (Unsupported place what))) told (inl v) = limit_case place what v
  case_of (Err (Read (Unsupported place what))) told (inr v) = inr (inr (record { place = v.place; last = v.last; bytes = v.bytes; file = v.file; which = inr (v.short, inl (inr (what, v.holds.1, ap (λ (p : Parts). Err (Read (Unsupported p what))) v.holds.0))) }))
  case_of (Err (Read (StoreFault place))) told v = absurd told
  case_of (Err (Read Memory)) told v = absurd told

  pub case_of_table : (place : Parts) (last : ℕ) (bytes : List ℕ) (tree : Data) → IsTable table files place last bytes tree → OpenCase (Ok (record { place = place; last = last; bytes = bytes; tree = tree }))
  case_of_table place last bytes tree t = inr (inr (record { place = place; last = last; bytes = bytes; file = t.file; which = inr (t.short, inr (inr (tree, t.metadata, refl))) }))

  one_refusal : (place : Parts) (bytes : List ℕ) (r s : Answer) → RefusedCase place bytes r → RefusedCase place bytes s → r ≡ s
  one_refusal place bytes r s (inl a) (inl b) = a.2 ∙ ap (λ (w : Where). Err (Read (Damaged place w))) (damaged_once bytes a.0 b.0 a.1 b.1) ∙ sym b.2
  one_refusal place bytes r s (inl a) (inr b) = absurd (damaged_or_unsupported bytes a.0 b.0 a.1 b.1)
  one_refusal place bytes r s (inr a) (inl b) = absurd (damaged_or_unsupported bytes b.0 a.0 b.1 a.1)
  one_refusal place bytes r s (inr a) (inr b) = a.2 ∙ ap (λ (w : What). Err (Read (Unsupported place w))) (unsupported_once bytes a.0 b.0 a.1 b.1) ∙ sym b.2

  refused_unspelled : (place : Parts) (bytes : List ℕ) (r : Answer) (tree : Data) → RefusedCase place bytes r → Spells bytes tree → ⊥
  refused_unspelled place bytes r tree (inl a) spells = damaged_unspelled bytes a.0 tree a.1 spells
  refused_unspelled place bytes r tree (inr a) spells = unsupported_unspelled bytes a.0 tree a.1 spells

  one_short : (place : Parts) (last : ℕ) (bytes : List ℕ) (r s : Answer) → ShortCase place last bytes r → ShortCase place last bytes s → r ≡ s
  one_short place last bytes r s (inl a) (inl b) = one_refusal place bytes r s a b
  one_short place last bytes r s (inl a) (inr (inl b)) = absurd (refused_unspelled place bytes r b.1.tree a b.1.spells)
  one_short place last bytes r s (inl a) (inr (inr b)) = absurd (refused_unspelled place bytes r b.0 a b.1.spells)
  one_short place last bytes r s (inr (inl a)) (inl b) = absurd (refused_unspelled place bytes s a.1.tree b a.1.spells)
  one_short place last bytes r s (inr (inr a)) (inl b) = absurd (refused_unspelled place bytes s a.0 b a.1.spells)
  one_short place last bytes r s (inr (inl a)) (inr (inl b)) =
      let trees : a.1.tree ≡ b.1.tree = one_tree bytes a.1.tree b.1.tree a.1.spells b.1.spells in
      let locations : a.0 ≡ b.0 = a.1.says ∙ ap location_of trees ∙ sym b.1.says in
      a.2 ∙ ap (λ (l : List ℕ). Err (LocationDiffers table l)) locations ∙ sym b.2
  one_short place last bytes r s (inr (inl a)) (inr (inr b)) = absurd (apart a.0 b.0 a.1 b.1)
    where
      apart : (location : List ℕ) (tree : Data) → IsElsewhere table bytes location → IsMetadata table bytes tree → ⊥
      apart location tree x y = x.elsewhere (ap place_in (x.says ∙ ap location_of (one_tree bytes x.tree tree x.spells y.spells)) ∙ y.here)
  one_short place last bytes r s (inr (inr a)) (inr (inl b)) = absurd (apart b.0 a.0 b.1 a.1)
    where
      apart : (location : List ℕ) (tree : Data) → IsElsewhere table bytes location → IsMetadata table bytes tree → ⊥
      apart location tree x y = x.elsewhere (ap place_in (x.says ∙ ap location_of (one_tree bytes x.tree tree x.spells y.spells)) ∙ y.here)
  one_short place last bytes r s (inr (inr a)) (inr (inr b)) = a.2 ∙ ap (λ (t : Data). Ok (record { place = place; last = last; bytes = bytes; tree = t })) (one_tree bytes a.0 b.0 a.1.spells b.1.spells) ∙ sym b.2

  one_by_last : (place : Parts) (last : ℕ) (bytes : List ℕ) (r s : Answer) → LastCase place last bytes r → LastCase place last bytes s → r ≡ s
  one_by_last place last bytes r s (inl a) (inl b) = a.1 ∙ sym b.1
  one_by_last place last bytes r s (inl a) (inr b) = absurd (omega (arith, a.0, b.0))
  one_by_last place last bytes r s (inr a) (inl b) = absurd (omega (arith, a.0, b.0))
  one_by_last place last bytes r s (inr a) (inr b) = one_short place last bytes r s a.1 b.1

  same_last : (p q : Parts) (v w : ℕ) (x y : List ℕ) → IsLastFile table files p v x → IsLastFile table files q w y → (p ≡ q) × (v ≡ w) × (x ≡ y)
  same_last p q v w x y a b =
      let places : p ≡ q = (numbering table).single p q (omega (arith, a.numbers.is, a.numbers.positive)) (a.numbers.is ∙ sym a.is_last ∙ b.is_last ∙ sym b.numbers.is) in
      (places, sym a.is_last ∙ b.is_last, one_file files q x y (subst (λ (z : Parts). FileIs z x files) places a.file) b.file)

  one_last : (r s : Answer) → InLast r → InLast s → r ≡ s
  one_last r s a b =
      let same = same_last a.place b.place a.last b.last a.bytes b.bytes a.file b.file in
      let by_place = subst (λ (p : Parts). LastCase p b.last b.bytes s) (sym same.0) b.which in
      let by_last = subst (λ (v : ℕ). LastCase a.place v b.bytes s) (sym same.1) by_place in
      one_by_last a.place a.last a.bytes r s a.which (subst (λ (x : List ℕ). LastCase a.place a.last x s) (sym same.2) by_last)

  pub one_case : (r s : Answer) → OpenCase r → OpenCase s → r ≡ s
  one_case r s (inl a) (inl b) = a.1 ∙ sym b.1
  one_case r s (inl a) (inr (inl b)) = absurd (omega (arith, a.0, b.1.last))
  one_case r s (inl a) (inr (inr b)) = absurd (omega (arith, a.0, b.file.is_last, b.file.numbers.positive))
  one_case r s (inr (inl a)) (inl b) = absurd (omega (arith, b.0, a.1.last))
  one_case r s (inr (inl a)) (inr (inl b)) =
      let places : a.0 ≡ b.0 = one_first table a.0 b.0 (omega (arith, a.1.beyond)) (omega (arith, b.1.beyond)) (b.1.first a.0 a.1.named a.1.beyond) (a.1.first b.0 b.1.named b.1.beyond) in
      a.2 ∙ ap (λ (p : Parts). Err (Read (Unsupported p VersionNumber))) places ∙ sym b.2
  one_case r s (inr (inl a)) (inr (inr b)) = absurd (omega (arith, a.1.last, b.file.is_last, b.file.numbers.below))
  one_case r s (inr (inr a)) (inl b) = absurd (omega (arith, b.0, a.file.is_last, a.file.numbers.positive))
  one_case r s (inr (inr a)) (inr (inl b)) = absurd (omega (arith, b.1.last, a.file.is_last, a.file.numbers.below))
  one_case r s (inr (inr a)) (inr (inr b)) = one_last r s a b

  pub one_opening_of : (r s : Result At OpenErr) → IsOpeningTold r → IsOpeningTold s → OpenVerdict table files r → OpenVerdict table files s → opening_shown r ≡ opening_shown s
  one_opening_of r s told_r told_s v w = one_case (opening_shown r) (opening_shown s) (case_of r told_r v) (case_of s told_s w)

-- a source that tells gives one value
pub one_given : (before : Option (List ℕ)) (values : List ℕ) → IsOneDrawn (Gives before (Some values))
one_given before values a b x y =
    let same : x.0 ≡ y.0 = cc (x.1, y.1) in
    let ends : x.0 ++ a ∷ [] ≡ x.0 ++ b ∷ [] = sym x.2 ∙ y.2 ∙ ap (λ (l : List ℕ). l ++ b ∷ []) (sym same) in
    cc (append_cancel_left x.0 (a ∷ []) (b ∷ []) ends)

-- A commit.
module _ (Needs : Data → Type 0) (table : Parts) (now : ℕ) (meanings : Meanings) (Drawn : ℕ → Type 0) (decided : IsDecided meanings) (one_drawn : IsOneDrawn Drawn) (files : List Held) where
  abbrev pub Commit : Type 0
  Commit = Result Committed CommitErr

  -- a new file is drawn up: it is too long, its name is taken, or it is published
  abbrev pub DraftCase : ℕ → Parts → ℕ → Commit → Type 0
  DraftCase last draft size r = ((file_limit < size) × (r ≡ Err (Attempt (attempts.Read (Unsupported draft FileBytes)))))
      ⊎ ((size ≤ file_limit) × (((named_beside meanings.made files draft ≡ true) × (r ≡ Err (Attempt (attempts.NameTaken draft)))) ⊎ ((named_beside meanings.made files draft ≡ false) × (r ≡ Ok (Published (last + 1))))))

  pub record InDraft (last : ℕ) (tree : Data) (r : Commit) : Type 0 where
    pub id : ℕ
    pub drawn : Drawn id
    pub next : Data
    pub is : IsNextOf meanings.successor last now tree next
    pub which : DraftCase last (draft_at table id) (length (compact_text next)) r

  -- the change refused the base, by an error that is told
  pub record Refuses (tree : Data) (r : Commit) : Type 0 where
    pub e : AttemptErr
    pub told : attempt_kind e ≡ kinds.Told
    pub so : meanings.refuses tree e
    pub is : r ≡ Err (Attempt e)

  abbrev pub MadeCase : ℕ → Data → Commit → Type 0
  MadeCase last tree r = (meanings.same tree × (r ≡ Ok (Same last))) ⊎ (Refuses tree r ⊎ InDraft last tree r)

  abbrev pub BaseCase : Parts → ℕ → Data → Commit → Type 0
  BaseCase place last tree r = ((Needs tree → ⊥) × (r ≡ Err (Attempt (attempts.Read (Damaged place (Path limit_path)))))) ⊎ (Needs tree × MadeCase last tree r)

  pub record InBase (r : Commit) : Type 0 where
    pub place : Parts
    pub last : ℕ
    pub bytes : List ℕ
    pub tree : Data
    pub is : IsTable table files place last bytes tree
    pub which : BaseCase place last tree r

  -- the two cases of a commit: the table isn't opened, or it is
  abbrev pub CommitCase : Commit → Type 0
  CommitCase r = ((e : OpenErr) × OpenCase table files (Err e) × (r ≡ Err (Open e))) ⊎ InBase r

  abbrev pub Verdict : Commit → Type 0
  Verdict = CommitVerdict Needs meanings Drawn table now files

  abbrev pub Draws : (ℕ → Type 0) → ℕ → Data → Parts → Type 0
  Draws = DrawsUp meanings.successor Drawn table now

  module _ (r : Commit) (P : ℕ → Data → Type 0) (b : OnBase Needs table files P) where
    made_in : MadeCase b.last b.tree r → CommitCase r
    made_in which = inr (record { place = b.place; last = b.last; bytes = b.bytes; tree = b.tree; is = b.is; which = inr (b.has, which) })

    draft_in : (Long : ℕ → Type 0) (draft : Parts) (d : Draws Long b.last b.tree draft) → DraftCase b.last draft (length (compact_text d.next)) r → CommitCase r
    draft_in Long draft d which = made_in (inr (inr (record { id = d.id; drawn = d.drawn; next = d.next; is = d.is; which = subst (λ (p : Parts). DraftCase b.last p (length (compact_text d.next)) r) d.place which })))

  refused_in : (e : AttemptErr) (P : ℕ → Data → Type 0) (b : OnBase Needs table files P) → attempt_kind e ≡ kinds.Told → meanings.refuses b.tree e → CommitCase (Err (Attempt e))
  refused_in e P b told so = made_in (Err (Attempt e)) P b (inr (inl (record { e = e; told = told; so = so; is = refl })))

  taken_in : (place : Parts) (P : ℕ → Data → Type 0) (b : OnBase Needs table files P) → meanings.refuses b.tree (attempts.NameTaken place) ⊎ (Draws IsShort b.last b.tree place × (named_beside meanings.made files place ≡ true)) → CommitCase (Err (Attempt (attempts.NameTaken place)))
  taken_in place P b (inl so) = refused_in (attempts.NameTaken place) P b refl so
  taken_in place P b (inr (d, named)) = draft_in (Err (Attempt (attempts.NameTaken place))) P b IsShort place d (inr (d.length_is, inl (named, refl)))

  long_in : (place : Parts) (what : What) (P : ℕ → Data → Type 0) (b : OnBase Needs table files P) → meanings.refuses b.tree (attempts.Read (Unsupported place what)) ⊎ ((what ≡ FileBytes) × Draws IsLongText b.last b.tree place) → CommitCase (Err (Attempt (attempts.Read (Unsupported place what))))
  long_in place what P b (inl so) = refused_in (attempts.Read (Unsupported place what)) P b refl so
  long_in place what P b (inr (bytes, d)) = draft_in (Err (Attempt (attempts.Read (Unsupported place what)))) P b IsLongText place d (inl (d.length_is, ap (λ (w : What). Err (Attempt (attempts.Read (Unsupported place w)))) bytes))

  pub commit_case : (r : Commit) → IsTold r → Verdict r → CommitCase r
  commit_case (Ok (Same v)) told b = made_in (Ok (Same v)) _ b (inl (b.holds.1, ap (λ (n : ℕ). Ok (Same n)) b.holds.0))
  commit_case (Ok (Published v)) told b =
      let f = b.holds.1 in
      draft_in (Ok (Published v)) _ b _ f.draft f.drawn_up (inr (f.drawn_up.length_is, inr (f.free, ap (λ (n : ℕ). Ok (Published n)) b.holds.0)))
  commit_case (Err (Open e)) told v = inl (e, case_of table files (Err e) told v, refl)
  commit_case (Err (Attempt (attempts.Refused refusal))) told b = refused_in (attempts.Refused refusal) _ b refl b.holds
  commit_case (Err (Attempt (attempts.Conflict place other))) told b = refused_in (attempts.Conflict place other) _ b refl b.holds
  commit_case (Err (Attempt (attempts.NameTaken place))) told b = taken_in place _ b b.holds
  commit_case (Err (Attempt (attempts.Read (Missing place)))) told b = refused_in (attempts.Read (Missing place)) _ b refl b.holds
  commit_case (Err (Attempt (attempts.Read (Damaged place at)))) told (inl b) = refused_in (attempts.Read (Damaged place at)) _ b refl b.holds
  commit_case (Err (Attempt (attempts.Read (Damaged place at)))) told (inr u) =
      inr (record { place = place; last = u.1.last; bytes = u.1.bytes; tree = u.1.tree; is = u.1.is; which = inl (u.1.lacks, ap (λ (w : Where). Err (Attempt (attempts.Read (Damaged place w)))) u.0) })
  commit_case (Err (Attempt (attempts.Read (Unsupported place what)))) told b = long_in place what _ b b.holds
  commit_case (Err (Attempt (attempts.Read (StoreFault place)))) told v = absurd told
  commit_case (Err (Attempt (attempts.Read Memory))) told v = absurd told
  commit_case (Err (Contended v)) told never = absurd never
  commit_case (Err (CommitUnknown v)) told w = absurd told

  one_draft : (last : ℕ) (draft : Parts) (size : ℕ) (r s : Commit) → DraftCase last draft size r → DraftCase last draft size s → r ≡ s
  one_draft last draft size r s (inl a) (inl b) = a.1 ∙ sym b.1
  one_draft last draft size r s (inl a) (inr b) = absurd (omega (arith, a.0, b.0))
  one_draft last draft size r s (inr a) (inl b) = absurd (omega (arith, a.0, b.0))
  one_draft last draft size r s (inr (short, inl a)) (inr (again, inl b)) = a.1 ∙ sym b.1
  one_draft last draft size r s (inr (short, inl a)) (inr (again, inr b)) = absurd (cc (a.0, b.0))
  one_draft last draft size r s (inr (short, inr a)) (inr (again, inl b)) = absurd (cc (a.0, b.0))
  one_draft last draft size r s (inr (short, inr a)) (inr (again, inr b)) = a.1 ∙ sym b.1

  one_drawn_up : (last : ℕ) (tree : Data) (r s : Commit) → InDraft last tree r → InDraft last tree s → r ≡ s
  one_drawn_up last tree r s a b =
      let ids : a.id ≡ b.id = one_drawn a.id b.id a.drawn b.drawn in
      let built : a.is.built ≡ b.is.built = decided.one_successor tree a.is.built b.is.built a.is.changed b.is.changed in
      let nexts : a.next ≡ b.next = a.is.is ∙ ap (λ (d : Data). next_version (version_text_of (location_of tree) last) now d) built ∙ sym b.is.is in
      let by_id = subst (λ (i : ℕ). DraftCase last (draft_at table i) (length (compact_text b.next)) s) (sym ids) b.which in
      one_draft last (draft_at table a.id) (length (compact_text a.next)) r s a.which (subst (λ (d : Data). DraftCase last (draft_at table a.id) (length (compact_text d)) s) (sym nexts) by_id)

  one_made : (last : ℕ) (tree : Data) (r s : Commit) → MadeCase last tree r → MadeCase last tree s → r ≡ s
  one_made last tree r s (inl a) (inl b) = a.1 ∙ sym b.1
  one_made last tree r s (inl a) (inr (inl b)) = absurd (decided.same_or_refused tree b.e b.told a.0 b.so)
  one_made last tree r s (inl a) (inr (inr b)) = absurd (decided.built_or_same tree b.is.built b.is.changed a.0)
  one_made last tree r s (inr (inl a)) (inl b) = absurd (decided.same_or_refused tree a.e a.told b.0 a.so)
  one_made last tree r s (inr (inl a)) (inr (inl b)) = a.is ∙ ap (λ (x : AttemptErr). Err (Attempt x)) (decided.one_refusal tree a.e b.e a.told b.told a.so b.so) ∙ sym b.is
  one_made last tree r s (inr (inl a)) (inr (inr b)) = absurd (decided.built_or_refused tree b.is.built a.e a.told b.is.changed a.so)
  one_made last tree r s (inr (inr a)) (inl b) = absurd (decided.built_or_same tree a.is.built a.is.changed b.0)
  one_made last tree r s (inr (inr a)) (inr (inl b)) = absurd (decided.built_or_refused tree a.is.built b.e b.told a.is.changed b.so)
  one_made last tree r s (inr (inr a)) (inr (inr b)) = one_drawn_up last tree r s a b

  one_base : (place : Parts) (last : ℕ) (tree : Data) (r s : Commit) → BaseCase place last tree r → BaseCase place last tree s → r ≡ s
  one_base place last tree r s (inl a) (inl b) = a.1 ∙ sym b.1
  one_base place last tree r s (inl a) (inr b) = absurd (a.0 b.0)
  one_base place last tree r s (inr a) (inl b) = absurd (b.0 a.0)
  one_base place last tree r s (inr a) (inr b) = one_made last tree r s a.1 b.1

  abbrev pub failed : OpenErr → Answer table files
  failed e = Err e

  abbrev pub opened : Shown → Answer table files
  opened x = Ok x

  pub one_commit_case : (r s : Commit) → CommitCase r → CommitCase s → r ≡ s
  one_commit_case r s (inl a) (inl b) =
      let errors : failed a.0 ≡ failed b.0 = one_case table files (Err a.0) (Err b.0) a.1 b.1 in
      let same_error : a.0 ≡ b.0 = cc (errors) in
      a.2 ∙ ap (λ (e : OpenErr). Err (Open e)) same_error ∙ sym b.2
  one_commit_case r s (inl a) (inr b) =
      absurd (cc (one_case table files (Err a.0) (Ok (record { place = b.place; last = b.last; bytes = b.bytes; tree = b.tree })) a.1 (case_of_table table files b.place b.last b.bytes b.tree b.is)))
  one_commit_case r s (inr a) (inl b) =
      absurd (cc (one_case table files (Err b.0) (Ok (record { place = a.place; last = a.last; bytes = a.bytes; tree = a.tree })) b.1 (case_of_table table files a.place a.last a.bytes a.tree a.is)))
  one_commit_case r s (inr a) (inr b) =
      let x : Shown = record { place = a.place; last = a.last; bytes = a.bytes; tree = a.tree } in
      let y : Shown = record { place = b.place; last = b.last; bytes = b.bytes; tree = b.tree } in
      let oks : opened x ≡ opened y = one_case table files (Ok x) (Ok y) (case_of_table table files a.place a.last a.bytes a.tree a.is) (case_of_table table files b.place b.last b.bytes b.tree b.is) in
      let same_table : x ≡ y = cc (oks) in
      let by_place = subst (λ (p : Parts). BaseCase p b.last b.tree s) (sym (ap (λ (z : Shown). z.place) same_table)) b.which in
      let by_last = subst (λ (v : ℕ). BaseCase a.place v b.tree s) (sym (ap (λ (z : Shown). z.last) same_table)) by_place in
      one_base a.place a.last a.tree r s a.which (subst (λ (t : Data). BaseCase a.place a.last t s) (sym (ap (λ (z : Shown). z.tree) same_table)) by_last)

  pub one_commit_of : (r s : Commit) → IsTold r → IsTold s → Verdict r → Verdict s → r ≡ s
  one_commit_of r s told_r told_s v w = one_commit_case r s (commit_case r told_r v) (commit_case s told_s w)
