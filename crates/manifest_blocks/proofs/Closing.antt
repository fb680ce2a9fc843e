-- Objects in the open block, and the block closed.
use Rattle.std.proofs.Common.{◌≡◌, ◌≤◌, ◌<◌, ◌+◌, ℕ, List, [], ◌∷◌, ◌++◌, length, Bool, true, false, ◌||◌, ◌==◌, cond, Result, Ok, Err, refl, sym, ap, ◌∙◌, subst, append_assoc, lt-ltb, le-ltb, ne_eqb, eq-eqb, arith}
use Rattle.std.specs.List.{list_any}
use Rattle.std.proofs.lemmas.List.{append-nil}
use Rattle.avro_container.specs.Container.{most_block_bytes}
use Rattle.avro_container.specs.ContainerWriting.{written_block}
use Rattle.manifest_blocks.specs.declared.blocks.Blocks.{Blocks}
use Rattle.manifest_blocks.specs.declared.fault.WriteErr.{WriteErr}
use Rattle.manifest_blocks.specs.declared.fault.WriteErr.TheVariants as errors
use Rattle.manifest_blocks.specs.Blocks.{Block, is_full, with_object, no_objects, last_block, blocks_from, blocks_of, is_too_large, some_too_large, bytes_of}
use Rattle.manifest_blocks.specs.Steps.{IsSoFar, Closes, GoesOn, Counts, Ends, Finishes, open_in}

-- the bytes of blocks and one more
bytes_more : (sync : List ℕ) (bs : List Block) (b : Block) → bytes_of sync (bs ++ b ∷ []) ≡ bytes_of sync bs ++ written_block sync b.0 b.1
bytes_more sync [] b = append-nil (written_block sync b.0 b.1)
bytes_more sync (a ∷ bs) b = ap (λ r. written_block sync a.0 a.1 ++ r) (bytes_more sync bs b) ∙ sym (append_assoc (written_block sync a.0 a.1) (bytes_of sync bs) (written_block sync b.0 b.1))

fit_step : (t : Bool) (bs cs : List Block) → (t || list_any is_too_large bs) ≡ false → (list_any is_too_large bs ≡ false → list_any is_too_large (bs ++ cs) ≡ list_any is_too_large cs)
    → (t || list_any is_too_large (bs ++ cs)) ≡ list_any is_too_large cs
fit_step true bs cs h go = absurd cc
fit_step false bs cs h go = go h

-- blocks behind blocks that fit
fit_more : (bs cs : List Block) → list_any is_too_large bs ≡ false → list_any is_too_large (bs ++ cs) ≡ list_any is_too_large cs
fit_more [] cs h = refl
fit_more (a ∷ bs) cs h = fit_step (is_too_large a) bs cs h (λ h. fit_more bs cs h)

-- a block that isn't full stays open
pub stays_open : (sync file body : List ℕ) (count : ℕ) → is_full (count + 1, body) ≡ false → (head : List ℕ) (objects rest : List (List ℕ)) (before object : List ℕ) → body ≡ before ++ object
    → IsSoFar head sync objects file (count, before) (object ∷ rest) → IsSoFar head sync objects file (count + 1, body) rest
unfolding blocks_from
stays_open sync file body count open_yet head objects rest before object e h =
    let now : is_full (count + 1, before ++ object) ≡ false = ap (λ b. is_full (count + 1, b)) (sym e) ∙ open_yet in
    let P : List ℕ → Type 0 = λ b. IsSoFar head sync objects file (count + 1, b) rest in
    subst P (sym e) (record {
      closed = h.closed;
      are = h.are ∙ ap (λ t. h.closed ++ cond t ((count + 1, before ++ object) ∷ blocks_from no_objects rest) (blocks_from (count + 1, before ++ object) rest)) now;
      is = h.is;
      fit = h.fit;
    })

-- the blocks where an object makes one full
full_are : (head sync : List ℕ) (objects rest : List (List ℕ)) (file before object : List ℕ) (count : ℕ) → is_full (count + 1, before ++ object) ≡ true → (h : IsSoFar head sync objects file (count, before) (object ∷ rest))
    → blocks_of objects ≡ h.closed ++ (count + 1, before ++ object) ∷ blocks_from no_objects rest
unfolding blocks_from
full_are head sync objects rest file before object count full h =
    h.are ∙ ap (λ t. h.closed ++ cond t ((count + 1, before ++ object) ∷ blocks_from no_objects rest) (blocks_from (count + 1, before ++ object) rest)) full

-- a full block is closed
pub is_closed : (sync file body new_file new_body : List ℕ) (count new_count : ℕ) → is_full (count + 1, body) ≡ true → new_file ≡ file ++ written_block sync (count + 1) body → new_body ≡ [] → new_count ≡ 0
    → length body ≤ most_block_bytes → (head : List ℕ) (objects rest : List (List ℕ)) (before object : List ℕ) → body ≡ before ++ object
    → IsSoFar head sync objects file (count, before) (object ∷ rest) → IsSoFar head sync objects new_file (new_count, new_body) rest
is_closed sync file body new_file new_body count new_count full f b n small head objects rest before object e h =
    let own : Block = (count + 1, body) in
    let are : blocks_of objects ≡ h.closed ++ own ∷ blocks_from no_objects rest =
    full_are head sync objects rest file before object count (ap (λ b. is_full (count + 1, b)) (sym e) ∙ full) h ∙ ap (λ b. h.closed ++ (count + 1, b) ∷ blocks_from no_objects rest) (sym e) in
    let fits : is_too_large own ≡ false = le-ltb most_block_bytes (length body) small in
    let P : ℕ × List ℕ → Type 0 = λ block. IsSoFar head sync objects new_file block rest in
    subst P (sym (ap (λ k. (k, new_body)) n ∙ ap (λ x. (0, x)) b)) (record {
      closed = h.closed ++ own ∷ [];
      are = are ∙ sym (append_assoc h.closed (own ∷ []) (blocks_from no_objects rest));
      is = f ∙ ap (λ x. x ++ written_block sync (count + 1) body) h.is ∙ append_assoc head (bytes_of sync h.closed) (written_block sync (count + 1) body) ∙ ap (λ r. head ++ r) (sym (bytes_more sync h.closed own));
      fit = fit_more h.closed (own ∷ []) h.fit ∙ ap (λ t. t || false) fits;
    })

-- a full block is too large
too_large : (sync file body : List ℕ) (count : ℕ) → is_full (count + 1, body) ≡ true → most_block_bytes < length body → (head : List ℕ) (objects rest : List (List ℕ)) (before object : List ℕ) → body ≡ before ++ object
    → IsSoFar head sync objects file (count, before) (object ∷ rest) → some_too_large objects ≡ true
too_large sync file body count full large head objects rest before object e h =
    let now : is_full (count + 1, before ++ object) ≡ true = ap (λ b. is_full (count + 1, b)) (sym e) ∙ full in
    let more : is_too_large (count + 1, before ++ object) ≡ true = ap (λ b. is_too_large (count + 1, b)) (sym e) ∙ lt-ltb most_block_bytes (length body) large in
    ap (list_any is_too_large) (full_are head sync objects rest file before object count now h)
    ∙ fit_more h.closed ((count + 1, before ++ object) ∷ blocks_from no_objects rest) h.fit ∙ ap (λ t. t || list_any is_too_large (blocks_from no_objects rest)) more

-- a full block that wasn't closed
pub not_closed : (sync : List ℕ) (old new : Blocks) (e : WriteErr) → is_full (old.count + 1, old.body.items) ≡ true → Closes sync (record old { count = old.count + 1 }) new (Err e) → Counts sync old new (Err e)
not_closed sync old new errors.Memory full h = λ head objects rest before object e s. tt
not_closed sync old new errors.TooLarge full h = too_large sync old.file.items old.body.items old.count full h

-- the last block is closed, where it has objects
pub last_closed : (sync file body new_file : List ℕ) (count : ℕ) → 0 < count → new_file ≡ file ++ written_block sync count body → length body ≤ most_block_bytes → (head : List ℕ) (objects : List (List ℕ))
    → IsSoFar head sync objects file (count, body) [] → (new_file ≡ head ++ bytes_of sync (blocks_of objects)) × (some_too_large objects ≡ false)
unfolding blocks_from
last_closed sync file body new_file count some f small head objects h =
    let own : Block = (count, body) in
    let are : blocks_of objects ≡ h.closed ++ own ∷ [] = h.are ∙ ap (λ t. h.closed ++ cond t [] (own ∷ [])) (ne_eqb count 0 (λ e. omega arith)) in
    let fits : is_too_large own ≡ false = le-ltb most_block_bytes (length body) small in (
      f ∙ ap (λ x. x ++ written_block sync count body) h.is ∙ append_assoc head (bytes_of sync h.closed) (written_block sync count body) ∙ ap (λ r. head ++ r) (sym (bytes_more sync h.closed own) ∙ ap (bytes_of sync) (sym are)),
      ap (list_any is_too_large) are ∙ fit_more h.closed (own ∷ []) h.fit ∙ ap (λ t. t || false) fits,
    )

-- there is no last block
pub none_open : (sync file body : List ℕ) (count : ℕ) → count ≡ 0 → (head : List ℕ) (objects : List (List ℕ)) → IsSoFar head sync objects file (count, body) []
    → (file ≡ head ++ bytes_of sync (blocks_of objects)) × (some_too_large objects ≡ false)
unfolding blocks_from
none_open sync file body count none head objects h =
    let own : Block = (count, body) in
    let are : blocks_of objects ≡ h.closed = h.are ∙ ap (λ t. h.closed ++ cond t [] (own ∷ [])) (eq-eqb count 0 none) ∙ append-nil h.closed in (
      h.is ∙ ap (λ bs. head ++ bytes_of sync bs) (sym are),
      ap (list_any is_too_large) are ∙ h.fit,
    )

-- the last block is too large
last_too_large : (sync file body : List ℕ) (count : ℕ) → 0 < count → most_block_bytes < length body → (head : List ℕ) (objects : List (List ℕ)) → IsSoFar head sync objects file (count, body) [] → some_too_large objects ≡ true
unfolding blocks_from
last_too_large sync file body count some large head objects h =
    let own : Block = (count, body) in
    let are : blocks_of objects ≡ h.closed ++ own ∷ [] = h.are ∙ ap (λ t. h.closed ++ cond t [] (own ∷ [])) (ne_eqb count 0 (λ e. omega arith)) in
    ap (list_any is_too_large) are ∙ fit_more h.closed (own ∷ []) h.fit ∙ ap (λ t. t || false) (lt-ltb most_block_bytes (length body) large)

-- the last block wasn't closed
pub not_finished : (sync : List ℕ) (blocks new : Blocks) (e : WriteErr) → 0 < blocks.count → Closes sync blocks new (Err e) → Finishes sync blocks (Err e)
not_finished sync blocks new errors.Memory some h = λ head objects s. tt
not_finished sync blocks new errors.TooLarge some h = last_too_large sync blocks.file.items blocks.body.items blocks.count some h
