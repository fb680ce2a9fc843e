-- Objects put one after the other.
use Rattle.std.proofs.Common.{◌≡◌, ◌<◌, ◌≤◌, ◌+◌, ℕ, List, [], ◌∷◌, ◌++◌, length, map, drop, take, get_or, All, OnOk, take_all, Result, Ok, Err, refl, sym, ap, ◌∙◌, subst, arith}
use Rattle.std.specs.List.{AllByRecursion}
use Rattle.std.proofs.lemmas.List.{append-nil, at_drop_all}
use Rattle.std.proofs.lemmas.List.Elements.{All-from_recursion, recursion_from_All, All-more}
use Rattle.avro_container.specs.Container.{Pair}
use Rattle.avro_datum.proofs.NoBytes.{item_at}
use Rattle.avro_container.specs.ContainerWriting.{AppendsHeader}
use Rattle.manifest_blocks.specs.declared.blocks.Blocks.{Blocks}
use Rattle.manifest_blocks.specs.declared.fault.WriteErr.{WriteErr}
use Rattle.manifest_blocks.specs.declared.fault.WriteErr.TheVariants as errors
use Rattle.manifest_blocks.specs.Blocks.{Block, no_objects, blocks_of, bytes_of, Writes}
use Rattle.manifest_blocks.specs.Steps.{IsSoFar, GoesOn, Ends, open_in}

-- nothing is written yet
pub at_start : (head sync : List ℕ) (objects : List (List ℕ)) (b : Block) → b ≡ no_objects → IsSoFar head sync objects head b objects
at_start head sync objects b e =
    let P : Block → Type 0 = λ b. IsSoFar head sync objects head b objects in
    subst P (sym e) (record { closed = []; are = refl; is = sym (append-nil head); fit = refl })

-- the next object
pub next : {A : Type 0} (bytes : A → List ℕ) (xs : List A) (i : ℕ) (x : A) (head sync : List ℕ) (objects : List (List ℕ)) (file : List ℕ) (b : Block) → i < length xs → x ≡ get_or xs i x → IsSoFar head sync objects file b (map bytes (drop i xs))
    → IsSoFar head sync objects file b (bytes x ∷ map bytes (drop (i + 1) xs))
next bytes xs i x head sync objects file b h e s =
    let P : List (List ℕ) → Type 0 = λ rest. IsSoFar head sync objects file b rest in
    subst P (ap (map bytes) (item_at xs i x h e)) s

-- no object is left
pub none_left : {A : Type 0} (bytes : A → List ℕ) (xs : List A) (i : ℕ) (head sync : List ℕ) (objects : List (List ℕ)) (file : List ℕ) (b : Block) → length xs ≤ i → IsSoFar head sync objects file b (map bytes (drop i xs)) → IsSoFar head sync objects file b []
none_left bytes xs i head sync objects file b h s =
    let P : List (List ℕ) → Type 0 = λ rest. IsSoFar head sync objects file b rest in
    subst P (at_drop_all (map bytes) xs i h) s

-- an object wasn't put
pub refused : (meta : List Pair) (head sync : List ℕ) (objects rest : List (List ℕ)) (new : Blocks) (e : WriteErr) → GoesOn head sync objects rest new (Err e) → Writes meta sync objects (Err e)
refused meta head sync objects rest new errors.Memory h = tt
refused meta head sync objects rest new errors.TooLarge h = h

-- neither were those behind it
pub passed_on : (head sync : List ℕ) (objects rest : List (List ℕ)) (new : Blocks) (e : WriteErr) → GoesOn head sync objects rest new (Err e) → GoesOn head sync objects [] new (Err e)
passed_on head sync objects rest new errors.Memory h = tt
passed_on head sync objects rest new errors.TooLarge h = h

-- all objects are written
pub ended : (meta : List Pair) (head sync : List ℕ) (objects : List (List ℕ)) (r : Result (List ℕ) WriteErr) → AppendsHeader meta sync [] head → Ends head sync objects r → Writes meta sync objects r
ended meta head sync objects (Ok bytes) a h = record { head = head; header = a; is = h.0; fits = h.1 }
ended meta head sync objects (Err errors.Memory) a h = tt
ended meta head sync objects (Err errors.TooLarge) a h = h

-- what holds of one more element
pub holds_of_next : {A : Type 0} (P : A → Type 0) (xs : List A) (i : ℕ) (x : A) → i < length xs → x ≡ get_or xs i x → AllByRecursion P (take i xs) → P x → AllByRecursion P (take (i + 1) xs)
holds_of_next P xs i x h e so_far p = recursion_from_All P (take (i + 1) xs) (All-more P xs i x h (All-from_recursion P (take i xs) so_far) (subst P e p))

-- no element is left
pub holds_of_all : {A : Type 0} (P : A → Type 0) (xs : List A) (i : ℕ) → length xs ≤ i → AllByRecursion P (take i xs) → All P xs
holds_of_all {A = A} P xs i h so_far =
    let Q : List A → Type 0 = AllByRecursion P in
    All-from_recursion P xs (subst Q (take_all i xs h) so_far)

-- what holds whether it ended well or not
pub on_ok : {E P : Type 0} (r : Result (Unit {0}) E) → P → OnOk r P
on_ok (Ok done) p = p
on_ok (Err e) p = tt
