-- Words are read one by one: what the loops over them keep.
use Rattle.std.proofs.Common.{◌≡◌, ◌⊎◌, inl, inr, ℕ, suc, ◌+◌, ◌<◌, ◌≤◌, List, [], ◌∷◌, ◌++◌, length, take, drop, get_or, codes, refl, sym, ap, ◌∙◌, subst, arith}
use Rattle.std.proofs.Math.Seq.{split_at, take-suc}
use Rattle.std.proofs.lemmas.List.{length-take-le}
use Rattle.ice_store.specs.Places.{Parts}
use Rattle.run_answers.specs.declared.status.Status.{Status}
use Rattle.run_answers.specs.declared.status.Status.TheVariants.{BadArgument, OutOfMemory}
use Rattle.upkeep_top.specs.Words.{AsksFor, IsBadWord, AskFrom, AreOf, Ask, HasBadWord, HasOtherTable, IsOther, AreOfOneTable, TablesRefuse}
use Rattle.upkeep_top.specs.Runs.{IsWordRefusal}
use Rattle.upkeep_top.specs.declared.task.Task.{Task}

-- Statements.

ask_more : (n : ℕ) (ws : List (List ℕ)) (ts : List Task) (w : List ℕ) (t : Task) → AskFrom n ws ts → AsksFor w (n + length ws) t → AskFrom n (ws ++ w ∷ []) (ts ++ t ∷ [])
ask_more n [] ts w t h a = (t, [], subst (λ (k : ℕ). AsksFor w k t) (let e : n + 0 ≡ n = omega arith in e) a, refl, ap (λ (l : List Task). l ++ t ∷ []) h)
ask_more n (v ∷ vs) ts w t h a =
    (h.0, h.1 ++ t ∷ [], h.2, ask_more (n + 1) vs h.1 w t h.3 (subst (λ (k : ℕ). AsksFor w k t) (let e : n + length (v ∷ vs) ≡ n + 1 + length vs = omega arith in e) a), ap (λ (l : List Task). l ++ t ∷ []) h.4)

module _ (words : List (List ℕ)) (i : ℕ) (within : i < length words) (w : List ℕ) (is : w ≡ get_or words i w) (ts : List Task) (ask : AskFrom 0 (take i words) ts) where
  taken : length (take i words) ≡ i
  taken = length-take-le i words (omega (arith, within))

  next_taken : take (i + 1) words ≡ take i words ++ w ∷ []
  next_taken = ap (λ (k : ℕ). take k words) (let e : i + 1 ≡ suc i = omega arith in e) ∙ take-suc words i w within ∙ ap (λ (x : List ℕ). take i words ++ x ∷ []) (sym is)

  at_place : (P : ℕ → Type 0) → P i → P (0 + length (take i words))
  at_place P here = subst P (let e : i ≡ 0 + length (take i words) = omega (arith, taken) in e) here

  -- one word more asks for a statement
  pub asked_more : (t : Task) → AsksFor w i t → AskFrom 0 (take (i + 1) words) (ts ++ t ∷ [])
  asked_more t a = subst (λ (ws : List (List ℕ)). AskFrom 0 ws (ts ++ t ∷ [])) (sym next_taken) (ask_more 0 (take i words) ts w t ask (at_place (λ (k : ℕ). AsksFor w k t) a))

  -- or is the first bad one
  pub bad_word : (status : Status) → IsBadWord w i status → HasBadWord words status
  bad_word status bad = record {
    before = take i words;
    word = w;
    after = drop (suc i) words;
    is = split_at words i w within ∙ ap (λ (x : List ℕ). take i words ++ x ∷ drop (suc i) words) (sym is);
    tasks = ts;
    ask = ask;
    bad = subst (λ (k : ℕ). IsBadWord w k status) (sym taken) bad;
  }

-- Tables.

are_more : (table : Parts) (ts : List Task) (t : Task) → AreOf table ts → t.table ≡ table → AreOf table (ts ++ t ∷ [])
are_more table [] t h e = (e, tt)
are_more table (u ∷ us) t h e = (h.0, are_more table us t h.1 e)

module _ (table : Parts) (tasks : List Task) (i : ℕ) (within : i < length tasks) (t : Task) (is : t ≡ get_or tasks i t) (of_table : AreOf table (take i tasks)) where
  pub of_table_more : t.table ≡ table → AreOf table (take (i + 1) tasks)
  of_table_more e =
      let next : take (i + 1) tasks ≡ take i tasks ++ t ∷ [] = ap (λ (k : ℕ). take k tasks) (let f : i + 1 ≡ suc i = omega arith in f) ∙ take-suc tasks i t within ∙ ap (λ (x : Task). take i tasks ++ x ∷ []) (sym is) in
      subst (λ (l : List Task). AreOf table l) (sym next) (are_more table (take i tasks) t of_table e)

  pub other_here : (t.table ≡ table → ⊥) → IsOther table tasks i
  other_here differs = record {
    before = take i tasks;
    other = t;
    after = drop (suc i) tasks;
    is = split_at tasks i t within ∙ ap (λ (x : Task). take i tasks ++ x ∷ drop (suc i) tasks) (sym is);
    of_table = of_table;
    differs = differs;
    at_is = sym (length-take-le i tasks (omega (arith, within)));
  }

-- All words.

pub no_words : (words : List (List ℕ)) (tasks : List Task) → AskFrom 0 words tasks → tasks ≡ [] → words ≡ []
no_words [] tasks h e = refl
no_words (w ∷ ws) tasks h e = absurd (cc (h.4, e))

pub first_is : (t : Task) (tasks : List Task) → 1 ≤ length tasks → t ≡ get_or tasks 0 t → (more : List Task) × (tasks ≡ t ∷ more)
first_is t [] some is = absurd (omega (arith, some))
first_is t (u ∷ us) some is = (us, ap (λ (x : Task). x ∷ us) (sym is))

pub asks_all : (words : List (List ℕ)) (tasks : List Task) → AskFrom 0 words tasks → AreOfOneTable tasks → (table : Parts) × Ask words table tasks
asks_all words tasks ask o = (o.first.table, record { ask = ask; first = o.first; more = o.more; is = o.is; of_table = o.of_table })

other_by : (words : List (List ℕ)) (tasks : List Task) (status : Status) (t : Task) (more before : List Task) (other : Task) (after : List Task) (at : ℕ) → AskFrom 0 words tasks → tasks ≡ t ∷ more → tasks ≡ before ++ other ∷ after → AreOf t.table before
    → (other.table ≡ t.table → ⊥) → at ≡ length before → status ≡ BadArgument at (codes "table") → HasOtherTable words status
other_by words tasks status t more [] other after at ask head split of_table differs place says =
    let heads : t ∷ more ≡ other ∷ after = sym head ∙ split in
    let same : t ≡ other = cc (heads) in
    absurd (differs (ap (λ (x : Task). x.table) (sym same)))
other_by words tasks status t more (b ∷ before) other after at ask head split of_table differs place says = record {
  before = b ∷ before;
  other = other;
  after = after;
  ask = subst (λ (l : List Task). AskFrom 0 words l) split ask;
  table = t.table;
  of_table = of_table;
  first = b;
  more = before;
  is = refl;
  differs = differs;
  status_is = says ∙ ap (λ (n : ℕ). BadArgument n (codes "table")) place;
}

pub refused_tables : (words : List (List ℕ)) (tasks : List Task) (status : Status) → AskFrom 0 words tasks → TablesRefuse tasks status → IsWordRefusal words status
refused_tables words tasks status ask (inl r) = inl (inl (no_words words tasks ask r.0, r.1))
refused_tables words tasks status ask (inr (inl o)) = inl (inr (inr (other_by words tasks status o.first o.more o.other.before o.other.other o.other.after o.at ask o.is o.other.is o.other.of_table o.other.differs o.other.at_is o.status_is)))
refused_tables words tasks status ask (inr (inr m)) = inr m

pub refused_words : (words : List (List ℕ)) (status : Status) → HasBadWord words status ⊎ (status ≡ OutOfMemory) → IsWordRefusal words status
refused_words words status (inl b) = inl (inr (inl b))
refused_words words status (inr m) = inr m
