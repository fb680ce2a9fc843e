-- Words are refused in one way, and refused words ask for nothing.
use Rattle.std.proofs.Common.{◌≡◌, ◌⊎◌, inl, inr, ℕ, ◌+◌, List, [], ◌∷◌, ◌++◌, length, codes, Result, Ok, Err, refl, sym, ap, ◌∙◌, subst, arith}
use Rattle.ice_store.specs.Places.{Parts}
use Rattle.call_text.proofs.Unambiguous.{one_call, one_place, never_both}
use Rattle.run_answers.specs.declared.status.Status.{Status}
use Rattle.run_answers.specs.declared.status.Status.TheVariants.{BadStatement, BadArgument}
use Rattle.upkeep_top.specs.Commands.{asked_as}
use Rattle.upkeep_top.specs.Words.{AsksFor, IsBadWord, AskFrom, AreOf, Ask, HasBadWord, HasOtherTable, RefusesWords}
use Rattle.upkeep_top.specs.declared.task.Task.{Task}

-- One word.

one_task : (word : List ℕ) (n : ℕ) (t u : Task) → AsksFor word n t → AsksFor word n u → t ≡ u
one_task word n t u a b =
    let calls : a.call ≡ b.call = one_call word a.call b.call a.spelled b.spelled in
    let oks : ◌≡◌ {A = Result Task (List ℕ)} (Ok t) (Ok u) = sym a.typed ∙ ap (asked_as n) calls ∙ b.typed in
    cc (oks)

never_bad : (word : List ℕ) (n : ℕ) (t : Task) (s : Status) → AsksFor word n t → IsBadWord word n s → ⊥
never_bad word n t s a (inl b) = never_both word a.call b.0 a.spelled b.1
never_bad word n t s a (inr b) =
    let calls : a.call ≡ b.0 = one_call word a.call b.0 a.spelled b.2 in
    absurd (cc (sym a.typed ∙ ap (asked_as n) calls ∙ b.3))

one_bad_word : (word : List ℕ) (n : ℕ) (s t : Status) → IsBadWord word n s → IsBadWord word n t → s ≡ t
one_bad_word word n s t (inl a) (inl b) = a.2 ∙ ap (λ (at : ℕ). BadStatement n at) (one_place word a.0 b.0 a.1 b.1) ∙ sym b.2
one_bad_word word n s t (inl a) (inr b) = absurd (never_both word b.0 a.0 b.2 a.1)
one_bad_word word n s t (inr a) (inl b) = absurd (never_both word a.0 b.0 a.2 b.1)
one_bad_word word n s t (inr a) (inr b) =
    let calls : a.0 ≡ b.0 = one_call word a.0 b.0 a.2 b.2 in
    let errors : ◌≡◌ {A = Result Task (List ℕ)} (Err a.1) (Err b.1) = sym a.3 ∙ ap (asked_as n) calls ∙ b.3 in
    let names : a.1 ≡ b.1 = cc (errors) in
    a.4 ∙ ap (λ (name : List ℕ). BadArgument n name) names ∙ sym b.4

-- All words.

pub one_asking : (words : List (List ℕ)) (n : ℕ) (a b : List Task) → AskFrom n words a → AskFrom n words b → a ≡ b
one_asking [] n a b x y = x ∙ sym y
one_asking (w ∷ ws) n a b x y =
    let first : x.0 ≡ y.0 = one_task w n x.0 y.0 x.2 y.2 in
    let rest : x.1 ≡ y.1 = one_asking ws (n + 1) x.1 y.1 x.3 y.3 in
    x.4 ∙ ap (λ (t : Task). t ∷ x.1) first ∙ ap (λ (l : List Task). y.0 ∷ l) rest ∙ sym y.4

-- the first bad word, by recursion
BadFrom : ℕ → List (List ℕ) → Status → Type 0
BadFrom n [] s = ⊥
BadFrom n (w ∷ ws) s = IsBadWord w n s ⊎ ((t : Task) × AsksFor w n t × BadFrom (n + 1) ws s)

bad_from : (n : ℕ) (before : List (List ℕ)) (w : List ℕ) (after : List (List ℕ)) (ts : List Task) (s : Status) → AskFrom n before ts → IsBadWord w (n + length before) s → BadFrom n (before ++ w ∷ after) s
unfolding BadFrom
bad_from n [] w after ts s asks bad = inl (subst (λ (k : ℕ). IsBadWord w k s) (let e : n + 0 ≡ n = omega arith in e) bad)
bad_from n (b ∷ before) w after ts s asks bad =
    inr (asks.0, asks.2, bad_from (n + 1) before w after asks.1 s asks.3 (subst (λ (k : ℕ). IsBadWord w k s) (let e : n + length (b ∷ before) ≡ n + 1 + length before = omega arith in e) bad))

one_bad_from : (words : List (List ℕ)) (n : ℕ) (s t : Status) → BadFrom n words s → BadFrom n words t → s ≡ t
unfolding BadFrom
one_bad_from [] n s t a b = absurd a
one_bad_from (w ∷ ws) n s t (inl a) (inl b) = one_bad_word w n s t a b
one_bad_from (w ∷ ws) n s t (inl a) (inr b) = absurd (never_bad w n b.0 s b.1 a)
one_bad_from (w ∷ ws) n s t (inr a) (inl b) = absurd (never_bad w n a.0 t a.1 b)
one_bad_from (w ∷ ws) n s t (inr a) (inr b) = one_bad_from ws (n + 1) s t a.2 b.2

never_bad_from : (words : List (List ℕ)) (n : ℕ) (ts : List Task) (s : Status) → AskFrom n words ts → BadFrom n words s → ⊥
unfolding BadFrom
never_bad_from [] n ts s a b = b
never_bad_from (w ∷ ws) n ts s a (inl b) = never_bad w n a.0 s a.2 b
never_bad_from (w ∷ ws) n ts s a (inr b) = never_bad_from ws (n + 1) a.1 s a.3 b.2

-- the first statement of another table, by recursion
OtherFrom : Parts → ℕ → List Task → ℕ → Type 0
OtherFrom table n [] at = ⊥
OtherFrom table n (t ∷ ts) at = ((t.table ≡ table → ⊥) × (at ≡ n)) ⊎ ((t.table ≡ table) × OtherFrom table (n + 1) ts at)

other_from : (table : Parts) (n : ℕ) (before : List Task) (other : Task) (after : List Task) → AreOf table before → (other.table ≡ table → ⊥) → OtherFrom table n (before ++ other ∷ after) (n + length before)
unfolding OtherFrom
other_from table n [] other after of_table differs = inl (differs, let e : n + 0 ≡ n = omega arith in e)
other_from table n (b ∷ before) other after of_table differs =
    inr (of_table.0, subst (λ (k : ℕ). OtherFrom table (n + 1) (before ++ other ∷ after) k) (let e : n + 1 + length before ≡ n + length (b ∷ before) = omega arith in e) (other_from table (n + 1) before other after of_table.1 differs))

one_other : (table : Parts) (n : ℕ) (ts : List Task) (a b : ℕ) → OtherFrom table n ts a → OtherFrom table n ts b → a ≡ b
unfolding OtherFrom
one_other table n [] a b x y = absurd x
one_other table n (t ∷ ts) a b (inl x) (inl y) = x.1 ∙ sym y.1
one_other table n (t ∷ ts) a b (inl x) (inr y) = absurd (x.0 y.0)
one_other table n (t ∷ ts) a b (inr x) (inl y) = absurd (y.0 x.0)
one_other table n (t ∷ ts) a b (inr x) (inr y) = one_other table (n + 1) ts a b x.1 y.1

never_other : (table : Parts) (n : ℕ) (ts : List Task) (at : ℕ) → AreOf table ts → OtherFrom table n ts at → ⊥
unfolding OtherFrom
never_other table n [] at of_table x = x
never_other table n (t ∷ ts) at of_table (inl x) = x.0 of_table.0
never_other table n (t ∷ ts) at of_table (inr x) = never_other table (n + 1) ts at of_table.1 x.1

bad_in : (words : List (List ℕ)) (s : Status) → HasBadWord words s → BadFrom 0 words s
bad_in words s b = subst (λ (ws : List (List ℕ)). BadFrom 0 ws s) (sym b.is) (bad_from 0 b.before b.word b.after b.tasks s b.ask (subst (λ (k : ℕ). IsBadWord b.word k s) (let e : length b.before ≡ 0 + length b.before = omega arith in e) b.bad))

other_in : (words : List (List ℕ)) (s : Status) (o : HasOtherTable words s) → OtherFrom o.table 0 (o.before ++ o.other ∷ o.after) (length o.before)
other_in words s o = subst (λ (k : ℕ). OtherFrom o.table 0 (o.before ++ o.other ∷ o.after) k) (let e : 0 + length o.before ≡ length o.before = omega arith in e) (other_from o.table 0 o.before o.other o.after o.of_table o.differs)

-- the first statement's table
first_table : (table : Parts) (before rest : List Task) (t : Task) (ts : List Task) → before ≡ t ∷ ts → AreOf table before → (tasks : List Task) → tasks ≡ before ++ rest → (u : Task) (us : List Task) → tasks ≡ u ∷ us → u.table ≡ table
first_table table before rest t ts is of_table tasks whole u us head =
    let here : AreOf table (t ∷ ts) = subst (λ (l : List Task). AreOf table l) is of_table in
    let heads : t ∷ (ts ++ rest) ≡ u ∷ us = ap (λ (l : List Task). l ++ rest) (sym is) ∙ sym whole ∙ head in
    let firsts : t ≡ u = cc (heads) in
    ap (λ (x : Task). x.table) (sym firsts) ∙ here.0

one_other_table : (words : List (List ℕ)) (s t : Status) → HasOtherTable words s → HasOtherTable words t → s ≡ t
one_other_table words s t a b =
    let tasks : a.before ++ a.other ∷ a.after ≡ b.before ++ b.other ∷ b.after = one_asking words 0 (a.before ++ a.other ∷ a.after) (b.before ++ b.other ∷ b.after) a.ask b.ask in
    let first_a = first_table a.table a.before (a.other ∷ a.after) a.first a.more a.is a.of_table (a.before ++ a.other ∷ a.after) refl a.first (a.more ++ a.other ∷ a.after) (ap (λ (l : List Task). l ++ a.other ∷ a.after) a.is) in
    let first_b = first_table b.table b.before (b.other ∷ b.after) b.first b.more b.is b.of_table (a.before ++ a.other ∷ a.after) tasks a.first (a.more ++ a.other ∷ a.after) (ap (λ (l : List Task). l ++ a.other ∷ a.after) a.is) in
    let tables : a.table ≡ b.table = sym first_a ∙ first_b in
    let by_tasks = subst (λ (l : List Task). OtherFrom b.table 0 l (length b.before)) (sym tasks) (other_in words t b) in
    let by_table = subst (λ (x : Parts). OtherFrom x 0 (a.before ++ a.other ∷ a.after) (length b.before)) (sym tables) by_tasks in
    let places : length a.before ≡ length b.before = one_other a.table 0 (a.before ++ a.other ∷ a.after) (length a.before) (length b.before) (other_in words s a) by_table in
    a.status_is ∙ ap (λ (n : ℕ). BadArgument n (codes "table")) places ∙ sym b.status_is

no_words : (words : List (List ℕ)) (s : Status) → words ≡ [] → HasOtherTable words s → ⊥
no_words words s none o =
    let asked : o.before ++ o.other ∷ o.after ≡ [] = subst (λ (ws : List (List ℕ)). AskFrom 0 ws (o.before ++ o.other ∷ o.after)) none o.ask in
    absurd (cc (ap (λ (l : List Task). l ++ o.other ∷ o.after) (sym o.is) ∙ asked))

pub one_refusal : (words : List (List ℕ)) (s t : Status) → RefusesWords words s → RefusesWords words t → s ≡ t
unfolding BadFrom
one_refusal words s t (inl a) (inl b) = a.1 ∙ sym b.1
one_refusal words s t (inl a) (inr (inl b)) = absurd (subst (λ (ws : List (List ℕ)). BadFrom 0 ws t) a.0 (bad_in words t b))
one_refusal words s t (inl a) (inr (inr b)) = absurd (no_words words t a.0 b)
one_refusal words s t (inr (inl a)) (inl b) = absurd (subst (λ (ws : List (List ℕ)). BadFrom 0 ws s) b.0 (bad_in words s a))
one_refusal words s t (inr (inr a)) (inl b) = absurd (no_words words s b.0 a)
one_refusal words s t (inr (inl a)) (inr (inl b)) = one_bad_from words 0 s t (bad_in words s a) (bad_in words t b)
one_refusal words s t (inr (inl a)) (inr (inr b)) = absurd (never_bad_from words 0 (b.before ++ b.other ∷ b.after) s b.ask (bad_in words s a))
one_refusal words s t (inr (inr a)) (inr (inl b)) = absurd (never_bad_from words 0 (a.before ++ a.other ∷ a.after) t a.ask (bad_in words t b))
one_refusal words s t (inr (inr a)) (inr (inr b)) = one_other_table words s t a b

pub never_refused : (words : List (List ℕ)) (table : Parts) (tasks : List Task) (s : Status) → Ask words table tasks → RefusesWords words s → ⊥
never_refused words table tasks s a (inl r) =
    let none : tasks ≡ [] = subst (λ (ws : List (List ℕ)). AskFrom 0 ws tasks) r.0 a.ask in
    absurd (cc (none, a.is))
never_refused words table tasks s a (inr (inl r)) = never_bad_from words 0 tasks s a.ask (bad_in words s r)
never_refused words table tasks s a (inr (inr r)) =
    let same : tasks ≡ r.before ++ r.other ∷ r.after = one_asking words 0 tasks (r.before ++ r.other ∷ r.after) a.ask r.ask in
    let first_r = first_table r.table r.before (r.other ∷ r.after) r.first r.more r.is r.of_table tasks same a.first a.more a.is in
    let here : AreOf table (a.first ∷ a.more) = subst (λ (l : List Task). AreOf table l) a.is a.of_table in
    let tables : table ≡ r.table = sym here.0 ∙ first_r in
    let by_tasks = subst (λ (l : List Task). OtherFrom r.table 0 l (length r.before)) (sym same) (other_in words s r) in
    never_other table 0 tasks (length r.before) a.of_table (subst (λ (x : Parts). OtherFrom x 0 tasks (length r.before)) (sym tables) by_tasks)

-- words ask for statements of one table
pub one_table : (words : List (List ℕ)) (x y : Parts) (a b : List Task) → Ask words x a → Ask words y b → x ≡ y
one_table words x y a b p q =
    let same : a ≡ b = one_asking words 0 a b p.ask q.ask in
    let mine : AreOf x (p.first ∷ p.more) = subst (λ (l : List Task). AreOf x l) p.is p.of_table in
    let theirs : AreOf y (p.first ∷ p.more) = subst (λ (l : List Task). AreOf y l) (sym same ∙ p.is) q.of_table in
    sym mine.0 ∙ theirs.0
