-- Statements are run one by one: what the loop over them keeps.
use Rattle.std.proofs.Common.{◌≡◌, inl, inr, ℕ, ◌+◌, ◌<◌, ◌≤◌, true, false, List, [], ◌∷◌, ◌++◌, length, take, drop, get_or, Option, Some, None, suc, refl, sym, ap, ◌∙◌, subst, arith}
use Rattle.std.proofs.Math.Seq.{split_at, take-suc, take-length}
use Rattle.ice_store.specs.History.{replay}
use Rattle.ice_store.specs.Given.{Gives}
use Rattle.ice_store.specs.Others.{WhereTold}
use Rattle.ice_store.specs.Places.{Parts}
use Rattle.ice_store.specs.declared.history.Past.{Past}
use Rattle.ice_store.proofs.SinceLaws.{since_where}
use Rattle.commit_protocol.specs.Kinds.{error_kind}
use Rattle.commit_protocol.specs.declared.errors.CommitErr.{CommitErr}
use Rattle.run_answers.specs.Messages.{is_done}
use Rattle.run_answers.specs.declared.status.Status.{Status}
use Rattle.run_answers.specs.declared.status.Status.TheVariants as statuses
use Rattle.run_answers.specs.declared.status.Status.TheVariants.{Done}
use Rattle.upkeep_top.specs.Chains.{Leads}
use Rattle.upkeep_top.specs.Points.{Notes, Point, Tells, at, moment}
use Rattle.upkeep_top.specs.Runs.{Ended, IsDone, IsWordRefusal, Runs}
use Rattle.upkeep_top.specs.Statements.{StatusBy, Did, Ends, RestsBy}
use Rattle.upkeep_top.specs.Words.{Ask}
use Rattle.upkeep_top.specs.declared.task.Task.{Task}
use Rattle.upkeep_top.proofs.ChainLaws.{leads_on, last_of}
use Rattle.upkeep_top.proofs.StatusLaws.{not_done}

-- Only Done is done.

pub done_by : (status : Status) → is_done status ≡ true → status ≡ Done
done_by Done e = refl
done_by (statuses.BadStatement word at) e = absurd (cc (e))
done_by (statuses.BadArgument word name) e = absurd (cc (e))
done_by (statuses.UnknownSnapshot id) e = absurd (cc (e))
done_by (statuses.UnknownRef name) e = absurd (cc (e))
done_by (statuses.NotAncestor id of) e = absurd (cc (e))
done_by (statuses.StillReferenced id name) e = absurd (cc (e))
done_by statuses.GcDisabled e = absurd (cc (e))
done_by (statuses.TooRecent older_than limit) e = absurd (cc (e))
done_by (statuses.NoTable place) e = absurd (cc (e))
done_by (statuses.LocationDiffers table location) e = absurd (cc (e))
done_by (statuses.Missing place) e = absurd (cc (e))
done_by (statuses.Damaged place at) e = absurd (cc (e))
done_by (statuses.Unsupported place what) e = absurd (cc (e))
done_by (statuses.OutsidePrefix path) e = absurd (cc (e))
done_by (statuses.UnreadableDelete place) e = absurd (cc (e))
done_by statuses.SamePrefix e = absurd (cc (e))
done_by (statuses.UnknownVersion name) e = absurd (cc (e))
done_by (statuses.Conflict place other) e = absurd (cc (e))
done_by (statuses.Contended version) e = absurd (cc (e))
done_by (statuses.StoreFault place) e = absurd (cc (e))
done_by (statuses.CommitUnknown version) e = absurd (cc (e))
done_by statuses.OutFault e = absurd (cc (e))
done_by statuses.OutOfMemory e = absurd (cc (e))
done_by (statuses.NameTaken place) e = absurd (cc (e))

pub not_done_by : (status : Status) → is_done status ≡ false → status ≡ Done → ⊥
not_done_by status e d = absurd (cc (e, ap is_done d))

-- a statement that is Done leaves no name change pending
rests_by : (word : ℕ) (error : Option CommitErr) (status : Status) (past : Past) → StatusBy word error status → status ≡ Done → RestsBy (error_kind error) past → (replay past).pending ≡ []
rests_by word None status past answers d rests = rests
rests_by word (Some e) status past answers d rests = absurd (not_done word e status answers d)

pub rests_when : (t : Task) (status : Status) (p q : Point) → Ends t status p q → status ≡ Done → WhereTold q.past (λ past. (replay past).pending ≡ [])
rests_when t status p q e d = since_where p.past q.past (Did t e.now (Gives p.identifiers q.identifiers) e.end q.halted p.left q.left) (λ past. (replay past).pending ≡ []) e.did (λ old now did. rests_by t.word e.end.error status now e.answers d did.rests)

-- Behind the statements that are done.

module _ (tasks : List Task) (i : ℕ) (within : i < length tasks) (t : Task) (is : t ≡ get_or tasks i t) (status : Status) (o p q : Point) (led : Leads IsDone (take i tasks) o p) (ends : Ends t status p q) where
  pub stopped : (status ≡ Done → ⊥) → Ended tasks status o q
  stopped not = record {
    before = take i tasks;
    task = t;
    after = drop (suc i) tasks;
    is = split_at tasks i t within ∙ ap (λ (x : Task). take i tasks ++ x ∷ drop (suc i) tasks) (sym is);
    from = p;
    led = led;
    ends = ends;
    last = λ d. absurd (not d);
  }

  pub led_more : status ≡ Done → Leads IsDone (take (i + 1) tasks) o q
  led_more d =
      let next : take (i + 1) tasks ≡ take i tasks ++ t ∷ [] = ap (λ (k : ℕ). take k tasks) (let f : i + 1 ≡ suc i = omega arith in f) ∙ take-suc tasks i t within ∙ ap (λ (x : Task). take i tasks ++ x ∷ []) (sym is) in
      subst (λ (l : List Task). Leads IsDone l o q) (sym next) (leads_on IsDone (take i tasks) t o p q led (subst (λ (s : Status). Ends t s p q) d ends))

-- all of them
pub all_done : (tasks : List Task) (first : Task) (more : List Task) → tasks ≡ first ∷ more → (i : ℕ) → length tasks ≤ i → i ≤ length tasks → (o q : Point) → Leads IsDone (take i tasks) o q → Ended tasks Done o q
all_done tasks first more is i past_end within o q led =
    let all : take i tasks ≡ tasks = ap (λ (k : ℕ). take k tasks) (let f : i ≡ length tasks = omega (arith, past_end, within) in f) ∙ take-length tasks in
    let l = last_of IsDone first more o q (subst (λ (ts : List Task). Leads IsDone ts o q) (all ∙ is) led) in
    record { before = l.before; task = l.last; after = []; is = is ∙ l.is; from = l.from; led = l.leads; ends = l.goes; last = λ d. refl }

-- Moments whose values agree.

abbrev pub notes_of : List ℕ → List Parts → Notes
notes_of committed left = record { committed = committed; left = left }

pub same_notes : {committed committed' : List ℕ} {left left' : List Parts} → committed ≡ committed' → left ≡ left' → notes_of committed left ≡ notes_of committed' left'
same_notes {committed = c} {committed' = c'} {left = l} {left' = l'} a b = ap (λ (x : List ℕ). notes_of x l) a ∙ ap (λ (x : List Parts). notes_of c' x) b

module _ {S C I O : Type 0} (t : Tells S C I O) where
  pub same_moment : {store store' : S} {clock clock' : C} {ids ids' : I} {out out' : O} {notes notes' : Notes} → store ≡ store' → clock ≡ clock' → ids ≡ ids' → out ≡ out' → notes ≡ notes' → moment t (at store clock ids out) notes ≡ moment t (at store' clock' ids' out') notes'
  same_moment {store = s} {store' = s'} {clock = c} {clock' = c'} {ids = i} {ids' = i'} {out = o} {out' = o'} {notes = n} {notes' = n'} a b d e f =
      ap (λ (x : S). moment t (at x c i o) n) a ∙ ap (λ (x : C). moment t (at s' x i o) n) b ∙ ap (λ (x : I). moment t (at s' c' x o) n) d ∙ ap (λ (x : O). moment t (at s' c' i' x) n) e ∙ ap (λ (x : Notes). moment t (at s' c' i' o') x) f

pub asked_run : (words : List (List ℕ)) (table : Parts) (tasks given : List Task) → given ≡ tasks → Ask words table tasks → (status status' : Status) → status ≡ status' → (p p' q q' : Point) → p' ≡ p → q ≡ q'
    → ((first : Task) (more : List Task) → given ≡ first ∷ more → Ended given status' p' q') → Runs words status p q
asked_run words table tasks given same ask status status' status_is p p' q q' p_is q_is ended =
    let here : Ended tasks status' p' q' = subst (λ (ts : List Task). Ended ts status' p' q') same (ended ask.first ask.more (same ∙ ask.is)) in
    let begun : Ended tasks status' p q' = subst (λ (x : Point). Ended tasks status' x q') p_is here in
    let over : Ended tasks status' p q = subst (λ (x : Point). Ended tasks status' p x) (sym q_is) begun in
    record { how = inr (record { table = table; tasks = tasks; ask = ask; ended = subst (λ (s : Status). Ended tasks s p q) (sym status_is) over }) }

pub refused_run : (words : List (List ℕ)) (status status' : Status) → status ≡ status' → IsWordRefusal words status' → (p q : Point) → q ≡ p → Runs words status p q
refused_run words status status' status_is refusal p q same = record { how = inl (subst (λ (s : Status). IsWordRefusal words s) (sym status_is) refusal, same) }
