-- What is put at one name twice, and what is taken from there.
use Rattle.std.proofs.Common.{◌≡◌, ℕ, List, Option, Some, None, Ordering, Less, Equal, Greater, nat_cmp, option_map, unwrap_or, refl, rules}
use Rattle.std.proofs.lemmas.Cmp.{nat_list_cmp_total, tied_itself}
use Rattle.std.specs.Cmp.Lexicographic.{slice_cmp}
use Rattle.std.specs.Ordering.{match_ordering}
use Rattle.serde_json.specs.Data.{Data, null, Members, no_members, member, put}
use Rattle.serde_json.specs.View.{view}
use Rattle.serde_json.specs.declared.value.Value.{Value, Null, the_lemmas}

put-twice_at : (o : Ordering) (k l : List ℕ) (v w e : Data) (ms : Members) → slice_cmp nat_cmp k l ≡ o → put k v (put k w ms) ≡ put k v ms
    → put k v (match_ordering o (member k w (member l e ms)) (member l w ms) (member l e (put k w ms))) ≡ match_ordering o (member k v (member l e ms)) (member l v ms) (member l e (put k v ms))
put-twice_at Less k l v w e ms is later = rw (tied_itself nat_list_cmp_total k)
put-twice_at Equal k l v w e ms is later = rw is
put-twice_at Greater k l v w e ms is later = rw (is, later)

-- what is put last is there
pub put-twice : (k : List ℕ) (v w : Data) (ms : Members) → put k v (put k w ms) ≡ put k v ms
put-twice k v w no_members = rw (tied_itself nat_list_cmp_total k)
put-twice k v w (member l e ms) = put-twice_at _ k l v w e ms refl (put-twice k v w ms)

pub view-Null : view Null ≡ null
view-Null = search (rules, the_lemmas)

pub view-or_null : (o : Option Value) → view (unwrap_or o Null) ≡ unwrap_or (option_map view o) null
view-or_null None = view-Null
view-or_null (Some v) = refl
