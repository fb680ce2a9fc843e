use Rattle.std.proofs.Common.{◌≡◌, ◌<◌, List, [], ◌∷◌, ℕ, zero, suc, map, subst, sym, arith, codes, refl}
use Rattle.std.specs.List.{IsDistinct, All}
use Rattle.std.specs.Str.{IsUtf8, bytes_eq}
use Rattle.std.proofs.lemmas.Result.{err_from_is_err_and}
use Rattle.avro_container.specs.Container.{Pair}
use Rattle.avro_container.specs.ContainerWriting.{AppendsHeader}
use Rattle.manifest_writing.specs.Lists.{list_meta, row_bytes}
use Rattle.manifest_writing.proofs.Texts.{ascii}
use Rattle.manifest_writing.proofs.Loops.{at_start, refused, ended}
use Rattle.manifest_writing.proofs.ReadBack.{read_of}
use Rattle.manifest_writing.proofs.lists.write_list.Goals as goal

pub begin-requires-clause-keys : goal.begin-requires-clause-keys
unfolding IsDistinct
begin-requires-clause-keys c = subst (λ (m : List Pair). IsDistinct bytes_eq (map (λ e. e.0) m)) (sym c.in_ok-meta.ensures.meta) (tt, tt)

texts : All (λ (e : Pair). IsUtf8 e.0) list_meta
texts zero d within = ascii (codes "avro.schema") refl
texts (suc k) d within = absurd (omega arith)

pub begin-requires-clause-utf8 : goal.begin-requires-clause-utf8
begin-requires-clause-utf8 c = subst (λ (m : List Pair). All (λ (e : Pair). IsUtf8 e.0) m) (sym c.in_ok-meta.ensures.meta) texts

pub returns-in_err-put_rows : goal.returns-in_err-put_rows
returns-in_err-put_rows c =
    let r = err_from_is_err_and c.from_residual-in_err-put_rows.result c.from_residual-in_err-put_rows.ensures.1 in
    let head = c.in_ok-blocks.blocks.file.items in
    let objects = map row_bytes c.args.rows.now in
    record { written = rw (r.1, r.2) (refused list_meta head c.args.sync.now objects [] c.put_rows.new.blocks _ (c.in_err-put_rows.ensures.puts head objects (at_start head c.args.sync.now objects _ c.in_ok-blocks.ensures.empty))); read_back = rw r.1 tt }

pub returns : goal.returns
returns c =
    let head = c.in_ok-blocks.blocks.file.items in
    let objects = map row_bytes c.args.rows.now in
    let P : List Pair → Type 0 = λ (m : List Pair). AppendsHeader m c.args.sync.now [] head in
    let written = ended list_meta head c.args.sync.now objects c.finish.result (subst P c.in_ok-meta.ensures.meta c.in_ok-blocks.ensures.header) (c.finish.ensures.finishes head objects (c.in_ok-put_rows.ensures.puts head objects (at_start head c.args.sync.now objects _ c.in_ok-blocks.ensures.empty))) in
    record { written = written; read_back = read_of c.args.rows.now c.args.sync.now c.finish.result c.in_ok-put_rows.ensures.spelled c.in_ok-meta.ensures.reads written }
