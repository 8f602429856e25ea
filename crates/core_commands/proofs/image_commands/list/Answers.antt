use Rattle.std.proofs.Common.{[], ◌∷◌}
use Rattle.std.proofs.lemmas.Result.{IfErr-weaker, on_ok_weaker}
use Rattle.core_commands.proofs.CallFiles.{stays-kept}
use Rattle.core_commands.proofs.InOrder.{none-delivered}
use Rattle.core_commands.proofs.ImageCauses.{listed, list-failed}
use Rattle.core_commands.proofs.image_commands.list.Goals as goal

pub returns-clause-err : goal.returns-clause-err
returns-clause-err g c =
    let of = c.in_ok-file.ensures in
    let is = listed (g.F.Store.seen c.args.files.now) (g.F.Store.seen c.fetch.new.files) c.args.img.now c.in_ok-file.file.items c.in_ok-image.image of.ok of.short of.delivered (rw c.as_slice.ensures.value at c.in_ok-image.ensures.read) in
    IfErr-weaker c.put_lines.result _ _ (λ failure h. list-failed failure _ _ _ _ c.args.img.now _ is (stays-kept _ _ c.fetch.ensures.keeps) h) c.put_lines.ensures.err

pub returns-clause-done : goal.returns-clause-done
returns-clause-done g c =
    let of = c.in_ok-file.ensures in
    let is = listed (g.F.Store.seen c.args.files.now) (g.F.Store.seen c.fetch.new.files) c.args.img.now c.in_ok-file.file.items c.in_ok-image.image of.ok of.short of.delivered (rw c.as_slice.ensures.value at c.in_ok-image.ensures.read) in
    on_ok_weaker c.put_lines.result (λ took. (_, (is, (stays-kept _ _ c.fetch.ensures.keeps)), took)) c.put_lines.ensures.ok

pub returns-in_err-file-clause-reads : goal.returns-in_err-file-clause-reads
returns-in_err-file-clause-reads g c =
    none-delivered (g.F.Store.seen c.args.files.now) (g.F.Store.seen c.fetch.new.files) (c.args.img.now ∷ []) c.in_err-file.ensures.nothing

pub returns-in_err-image-clause-reads : goal.returns-in_err-image-clause-reads
returns-in_err-image-clause-reads g c = (c.in_ok-file.file.items ∷ [], c.in_ok-file.ensures.delivered)

pub returns-clause-reads : goal.returns-clause-reads
returns-clause-reads g c = (c.in_ok-file.file.items ∷ [], c.in_ok-file.ensures.delivered)
