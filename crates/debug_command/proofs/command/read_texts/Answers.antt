use Rattle.std.proofs.Common.{◌∙◌, inl, inr}
use Rattle.std.proofs.lemmas.Result.{err_from_is_err_and}
use Rattle.debug_command.specs.Words.{debugging_of}
use Rattle.debug_command.proofs.BothRead.{both_read, unread_first, unread_second}
use Rattle.debug_command.proofs.Ending.{err_anyway}
use Rattle.debug_command.proofs.command.read_texts.Goals as goal

pub returns-in_err-img-clause-err : goal.returns-in_err-img-clause-err
returns-in_err-img-clause-err g c =
    let failed = err_from_is_err_and c.from_residual.result c.from_residual.ensures.1 in
    rw (failed.1, failed.2)
    (unread_first c.in_err-img.field-0.0 (g.F.Store.seen c.args.files.now) (g.F.Store.seen c.fetch.new.files) (debugging_of c.args.words.now) c.in_err-img.ensures.err)

pub returns-in_err-img-clause-front : goal.returns-in_err-img-clause-front
returns-in_err-img-clause-front g c = err_anyway _ _ (inl c.in_err-img.ensures.nothing)

pub returns-in_err-arr-clause-err : goal.returns-in_err-arr-clause-err
returns-in_err-arr-clause-err g c =
    let failed = err_from_is_err_and c.from_residual-in_err-arr.result c.from_residual-in_err-arr.ensures.1 in
    rw (failed.1, failed.2)
    (unread_second c.in_err-arr.field-0.0 (g.F.Store.seen c.args.files.now) (g.F.Store.seen c.fetch.new.files) (g.F.Store.seen c.fetch-2.new.files)
    (debugging_of c.args.words.now) c.in_ok-img.img.items c.in_ok-img.ensures.ok c.fetch.ensures.keeps c.in_err-arr.ensures.err)

pub returns-in_err-arr-clause-front : goal.returns-in_err-arr-clause-front
returns-in_err-arr-clause-front g c =
    err_anyway _ _ (inr (c.in_ok-img.img.items, c.in_err-arr.ensures.nothing ∙ c.in_ok-img.ensures.delivered))

pub returns-clause-ok : goal.returns-clause-ok
returns-clause-ok g c =
    both_read (g.F.Store.seen c.args.files.now) (g.F.Store.seen c.fetch.new.files) (g.F.Store.seen c.fetch-2.new.files) (debugging_of c.args.words.now)
    c.in_ok-img.img.items c.in_ok-arr.arr.items c.in_ok-img.ensures.ok c.fetch.ensures.keeps c.in_ok-img.ensures.delivered c.in_ok-arr.ensures.ok
    c.in_ok-arr.ensures.delivered
