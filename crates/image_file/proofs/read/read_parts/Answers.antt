use Rattle.std.proofs.lemmas.Result.{err_from_is_err_and}
use Rattle.std.proofs.Common.{arith}
use Rattle.image_file.proofs.Parted.{parts_stand, no_counters, no_funcs, no_room, no_tasks}
use Rattle.image_file.proofs.Failing.{names_fail}
use Rattle.image_file.proofs.read.read_parts.Goals as goal

pub returns-in_err-tasks-clause-failed : goal.returns-in_err-tasks-clause-failed
returns-in_err-tasks-clause-failed c =
    let file = c.args.bytes.now in
    let s = c.args.sizes.now in
    let p = err_from_is_err_and c.from_residual.result c.from_residual.ensures.1 in
    rw (p.1, p.2) (names_fail c.in_err-tasks.field-0.0 file c.args.at s.tasks c.args.at s (no_tasks file c.args.at s) c.in_err-tasks.ensures.failed)

pub returns-in_err-funcs-clause-failed : goal.returns-in_err-funcs-clause-failed
returns-in_err-funcs-clause-failed c =
    let file = c.args.bytes.now in
    let s = c.args.sizes.now in
    let first = c.in_ok-tasks.ensures in
    let tasks = c.in_ok-tasks.tasks in
    let p = err_from_is_err_and c.from_residual-in_err-funcs.result c.from_residual-in_err-funcs.ensures.1 in
    rw (p.1, p.2) (names_fail c.in_err-funcs.field-0.0 file tasks.end s.funcs c.args.at s
    (no_funcs file c.args.at s tasks.end tasks.names.items first.read first.counted) c.in_err-funcs.ensures.failed)

pub returns-in_err-counters-clause-failed : goal.returns-in_err-counters-clause-failed
returns-in_err-counters-clause-failed c =
    let file = c.args.bytes.now in
    let s = c.args.sizes.now in
    let first = c.in_ok-tasks.ensures in
    let tasks = c.in_ok-tasks.tasks in
    let second = c.in_ok-funcs.ensures in
    let funcs = c.in_ok-funcs.funcs in
    let p = err_from_is_err_and c.from_residual-in_err-counters.result c.from_residual-in_err-counters.ensures.1 in
    rw (p.1, p.2) (names_fail c.in_err-counters.field-0.0 file funcs.end s.counters c.args.at s
    (no_counters file c.args.at s tasks.end tasks.names.items first.read first.counted funcs.end funcs.names.items second.read second.counted)
    c.in_err-counters.ensures.failed)

pub returns-then-bytes-memory-clause-failed : goal.returns-then-bytes-memory-clause-failed
returns-then-bytes-memory-clause-failed c =
    let file = c.args.bytes.now in
    let s = c.args.sizes.now in
    let first = c.in_ok-tasks.ensures in
    let tasks = c.in_ok-tasks.tasks in
    let second = c.in_ok-funcs.ensures in
    let funcs = c.in_ok-funcs.funcs in
    let third = c.in_ok-counters.ensures in
    let counters = c.in_ok-counters.counters in
    rw c.into.ensures (no_room file c.args.at s tasks.end tasks.names.items first.read first.counted funcs.end funcs.names.items second.read second.counted
    counters.end counters.names.items third.read third.counted c.if-bytes-memory.true)

pub returns-clause-read : goal.returns-clause-read
returns-clause-read c =
    let file = c.args.bytes.now in
    let s = c.args.sizes.now in
    let first = c.in_ok-tasks.ensures in
    let tasks = c.in_ok-tasks.tasks in
    let second = c.in_ok-funcs.ensures in
    let funcs = c.in_ok-funcs.funcs in
    let third = c.in_ok-counters.ensures in
    let counters = c.in_ok-counters.counters in
    let whole = parts_stand file c.args.at s tasks.end tasks.names.items first.read first.counted funcs.end funcs.names.items second.read second.counted
    counters.end counters.names.items third.read third.counted c.if-bytes-memory.false in
    let room = c.if-bytes-memory.false in
    let within = third.read.within in
    record { parts = whole; long = omega (arith, room, within) }
