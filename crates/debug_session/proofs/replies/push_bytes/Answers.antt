use Rattle.std.proofs.Common.{◌+◌, ◌∙◌, ap, arith}
use Rattle.debug_ways.specs.Cursor.{cursor_run}
use Rattle.debug_ways.specs.Runs.{Run}
use Rattle.debug_session.specs.Replies.{memory_byte}
use Rattle.debug_session.proofs.MemoryBytes.{one_byte, no_byte, no_more}
use Rattle.debug_session.proofs.replies.push_bytes.Goals as goal

pub returns-in-None-clause-bytes : goal.returns-in-None-clause-bytes
returns-in-None-clause-bytes g c =
    let r : Run = cursor_run g.M.Machine.run c.args.cursor.now in
    let inv = c.loop-place.invariant in
    no_byte (r.byte c.args.count) c.args.length c.loop-place.place c.args.address c.memory_byte.result c.loop-place.out.items _ (omega (arith, c.loop-place-test.true))
    (c.memory_byte.ensures.byte ∙ ap (λ (x : Run). memory_byte (x.byte c.args.count) (c.args.address + c.loop-place.place)) inv.run) c.in-None.is inv.bytes

pub loop-place-preserved : goal.loop-place-preserved
loop-place-preserved g c =
    let r : Run = cursor_run g.M.Machine.run c.args.cursor.now in
    let inv = c.loop-place.invariant in
    record {
      bytes = one_byte (r.byte c.args.count) c.args.length c.loop-place.place c.args.address c.in-Some.byte c.memory_byte.result c.loop-place.out.items _ _
          (omega (arith, c.loop-place-test.true))
          (c.memory_byte.ensures.byte ∙ ap (λ (x : Run). memory_byte (x.byte c.args.count) (c.args.address + c.loop-place.place)) inv.run) c.in-Some.is
          c.in_ok-push-in-Some.ensures inv.bytes;
      run = c.memory_byte.ensures.run ∙ inv.run;
    }

pub returns-clause-bytes : goal.returns-clause-bytes
returns-clause-bytes g c =
    let r : Run = cursor_run g.M.Machine.run c.args.cursor.now in
    no_more (r.byte c.args.count) c.args.length c.loop-place.place c.args.address _ _ c.loop-place-test.false c.loop-place.invariant.bytes
