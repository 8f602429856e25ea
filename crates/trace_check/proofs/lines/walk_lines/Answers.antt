use Rattle.std.proofs.Common.{ℕ, ◌+◌, ◌++◌, ◌∷◌, [], List, inl, inr, refl, sym, subst, arith, length-append}
use Rattle.trace_check.proofs.ReadEvents.{HasRead}
use Rattle.trace_check.proofs.TraceText.{reads_more, reads_nothing}
use Rattle.trace_check.proofs.Walking.{walked_more}
use Rattle.trace_check.proofs.Fronts.{leads_on}
use Rattle.trace_check.proofs.lines.walk_lines.Goals as goal

pub loop-line-init : goal.loop-line-init
loop-line-init c = record {
  events = [];
  reads = reads_nothing c.args.names.now.tasks c.args.names.now.funcs c.args.names.now.counters c.args.text.now;
  count = refl;
  walks = λ config app h. h;
}

pub loop-line-preserved : goal.loop-line-preserved
loop-line-preserved c =
    let names = c.args.names.now in
    let before = c.loop-line.invariant in
    let rest = c.loop-line.rest.now in
    let event = c.in-Some.event in
    let Q : List ℕ → Type 0 = λ more. HasRead names.tasks names.funcs names.counters c.args.text.now (before.events ++ event ∷ []) more in
    let count = before.count in
    let long = length-append before.events (event ∷ []) in
    record {
      events = before.events ++ event ∷ [];
      reads = subst Q (sym c.behind-rest.ensures)
          (reads_more names.tasks names.funcs names.counters c.args.text.now before.events rest event before.reads c.in-Some.ensures.some);
      count = omega (arith, count, long);
      walks = λ config app h. walked_more config app before.events c.loop-line.walk (before.walks config app h) event c.step.new.self c.in-Ok.ensures.walks;
    }

pub returns-in_default : goal.returns-in_default
returns-in_default c config app named walked stray =
    let before = c.loop-line.invariant in
    let count = before.count in
    let less = c.loop-line-test.true in
    absurd
    (leads_on config app c.args.names.now named c.args.text.now c.requires.tasks c.requires.funcs c.requires.counters c.requires.apart (c.args.lines + 1) stray
    before.events c.loop-line.rest.now before.reads c.loop-line.walk (before.walks config app walked) (omega (arith, count, less))
    (inl c.in_default.ensures.none))

pub returns-in-Err : goal.returns-in-Err
returns-in-Err c config app named walked stray =
    let before = c.loop-line.invariant in
    let count = before.count in
    let less = c.loop-line-test.true in
    absurd
    (leads_on config app c.args.names.now named c.args.text.now c.requires.tasks c.requires.funcs c.requires.counters c.requires.apart (c.args.lines + 1) stray
    before.events c.loop-line.rest.now before.reads c.loop-line.walk (before.walks config app walked) (omega (arith, count, less))
    (inr (record { event = c.in-Some.event; first = c.in-Some.ensures.some; ends = c.in-Err.ensures.stops })))

pub returns : goal.returns
returns c config app named walked stray =
    let found = c.loop-line.invariant in
    let count = found.count in
    let past = c.loop-line-test.false in
    let within = c.loop-line.auto._line-end in
    record {
      past = found.events;
      before = record {
        named = named;
        lines = found.reads.lines;
        rest = c.loop-line.rest.now;
        shows = found.reads.is;
        count = omega (arith, count, past, within);
      };
      walked = found.walks config app walked;
    }
