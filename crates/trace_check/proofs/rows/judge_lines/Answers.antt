use Rattle.std.proofs.Common.{◌∙◌, ℕ, ◌+◌, ◌++◌, ◌∷◌, [], List, true, false, refl, sym, ap, subst, arith, length, length-append}
use Rattle.std.proofs.lemmas.Bool.{false≢true}
use Rattle.trace_check.proofs.ReadEvents.{HasRead}
use Rattle.trace_check.proofs.TraceText.{reads_more, reads_nothing, reads_shorter}
use Rattle.trace_check.proofs.Judging.{all_read, bad_line, few_names, in_time_at, lines_small, none_strays, shows_all, stray_at}
use Rattle.trace_check.proofs.rows.judge_lines.Goals as goal

pub loop-rest-init : goal.loop-rest-init
loop-rest-init c = record {
  events = [];
  reads = reads_nothing c.args.names.now.tasks c.args.names.now.funcs c.args.names.now.counters c.args.text.now;
  line = refl;
  walks = λ config app h. h;
  timed = λ h. h;
  config = refl;
  n = refl;
  arrivals = refl;
}

pub loop-rest-preserved : goal.loop-rest-preserved
loop-rest-preserved c =
    let names = c.args.names.now in
    let before = c.loop-rest.invariant in
    let event = c.in-Some.event in
    let rest = c.loop-rest.rest.now in
    let Q : List ℕ → Type 0 = λ more. HasRead names.tasks names.funcs names.counters c.args.text.now (before.events ++ event ∷ []) more in
    let count = before.line in
    let long = length-append before.events (event ∷ []) in
    record {
      events = before.events ++ event ∷ [];
      reads = subst Q (sym c.behind-rest.ensures)
          (reads_more names.tasks names.funcs names.counters c.args.text.now before.events rest event before.reads c.in-Some.ensures.some);
      line = omega (arith, count, long);
      walks = λ config app h. c.follow-stray.ensures config app before.events (ap (λ n. n + 1) before.line) (before.walks config app h);
      timed = λ h. c.in_ok-take.ensures.timed before.events (before.timed h);
      config = c.take.ensures.config ∙ before.config;
      n = c.take.ensures.n ∙ before.n;
      arrivals = c.take.ensures.arrivals ∙ before.arrivals;
    }

pub loop-rest-smaller : goal.loop-rest-smaller
loop-rest-smaller c =
    let names = c.args.names.now in
    let cut = ap length c.behind-rest.ensures in
    let shorter = reads_shorter names.tasks names.funcs names.counters c.args.text.now c.loop-rest.rest.now c.in-Some.event c.in-Some.ensures.some in
    omega (arith, cut, shorter)

pub returns-in_default : goal.returns-in_default
returns-in_default c config app begun =
    let before = c.loop-rest.invariant in
    bad_line config app c.args.names.now begun.named c.args.text.now c.loop-rest.rest.now before.events before.reads
    (sym c.is_empty.ensures ∙ c.loop-rest-test.true) c.in_default.ensures.none _ (ap (λ n. n + 1) before.line)

pub returns-in-Some-stray : goal.returns-in-Some-stray
returns-in-Some-stray c config app begun =
    let found = c.loop-rest.invariant in
    let reads = all_read config app c.args.names.now begun.named c.args.text.now c.loop-rest.rest.now found.events found.reads in
    record {
      events = found.events;
      shows = shows_all _ _ _ c.args.text.now c.loop-rest.rest.now found.events reads (sym c.is_empty.ensures ∙ c.loop-rest-test.false);
      strays = stray_at config app found.events c.loop-rest.stray c.loop-rest.walk (found.walks config app begun.walked) c.in-Some-stray.line c.in-Some-stray.is;
    }

pub returns-then-branch : goal.returns-then-branch
returns-then-branch c config app begun =
    let found = c.loop-rest.invariant in
    let reads = all_read config app c.args.names.now begun.named c.args.text.now c.loop-rest.rest.now found.events found.reads in
    let walked = none_strays config app found.events c.loop-rest.stray c.loop-rest.walk (found.walks config app begun.walked) c.in_default-stray.is in
    let small = lines_small _ _ _ (few_names config begun.few_counters) found.events reads.lines in
    let decides = in_time_at c.in_ok-in_time.field-0 _ config _ c.args.timing.now.n _ c.args.timing.now.arrivals found.events
    (found.config ∙ begun.config_is) found.n found.arrivals (c.in_ok-in_time.ensures found.events small (found.timed begun.timed)) in
    record {
      events = found.events;
      shows = shows_all _ _ _ c.args.text.now c.loop-rest.rest.now found.events reads (sym c.is_empty.ensures ∙ c.loop-rest-test.false);
      run = (c.loop-rest.walk.machine.system, walked.follows);
      in_time = decides.0 c.if-branch.true;
    }

pub returns : goal.returns
returns c config app begun =
    let found = c.loop-rest.invariant in
    let reads = all_read config app c.args.names.now begun.named c.args.text.now c.loop-rest.rest.now found.events found.reads in
    let walked = none_strays config app found.events c.loop-rest.stray c.loop-rest.walk (found.walks config app begun.walked) c.in_default-stray.is in
    let small = lines_small _ _ _ (few_names config begun.few_counters) found.events reads.lines in
    let decides = in_time_at c.in_ok-in_time.field-0 _ config _ c.args.timing.now.n _ c.args.timing.now.arrivals found.events
    (found.config ∙ begun.config_is) found.n found.arrivals (c.in_ok-in_time.ensures found.events small (found.timed begun.timed)) in
    record {
      events = found.events;
      shows = shows_all _ _ _ c.args.text.now c.loop-rest.rest.now found.events reads (sym c.is_empty.ensures ∙ c.loop-rest-test.false);
      run = (c.loop-rest.walk.machine.system, walked.follows);
      late = λ h. false≢true (sym c.if-branch.false ∙ decides.1 h);
    }
