use Rattle.std.proofs.Common.{◌∙◌, ◌≡◌, ℕ, Some, None, cond, length, take, sym, ap, subst, arith}
use Rattle.trace_check.specs.Lateness.{AreInPlace}
use Rattle.trace_check.proofs.InPlace.{in_place_by, scans_on, stops_at}
use Rattle.trace_check.proofs.late.front_in_place.Goals as goal

pub loop-i-preserved : goal.loop-i-preserved
loop-i-preserved c =
    scans_on c.args.n c.args.arrivals.now c.args.events.now c.loop-i.i _ c.loop-i-test.true c.loop-i.pass c.loop-i.invariant (Some c.look.new.self)
    (sym (ap (λ b. cond b (Some c.look.new.self) None) c.if-not-look.false) ∙ c.look.ensures.looked)

pub returns-then-not-look : goal.returns-then-not-look
returns-then-not-look c =
    let inside = c.loop-i-test.true in
    record {
      inside = omega (arith, inside);
      in_place = in_place_by c.args.n c.args.arrivals.now (take c.loop-i.i c.args.events.now) c.loop-i.pass c.loop-i.invariant;
      greatest = λ less.
          stops_at c.args.n c.args.arrivals.now c.args.events.now c.loop-i.i _ less c.loop-i.pass c.loop-i.invariant
          (sym (ap (λ b. cond b (Some c.look.new.self) None) c.if-not-look.true) ∙ c.look.ensures.looked);
    }

pub returns : goal.returns
returns c =
    let past = c.loop-i-test.false in
    let within = c.loop-i.auto.i-end in
    let same : c.loop-i.i ≡ length c.args.events.now = omega (arith, past, within) in
    let P : ℕ → Type 0 = λ k. AreInPlace c.args.n c.args.arrivals.now (take k c.args.events.now) in
    record {
      inside = omega arith;
      in_place = subst P same (in_place_by c.args.n c.args.arrivals.now (take c.loop-i.i c.args.events.now) c.loop-i.pass c.loop-i.invariant);
      greatest = λ less. absurd (omega (arith, less));
    }
