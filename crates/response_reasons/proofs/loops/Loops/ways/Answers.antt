use Rattle.std.proofs.Common.{◌≡◌, ◌<◌, ◌∙◌, ℕ, Bool, false, List, length, get_or, Option, ap, sym, subst, arith}
use Rattle.std.proofs.lemmas.Result.{IfOk-weaker}
use Rattle.sloth_base.specs.declared.app.Func.{Func}
use Rattle.sloth_base.specs.Named.{item_of}
use Rattle.bound_rules.specs.declared.bound.Body.{Body}
use Rattle.bound_rules.specs.declared.bound.BodyWeights.{BodyWeights}
use Rattle.bound_rules.specs.Weights.{no_weights}
use Rattle.walk_sums.specs.declared.graph.Ways.{Ways}
use Rattle.walk_sums.specs.Graph.{ways_of, AreInside}
use Rattle.walk_sums.specs.Computed.{going_size}
use Rattle.walk_sums.specs.Kinds.{is_going}
use Rattle.walk_sums.specs.KnownBodies.{no_body}
use Rattle.walk_sums.specs.Links.{item_ways}
use Rattle.walk_sums.proofs.Leading.{inside}
use Rattle.response_reasons.specs.Doubled.{AreDoubled}
use Rattle.response_reasons.specs.LoopCode.{LoopCode, AreNodes, AreLoopWays}
use Rattle.response_reasons.proofs.loops.Loops.ways.Goals as goal

pub doubled-requires-clause-inside : goal.doubled-requires-clause-inside
doubled-requires-clause-inside c =
    subst AreInside (sym c.deref-5.ensures.value)
    (inside c.numbered_function-func.result.now c.deref-2.result.now c.deref-3.result.now c.deref-4.result.now c.in_ok-ways.ways.items c.in_ok-ways.ensures.count
    c.in_ok-ways.ensures.exact (ap length c.deref-4.ensures.value ∙ c.in_ok-alive.ensures.count))

pub doubled-requires-clause-few : goal.doubled-requires-clause-few
doubled-requires-clause-few c =
    let same : length c.deref-5.result.now ≡ length c.in_ok-ways.ways.items = ap length c.deref-5.ensures.value in
    let len = c.in_ok-ways.ways.ok.0 in
    let most = c.in_ok-ways.ways.ok.1 in
    let small = c.in_ok-ways.ways.small in
    omega (arith, same, len, most, small)

pub returns : goal.returns
returns c =
    let l = c.self.inside in
    let number = c.args.number in
    let level = c.args.level in
    let func = c.numbered_function-func.result.now in
    let body = c.numbered_body.result.now in
    let alive = c.in_ok-alive.alive.items in
    let going = c.in_ok-going.going.items in
    let limited = c.in_ok-limited.limited.items in
    let ways = c.in_ok-ways.ways.items in
    let steps = c.in_ok-steps.steps.items in
    let view : LoopCode = record {
      walks = record { config = l.config.now; app = l.app.now; order = l.order.now; bodies = l.bodies.now };
      weights = l.weights.now;
      kind = l.kind;
      whole = l.whole.now;
    } in
    let own : c.items.result.now ≡ (get_or l.weights.now number no_weights).going = c.items.ensures ∙ ap (λ (w : BodyWeights). w.going) c.weights_at-weights.ensures in
    let made : (twice : List Ways) → AreDoubled c.deref-5.result.now c.deref-6.result.now twice → AreLoopWays c.args.self.now level number twice =
    λ twice d.
    let nodes : AreNodes view level number func body twice = record {
      alive = alive;
      alive_count = c.in_ok-alive.ensures.count;
      alive_is = c.in_ok-alive.ensures.exact;
      going = going;
      going_is = subst (λ (a : List Bool). (i : ℕ) → i < length func.items → get_or going i false ≡ is_going func l.kind a i) c.deref.ensures.value c.in_ok-going.ensures.exact;
      limited = limited;
      limited_is = c.in_ok-limited.ensures;
      ways = ways;
      ways_count = c.in_ok-ways.ensures.count;
      ways_are = subst (λ (a : List Bool). (i : ℕ) → i < length func.items → ways_of ways i ≡ item_ways func limited going a i) c.deref-4.ensures.value
          (subst (λ (g : List Bool). (i : ℕ) → i < length func.items → ways_of ways i ≡ item_ways func limited g c.deref-4.result.now i) c.deref-3.ensures.value
          (subst (λ (p : List Bool). (i : ℕ) → i < length func.items → ways_of ways i ≡ item_ways func p c.deref-3.result.now c.deref-4.result.now i) c.deref-2.ensures.value
          c.in_ok-ways.ensures.exact));
      steps = steps;
      steps_are = subst (λ (g : List ℕ). (i : ℕ) → i < length func.items → get_or steps i 0 ≡ going_size l.whole.now (get_or g i 0) (item_of func i).op) own c.in_ok-steps.ensures.exact;
      doubled = subst (λ (w : List Ways). AreDoubled w steps twice) c.deref-5.ensures.value (subst (λ (s : List ℕ). AreDoubled c.deref-5.result.now s twice) c.deref-6.ensures.value d);
    } in
    let known = subst (λ (b : Body). AreNodes view level number func b twice) c.numbered_body.ensures nodes in
    subst (λ (v : LoopCode). AreLoopWays v level number twice) c.self.view_is
    (subst (λ (f : Func). AreNodes view level number f (get_or l.bodies.now number no_body) twice) c.numbered_function-func.ensures known) in
    IfOk-weaker _ _ _ (λ twice d. made _ d) c.doubled.ensures
