-- Round a loop along which something weighs there are parts of any size.
use Rattle.std.proofs.Common.{◌≡◌, ℕ, ◌+◌, ◌<◌, ◌≤◌, List, [], ◌∷◌, length, get_or, Option, ap, sym, ◌∙◌, subst, arith}
use Rattle.sloth_base.specs.declared.config.Config.{Config}
use Rattle.sloth_base.specs.declared.app.App.{App}
use Rattle.sloth_base.specs.Named.{function, operation}
use Rattle.bound_rules.specs.declared.bound.BodyWeights.{BodyWeights}
use Rattle.bound_rules.specs.Weights.{going_weight, ending_weight}
use Rattle.walk_sums.specs.Activations.{is_plain}
use Rattle.walk_sums.specs.Loops.{HasWeighingLoop}
use Rattle.walk_sums.specs.Trails.{IsTrail, last_of}
use Rattle.walk_sums.specs.declared.levels.Kind.{Kind}
use Rattle.walk_sums.specs.Parts.{SumsOn, on_ends, on_inside, on_passes}
use Rattle.walk_sums.specs.Computed.{going_size}
use Rattle.walk_sums.specs.Known.{IsEndless, IsSummed}
use Rattle.walk_sums.proofs.Looping.{steps_along, rounds}
use Rattle.walk_sums.proofs.Measured.{Measures, Link, link, link_lives, link_inside, link_behind, plain_adds}
use Rattle.walk_sums.proofs.Covering.{covered}

module _ (config : Config) (app : App) (weights : List BodyWeights) (kind : Kind) (level : Option ℕ) (f : ℕ) (m : Measures config app weights kind level f)
    (steps : List ℕ) (steps_are : (i : ℕ) → i < length (function app f).items → get_or steps i 0 ≡ going_size m.whole (going_weight weights f i) (operation app f i)) where
  abbrev At : (i n : ℕ) → Type 0
  At i n = (q : ℕ) × SumsOn config app weights kind level f i q × (n ≤ q)

  one_on : (i j n k : ℕ) → Link config app weights kind level f m i j → SumsOn config app weights kind level f j k → n ≤ k → At i (get_or steps i 0 + n)
  one_on i j n k (link_inside p a b) part le =
      let e = steps_are i a.item.inside ∙ plain_adds m.whole (going_weight weights f i) (operation app f i) (ap is_plain p.step.item.is ∙ p.step.plain) in
      (going_weight weights f i + k, on_inside level f i j k p part, omega (arith, e, le))
  one_on i j n k (link_behind g c pos a next b) part le =
      let inner = (m.called_back i g a.reached c).attained pos in
      let e = steps_are i a.item.inside ∙ ap (going_size m.whole (going_weight weights f i)) c.item.is in
      let is = inner.2 in
      (going_weight weights f i + (inner.0 + k), on_passes level f i g inner.0 k c inner.1 (subst (λ v. SumsOn config app weights kind level f v k) next part), omega (arith, e, is, le))

  along : (i : ℕ) (further : List ℕ) (k : ℕ) → IsTrail m.ways i further → SumsOn config app weights kind level f (last_of i further) k → At i (steps_along steps i further)
  along i [] k t part = (k, part, omega arith)
  along i (j ∷ further) k t part =
      let rest = along j further k t.1 part in
      one_on i j (steps_along steps j further) rest.0 (link config app weights kind level f m i j t.0) rest.1 rest.2

  pub endless_loop : IsSummed weights kind level → HasWeighingLoop m.ways steps → IsEndless config app weights kind level f
  endless_loop summed (node, loop) n =
      let a = link_lives config app weights kind level f m node loop.back.next (link config app weights kind level f m node loop.back.next loop.back.goes) in
      let some = parts n in
      covered config app weights kind level f summed n node some.0 a.reached some.1 some.2 parts
    where
      parts : (n : ℕ) → At node n
      parts n =
          let a = link_lives config app weights kind level f m node loop.back.next (link config app weights kind level f m node loop.back.next loop.back.goes) in
          let r = rounds m.ways steps node loop n in
          let part = along node r.further (ending_weight weights f node) r.trail
          (subst (λ v. SumsOn config app weights kind level f v (ending_weight weights f node)) (sym r.back) (on_ends level f node a.item a.raised)) in
          let le = r.weighs in
          let more = part.2 in
          (part.0, part.1, omega (arith, le, more))
