-- Where nothing weighs along the loops of a body and parts of what it calls have a limit, so have its own.
use Rattle.std.proofs.Common.{◌≡◌, ℕ, zero, suc, ◌+◌, ◌-◌, ◌<◌, ◌≤◌, ◌⊎◌, inl, inr, cond, List, [], ◌∷◌, length, get_or, Option, None, refl, ap, sym, ◌∙◌, arith}
use Rattle.std.specs.Prelude.{◌==◌}
use Rattle.std.proofs.lemmas.Bool.{cases_eq, eq-eqb, ne_eqb}
use Rattle.sloth_base.specs.declared.config.Config.{Config}
use Rattle.sloth_base.specs.declared.app.App.{App}
use Rattle.sloth_base.specs.declared.app.Op.TheVariants as op
use Rattle.sloth_base.specs.Named.{operation}
use Rattle.sloth_base.specs.Limits.{size_limit}
use Rattle.call_graph.specs.Tables.{sum_below}
use Rattle.bound_rules.specs.declared.bound.BodyWeights.{BodyWeights}
use Rattle.bound_rules.specs.Weights.{going_weight, joined}
use Rattle.bound_rules.specs.Summaries.{summary_of}
use Rattle.walk_sums.specs.declared.graph.Ways.{Ways}
use Rattle.walk_sums.specs.Loops.{HasWeighingLoop}
use Rattle.walk_sums.specs.Trails.{IsTrail}
use Rattle.walk_sums.specs.Activations.{is_plain, level_behind, ReachesItem, reaches_first, reaches_inside, ReachesCall, IsRaisedCall}
use Rattle.walk_sums.specs.declared.levels.Kind.{Kind}
use Rattle.walk_sums.specs.Weights.{AreWeights}
use Rattle.walk_sums.specs.Parts.{SumsBack, SumsOn, SumsOut, SumsWithin, on_ends, on_inside, on_enters, on_passes, out_here, out_behind, within_here, within_called, within_behind}
use Rattle.walk_sums.specs.Computed.{going_size}
use Rattle.walk_sums.specs.Known.{HasLimit}
use Rattle.walk_sums.proofs.Looping.{steps_along, steps_limited}
use Rattle.walk_sums.proofs.Measured.{Measures, Sizes, living, itself, on_begins, goes_inside, goes_behind, passed_some, reached_behind, reached_after, back_on, step_is, plain_adds}

-- so much at each node that weighs something
abbrev coarse : (n : ℕ) → List ℕ → List ℕ
coarse n [] = []
coarse n (step ∷ steps) = cond (step == 0) 0 n ∷ coarse n steps

coarse_none : (n : ℕ) (steps : List ℕ) (i : ℕ) → get_or steps i 0 ≡ 0 → get_or (coarse n steps) i 0 ≡ 0
coarse_none n [] i e = refl
coarse_none n (step ∷ steps) zero e = ap (λ b. cond b 0 n) (eq-eqb step 0 e)
coarse_none n (step ∷ steps) (suc i) e = coarse_none n steps i e

coarse_some : (n : ℕ) (steps : List ℕ) (i : ℕ) → (get_or steps i 0 ≡ 0 → ⊥) → get_or (coarse n steps) i 0 ≡ n
coarse_some n [] i d = absurd (d refl)
coarse_some n (step ∷ steps) zero d = ap (λ b. cond b 0 n) (ne_eqb step 0 d)
coarse_some n (step ∷ steps) (suc i) d = coarse_some n steps i d

-- what weighs so much where it weighs something, weighs no more
coarse_enough : (n : ℕ) (steps : List ℕ) (i k : ℕ) → k ≤ n → (get_or steps i 0 ≡ 0 → k ≡ 0) → k ≤ get_or (coarse n steps) i 0
coarse_enough n steps i k le none = by (cases_eq (get_or steps i 0) 0)
  where
    by : (get_or steps i 0 ≡ 0) ⊎ (get_or steps i 0 ≡ 0 → ⊥) → k ≤ get_or (coarse n steps) i 0
    by (inl e) = let z = none e in omega (arith, z)
    by (inr d) = let is = coarse_some n steps i d in omega (arith, is, le)

no_coarse_loop : (ways : List Ways) (n : ℕ) (steps : List ℕ) → ¬ (HasWeighingLoop ways steps) → ¬ (HasWeighingLoop ways (coarse n steps))
no_coarse_loop ways n steps none (node, loop) = none (node, record { inside = loop.inside; weighs = by (cases_eq (get_or steps node 0) 0); back = loop.back })
  where
    by : (get_or steps node 0 ≡ 0) ⊎ (get_or steps node 0 ≡ 0 → ⊥) → 0 < get_or steps node 0
    by (inl e) = let z = coarse_none n steps node e in let w = loop.weighs in absurd (let wrong : ⊥ = omega (arith, z, w) in wrong)
    by (inr d) = omega (arith, d)

-- a limit of the parts of all functions that are called, at their levels
pub record CalledLimit (config : Config) (app : App) (weights : List BodyWeights) (kind : Kind) (level : Option ℕ) (f limit : ℕ) : Type 0 where
  pub on : (i g n : ℕ) → ReachesItem app f i → IsRaisedCall config app level f i g → SumsOn config app weights kind None g 0 n → n ≤ limit
  pub back : (i g n : ℕ) → ReachesItem app f i → IsRaisedCall config app level f i g → SumsBack config app weights kind None g 0 n → n ≤ limit
  pub most : (i g n : ℕ) → ReachesCall app f i g → SumsWithin config app weights kind (level_behind config app level f i) g n → n ≤ limit
  pub out : (i g n : ℕ) → ReachesCall app f i g → SumsOut config app weights kind (level_behind config app level f i) g n → n ≤ limit

module _ (config : Config) (app : App) (weights : List BodyWeights) (kind : Kind) where
  going_small : AreWeights app weights → (f i : ℕ) → going_weight weights f i ≤ size_limit
  going_small fit f i = let small = fit.small f i in let no_lighter = fit.no_lighter f i in omega (arith, small, no_lighter)

  -- no part weighs more than the nodes of a trail, with a limit of what is called
  pub record Trailed (level : Option ℕ) (f : ℕ) (m : Measures config app weights kind level f) (z : Sizes config app weights kind level f m) (limit i n : ℕ) : Type 0 where
    pub further : List ℕ
    pub trail : IsTrail m.ways i further
    pub le : n ≤ steps_along (coarse (limit + size_limit) z.steps) i further + (limit + size_limit)

  trailed : (level : Option ℕ) (f i n : ℕ) (m : Measures config app weights kind level f) (z : Sizes config app weights kind level f m) (limit : ℕ) → CalledLimit config app weights kind level f limit
      → ReachesItem app f i → SumsOn config app weights kind level f i n → Trailed level f m z limit i n
  trailed level f i n m z limit c r (on_ends l g k item raised) = record { further = []; trail = tt; le = let small = m.fit.small g k in omega (arith, small) }
  trailed level f i n m z limit c r (on_inside l g k j q p further) =
      let after = reaches_inside g k j r p.step in
      let here = living config app weights kind l g k m r (record { item = itself config app weights kind g k p.step.operation p.step.item; raised = p.raised }) in
      let next = living config app weights kind l g j m after (on_begins config app weights kind l g j q further) in
      let rest = trailed l g j q m z limit c after further in
      let step = step_is config app weights kind l g m z k here ∙ plain_adds m.whole (going_weight weights g k) (operation app g k) (ap is_plain p.step.item.is ∙ p.step.plain) in
      let own = going_small m.fit g k in
      let enough = coarse_enough (limit + size_limit) z.steps k (going_weight weights g k) (omega (arith, own)) (λ e. sym step ∙ e) in
      let le = rest.le in
      record { further = j ∷ rest.further; trail = (goes_inside config app weights kind l g m k j p here next, rest.trail); le = omega (arith, le, enough) }
  trailed level f i n m z limit c r (on_enters l a k g q e inner) =
      let le = c.on k g q r e inner in let own = going_small m.fit a k in record { further = []; trail = tt; le = omega (arith, le, own) }
  trailed level f i n m z limit c r (on_passes l a k g q s e inner further) =
      let after = reached_behind config app weights kind l a m k g q r e.item inner in
      let here = living config app weights kind l a k m r (record { item = itself config app weights kind a k (op.Invoke g) e.item; raised = e.raised }) in
      let next = living config app weights kind l a (k + 1) m after (on_begins config app weights kind l a (k + 1) s further) in
      let rest = trailed l a (k + 1) s m z limit c after further in
      let step : get_or z.steps k 0 ≡ joined (going_weight weights a k) ((summary_of m.whole g).back - 1) =
      step_is config app weights kind l a m z k here ∙ ap (going_size m.whole (going_weight weights a k)) e.item.is in
      let small = c.back k g q r e inner in
      let own = going_small m.fit a k in
      let size = (m.called_back k g r e).none_larger q inner in
      let enough = coarse_enough (limit + size_limit) z.steps k (going_weight weights a k + q) (omega (arith, own, small)) (λ none. let w : going_weight weights a k + q ≡ 0 = omega (arith, none, step, size) in w) in
      let le = rest.le in
      record {
        further = (k + 1) ∷ rest.further;
        trail = (goes_behind config app weights kind l a m k g e (passed_some config app weights kind l a m z k g q e here inner) here next, rest.trail);
        le = omega (arith, le, enough);
      }

  abbrev top : (level : Option ℕ) (f : ℕ) (m : Measures config app weights kind level f) (z : Sizes config app weights kind level f m) (limit : ℕ) → ℕ
  top level f m z limit = sum_below (length m.ways) (λ k. get_or (coarse (limit + size_limit) z.steps) k 0) + (limit + size_limit)

  on_top : (level : Option ℕ) (f i n : ℕ) (m : Measures config app weights kind level f) (z : Sizes config app weights kind level f m) (limit : ℕ) → CalledLimit config app weights kind level f limit
      → ReachesItem app f i → SumsOn config app weights kind level f i n → n ≤ top level f m z limit
  on_top level f i n m z limit c r part =
      let t = trailed level f i n m z limit c r part in
      let le = t.le in
      let more = steps_limited m.ways (coarse (limit + size_limit) z.steps) (no_coarse_loop m.ways (limit + size_limit) z.steps z.no_loop) i t.further t.trail in
      omega (arith, le, more)

  within_top : (level : Option ℕ) (f n : ℕ) (m : Measures config app weights kind level f) (z : Sizes config app weights kind level f m) (limit : ℕ) → CalledLimit config app weights kind level f limit
      → SumsWithin config app weights kind level f n → n ≤ limit + top level f m z limit
  within_top level f n m z limit c (within_here l g k size r may part) = let le = on_top l g k size m z limit c r part in omega (arith, le)
  within_top level f n m z limit c (within_called l a k g size call inner) = let le = c.most k g size call inner in omega (arith, le)
  within_top level f n m z limit c (within_behind l a k g size more call inner part) =
      let le = c.out k g size call inner in
      let rest = on_top l a (k + 1) more m z limit c (reached_after config app weights kind l a k g size call inner) part in
      omega (arith, le, rest)

  out_top : (level : Option ℕ) (f n : ℕ) (m : Measures config app weights kind level f) (z : Sizes config app weights kind level f m) (limit : ℕ) → CalledLimit config app weights kind level f limit
      → SumsOut config app weights kind level f n → n ≤ limit + top level f m z limit
  out_top level f n m z limit c (out_here l g k size r may part) =
      let le = on_top l g k size m z limit c r (back_on config app weights kind m.fit l g k size part) in omega (arith, le)
  out_top level f n m z limit c (out_behind l a k g size more call inner part) =
      let le = c.out k g size call inner in
      let rest = on_top l a (k + 1) more m z limit c (reached_after config app weights kind l a k g size call inner) (back_on config app weights kind m.fit l a (k + 1) more part) in
      omega (arith, le, rest)

  -- a limit of all parts
  pub has_limit : (level : Option ℕ) (f : ℕ) (m : Measures config app weights kind level f) (z : Sizes config app weights kind level f m) (limit : ℕ) → CalledLimit config app weights kind level f limit
      → HasLimit config app weights kind level f
  has_limit level f m z limit c = record {
    limit = limit + top level f m z limit;
    on = λ n part. let le = on_top level f 0 n m z limit c (reaches_first f) part in omega (arith, le);
    back = λ n part. let le = on_top level f 0 n m z limit c (reaches_first f) (back_on config app weights kind m.fit level f 0 n part) in omega (arith, le);
    most = λ n part. within_top level f n m z limit c part;
    out = λ n part. out_top level f n m z limit c part;
  }
