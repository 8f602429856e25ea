-- The ways of a body are steps of parts, past calls of functions whose parts have a limit.
use Rattle.std.proofs.Common.{◌≡◌, ℕ, ◌+◌, ◌-◌, ◌<◌, ◌≤◌, ◌⊎◌, inl, inr, Bool, true, false, not, ltb, ◌&&◌, List, length, get_or, min, Option, None, refl, ap, sym, ◌∙◌, subst, arith, ⊎_elim}
use Rattle.std.specs.Prelude.{MatchBool}
use Rattle.std.proofs.lemmas.Bool.{cases_lt, true≢false, false≢true, and_parts, lt-ltb, ltb-true}
use Rattle.std.proofs.lemmas.List.{get_or_past}
use Rattle.sloth_base.specs.declared.config.Config.{Config}
use Rattle.sloth_base.specs.declared.app.App.{App}
use Rattle.sloth_base.specs.declared.app.Op.{Op}
use Rattle.sloth_base.specs.declared.app.Op.TheVariants as op
use Rattle.sloth_base.specs.Named.{function, operation}
use Rattle.sloth_base.specs.Limits.{size_limit}
use Rattle.code_rules.specs.Code.{IsItem, IsPathStep}
use Rattle.osek_blocking.specs.Walks.{chains_itself}
use Rattle.bound_rules.specs.declared.bound.Body.{Body}
use Rattle.bound_rules.specs.declared.bound.Summary.{Summary}
use Rattle.bound_rules.specs.declared.bound.BodyWeights.{BodyWeights}
use Rattle.bound_rules.specs.Items.{reaches_level}
use Rattle.bound_rules.specs.Summaries.{summary_of}
use Rattle.bound_rules.specs.Weights.{going_weight}
use Rattle.walk_sums.specs.declared.graph.Ways.{Ways}
use Rattle.walk_sums.specs.declared.levels.Kind.{Kind}
use Rattle.walk_sums.specs.Graph.{HasWay, AreInside}
use Rattle.walk_sums.specs.Activations.{is_raised, is_plain, IsRaisedCall}
use Rattle.walk_sums.specs.Computed.{is_alive, going_size}
use Rattle.walk_sums.specs.Kinds.{stops}
use Rattle.walk_sums.specs.Known.{HasLimit, IsExact, IsEndless, IsSummary, SumsAny}
use Rattle.walk_sums.specs.KnownBodies.{no_body, IsKnownBody}
use Rattle.walk_sums.specs.Links as links
use Rattle.walk_sums.specs.Parts.{IsOpenStep, SumsBack}
use Rattle.walk_sums.proofs.Bodily.{facts_of}
use Rattle.walk_sums.proofs.Leading.{past_cases, plain_past, way_plain, LeadsOn, Led, led, leads, inside}
use Rattle.walk_sums.proofs.Measured.{plain_adds}
use Rattle.walk_sums.proofs.Reached.{step_of, not_true, called_known}
use Rattle.walk_sums.proofs.Stopping.{call_free}
use Rattle.response_reasons.specs.Loops.{IsRaisedItem, GoesOn, goes_inside, goes_past}
use Rattle.response_reasons.specs.LoopCode.{LoopCode, IsLoopCode, is_limited, AreLoopWays}

and_join : (a b : Bool) → a ≡ true → b ≡ true → (a && b) ≡ true
and_join true b e f = f
and_join false b e f = absurd (false≢true e)

module _ (c : LoopCode) (is : IsLoopCode c) (level : Option ℕ) (f : ℕ) (known : f < length c.walks.app.funcs) (twice : List Ways) (w : AreLoopWays c level f twice) where
  abbrev config : Config
  config = c.walks.config

  abbrev app : App
  app = c.walks.app

  abbrev weights : List BodyWeights
  weights = c.weights

  abbrev kind : Kind
  kind = c.kind

  abbrev body : Body
  body = get_or c.walks.bodies f no_body

  is_body : IsKnownBody config app f body
  is_body = is.walked.bodies.each f known

  abbrev Stands : ℕ → Type 0
  Stands i = IsRaisedItem config app level f i

  abbrev Goes : (i j n : ℕ) → Type 0
  Goes i j n = GoesOn config app weights kind level f i j n

  -- ---- items

  stands : (i : ℕ) → get_or w.alive i false ≡ true → Stands i
  stands i e = by (cases_lt i (length (function app f).items))
    where
      by : (i < length (function app f).items) ⊎ (length (function app f).items ≤ i) → Stands i
      by (inr le) = let count = w.alive_count in absurd (true≢false (sym e ∙ get_or_past w.alive i false (omega (arith, le, count))))
      by (inl lt) =
          let both = and_parts (get_or body.reached i false) (reaches_level level (get_or body.ceilings i 0)) (sym (w.alive_is i lt) ∙ e) in
          record {
            reached = (is_body.reached i).0 both.0;
            item = record { known = known; inside = lt; is = refl };
            raised = ap (reaches_level level) (sym (is_body.ceilings i lt)) ∙ both.1;
          }

  alive_at : (i : ℕ) → Stands i → get_or w.alive i false ≡ true
  alive_at i s =
      w.alive_is i s.item.inside
      ∙ and_join (get_or body.reached i false) (reaches_level level (get_or body.ceilings i 0)) ((is_body.reached i).1 s.reached)
      (ap (reaches_level level) (is_body.ceilings i s.item.inside) ∙ s.raised)

  going_at : (i : ℕ) → Stands i → stops kind (operation app f i) ≡ false → chains_itself (function app f) (operation app f i) ≡ false → get_or w.going i false ≡ true
  going_at i s calm stays =
      w.going_is i s.item.inside
      ∙ and_join (get_or w.alive i false) (not (stops kind (operation app f i)) && not (chains_itself (function app f) (operation app f i))) (alive_at i s)
      (and_join (not (stops kind (operation app f i))) (not (chains_itself (function app f) (operation app f i))) (ap not calm) (ap not stays))

  -- ---- calls that are passed

  summary : (i g : ℕ) → IsItem app f i (op.Invoke g) → IsSummary config app weights kind None g (summary_of c.whole g)
  summary i g item = is.sums.each g (called_known config app (facts_of config app is.walked.well_formed) f g (i, item))

  -- parts of what is called have a limit, and some part returns, the greatest of which is told
  record Passed (g : ℕ) : Type 0 where
    pub limit : HasLimit config app weights kind None g
    pub weight : ℕ
    pub part : SumsBack config app weights kind None g 0 weight
    pub size : min size_limit (weight + 1) ≡ (summary_of c.whole g).back

  passed : (i g : ℕ) → IsItem app f i (op.Invoke g) → get_or w.limited g false ≡ true → Passed g
  passed i g item e =
      let s = summary_of c.whole g in
      let both = and_parts (not s.is_endless) (ltb 0 s.back) (sym (w.limited_is g) ∙ e) in
      let P : Bool → Type 0 = λ b. MatchBool b (IsEndless config app weights kind None g) (IsExact config app weights kind None g s) in
      let x : IsExact config app weights kind None g s = subst P (not_true s.is_endless both.0) (summary i g item) in
      let a = x.back.attained (ltb-true 0 s.back both.1) in
      record { limit = x.limited; weight = a.0; part = a.1; size = a.2 }

  -- no part of it weighs more than is told
  returns : (i g n : ℕ) → IsItem app f i (op.Invoke g) → HasLimit config app weights kind None g → SumsBack config app weights kind None g 0 n
      → (get_or w.limited g false ≡ true) × (min size_limit (n + 1) ≤ (summary_of c.whole g).back)
  returns i g n item limit part = by (summary_of c.whole g).is_endless refl
    where
      P : Bool → Type 0
      P b = MatchBool b (IsEndless config app weights kind None g) (IsExact config app weights kind None g (summary_of c.whole g))

      too_large : (k : ℕ) → SumsAny config app weights kind None g k → limit.limit + 1 ≤ k → ⊥
      too_large k (inl on) le = let most = limit.on k on in omega (arith, le, most)
      too_large k (inr within) le = let most = limit.most k within in omega (arith, le, most)

      by : (b : Bool) → (summary_of c.whole g).is_endless ≡ b → (get_or w.limited g false ≡ true) × (min size_limit (n + 1) ≤ (summary_of c.whole g).back)
      by true e = let x = subst P e (summary i g item) (limit.limit + 1) in
          absurd (too_large x.0 (subst (λ v. SumsAny config app weights v None g x.0) is.of_all x.1) x.2)
      by false e =
          let x : IsExact config app weights kind None g (summary_of c.whole g) = subst P e (summary i g item) in
          let most = x.back.none_larger n part in
          (w.limited_is g ∙ and_join (not (summary_of c.whole g).is_endless) (ltb 0 (summary_of c.whole g).back) (ap not e) (lt-ltb 0 (summary_of c.whole g).back (omega (arith, most))), most)

  -- ---- ways

  abbrev Lead : ℕ → ℕ → Type 0
  Lead i j = Led (function app f) w.limited w.going w.alive w.ways w.ways_count w.ways_are i j

  -- a step of a part with what it weighs, as the lists say
  abbrev Step : (i j : ℕ) → Type 0
  Step i j = (k : ℕ) × Goes i j k × (0 < get_or w.steps i 0 → 0 < k) × (get_or w.steps i 0 ≡ 0 → k ≡ 0)

  pub sound : (i j : ℕ) → HasWay w.ways i j → Step i j
  sound i j g = by l.on
    where
      l : Lead i j
      l = led (function app f) w.limited w.going w.alive w.ways w.ways_count w.ways_are i j g

      parts : (get_or w.alive i false ≡ true) × ((not (stops kind (operation app f i)) && not (chains_itself (function app f) (operation app f i))) ≡ true)
      parts = and_parts (get_or w.alive i false) (not (stops kind (operation app f i)) && not (chains_itself (function app f) (operation app f i))) (sym (w.going_is i l.inside) ∙ l.goes)

      calm : (not (stops kind (operation app f i)) ≡ true) × (not (chains_itself (function app f) (operation app f i)) ≡ true)
      calm = and_parts (not (stops kind (operation app f i))) (not (chains_itself (function app f) (operation app f i))) parts.1

      here : Stands i
      here = stands i parts.0

      next : Stands j
      next = stands j l.is_open

      inside_step : is_plain (operation app f i) ≡ true → IsPathStep (function app f) i j → Step i j
      inside_step plain goes =
          let e = w.steps_are i l.inside ∙ plain_adds c.whole (going_weight weights f i) (operation app f i) plain in (
            going_weight weights f i,
            goes_inside here next (record {
              step = step_of app f i j known l.inside (not_true (chains_itself (function app f) (operation app f i)) calm.1) plain goes;
              no_stop = not_true (stops kind (operation app f i)) calm.0;
              raised = here.raised;
            }),
            λ pos. omega (arith, e, pos),
            λ none. omega (arith, e, none),
          )

      call_step : (g : ℕ) → operation app f i ≡ op.Invoke g → get_or w.limited g false ≡ true → j ≡ i + 1 → Step i j
      call_step g o limited e =
          let item : IsItem app f i (op.Invoke g) = record { known = known; inside = l.inside; is = o } in
          let p = passed i g item limited in
          let size = p.size in
          let s = w.steps_are i l.inside ∙ ap (going_size c.whole (going_weight weights f i)) o in (
            going_weight weights f i + p.weight,
            goes_past g p.weight here next e (record { item = item; raised = here.raised }) p.limit p.part,
            λ pos. omega (arith, s, size, pos),
            λ none. omega (arith, s, size, none),
          )

      by : LeadsOn (function app f) w.limited w.going w.alive w.ways w.ways_count w.ways_are i j → Step i j
      by (inl h) = ⊎_elim (λ x. call_step x.0 x.1 x.2 h.1) (λ p. inside_step p.0 (inl (p.1, h.1))) (past_cases w.limited (operation app f i) h.0)
      by (inr h) = inside_step (way_plain (operation app f i) h.0 h.1) (inr (h.0, h.1, h.2))

  pub complete : (i j k : ℕ) → Goes i j k → HasWay w.ways i j × (0 < k → 0 < get_or w.steps i 0)
  complete i j k (goes_inside a b p) =
      let e = w.steps_are i a.item.inside ∙ plain_adds c.whole (going_weight weights f i) (operation app f i) (ap is_plain p.step.item.is ∙ p.step.plain) in (
        leads (function app f) w.limited w.going w.alive w.ways w.ways_count w.ways_are i j (record {
          inside = a.item.inside;
          goes = going_at i a (ap (stops kind) p.step.item.is ∙ p.no_stop) (ap (chains_itself (function app f)) p.step.item.is ∙ p.step.stays);
          is_open = alive_at j b;
          on = ⊎_elim (λ h. inl (plain_past w.limited (operation app f i) (ap is_plain p.step.item.is ∙ p.step.plain) h.0, h.1)) (λ h. inr (h.0, h.1, h.2)) p.step.goes_on;
        }),
        λ pos. omega (arith, e, pos),
      )
  complete i j k (goes_past g n a b next call limit part) =
      let r = returns i g n call.item limit part in
      let most = r.1 in
      let s = w.steps_are i a.item.inside ∙ ap (going_size c.whole (going_weight weights f i)) call.item.is in (
        leads (function app f) w.limited w.going w.alive w.ways w.ways_count w.ways_are i j (record {
          inside = a.item.inside;
          goes = going_at i a (ap (stops kind) call.item.is ∙ call_free kind g) (ap (chains_itself (function app f)) call.item.is);
          is_open = alive_at j b;
          on = inl (ap (links.goes_past w.limited) call.item.is ∙ r.0, next);
        }),
        λ pos. omega (arith, s, most, pos),
      )

  pub to_there : AreInside w.ways
  to_there = inside (function app f) w.limited w.going w.alive w.ways w.ways_count w.ways_are w.alive_count
