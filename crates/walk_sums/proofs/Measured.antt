-- The longest trails through a body are the greatest parts of sections from its items.
use Rattle.std.proofs.Common.{◌≡◌, ℕ, ◌+◌, ◌-◌, ◌<◌, ◌≤◌, ◌⊎◌, inl, inr, Bool, true, false, not, ◌&&◌, List, [], ◌∷◌, length, get_or, cond, min, max, Option, None, refl, ap, sym, ◌∙◌, subst, arith, ⊎_elim}
use Rattle.std.proofs.lemmas.Bool.{cases_eq, cases_lt, true≢false, false≢true, and_parts, lt-ltb, ltb-true}
use Rattle.std.proofs.lemmas.List.{get_or_past}
use Rattle.sloth_base.specs.declared.config.Config.{Config}
use Rattle.sloth_base.specs.declared.app.App.{App}
use Rattle.sloth_base.specs.declared.app.Op.{Op}
use Rattle.sloth_base.specs.declared.app.Op.TheVariants as op
use Rattle.sloth_base.specs.Named.{function, operation}
use Rattle.sloth_base.specs.Limits.{size_limit}
use Rattle.code_rules.specs.Code.{IsItem, IsPathStep}
use Rattle.osek_scheduler.proofs.Facts.{Facts}
use Rattle.osek_blocking.specs.Walks.{chains_itself}
use Rattle.walk_sums.specs.declared.graph.Ways.{Ways}
use Rattle.bound_rules.specs.declared.bound.Body.{Body}
use Rattle.bound_rules.specs.declared.bound.Summary.{Summary}
use Rattle.walk_sums.specs.Graph.{ways_of, HasWay, AreInside}
use Rattle.walk_sums.specs.Loops.{HasWeighingLoop}
use Rattle.walk_sums.specs.Trails.{size_of_trail, IsEnded, IsLongest}
use Rattle.walk_sums.specs.Activations.{is_raised, is_plain, ReachesItem, CanReturn, reaches_first, reaches_inside, reaches_behind, IsRaisedCall, ReachesCall, level_behind}
use Rattle.bound_rules.specs.Items.{reaches_level}
use Rattle.walk_sums.specs.Links.{goes_past, item_ways}
use Rattle.walk_sums.specs.Computed.{is_passed, is_alive, going_size, ending_size, leaving_size}
use Rattle.bound_rules.specs.declared.bound.BodyWeights.{BodyWeights}
use Rattle.bound_rules.specs.Weights.{going_weight, ending_weight, joined}
use Rattle.bound_rules.specs.Summaries.{summary_of}
use Rattle.walk_sums.specs.KnownBodies.{IsKnownBody}
use Rattle.walk_sums.proofs.Reached.{step_of, not_true}
use Rattle.walk_sums.specs.declared.levels.Kind.{Kind}
use Rattle.walk_sums.specs.Kinds.{stops, is_going}
use Rattle.walk_sums.specs.Weights.{AreWeights}
use Rattle.walk_sums.specs.Parts.{IsOpenStep, SumsBack, SumsOn, SumsOut, back_returns, back_inside, back_passes, on_ends, on_inside, on_enters, on_passes, out_here, out_behind}
use Rattle.walk_sums.specs.Known.{IsGreatestPart}
use Rattle.walk_sums.proofs.Stopping.{call_free}
use Rattle.walk_sums.proofs.Leading.{past_cases, plain_past, way_plain, LeadsOn, Led, led, leads, inside}

-- ---- parts

module _ (config : Config) (app : App) (weights : List BodyWeights) (kind : Kind) where
  -- where a part begins the task is raised
  pub record Begins (level : Option ℕ) (f i : ℕ) : Type 0 where
    pub item : IsItem app f i (operation app f i)
    pub raised : is_raised config app level f i ≡ true

  pub itself : (f i : ℕ) (o : Op) → IsItem app f i o → IsItem app f i (operation app f i)
  itself f i o item = record { known = item.known; inside = item.inside; is = refl }

  pub back_begins : (level : Option ℕ) (f i n : ℕ) → SumsBack config app weights kind level f i n → Begins level f i
  back_begins level f i n (back_returns l g k item raised) = record { item = itself g k op.Return item; raised = raised }
  back_begins level f i n (back_inside l g k j m p further) = record { item = itself g k p.step.operation p.step.item; raised = p.raised }
  back_begins level f i n (back_passes l a k g m q e inner further) = record { item = itself a k (op.Invoke g) e.item; raised = e.raised }

  pub on_begins : (level : Option ℕ) (f i n : ℕ) → SumsOn config app weights kind level f i n → Begins level f i
  on_begins level f i n (on_ends l g k item raised) = record { item = item; raised = raised }
  on_begins level f i n (on_inside l g k j m p further) = record { item = itself g k p.step.operation p.step.item; raised = p.raised }
  on_begins level f i n (on_enters l a k g m e inner) = record { item = itself a k (op.Invoke g) e.item; raised = e.raised }
  on_begins level f i n (on_passes l a k g m q e inner further) = record { item = itself a k (op.Invoke g) e.item; raised = e.raised }

  -- where it leads a walk returns
  pub back_returned : (level : Option ℕ) (f i n : ℕ) → SumsBack config app weights kind level f i n → ReachesItem app f i → CanReturn app f
  back_returned level f i n (back_returns l g k item raised) r = (k, r, item)
  back_returned level f i n (back_inside l g k j m p further) r = back_returned l g j m further (reaches_inside g k j r p.step)
  back_returned level f i n (back_passes l a k g m q e inner further) r =
      let ret = back_returned None g 0 m inner (reaches_first g) in
      back_returned l a (k + 1) q further (reaches_behind a k g ret.0 r e.item ret.1 ret.2)

  -- it is a part that stays inside, too
  pub back_on : AreWeights app weights → (level : Option ℕ) (f i n : ℕ) → SumsBack config app weights kind level f i n → SumsOn config app weights kind level f i n
  back_on fit level f i n (back_returns l g k item raised) =
      subst (SumsOn config app weights kind l g k) (fit.same g k (ap is_plain item.is)) (on_ends l g k (itself g k op.Return item) raised)
  back_on fit level f i n (back_inside l g k j m p further) = on_inside l g k j m p (back_on fit l g j m further)
  back_on fit level f i n (back_passes l a k g m q e inner further) = on_passes l a k g m q e inner (back_on fit l a (k + 1) q further)

  -- where a part that ends with a `ret` began, the function was entered, and it returns
  returned : (level : Option ℕ) (f n : ℕ) → SumsOut config app weights kind level f n → CanReturn app f
  returned level f n (out_here l g i m r may b) = back_returned l g i m b r
  returned level f n (out_behind l a i g m q c inner b) =
      let ret = returned (level_behind config app l a i) g m inner in
      back_returned l a (i + 1) q b (reaches_behind a i g ret.0 c.reached c.item ret.1 ret.2)

  -- behind a call through which one leads
  pub reached_after : (level : Option ℕ) (f i g n : ℕ) → ReachesCall app f i g → SumsOut config app weights kind (level_behind config app level f i) g n → ReachesItem app f (i + 1)
  reached_after level f i g n c o =
      let ret = returned (level_behind config app level f i) g n o in reaches_behind f i g ret.0 c.reached c.item ret.1 ret.2

-- ---- what items add

-- an operation calls, or adds what it weighs
calls_or_not : (whole : List Summary) (going ending : ℕ) (o : Op) → ((g : ℕ) × (o ≡ op.Invoke g)) ⊎ ((going_size whole going o ≡ going) × (ending_size whole ending o ≡ joined ending 1))
calls_or_not whole going ending (op.Invoke g) = inl (g, refl)
calls_or_not whole going ending _ = inr (refl, refl)

pub plain_adds : (whole : List Summary) (weight : ℕ) (o : Op) → is_plain o ≡ true → going_size whole weight o ≡ weight
plain_adds whole weight (op.Invoke g) e = absurd (false≢true e)
plain_adds whole weight _ e = refl

returns_is : (weight : ℕ) (o : Op) → 0 < leaving_size weight o → o ≡ op.Return
returns_is weight op.Return lt = refl
returns_is weight (op.Invoke g) lt = absurd (omega (arith, lt))
returns_is weight _ lt = absurd (omega (arith, lt))

-- a trail is extended by a node
going : (ways : List Ways) (steps ends : List ℕ) (i j u v : ℕ) → HasWay ways i j → IsLongest ways steps ends i u → IsLongest ways steps ends j v → 0 < v
    → min size_limit (get_or steps i 0 + v) ≤ u
going ways steps ends i j u v g a b pos =
    let t = b.attained pos in
    let e = t.2 in
    let le = a.none_longer (j ∷ t.0) (record { trail = (g, t.1.trail); adds = t.1.adds }) in
    omega (arith, e, le)

-- ---- one body

-- what is computed of a body, and what is known of the functions that it calls
pub record Measures (config : Config) (app : App) (weights : List BodyWeights) (kind : Kind) (level : Option ℕ) (f : ℕ) : Type 0 where
  pub facts : Facts config app
  pub fit : AreWeights app weights
  pub known : f < length app.funcs
  pub body : Body
  pub is_body : IsKnownBody config app f body
  pub whole : List Summary
  pub alive : List Bool
  pub alive_count : length alive ≡ length (function app f).items
  pub alive_is : (i : ℕ) → i < length (function app f).items → get_or alive i false ≡ is_alive body level i
  pub going : List Bool
  pub going_is : (i : ℕ) → i < length (function app f).items → get_or going i false ≡ is_going (function app f) kind alive i
  pub passed : List Bool
  pub passed_is : (g : ℕ) → get_or passed g false ≡ is_passed (summary_of whole g)
  pub ways : List Ways
  pub ways_count : length ways ≡ length (function app f).items
  pub ways_are : (i : ℕ) → i < length (function app f).items → ways_of ways i ≡ item_ways (function app f) passed going alive i
  -- the functions that are called where the task is raised
  pub called_on : (i g : ℕ) → ReachesItem app f i → IsRaisedCall config app level f i g → IsGreatestPart (SumsOn config app weights kind None g 0) (summary_of whole g).on
  pub called_back : (i g : ℕ) → ReachesItem app f i → IsRaisedCall config app level f i g → IsGreatestPart (SumsBack config app weights kind None g 0) (summary_of whole g).back

-- the sizes of parts
pub record Sizes (config : Config) (app : App) (weights : List BodyWeights) (kind : Kind) (level : Option ℕ) (f : ℕ) (m : Measures config app weights kind level f) : Type 0 where
  pub steps : List ℕ
  pub steps_are : (i : ℕ) → i < length (function app f).items → get_or steps i 0 ≡ going_size m.whole (going_weight weights f i) (operation app f i)
  pub no_loop : ¬ (HasWeighingLoop m.ways steps)
  pub ends : List ℕ
  pub ends_count : length ends ≡ length (function app f).items
  pub ends_are : (i : ℕ) → i < length (function app f).items → get_or ends i 0 ≡ cond (get_or m.alive i false) (ending_size m.whole (ending_weight weights f i) (operation app f i)) 0
  pub leaves : List ℕ
  pub leaves_count : length leaves ≡ length (function app f).items
  pub leaves_are : (i : ℕ) → i < length (function app f).items → get_or leaves i 0 ≡ cond (get_or m.alive i false) (leaving_size (going_weight weights f i) (operation app f i)) 0
  pub on : List ℕ
  pub on_count : length on ≡ length m.ways
  pub on_is : (i : ℕ) → i < length m.ways → IsLongest m.ways steps ends i (get_or on i 0)
  pub back : List ℕ
  pub back_count : length back ≡ length m.ways
  pub back_is : (i : ℕ) → i < length m.ways → IsLongest m.ways steps leaves i (get_or back i 0)

module _ (config : Config) (app : App) (weights : List BodyWeights) (kind : Kind) (level : Option ℕ) (f : ℕ) (m : Measures config app weights kind level f) where
  -- the item is reached and the task is raised before it
  pub record Lives (i : ℕ) : Type 0 where
    pub reached : ReachesItem app f i
    pub item : IsItem app f i (operation app f i)
    pub raised : is_raised config app level f i ≡ true

  pub lives : (i : ℕ) → get_or m.alive i false ≡ true → Lives i
  lives i e = by (cases_lt i (length (function app f).items))
    where
      by : (i < length (function app f).items) ⊎ (length (function app f).items ≤ i) → Lives i
      by (inr le) = let c = m.alive_count in absurd (true≢false (sym e ∙ get_or_past m.alive i false (omega (arith, le, c))))
      by (inl lt) =
          let both = and_parts (get_or m.body.reached i false) (reaches_level level (get_or m.body.ceilings i 0)) (sym (m.alive_is i lt) ∙ e) in
          record {
            reached = (m.is_body.reached i).0 both.0;
            item = record { known = m.known; inside = lt; is = refl };
            raised = ap (reaches_level level) (sym (m.is_body.ceilings i lt)) ∙ both.1;
          }

  and_join : (a b : Bool) → a ≡ true → b ≡ true → (a && b) ≡ true
  and_join true b e f = f
  and_join false b e f = absurd (false≢true e)

  pub alive_at : (i : ℕ) → Lives i → get_or m.alive i false ≡ true
  alive_at i l =
      m.alive_is i l.item.inside
      ∙ and_join (get_or m.body.reached i false) (reaches_level level (get_or m.body.ceilings i 0)) ((m.is_body.reached i).1 l.reached)
      (ap (reaches_level level) (m.is_body.ceilings i l.item.inside) ∙ l.raised)

  pub there : (i : ℕ) → Lives i → i < length m.ways
  there i l = let lt = l.item.inside in let c = m.ways_count in omega (arith, lt, c)

  -- ---- ways are steps of parts

  -- a part goes on from item i to item j
  pub data Link (i j : ℕ) : Type 0 where
    link_inside : IsOpenStep config app kind level f i j → Lives i → Lives j → Link i j
    link_behind : (g : ℕ) → IsRaisedCall config app level f i g → 0 < (summary_of m.whole g).back → Lives i → j ≡ i + 1 → Lives j → Link i j

  abbrev Lead : ℕ → ℕ → Type 0
  Lead i j = Led (function app f) m.passed m.going m.alive m.ways m.ways_count m.ways_are i j

  pub link : (i j : ℕ) → HasWay m.ways i j → Link i j
  link i j g = by l.on
    where
      l : Lead i j
      l = led (function app f) m.passed m.going m.alive m.ways m.ways_count m.ways_are i j g

      parts : (get_or m.alive i false ≡ true) × ((not (stops kind (operation app f i)) && not (chains_itself (function app f) (operation app f i))) ≡ true)
      parts = and_parts (get_or m.alive i false) (not (stops kind (operation app f i)) && not (chains_itself (function app f) (operation app f i))) (sym (m.going_is i l.inside) ∙ l.goes)

      calm : (not (stops kind (operation app f i)) ≡ true) × (not (chains_itself (function app f) (operation app f i)) ≡ true)
      calm = and_parts (not (stops kind (operation app f i))) (not (chains_itself (function app f) (operation app f i))) parts.1

      here : Lives i
      here = lives i parts.0

      next : Lives j
      next = lives j l.is_open

      inside_step : is_plain (operation app f i) ≡ true → IsPathStep (function app f) i j → Link i j
      inside_step plain goes =
          link_inside (record {
            step = step_of app f i j m.known l.inside (not_true (chains_itself (function app f) (operation app f i)) calm.1) plain goes;
            no_stop = not_true (stops kind (operation app f i)) calm.0;
            raised = here.raised;
          }) here next

      by : LeadsOn (function app f) m.passed m.going m.alive m.ways m.ways_count m.ways_are i j → Link i j
      by (inl h) = ⊎_elim
          (λ c. link_behind c.0 (record { item = record { known = m.known; inside = l.inside; is = c.1 }; raised = here.raised })
          (ltb-true 0 (summary_of m.whole c.0).back (sym (m.passed_is c.0) ∙ c.2)) here h.1 next)
          (λ p. inside_step p.0 (inl (p.1, h.1)))
          (past_cases m.passed (operation app f i) h.0)
      by (inr h) = inside_step (way_plain (operation app f i) h.0 h.1) (inr (h.0, h.1, h.2))

  goes_at : (i : ℕ) → Lives i → stops kind (operation app f i) ≡ false → chains_itself (function app f) (operation app f i) ≡ false → get_or m.going i false ≡ true
  goes_at i l calm stays =
      m.going_is i l.item.inside
      ∙ and_join (get_or m.alive i false) (not (stops kind (operation app f i)) && not (chains_itself (function app f) (operation app f i))) (alive_at i l)
      (and_join (not (stops kind (operation app f i))) (not (chains_itself (function app f) (operation app f i))) (ap not calm) (ap not stays))

  pub goes_inside : (i j : ℕ) → IsOpenStep config app kind level f i j → Lives i → Lives j → HasWay m.ways i j
  goes_inside i j p a b =
      leads (function app f) m.passed m.going m.alive m.ways m.ways_count m.ways_are i j (record {
        inside = a.item.inside;
        goes = goes_at i a (ap (stops kind) p.step.item.is ∙ p.no_stop) (ap (chains_itself (function app f)) p.step.item.is ∙ p.step.stays);
        is_open = alive_at j b;
        on = ⊎_elim (λ h. inl (plain_past m.passed (operation app f i) (ap is_plain p.step.item.is ∙ p.step.plain) h.0, h.1)) (λ h. inr (h.0, h.1, h.2)) p.step.goes_on;
      })

  pub goes_behind : (i g : ℕ) → IsRaisedCall config app level f i g → 0 < (summary_of m.whole g).back → Lives i → Lives (i + 1) → HasWay m.ways i (i + 1)
  goes_behind i g e pos a b =
      leads (function app f) m.passed m.going m.alive m.ways m.ways_count m.ways_are i (i + 1) (record {
        inside = a.item.inside;
        goes = goes_at i a (ap (stops kind) e.item.is ∙ call_free kind g) (ap (chains_itself (function app f)) e.item.is);
        is_open = alive_at (i + 1) b;
        on = inl (ap (goes_past m.passed) e.item.is ∙ m.passed_is g ∙ lt-ltb 0 (summary_of m.whole g).back pos, refl);
      })

  pub to_there : AreInside m.ways
  to_there = inside (function app f) m.passed m.going m.alive m.ways m.ways_count m.ways_are m.alive_count

  pub reached_behind : (i g n : ℕ) → ReachesItem app f i → IsItem app f i (op.Invoke g) → SumsBack config app weights kind None g 0 n → ReachesItem app f (i + 1)
  reached_behind i g n r item b =
      let ret = back_returned config app weights kind None g 0 n b (reaches_first g) in
      reaches_behind f i g ret.0 r item ret.1 ret.2

  pub link_lives : (i j : ℕ) → Link i j → Lives i
  link_lives i j (link_inside p a b) = a
  link_lives i j (link_behind g e pos a next b) = a

  -- ---- sizes

  module _ (z : Sizes config app weights kind level f m) where
    abbrev on_at : ℕ → ℕ
    on_at i = get_or z.on i 0

    abbrev back_at : ℕ → ℕ
    back_at i = get_or z.back i 0

    end_is : (i : ℕ) → Lives i → get_or z.ends i 0 ≡ ending_size m.whole (ending_weight weights f i) (operation app f i)
    end_is i a = z.ends_are i a.item.inside ∙ ap (λ b. cond b (ending_size m.whole (ending_weight weights f i) (operation app f i)) 0) (alive_at i a)

    leave_is : (i : ℕ) → Lives i → get_or z.leaves i 0 ≡ leaving_size (going_weight weights f i) (operation app f i)
    leave_is i a = z.leaves_are i a.item.inside ∙ ap (λ b. cond b (leaving_size (going_weight weights f i) (operation app f i)) 0) (alive_at i a)

    pub step_is : (i : ℕ) → Lives i → get_or z.steps i 0 ≡ going_size m.whole (going_weight weights f i) (operation app f i)
    step_is i a = z.steps_are i a.item.inside

    -- what adds something is alive
    alive_of : (table : List ℕ) (size : ℕ → ℕ) → length table ≡ length (function app f).items
        → ((i : ℕ) → i < length (function app f).items → get_or table i 0 ≡ cond (get_or m.alive i false) (size i) 0)
        → (i : ℕ) → 0 < get_or table i 0 → Lives i
    alive_of table size count are i pos = by (cases_lt i (length (function app f).items))
      where
        by : (i < length (function app f).items) ⊎ (length (function app f).items ≤ i) → Lives i
        by (inr le) = let e = get_or_past table i 0 (omega (arith, le, count)) in absurd (omega (arith, e, pos))
        by (inl lt) = at (get_or m.alive i false) refl (are i lt)
          where
            at : (b : Bool) → get_or m.alive i false ≡ b → get_or table i 0 ≡ cond b (size i) 0 → Lives i
            at true e h = lives i e
            at false e h = absurd (omega (arith, h, pos))

    ends_enough : (i : ℕ) → Lives i → min size_limit (get_or z.ends i 0) ≤ on_at i
    ends_enough i a = by (cases_eq (get_or z.ends i 0) 0)
      where
        by : (get_or z.ends i 0 ≡ 0) ⊎ (get_or z.ends i 0 ≡ 0 → ⊥) → min size_limit (get_or z.ends i 0) ≤ on_at i
        by (inl e) = omega (arith, e)
        by (inr n) = (z.on_is i (there i a)).none_longer [] (record { trail = tt; adds = omega (arith, n) })

    pub alone : (i : ℕ) → Lives i → min size_limit (ending_weight weights f i + 1) ≤ on_at i
    alone i a = by (calls_or_not m.whole (going_weight weights f i) (ending_weight weights f i) (operation app f i))
      where
        by : ((g : ℕ) × (operation app f i ≡ op.Invoke g)) ⊎ ((going_size m.whole (going_weight weights f i) (operation app f i) ≡ going_weight weights f i) × (ending_size m.whole (ending_weight weights f i) (operation app f i) ≡ joined (ending_weight weights f i) 1))
            → min size_limit (ending_weight weights f i + 1) ≤ on_at i
        by (inl g) =
            let le = ends_enough i a in
            let e = end_is i a ∙ ap (ending_size m.whole (ending_weight weights f i)) g.1 in
            omega (arith, le, e)
        by (inr n) =
            let le = ends_enough i a in
            let e = end_is i a ∙ n.1 in
            omega (arith, le, e)

    pub enters : (i g n : ℕ) → Lives i → IsRaisedCall config app level f i g → SumsOn config app weights kind None g 0 n → min size_limit (going_weight weights f i + n + 1) ≤ on_at i
    enters i g n a e inner =
        let le = ends_enough i a in
        let is = end_is i a ∙ ap (ending_size m.whole (ending_weight weights f i)) e.item.is in
        let same = m.fit.same f i (ap is_plain e.item.is) in
        let small = (m.called_on i g a.reached e).none_larger n inner in
        omega (arith, le, is, same, small)

    -- ---- one step more

    pub step_on : (i j q : ℕ) → IsOpenStep config app kind level f i j → Lives i → Lives j → min size_limit (q + 1) ≤ on_at j → min size_limit (going_weight weights f i + q + 1) ≤ on_at i
    step_on i j q p here next le =
        let more = going m.ways z.steps z.ends i j (on_at i) (on_at j) (goes_inside i j p here next) (z.on_is i (there i here)) (z.on_is j (there j next)) (omega (arith, le)) in
        let step = step_is i here ∙ plain_adds m.whole (going_weight weights f i) (operation app f i) (ap is_plain p.step.item.is ∙ p.step.plain) in
        omega (arith, le, more, step)

    pub step_back : (i j q : ℕ) → IsOpenStep config app kind level f i j → Lives i → Lives j → min size_limit (q + 1) ≤ back_at j → min size_limit (going_weight weights f i + q + 1) ≤ back_at i
    step_back i j q p here next le =
        let more = going m.ways z.steps z.leaves i j (back_at i) (back_at j) (goes_inside i j p here next) (z.back_is i (there i here)) (z.back_is j (there j next)) (omega (arith, le)) in
        let step = step_is i here ∙ plain_adds m.whole (going_weight weights f i) (operation app f i) (ap is_plain p.step.item.is ∙ p.step.plain) in
        omega (arith, le, more, step)

    pub passed_some : (i g q : ℕ) → IsRaisedCall config app level f i g → Lives i → SumsBack config app weights kind None g 0 q → 0 < (summary_of m.whole g).back
    passed_some i g q e here inner =
        let small = (m.called_back i g here.reached e).none_larger q inner in
        omega (arith, small)

    pub pass_on : (i g q s : ℕ) → IsRaisedCall config app level f i g → Lives i → Lives (i + 1) → SumsBack config app weights kind None g 0 q → min size_limit (s + 1) ≤ on_at (i + 1)
        → min size_limit (going_weight weights f i + (q + s) + 1) ≤ on_at i
    pass_on i g q s e here next inner le =
        let small = (m.called_back i g here.reached e).none_larger q inner in
        let more = going m.ways z.steps z.ends i (i + 1) (on_at i) (on_at (i + 1)) (goes_behind i g e (passed_some i g q e here inner) here next)
        (z.on_is i (there i here)) (z.on_is (i + 1) (there (i + 1) next)) (omega (arith, le)) in
        let step = step_is i here ∙ ap (going_size m.whole (going_weight weights f i)) e.item.is in
        omega (arith, le, more, step, small)

    pub pass_back : (i g q s : ℕ) → IsRaisedCall config app level f i g → Lives i → Lives (i + 1) → SumsBack config app weights kind None g 0 q → min size_limit (s + 1) ≤ back_at (i + 1)
        → min size_limit (going_weight weights f i + (q + s) + 1) ≤ back_at i
    pass_back i g q s e here next inner le =
        let small = (m.called_back i g here.reached e).none_larger q inner in
        let more = going m.ways z.steps z.leaves i (i + 1) (back_at i) (back_at (i + 1)) (goes_behind i g e (passed_some i g q e here inner) here next)
        (z.back_is i (there i here)) (z.back_is (i + 1) (there (i + 1) next)) (omega (arith, le)) in
        let step = step_is i here ∙ ap (going_size m.whole (going_weight weights f i)) e.item.is in
        omega (arith, le, more, step, small)

    pub leave : (i : ℕ) → Lives i → IsItem app f i op.Return → min size_limit (going_weight weights f i + 1) ≤ back_at i
    leave i a item =
        let e = leave_is i a ∙ ap (leaving_size (going_weight weights f i)) item.is in
        let le = (z.back_is i (there i a)).none_longer [] (record { trail = tt; adds = omega (arith, e) }) in
        omega (arith, le, e)

    -- ---- each size is attained

    abbrev OnOf : (i size : ℕ) → Type 0
    OnOf i size = (n : ℕ) × SumsOn config app weights kind level f i n × (min size_limit (n + 1) ≡ size)

    abbrev BackOf : (i size : ℕ) → Type 0
    BackOf i size = (n : ℕ) × SumsBack config app weights kind level f i n × (min size_limit (n + 1) ≡ size)

    ending : (i : ℕ) → Lives i → OnOf i (min size_limit (get_or z.ends i 0))
    ending i a = by (calls_or_not m.whole (going_weight weights f i) (ending_weight weights f i) (operation app f i))
      where
        by : ((g : ℕ) × (operation app f i ≡ op.Invoke g)) ⊎ ((going_size m.whole (going_weight weights f i) (operation app f i) ≡ going_weight weights f i) × (ending_size m.whole (ending_weight weights f i) (operation app f i) ≡ joined (ending_weight weights f i) 1))
            → OnOf i (min size_limit (get_or z.ends i 0))
        by (inr n) =
            let e = end_is i a ∙ n.1 in
            (ending_weight weights f i, on_ends level f i a.item a.raised, omega (arith, e))
        by (inl g) = at (cases_eq (summary_of m.whole g.0).on 0)
          where
            enter : IsRaisedCall config app level f i g.0
            enter = record { item = record { known = m.known; inside = a.item.inside; is = g.1 }; raised = a.raised }

            is : get_or z.ends i 0 ≡ joined (ending_weight weights f i) (max 1 (summary_of m.whole g.0).on)
            is = end_is i a ∙ ap (ending_size m.whole (ending_weight weights f i)) g.1

            at : ((summary_of m.whole g.0).on ≡ 0) ⊎ ((summary_of m.whole g.0).on ≡ 0 → ⊥) → OnOf i (min size_limit (get_or z.ends i 0))
            at (inl none) = (ending_weight weights f i, on_ends level f i a.item a.raised, omega (arith, is, none))
            at (inr n) =
                let inner = (m.called_on i g.0 a.reached enter).attained (omega (arith, n)) in
                let e = inner.2 in
                let same = m.fit.same f i (ap is_plain g.1) in
                (going_weight weights f i + inner.0, on_enters level f i g.0 inner.0 enter inner.1, omega (arith, is, e, same))

    on_front : (i j v : ℕ) → Link i j → OnOf j v → OnOf i (min size_limit (get_or z.steps i 0 + v))
    on_front i j v (link_inside p a b) further =
        let e = step_is i a ∙ plain_adds m.whole (going_weight weights f i) (operation app f i) (ap is_plain p.step.item.is ∙ p.step.plain) in
        let is = further.2 in
        (going_weight weights f i + further.0, on_inside level f i j further.0 p further.1, omega (arith, e, is))
    on_front i j v (link_behind g en pos a next b) further =
        let inner = (m.called_back i g a.reached en).attained pos in
        let e = step_is i a ∙ ap (going_size m.whole (going_weight weights f i)) en.item.is in
        let is = further.2 in
        let was = inner.2 in
        (going_weight weights f i + (inner.0 + further.0), on_passes level f i g inner.0 further.0 en inner.1 (subst (λ k. SumsOn config app weights kind level f k further.0) next further.1), omega (arith, e, is, was))

    on_trail : (further : List ℕ) (i : ℕ) → IsEnded m.ways z.ends i further → OnOf i (min size_limit (size_of_trail z.steps z.ends i further))
    on_trail [] i e = ending i (alive_of z.ends (λ k. ending_size m.whole (ending_weight weights f k) (operation app f k)) z.ends_count z.ends_are i e.adds)
    on_trail (j ∷ further) i e =
        let rest = on_trail further j (record { trail = e.trail.1; adds = e.adds }) in
        let front = on_front i j (min size_limit (size_of_trail z.steps z.ends j further)) (link i j e.trail.0) rest in
        let is = front.2 in
        (front.0, front.1, omega (arith, is))

    back_front : (i j v : ℕ) → Link i j → BackOf j v → BackOf i (min size_limit (get_or z.steps i 0 + v))
    back_front i j v (link_inside p a b) further =
        let e = step_is i a ∙ plain_adds m.whole (going_weight weights f i) (operation app f i) (ap is_plain p.step.item.is ∙ p.step.plain) in
        let is = further.2 in
        (going_weight weights f i + further.0, back_inside level f i j further.0 p further.1, omega (arith, e, is))
    back_front i j v (link_behind g en pos a next b) further =
        let inner = (m.called_back i g a.reached en).attained pos in
        let e = step_is i a ∙ ap (going_size m.whole (going_weight weights f i)) en.item.is in
        let is = further.2 in
        let was = inner.2 in
        (going_weight weights f i + (inner.0 + further.0), back_passes level f i g inner.0 further.0 en inner.1 (subst (λ k. SumsBack config app weights kind level f k further.0) next further.1), omega (arith, e, is, was))

    back_trail : (further : List ℕ) (i : ℕ) → IsEnded m.ways z.leaves i further → BackOf i (min size_limit (size_of_trail z.steps z.leaves i further))
    back_trail [] i e =
        let a = alive_of z.leaves (λ k. leaving_size (going_weight weights f k) (operation app f k)) z.leaves_count z.leaves_are i e.adds in
        let is = leave_is i a in
        let adds = e.adds in
        let ret = returns_is (going_weight weights f i) (operation app f i) (omega (arith, is, adds)) in
        let leaves : get_or z.leaves i 0 ≡ joined (going_weight weights f i) 1 = is ∙ ap (leaving_size (going_weight weights f i)) ret in
        (going_weight weights f i, back_returns level f i (record { known = m.known; inside = a.item.inside; is = ret }) a.raised, omega (arith, leaves))
    back_trail (j ∷ further) i e =
        let rest = back_trail further j (record { trail = e.trail.1; adds = e.adds }) in
        let front = back_front i j (min size_limit (size_of_trail z.steps z.leaves j further)) (link i j e.trail.0) rest in
        let is = front.2 in
        (front.0, front.1, omega (arith, is))

    -- an entry that is not 0 is one of the table
    in_table : (table : List ℕ) (i : ℕ) → length table ≡ length m.ways → 0 < get_or table i 0 → i < length m.ways
    in_table table i count pos = by (cases_lt i (length m.ways))
      where
        by : (i < length m.ways) ⊎ (length m.ways ≤ i) → i < length m.ways
        by (inl lt) = lt
        by (inr le) = let e = get_or_past table i 0 (omega (arith, le, count)) in absurd (omega (arith, e, pos))

    first_lives : (further : List ℕ) (i : ℕ) → IsEnded m.ways z.ends i further → Lives i
    first_lives [] i e = alive_of z.ends (λ k. ending_size m.whole (ending_weight weights f k) (operation app f k)) z.ends_count z.ends_are i e.adds
    first_lives (j ∷ further) i e = link_lives i j (link i j e.trail.0)

    first_leaves : (further : List ℕ) (i : ℕ) → IsEnded m.ways z.leaves i further → Lives i
    first_leaves [] i e = alive_of z.leaves (λ k. leaving_size (going_weight weights f k) (operation app f k)) z.leaves_count z.leaves_are i e.adds
    first_leaves (j ∷ further) i e = link_lives i j (link i j e.trail.0)

    pub on_attained : (i : ℕ) → 0 < on_at i → Lives i × OnOf i (on_at i)
    on_attained i pos =
        let t = (z.on_is i (in_table z.on i z.on_count pos)).attained pos in
        let part = on_trail t.0 i t.1 in
        (first_lives t.0 i t.1, (part.0, part.1, part.2 ∙ t.2))

    pub back_attained : (i : ℕ) → 0 < back_at i → Lives i × BackOf i (back_at i)
    back_attained i pos =
        let t = (z.back_is i (in_table z.back i z.back_count pos)).attained pos in
        let part = back_trail t.0 i t.1 in
        (first_leaves t.0 i t.1, (part.0, part.1, part.2 ∙ t.2))

-- ---- no part is larger

module _ (config : Config) (app : App) (weights : List BodyWeights) (kind : Kind) where
  pub living : (level : Option ℕ) (f i : ℕ) (m : Measures config app weights kind level f) → ReachesItem app f i → Begins config app weights kind level f i → Lives config app weights kind level f m i
  living level f i m r b = record { reached = r; item = b.item; raised = b.raised }

  pub on_none : (level : Option ℕ) (f i n : ℕ) (m : Measures config app weights kind level f) (z : Sizes config app weights kind level f m) → ReachesItem app f i → SumsOn config app weights kind level f i n
      → min size_limit (n + 1) ≤ get_or z.on i 0
  on_none level f i n m z r (on_ends l g k item raised) = alone config app weights kind l g m z k (record { reached = r; item = item; raised = raised })
  on_none level f i n m z r (on_inside l g k j q p further) =
      let after = reaches_inside g k j r p.step in
      step_on config app weights kind l g m z k j q p (living l g k m r (record { item = itself config app weights kind g k p.step.operation p.step.item; raised = p.raised }))
      (living l g j m after (on_begins config app weights kind l g j q further)) (on_none l g j q m z after further)
  on_none level f i n m z r (on_enters l a k g q e inner) =
      enters config app weights kind l a m z k g q (living l a k m r (record { item = itself config app weights kind a k (op.Invoke g) e.item; raised = e.raised })) e inner
  on_none level f i n m z r (on_passes l a k g q s e inner further) =
      let after = reached_behind config app weights kind l a m k g q r e.item inner in
      pass_on config app weights kind l a m z k g q s e (living l a k m r (record { item = itself config app weights kind a k (op.Invoke g) e.item; raised = e.raised }))
      (living l a (k + 1) m after (on_begins config app weights kind l a (k + 1) s further)) inner (on_none l a (k + 1) s m z after further)

  pub back_none : (level : Option ℕ) (f i n : ℕ) (m : Measures config app weights kind level f) (z : Sizes config app weights kind level f m) → ReachesItem app f i → SumsBack config app weights kind level f i n
      → min size_limit (n + 1) ≤ get_or z.back i 0
  back_none level f i n m z r (back_returns l g k item raised) =
      leave config app weights kind l g m z k (record { reached = r; item = itself config app weights kind g k op.Return item; raised = raised }) item
  back_none level f i n m z r (back_inside l g k j q p further) =
      let after = reaches_inside g k j r p.step in
      step_back config app weights kind l g m z k j q p (living l g k m r (record { item = itself config app weights kind g k p.step.operation p.step.item; raised = p.raised }))
      (living l g j m after (back_begins config app weights kind l g j q further)) (back_none l g j q m z after further)
  back_none level f i n m z r (back_passes l a k g q s e inner further) =
      let after = reached_behind config app weights kind l a m k g q r e.item inner in
      pass_back config app weights kind l a m z k g q s e (living l a k m r (record { item = itself config app weights kind a k (op.Invoke g) e.item; raised = e.raised }))
      (living l a (k + 1) m after (back_begins config app weights kind l a (k + 1) s further)) inner (back_none l a (k + 1) s m z after further)
