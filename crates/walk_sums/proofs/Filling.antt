-- The summary of a body, from the lists that are made of it.
use Rattle.std.proofs.Common.{◌≡◌, ℕ, ◌<◌, arith, Bool, true, false, cond, List, length, get_or, Option, ap, sym, ◌∙◌, subst}
use Rattle.sloth_base.specs.declared.config.Config.{Config}
use Rattle.sloth_base.specs.declared.app.App.{App}
use Rattle.sloth_base.specs.declared.app.Func.{Func}
use Rattle.sloth_base.specs.Named.{function, item_of}
use Rattle.task_verify.specs.Ways.{HasBodyLabel}
use Rattle.walk_sums.specs.declared.graph.Ways.{Ways}
use Rattle.bound_rules.specs.declared.bound.Body.{Body}
use Rattle.bound_rules.specs.declared.bound.Summary.{Summary}
use Rattle.bound_rules.specs.declared.bound.BodyWeights.{BodyWeights}
use Rattle.bound_rules.specs.Weights.{no_weights}
use Rattle.bound_rules.specs.Summaries.{IsCountedUp}
use Rattle.walk_sums.specs.Graph.{AreInside}
use Rattle.walk_sums.specs.Loops.{HasWeighingLoop}
use Rattle.walk_sums.specs.Trails.{IsLongest, AreSizesInLimit}
use Rattle.walk_sums.specs.Computed.{KnownBody, known_body_of, calls_endless, going_size, ending_size, leaving_size, summary_by}
use Rattle.walk_sums.proofs.Bodily.{facts_of, labels_lead}
use Rattle.walk_sums.specs.declared.levels.Kind.{Kind}
use Rattle.walk_sums.specs.declared.paths.Paths.{Paths}
use Rattle.walk_sums.specs.Known.{IsExact, IsEndless, CallerCode, IsBefore}
use Rattle.walk_sums.specs.Lists.{AreBodyWays, AreSteps, ArePaths, AreEndingTrails, AreLeavingTrails}
use Rattle.walk_sums.proofs.Leading.{inside}
use Rattle.walk_sums.proofs.Measured.{Measures, Sizes}
use Rattle.walk_sums.proofs.Endless.{endless_loop}
use Rattle.walk_sums.proofs.Small.{greatest_small}
use Rattle.walk_sums.proofs.Summed.{Called, called_on, called_back, endless_callee, summed}

-- the lists of its sizes
pub record Sized (func : Func) (own : BodyWeights) (whole : List Summary) (alive : List Bool) (ways : List Ways) (steps ends leaves on back : List ℕ) : Type 0 where
  pub no_loop : ¬ (HasWeighingLoop ways steps)
  pub steps_are : (i : ℕ) → i < length func.items → get_or steps i 0 ≡ going_size whole (get_or own.going i 0) (item_of func i).op
  pub ends_count : length ends ≡ length func.items
  pub ends_are : (i : ℕ) → i < length func.items → get_or ends i 0 ≡ cond (get_or alive i false) (ending_size whole (get_or own.ending i 0) (item_of func i).op) 0
  pub leaves_count : length leaves ≡ length func.items
  pub leaves_are : (i : ℕ) → i < length func.items → get_or leaves i 0 ≡ cond (get_or alive i false) (leaving_size (get_or own.going i 0) (item_of func i).op) 0
  pub on_count : length on ≡ length ways
  pub on_is : (i : ℕ) → i < length ways → IsLongest ways steps ends i (get_or on i 0)
  pub back_count : length back ≡ length ways
  pub back_is : (i : ℕ) → i < length ways → IsLongest ways steps leaves i (get_or back i 0)

-- the ways lead to items that are there
pub to_items : (kind : Kind) (func : Func) (body : Body) (level : Option ℕ) (whole : List Summary) (alive : List Bool) (ways : List Ways)
    → AreBodyWays kind func body level whole alive ways → AreInside ways
to_items kind func body level whole alive ways w = inside func w.passed w.going alive ways w.ways_count w.ways_are w.alive_count

pub paths_inside : (c : CallerCode) (paths : Paths) → ArePaths c paths → AreInside paths.ways
paths_inside c paths are = to_items c.kind c.known.func c.known.body c.known.level c.known.whole paths.alive paths.ways are.ways

module _ (c : CallerCode) (before : IsBefore c) where
  calls : Called c.config c.app c.weights c.kind c.known.level c.number c.known.whole c.known.own
  calls = record { whole_is = before.whole_is; own_is = before.own_is }

  abbrev here : Func
  here = function c.app c.number

  abbrev own_weights : BodyWeights
  own_weights = get_or c.weights c.number no_weights

  -- what is known, of a body
  abbrev known_with : Func → KnownBody
  known_with g = known_body_of g c.known.body c.known.level c.known.whole c.known.own

  -- each item that has a label leads there
  pub labels_here : (i : ℕ) → i < length c.known.func.items → HasBodyLabel c.known.func (item_of c.known.func i).op
  labels_here =
      subst (λ (g : Func). (i : ℕ) → i < length g.items → HasBodyLabel g (item_of g i).op) (sym before.is_func)
      (λ i lt. labels_lead c.config c.app before.well_formed c.number i before.known lt)

  -- a reached call of a function in which parts have no limit
  pub endless_by_call : calls_endless c.known ≡ true → IsEndless c.config c.app c.weights c.kind c.known.level c.number
  endless_by_call e =
      endless_callee c.config c.app c.weights c.kind c.known.level c.number before.known c.known.body before.is_body c.known.whole c.known.own calls before.summed
      (sym (ap (λ g. calls_endless (known_with g)) before.is_func) ∙ e)

  -- the weights of the body are small
  pub going_small : AreSizesInLimit own_weights.going
  going_small i = let small = before.fit.small c.number i in let no_lighter = before.fit.no_lighter c.number i in omega (arith, small, no_lighter)

  pub ending_small : AreSizesInLimit own_weights.ending
  ending_small i = before.fit.small c.number i

  module _ (bounded : calls_endless c.known ≡ false) (paths : Paths) (are : ArePaths c paths) where
    bounded_here : calls_endless (known_with here) ≡ false
    bounded_here = sym (ap (λ g. calls_endless (known_with g)) before.is_func) ∙ bounded

    measures : AreBodyWays c.kind here c.known.body c.known.level c.known.whole paths.alive paths.ways → Measures c.config c.app c.weights c.kind c.known.level c.number
    measures w = record {
      facts = facts_of c.config c.app before.well_formed;
      fit = before.fit;
      known = before.known;
      body = c.known.body;
      is_body = before.is_body;
      whole = c.known.whole;
      alive = paths.alive;
      alive_count = w.alive_count;
      alive_is = w.alive_is;
      going = w.going;
      going_is = w.going_is;
      passed = w.passed;
      passed_is = w.passed_is;
      ways = paths.ways;
      ways_count = w.ways_count;
      ways_are = w.ways_are;
      called_on = called_on c.config c.app c.weights c.kind c.known.level c.number before.known c.known.body before.is_body c.known.whole c.known.own calls bounded_here;
      called_back = called_back c.config c.app c.weights c.kind c.known.level c.number before.known c.known.body before.is_body c.known.whole c.known.own calls bounded_here;
    }

    ways_here : AreBodyWays c.kind here c.known.body c.known.level c.known.whole paths.alive paths.ways
    ways_here = subst (λ g. AreBodyWays c.kind g c.known.body c.known.level c.known.whole paths.alive paths.ways) before.is_func are.ways

    steps_here : AreSteps here own_weights c.known.whole paths.steps
    steps_here = subst (λ g. AreSteps g own_weights c.known.whole paths.steps) before.is_func are.steps

    -- a loop along which something weighs
    pub endless_by_loop : HasWeighingLoop paths.ways paths.steps → IsEndless c.config c.app c.weights c.kind c.known.level c.number
    unfolding measures
    endless_by_loop loop =
        endless_loop c.config c.app c.weights c.kind c.known.level c.number (measures ways_here) paths.steps steps_here.each before.summed loop

    module _ (no_loop : ¬ (HasWeighingLoop paths.ways paths.steps)) (on back : List ℕ) (ending : AreEndingTrails c paths on) (leaving : AreLeavingTrails c paths back) where
      -- the lists of its sizes
      abbrev sized : Func → Type 0
      sized g = Sized g own_weights c.known.whole paths.alive paths.ways paths.steps ending.ends leaving.leaves on back

      sized_here : sized here
      sized_here = subst sized before.is_func (record {
        no_loop = no_loop;
        steps_are = are.steps.each;
        ends_count = ending.ends_count;
        ends_are = ending.ends_are;
        leaves_count = leaving.leaves_count;
        leaves_are = leaving.leaves_are;
        on_count = ending.on_count;
        on_is = ending.on_is;
        back_count = leaving.back_count;
        back_is = leaving.back_is;
      })

      sizes : Sizes c.config c.app c.weights c.kind c.known.level c.number (measures ways_here)
      unfolding measures
      sizes =
          let s = sized_here in
          record {
            steps = paths.steps;
            steps_are = s.steps_are;
            no_loop = s.no_loop;
            ends = ending.ends;
            ends_count = s.ends_count;
            ends_are = s.ends_are;
            leaves = leaving.leaves;
            leaves_count = s.leaves_count;
            leaves_are = s.leaves_are;
            on = on;
            on_count = s.on_count;
            on_is = s.on_is;
            back = back;
            back_count = s.back_count;
            back_is = s.back_is;
          }

      -- the greatest sizes by the longest trails along the ways
      pub exact_by : IsExact c.config c.app c.weights c.kind c.known.level c.number (summary_by c.known c.kind on back)
      unfolding measures sizes
      exact_by =
          let P : Func → Type 0 = λ g. IsExact c.config c.app c.weights c.kind c.known.level c.number (summary_by (known_with g) c.kind on back) in
          subst P (sym before.is_func)
          (summed c.config c.app c.weights c.kind c.known.level c.number before.known c.known.body before.is_body c.known.whole c.known.own calls bounded_here (measures ways_here) sizes)

-- an exact summary is counted up
pub exact_small : (config : Config) (app : App) (weights : List BodyWeights) (kind : Kind) (level : Option ℕ) (f : ℕ) (s : Summary) → IsExact config app weights kind level f s → IsCountedUp s
exact_small config app weights kind level f s x = record {
  on = greatest_small _ s.on x.on;
  back = greatest_small _ s.back x.back;
  most = greatest_small _ s.most x.most;
  out = greatest_small _ s.out x.out;
}
