-- The least line of a loop in a function, item by item.
use Rattle.std.proofs.Common.{◌≡◌, ℕ, ◌+◌, ◌<◌, ◌≤◌, ◌⊎◌, inl, inr, Bool, true, false, ltb, ◌||◌, cond, List, length, get_or, Option, Some, None, refl, ap, sym, ◌∙◌, subst, arith, ⊎_elim}
use Rattle.std.proofs.lemmas.Bool.{false≢true}
use Rattle.sloth_base.specs.declared.config.Config.{Config}
use Rattle.sloth_base.specs.declared.app.App.{App}
use Rattle.sloth_base.specs.declared.app.Func.{Func}
use Rattle.sloth_base.specs.declared.app.Op.{Op}
use Rattle.sloth_base.specs.declared.app.Op.TheVariants as op
use Rattle.sloth_base.specs.Named.{function, operation, item_of}
use Rattle.code_rules.specs.Code.{IsItem, HasCall}
use Rattle.bound_rules.specs.declared.bound.Body.{Body}
use Rattle.bound_rules.specs.declared.bound.BodyWeights.{BodyWeights}
use Rattle.bound_rules.specs.Items.{reaches_level}
use Rattle.run_windows.specs.RunWindows.{IsLeastOf}
use Rattle.run_windows.proofs.Leasts.{same_least, Below}
use Rattle.walk_sums.specs.declared.graph.Ways.{Ways}
use Rattle.walk_sums.specs.declared.levels.Kind.{Kind}
use Rattle.walk_sums.specs.Activations.{is_raised, called_level, ReachesCall, level_behind}
use Rattle.walk_sums.specs.Graph.{AreInside}
use Rattle.walk_sums.specs.KnownBodies.{no_body, IsKnownBody}
use Rattle.walk_sums.specs.Search.{IsReachable, reachable_first}
use Rattle.response_reasons.specs.Loops.{IsRaisedItem, GoesOn, goes_inside, goes_past, Comes, comes_first, comes_further, IsOnLoop, line_of, HasLoopAt, loop_here, loop_called}
use Rattle.response_reasons.specs.LoopCode.{LoopCode, IsLoopCode, AreLoopWays, IsLineOfLoop, line_at, called_line, IsLeastLine}
use Rattle.response_reasons.proofs.Linked.{sound, complete, to_there}
use Rattle.response_reasons.proofs.Twice.{second_comes, Arrived, arrived, doubled_inside}

-- ---- lines of items

module _ (config : Config) (app : App) (weights : List BodyWeights) (kind : Kind) (level : Option ℕ) (f : ℕ) where
  -- item i lies on a loop, and has this line
  abbrev pub IsLoopLine : (i line : ℕ) → Type 0
  IsLoopLine i line = IsOnLoop config app weights kind level f i × (line ≡ line_of app f i)

  -- it is a reached call of a function that has a loop there
  abbrev pub IsCalledLine : (i line : ℕ) → Type 0
  IsCalledLine i line = (g : ℕ) × ReachesCall app f i g × HasLoopAt config app weights kind (level_behind config app level f i) g line

  abbrev pub IsItemLine : (i line : ℕ) → Type 0
  IsItemLine i line = IsLoopLine i line ⊎ IsCalledLine i line

  pub to_loop : (line : ℕ) → Below IsItemLine (length (function app f).items) line → HasLoopAt config app weights kind level f line
  to_loop line (i, lt, inl h) = subst (HasLoopAt config app weights kind level f) (sym h.1) (loop_here level f i h.0)
  to_loop line (i, lt, inr h) = loop_called level f i h.0 line h.1 h.2

target_inside : (config : Config) (app : App) (weights : List BodyWeights) (kind : Kind) (level : Option ℕ) (f i j n : ℕ) → GoesOn config app weights kind level f i j n
    → j < length (function app f).items
target_inside config app weights kind level f i j n (goes_inside a b p) = b.item.inside
target_inside config app weights kind level f i j n (goes_past g m a b e call limit part) = b.item.inside

come_inside : (config : Config) (app : App) (weights : List BodyWeights) (kind : Kind) (level : Option ℕ) (f i j : ℕ) (b : Bool) → Comes config app weights kind level f i b j
    → b ≡ true → j < length (function app f).items
come_inside config app weights kind level f i j b comes_first e = absurd (false≢true e)
come_inside config app weights kind level f i j b (comes_further old k x n c goes) e = target_inside config app weights kind level f k x n goes

pub from_loop : (config : Config) (app : App) (weights : List BodyWeights) (kind : Kind) (level : Option ℕ) (f line : ℕ) → HasLoopAt config app weights kind level f line
    → Below (IsItemLine config app weights kind level f) (length (function app f).items) line
from_loop config app weights kind level f line (loop_here l g i on) = (i, come_inside config app weights kind l g i i true on refl, inl (on, refl))
from_loop config app weights kind level f line (loop_called l g i h m call rest) = (i, call.item.inside, inr (h, call, rest))

-- all items together
pub all_lines : (config : Config) (app : App) (weights : List BodyWeights) (kind : Kind) (level : Option ℕ) (f : ℕ) (least : Option ℕ)
    → IsLeastOf (Below (IsItemLine config app weights kind level f) (length (function app f).items)) least → IsLeastOf (HasLoopAt config app weights kind level f) least
all_lines config app weights kind level f least =
    same_least (Below (IsItemLine config app weights kind level f) (length (function app f).items)) (HasLoopAt config app weights kind level f) least
    (to_loop config app weights kind level f) (from_loop config app weights kind level f)

-- ---- an item on a loop

module _ (c : LoopCode) (is : IsLoopCode c) (level : Option ℕ) (f : ℕ) (known : f < length c.walks.app.funcs) (twice : List Ways) (w : AreLoopWays c level f twice) where
  abbrev A : App
  A = c.walks.app

  abbrev Cs : (i : ℕ) → Bool → (j : ℕ) → Type 0
  Cs i b j = Comes c.walks.config A c.weights c.kind level f i b j

  reach : (i : ℕ) (b : Bool) (j : ℕ) → Cs i b j → Arrived w.ways w.steps twice w.doubled i b j
  reach i b j comes_first = inl reachable_first
  reach i b j (comes_further old k x n before goes) =
      let step = complete c is level f known twice w k x n goes in
      let lt = source_inside k x n goes in
      arrived w.ways w.steps twice w.doubled i old k x n lt step.0 step.1 (reach i old k before)
    where
      source_inside : (k x n : ℕ) → GoesOn c.walks.config A c.weights c.kind level f k x n → k < length w.ways
      source_inside k x n (goes_inside a b p) = let lt = a.item.inside in let count = w.ways_count in omega (arith, lt, count)
      source_inside k x n (goes_past g m a b e call limit part) = let lt = a.item.inside in let count = w.ways_count in omega (arith, lt, count)

  pub twice_inside : AreInside twice
  twice_inside = doubled_inside w.ways w.steps twice w.doubled (to_there c is level f known twice w)

  pub twice_count : length twice ≡ length (function A f).items + length (function A f).items
  twice_count = let a = w.doubled.count in let b = w.ways_count in omega (arith, a, b)

  -- its line, by the nodes
  pub loop_line : (i : ℕ) → i < length (function A f).items → (line : Option ℕ) → IsLeastOf (IsLineOfLoop (function A f) twice i) line
      → IsLeastOf (IsLoopLine c.walks.config A c.weights c.kind level f i) line
  loop_line i lt line l = same_least (IsLineOfLoop (function A f) twice i) (IsLoopLine c.walks.config A c.weights c.kind level f i) line to from l
    where
      to : (n : ℕ) → IsLineOfLoop (function A f) twice i n → IsLoopLine c.walks.config A c.weights c.kind level f i n
      to n h =
          let count = w.ways_count in (
            second_comes w.ways w.steps twice w.doubled (to_there c is level f known twice w) (GoesOn c.walks.config A c.weights c.kind level f) Cs (λ i. comes_first)
                (λ i b j x k come goes. comes_further b j x k come goes) (sound c is level f known twice w) i (omega (arith, lt, count))
                (subst (λ v. IsReachable twice i (v + i)) (sym count) h.0),
            h.1,
          )

      from : (n : ℕ) → IsLoopLine c.walks.config A c.weights c.kind level f i n → IsLineOfLoop (function A f) twice i n
      from n h = (subst (λ v. IsReachable twice i (v + i)) w.ways_count (reach i true i h.0), h.1)

-- ---- what an item calls

module _ (c : LoopCode) (is : IsLoopCode c) (level : Option ℕ) (f : ℕ) (known : f < length c.walks.app.funcs) (whole own : List (Option ℕ))
    (whole_is : (g : ℕ) → HasCall c.walks.app f g → IsLeastLine c None g (line_at whole g)) (own_is : (g : ℕ) → HasCall c.walks.app f g → IsLeastLine c level g (line_at own g)) where
  abbrev P : (i line : ℕ) → Type 0
  P i line = IsCalledLine c.walks.config c.walks.app c.weights c.kind level f i line

  abbrev B : Body
  B = get_or c.walks.bodies f no_body

  body_is : IsKnownBody c.walks.config c.walks.app f B
  body_is = is.walked.bodies.each f known

  same_call : (g h : ℕ) → op.Invoke g ≡ op.Invoke h → g ≡ h
  same_call g h e = cc

  call_line : (i g : ℕ) → (item : IsItem c.walks.app f i (op.Invoke g)) → (reached : Bool) → get_or B.reached i false ≡ reached → (raised : Bool)
      → reaches_level level (get_or B.ceilings i 0) ≡ raised → IsLeastOf (P i) (cond reached (cond raised (line_at whole g) (line_at own g)) None)
  call_line i g item false unmarked raised e = λ m h. absurd (false≢true (sym unmarked ∙ (body_is.reached i).1 h.1.reached))
  call_line i g item true marked raised e =
      same_least (HasLoopAt c.walks.config c.walks.app c.weights c.kind (called_level raised level) g) (P i) (cond raised (line_at whole g) (line_at own g))
      (λ n h. (g, record { reached = (body_is.reached i).0 marked; item = item }, subst (λ b. HasLoopAt c.walks.config c.walks.app c.weights c.kind (called_level b level) g n) (sym here) h))
      (λ n h.
      let same = same_call g h.0 (sym item.is ∙ h.1.item.is) in
      subst (λ b. HasLoopAt c.walks.config c.walks.app c.weights c.kind (called_level b level) g n) here
      (subst (λ v. HasLoopAt c.walks.config c.walks.app c.weights c.kind (level_behind c.walks.config c.walks.app level f i) v n) (sym same) h.2))
      (by raised)
    where
      here : is_raised c.walks.config c.walks.app level f i ≡ raised
      here = ap (reaches_level level) (sym (body_is.ceilings i item.inside)) ∙ e

      by : (b : Bool) → IsLeastOf (HasLoopAt c.walks.config c.walks.app c.weights c.kind (called_level b level) g) (cond b (line_at whole g) (line_at own g))
      by true = whole_is g (i, item)
      by false = own_is g (i, item)

  by_operation : (i : ℕ) → i < length (function c.walks.app f).items → (o : Op) → operation c.walks.app f i ≡ o → IsLeastOf (P i) (called_line B level whole own i o)
  by_operation i lt (op.Invoke g) e =
      call_line i g (record { known = known; inside = lt; is = e }) (get_or B.reached i false) refl (reaches_level level (get_or B.ceilings i 0)) refl
  by_operation i lt _ e = λ m h. absurd (let clash = sym e ∙ h.1.item.is in cc)

  pub called_least : (i : ℕ) → i < length (function c.walks.app f).items → IsLeastOf (P i) (called_line B level whole own i (operation c.walks.app f i))
  called_least i lt = by_operation i lt (operation c.walks.app f i) refl
