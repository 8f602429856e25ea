-- The one stack of all basic tasks: which tasks may stand on it below others, and the greatest sum of their bytes.
use Rattle.std.proofs.Common.{◌≡◌, ℕ, ◌+◌, ◌<◌, ◌≤◌, ◌⊎◌, inl, inr, ⊎_elim, Bool, false, cond, List, length, get_or, sym, ap, ◌∙◌, subst, arith}
use Rattle.std.specs.Prelude.{nat_lt, ◌&&◌, All}
use Rattle.std.specs.Bool.{Decides}
use Rattle.std.proofs.lemmas.Bool.{and_parts, and_from, and_right, ltb-true, lt-ltb, le-ltb, cases_Bool, cases_lt, cond-true, cond-false, true≢false}
use Rattle.std.proofs.lemmas.List.{get_or_past}
use Rattle.sloth_base.specs.declared.config.Config.{Config}
use Rattle.sloth_base.specs.declared.config.TaskDecl.{TaskDecl}
use Rattle.sloth_base.specs.declared.app.App.{App}
use Rattle.sloth_base.specs.declared.app.Func.{Func}
use Rattle.sloth_base.specs.Named.{declaration, body_of, undeclared_task}
use Rattle.code_rules.specs.WellFormed.{WellFormed}
use Rattle.call_graph.specs.declared.lists.Ranks.{Ranks}
use Rattle.call_graph.specs.Ranks.{RanksOf}
use Rattle.stack_bounds.specs.Bounds.{total, IsGreatest, IsBasic, MayBePreempted, AreStacked, IsLength}
use Rattle.call_graph.specs.Tables.{sum_below, gives_way, bytes_under, bytes_with_lower, most_stacked, AreStacks, task_at}
use Rattle.stack_bounds.proofs.Yielding.{Decides-gives_way}
use Rattle.stack_bounds.proofs.Stacked as stacked

-- the bytes of the tasks of verified task code, and which of the tasks may be preempted
pub record AreRows (config : Config) (app : App) (ranks : Ranks) (yielding : List Bool) (bytes : List ℕ) : Type 0 where
  pub verified : WellFormed config app
  pub belong : RanksOf app ranks
  pub bytes_count : length bytes ≡ length config.tasks
  pub lengths : All IsLength bytes
  pub yielding_count : length yielding ≡ length config.tasks
  pub yielding_are : (t : ℕ) → t < length config.tasks
      → get_or yielding t false ≡ gives_way (declaration config t) (get_or ranks.pauses (body_of app.funcs t) false)

-- which may be preempted, as the functions tell it
pub preempted : (config : Config) (app : App) (ranks : Ranks) (tasks : List TaskDecl) (funcs : List Func) (pauses yielding : List Bool)
    → tasks ≡ config.tasks → funcs ≡ app.funcs → pauses ≡ ranks.pauses
    → ((t : ℕ) → t < length tasks → get_or yielding t false ≡ gives_way (task_at tasks t) (get_or pauses (body_of funcs t) false))
    → (t : ℕ) → t < length config.tasks
    → get_or yielding t false ≡ gives_way (declaration config t) (get_or ranks.pauses (body_of app.funcs t) false)
preempted config app ranks tasks funcs pauses yielding e f p yield t l =
    yield t (subst (λ (x : List TaskDecl). t < length x) (sym e) l)
    ∙ ap (λ (x : List TaskDecl). gives_way (task_at x t) (get_or pauses (body_of funcs t) false)) e
    ∙ ap (λ (x : List Func). gives_way (declaration config t) (get_or pauses (body_of x t) false)) f
    ∙ ap (λ (x : List Bool). gives_way (declaration config t) (get_or x (body_of app.funcs t) false)) p

-- as the lists that the functions take
pub same_stacks : (tasks config_tasks : List TaskDecl) (yielding items : List Bool) (bytes more : List ℕ) → tasks ≡ config_tasks → yielding ≡ items → bytes ≡ more
    → AreStacks config_tasks items more → AreStacks tasks yielding bytes
same_stacks tasks config_tasks yielding items bytes more e f g h =
    subst (λ (x : List TaskDecl). AreStacks x yielding bytes) (sym e)
    (subst (λ (x : List Bool). AreStacks config_tasks x bytes) (sym f) (subst (λ (x : List ℕ). AreStacks config_tasks items x) (sym g) h))

module _ (config : Config) (app : App) (ranks : Ranks) (yielding : List Bool) (bytes : List ℕ) (h : AreRows config app ranks yielding bytes) where
  pub length_is : (t : ℕ) → t < length config.tasks → IsLength (get_or bytes t 0)
  length_is t declared = h.lengths t 0 (let c = h.bytes_count in omega (arith, c, declared))

  pub stacks : AreStacks config.tasks yielding bytes
  stacks = record {
    few = h.verified.in_range.configuration.few_tasks;
    yielding_count = h.yielding_count;
    bytes_count = h.bytes_count;
    small = λ t. ⊎_elim
        (λ declared. let l = (length_is t declared).0 in omega (arith, l))
        (λ past. let e = get_or_past bytes t 0 (let c = h.bytes_count in omega (arith, past, c)) in omega (arith, e))
        (cases_lt t (length config.tasks));
  }

  -- ---- the stack of all basic tasks

  abbrev pub priority : ℕ → ℕ
  priority t = (declaration config t).priority

  abbrev pub size : ℕ → ℕ
  size t = get_or bytes t 0

  abbrev pub counted : ℕ → ℕ → ℕ
  counted = bytes_under config.tasks yielding bytes

  abbrev test : ℕ → ℕ → Bool
  test below t = get_or yielding t false && nat_lt (priority t) below

  abbrev pub IsUnder : ℕ → ℕ → Type 0
  IsUnder below t = IsBasic config t × MayBePreempted config app t × (priority t < below)

  decides : (t : ℕ) → t < length config.tasks → Decides (get_or yielding t false) (IsBasic config t × MayBePreempted config app t)
  decides t declared =
      subst (λ b. Decides b (IsBasic config t × MayBePreempted config app t)) (sym (h.yielding_are t declared)) (Decides-gives_way config app h.verified ranks h.belong t declared)

  pub counts : (below t : ℕ) → t < length config.tasks → (IsUnder below t × (counted below t ≡ size t)) ⊎ (counted below t ≡ 0)
  counts below t declared = ⊎_elim
      (λ yes.
      let parts = and_parts (get_or yielding t false) (nat_lt (priority t) below) yes in
      let may = (decides t declared).0 parts.0 in
      inl ((may.0, may.1, ltb-true (priority t) below parts.1), ap (λ b. cond b (size t) 0) yes))
      (λ no. inr (ap (λ b. cond b (size t) 0) no))
      (cases_Bool (test below t))

  pub under : (below t : ℕ) → IsUnder below t → counted below t ≡ size t
  under below t is =
      ap (λ b. cond b (size t) 0) (and_from _ _ ((decides t is.0.0).1 (is.0, is.1)) (lt-ltb (priority t) below is.2))

  pub above : (below t : ℕ) → below ≤ priority t → counted below t ≡ 0
  above below t l = ap (λ b. cond b (size t) 0) (and_right (get_or yielding t false) _ (le-ltb (priority t) below l))

  pub more : (below other t : ℕ) → below ≤ other → counted below t ≤ counted other t
  more below other t l = ⊎_elim
      (λ yes.
      let parts = and_parts (get_or yielding t false) (nat_lt (priority t) below) yes in
      let less = ltb-true (priority t) below parts.1 in
      let one : counted below t ≡ size t = ap (λ b. cond b (size t) 0) yes in
      let two : counted other t ≡ size t = ap (λ b. cond b (size t) 0) (and_from _ _ parts.0 (lt-ltb (priority t) other (omega (arith, less, l)))) in
      omega (arith, one, two))
      (λ no. let one : counted below t ≡ 0 = ap (λ b. cond b (size t) 0) no in omega (arith, one))
      (cases_Bool (test below t))

  abbrev pub best : ℕ → ℕ
  best = bytes_with_lower config.tasks yielding bytes

  pub bests : (t : ℕ) → t < length config.tasks
      → (IsBasic config t × (best t ≡ sum_below (length config.tasks) (counted (priority t)) + size t)) ⊎ ((IsBasic config t → ⊥) × (best t ≡ 0))
  bests t declared = ⊎_elim
      (λ extended. inr (λ basic. true≢false (sym extended ∙ basic.1), cond-true (declaration config t).extended 0 (sum_below (length config.tasks) (counted (priority t)) + size t) extended))
      (λ basic. inl ((declared, basic), cond-false (declaration config t).extended 0 (sum_below (length config.tasks) (counted (priority t)) + size t) basic))
      (cases_Bool (declaration config t).extended)

  differ : (t u : ℕ) → t < u → u < length config.tasks → priority t ≡ priority u → ⊥
  differ t u l m = h.verified.in_range.configuration.priorities_differ t u undeclared_task l m

  pub greatest_shared : IsGreatest (AreStacked config app) (total size) (most_stacked config.tasks yielding bytes)
  greatest_shared =
      stacked.greatest (length config.tasks) priority size (IsBasic config) (MayBePreempted config app) counted best (record {
        known = λ t basic. basic.0;
        differ = differ;
        counts = counts;
        under = under;
        above = above;
        more = more;
        bests = bests;
      })
