-- The pieces of code of well-formed task code are not long.
use Rattle.std.proofs.Common.{◌≡◌, ◌≢◌, ◌≤◌, ◌<◌, ◌+◌, ◌∙◌, ⊎_elim, ℕ, Bool, true, false, Some, List, [], ◌∷◌, ◌++◌, cond, length, get_or, refl, sym, ap, subst, arith}
use Rattle.std.proofs.lemmas.Bool.{cases_lt}
use Rattle.std.proofs.lemmas.List.{get_or_default, get_or_append_left, length-append}
use Rattle.std.proofs.Math.Seq.{get_or-append_seam}
use Rattle.std.proofs.lemmas.Option.{get_or_from_slice_get, slice_get_within}
use Rattle.std.proofs.Math.ListN.{get_or-eq_default}
use Rattle.sloth_base.specs.Blocks.{block_count}
use Rattle.sloth_base.specs.Named.{no_function}
use Rattle.sloth_base.specs.declared.app.App.{App}
use Rattle.sloth_base.specs.declared.app.Func.{Func}
use Rattle.sloth_base.specs.declared.config.Config.{Config}
use Rattle.sloth_base.specs.Limits.{frame_limit}
use Rattle.code_lengths.specs.Bodies.{IsBodyPlace}
use Rattle.code_lengths.specs.CodeLengths.{tick_length, block_length, IsPrologueLength}
use Rattle.code_lengths.proofs.Short.{short_lines, short_prologue, short_tick, short_block}
use Rattle.code_rules.specs.WellFormed.{WellFormed}
use Rattle.mem_map.specs.Lengths.{AreLengths, wanted_length}
use Rattle.mem_map.specs.Plan.{AreSmall, IsSmallPrologue, IsSmallTick}
use Rattle.mem_map.specs.Wanted.{IsServicePlace, is_wanted}
use Rattle.mem_map.specs.declared.all_lengths.CodeLengths.{CodeLengths}
use Rattle.mem_map.proofs.Wanting.{wanted_services}

-- a task has a body
pub has_body : (config : Config) (app : App) → WellFormed config app → (t : ℕ) → t < length config.tasks → (body : ℕ) × IsBodyPlace app.funcs t body
has_body config app well t declared =
    let b = well.in_range.tasks.body t declared in
    (b.0, (b.1.0, λ d. subst (λ (f : Func). f.task ≡ Some t) (get_or_default app.funcs b.0 no_function d b.1.0) b.1.1))

-- the lengths of ticks, and one more
pub one_more_tick : (config : Config) (xs ys : List ℕ) (n size : ℕ) → ys ≡ xs ++ size ∷ []
    → (length xs ≡ n) × ((c : ℕ) → c < n → get_or xs c 0 ≡ tick_length c config.alarms) → size ≡ tick_length n config.alarms
    → (length ys ≡ n + 1) × ((c : ℕ) → c < n + 1 → get_or ys c 0 ≡ tick_length c config.alarms)
one_more_tick config xs ys n size e before is =
    let long = before.0 in
    let longer = ap length e ∙ length-append xs (size ∷ []) in (
      omega (arith, long, longer),
      λ c below. ap (λ (l : List ℕ). get_or l c 0) e
          ∙ (⊎_elim
          (λ (l : c < n). get_or_append_left xs (size ∷ []) 0 c (omega (arith, l, long)) ∙ before.1 c l)
          (λ (m : n ≤ c).
          let last : c ≡ length xs = omega (arith, m, below, long) in
          let same : n ≡ c = omega (arith, m, below) in
          ap (λ k. get_or (xs ++ size ∷ []) k 0) last ∙ get_or-append_seam xs size [] 0 ∙ is ∙ ap (λ k. tick_length k config.alarms) same)
          (cases_lt c n)),
    )

-- the lengths of prologues, and one more
pub one_more : (config : Config) (app : App) (xs ys : List ℕ) (n size : ℕ) → ys ≡ xs ++ size ∷ []
    → (length xs ≡ n) × ((t : ℕ) → t < n → IsPrologueLength t config app (get_or xs t 0)) → IsPrologueLength n config app size
    → (length ys ≡ n + 1) × ((t : ℕ) → t < n + 1 → IsPrologueLength t config app (get_or ys t 0))
one_more config app xs ys n size e before is =
    let long = before.0 in
    let longer = ap length e ∙ length-append xs (size ∷ []) in (
      omega (arith, long, longer),
      λ t below. subst (λ (l : List ℕ). IsPrologueLength t config app (get_or l t 0)) (sym e)
          (⊎_elim
          (λ (l : t < n). subst (IsPrologueLength t config app) (sym (get_or_append_left xs (size ∷ []) 0 t (omega (arith, l, long)))) (before.1 t l))
          (λ (m : n ≤ t).
          let last : t ≡ length xs = omega (arith, m, below, long) in
          let same : n ≡ t = omega (arith, m, below) in
          subst (λ x. IsPrologueLength t config app x) (sym (ap (λ k. get_or (xs ++ size ∷ []) k 0) last ∙ get_or-append_seam xs size [] 0)) (subst (λ k. IsPrologueLength k config app size) same is))
          (cases_lt t n)),
    )

-- a prologue, whose body has few frame words
small_prologue : (config : Config) (app : App) (t size : ℕ) → WellFormed config app → IsPrologueLength t config app size → IsSmallPrologue size
small_prologue config app t size well p =
    let inside = slice_get_within app.funcs p.body p.func p.is_func in
    let its = get_or_from_slice_get app.funcs p.body p.func no_function p.is_func in
    let words : p.func.frame_words ≤ frame_limit = subst (λ (f : Func). f.frame_words ≤ frame_limit) its ((well.in_range.bodies p.body no_function inside).frame) in
    let is = p.is in
    let bound = short_prologue p.decl.extended p.func.frame_words in
    (omega (arith, is, bound.0), omega (arith, is, bound.1, words))

-- a tick, of no more alarms than there may be
small_tick : (config : Config) (app : App) (c size : ℕ) → WellFormed config app → size ≡ tick_length c config.alarms → IsSmallTick size
small_tick config app c size well is =
    let few = well.in_range.configuration.few_alarms in
    let bound = short_tick c config.alarms in
    (omega (arith, is, bound.0), omega (arith, is, bound.1, few))

-- the code of a service
small_service : (app : App) (number : ℕ) → wanted_length app number ≤ 256
small_service app number = by (is_wanted number app)
  where
    by : (b : Bool) → cond b (block_length number) 0 ≤ 256
    by true = short_block number
    by false = omega arith

module _ (config : Config) (app : App) (lengths : CodeLengths) (well : WellFormed config app) (are : AreLengths config app lengths) where
  -- an object of a service that has code
  object : (number : ℕ) → get_or lengths.services number 0 ≢ 0 → IsServicePlace number
  object number some =
      ⊎_elim
      (λ (below : number < block_count). by (is_wanted number app) refl (are.each_service number below))
      (λ (past : block_count ≤ number). absurd (some (let n = are.services in get_or-eq_default lengths.services 0 {n = number} (omega (arith, n, past)))))
      (cases_lt number block_count)
    where
      by : (b : Bool) → is_wanted number app ≡ b → get_or lengths.services number 0 ≡ wanted_length app number → IsServicePlace number
      by true is length_is = wanted_services config app well number is
      by false is length_is = absurd (some (length_is ∙ ap (λ b. cond b (block_length number) 0) is))

  -- all of them are so
  pub small : AreSmall config app lengths
  small = record {
    boot =
        (let b = are.boot in
        let short = short_lines config.tasks in
        let few = well.in_range.configuration.few_tasks in
        let counters = well.in_range.configuration.few_counters in
        (omega (arith, b), omega (arith, b, short, few, counters)));
    prologues = are.prologues;
    prologues_fit = λ k d l.
        let count = are.prologues in
        subst IsSmallPrologue (get_or_default lengths.prologues k 0 d l) (small_prologue config app k _ well (are.each_prologue k (omega (arith, l, count))));
    ticks = are.ticks;
    ticks_fit = λ k d l.
        let count = are.ticks in
        subst IsSmallTick (get_or_default lengths.ticks k 0 d l) (small_tick config app k _ well (are.each_tick k (omega (arith, l, count))));
    services = are.services;
    services_fit = λ k d l.
        let count = are.services in
        let same = get_or_default lengths.services k 0 d l in
        let is = are.each_service k (omega (arith, l, count)) in
        let few = small_service app k in
        omega (arith, same, is, few);
    objects = object;
    items = are.items;
  }
