-- The level of a resource's ceiling, and what a task has that takes a resource.
use Rattle.std.proofs.Common.{◌≡◌, ℕ, ◌<◌, ◌≤◌, List, [], ◌∷◌, ◌||◌, Bool, length, refl, sym, ap, ◌∙◌, subst, arith, ⊎_elim, inl, max, map, cond}
use Rattle.std.specs.Prelude.{◌==◌, fold, filter, slice_index}
use Rattle.std.specs.List.{list_any}
use Rattle.std.proofs.lemmas.Bool.{cases_lt, cases_eq, or_from, ne_eqb}
use Rattle.sloth_base.specs.declared.app.Call.{Call}
use Rattle.sloth_base.specs.declared.app.Op.TheVariants as op
use Rattle.sloth_base.specs.declared.config.Config.{Config}
use Rattle.sloth_base.specs.declared.config.TaskDecl.{TaskDecl}
use Rattle.sloth_base.specs.declared.limits.Levels.{Levels}
use Rattle.sloth_base.specs.declared.service.Service.TheVariants as service
use Rattle.sloth_base.specs.PriorityLevels.{level_among, level_of}
use Rattle.sloth_base.specs.Limits.{ceiling_count}
use Rattle.sloth_base.specs.ConfigRange.{scheduler_number}
use Rattle.code_rules.specs.Code.{service_op, is_in}
use Rattle.code_rules.specs.WellFormed.{held_list_before}
use Rattle.prio_levels.specs.Levels.{AreLevels, lists}
use Rattle.osek_scheduler.specs.Priority.{greatest, highest_priority, ceiling}
use Rattle.osek_scheduler.specs.State.{System, task}
use Rattle.osek_scheduler.specs.Steps.{IsAt}
use Rattle.osek_scheduler.specs.Valid.{IsValid, held_by}
use Rattle.osek_scheduler.proofs.Excluding.{below_ceiling}
use Rattle.osek_scheduler.proofs.Facts.{Facts}
use Rattle.osek_scheduler.proofs.Going.{Running, running}
use Rattle.osek_scheduler.proofs.Stacks.{is_in-append, outer_new, task_reaches}
use Rattle.sim_relation.specs.Build.{Build}
use Rattle.sim_relation.proofs.Levels.{level_of-mono}
use Rattle.sim_routines.proofs.Generated.{highest_level}
use Rattle.sim_routines.specs.ServiceSteps.{IsCeilingLevel, MayHaveResource}

-- ---- levels of the greatest of priorities

fold_from : (a : ℕ) (zs : List ℕ) → fold max a zs ≡ max a (fold max 0 zs)
fold_from a [] = omega arith
fold_from a (z ∷ zs) = let e = fold_from (max a z) zs in let f = fold_from (max 0 z) zs in omega arith

level_max : (config : Config) (p q : ℕ) → level_of config (max p q) ≡ max (level_of config p) (level_of config q)
level_max config p q =
    ⊎_elim
    (λ (h : p < q).
    let m = level_of-mono config p q (omega arith) in
    let e : max p q ≡ q = omega arith in
    ap (level_of config) e ∙ (let g : level_of config q ≡ max (level_of config p) (level_of config q) = omega arith in g))
    (λ (h : q ≤ p).
    let m = level_of-mono config q p h in
    let e : max p q ≡ p = omega arith in
    ap (level_of config) e ∙ (let g : level_of config p ≡ max (level_of config p) (level_of config q) = omega arith in g))
    (cases_lt p q)

level_greatest : (config : Config) (p : ℕ) (ds : List TaskDecl)
    → max (level_of config p) (fold max 0 (map (λ d. level_among config.tasks d.priority) ds)) ≡ level_of config (max p (greatest (map (λ d. d.priority) ds)))
level_greatest config p [] =
    let e : max p 0 ≡ p = omega arith in
    (let g : max (level_of config p) 0 ≡ level_of config p = omega arith in g) ∙ ap (level_of config) (sym e)
level_greatest config p (d ∷ ds) =
    let f : TaskDecl → ℕ = λ d. level_among config.tasks d.priority in
    let rest = level_greatest config (max p d.priority) ds in
    let two = level_max config p d.priority in
    let start = fold_from (max 0 (f d)) (map f ds) in
    let e : max (max p d.priority) (greatest (map (λ d. d.priority) ds)) ≡ max p (max d.priority (greatest (map (λ d. d.priority) ds))) = omega arith in
    (let g : max (level_of config p) (fold max (max 0 (f d)) (map f ds)) ≡ max (level_of config (max p d.priority)) (fold max 0 (map f ds)) = omega arith in g)
    ∙ rest ∙ ap (level_of config) e

-- ---- the tasks that list a resource

same_list : (r : ℕ) (xs : List ℕ) → list_any (λ x. x == r) xs ≡ is_in r xs
same_list r [] = refl
same_list r (x ∷ xs) = ap (λ (b : Bool). (x == r) || b) (same_list r xs)

same_filter : (r : ℕ) (ds : List TaskDecl) → filter (lists r) ds ≡ filter (λ d. is_in r d.resources) ds
same_filter r [] = refl
same_filter r (d ∷ ds) =
    ap (λ (b : Bool). cond b (d ∷ filter (lists r) ds) (filter (lists r) ds)) (same_list r d.resources)
    ∙ ap (λ (l : List TaskDecl). cond (is_in r d.resources) (d ∷ l) l) (same_filter r ds)

-- the table's level of a ceiling is that of the abstract scheduler's
pub ceiling_level : (b : Build) (levels : Levels) → AreLevels b.config levels → (r : ℕ) → r < ceiling_count → IsCeilingLevel b r (slice_index levels.ceiling r)
ceiling_level b levels are r small p =
    ⊎_elim
    (λ (e : r ≡ scheduler_number).
    let top : slice_index levels.ceiling r ≡ length b.config.tasks = ap (λ x. slice_index levels.ceiling x) e ∙ are.ceilings.scheduler in
    let most : ceiling b.config r ≡ highest_priority b.config = ap (ceiling b.config) e in
    let all = highest_level b.config in
    let two = level_max b.config p (highest_priority b.config) in
    (let g : max (level_of b.config p) (slice_index levels.ceiling r) ≡ level_of b.config (max p (highest_priority b.config)) = omega arith in g)
    ∙ ap (λ c. level_of b.config (max p c)) (sym most))
    (λ (n : r ≡ scheduler_number → ⊥).
    let users : List TaskDecl = filter (λ d. is_in r d.resources) b.config.tasks in
    let listed : slice_index levels.ceiling r ≡ fold max 0 (map (λ d. level_among b.config.tasks d.priority) users) =
    are.ceilings.listed r (omega arith) ∙ ap (λ (l : List TaskDecl). fold max 0 (map (λ d. level_among b.config.tasks d.priority) l)) (same_filter r b.config.tasks) in
    let other : ceiling b.config r ≡ greatest (map (λ d. d.priority) users) =
    ap (λ (x : Bool). cond x (highest_priority b.config) (greatest (map (λ d. d.priority) users))) (ne_eqb r 32 n) in
    ap (λ c. max (level_of b.config p) c) listed ∙ level_greatest b.config p users ∙ ap (λ c. level_of b.config (max p c)) (sym other))
    (cases_eq r 32)

-- ---- a task that takes a resource

-- a task that calls GetResource may have the resource
pub may_have : (b : Build) → Facts b.config b.app → (levels : Levels) → AreLevels b.config levels → (s : System) (t : ℕ) (call : Call) → IsValid b.config b.app s → t < length b.config.tasks
    → IsAt b.app s t (op.Serve call) → call.service ≡ service.GetResource → MayHaveResource b t (task s t) call.object (slice_index levels.ceiling call.object)
may_have b w levels are s t call v declared at is =
    let q = call.object in
    let m = call.mask in
    let frame = at.frame in
    let same : op.Serve call ≡ service_op service.GetResource q m = ap (λ served. service_op served q m) is in
    let r : Running b.config b.app t (task s t) frame at.outer (service_op service.GetResource q m) =
    subst (Running b.config b.app t (task s t) frame at.outer) same (running b.config b.app s t (op.Serve call) v declared at) in
    let range = w.in_range.configuration.few_resources in
    let small : q < ceiling_count = ⊎_elim (λ h. omega arith) (λ h. let e = h.0 in omega arith) (w.items frame.func frame.item (service_op service.GetResource q m) r.item).0 in
    let before = held_list_before b.app frame.func frame.item in
    record {
      is_level = ceiling_level b levels are q small;
      is_resource = small;
      new = ap (is_in q) r.held ∙ is_in-append q (held_by b.app at.outer) before
          ∙ or_from _ _ (outer_new b.config b.app w t frame.func frame.func frame.item q m at.outer r.called (inl refl) r.item)
          (w.takes_new frame.func frame.item q m r.item);
      below = below_ceiling b.config b.app t q declared
          (w.takes_listed t frame.func frame.item q m (task_reaches b.config b.app w t frame.func at.outer r.declared r.called) r.item);
    }
