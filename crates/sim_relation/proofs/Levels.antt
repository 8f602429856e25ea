-- Levels keep the order of the priorities.
use Rattle.std.proofs.Common.{refl, ◌≡◌, ℕ, zero, suc, ◌+◌, ◌<◌, ◌≤◌, List, [], ◌∷◌, length, get_or, arith, ⊎_elim, leb, cond}
use Rattle.std.specs.Prelude.{count_by, nat_le}
use Rattle.std.proofs.lemmas.Bool.{cases_lt, le-leb, lt-leb}
use Rattle.std.proofs.lemmas.List.Sums.{sum_by-cons, count_by-le-length}
use Rattle.sloth_base.specs.declared.config.Config.{Config}
use Rattle.sloth_base.specs.declared.config.TaskDecl.{TaskDecl}
use Rattle.sloth_base.specs.Named.{declaration, undeclared_task}
use Rattle.sloth_base.specs.PriorityLevels.{level_of}

-- how many of these tasks have at most a priority
abbrev pub levels_in : List TaskDecl → ℕ → ℕ
levels_in ds priority = count_by (λ (d : TaskDecl). nat_le d.priority priority) ds

levels_in-cons : (d : TaskDecl) (ds : List TaskDecl) (p : ℕ) → levels_in (d ∷ ds) p ≡ cond (leb d.priority p) 1 0 + levels_in ds p
levels_in-cons d ds p = sum_by-cons (λ (d : TaskDecl). cond (nat_le d.priority p) 1 0) d ds

one_more : (g p q : ℕ) → p ≤ q → cond (leb g p) 1 0 ≤ cond (leb g q) 1 0
one_more g p q h =
    ⊎_elim
    (λ (a : p < g). rw (lt-leb g p a) (omega arith))
    (λ (b : g ≤ p). let d : g ≤ q = omega arith in rw (le-leb g p b, le-leb g q d) (omega arith))
    (cases_lt p g)

-- a higher priority has at least as many tasks below it
pub levels_in-mono : (ds : List TaskDecl) (p q : ℕ) → p ≤ q → levels_in ds p ≤ levels_in ds q
levels_in-mono [] p q h = omega arith
levels_in-mono (d ∷ ds) p q h =
    let a = one_more d.priority p q h in
    let b = levels_in-mono ds p q h in
    let c = levels_in-cons d ds p in
    let e = levels_in-cons d ds q in
    omega arith

counts_itself : (g p : ℕ) → p < g → cond (leb g p) 1 0 + 1 ≤ cond (leb g g) 1 0
counts_itself g p h = rw (lt-leb g p h, le-leb g g (omega arith)) (omega arith)

-- and one more, where a task stands between the two
pub levels_in-below : (ds : List TaskDecl) (t p : ℕ) → t < length ds → p < (get_or ds t undeclared_task).priority
    → levels_in ds p < levels_in ds (get_or ds t undeclared_task).priority
levels_in-below [] t p l h = absurd (omega arith)
levels_in-below (d ∷ ds) zero p l h =
    let m = levels_in-mono ds p d.priority (omega arith) in
    let n = counts_itself d.priority p h in
    let c = levels_in-cons d ds p in
    let e = levels_in-cons d ds d.priority in
    omega arith
levels_in-below (d ∷ ds) (suc t) p l h =
    let q = (get_or ds t undeclared_task).priority in
    let a = one_more d.priority p q (omega arith) in
    let b = levels_in-below ds t p (omega arith) h in
    let c = levels_in-cons d ds p in
    let e = levels_in-cons d ds q in
    omega arith

-- the level of a higher priority is no lower
pub level_of-mono : (config : Config) (p q : ℕ) → p ≤ q → level_of config p ≤ level_of config q
level_of-mono config p q h = levels_in-mono config.tasks p q h

-- the level of a priority below a task's is below that of the task
pub level_of-below : (config : Config) (t p : ℕ) → t < length config.tasks → p < (declaration config t).priority
    → level_of config p < level_of config (declaration config t).priority
level_of-below config t p l h = levels_in-below config.tasks t p l h

levels_in-some : (ds : List TaskDecl) (t : ℕ) → t < length ds → 0 < levels_in ds (get_or ds t undeclared_task).priority
levels_in-some [] t l = absurd (omega arith)
levels_in-some (d ∷ ds) zero l =
    let c = levels_in-cons d ds d.priority in
    let e : ◌≡◌ {A = ℕ} (cond (leb d.priority d.priority) 1 0) 1 = rw (le-leb d.priority d.priority (omega arith)) refl in
    omega arith
levels_in-some (d ∷ ds) (suc t) l =
    let q = (get_or ds t undeclared_task).priority in
    let h = levels_in-some ds t (omega arith) in
    let c = levels_in-cons d ds q in
    omega arith

-- the level of a task is above that of the idle loop
pub level_of-some : (config : Config) (t : ℕ) → t < length config.tasks → 0 < level_of config (declaration config t).priority
level_of-some config t l = levels_in-some config.tasks t l

-- a level is at most the number of tasks
pub level_of-few : (config : Config) (p : ℕ) → level_of config p ≤ length config.tasks
level_of-few config p = count_by-le-length (λ (d : TaskDecl). nat_le d.priority p) config.tasks

-- a level above that of p: a priority above p
pub above_from : (config : Config) (t p : ℕ) → level_of config p < level_of config (declaration config t).priority → p < (declaration config t).priority
above_from config t p h =
    ⊎_elim (λ (a : p < (declaration config t).priority). a)
    (λ (b : (declaration config t).priority ≤ p). absurd (let m = level_of-mono config (declaration config t).priority p b in omega arith))
    (cases_lt p (declaration config t).priority)

-- so levels in order have their priorities in order
pub at_most_from : (config : Config) (t p : ℕ) → t < length config.tasks → level_of config (declaration config t).priority ≤ level_of config p
    → (declaration config t).priority ≤ p
at_most_from config t p l h =
    ⊎_elim (λ (a : p < (declaration config t).priority). absurd (let m = level_of-below config t p l a in omega arith))
    (λ (b : (declaration config t).priority ≤ p). b)
    (cases_lt p (declaration config t).priority)
