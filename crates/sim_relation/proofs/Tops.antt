-- The order of the Active tasks, and the top task.
use Rattle.std.proofs.Common.{◌≡◌, ◌≢◌, ℕ, ◌+◌, ◌*◌, ◌<◌, ◌≤◌, List, [], ◌∷◌, length, refl, ap, subst, arith, ⊎_elim, inr, true, false, cond, eqb}
use Rattle.std.proofs.lemmas.Bool.{cases_Bool, eqb-true, eq-eqb, or_cases, or_left, or_right}
use Rattle.sloth_base.specs.declared.config.Config.{Config}
use Rattle.osek_scheduler.specs.declared.state.TaskState.TheVariants as mode
use Rattle.osek_scheduler.specs.State.{System, task}
use Rattle.sloth_base.specs.Named.{declaration}
use Rattle.osek_scheduler.specs.Priority.{rank, is_active, IsTop, NoTicks}
use Rattle.code_rules.specs.Code.{is_in}
use Rattle.sim_induction.specs.Mirror.{priority_of}
use Rattle.sim_relation.specs.Build.{Build}
use Rattle.sim_relation.specs.Stands.{IsActiveTask, AreFalling, AreActive}

-- a task's current priority is at least its own
pub static_le : (config : Config) (s : System) (t : ℕ) → (declaration config t).priority ≤ priority_of config s t
static_le config s t = omega arith

-- the rank of an Active task, by its current priority
pub rank_active : (config : Config) (s : System) (t : ℕ) → (task s t).state ≡ mode.Active → rank config s t ≡ 2 * priority_of config s t + 1
rank_active config s t e = ap (λ m. cond (is_active m) (2 * priority_of config s t + 1) (2 * (declaration config t).priority)) e

-- the rank of a Ready task, by its own priority
pub rank_ready : (config : Config) (s : System) (t : ℕ) → (task s t).state ≡ mode.Ready → rank config s t ≡ 2 * (declaration config t).priority
rank_ready config s t e = ap (λ m. cond (is_active m) (2 * priority_of config s t + 1) (2 * (declaration config t).priority)) e

-- the first of a list is in it
pub is_in-head : (t : ℕ) (below : List ℕ) → is_in t (t ∷ below) ≡ true
is_in-head t below = or_left (eqb t t) (is_in t below) (eq-eqb t t refl)

-- what is in the rest of a list is in it
pub is_in-tail : (t u : ℕ) (below : List ℕ) → is_in u below ≡ true → is_in u (t ∷ below) ≡ true
is_in-tail t u below h = or_right (eqb t u) (is_in u below) h

-- priorities fall along the rest of the stack
pub falling_tail : (b : Build) (s : System) (t : ℕ) (below : List ℕ) → AreFalling b s (t ∷ below) → AreFalling b s below
falling_tail b s t [] f = tt
falling_tail b s t (u ∷ below) f = f.2

-- the first of the stack is Active
pub falling_head : (b : Build) (s : System) (t : ℕ) (below : List ℕ) → AreFalling b s (t ∷ below) → IsActiveTask b s t
falling_head b s t [] f = f
falling_head b s t (u ∷ below) f = f.0

-- the tasks below the first have current priorities below its static one
pub below_first : (b : Build) (s : System) (t : ℕ) (below : List ℕ) → AreFalling b s (t ∷ below) → (u : ℕ) → is_in u below ≡ true
    → priority_of b.config s u < (declaration b.config t).priority
below_first b s t [] f u h = cc
below_first b s t (v ∷ below) f u h =
    ⊎_elim
    (λ (e : eqb v u ≡ true). subst (λ (v : ℕ). priority_of b.config s v < (declaration b.config t).priority) (eqb-true v u e) f.1)
    (λ (k : is_in u below ≡ true).
    let lower = below_first b s v below f.2 u k in
    let d = f.1 in
    let e = static_le b.config s v in
    omega arith)
    (or_cases (eqb v u) (is_in u below) h)

-- none of the stack has a higher rank than its first
pub first_most : (b : Build) (s : System) (t : ℕ) (below : List ℕ) → AreFalling b s (t ∷ below) → (u : ℕ) → is_in u (t ∷ below) ≡ true
    → priority_of b.config s u ≤ priority_of b.config s t
first_most b s t below f u h =
    ⊎_elim
    (λ (e : eqb t u ≡ true). subst (λ (v : ℕ). priority_of b.config s v ≤ priority_of b.config s t) (eqb-true t u e) (omega arith))
    (λ (k : is_in u below ≡ true).
    let lower = below_first b s t below f u k in
    let e = static_le b.config s t in
    omega arith)
    (or_cases (eqb t u) (is_in u below) h)

-- the first is none of those below it
pub not_below : (b : Build) (s : System) (t : ℕ) (below : List ℕ) → AreFalling b s (t ∷ below) → is_in t below ≡ false
not_below b s t below f =
    ⊎_elim
    (λ (h : is_in t below ≡ true). absurd (let lower = below_first b s t below f t h in let e = static_le b.config s t in omega arith))
    (λ (h : is_in t below ≡ false). h)
    (cases_Bool (is_in t below))

-- a task below the first is another
pub below_other : (b : Build) (s : System) (t : ℕ) (below : List ℕ) → AreFalling b s (t ∷ below) → (u : ℕ) → is_in u below ≡ true → u ≢ t
below_other b s t below f u h e =
    let a = not_below b s t below f in let c : is_in t below ≡ true = subst (λ v. is_in v below ≡ true) e h in cc

-- each task of the stack is Active
pub falling_active : (b : Build) (s : System) (stack : List ℕ) → AreFalling b s stack → (u : ℕ) → is_in u stack ≡ true → IsActiveTask b s u
falling_active b s [] f u h = cc
falling_active b s (t ∷ below) f u h =
    ⊎_elim
    (λ (e : eqb t u ≡ true). subst (IsActiveTask b s) (eqb-true t u e) (falling_head b s t below f))
    (λ (k : is_in u below ≡ true). falling_active b s below (falling_tail b s t below f) u k)
    (or_cases (eqb t u) (is_in u below) h)

-- the running task is the top one where no Ready task has a higher priority
pub top_running : (b : Build) (s : System) (t : ℕ) (below others : List ℕ) → AreActive b s (t ∷ below) → is_in t others ≡ false
    → ((u : ℕ) → u < length b.config.tasks → (task s u).state ≡ mode.Ready → is_in u others ≡ false → (declaration b.config u).priority ≤ priority_of b.config s t)
    → NoTicks b.config s → IsTop b.config s others t
top_running b s t below others active out low quiet =
    let h = falling_head b s t below active.falling in
    record {
      declared = h.declared;
      due = inr h.active;
      is_greatest = λ u l due o.
          ⊎_elim
          (λ (e : (task s u).state ≡ mode.Ready).
          let q = low u l e o in
          let x = rank_active b.config s t h.active in
          let y = rank_ready b.config s u e in
          omega arith)
          (λ (e : (task s u).state ≡ mode.Active).
          let q = first_most b s t below active.falling u (active.all u l e) in
          let x = rank_active b.config s t h.active in
          let y = rank_active b.config s u e in
          omega arith)
          due;
      is_not_left_out = out;
      no_ticks = quiet;
    }
