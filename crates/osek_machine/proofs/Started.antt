-- Tasks are activated one after another as the system starts.
use Rattle.std.proofs.Common.{◌≡◌, ◌∙◌, ℕ, zero, suc, ◌+◌, ◌≤◌, ◌<◌, List, [], ◌∷◌, Bool, true, false, cond, length, get_or, set, refl, sym, ap, arith, add-one}
use Rattle.std.proofs.lemmas.List.{get_or_default}
use Rattle.sloth_base.specs.declared.config.TaskDecl.{TaskDecl}
use Rattle.sloth_base.specs.Named.{undeclared_task}
use Rattle.osek_scheduler.specs.State.{Task, sleeping_task}
use Rattle.osek_scheduler.specs.declared.state.TaskState.TheVariants as mode
use Rattle.osek_scheduler.specs.Steps.{autostarted_tasks}
use Rattle.osek_scheduler.specs.declared.change.TaskChange.TheVariants as change
use Rattle.osek_scheduler.specs.Changes.{changed_task}

-- so many of the first tasks are activated, where they are to start by themselves
abbrev pub started : ℕ → List TaskDecl → List Task → List Task
started zero ds ts = ts
started (suc n) [] ts = ts
started (suc n) (d ∷ ds) [] = []
started (suc n) (d ∷ ds) (t ∷ ts) = cond d.autostart (record t { state = mode.Ready }) t ∷ started n ds ts

pub started-length : (n : ℕ) (ds : List TaskDecl) (ts : List Task) → length (started n ds ts) ≡ length ts
started-length zero ds ts = refl
started-length (suc n) [] ts = refl
started-length (suc n) (d ∷ ds) [] = refl
started-length (suc n) (d ∷ ds) (t ∷ ts) = ap (λ k. suc k) (started-length n ds ts)

pub started-all : (n : ℕ) (ds : List TaskDecl) (ts : List Task) → length ds ≡ length ts → length ts ≤ n → started n ds ts ≡ autostarted_tasks ds ts
started-all zero [] ts e h = refl
started-all zero (d ∷ ds) [] e h = refl
started-all zero (d ∷ ds) (t ∷ ts) e h = absurd (omega (arith, h))
started-all (suc n) [] ts e h = refl
started-all (suc n) (d ∷ ds) [] e h = refl
started-all (suc n) (d ∷ ds) (t ∷ ts) e h =
    ap (λ (rest : List Task). cond d.autostart (record t { state = mode.Ready }) t ∷ rest) (started-all n ds ts (omega (arith, e)) (omega (arith, h)))

here : (b : Bool) (t : Task) (ts : List Task) → (cond b (record t { state = mode.Ready }) t ∷ ts) ≡ cond b (record t { state = mode.Ready } ∷ ts) (t ∷ ts)
here true t ts = refl
here false t ts = refl

behind : (b : Bool) (x : Task) (ys zs : List Task) → (x ∷ cond b ys zs) ≡ cond b (x ∷ ys) (x ∷ zs)
behind true x ys zs = refl
behind false x ys zs = refl

pub started-more : (n : ℕ) (ds : List TaskDecl) (ts : List Task) → n < length ds → n < length ts → started (suc n) ds ts
    ≡ cond (get_or ds n undeclared_task).autostart (set (started n ds ts) n (changed_task change.Activate (get_or (started n ds ts) n sleeping_task))) (started n ds ts)
started-more n [] ts h k = absurd (omega (arith, h))
started-more n (d ∷ ds) [] h k = absurd (omega (arith, k))
started-more zero (d ∷ ds) (t ∷ ts) h k = here d.autostart t ts
started-more (suc n) (d ∷ ds) (t ∷ ts) h k =
    let first = cond d.autostart (record t { state = mode.Ready }) t in
    ap (λ (rest : List Task). first ∷ rest) (started-more n ds ts (omega (arith, h)) (omega (arith, k)))
    ∙ behind (get_or ds n undeclared_task).autostart first
    (set (started n ds ts) n (changed_task change.Activate (get_or (started n ds ts) n sleeping_task))) (started n ds ts)

module _ (n : ℕ) (ds : List TaskDecl) (ts now next : List Task) (x : TaskDecl) (h : n < length ds) (k : n < length ts) (is : now ≡ started n ds ts) (at : x ≡ get_or ds n x) where
  declared : x ≡ get_or ds n undeclared_task
  declared = at ∙ get_or_default ds n x undeclared_task h

  step : (b : Bool) → x.autostart ≡ b → started (suc n) ds ts ≡ cond b (set now n (changed_task change.Activate (get_or now n sleeping_task))) now
  step b e =
      started-more n ds ts h k
      ∙ (ap (λ (y : List Task). cond (get_or ds n undeclared_task).autostart (set y n (changed_task change.Activate (get_or y n sleeping_task))) y) (sym is)
      ∙ ap (λ c. cond c (set now n (changed_task change.Activate (get_or now n sleeping_task))) now) (ap (λ (y : TaskDecl). y.autostart) (sym declared) ∙ e))

  -- the task is activated
  pub activates : x.autostart ≡ true → next ≡ set now n (changed_task change.Activate (get_or now n sleeping_task)) → next ≡ started (n + 1) ds ts
  activates e f = rw add-one (f ∙ sym (step true e))

  -- the task is left as it is
  pub passes_on : x.autostart ≡ false → next ≡ now → next ≡ started (n + 1) ds ts
  passes_on e f = rw add-one (f ∙ sym (step false e))
