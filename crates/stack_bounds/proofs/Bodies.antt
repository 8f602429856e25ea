-- What task code in range has: bodies of all tasks, and functions that may be called.
use Rattle.std.proofs.Common.{◌≡◌, ℕ, zero, suc, ◌<◌, List, [], ◌∷◌, Bool, true, false, cond, length, get_or, refl, sym, ap, ◌∙◌, subst, arith, Some, None, Option}
use Rattle.std.proofs.lemmas.Bool.{eqb-true, eq-eqb, true≢false}
use Rattle.sloth_base.specs.declared.config.Config.{Config}
use Rattle.sloth_base.specs.declared.config.TaskDecl.{TaskDecl}
use Rattle.sloth_base.specs.declared.app.App.{App}
use Rattle.sloth_base.specs.declared.app.Func.{Func}
use Rattle.sloth_base.specs.declared.app.Op.{Op}
use Rattle.sloth_base.specs.declared.app.Op.TheVariants as op
use Rattle.sloth_base.specs.Options.{is_number}
use Rattle.sloth_base.specs.Named.{function, body_of, no_function, no_item, IsBodyOf}
use Rattle.code_rules.specs.AppRange.{AppInRange, IsOp}
use Rattle.code_rules.specs.WellFormed.{WellFormed}
use Rattle.call_graph.specs.Tables.{IsKnownCall, AreCallable, HasTaskBody}

some_number : (t : ℕ) (o : Option ℕ) → is_number t o ≡ true → o ≡ Some t
some_number t None e = absurd (true≢false (sym e))
some_number t (Some u) e = ap Some (eqb-true u t e)

abbrev Found : List Func → ℕ → ℕ → Type 0
Found funcs t f = (f < length funcs) × ((get_or funcs f no_function).task ≡ Some t)

-- the body of a task is found
found : (funcs : List Func) (t f : ℕ) → f < length funcs → (get_or funcs f no_function).task ≡ Some t → Found funcs t (body_of funcs t)
found [] t f l is = absurd (omega (arith, l))
found (g ∷ rest) t f l is = by (is_number t g.task) refl (later (found rest t) f l is)
  where
    later : ((n : ℕ) → n < length rest → (get_or rest n no_function).task ≡ Some t → Found rest t (body_of rest t))
        → (n : ℕ) → n < length (g ∷ rest) → (get_or (g ∷ rest) n no_function).task ≡ Some t → is_number t g.task ≡ false → Found rest t (body_of rest t)
    later more zero l e differs = absurd (true≢false (sym (ap (is_number t) e ∙ eq-eqb t t refl) ∙ differs))
    later more (suc n) l e differs = more n (omega (arith, l)) e

    by : (b : Bool) → is_number t g.task ≡ b → (is_number t g.task ≡ false → Found rest t (body_of rest t)) → Found (g ∷ rest) t (body_of (g ∷ rest) t)
    by true h more = subst (λ b. Found (g ∷ rest) t (cond b 0 (suc (body_of rest t)))) (sym h) (omega arith, some_number t g.task h)
    by false h more =
        let r = more h in
        let l = r.0 in
        subst (λ b. Found (g ∷ rest) t (cond b 0 (suc (body_of rest t)))) (sym h) (omega (arith, l), r.1)

module _ (config : Config) (app : App) (in_range : AppInRange config app) where
  pub has_body : (t : ℕ) → t < length config.tasks → IsBodyOf app t (body_of app.funcs t)
  has_body t declared = let b = in_range.tasks.body t declared in found app.funcs t b.0 b.1.0 b.1.1

  pub bodies : (t : ℕ) → t < length config.tasks → HasTaskBody app.funcs t
  bodies t declared = let b = has_body t declared in (body_of app.funcs t, b.0, b.1)

  known : (f : ℕ) (o : Op) → IsOp config app (function app f) o → IsKnownCall app.funcs o
  known f (op.Invoke g) h = h.0
  known f _ h = tt

  pub callable : AreCallable app.funcs
  callable = record {
    few = in_range.limits.few_bodies;
    frames = λ f l. (in_range.bodies f no_function l).frame;
    callees = λ f i l inside. known f _ ((in_range.bodies f no_function l).items i no_item inside);
  }

-- as the lists that the functions take
pub bodies_of : (config : Config) (app : App) (tasks : List TaskDecl) (funcs : List Func) → WellFormed config app → tasks ≡ config.tasks → funcs ≡ app.funcs
    → (t : ℕ) → t < length tasks → HasTaskBody funcs t
bodies_of config app tasks funcs w e f t l =
    subst (λ (x : List Func). HasTaskBody x t) (sym f) (bodies config app w.in_range t (subst (λ (x : List TaskDecl). t < length x) e l))
