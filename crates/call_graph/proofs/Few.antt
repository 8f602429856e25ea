-- In task code in range the numbers of functions, resources and tasks fit their sets.
use Rattle.std.proofs.Common.{ℕ, ◌<◌, inl, inr, length, subst, arith}
use Rattle.sloth_base.specs.declared.app.App.{App}
use Rattle.sloth_base.specs.declared.app.Op.{Op}
use Rattle.sloth_base.specs.declared.app.Op.TheVariants as op
use Rattle.sloth_base.specs.declared.config.Config.{Config}
use Rattle.sloth_base.specs.Named.{function, no_function, no_item}
use Rattle.sloth_base.specs.Limits.{ceiling_count}
use Rattle.code_rules.specs.AppRange.{AppInRange, IsTaskCode, IsOp, IsResource}
use Rattle.code_rules.specs.Code.{IsItem}
use Rattle.call_graph.specs.Reached.{AreFew}
use Rattle.call_graph.proofs.Itself.{Decides-calls, takes_are}

op_in_range : (config : Config) (app : App) → AppInRange config app → (f i : ℕ) (o : Op) → IsItem app f i o → IsOp config app (function app f) o
op_in_range config app in_range f i o is = subst (IsOp config app (function app f)) is.is ((in_range.bodies f no_function is.known).items i no_item is.inside)

few_resources : (config : Config) (r : ℕ) → length config.resources < ceiling_count → IsResource config r → r < 64
few_resources config r l (inl h) = omega (arith, l, h)
few_resources config r l (inr h) = let e = h.0 in omega (arith, e)

pub few : (app : App) → IsTaskCode app → AreFew app.funcs
few app code =
    let config = code.0 in
    let in_range = code.1 in
    let bodies = in_range.limits.few_bodies in
    record {
      count = bodies;
      calls = λ f known g h.
          let x = (Decides-calls app f known g).0 h in
          let callable = op_in_range config app in_range f x.0 (op.Invoke g) x.1 in
          omega (arith, callable.0, bodies);
      resources = λ f known r h.
          let x = takes_are app f known r h in
          let operands = op_in_range config app in_range f x.0 _ x.2 in
          few_resources config r (omega (arith, in_range.configuration.few_resources)) operands.0;
      tasks = λ f known t e.
          let declared = in_range.tasks.declared t f (known, e) in
          let tasks = in_range.configuration.few_tasks in
          omega (arith, declared, tasks);
    }
