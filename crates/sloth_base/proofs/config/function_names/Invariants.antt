use Rattle.std.proofs.Common.{◌≡◌, ◌++◌, drop}
use Rattle.std.specs.Prelude.{map}
use Rattle.sloth_base.proofs.config.function_names.Given as goal

abbrev pub invariant-loop-func : goal.invariant-loop-func
invariant-loop-func l = l.names.items ++ map (λ f. f.name) (drop l.func-index l.app.funcs) ≡ map (λ f. f.name) l.app.funcs
