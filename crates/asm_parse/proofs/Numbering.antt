-- The names of a source can be numbered.
use Rattle.std.proofs.Common.{Bool, ◌<◌, ◌≤◌, ◌^◌, List, map, length, arith}
use Rattle.std.specs.Prelude.{filter}
use Rattle.std.proofs.lemmas.List.{length-map}
use Rattle.std.proofs.lemmas.List.Sums.{length-filter, count_by-le-length}
use Rattle.sloth_base.specs.ConfigRange.{InRange}
use Rattle.sloth_base.specs.declared.config.Config.{Config}
use Rattle.sloth_base.specs.declared.config.TaskDecl.{TaskDecl}
use Rattle.sloth_base.specs.declared.config.AlarmDecl.{AlarmDecl}
use Rattle.asm_lines.specs.declared.source_line.SourceLine.{SourceLine}
use Rattle.asm_scopes.specs.Statements.{is_data, name_of}
use Rattle.asm_scopes.specs.Bodies.{bodies_of, body_name}
use Rattle.asm_scopes.specs.Scopes.{scope_of}
use Rattle.asm_scopes.proofs.Short.{few_bodies}
use Rattle.asm_parse.specs.Numbered.{IsNumbered}

pub few_kept : {Y : Type 0} (p : SourceLine → Bool) (f : SourceLine → Y) (ls : List SourceLine) → length (map f (filter p ls)) ≤ length ls
few_kept p f ls = let m = length-map (filter p ls) f in let g = length-filter p ls in let n = count_by-le-length p ls in omega (arith, m, g, n)

pub numbered : (config : Config) (ls : List SourceLine) → InRange config → length ls < 2 ^ 32 → IsNumbered (scope_of config ls (bodies_of ls))
numbered config ls r few =
    let t = length-map config.tasks (λ (t : TaskDecl). t.name) in
    let tasks = r.few_tasks in
    let resources = r.few_resources in
    let a = length-map config.alarms (λ (a : AlarmDecl). a.name) in
    let alarms = r.few_alarms in
    let s = few_kept is_data name_of ls in
    let f = length-map (bodies_of ls) body_name in
    let b = few_bodies 1 ls in
    record {
      tasks = omega (arith, t, tasks);
      resources = omega (arith, resources);
      alarms = omega (arith, a, alarms);
      symbols = omega (arith, s, few);
      functions = omega (arith, f, b, few);
    }
