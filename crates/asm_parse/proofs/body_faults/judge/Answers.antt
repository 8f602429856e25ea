use Rattle.std.proofs.Common.{◌∙◌, ◌⊎◌, ◌+◌, ◌<◌, ◌^◌, List, ap, sym, subst, length, arith}
use Rattle.std.specs.Prelude.{All}
use Rattle.std.proofs.lemmas.List.Elements.{All-weaker}
use Rattle.sloth_base.specs.declared.refusal.Code.TheVariants.{A7}
use Rattle.sloth_base.specs.Search.{IsSearchResult, Somewhere}
use Rattle.sloth_base.specs.declared.refusal.Part.TheVariants.{Src}
use Rattle.sloth_base.proofs.Kept.{both_are}
use Rattle.sloth_base.proofs.Cases.{case_found}
use Rattle.asm_lines.specs.Faults.{SourceCase}
use Rattle.asm_scopes.specs.declared.scope.Scope.{Scope}
use Rattle.asm_scopes.specs.Bodies.{BodyText, bodies_of}
use Rattle.asm_scopes.specs.Scopes.{scope_of}
use Rattle.asm_parse.specs.NameFaults.{is_body_missing, DataFault, BodyNameFault}
use Rattle.asm_scopes.proofs.Short.{few_bodies, short_bodies, EndsBefore}
use Rattle.asm_parse.proofs.body_faults.judge.Goals as goal

pub body_faults-requires-clause-few : goal.body_faults-requires-clause-few
body_faults-requires-clause-few c =
    let f = few_bodies 1 c.args.lines.now in
    let e = ap length c.requires.bodies in
    let l = c.requires.few in
    omega (arith, f, e, l)

pub body_faults-requires-clause-short : goal.body_faults-requires-clause-short
body_faults-requires-clause-short c =
    let l = c.requires.few in
    subst (λ (bodies : List BodyText). All (λ body. body.line + length body.lines < 2 ^ 32) bodies) (sym c.requires.bodies)
    (All-weaker (EndsBefore (1 + length c.args.lines.now)) (λ (body : BodyText). body.line + length body.lines < 2 ^ 32) (λ (body : BodyText) h. omega (arith, h, l)) (bodies_of c.args.lines.now)
    (short_bodies 1 c.args.lines.now))

pub returns : goal.returns
returns c =
    let config = c.args.config.now in
    let lines = c.args.lines.now in
    let found = c.in_ok-of_bodies.of_bodies in
    let scope = c.in_ok-scope.ensures ∙ ap (scope_of config lines) c.requires.bodies in
    let of_bodies = subst (λ (s : Scope). IsSearchResult (Somewhere (BodyNameFault s) (bodies_of lines)) found) scope
    (subst (λ (bodies : List BodyText). IsSearchResult (Somewhere (BodyNameFault c.in_ok-scope.scope) bodies) found) c.requires.bodies c.in_ok-of_bodies.ensures) in
    let of_tasks = case_found Src (is_body_missing config (bodies_of lines)) c.in_ok-lacks.lacks 1 A7 c.fault_if-of_tasks.result c.fault_if-of_tasks.ensures
    (c.in_ok-lacks.ensures ∙ ap (is_body_missing config) c.requires.bodies) in
    both_are (Somewhere DataFault lines) (λ r. Somewhere (BodyNameFault (scope_of config lines (bodies_of lines))) (bodies_of lines) r ⊎ SourceCase (is_body_missing config (bodies_of lines)) 1 A7 r)
    c.data_faults-of_data.result c.merge.result c.merge-2.result c.data_faults-of_data.ensures
    (both_are (Somewhere (BodyNameFault (scope_of config lines (bodies_of lines))) (bodies_of lines)) (SourceCase (is_body_missing config (bodies_of lines)) 1 A7) found c.fault_if-of_tasks.result c.merge.result of_bodies of_tasks
    c.merge.ensures)
    c.merge-2.ensures
