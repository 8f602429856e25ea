use Rattle.std.proofs.Common.{◌∙◌, ◌⊎◌, ◌+◌, ◌<◌, ◌^◌, List, ap, sym, subst, length, arith}
use Rattle.std.specs.Prelude.{All}
use Rattle.std.proofs.lemmas.List.Elements.{All-weaker}
use Rattle.sloth_base.specs.declared.refusal.Code.TheVariants.{A7}
use Rattle.sloth_base.specs.declared.refusal.Part.TheVariants.{Src}
use Rattle.sloth_base.specs.Search.{Somewhere}
use Rattle.asm_lines.specs.Faults.{SourceCase}
use Rattle.asm_scopes.specs.declared.scope.Scope.{Scope}
use Rattle.asm_scopes.specs.Bodies.{BodyText, bodies_of}
use Rattle.asm_scopes.specs.Scopes.{scope_of}
use Rattle.asm_parse.specs.NameFaults.{is_body_missing}
use Rattle.stage_faults.specs.ToldNames.{ToldData, ToldBody, ToldName}
use Rattle.asm_scopes.proofs.Short.{few_bodies, short_bodies, EndsBefore}
use Rattle.stage_faults.specs.Told.{Adds}
use Rattle.stage_faults.proofs.Telling.{case_is, adds_both, all_made}
use Rattle.stage_faults.proofs.notes.name_notes.Goals as goal

pub body_notes-requires-clause-few : goal.body_notes-requires-clause-few
body_notes-requires-clause-few c =
    let f = few_bodies 1 c.args.lines.now in
    let e = ap length c.requires.bodies in
    let l = c.requires.few in
    omega (arith, f, e, l)

pub body_notes-requires-clause-short : goal.body_notes-requires-clause-short
body_notes-requires-clause-short c =
    let l = c.requires.few in
    subst (λ (bodies : List BodyText). All (λ body. body.line + length body.lines < 2 ^ 32) bodies) (sym c.requires.bodies)
    (All-weaker (EndsBefore (1 + length c.args.lines.now)) (λ (body : BodyText). body.line + length body.lines < 2 ^ 32) (λ (body : BodyText) h. omega (arith, h, l)) (bodies_of c.args.lines.now)
    (short_bodies 1 c.args.lines.now))

pub returns : goal.returns
returns c =
    let config = c.args.config.now in
    let lines = c.args.lines.now in
    let bodies = bodies_of lines in
    let t = is_body_missing config bodies in
    let start = c.new-notes.result.items in
    let a = c.symbol_notes.new.notes.items in
    let b = c.body_notes.new.notes.items in
    let d = c.add_named.new.notes.items in
    let Bodies = Somewhere (ToldBody (scope_of config lines bodies)) bodies in
    let scope = c.in_ok-scope.ensures ∙ ap (scope_of config lines) c.requires.bodies in
    let of_bodies = subst (λ (s : Scope). Adds Src (Somewhere (ToldBody s) bodies) a b) scope
    (subst (λ (bs : List BodyText). Adds Src (Somewhere (ToldBody c.in_ok-scope.scope) bs) a b) c.requires.bodies c.in_ok-body_notes.ensures) in
    let of_tasks = case_is Src t c.in_ok-lacks.lacks 1 A7 b d (c.in_ok-lacks.ensures ∙ ap (is_body_missing config) c.requires.bodies) (c.in_ok-add_named.ensures Src) in
    all_made Src (ToldName config lines) start d c.new-notes.ensures.items
    (adds_both Src (Somewhere ToldData lines) (λ r. Bodies r ⊎ SourceCase t 1 A7 r) start a d c.in_ok-symbol_notes.ensures
    (adds_both Src Bodies (SourceCase t 1 A7) a b d of_bodies of_tasks))
