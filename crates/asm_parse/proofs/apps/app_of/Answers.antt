use Rattle.std.proofs.Common.{◌∙◌, ◌+◌, ◌<◌, ◌^◌, List, ap, sym, subst, length, arith}
use Rattle.std.specs.Prelude.{All}
use Rattle.std.proofs.lemmas.List.Elements.{All-weaker}
use Rattle.asm_scopes.specs.Bodies.{BodyText, bodies_of}
use Rattle.asm_scopes.specs.Scopes.{scope_of}
use Rattle.asm_scopes.proofs.Short.{short_bodies, EndsBefore}
use Rattle.asm_parse.specs.Numbered.{IsNumbered}
use Rattle.asm_parse.proofs.apps.app_of.Goals as goal

pub functions-requires-clause-short : goal.functions-requires-clause-short
functions-requires-clause-short c =
    let l = c.requires.few in
    subst (λ (bodies : List BodyText). All (λ body. body.line + length body.lines < 2 ^ 32) bodies) (sym c.requires.bodies)
    (All-weaker (EndsBefore (1 + length c.args.lines.now)) (λ (body : BodyText). body.line + length body.lines < 2 ^ 32) (λ (body : BodyText) h. omega (arith, h, l)) (bodies_of c.args.lines.now)
    (short_bodies 1 c.args.lines.now))

pub functions-requires-clause-numbered : goal.functions-requires-clause-numbered
functions-requires-clause-numbered c =
    subst IsNumbered (sym (c.in_ok-scope.ensures ∙ ap (scope_of c.args.config.now c.args.lines.now) c.requires.bodies)) c.requires.numbered
