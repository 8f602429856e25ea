use Rattle.std.proofs.Common.{[], ◌∷◌, ◌+◌, map, drop, ap, sym}
use Rattle.sloth_base.specs.declared.app.Func.{Func}
use Rattle.asm_parse.specs.Apps.{func_of}
use Rattle.asm_parse.proofs.Made.{read_one}
use Rattle.asm_parse.proofs.apps.functions.Goals as goal

pub loop-body-preserved : goal.loop-body-preserved
loop-body-preserved c =
    let f = func_of c.args.config.now c.args.scope.now in
    let xs = c.args.bodies.now in
    let i = c.loop-body.body-index in
    read_one (map f) (map f) c.loop-body.funcs.items c.push.new.list.items (c.in_ok-func.func ∷ []) (map f xs) xs i c.body-item.result
    c.loop-body-test.true c.body-item.is (ap (λ (y : Func). y ∷ map f (drop (i + 1) xs)) (sym c.in_ok-func.ensures)) c.in_ok-push.ensures c.loop-body.invariant
