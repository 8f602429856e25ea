use Rattle.std.proofs.Common.{◌∙◌, ◌*◌, ◌^◌, ap, refl}
use Rattle.std.proofs.Math.Nat.{mod-add-mod}
use Rattle.app_gen.specs.Draws.{next_draw}
use Rattle.app_gen.proofs.source.Draws.next.Goals as goal

pub returns : goal.returns
returns c = record { drawn = mod-add-mod (1664525 * c.self.inside.last) (2 ^ 32) 1013904223 ∙ ap next_draw c.self.view_is; last = refl }
