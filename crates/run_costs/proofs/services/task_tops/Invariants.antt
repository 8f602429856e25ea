use Rattle.sloth_base.specs.Named.{body_of}
use Rattle.run_costs.specs.Tops.{IsTop}
use Rattle.run_costs.specs.CostsOf.{AreEach}
use Rattle.run_costs.proofs.services.task_tops.Given as goal

abbrev pub invariant-loop-task : goal.invariant-loop-task
invariant-loop-task l = AreEach l.task (0) (λ t top. IsTop l.walks.config l.walks.app l.fn.counted (body_of l.walks.app.funcs t) top) l.tops.items
