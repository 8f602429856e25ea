-- Objects of a configuration in range have small numbers.
use Rattle.std.proofs.Common.{ℕ, ◌≡◌, ◌<◌, ⊎_elim, length, arith}
use Rattle.std.specs.Prelude.{IsTrue}
use Rattle.sloth_base.specs.ConfigRange.{InRange, scheduler_number}
use Rattle.sloth_base.specs.ServiceCodes.{IsObjectNumber}
use Rattle.sloth_base.specs.declared.config.Config.{Config}
use Rattle.sloth_base.specs.declared.service.ObjectKind.{ObjectKind}
use Rattle.sloth_base.specs.declared.service.ObjectKind.TheVariants as object
use Rattle.code_rules.specs.AppRange.{IsObject}

pub object_number : (config : Config) → InRange config → (kind : ObjectKind) (o : ℕ) → IsObject config kind o → IsObjectNumber kind o
object_number config range object.Nothing o h = h
object_number config range object.Task t h = let few = range.few_tasks in omega (arith, h, few)
object_number config range object.Alarm a h = let few = range.few_alarms in omega (arith, h, few)
object_number config range object.Resource r h =
    let few = range.few_resources in
    ⊎_elim (λ (lt : r < length config.resources). omega (arith, lt, few)) (λ (is : (r ≡ scheduler_number) × IsTrue config.res_scheduler). let e = is.0 in omega (arith, e)) h
