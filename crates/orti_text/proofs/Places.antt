-- The places that formulas read.
use Rattle.std.proofs.Common.{◌≡◌, ℕ, ◌+◌, ◌*◌, ◌%◌, ◌<◌, ◌≤◌, arith, length}
use Rattle.sloth_base.specs.declared.config.Config.{Config}
use Rattle.sloth_base.specs.ConfigRange.{InRange}
use Rattle.sloth_base.specs.Limits.{alarm_limit, task_limit}
use Rattle.sloth_region.specs.declared.region.Map.{Map}
use Rattle.sloth_region.specs.Layout.{active, alarm_cycle, alarm_left, cur, enabled_byte, pending_byte}
use Rattle.orti_text.specs.Formulas.{Formula, Number, Equal, Choice}
use Rattle.orti_text.specs.InReach.{IsInReach}
use Rattle.orti_text.specs.Places.{FormulasAreReadable, IsReadable}
use Rattle.orti_text.specs.Values.{by_state, byte, formula, where_in_use, word}
use Rattle.orti_text.specs.declared.attributes.Attribute.{Attribute}
use Rattle.orti_text.specs.declared.attributes.Attribute.TheVariants as attribute
use Rattle.orti_text.proofs.Reach.{in_reach}

word_readable : (offset : ℕ) → offset % 4 ≡ 0 → offset + 4 ≤ 628 → IsReadable (word offset)
word_readable offset whole inside = (omega (arith, whole), omega arith, omega (arith, inside))

byte_readable : (offset : ℕ) → offset < 96 → IsReadable (byte offset)
byte_readable offset inside = (omega arith, omega (arith, inside))

active_readable : (t : ℕ) → t < task_limit → IsReadable (word (active t))
active_readable t h = word_readable (active t) (omega arith) (omega (arith, h))

enabled_readable : (t : ℕ) → t < task_limit → IsReadable (byte (enabled_byte t))
enabled_readable t h = byte_readable (enabled_byte t) (omega (arith, h))

by_state_readable : (t : ℕ) (a r s w : Formula) → t < task_limit → IsReadable a → IsReadable r → IsReadable s → IsReadable w → IsReadable (by_state t a r s w)
by_state_readable t a r s w h ha hr hs hw =
    ((active_readable t h, tt), ha, ((enabled_readable t h, tt), ((byte_readable (pending_byte t) (omega (arith, h)), tt), hr, hs), hw))

in_use_readable : (a : ℕ) (f : Formula) → a < alarm_limit → IsReadable f → IsReadable (where_in_use a f)
in_use_readable a f h hf = ((word_readable (alarm_left a) (omega arith) (omega (arith, h)), tt), tt, hf)

module _ (config : Config) (m : Map) (range : InRange config) where
  task : (t : ℕ) → t < length config.tasks → t < task_limit
  task t h = let few = range.few_tasks in omega (arith, h, few)

  alarm : (a : ℕ) → a < length config.alarms → a < alarm_limit
  alarm a h = let few = range.few_alarms in omega (arith, h, few)

  pub readable : (a : Attribute) (n : ℕ) → IsInReach config a n → IsReadable (formula config m a n)
  readable attribute.RunningTask n h = word_readable 0 (omega arith) (omega arith)
  readable (attribute.CounterValue c) n h = let few = range.few_counters in word_readable (364 + 4 * c) (omega arith) (omega (arith, h, few))
  readable attribute.TaskState n h =
      let running : IsReadable (Choice (Equal (word cur) (Number (n + 1))) (Number 0) (Number 2)) =
      ((word_readable 0 (omega arith) (omega arith), tt), tt, tt) in
      by_state_readable n (Choice (Equal (word cur) (Number (n + 1))) (Number 0) (Number 2)) (Number 2) (Number 3) (Number 1) (task n h) running tt tt tt
  readable attribute.Entered n h = let t = task n h in ((active_readable n t, tt), tt, tt)
  readable attribute.Activations n h = by_state_readable n (Number 1) (Number 1) (Number 0) (Number 1) (task n h) tt tt tt tt
  readable attribute.Events n h = let t = task n h in word_readable (8 + 12 * n) (omega arith) (omega (arith, t))
  readable attribute.WaitMask n h =
      let t = task n h in
      ((active_readable n t, tt), tt, ((enabled_readable n t, tt), tt, word_readable (12 + 12 * n) (omega arith) (omega (arith, t))))
  readable attribute.AlarmTime n h = let a = alarm n h in word_readable (372 + 8 * n) (omega arith) (omega (arith, a))
  readable attribute.CycleTime n h =
      let a = alarm n h in in_use_readable n (word (alarm_cycle n)) a (word_readable (376 + 8 * n) (omega arith) (omega (arith, a)))
  readable attribute.AlarmState n h = in_use_readable n (Number 1) (alarm n h) tt
  readable (attribute.EventMask e) n h = tt
  readable attribute.StaticPriority n h = tt
  readable attribute.TaskStack n h = tt
  readable attribute.Size n h = tt
  readable attribute.BaseAddress n h = tt
  readable attribute.Direction n h = tt
  readable attribute.Expiry n h = tt
  readable attribute.AlarmCounter n h = tt
  readable attribute.Ceiling n h = tt

pub formulas_are_readable : FormulasAreReadable
formulas_are_readable config m k n range inside = λ i d h. readable config m range _ n (in_reach config n k inside i d h)
