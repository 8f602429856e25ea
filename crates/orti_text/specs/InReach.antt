-- Which numbers an attribute's objects have.
use Rattle.std.specs.Prelude.{ℕ, ◌<◌, ⊤, length}
use Rattle.sloth_base.specs.declared.config.Config.{Config}
use Rattle.orti_text.specs.declared.attributes.Attribute.{Attribute}
use Rattle.orti_text.specs.declared.attributes.Attribute.TheVariants as attribute

-- a task, a counter or an alarm of the number is declared, where the attribute's value is found by one
abbrev pub IsInReach : Config → Attribute → ℕ → Type 0
IsInReach config (attribute.CounterValue c) n = c < length config.counters
IsInReach config attribute.StaticPriority n = n < length config.tasks
IsInReach config attribute.TaskState n = n < length config.tasks
IsInReach config attribute.Entered n = n < length config.tasks
IsInReach config attribute.TaskStack n = n < length config.tasks
IsInReach config attribute.Activations n = n < length config.tasks
IsInReach config attribute.Events n = n < length config.tasks
IsInReach config attribute.WaitMask n = n < length config.tasks
IsInReach config attribute.AlarmTime n = n < length config.alarms
IsInReach config attribute.CycleTime n = n < length config.alarms
IsInReach config attribute.AlarmState n = n < length config.alarms
IsInReach config attribute.Expiry n = n < length config.alarms
IsInReach config attribute.AlarmCounter n = n < length config.alarms
IsInReach config _ n = ⊤
