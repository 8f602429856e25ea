-- The attributes of a kind's objects are in reach.
use Rattle.std.proofs.Common.{ℕ, zero, suc, ◌+◌, ◌<◌, ◌≤◌, List, ◌++◌, All, arith, length, map}
use Rattle.std.specs.List.{AllByRecursion, range_with_len}
use Rattle.std.proofs.lemmas.List.{length-map}
use Rattle.std.proofs.lemmas.List.Elements.{All-from_recursion}
use Rattle.sloth_base.specs.declared.config.AlarmDecl.{AlarmDecl}
use Rattle.sloth_base.specs.declared.config.Config.{Config}
use Rattle.sloth_base.specs.declared.config.TaskDecl.{TaskDecl}
use Rattle.orti_text.specs.Attributes.{attributes, object_names}
use Rattle.orti_text.specs.InReach.{IsInReach}
use Rattle.orti_text.specs.declared.attributes.Attribute.{Attribute}
use Rattle.orti_text.specs.declared.attributes.Attribute.TheVariants as attribute
use Rattle.orti_text.specs.declared.attributes.Kind.{Kind}
use Rattle.orti_text.specs.declared.attributes.Kind.TheVariants as kind

module _ (config : Config) (n : ℕ) where
  abbrev P : Attribute → Type 0
  P a = IsInReach config a n

  events_reach : (a k : ℕ) → AllByRecursion P (map attribute.EventMask (range_with_len a k))
  events_reach a zero = tt
  events_reach a (suc k) = (tt, events_reach (a + 1) k)

  counters_reach : (a k : ℕ) (rest : List Attribute) → a + k ≤ length config.counters → AllByRecursion P rest
      → AllByRecursion P (map attribute.CounterValue (range_with_len a k) ++ rest)
  counters_reach a zero rest few h = h
  counters_reach a (suc k) rest few h = (omega (arith, few), counters_reach (a + 1) k rest (omega (arith, few)) h)

  pub in_reach : (k : Kind) → n < length (object_names config k) → All P (attributes config k)
  in_reach kind.Os inside =
      All-from_recursion P (attributes config kind.Os)
      (tt, counters_reach 0 (length config.counters) _ (omega arith) (events_reach 0 (length config.events)))
  in_reach kind.Task inside =
      let long = length-map config.tasks (λ (d : TaskDecl). d.name) in
      let h : n < length config.tasks = omega (arith, inside, long) in
      All-from_recursion P (attributes config kind.Task) (h, (h, (h, (h, (h, (h, (h, tt)))))))
  in_reach kind.Stack inside = All-from_recursion P (attributes config kind.Stack) (tt, (tt, (tt, tt)))
  in_reach kind.Alarm inside =
      let long = length-map config.alarms (λ (d : AlarmDecl). d.name) in
      let h : n < length config.alarms = omega (arith, inside, long) in
      All-from_recursion P (attributes config kind.Alarm) (h, (h, (h, (h, (h, tt)))))
  in_reach kind.Resource inside = All-from_recursion P (attributes config kind.Resource) (tt, tt)
