use Rattle.std.proofs.Common.{◌∙◌, ◌++◌, [], ◌∷◌, ap, sym, subst, List}
use Rattle.std.specs.Prelude.{◌||◌, codes}
use Rattle.oil_parse.specs.declared.tree.OilObject.{OilObject}
use Rattle.oil_table.specs.Objects.{is_of_kind, is_declaration}
use Rattle.oil_rules.specs.TaskFaults.{has_priority}
use Rattle.oil_rules.specs.Fronts.{IsFront}
use Rattle.text_pieces.proofs.Tests.{any_push}
use Rattle.oil_rules.proofs.Fronts.{count_push}
use Rattle.oil_rules.proofs.front.Front.with.Goals as goal

pub invariant_of-result : goal.invariant_of-result
invariant_of-result c =
    let i = c.self.inside in
    let x = c.args.object.now in
    let k = c.self.invariant in
    subst (λ (objects : List OilObject). IsFront objects c.add.new.names c.add.new.priorities c.more.result c.more-2.result c.more-3.result c.more-4.result c.more-5.result c.or_os.result)
    (ap (λ (objects : List OilObject). objects ++ x ∷ []) c.self.view_is ∙ sym c.requires)
    (record {
      named = λ kind name.
          c.in_ok-add.ensures.names kind name ∙ ap (λ b. b || is_declaration kind name x) (k.named kind name) ∙ sym (any_push (is_declaration kind name) i.objects.now x);
      taken = λ priority. c.in_ok-add.ensures.priorities priority ∙ ap (λ b. b || has_priority priority x) (k.taken priority) ∙ sym (any_push (has_priority priority) i.objects.now x);
      task_count = c.more.ensures ∙ count_push (is_of_kind (codes "TASK")) i.objects.now x i.tasks k.task_count;
      resource_count = c.more-2.ensures ∙ count_push (is_of_kind (codes "RESOURCE")) i.objects.now x i.resources k.resource_count;
      event_count = c.more-3.ensures ∙ count_push (is_of_kind (codes "EVENT")) i.objects.now x i.events k.event_count;
      counter_count = c.more-4.ensures ∙ count_push (is_of_kind (codes "COUNTER")) i.objects.now x i.counters k.counter_count;
      alarm_count = c.more-5.ensures ∙ count_push (is_of_kind (codes "ALARM")) i.objects.now x i.alarms k.alarm_count;
      os = c.or_os.ensures ∙ ap (λ b. b || is_of_kind (codes "OS") x) k.os ∙ sym (any_push (is_of_kind (codes "OS")) i.objects.now x);
    })
