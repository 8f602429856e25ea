use Rattle.std.proofs.Common.{Option, subst}
use Rattle.sloth_base.specs.declared.refusal.Refusal.{Refusal}
use Rattle.sloth_base.specs.Search.{IsSearchResult}
use Rattle.code_rules.specs.WellFormed.{RuleFault}
use Rattle.task_verify.proofs.Acyclic.{no_cycle}
use Rattle.task_verify.proofs.verify.Goals as goal

pub new-requires : goal.new-requires
new-requires c = record {
  in_range = c.requires.in_range;
  no_cycle = no_cycle c.args.app c.args.ranks.now c.requires.belong;
  no_fault = subst (λ (o : Option Refusal). IsSearchResult (RuleFault c.args.config c.args.app) o) c.in-None.is c.in_ok-refusal.ensures;
}
