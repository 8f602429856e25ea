use Rattle.std.proofs.Common.{Option, subst}
use Rattle.sloth_base.specs.declared.refusal.Refusal.{Refusal}
use Rattle.sloth_base.specs.Search.{IsSearchResult}
use Rattle.code_rules.specs.WellFormed.{RuleFault}
use Rattle.holds_infer.proofs.BodyFillings.{have_labels, found_in_range, found_belongs, found_holds, none_holds}
use Rattle.holds_infer.proofs.inference.infer.Goals as goal

pub candidate-requires : goal.candidate-requires
candidate-requires c = have_labels c.args.config.now c.args.app.now c.requires.in_range

pub judge-requires-clause-in_range : goal.judge-requires-clause-in_range
judge-requires-clause-in_range c =
    found_in_range c.args.config.now c.args.app.now c.in_ok-other.other c.args.ranks.now c.in_ok-other.ensures.funcs c.in_ok-other.ensures.symbols
    c.requires.in_range c.requires.belong

pub judge-requires-clause-belong : goal.judge-requires-clause-belong
judge-requires-clause-belong c =
    found_belongs c.args.config.now c.args.app.now c.in_ok-other.other c.args.ranks.now c.in_ok-other.ensures.funcs c.in_ok-other.ensures.symbols
    c.requires.in_range c.requires.belong

pub returns-in-None-clause-filling : goal.returns-in-None-clause-filling
returns-in-None-clause-filling c =
    found_holds c.args.config.now c.args.app.now c.in_ok-other.other c.args.ranks.now c.in_ok-other.ensures.funcs c.in_ok-other.ensures.symbols
    c.requires.in_range c.requires.belong
    (subst (λ (found : Option Refusal). IsSearchResult (RuleFault c.args.config.now c.in_ok-other.other) found) c.in-None.is c.in_ok-fault.ensures)

pub returns-in-Some-clause-none : goal.returns-in-Some-clause-none
returns-in-Some-clause-none c =
    none_holds c.args.config.now c.args.app.now c.in_ok-other.other c.args.ranks.now c.in_ok-other.ensures.funcs c.in_ok-other.ensures.symbols
    c.requires.in_range c.requires.belong c.in-Some.field-0
    (subst (λ (found : Option Refusal). IsSearchResult (RuleFault c.args.config.now c.in_ok-other.other) found) c.in-Some.is c.in_ok-fault.ensures).is_fault
