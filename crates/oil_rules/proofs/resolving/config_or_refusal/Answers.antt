use Rattle.std.proofs.Common.{◌≡◌, ◌≤◌, ◌<◌, List, Option, length, sym, subst, arith}
use Rattle.std.proofs.lemmas.List.Elements.{All-weaker}
use Rattle.std.specs.Prelude.{codes, All}
use Rattle.sloth_base.specs.declared.config.EventDecl.{EventDecl}
use Rattle.sloth_base.specs.declared.refusal.Refusal.{Refusal}
use Rattle.sloth_base.specs.ConfigRange.{InRange}
use Rattle.sloth_base.specs.ImageRange.{IsWord}
use Rattle.sloth_base.specs.Limits.{resource_limit}
use Rattle.sloth_base.specs.MemoryMap.{line_count}
use Rattle.sloth_base.specs.Search.{IsSearchResult}
use Rattle.oil_parse.specs.declared.tree.OilObject.{OilObject}
use Rattle.oil_parse.specs.Words.{IsObjectOfWords}
use Rattle.oil_parse.proofs.Words.{tree_words}
use Rattle.oil_table.specs.Objects.{names_of}
use Rattle.oil_rules.specs.Configs.{resource_names, config_of}
use Rattle.oil_rules.specs.ModelFaults.{ModelFault}
use Rattle.oil_rules.proofs.NoFaults.{few_tasks, few_counters, few_names, number_of_names}
use Rattle.oil_rules.proofs.Range.{in_range}
use Rattle.oil_rules.proofs.resolving.config_or_refusal.Goals as goal

pub declared_config-requires-clause-few : goal.declared_config-requires-clause-few
declared_config-requires-clause-few c =
    let tree = c.args.tree.now in
    subst (λ (x : List OilObject). length (resource_names x) ≤ resource_limit) (sym c.items-objects.ensures)
    (few_names tree (subst (λ (o : Option Refusal). IsSearchResult (ModelFault tree) o) c.in_default.is c.in_ok-refusal.ensures))

pub declared_config-requires-clause-few_tasks : goal.declared_config-requires-clause-few_tasks
declared_config-requires-clause-few_tasks c =
    let tree = c.args.tree.now in
    let none = subst (λ (o : Option Refusal). IsSearchResult (ModelFault tree) o) c.in_default.is c.in_ok-refusal.ensures in
    let n = number_of_names tree none (codes "TASK") in
    let few = few_tasks tree none in
    subst (λ (x : List OilObject). length (names_of (codes "TASK") x) ≤ line_count) (sym c.items-objects.ensures) (omega (arith, n, few))

pub declared_config-requires-clause-few_counters : goal.declared_config-requires-clause-few_counters
declared_config-requires-clause-few_counters c =
    let tree = c.args.tree.now in
    let none = subst (λ (o : Option Refusal). IsSearchResult (ModelFault tree) o) c.in_default.is c.in_ok-refusal.ensures in
    let n = number_of_names tree none (codes "COUNTER") in
    let few = few_counters tree none in
    subst (λ (x : List OilObject). length (names_of (codes "COUNTER") x) ≤ line_count) (sym c.items-objects.ensures) (omega (arith, n, few))

pub returns-clause-in_range : goal.returns-clause-in_range
returns-clause-in_range c =
    let tree = c.args.tree.now in
    let none = subst (λ (o : Option Refusal). IsSearchResult (ModelFault tree) o) c.in_default.is c.in_ok-refusal.ensures in
    let fit = subst (λ (x : List EventDecl). All (λ (e : EventDecl). e.mask < 4294967296) x) c.requires.events c.requires.fit in
    let words = All-weaker IsObjectOfWords (λ (o : OilObject). IsWord o.name) (λ (o : OilObject) w. w.name) tree.objects (tree_words c.requires.tree.text tree c.requires.tree.has_tree) in
    subst InRange (sym (subst (λ (x : List OilObject). c.in_ok-config.config ≡ config_of x) c.items-objects.ensures c.in_ok-config.ensures)) (in_range tree none words fit)
