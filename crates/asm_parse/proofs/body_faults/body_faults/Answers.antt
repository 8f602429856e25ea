use Rattle.std.proofs.Common.{◌≡◌, ◌∙◌, ◌⊎◌, ℕ, ◌+◌, ◌<◌, ◌^◌, List, ap, sym, subst, take, length, arith}
use Rattle.std.proofs.lemmas.List.{length-take-le}
use Rattle.std.specs.Prelude.{count_by}
use Rattle.asm_lines.specs.declared.source_line.SourceLine.{SourceLine}
use Rattle.sloth_base.specs.Search.{IsSearchResult, Somewhere}
use Rattle.sloth_base.proofs.Kept.{loop_more, loop_end}
use Rattle.asm_scopes.specs.Statements.{is_item, label_names}
use Rattle.asm_scopes.specs.Bodies.{BodyText, body_name, function_names}
use Rattle.asm_parse.specs.NameFaults.{items_in, HeaderFault, LineNameFault, BodyNameFault}
use Rattle.asm_parse.proofs.Fronts.{sum_more, take_map}
use Rattle.asm_parse.proofs.body_faults.body_faults.Goals as goal

pub loop-n-preserved : goal.loop-n-preserved
loop-n-preserved c =
    let xs = c.args.bodies.now in
    let i = c.loop-n.n in
    let x = c.index-bodies-n.result in
    let m = c.in_ok-found.found in
    let k = c.loop-n.invariant in
    let front = take i xs in
    let scope = c.args.scope.now in
    let names : take i scope.functions ≡ function_names front = ap (take i) c.requires.functions ∙ take_map body_name xs i in
    let place : i ≡ length front = sym (length-take-le i xs c.loop-n.auto.n-end) in
    let Inner = λ (n : ℕ). Somewhere (LineNameFault scope (label_names x.lines) n x.line) x.lines in
    let one = subst (λ (e : List (List ℕ)). IsSearchResult (λ r. HeaderFault scope e i x.line x.header r ⊎ Inner c.loop-n.items r) m) names c.in_ok-found.ensures in
    let two = subst (λ (n : ℕ). IsSearchResult (λ r. HeaderFault scope (function_names front) n x.line x.header r ⊎ Inner c.loop-n.items r) m) place one in
    let found = subst (λ (n : ℕ). IsSearchResult (λ r. HeaderFault scope (function_names front) (length front) x.line x.header r ⊎ Inner n r) m) k.items two in
    let short = subst (λ (b : BodyText). b.line + length b.lines < 2 ^ 32) (sym c.index-bodies-n.is) (c.requires.short i x c.loop-n-test.true) in
    let few = k.few in
    let bound = c.count_items-items.ensures.few in
    let same = ap length c.lines.ensures in
    record {
      finds = loop_more (BodyNameFault scope) xs i x c.loop-n.least m c.merge-least.result c.loop-n-test.true c.index-bodies-n.is found c.merge-least.ensures k.finds;
      items = ap (λ n. c.loop-n.items + n) (c.count_items-items.ensures.value ∙ ap (λ (ls : List SourceLine). count_by is_item ls) c.lines.ensures) ∙ ap (λ n. n + items_in x) k.items
          ∙ sum_more items_in xs i x c.loop-n-test.true c.index-bodies-n.is;
      few = omega (arith, few, bound, same, short);
    }

pub returns : goal.returns
returns c = loop_end (BodyNameFault c.args.scope.now) c.args.bodies.now c.loop-n.n c.loop-n.least c.loop-n-test.false c.loop-n.invariant.finds
