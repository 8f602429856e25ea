use Rattle.std.proofs.Common.{◌≡◌, ◌∙◌, ◌⊎◌, ℕ, ◌+◌, ◌<◌, ◌^◌, List, ap, sym, subst, take, length, refl, arith}
use Rattle.std.proofs.lemmas.List.{length-take-le}
use Rattle.std.specs.Prelude.{count_by}
use Rattle.sloth_base.specs.declared.refusal.Part.TheVariants.{Src}
use Rattle.asm_lines.specs.declared.source_line.SourceLine.{SourceLine}
use Rattle.sloth_base.specs.Search.{Somewhere}
use Rattle.asm_scopes.specs.Statements.{is_item, label_names}
use Rattle.asm_scopes.specs.Bodies.{BodyText, body_name, function_names}
use Rattle.asm_parse.specs.NameFaults.{items_in}
use Rattle.stage_faults.specs.ToldNames.{ToldHeader, ToldLineName, ToldBody}
use Rattle.asm_parse.proofs.Fronts.{sum_more, take_map}
use Rattle.stage_faults.specs.Told.{Adds}
use Rattle.stage_faults.proofs.Telling.{adds_nowhere, adds_more, adds_end}
use Rattle.stage_faults.proofs.bodies.body_notes.Goals as goal

pub loop-n-init : goal.loop-n-init
loop-n-init c = record { told = adds_nowhere Src (ToldBody c.args.scope.now) c.args.notes.now.items; items = refl; few = omega arith }

pub loop-n-preserved : goal.loop-n-preserved
loop-n-preserved c =
    let xs = c.args.bodies.now in
    let i = c.loop-n.n in
    let x = c.index-bodies-n.result in
    let k = c.loop-n.invariant in
    let front = take i xs in
    let scope = c.args.scope.now in
    let a = c.loop-n.notes.items in
    let b = c.body_faults.new.notes.items in
    let names : take i scope.functions ≡ function_names front = ap (take i) c.requires.functions ∙ take_map body_name xs i in
    let place : i ≡ length front = sym (length-take-le i xs c.loop-n.auto.n-end) in
    let Inner = λ (n : ℕ). Somewhere (ToldLineName scope (label_names x.lines) n x.line) x.lines in
    let one = subst (λ (e : List (List ℕ)). Adds Src (λ r. ToldHeader scope e i x.line x.header r ⊎ Inner c.loop-n.items r) a b) names c.in_ok-body_faults.ensures in
    let two = subst (λ (n : ℕ). Adds Src (λ r. ToldHeader scope (function_names front) n x.line x.header r ⊎ Inner c.loop-n.items r) a b) place one in
    let found = subst (λ (n : ℕ). Adds Src (λ r. ToldHeader scope (function_names front) (length front) x.line x.header r ⊎ Inner n r) a b) k.items two in
    let short = subst (λ (b : BodyText). b.line + length b.lines < 2 ^ 32) (sym c.index-bodies-n.is) (c.requires.short i x c.loop-n-test.true) in
    let few = k.few in
    let bound = c.count_items-items.ensures.few in
    let same = ap length c.lines.ensures in
    record {
      told = adds_more Src (ToldBody scope) xs i x c.args.notes.now.items a b c.loop-n-test.true c.index-bodies-n.is k.told found;
      items = ap (λ n. c.loop-n.items + n) (c.count_items-items.ensures.value ∙ ap (λ (ls : List SourceLine). count_by is_item ls) c.lines.ensures) ∙ ap (λ n. n + items_in x) k.items
          ∙ sum_more items_in xs i x c.loop-n-test.true c.index-bodies-n.is;
      few = omega (arith, few, bound, same, short);
    }

pub returns : goal.returns
returns c =
    let xs = c.args.bodies.now in
    let e : c.loop-n.n ≡ length xs = omega arith in
    adds_end Src (ToldBody c.args.scope.now) xs c.loop-n.n c.args.notes.now.items c.loop-n.notes.items e c.loop-n.invariant.told
