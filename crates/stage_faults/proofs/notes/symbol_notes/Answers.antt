use Rattle.std.proofs.Common.{◌≡◌, ◌∙◌, ℕ, ◌+◌, List, ap, sym, subst, take, length, count_by, refl, arith}
use Rattle.std.specs.Prelude.{if◌then◌else◌}
use Rattle.std.specs.List.{sum_by}
use Rattle.std.proofs.lemmas.List.{length-take-le}
use Rattle.sloth_base.specs.declared.refusal.Part.TheVariants.{Src}
use Rattle.asm_scopes.specs.Statements.{is_data, name_of, symbol_names}
use Rattle.asm_parse.specs.NameFaults.{bytes_of}
use Rattle.stage_faults.specs.ToldNames.{ToldSymbol, ToldData}
use Rattle.asm_parse.proofs.Fronts.{sum_more, count_more, kept_front}
use Rattle.stage_faults.specs.Told.{Adds}
use Rattle.stage_faults.proofs.Telling.{adds_nowhere, adds_more, adds_end}
use Rattle.stage_faults.proofs.notes.symbol_notes.Goals as goal

pub loop-n-init : goal.loop-n-init
loop-n-init c = record { told = adds_nowhere Src ToldData c.args.notes.now.items; counted = refl; summed = refl; few = omega arith }

pub loop-n-preserved : goal.loop-n-preserved
loop-n-preserved c =
    let xs = c.args.lines.now in
    let i = c.loop-n.n in
    let x = c.index-lines-n.result in
    let k = c.loop-n.invariant in
    let front = take i xs in
    let a = c.loop-n.notes.items in
    let b = c.add_faults.new.notes.items in
    let names : take c.loop-n.count c.args.symbols.now ≡ symbol_names front =
    ap (take c.loop-n.count) c.requires.symbols ∙ ap (λ (n : ℕ). take n (symbol_names xs)) k.counted ∙ kept_front is_data name_of xs i in
    let place : i ≡ length front = sym (length-take-le i xs c.loop-n.auto.n-end) in
    let one = subst (λ (e : List (List ℕ)). Adds Src (ToldSymbol e c.loop-n.count c.loop-n.bytes (i + 1) x) a b) names c.in_ok-add_faults.ensures in
    let two = subst (λ (n : ℕ). Adds Src (ToldSymbol (symbol_names front) n c.loop-n.bytes (i + 1) x) a b) k.counted one in
    let three = subst (λ (n : ℕ). Adds Src (ToldSymbol (symbol_names front) (count_by is_data front) n (i + 1) x) a b) k.summed two in
    let found = subst (λ (n : ℕ). Adds Src (ToldSymbol (symbol_names front) (count_by is_data front) (sum_by bytes_of front) (n + 1) x) a b) place three in
    let few = k.few in
    let bound = c.bytes_of-bytes.ensures.bound in
    record {
      told = adds_more Src ToldData xs i x c.args.notes.now.items a b c.loop-n-test.true c.index-lines-n.is k.told found;
      counted = ap (λ n. c.loop-n.count + n) c.count_data-count.ensures ∙ ap (λ n. n + (if is_data x then 1 else 0)) k.counted
          ∙ count_more is_data xs i x c.loop-n-test.true c.index-lines-n.is;
      summed = ap (λ n. c.loop-n.bytes + n) c.bytes_of-bytes.ensures.value ∙ ap (λ n. n + bytes_of x) k.summed
          ∙ sum_more bytes_of xs i x c.loop-n-test.true c.index-lines-n.is;
      few = omega (arith, few, bound);
    }

pub returns : goal.returns
returns c =
    let xs = c.args.lines.now in
    let e : c.loop-n.n ≡ length xs = omega arith in
    adds_end Src ToldData xs c.loop-n.n c.args.notes.now.items c.loop-n.notes.items e c.loop-n.invariant.told
