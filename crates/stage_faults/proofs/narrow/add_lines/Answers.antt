use Rattle.std.proofs.Common.{◌≡◌, ◌<◌, ◌+◌, ℕ, List, [], sym, subst, take, map, get_or, length, arith}
use Rattle.std.specs.Borrow.{Bor}
use Rattle.std.proofs.lemmas.List.{length-take-le, length-map, get_or-map}
use Rattle.sloth_base.specs.declared.refusal.Part.TheVariants.{Src}
use Rattle.sloth_base.specs.declared.refusal.Code.TheVariants.{A4}
use Rattle.asm_lines.specs.Faults.{SourceCase}
use Rattle.text_pieces.specs.Names.{referent}
use Rattle.stage_faults.specs.Told.{Adds}
use Rattle.stage_faults.specs.ToldNarrow.{is_narrow_a4, NarrowFault}
use Rattle.stage_faults.proofs.Telling.{case_is, adds_nowhere, adds_more, adds_end}
use Rattle.stage_faults.proofs.narrow.add_lines.Goals as goal

pub loop-n-init : goal.loop-n-init
loop-n-init c = adds_nowhere Src NarrowFault c.args.notes.now.items

pub loop-n-preserved : goal.loop-n-preserved
loop-n-preserved c =
    let refs = c.args.lines.now in
    let xs = map referent refs in
    let i = c.loop-n.n in
    let none : Bor (List ℕ) = record { ref_ptr = (0, 0); now = [] } in
    let x = (get_or refs i none).now in
    let a = c.loop-n.notes.items in
    let b = c.add_bare.new.notes.items in
    let long = length-map refs referent in
    let within : i < length xs = let t = c.loop-n-test.true in omega (arith, long, t) in
    let at : x ≡ get_or xs i x = sym (get_or-map referent refs i none x c.loop-n-test.true) in
    let place : i ≡ length (take i xs) = let t = c.loop-n-test.true in sym (length-take-le i xs (omega (arith, long, t))) in
    let one = case_is Src (is_narrow_a4 x) c.in_ok-test.test (i + 1) A4 a b c.in_ok-test.ensures (c.in_ok-add_bare.ensures Src) in
    let found = subst (λ (n : ℕ). Adds Src (SourceCase (is_narrow_a4 x) (n + 1) A4) a b) place one in
    adds_more Src NarrowFault xs i x c.args.notes.now.items a b within at c.loop-n.invariant found

pub returns : goal.returns
returns c =
    let refs = c.args.lines.now in
    let xs = map referent refs in
    let long = length-map refs referent in
    let e : c.loop-n.n ≡ length xs = omega (arith, long) in
    adds_end Src NarrowFault xs c.loop-n.n c.args.notes.now.items c.loop-n.notes.items e c.loop-n.invariant
