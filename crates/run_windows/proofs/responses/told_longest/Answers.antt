use Rattle.std.proofs.Common.{◌≡◌, ◌∙◌, ℕ, ◌<◌, Bool, true, false, List, Some, None, length, inl, refl, ap, sym, subst, arith}
use Rattle.std.specs.Prelude.{Option, is_some, is_none}
use Rattle.std.proofs.lemmas.Bool.{false≢true}
use Rattle.run_windows.specs.declared.costs.Costs.{Costs}
use Rattle.run_windows.specs.declared.costs.Longest.{Longest}
use Rattle.run_windows.specs.declared.costs.Untold.{Untold}
use Rattle.run_windows.specs.declared.costs.Start.{Start}
use Rattle.run_windows.specs.RunWindows.{AreTold, run_starts, start_at}
use Rattle.run_windows.specs.Longest.{IsMostIf, IsLongest}
use Rattle.run_windows.specs.FirstUntold.{first_untold}
use Rattle.run_windows.proofs.AllTold.{all_are_told}
use Rattle.run_windows.proofs.Within.{longer_start, no_start, one_more}
use Rattle.run_windows.proofs.responses.told_longest.Goals as goal

told_so : (longest late : ℕ) (costs : Costs) (h : ℕ) (boot : Bool) (l : Option Longest) → AreTold costs h → IsMostIf longest late costs h (run_starts costs h boot) l
    → IsLongest longest late costs h boot l
told_so longest late costs h boot (Some l) told most = ((record { told = told; within = most.within }, λ r bound. most.least r bound.within), most.some)
told_so longest late costs h boot None told none = λ r bound. none r bound.within

-- of a list of starts that is the task's
told_by : (longest late : ℕ) (costs : Costs) (h : ℕ) (boot : Bool) (starts : List Start) (l : Option Longest) → AreTold costs h → starts ≡ run_starts costs h boot
    → IsMostIf longest late costs h starts l → IsLongest longest late costs h boot l
told_by longest late costs h boot starts l told same most =
    told_so longest late costs h boot l told (subst (λ (v : List Start). IsMostIf longest late costs h v l) same most)

-- all is told exactly where nothing is found
none_found : (costs : Costs) (h : ℕ) (found : Option Untold) (some : Bool) → found ≡ first_untold costs h → some ≡ is_some found → some ≡ false → AreTold costs h
none_found costs h found some is e unset = (all_are_told costs h).0 (ap is_none (sym is) ∙ by found (sym e ∙ unset))
  where
    by : (o : Option Untold) → is_some o ≡ false → is_none o ≡ true
    by None e = refl
    by (Some u) e = absurd (false≢true (sym e))

found_none : (costs : Costs) (h : ℕ) (found : Option Untold) (some : Bool) → found ≡ first_untold costs h → some ≡ is_some found → some ≡ true → ¬ (AreTold costs h)
found_none costs h found some is e holds told = by found (ap is_none is ∙ (all_are_told costs h).1 told) (sym e ∙ holds)
  where
    by : (o : Option Untold) → is_none o ≡ true → is_some o ≡ true → ⊥
    by None none some = false≢true some
    by (Some u) none some = false≢true none

pub returns-then-is_some : goal.returns-then-is_some
returns-then-is_some c there boot same r bound =
    found_none c.args.run.now.costs c.args.h c.first_untold.result c.is_some.result c.first_untold.ensures.is c.is_some.ensures c.if-is_some.true bound.told

pub loop-start-init : goal.loop-start-init
loop-start-init c = record {
  most = λ there. record {
    within = λ i lt. absurd (let wrong : ⊥ = omega (arith, lt) in wrong);
    least = λ r all. omega arith;
    some = inl refl;
  };
  count = c.requires.count;
}

pub loop-start-preserved : goal.loop-start-preserved
loop-start-preserved c =
    let test = c.loop-start-test.true in
    let run = c.args.run.now in
    let ss = c.args.starts.now in
    let i = c.loop-start.start-index in
    let s = start_at ss i in
    let lt : i < length ss = omega (arith, test) in
    record {
      most = λ there.
          one_more run.longest run.late run.costs c.args.h ss i s c.loop-start.most c.longer-most.result there lt refl (c.loop-start.invariant.most there)
          (longer_start run.longest run.late run.costs c.args.h s c.loop-start.most c.longer-first.result c.longer-most.result c.in_ok-opening.opening c.in_ok-serving.serving there
          c.in_ok-opening.ensures.number c.in_ok-serving.ensures.number c.longer-first.ensures c.longer-most.ensures);
      count = c.number-in-loop-start.ensures.count;
    }

pub returns-in_err-opening : goal.returns-in_err-opening
returns-in_err-opening c there boot same =
    let run = c.args.run.now in
    let s = start_at c.args.starts.now c.loop-start.start-index in
    subst (λ (o : Option Longest). IsLongest run.longest run.late run.costs c.args.h boot o) (sym c.from_residual.ensures)
    (told_by run.longest run.late run.costs c.args.h boot c.args.starts.now None (none_found run.costs c.args.h c.first_untold.result c.is_some.result c.first_untold.ensures.is c.is_some.ensures c.if-is_some.false) same
    (λ r all. no_start run.longest run.late run.costs c.args.h true s there c.in_err-opening.ensures.number r (all c.loop-start.start-index c.loop-start-test.true)))

pub returns-in_err-serving : goal.returns-in_err-serving
returns-in_err-serving c there boot same =
    let run = c.args.run.now in
    let s = start_at c.args.starts.now c.loop-start.start-index in
    subst (λ (o : Option Longest). IsLongest run.longest run.late run.costs c.args.h boot o) (sym c.from_residual-in_err-serving.ensures)
    (told_by run.longest run.late run.costs c.args.h boot c.args.starts.now None (none_found run.costs c.args.h c.first_untold.result c.is_some.result c.first_untold.ensures.is c.is_some.ensures c.if-is_some.false) same
    (λ r all. no_start run.longest run.late run.costs c.args.h false s there c.in_err-serving.ensures.number r (all c.loop-start.start-index c.loop-start-test.true)))

pub returns : goal.returns
returns c there boot same =
    let all = c.loop-start.invariant.most there in
    let over = c.loop-start-test.false in
    let end = c.loop-start.auto.start-index-end in
    let run = c.args.run.now in
    told_by run.longest run.late run.costs c.args.h boot c.args.starts.now (Some c.loop-start.most) (none_found run.costs c.args.h c.first_untold.result c.is_some.result c.first_untold.ensures.is c.is_some.ensures c.if-is_some.false) same
    (record {
      within = λ i lt. all.within i (omega (arith, lt, over));
      least = λ r within. all.least r (λ i lt. within i (omega (arith, lt, end)));
      some = all.some;
    })
