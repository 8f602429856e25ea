use Rattle.std.proofs.Common.{◌≡◌, ◌<◌, ℕ, Some, Option, length, subst, sym, ◌∙◌, arith}
use Rattle.std.specs.Prelude.{◌≢◌}
use Rattle.sloth_base.specs.declared.app.Func.{Func}
use Rattle.sloth_base.specs.Named.{label_of}
use Rattle.task_verify.specs.Labels.{last_label_below}
use Rattle.task_verify.proofs.Labelled.{last_inside}
use Rattle.task_verify.proofs.labels.is_behind_other.Goals as goal

inside : (f : Func) (k j : ℕ) (before : Option ℕ) → k < length f.labels → before ≡ last_label_below f.labels (label_of f k).item k → before ≡ Some j → j < length f.labels
inside f k j before l e g = let h = last_inside f.labels (label_of f k).item k j (sym e ∙ g) in omega (arith, h, l)

pub have_other_lists-requires-clause-other : goal.have_other_lists-requires-clause-other
have_other_lists-requires-clause-other c = inside c.args.func.now c.args.number c.in-Some.earlier c.args.before c.requires.inside c.requires.before c.in-Some.is

pub returns-in-Some : goal.returns-in-Some
returns-in-Some c =
    let f = c.args.func.now in
    let k = c.args.number in
    let j = c.in-Some.earlier in
    let e : last_label_below f.labels (label_of f k).item k ≡ Some j = sym c.requires.before ∙ c.in-Some.is in (
      λ h. (j, e, c.have_other_lists.ensures.0 h),
      λ x.
          let s : Some x.0 ≡ Some j = sym x.1 ∙ e in
          let same : x.0 ≡ j = cc in c.have_other_lists.ensures.1 (subst (λ (n : ℕ). (label_of f k).holds ≢ (label_of f n).holds) same x.2),
    )
