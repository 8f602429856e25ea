use Rattle.std.proofs.Common.{◌≡◌, ◌∙◌, Bool, true, false, refl, ap, sym}
use Rattle.std.specs.Prelude.{◌&&◌, not, is_none}
use Rattle.std.proofs.lemmas.Result.{on_ok_weaker}
use Rattle.sloth_base.specs.declared.refusal.Code.TheVariants.{O8}
use Rattle.sloth_base.specs.declared.refusal.Part.TheVariants.{Oil}
use Rattle.oil_table.specs.Cases.{OilCase}
use Rattle.stage_faults.proofs.Telling.{case_is, adds_same}
use Rattle.stage_faults.proofs.oil_attributes.add_unlisted.Goals as goal

none_told : (unlisted follows : Bool) → follows ≡ true → (unlisted && not follows) ≡ false
none_told false follows e = refl
none_told true follows e = ap not e

is_told : (unlisted follows : Bool) → follows ≡ false → unlisted ≡ (unlisted && not follows)
is_told false follows e = refl
is_told true follows e = sym (ap not e)

pub returns-then-follows : goal.returns-then-follows
returns-then-follows c =
    let told = is_none c.args.row && not c.args.follows in
    let none : told ≡ false = none_told (is_none c.args.row) c.args.follows c.if-follows.true in
    on_ok_weaker c.add_following.result
    (λ nothing. adds_same Oil (λ r. ⊥) (OilCase told c.args.attr.now.line O8) c.args.notes.now.items c.add_following.new.notes.items (λ r f. absurd f) (λ r p. let e = p.0 in cc) (nothing Oil))
    c.add_following.ensures

pub returns : goal.returns
returns c =
    let told = is_none c.args.row && not c.args.follows in
    on_ok_weaker c.add_named.result
    (λ one. case_is Oil told c.is_unlisted-unlisted.result c.args.attr.now.line O8 c.args.notes.now.items c.add_named.new.notes.items
    (c.is_unlisted-unlisted.ensures ∙ is_told (is_none c.args.row) c.args.follows c.if-follows.false) (one Oil))
    c.add_named.ensures
