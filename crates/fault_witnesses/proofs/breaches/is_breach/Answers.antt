use Rattle.std.proofs.Common.{◌≡◌, ◌∙◌, ◌<◌, ℕ, List, length, sym, subst, true, rules}
use Rattle.sloth_base.specs.declared.app.Func.{Func}
use Rattle.sloth_base.specs.Named.{item_of}
use Rattle.code_rules.specs.Code.{held_list_at}
use Rattle.code_rules.specs.WellFormed.{IsBreach, IsOtherListJump, IsUnreached, is_other_list_jump, is_unreached}
use Rattle.task_verify.specs.Labels.{ArePlaced}
use Rattle.task_verify.specs.Ways.{HasBodyLabel}
use Rattle.task_verify.specs.Uses.{OperandsOf}
use Rattle.fault_witnesses.specs.BreachTests.{plain_test, held_test}
use Rattle.fault_witnesses.proofs.Broken.{plain_broken, held_broken, op_is, all_lead, operands_are, are_placed}
use Rattle.fault_witnesses.proofs.breaches.is_breach.Goals as goal

pub plain_test-requires-clause-inside : goal.plain_test-requires-clause-inside
plain_test-requires-clause-inside c = subst (λ (f : Func). c.args.item < length f.items) (sym c.function-func.ensures) c.requires.inside

pub plain_test-requires-clause-labels : goal.plain_test-requires-clause-labels
plain_test-requires-clause-labels c =
    subst (λ (f : Func). HasBodyLabel f (item_of f c.args.item).op) (sym c.function-func.ensures)
    (all_lead c.args.judged.now.config.now c.args.judged.now.app.now c.args.body c.requires.in_range c.requires.known c.args.item c.requires.inside)

pub plain_test-requires-clause-operands : goal.plain_test-requires-clause-operands
plain_test-requires-clause-operands c =
    subst (λ (f : Func). OperandsOf c.args.judged.now.config.now (item_of f c.args.item).op) (sym c.function-func.ensures)
    (operands_are c.args.judged.now.config.now c.args.judged.now.app.now c.args.body c.requires.in_range c.requires.known c.args.item c.requires.inside)

pub returns-then-plain_test : goal.returns-then-plain_test
returns-then-plain_test c = λ h.
    plain_broken c.args.judged.now.config.now c.args.judged.now.app.now c.from-users.result c.args.body c.args.item c.args.judged.now.refusal.code c.requires.in_range (search rules)
    (subst (λ (f : Func). plain_test c.args.judged.now.config.now c.args.judged.now.app.now c.from-users.result f c.args.item c.args.judged.now.refusal.code ≡ true) c.function-func.ensures
    (sym c.plain_test.ensures ∙ c.if-plain_test.true))

pub is_unreached-requires-clause-labels : goal.is_unreached-requires-clause-labels
is_unreached-requires-clause-labels c =
    subst (λ (f : Func). (i : ℕ) → i < length f.items → HasBodyLabel f (item_of f i).op) (sym c.function-func.ensures)
    (λ i l. all_lead c.args.judged.now.config.now c.args.judged.now.app.now c.args.body c.requires.in_range c.requires.known i l)

pub is_unreached-requires-clause-inside : goal.is_unreached-requires-clause-inside
is_unreached-requires-clause-inside c = subst (λ (f : Func). c.args.item < length f.items) (sym c.function-func.ensures) c.requires.inside

pub returns-then-is_path_code : goal.returns-then-is_path_code
returns-then-is_path_code c = λ h.
    subst (IsBreach c.args.judged.now.config.now c.args.judged.now.app.now c.args.body c.args.item) (sym (c.is_path_code.ensures c.if-is_path_code.true))
    (is_unreached (subst (λ (f : Func). IsUnreached f c.args.item) c.function-func.ensures (c.in_ok-unreached.ensures h)))

pub held_list-requires-clause-placed : goal.held_list-requires-clause-placed
held_list-requires-clause-placed c =
    subst ArePlaced (sym c.function-func.ensures) (are_placed c.args.judged.now.config.now c.args.judged.now.app.now c.args.body c.requires.in_range c.requires.known)

pub held_list-requires-clause-inside : goal.held_list-requires-clause-inside
held_list-requires-clause-inside c = subst (λ (f : Func). c.args.item < length f.items) (sym c.function-func.ensures) c.requires.inside

pub jumps_otherwise-requires-clause-inside : goal.jumps_otherwise-requires-clause-inside
jumps_otherwise-requires-clause-inside c = subst (λ (f : Func). c.args.item < length f.items) (sym c.function-func.ensures) c.requires.inside

pub jumps_otherwise-requires-clause-labels : goal.jumps_otherwise-requires-clause-labels
jumps_otherwise-requires-clause-labels c =
    subst (λ (f : Func). HasBodyLabel f (item_of f c.args.item).op) (sym c.function-func.ensures)
    (all_lead c.args.judged.now.config.now c.args.judged.now.app.now c.args.body c.requires.in_range c.requires.known c.args.item c.requires.inside)

pub returns-then-is_label_code : goal.returns-then-is_label_code
returns-then-is_label_code c = λ h.
    let app = c.args.judged.now.app.now in
    let b = c.args.body in
    let i = c.args.item in
    subst (IsBreach c.args.judged.now.config.now app b i) (sym (c.is_label_code.ensures c.if-is_label_code.true))
    (is_other_list_jump
    (subst (λ (f : Func). IsOtherListJump f (held_list_at f i) (item_of f i).op) c.function-func.ensures
    (subst (λ (held : List ℕ). IsOtherListJump c.function-func.result.now held (item_of c.function-func.result.now i).op) (c.deref.ensures.value ∙ c.in_ok-held.ensures)
    (c.jumps_otherwise.ensures.0 h))))

pub held_test-requires : goal.held_test-requires
held_test-requires c = subst (λ (f : Func). c.args.item < length f.items) (sym c.function-func.ensures) c.requires.inside

pub returns : goal.returns
returns c = λ h.
    let app = c.args.judged.now.app.now in
    let b = c.args.body in
    let i = c.args.item in
    held_broken c.args.judged.now.config.now app c.args.judged.now.ranks.now b i c.args.judged.now.refusal.code c.requires.in_range c.requires.belong
    (op_is c.args.judged.now.config.now app b c.requires.in_range c.requires.known i c.requires.inside)
    (subst (λ (f : Func). held_test c.args.judged.now.ranks.now f (held_list_at f i) i c.args.judged.now.refusal.code ≡ true) c.function-func.ensures
    (subst (λ (held : List ℕ). held_test c.args.judged.now.ranks.now c.function-func.result.now held i c.args.judged.now.refusal.code ≡ true) (c.deref-2.ensures.value ∙ c.in_ok-held.ensures)
    (sym c.held_test.ensures ∙ h)))
