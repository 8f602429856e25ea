use Rattle.std.proofs.Common.{sym, ◌∙◌}
use Rattle.shares_text.proofs.verdict.judge.Goals as goal

pub shared-requires-clause-two : goal.shared-requires-clause-two
shared-requires-clause-two c =
    record { one = c.first_user-first.result; some = c.first_user-first.ensures; other = sym c.is_of_one.ensures ∙ c.if-is_of_one.false }
