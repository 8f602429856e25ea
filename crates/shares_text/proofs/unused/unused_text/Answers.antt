use Rattle.std.proofs.Common.{◌≤◌, length, sym, subst}
use Rattle.sloth_base.specs.declared.config.Config.{Config}
use Rattle.sloth_base.specs.Limits.{task_limit}
use Rattle.osek_scheduler.proofs.Facts.{facts}
use Rattle.shares_text.proofs.Deciding.{lines_are}
use Rattle.shares_text.proofs.unused.unused_text.Goals as goal

pub unused_lines-requires : goal.unused_lines-requires
unused_lines-requires c =
    let code = c.in_ok-checked.checked.verified in
    subst (λ (x : Config). length x.tasks ≤ task_limit) (sym c.config.ensures.is) (facts code.config code.app c.config.ensures.well_formed).in_range.configuration.few_tasks

pub returns-clause-text : goal.returns-clause-text
returns-clause-text c =
    let code = c.in_ok-checked.checked.verified in
    record {
      config = code.config;
      app = code.app;
      accepted = c.in_ok-checked.ensures.accepted;
      has_unused = lines_are code.config code.app c.in_ok-checked.checked.ranks c.config.ensures.well_formed c.in_ok-checked.ensures.belong
          c.config.result.now c.app.result.now c.items-users.result.now c.config.ensures.is c.app.ensures.is c.items-users.ensures c.in_ok-text.text.items c.in_ok-text.ensures;
    }
