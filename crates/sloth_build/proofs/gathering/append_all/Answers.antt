use Rattle.std.proofs.Common.{rules, ◌≡◌, ◌∙◌, ap, refl, sym, subst, length, ◌++◌, ◌∷◌, List, Bool}
use Rattle.rv32_instr.specs.declared.block.Block.{Block}
use Rattle.sloth_link.specs.Items.{item_blocks}
use Rattle.sloth_build.specs.Services.{AreServed, AreServices}
use Rattle.sloth_build.proofs.AllCode.{gathered}
use Rattle.sloth_build.proofs.Called.{served}
use Rattle.sloth_build.proofs.Linking.{may_link}
use Rattle.sloth_build.proofs.Starting.{may_start}
use Rattle.sloth_build.proofs.gathering.append_all.Goals as goal

pub prologues-requires : goal.prologues-requires
prologues-requires c = record { may_start = may_start c.args.config.now c.args.app.now c.args.levels.now c.args.map.now c.requires.may }

pub boot-requires-clause-levels : goal.boot-requires-clause-levels
boot-requires-clause-levels c = c.requires.may.small.0

pub services-requires-clause-served : goal.services-requires-clause-served
services-requires-clause-served c =
    subst (AreServed c.args.config.now) (sym c.wanted_blocks-wanted.ensures) (served c.args.config.now c.args.app.now c.requires.may.well_formed)

pub returns-clause-gathered : goal.returns-clause-gathered
returns-clause-gathered c =
    let first : c.append.new.blocks.items ≡ c.in_ok-vectors.field-0 ∷ c.in_ok-boot.field-0 ∷ c.in_ok-idle.field-0 ∷ c.in_ok-prologues.field-0.items = search rules in
    let second = c.in_ok-append-2.ensures ∙ ap (λ (bs : List Block). bs ++ c.in_ok-ticks.field-0.items) first in
    let third = c.in_ok-append-3.ensures ∙ ap (λ (bs : List Block). bs ++ c.in_ok-services.field-0.items) second in
    gathered c.args.config.now c.args.app.now c.args.levels.now c.args.map.now c.requires.may
    c.in_ok-vectors.field-0 c.in_ok-boot.field-0 c.in_ok-idle.field-0 c.in_ok-prologues.field-0.items c.in_ok-ticks.field-0.items c.in_ok-services.field-0.items
    (item_blocks c.args.app.now c.args.map.now.places (length c.args.app.now.funcs))
    (record {
      vectors_made = record { at = c.in_ok-vectors.ensures.at; marks_are = c.in_ok-vectors.ensures.marks; effect = c.in_ok-vectors.ensures.effect };
      boot_made = record { at = c.in_ok-boot.ensures.at; marks_are = c.in_ok-boot.ensures.marks; effect = c.in_ok-boot.ensures.effect };
      idle_made = record { at = c.in_ok-idle.ensures.at; marks_are = c.in_ok-idle.ensures.marks; effect = c.in_ok-idle.ensures.effect };
      count = c.in_ok-prologues.ensures.count;
      each = c.in_ok-prologues.ensures.each;
      counted_long = c.in_ok-ticks.ensures.count;
      each_tick = c.in_ok-ticks.ensures.each;
      serve = subst (λ (w : List Bool). AreServices c.args.config.now c.args.levels.now c.args.map.now w c.in_ok-services.field-0.items) c.wanted_blocks-wanted.ensures c.in_ok-services.ensures;
      items = refl;
    })
    c.append-3.new.blocks.items third

pub returns-clause-linkable : goal.returns-clause-linkable
returns-clause-linkable c =
    may_link c.args.config.now c.args.app.now c.args.levels.now c.args.map.now c.requires.may c.append-3.new.blocks.items (returns-clause-gathered c)
