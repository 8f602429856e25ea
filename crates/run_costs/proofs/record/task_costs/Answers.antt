use Rattle.std.proofs.Common.{◌∙◌, ℕ, Bool, Option, None, false, true, cond, get_or, ap, sym, subst}
use Rattle.std.specs.Prelude.{Decides}
use Rattle.sloth_base.specs.Named.{declaration}
use Rattle.sloth_base.specs.declared.config.TaskDecl.{TaskDecl}
use Rattle.sloth_base.specs.declared.service.Service.TheVariants as service
use Rattle.walk_sums.specs.Rounds.{IsClean}
use Rattle.walk_sums.specs.declared.sections.RoundSums.{RoundSums}
use Rattle.walk_sums.proofs.Bodily.{facts_of}
use Rattle.run_costs.specs.Rounds.{AreRounds, round_cost}
use Rattle.run_costs.specs.RunCosts.{round_entry, has_raised_waits}
use Rattle.run_costs.specs.Services.{reaches}
use Rattle.run_costs.proofs.Greatest.{reach_decided}
use Rattle.run_costs.proofs.record.task_costs.Goals as goal

pub returns : goal.returns
returns c =
    let w = c.args.walks.now in
    let task = c.args.task in
    let clean = c.is_marked-is_clean.ensures in
    let told = c.numbered_sums-sums.result in
    let cut = c.is_marked-is_clean.result in
    let well_formed = c.task-declared.ensures.well_formed in
    let waits = reaches c.args.services.now service.WaitEvent task in
    record {
      priority = c.priority.ensures;
      clean = cut;
      clears = subst (λ (b : Bool). Decides b (IsClean w.app task)) (sym clean) (c.requires.clean task c.requires.inside);
      is_entered_once = c.counts_once.ensures;
      is_autostarted = ap (λ (d : TaskDecl). d.autostart) c.task-declared.ensures.is;
      is_cut = c.is_cut.ensures;
      distance = search;
      told = told;
      rounds = subst (λ (b : Bool). AreRounds w.app b (declaration w.config task).extended task c.args.weights.now told) (sym clean)
          (subst (λ (s : RoundSums). AreRounds w.app (get_or c.args.clean.now task false) (declaration w.config task).extended task c.args.weights.now s) (sym c.numbered_sums-sums.ensures)
          (c.requires.rounds.each task c.requires.inside));
      first = c.round_cost.ensures ∙ ap (λ (n : ℕ). round_cost n c.work_of-work.result told.first) c.round_entry-entry.ensures
          ∙ ap (λ (o : Option ℕ). round_cost (round_entry w.config w.app cut false task) o told.first) c.work_of-work.ensures;
      next = c.round_cost-2.ensures ∙ ap (λ (n : ℕ). round_cost n c.work_of-work.result told.later) c.round_entry-resumed.ensures
          ∙ ap (λ (o : Option ℕ). round_cost (round_entry w.config w.app cut true task) o told.later) c.work_of-work.ensures;
      raising = search;
      waits = waits;
      is_waiting = reach_decided w.config w.app (facts_of w.config w.app well_formed) task c.requires.inside c.args.services.now c.requires.services service.WaitEvent;
      has_raised_waits = c.has_raised_waits-raised.ensures;
      section_work = c.section_work.ensures ∙ ap (λ (b : Bool). cond b None c.work_of-work.result) c.has_raised_waits-raised.ensures
          ∙ ap (λ (o : Option ℕ). cond (has_raised_waits w.config cut waits task) None o) c.work_of-work.ensures;
      service = search;
    }
