-- What a task spends is within longer items too.
use Rattle.std.proofs.Common.{ℕ, ◌≤◌, List, [], ◌∷◌, arith, cond}
use Rattle.sloth_base.specs.declared.app.App.{App}
use Rattle.sloth_base.specs.declared.config.Config.{Config}
use Rattle.sloth_base.specs.declared.image.Image.{Image}
use Rattle.sloth_base.specs.declared.service.Stamped.{Stamped}
use Rattle.osek_scheduler.specs.State.{System, task}
use Rattle.osek_scheduler.specs.InTime.{is_admit}
use Rattle.sim_induction.specs.Pace.{ItemSizes}
use Rattle.sim_induction.specs.Spent.{spent_behind, SpendsWithin, AreSpentTo, SpentBySizes}
use Rattle.sim_induction.proofs.Pacing.{next_wider, gap_wider}

module _ (config : Config) (app : App) (size wider : ItemSizes) (longer : (func item : ℕ) → size func item ≤ wider func item) where
  within_wider : (longest t at spent : ℕ) (found : System) (e : Stamped) → SpendsWithin config app size longest t at spent found e → SpendsWithin config app wider longest t at spent found e
  within_wider longest t at spent found e h =
      let gap = gap_wider config app size wider longer longest found e.event in
      record {
        begins = λ turn. let soon = h.begins turn in omega (arith, soon, gap);
        ends = λ turn. let soon = h.ends turn in omega (arith, soon, gap);
        preempts = λ is. let soon = h.preempts is in let next = next_wider config app size wider longer (task found t) in omega (arith, soon, next);
      }

  all_wider : (longest t at spent : ℕ) (events : List Stamped) (s end : System) (to left : ℕ) → AreSpentTo config app size longest t at spent events s end to left
      → AreSpentTo config app wider longest t at spent events s end to left
  all_wider longest t at spent [] s end to left h = h
  all_wider longest t at spent (e ∷ events) s end to left h = (
    h.0,
    within_wider longest t at spent s e h.1,
    h.2,
    all_wider longest t (cond (is_admit e) at e.stamp.at) (spent_behind config t at spent s e) events h.0 end to left h.3,
  )

  pub spent_wider : (image : Image) → SpentBySizes config app size image → SpentBySizes config app wider image
  spent_wider image spent = record {
    each = λ arrivals n longest t are declared.
        let h = spent.each arrivals n longest t are declared in
        record { last = h.last; to = h.to; left = h.left; each = all_wider longest t 0 0 _ _ h.last h.to h.left h.each };
  }
