-- Every run of an image is one of the abstract scheduler, where a relation goes on from each count that finds MIE 1 to the next.
use Rattle.std.proofs.Common.{◌≡◌, ◌≤◌, ◌∙◌, ℕ, List, length, ap}
use Rattle.std.specs.Prelude.{map}
use Rattle.std.proofs.Math.ListN.{length-map}
use Rattle.sloth_base.specs.declared.config.CounterDecl.{CounterDecl}
use Rattle.sloth_base.specs.declared.config.Config.{Config}
use Rattle.sloth_base.specs.declared.app.App.{App}
use Rattle.sloth_base.specs.declared.image.Image.{Image}
use Rattle.sloth_base.specs.declared.service.Arrival.{Arrival}
use Rattle.sloth_base.specs.Machine.{State}
use Rattle.sloth_base.specs.Owners.{first_counter_line, owners_in}
use Rattle.rv32_machine.specs.Start.{start}
use Rattle.osek_scheduler.specs.State.{System}
use Rattle.sim_induction.specs.Sound.{IsSoundRun, Sound, AreComing}
use Rattle.sim_induction.specs.Pace.{ItemSizes}
use Rattle.sim_induction.specs.Weighed.{Weighed}
use Rattle.sim_induction.specs.Paced.{Paced}
use Rattle.sim_induction.specs.Spent.{SpentBySizes}
use Rattle.sim_induction.specs.Admits.{IsSetting}
use Rattle.sim_induction.specs.PieceLaws.{Passed, BootLaw}
use Rattle.sim_induction.specs.Related.{IsSimulation}
use Rattle.sim_induction.proofs.Boot.{whole_run}
use Rattle.sim_induction.proofs.WholeRun.{setting_of, sound_of, weighed_of, paced_of, spent_of}

pub is_setting : (config : Config) (app : App) (size : ItemSizes) (image : Image) (arrivals : List Arrival) → length config.tasks ≤ first_counter_line → length image.tasks ≡ length config.tasks → image.counters ≡ map (λ c. c.name) config.counters → AreComing (owners_in config) arrivals
    → IsSetting (setting_of config app size image arrivals)
is_setting config app size image arrivals few tasks counters are =
    let counted : length image.counters ≡ length config.counters = ap length counters ∙ length-map config.counters (λ (c : CounterDecl). c.name) in
    record {
      owners = ap (λ (n : ℕ). record { tasks = n; counters = length image.counters }) tasks ∙ ap (λ (n : ℕ). record { tasks = length config.tasks; counters = n }) counted;
      few_tasks = few;
      ordered = are.ordered;
      lines = are.lines_owned;
    }

pub sound_run : (config : Config) (app : App) (size : ItemSizes) (image : Image) (arrivals : List Arrival) (R : Passed → State → System → Type 0) (progress : State → System → ℕ)
    → IsSetting (setting_of config app size image arrivals) → IsSimulation (setting_of config app size image arrivals) R progress → (passed : Passed)
    → BootLaw (setting_of config app size image arrivals) (R passed) (start image)
    → (n : ℕ) → IsSoundRun config app image arrivals n
sound_run config app size image arrivals R progress setting simulation passed boot n =
    sound_of config app size image arrivals R progress setting simulation n
    (whole_run (setting_of config app size image arrivals) setting R progress simulation passed (start image) boot n)

pub sound : (config : Config) (app : App) (size : ItemSizes) (image : Image) (R : Passed → State → System → Type 0) (progress : State → System → ℕ) (passed : Passed) → length config.tasks ≤ first_counter_line → length image.tasks ≡ length config.tasks
    → image.counters ≡ map (λ c. c.name) config.counters
    → ((arrivals : List Arrival) → AreComing (owners_in config) arrivals → IsSimulation (setting_of config app size image arrivals) R progress × BootLaw (setting_of config app size image arrivals) (R passed) (start image))
    → Sound config app image
sound config app size image R progress passed few tasks counters laws = record {
  counters = counters;
  each = λ arrivals n are. sound_run config app size image arrivals R progress (is_setting config app size image arrivals few tasks counters are) (laws arrivals are).0 passed (laws arrivals are).1 n;
}

-- and no stretch of it takes more than its weight
pub weighed : (config : Config) (app : App) (size : ItemSizes) (image : Image) (R : Passed → State → System → Type 0) (progress : State → System → ℕ) (passed : Passed) → length config.tasks ≤ first_counter_line → length image.tasks ≡ length config.tasks
    → image.counters ≡ map (λ c. c.name) config.counters
    → ((arrivals : List Arrival) → AreComing (owners_in config) arrivals → IsSimulation (setting_of config app size image arrivals) R progress × BootLaw (setting_of config app size image arrivals) (R passed) (start image))
    → Weighed config app image
weighed config app size image R progress passed few tasks counters laws = record {
  each = λ arrivals n are.
      let given = setting_of config app size image arrivals in
      weighed_of config app size image arrivals R n
      (whole_run given (is_setting config app size image arrivals few tasks counters are) R progress (laws arrivals are).0 passed (start image) (laws arrivals are).1 n);
}

-- and its events keep the pace
pub paced : (config : Config) (app : App) (size : ItemSizes) (image : Image) (R : Passed → State → System → Type 0) (progress : State → System → ℕ) (passed : Passed) → length config.tasks ≤ first_counter_line → length image.tasks ≡ length config.tasks
    → image.counters ≡ map (λ c. c.name) config.counters
    → ((arrivals : List Arrival) → AreComing (owners_in config) arrivals → IsSimulation (setting_of config app size image arrivals) R progress × BootLaw (setting_of config app size image arrivals) (R passed) (start image))
    → Paced config app size image
paced config app size image R progress passed few tasks counters laws = record {
  each = λ arrivals n longest are most.
      let given = setting_of config app size image arrivals in
      paced_of config app size image arrivals R n longest most
      (whole_run given (is_setting config app size image arrivals few tasks counters are) R progress (laws arrivals are).0 passed (start image) (laws arrivals are).1 n);
}

-- and no task spends more on an item than it has instructions
pub spent : (config : Config) (app : App) (size : ItemSizes) (image : Image) (R : Passed → State → System → Type 0) (progress : State → System → ℕ) (passed : Passed) → length config.tasks ≤ first_counter_line → length image.tasks ≡ length config.tasks
    → image.counters ≡ map (λ c. c.name) config.counters
    → ((arrivals : List Arrival) → AreComing (owners_in config) arrivals → IsSimulation (setting_of config app size image arrivals) R progress × BootLaw (setting_of config app size image arrivals) (R passed) (start image))
    → SpentBySizes config app size image
spent config app size image R progress passed few tasks counters laws = record {
  each = λ arrivals n longest t are declared.
      let given = setting_of config app size image arrivals in
      spent_of config app size image arrivals R n longest t declared
      (whole_run given (is_setting config app size image arrivals few tasks counters are) R progress (laws arrivals are).0 passed (start image) (laws arrivals are).1 n);
}
