-- The ticks of the runs of an image end in time, by what its builder promises of them.
use Rattle.std.proofs.Common.{ℕ, ◌+◌, List, [], refl, arith}
use Rattle.std.specs.List.{AllByRecursion}
use Rattle.sloth_base.specs.declared.config.Config.{Config}
use Rattle.sloth_base.specs.declared.app.App.{App}
use Rattle.sloth_base.specs.declared.service.Arrival.{Arrival}
use Rattle.sloth_base.specs.declared.service.Stamped.{Stamped}
use Rattle.sloth_base.specs.declared.image.Image.{Image}
use Rattle.sloth_base.specs.Owners.{owners_in}
use Rattle.code_rules.specs.WellFormed.{WellFormed}
use Rattle.load_text.specs.declared.load_line.Entry.{Entry}
use Rattle.load_text.specs.Loads.{KeepDistances}
use Rattle.osek_scheduler.specs.State.{opening}
use Rattle.osek_scheduler.specs.Runs.{AreStepsTo}
use Rattle.osek_scheduler.proofs.Facts.{facts}
use Rattle.osek_scheduler.proofs.Leading.{follows_leads}
use Rattle.osek_scheduler.proofs.Steps.{opening_valid}
use Rattle.osek_blocking.proofs.Ordering.{opening_ordered}
use Rattle.bound_rules.specs.declared.bound.BodyWeights.{BodyWeights}
use Rattle.sim_induction.specs.Items.{length_of}
use Rattle.sim_induction.specs.Pace.{ItemSizes, AreAtMost}
use Rattle.sim_induction.specs.Paced.{KeepsPace, InPace}
use Rattle.sim_induction.specs.Sound.{AreComing, Sound, IsSoundRun, events_of}
use Rattle.sim_induction.specs.Weighed.{Weighed}
use Rattle.run_counts.specs.Counts.{AreCounts}
use Rattle.run_counts.specs.Stages.{run_stages}
use Rattle.run_counts.proofs.Shared as shared
use Rattle.run_counts.proofs.Staged.{keeps_weights}
use Rattle.response_laws.specs.Arrivals.{HasDistances}
use Rattle.response_laws.specs.Response.{HasPace}
use Rattle.response_laws.specs.SoundRuns.{NoStretchIsAbove, IsLongestItem, ImagesTickInTime}
use Rattle.response_laws.specs.Ticking.{HasRoomForTicks, TicksWithin}
use Rattle.response_laws.proofs.Linked.{Known, stages_known}
use Rattle.response_laws.proofs.SoundRuns.{all_charged, all_brief}
use Rattle.response_laws.proofs.Ticking.{ticks_end_in_time}

module _ (config : Config) (app : App) (image : Image) (weights : List BodyWeights) (load : List Entry) (arrivals : List Arrival) (n late longest counts : ℕ)
    (wf : WellFormed config app) (sound : Sound config app image) (weighed : Weighed config app image) (pace : InPace config app image) (has : AreCounts app weights)
    (item : IsLongestItem app longest) (are : AreComing (owners_in config) arrivals) (above : NoStretchIsAbove config app late) where
  abbrev events : List Stamped
  events = events_of image arrivals n

  abbrev size : ItemSizes
  size = length_of has.0

  run : IsSoundRun config app image arrivals n
  run = sound.each arrivals n are

  most : AreAtMost size longest
  most = item.none_longer has.0 has.1

  pacing : KeepsPace config app size longest n events
  pacing = (pace.paced has.0 has.1).each arrivals n longest are most

  leads : AreStepsTo config app events (opening config app) run.osek.0
  leads = follows_leads config app [] (opening config app) events run.osek.0 run.osek.1

  known : AllByRecursion (Known config app) (run_stages config app events)
  known = stages_known config app (facts config app wf) 0 (opening config app) run.osek.0 events (opening_ordered config app) (opening_valid config app) leads

  pub keeps_pace : HasPace n late (longest + late) events
  keeps_pace = record {
    brief = all_brief config app late events above (weighed.each arrivals n are) [] events (opening config app) run.osek.0 refl refl leads;
    reaches = λ some. let end = pacing.reaches_within late above.stretches some in omega (arith, end);
  }

  tick_in_time : HasDistances load → KeepDistances load arrivals → HasRoomForTicks config load longest late counts → TicksWithin n (longest + late) (counts + late) events
  tick_in_time distances keeps room =
      ticks_end_in_time config app size load n late (longest + late) longest counts arrivals events wf run.osek run.in_time keeps_pace (omega arith)
      (all_charged config app size longest most item.some late above (run_stages config app events) known (keeps_weights config app size longest n events run.osek pacing))
      (weighed.each arrivals n are) (shared.shares config app size longest n arrivals events wf run.osek run.in_time pacing) most
      (λ t lt. (pace.spent has.0 has.1).each arrivals n longest t are lt) distances keeps room

pub images_tick_in_time : ImagesTickInTime
images_tick_in_time config app image weights load arrivals n late longest counts wf sound weighed pace has item are above distances keeps room =
    tick_in_time config app image weights load arrivals n late longest counts wf sound weighed pace has item are above distances keeps room
