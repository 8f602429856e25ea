-- The runs of an image respond in time, by what its builder promises of them.
use Rattle.std.proofs.Common.{ℕ, ◌+◌, ◌<◌, List, [], length, Bool, refl, arith, ◌≡◌, true, Some}
use Rattle.std.specs.List.{AllByRecursion}
use Rattle.sloth_base.specs.declared.config.Config.{Config}
use Rattle.sloth_base.specs.declared.app.App.{App}
use Rattle.sloth_base.specs.declared.service.Stamped.{Stamped}
use Rattle.code_rules.specs.WellFormed.{WellFormed}
use Rattle.load_text.specs.declared.load_line.Entry.{Entry}
use Rattle.osek_scheduler.specs.State.{opening}
use Rattle.osek_scheduler.specs.Runs.{AreStepsTo}
use Rattle.osek_scheduler.proofs.Facts.{facts}
use Rattle.osek_scheduler.proofs.Leading.{follows_leads}
use Rattle.osek_scheduler.proofs.Steps.{opening_valid}
use Rattle.osek_blocking.proofs.Ordering.{opening_ordered}
use Rattle.bound_rules.specs.declared.bound.BodyWeights.{BodyWeights}
use Rattle.sim_induction.specs.Items.{length_of}
use Rattle.sim_induction.specs.Pace.{ItemSizes, AreAtMost}
use Rattle.sim_induction.proofs.BodyLengths.{short}
use Rattle.sim_induction.specs.Paced.{KeepsPace, InPace}
use Rattle.sim_induction.specs.Sound.{AreComing, Sound, IsSoundRun, events_of}
use Rattle.sim_induction.specs.Spent.{SpendsOnItems}
use Rattle.sim_induction.specs.Weighed.{Weighed}
use Rattle.run_counts.specs.Laws.{IsWithinWeights}
use Rattle.run_counts.specs.Spending.{WeighsItems}
use Rattle.run_counts.specs.Stages.{run_stages}
use Rattle.run_counts.specs.Rounds.{WeighsEndings}
use Rattle.run_counts.proofs.Counted.{counts_weigh, counts_end}
use Rattle.run_counts.proofs.Shared as shared
use Rattle.run_counts.proofs.Staged.{keeps_weights}
use Rattle.sloth_base.specs.declared.service.Arrival.{Arrival}
use Rattle.sloth_base.specs.declared.image.Image.{Image}
use Rattle.sloth_base.specs.Owners.{owners_in}
use Rattle.code_rules.specs.AppRange.{IsTaskCode}
use Rattle.load_text.specs.Loads.{KeepDistances}
use Rattle.run_counts.specs.Counts.{AreCounts}
use Rattle.response_laws.specs.CodeStarts.{FitsStarts}
use Rattle.response_laws.specs.Starts.{HaveStarts}
use Rattle.response_laws.specs.Expiries.{MarksAlarms, HasExpiries}
use Rattle.response_laws.specs.Loaded.{HasAlarms, IsStartFor}
use Rattle.response_laws.specs.Response.{RespondsWithin, EntersOnce}
use Rattle.response_laws.specs.Demand.{Costs, Start}
use Rattle.response_laws.specs.Arrivals.{HasDistances}
use Rattle.response_laws.specs.Bounded.{BoundsJoining}
use Rattle.response_laws.specs.SoundRuns.{item_instructions, NoStretchIsAbove, KeepsWork, FitsRounds, FitsJoined, ImagesRespond, ImagesRespondByCode}
use Rattle.response_laws.specs.Never.{AreClosed, OthersSleep, NoneComes}
use Rattle.response_laws.proofs.Never.{others_never_come}
use Rattle.response_laws.proofs.Linked.{Known, each_so, stages_known}
use Rattle.response_laws.proofs.Loaded.{respond_under_load}
use Rattle.response_laws.proofs.Expiring.{ticks_make_as_alarms_expire}
use Rattle.response_laws.proofs.CodeStarts.{code_fits_starts}
use Rattle.response_laws.proofs.LowerSpending.{lower_spend}
use Rattle.response_laws.proofs.SoundRuns.{all_charged, bounds_rounds, bounds_joined, all_brief}

-- an image, whose longest item has so many instructions
module _ (config : Config) (app : App) (image : Image) (weights : List BodyWeights) (load : List Entry) (comes : ℕ → Bool) (arrivals : List Arrival) (n late longest h r : ℕ)
    (cuts : ℕ → Bool) (costs : Costs) (once boot : Bool) (starts : ℕ) (start : ℕ → Start) (enters : once ≡ true → EntersOnce config h cuts) (wf : WellFormed config app) (sound : Sound config app image)
    (weighed : Weighed config app image) (pace : InPace config app image) (counts : AreCounts app weights) (positive : 0 < longest)
    (most : AreAtMost (length_of counts.0) longest) (code : IsTaskCode app) (are : AreComing (owners_in config) arrivals) where
  abbrev events : List Stamped
  events = events_of image arrivals n

  abbrev size : ItemSizes
  size = length_of counts.0

  run : IsSoundRun config app image arrivals n
  run = sound.each arrivals n are

  pacing : KeepsPace config app size longest n events
  pacing = (pace.paced counts.0 counts.1).each arrivals n longest are most

  within : AllByRecursion (IsWithinWeights config app size longest) (run_stages config app events)
  within = keeps_weights config app size longest n events run.osek pacing

  weighs : WeighsItems app size weights
  weighs = counts_weigh app counts.0 counts.1 (short app code counts.0 counts.1) weights counts.2

  ends : WeighsEndings app size weights
  ends = counts_end app counts.0 weights counts.2

  leads : AreStepsTo config app events (opening config app) run.osek.0
  leads = follows_leads config app [] (opening config app) events run.osek.0 run.osek.1

  spends : (t : ℕ) → t < length config.tasks → SpendsOnItems config app size longest t events
  spends t lt = (pace.spent counts.0 counts.1).each arrivals n longest t are lt

  known : AllByRecursion (Known config app) (run_stages config app events)
  known = stages_known config app (facts config app wf) 0 (opening config app) run.osek.0 events (opening_ordered config app) (opening_valid config app) leads

  -- tasks that do not come sleep all along
  sleeps : KeepDistances load arrivals → AreClosed config app load comes → AllByRecursion (λ x. OthersSleep comes x.found) (run_stages config app events)
  sleeps keeps closed =
      each_so (λ x. NoneComes config app load comes x.found × NoneComes config app load comes x.next) (λ x. OthersSleep comes x.found) (λ x none. none.0.asleep) (run_stages config app events)
      (others_never_come config app load comes n arrivals events wf run.osek run.in_time keeps closed)

  responds : NoStretchIsAbove config app late → HasDistances load → KeepDistances load arrivals → AreClosed config app load comes → KeepsWork config load cuts (run_stages config app events)
      → FitsRounds config app weights load comes h cuts costs → HaveStarts config h longest late once starts start (run_stages config app events)
      → ((i : ℕ) → i < starts → IsStartFor config load late (longest + late) h r cuts once boot costs (run_stages config app events) (start i))
      → RespondsWithin config app n (longest + late) h r boot events
  responds above distances keeps closed works rounds have fit =
      respond_under_load config app load n late (longest + late) (longest + late) longest arrivals events h r cuts costs once boot starts start enters wf run.osek run.in_time
      (record {
        brief = all_brief config app late events above (weighed.each arrivals n are) [] events (opening config app) run.osek.0 refl refl leads;
        reaches = λ some. let end = pacing.reaches_within late above.stretches some in omega (arith, end);
      })
      (omega arith) (all_charged config app size longest most positive late above (run_stages config app events) known within)
      distances keeps (shared.shares config app size longest n arrivals events wf run.osek run.in_time pacing)
      (lower_spend config app size longest n h arrivals events wf run.osek run.in_time most spends)
      (bounds_rounds config app size longest n weights load arrivals events h cuts costs wf run.osek run.in_time (weighed.each arrivals n are) spends weighs ends works comes known
      (sleeps keeps closed) rounds)
      have fit

  have_starts : KeepDistances load arrivals → AreClosed config app load comes → KeepsWork config load cuts (run_stages config app events) → FitsStarts config app longest late weights load cuts comes h once starts start → HaveStarts config h longest late once starts start (run_stages config app events)
  have_starts keeps closed works fits =
      code_fits_starts config app size longest late n weights load cuts comes arrivals events h once starts start wf run.osek run.in_time most spends within weighs ends (sleeps keeps closed) works fits

  joins : KeepDistances load arrivals → AreClosed config app load comes → KeepsWork config load cuts (run_stages config app events) → FitsRounds config app weights load comes h cuts costs
      → (s : Start) → ((b : ℕ) → s.joins ≡ Some b → FitsJoined config app comes h cuts costs b) → BoundsJoining config h cuts costs (run_stages config app events) s
  joins keeps closed works rounds s fit b is =
      bounds_joined config app size longest n weights load arrivals events h cuts costs wf run.osek run.in_time (weighed.each arrivals n are) spends weighs ends works comes known
      (sleeps keeps closed) rounds b (fit b is)

  alarms : (is_set : ℕ → Bool) (s : Start) → MarksAlarms app is_set → HasExpiries config is_set s → HasAlarms (run_stages config app events) s
  alarms is_set s marks has = ticks_make_as_alarms_expire config app events is_set s wf run.osek marks has

pub images_respond : ImagesRespond
images_respond config app image weights load comes arrivals n late h r cuts costs once boot starts start enters wf code sound weighed pace counts are above positive keeps closed works rounds have fit =
    responds config app image weights load comes arrivals n late item_instructions h r cuts costs once boot starts start enters wf sound weighed pace counts (omega arith)
    (short app code counts.0 counts.1) code are above positive keeps closed works rounds have fit

pub images_respond_by_code : ImagesRespondByCode
images_respond_by_code config app image weights load comes arrivals n late longest h r cuts is_set costs once boot starts start enters wf code sound weighed pace counts marks is_longest are above positive keeps closed works rounds
    fits each =
    let most = is_longest.none_longer counts.0 counts.1 in
    responds config app image weights load comes arrivals n late longest h r cuts costs once boot starts start enters wf sound weighed pace counts is_longest.some most code are
    above positive keeps closed works rounds
    (have_starts config app image weights load comes arrivals n late longest h r cuts costs once boot starts start enters wf sound weighed pace counts is_longest.some most code are keeps closed works fits)
    (λ i lt. record {
      arrivals = (each i lt).arrivals;
      alarms = alarms config app image weights load comes arrivals n late longest h r cuts costs once boot starts start enters wf sound weighed pace counts is_longest.some most code are
          is_set (start i) marks (each i lt).expiries;
      joining = joins config app image weights load comes arrivals n late longest h r cuts costs once boot starts start enters wf sound weighed pace counts is_longest.some most code are
          keeps closed works rounds (start i) (each i lt).joining;
      enough = (each i lt).enough;
      lasts = (each i lt).lasts;
    })
