-- What holds of a run from the start, and what follows from it.
use Rattle.std.proofs.Common.{◌≡◌, ℕ, zero, suc, ◌+◌, ◌<◌, ◌≤◌, List, [], ◌∷◌, length, subst, arith, Some, true, false, nat_le, nat_lt}
use Rattle.std.specs.Prelude.{All, AllPairs, ◌&&◌}
use Rattle.sloth_base.specs.declared.config.Config.{Config}
use Rattle.sloth_base.specs.declared.app.App.{App}
use Rattle.sloth_base.specs.declared.image.Image.{Image}
use Rattle.sloth_base.specs.declared.service.Arrival.{Arrival}
use Rattle.sloth_base.specs.declared.service.Stamped.{Stamped}
use Rattle.sloth_base.specs.Machine.{State}
use Rattle.sloth_base.specs.Arrivals.{moments}
use Rattle.sloth_base.specs.Stretches.{longest_stretch}
use Rattle.rv32_machine.specs.Run.{state_after_from}
use Rattle.rv32_machine.specs.Start.{start}
use Rattle.rv32_machine.proofs.Runs.{stop_none}
use Rattle.observe.specs.Pieces.{RunPiece, pieces, cut_off_steps}
use Rattle.std.specs.List.{AllByRecursion}
use Rattle.observe.specs.Observe.{view_of_image}
use Rattle.osek_scheduler.specs.State.{System, opening}
use Rattle.osek_scheduler.specs.Runs.{AreStepsBehind}
use Rattle.osek_scheduler.specs.InTime.{InTime, IsStamped, is_admit, admits_at, arrivals_at, IsOrdered, KeepsOrder, longest_cut_off_stretch}
use Rattle.sim_induction.specs.Short.{Short, AreShort, IsShortPiece, HasShortGaps}
use Rattle.sim_induction.specs.Sound.{IsSoundRun, events_of}
use Rattle.osek_blocking.specs.Pace.{last_count}
use Rattle.sim_induction.specs.Pace.{ItemSizes, AreAtMost}
use Rattle.sim_induction.specs.Weighed.{AreWeighedTo, AreWithinWeights}
use Rattle.sim_induction.specs.Paced.{ArePacedTo, AreStretchesWithin, KeepsPace}
use Rattle.sim_induction.specs.Admits.{Setting, IsSetting}
use Rattle.sim_induction.specs.Advances.{EachPair, IsInCounts}
use Rattle.sim_induction.specs.PieceLaws.{Passed}
use Rattle.sim_induction.specs.Spent.{SpendsOnItems}
use Rattle.sim_induction.specs.Related.{IsSimulation}
use Rattle.sim_induction.proofs.Events.{each_map}
use Rattle.std.proofs.lemmas.List.Elements.{All-from_recursion}
use Rattle.sim_induction.proofs.Schedule.{from_zero}
use Rattle.sim_induction.proofs.Order.{order_within}
use Rattle.sim_induction.proofs.LeftOut.{left_out}
use Rattle.sim_induction.proofs.Runs.{steps_from}
use Rattle.sim_induction.proofs.RunFrom.{events_from, ReachedAt, HasSpentTo}
use Rattle.sim_induction.proofs.Weighing.{found_within}
use Rattle.sim_induction.proofs.Pacing.{found_paced}

pub record WholeRun (given : Setting) (R : Passed → State → System → Type 0) (n : ℕ) (m : State) : Type 0 where
  pub end : State
  pub whole : state_after_from n given.arrivals 0 m ≡ Some end
  pub last : System
  pub follows : AreStepsBehind given.config given.app [] (opening given.config given.app) (events_from given n 0 m) last
  pub weighed : AreWeighedTo given.config given.app (events_from given n 0 m) (opening given.config given.app) last
  pub paced : (longest : ℕ) → AreAtMost given.size longest → ArePacedTo given.config given.app given.size longest 0 (events_from given n 0 m) (opening given.config given.app) last
  pub reaches : (longest : ℕ) → AreAtMost given.size longest → 0 < length (events_from given n 0 m)
      → n ≤ last_count 0 (events_from given n 0 m) + longest + longest_stretch given.config
  pub reaches_within : (longest : ℕ) → AreAtMost given.size longest → (heaviest : ℕ) → AreStretchesWithin given.config given.app heaviest
      → 0 < length (events_from given n 0 m) → n ≤ last_count 0 (events_from given n 0 m) + longest + heaviest
  pub spends : (t : ℕ) → t < length given.config.tasks → HasSpentTo given t 0 0 (events_from given n 0 m) (opening given.config given.app) last
  pub within : AllByRecursion (IsInCounts 0 n) (events_from given n 0 m)
  pub placed : EachPair IsOrdered (events_from given n 0 m)
  pub to : ℕ
  pub to_in : (to ≤ n) × (n < to + longest_cut_off_stretch given.config (events_from given n 0 m))
  pub ends : AllByRecursion (λ e. is_admit e ≡ false → e.stamp.at < to) (events_from given n 0 m)
  pub counted : (i t : ℕ) → admits_at i t (events_from given n 0 m) ≡ arrivals_at i t (moments 0 to given.arrivals)
  pub keeps : KeepsOrder (moments 0 to given.arrivals) (events_from given n 0 m)
  pub short : AllByRecursion (IsShortPiece given.config) (pieces [] (steps_from n given.arrivals 0 m))
  pub short_cut : AreShort given.config (cut_off_steps [] (steps_from n given.arrivals 0 m))
  pub gaps : HasShortGaps given.view 0 (pieces [] (steps_from n given.arrivals 0 m))
  pub mirrors : (i : ℕ) → i < n → (x : State) → state_after_from i given.arrivals 0 m ≡ Some x → x.core.mie ≡ true → ReachedAt given R (events_from given n 0 m) (opening given.config given.app) i x

all_pieces : (P : RunPiece → Type 0) (a : List RunPiece) → AllByRecursion P a → All P a
all_pieces P [] h k d lt = absurd (omega arith)
all_pieces P (x ∷ a) h zero d lt = h.0
all_pieces P (x ∷ a) h (suc k) d lt = all_pieces P a h.1 k d (omega arith)

all_pairs : (R : Stamped → Stamped → Type 0) (a : List Stamped) → EachPair R a → AllPairs R a
all_pairs R [] h i j d l k = absurd (omega arith)
all_pairs R (x ∷ a) h i zero d l k = absurd (omega arith)
all_pairs R (x ∷ a) h zero (suc j) d l k = All-from_recursion (R x) a h.0 j d (omega arith)
all_pairs R (x ∷ a) h (suc i) (suc j) d l k = all_pairs R a h.1 i j d (omega arith) (omega arith)

pub in_time : (given : Setting) → IsSetting given → (R : Passed → State → System → Type 0) (n : ℕ) (m : State) → WholeRun given R n m → InTime given.config n given.arrivals (events_from given n 0 m)
in_time given setting R n m w =
    let events = events_from given n 0 m in
    record {
      stamped = All-from_recursion (IsStamped n) events (each_map (IsInCounts 0 n) (IsStamped n) (λ e h. record { ordered = h.ordered; spans = h.spans; below = h.ends }) events w.within);
      placed = all_pairs IsOrdered events w.placed;
      in_order = order_within (λ a. nat_le 0 a.at && nat_lt a.at w.to) given.arrivals events w.keeps;
      admitted = left_out given.config n w.to given.arrivals events (from_zero given.arrivals setting.ordered) w.to_in.0 w.counted w.ends w.to_in.1;
    }

pub short_of : (given : Setting) (R : Passed → State → System → Type 0) (n : ℕ) (m : State) → WholeRun given R n m → Short given.config given.view (steps_from n given.arrivals 0 m)
short_of given R n m w = record {
  finished = all_pieces (IsShortPiece given.config) (pieces [] (steps_from n given.arrivals 0 m)) w.short;
  cut = w.short_cut;
  gaps = w.gaps;
}

-- how a run of an image is observed
abbrev pub setting_of : Config → App → ItemSizes → Image → List Arrival → Setting
setting_of config app size image arrivals = record { config = config; app = app; size = size; view = view_of_image image; arrivals = arrivals }

pub sound_of : (config : Config) (app : App) (size : ItemSizes) (image : Image) (arrivals : List Arrival) (R : Passed → State → System → Type 0) (progress : State → System → ℕ)
    → IsSetting (setting_of config app size image arrivals) → IsSimulation (setting_of config app size image arrivals) R progress → (n : ℕ) → WholeRun (setting_of config app size image arrivals) R n (start image)
    → IsSoundRun config app image arrivals n
sound_of config app size image arrivals R progress setting simulation n w = record {
  whole = stop_none n arrivals 0 (start image) w.end w.whole;
  osek = (w.last, w.follows);
  in_time = in_time (setting_of config app size image arrivals) setting R n (start image) w;
  short = short_of (setting_of config app size image arrivals) R n (start image) w;
  mirrors = λ count state l after enabled. let z = w.mirrors count l state after enabled in (z.0, z.1, simulation.mirrors z.2.0 _ z.0 z.2.1);
}

pub weighed_of : (config : Config) (app : App) (size : ItemSizes) (image : Image) (arrivals : List Arrival) (R : Passed → State → System → Type 0) (n : ℕ) → WholeRun (setting_of config app size image arrivals) R n (start image)
    → AreWithinWeights config app (events_of image arrivals n)
weighed_of config app size image arrivals R n w = λ before behind e found is leads.
    found_within config app before behind e (opening config app) w.last found
    (subst (λ events. AreWeighedTo config app events (opening config app) w.last) is w.weighed) leads

pub paced_of : (config : Config) (app : App) (size : ItemSizes) (image : Image) (arrivals : List Arrival) (R : Passed → State → System → Type 0) (n longest : ℕ) → AreAtMost size longest
    → WholeRun (setting_of config app size image arrivals) R n (start image) → KeepsPace config app size longest n (events_of image arrivals n)
paced_of config app size image arrivals R n longest most w = record {
  each = λ before behind e found is leads.
      found_paced config app size longest before behind e 0 (opening config app) w.last found
      (subst (λ events. ArePacedTo config app size longest 0 events (opening config app) w.last) is (w.paced longest most)) leads;
  reaches = λ some. w.reaches longest most some;
  reaches_within = λ heaviest stretches some. w.reaches_within longest most heaviest stretches some;
}

pub spent_of : (config : Config) (app : App) (size : ItemSizes) (image : Image) (arrivals : List Arrival) (R : Passed → State → System → Type 0) (n longest t : ℕ)
    → t < length config.tasks → WholeRun (setting_of config app size image arrivals) R n (start image) → SpendsOnItems config app size longest t (events_of image arrivals n)
spent_of config app size image arrivals R n longest t declared w =
    let spends = w.spends t declared in
    record { last = w.last; to = spends.to; left = spends.left; each = spends.leads longest }
