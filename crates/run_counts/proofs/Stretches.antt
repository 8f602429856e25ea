-- What limits every stretch behind boot that may come.
use Rattle.std.proofs.Common.{◌≡◌, ℕ, ◌+◌, ◌<◌, ◌≤◌, List, [], ◌∷◌, Bool, true, false, cond, length, ap, arith}
use Rattle.std.proofs.lemmas.Bool.{true≢false}
use Rattle.sloth_base.specs.declared.config.Config.{Config}
use Rattle.sloth_base.specs.declared.app.App.{App}
use Rattle.sloth_base.specs.declared.service.Event.{Event}
use Rattle.sloth_base.specs.declared.service.Event.TheVariants as event
use Rattle.sloth_base.specs.Events.{is_boot}
use Rattle.code_lengths.specs.LongestPaths.{tick_path}
use Rattle.osek_scheduler.specs.State.{Frame, System, task}
use Rattle.osek_scheduler.specs.Steps.{OsekStep}
use Rattle.osek_scheduler.proofs.Facts.{Facts}
use Rattle.bound_rules.specs.declared.bound.BodyWeights.{BodyWeights}
use Rattle.bound_rules.specs.Weights.{ending_weight}
use Rattle.sim_induction.specs.Events.{has_frames, left_counts, call_counts, enter_counts, stretch_counts}
use Rattle.sim_induction.specs.Pace.{ItemSizes, next_size_of}
use Rattle.sim_induction.specs.Paced.{AreStretchesWithin}
use Rattle.run_counts.specs.Spending.{WeighsItems}
use Rattle.run_counts.specs.Rounds.{next_going, next_ending, WeighsEndings}
use Rattle.run_counts.proofs.Owing.{debt}
use Rattle.run_counts.proofs.Rounded.{called_fits, left_fits}

module _ (config : Config) (app : App) (size : ItemSizes) (weights : List BodyWeights) (weighs : WeighsItems app size weights) (ends : WeighsEndings app size weights)
    (w : Facts config app) (limit : ℕ) (entries : (t : ℕ) → t < length config.tasks → enter_counts config app false t ≤ limit)
    (ticks : (c : ℕ) → c < length config.counters → tick_path config c ≤ limit) (items : (f i : ℕ) → ending_weight weights f i ≤ limit) (some : 4 ≤ limit) where
  -- either way of an entry
  entry_within : (resumed : Bool) (t : ℕ) → t < length config.tasks → enter_counts config app resumed t ≤ limit
  entry_within false t there = entries t there
  entry_within true t there = let le = entries t there in omega (arith, le)

  ending_within : (frames : List Frame) → next_ending weights frames ≤ limit
  ending_within [] = omega arith
  ending_within (frame ∷ outer) = items frame.func frame.item

  going_within : (frames : List Frame) → next_going weights frames ≤ limit
  going_within [] = omega arith
  going_within (frame ∷ outer) =
      let less = weighs.no_lighter frame.func frame.item in
      let le = items frame.func frame.item in
      omega (arith, less, le)

  within : (e : Event) (found next : System) → OsekStep config app e found next → is_boot e ≡ false → stretch_counts config app found e ≤ limit
  within event.Boot found next step later = absurd (true≢false later)
  within (event.Enter t) found next step later = entry_within (has_frames (task found t).frames) t step.1.declared
  within (event.Call t served status) found next step later =
      let fits = called_fits config app size 0 weights weighs ends w (next_size_of size (task found t) + call_counts served) t served status found next step (λ other behind. omega arith) in
      let le = going_within (task found t).frames in
      let free : debt t found ≡ 0 = ap (λ b. cond b 4 0) step.1.1.at.free in
      omega (arith, fits, le, free)
  within (event.Left t served) found next step later =
      let fits = left_fits config app size 0 weights weighs ends w (next_size_of size (task found t) + left_counts served) t served found next step (λ other behind. omega arith) in
      let le = ending_within (task found t).frames in
      omega (arith, fits, le)
  within (event.Back t) found next step later = omega (arith, some)
  within (event.Tick c) found next step later = ticks c step.1.declared
  within e found next step later = omega arith

  pub stretches_within : AreStretchesWithin config app limit
  stretches_within = record { some = omega (arith, some); each = within }
