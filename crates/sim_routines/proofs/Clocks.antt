-- The words of the clock behind a change of some of them.
use Rattle.std.proofs.Common.{◌≡◌, ℕ, zero, suc, ◌+◌, ◌%◌, ◌^◌, ◌<◌, ◌≤◌, List, [], ◌∷◌, length, ◌∙◌, arith, inr}
use Rattle.std.specs.Prelude.{◌≢◌, ◌/◌, slice_index, set}
use Rattle.std.proofs.lemmas.List.{length-set}
use Rattle.sloth_base.specs.MemoryMap.{memory_bytes}
use Rattle.sloth_region.specs.Layout.{idle_context, counter_value, alarm_left, alarm_cycle}
use Rattle.rv32_instr.specs.Ram.{word_at, with_word}
use Rattle.masked_code.proofs.Words.{word_at-same, get_or-with_word, length-with_word}
use Rattle.osek_scheduler.specs.declared.state.Alarm.{Alarm}
use Rattle.osek_scheduler.specs.declared.state.Counter.{Counter}
use Rattle.osek_scheduler.specs.State.{Clock, no_counter, no_alarm}
use Rattle.sim_relation.specs.Bounds.{AreBelow}
use Rattle.sim_relation.specs.Build.{Build, HasFittingPlaces}
use Rattle.sim_relation.specs.ClockStands.{ClockStands}
use Rattle.sim_relation.proofs.Parts.{by_element, word_other}

-- an alarm has these ticks left and this cycle
pub alarm_set : (b : Build) (old new : List ℕ) (clock : Clock) (a left cycle : ℕ) → HasFittingPlaces b → a < length b.config.alarms
    → word_at new (alarm_left a) ≡ left → word_at new (alarm_cycle a) ≡ cycle
    → ((p : ℕ) → p % 4 ≡ 0 → p ≢ alarm_left a → p ≢ alarm_cycle a → word_at new p ≡ word_at old p) → ClockStands b.config old clock
    → ClockStands b.config new (record clock { alarms = set clock.alarms a (record { left = left; cycle = cycle }) })
alarm_set b old new clock a left cycle fits there left_is cycle_is other k =
    let own : Alarm = record { left = left; cycle = cycle } in
    let few = fits.few_alarms in
    let counters = fits.few_counters in
    let inside : a < length clock.alarms = let l = k.alarms in omega (arith, l, there) in
    record {
      counters = k.counters;
      alarms = length-set clock.alarms a own ∙ k.alarms;
      values = λ i h. other (counter_value i) (omega arith) (λ e. omega (arith, counters, h, e)) (λ e. omega (arith, counters, h, e)) ∙ k.values i h;
      left = by_element (λ i (x : Alarm). i < length b.config.alarms → word_at new (alarm_left i) ≡ x.left) clock.alarms a own no_alarm inside (λ h. left_is)
          (λ i n h. other (alarm_left i) (omega arith) (λ e. n (omega (arith, e))) (λ e. omega (arith, e)) ∙ k.left i h);
      cycles = by_element (λ i (x : Alarm). i < length b.config.alarms → word_at new (alarm_cycle i) ≡ x.cycle) clock.alarms a own no_alarm inside (λ h. cycle_is)
          (λ i n h. other (alarm_cycle i) (omega arith) (λ e. omega (arith, e)) (λ e. n (omega (arith, e))) ∙ k.cycles i h);
    }

-- a counter is this one
pub counter_set : (b : Build) (old new : List ℕ) (clock : Clock) (c : ℕ) (own : Counter) → HasFittingPlaces b → c < length b.config.counters
    → word_at new (counter_value c) ≡ own.value → ((p : ℕ) → p % 4 ≡ 0 → p ≢ counter_value c → word_at new p ≡ word_at old p) → ClockStands b.config old clock
    → ClockStands b.config new (record clock { counters = set clock.counters c own })
counter_set b old new clock c own fits there value_is other k =
    let few = fits.few_counters in
    let inside : c < length clock.counters = let l = k.counters in omega (arith, l, there) in
    record {
      counters = length-set clock.counters c own ∙ k.counters;
      alarms = k.alarms;
      values = by_element (λ i (x : Counter). i < length b.config.counters → word_at new (counter_value i) ≡ x.value) clock.counters c own no_counter inside (λ h. value_is)
          (λ i n h. other (counter_value i) (omega arith) (λ e. n (omega (arith, e))) ∙ k.values i h);
      left = λ i h. other (alarm_left i) (omega arith) (λ e. omega (arith, e, few, there)) ∙ k.left i h;
      cycles = λ i h. other (alarm_cycle i) (omega arith) (λ e. omega (arith, e, few, there)) ∙ k.cycles i h;
    }

-- ---- bytes

set_below : (bound : ℕ) (xs : List ℕ) (k v : ℕ) → AreBelow bound xs → v < bound → AreBelow bound (set xs k v)
set_below bound [] k v h l i = h i
set_below bound (x ∷ xs) zero v h l zero = l
set_below bound (x ∷ xs) zero v h l (suc i) = h (suc i)
set_below bound (x ∷ xs) (suc k) v h l zero = h zero
set_below bound (x ∷ xs) (suc k) v h l (suc i) = set_below bound xs k v (λ j. h (suc j)) l i

-- a word is bytes
pub word_bytes : (ram : List ℕ) (o v : ℕ) → AreBelow 256 ram → AreBelow 256 (with_word ram o v)
unfolding with_word
word_bytes ram o v h =
    set_below 256 _ (o + 3) (v / 16777216 % 256) (set_below 256 _ (o + 2) (v / 65536 % 256) (set_below 256 _ (o + 1) (v / 256 % 256)
    (set_below 256 ram o (v % 256) h (omega arith)) (omega arith)) (omega arith)) (omega arith)

-- ---- one word of the service words has changed

pub record OneWord (place v : ℕ) (old new : List ℕ) : Type 0 where
  pub long : length new ≡ length old
  pub high : (i : ℕ) → idle_context ≤ i → slice_index new i ≡ slice_index old i
  pub other : (p : ℕ) → p % 4 ≡ 0 → p ≢ place → word_at new p ≡ word_at old p
  pub is : word_at new place ≡ v
  pub bytes : AreBelow 256 new

-- a word is written
pub written : (place v : ℕ) (old : List ℕ) → place % 4 ≡ 0 → place + 4 ≤ idle_context → v < 2 ^ 32 → length old ≡ memory_bytes → AreBelow 256 old
    → OneWord place v old (with_word old place v)
written place v old aligned low small long bytes = record {
  long = length-with_word old place v;
  high = λ i h. get_or-with_word old place v i (inr (omega arith));
  other = λ p a n. word_other old place v p a aligned n;
  is = word_at-same old place v (omega arith) small;
  bytes = word_bytes old place v bytes;
}

-- and again
pub twice : (place v w : ℕ) (old mid new : List ℕ) → OneWord place v old mid → OneWord place w mid new → OneWord place w old new
twice place v w old mid new f s = record {
  long = s.long ∙ f.long;
  high = λ i h. s.high i h ∙ f.high i h;
  other = λ p a n. s.other p a n ∙ f.other p a n;
  is = s.is;
  bytes = s.bytes;
}
