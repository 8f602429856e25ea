-- What waves show of a count: its sample, and what the service words said when the tasks were seen.
use Rattle.std.specs.Prelude.{ℕ, ◌==◌, Bool, false, if◌then◌else◌, List, map, replicate, Option, Some, None}
use Rattle.sloth_base.specs.Limits.{task_limit, counter_limit, alarm_limit}
use Rattle.sloth_base.specs.declared.service.Arrival.{Arrival}
use Rattle.sloth_base.specs.declared.image.Image.{Image}
use Rattle.sloth_inspect.specs.declared.service_words.ServiceWords.{ServiceWords}
use Rattle.run_samples.specs.ServiceWords.{words_behind}
use Rattle.sloth_runner.specs.declared.task_states.Seen.{Seen}
use Rattle.run_samples.specs.declared.samples.Sample.{Sample}
use Rattle.wave_text.specs.declared.dump.Moment.{Moment}

-- words that say 0
abbrev pub no_words : ServiceWords
no_words = record { events = replicate task_limit 0; counters = replicate counter_limit 0; alarms = replicate alarm_limit 0 }

-- the service words at the count at which the tasks were seen: what `at .. all` prints of them
abbrev pub seen_words : Image → List Arrival → Option Seen → ServiceWords
seen_words image arrivals None = no_words
seen_words image arrivals (Some seen) = words_behind image arrivals seen.count

-- the moment of a sample
abbrev pub moment_of : Image → List Arrival → Sample → Moment
moment_of image arrivals sample = record { sample = sample; words = seen_words image arrivals sample.seen }

-- those of samples in turn
abbrev pub moments_of : Image → List Arrival → List Sample → List Moment
moments_of image arrivals samples = map (moment_of image arrivals) samples

-- ---- on the way

-- the tasks were seen at this count
abbrev pub is_open : Option Seen → (count : ℕ) → Bool
is_open None count = false
is_open (Some seen) count = seen.count == count

-- the words of a count, by those of the count before and those that it shows
abbrev pub words_behind_look : Sample → (count : ℕ) → (before now : ServiceWords) → ServiceWords
words_behind_look sample count before now = if is_open sample.seen count then now else before
