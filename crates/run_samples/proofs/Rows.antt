-- The lines of the first tasks, counters and alarms.
use Rattle.std.proofs.Common.{◌≡◌, ◌+◌, ℕ, List, [], ◌++◌, get_or, refl, ap}
use Rattle.std.proofs.Math.Numerals.{add-one}
use Rattle.sloth_base.specs.declared.image.Image.{Image}
use Rattle.sloth_inspect.specs.declared.service_words.ServiceWords.{ServiceWords}
use Rattle.sloth_runner.specs.declared.task_states.Seen.{Seen}
use Rattle.run_samples.specs.SystemText.{task_part, task_parts, counter_line, counter_lines, alarm_line, alarm_lines}

pub no-tasks : (image : Image) (seen : Seen) (words : ServiceWords) → task_parts image seen words 0 ≡ []
unfolding task_parts
no-tasks image seen words = refl

pub one-task-more : (image : Image) (seen : Seen) (words : ServiceWords) (k : ℕ)
    → task_parts image seen words (k + 1) ≡ task_parts image seen words k ++ task_part image seen words k
unfolding task_parts
one-task-more image seen words k = ap (task_parts image seen words) (add-one k)

pub no-counters : (image : Image) (words : ServiceWords) → counter_lines image words 0 ≡ []
unfolding counter_lines
no-counters image words = refl

pub one-counter-more : (image : Image) (words : ServiceWords) (k : ℕ)
    → counter_lines image words (k + 1) ≡ counter_lines image words k ++ counter_line (get_or image.counters k []) (get_or words.counters k 0)
unfolding counter_lines
one-counter-more image words k = ap (counter_lines image words) (add-one k)

pub no-alarms : (words : ServiceWords) → alarm_lines words 0 ≡ []
unfolding alarm_lines
no-alarms words = refl

pub one-alarm-more : (words : ServiceWords) (k : ℕ) → alarm_lines words (k + 1) ≡ alarm_lines words k ++ alarm_line k (get_or words.alarms k 0)
unfolding alarm_lines
one-alarm-more words k = ap (alarm_lines words) (add-one k)
