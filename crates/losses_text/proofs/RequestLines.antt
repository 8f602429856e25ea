-- The lines of the first tasks and counters.
use Rattle.std.proofs.Common.{◌≡◌, ◌+◌, ℕ, List, [], ◌++◌, get_or, refl, ap}
use Rattle.std.proofs.Math.Numerals.{add-one}
use Rattle.sloth_base.specs.Owners.{counter_line}
use Rattle.sloth_base.specs.declared.image.Image.{Image}
use Rattle.losses_text.specs.declared.requests.Request.{Request}
use Rattle.losses_text.specs.RequestsText.{count_line, task_counts, counter_counts}

pub no-tasks : (image : Image) (all : List Request) → task_counts image all 0 ≡ []
unfolding task_counts
no-tasks image all = refl

pub one-task-more : (image : Image) (all : List Request) (k : ℕ) → task_counts image all (k + 1) ≡ task_counts image all k ++ count_line (get_or image.tasks k []) all k
unfolding task_counts
one-task-more image all k = ap (task_counts image all) (add-one k)

pub no-counters : (image : Image) (all : List Request) → counter_counts image all 0 ≡ []
unfolding counter_counts
no-counters image all = refl

pub one-counter-more : (image : Image) (all : List Request) (k : ℕ) → counter_counts image all (k + 1) ≡ counter_counts image all k ++ count_line (get_or image.counters k []) all (counter_line k)
unfolding counter_counts
one-counter-more image all k = ap (counter_counts image all) (add-one k)
