-- What is printed of the requests of a run.
use Rattle.std.specs.Prelude.{ℕ, zero, suc, List, [], ◌++◌, codes, decimal, get_or, length, Option, Some, None}
use Rattle.sloth_base.specs.Owners.{counter_line}
use Rattle.sloth_base.specs.declared.image.Image.{Image}
use Rattle.losses_text.specs.RequestCounts.{came_count, taken_count, lost_count, first_lost}
use Rattle.losses_text.specs.declared.requests.Request.{Request}

-- the count of the first request that was lost, behind one space, if one was
abbrev pub first_text : Option Request → List ℕ
first_text None = []
first_text (Some first) = codes " " ++ decimal first.at

-- the line of a task or counter: how many requests of it came, were taken and were lost, and the count of the first that was lost, if one was
unfoldable pub count_line : List ℕ → List Request → ℕ → List ℕ
count_line name all line =
    name ++ codes " " ++ decimal (came_count all line) ++ codes " " ++ decimal (taken_count all line) ++ codes " " ++ decimal (lost_count all line)
    ++ first_text (first_lost all line) ++ codes "\n"

-- the lines of the first tasks, so many of them
unfoldable pub task_counts : Image → List Request → ℕ → List ℕ
task_counts image all zero = []
task_counts image all (suc t) = task_counts image all t ++ count_line (get_or image.tasks t []) all t

-- those of the first counters
unfoldable pub counter_counts : Image → List Request → ℕ → List ℕ
counter_counts image all zero = []
counter_counts image all (suc c) = counter_counts image all c ++ count_line (get_or image.counters c []) all (counter_line c)

-- a line for each task, then one for each counter
abbrev pub requests_text : Image → List Request → List ℕ
requests_text image all = task_counts image all (length image.tasks) ++ counter_counts image all (length image.counters)
