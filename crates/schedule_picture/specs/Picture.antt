-- The picture of a part of a run.
use Rattle.std.specs.Prelude.{ℕ, zero, suc, ◌+◌, ◌-◌, ◌==◌, ◌&&◌, ltb, leb, Bool, true, ◌≡◌, ◌≤◌, max, cond, if◌then◌else◌, List, [], ◌++◌, codes, filter, length, get_or}
use Rattle.std.specs.List.{flat_map}
use Rattle.sloth_base.specs.declared.service.Arrival.{Arrival}
use Rattle.sloth_base.specs.declared.image.Image.{Image}
use Rattle.sloth_runner.specs.declared.runner.RunEnd.TheVariants as ends
use Rattle.sloth_runner.specs.Runner.{run_end}
use Rattle.run_samples.specs.declared.samples.Sample.{Sample}
use Rattle.run_samples.specs.Samples.{AreSampledLevels, AreSamples}
use Rattle.lane_drawing.specs.declared.drawing.Bar.{Bar}
use Rattle.schedule_picture.specs.declared.picture.Picture.{Picture}
use Rattle.schedule_picture.specs.declared.picture.Picture.TheVariants as picture
use Rattle.lane_drawing.specs.Bars.{AreBars}
use Rattle.sloth_base.specs.Owners.{counter_line}
use Rattle.schedule_picture.specs.LaneLooks.{owned_lanes, look_of}
use Rattle.lane_drawing.specs.declared.scale.Scale.{Scale}
use Rattle.lane_drawing.specs.Drawing.{left_margin, head_lines, axis_lines, lane_line, bar_line, row_middle, is_above, legend_lines}
use Rattle.lane_drawing.specs.Arrivals.{arrival_line}
use Rattle.run_samples.specs.declared.admissions.Admission.{Admission}
use Rattle.run_samples.specs.Admissions.{run_admissions}
use Rattle.lane_drawing.specs.Marks.{arrow_line, expiry_line}
use Rattle.schedule_picture.specs.Items.{bar_words}
use Rattle.schedule_picture.specs.Marks.{run_marks, run_addresses}
use Rattle.schedule_picture.specs.declared.marks.Actor.{Actor}
use Rattle.schedule_picture.specs.declared.marks.Actor.TheVariants as actor
use Rattle.schedule_picture.specs.declared.marks.Mark.{Mark}
use Rattle.schedule_picture.specs.declared.marks.Sign.{Sign}
use Rattle.schedule_picture.specs.declared.marks.Sign.TheVariants as sign

-- the length of the longest of the first names, so many of them, and at least that of `kernel`
unfoldable pub longest_length : List (List ℕ) → ℕ → ℕ
longest_length names zero = 6
longest_length names (suc k) = max (longest_length names k) (length (get_or names k []))

-- the same of the names of all lanes
abbrev pub longest_name : Image → ℕ
longest_name image = max (longest_length image.tasks (length image.tasks)) (longest_length image.counters (length image.counters))

-- where the counts of a picture stand
abbrev pub picture_scale : Image → (from to : ℕ) → Scale
picture_scale image from to = record { left = left_margin (longest_name image); from = from; to = to }

-- how many of the first tasks, so many of them, stand above a task
unfoldable pub tasks_above : (levels : List ℕ) (task : ℕ) → ℕ → ℕ
tasks_above levels task zero = 0
tasks_above levels task (suc k) = tasks_above levels task k + cond (is_above levels k task) 1 0

-- what is drawn: an image's run with its arrivals and what came of them, its marks, the address of each count, the levels of the tasks' lines, where
-- the counts stand, and the bars of each lane
pub record Drawing : Type 0 where
  pub image : Image
  pub admissions : List Admission
  pub marks : List Mark
  pub addresses : List ℕ
  pub levels : List ℕ
  pub scale : Scale
  pub bars : (lane : ℕ) → List Bar

-- an arrival is of a line, in the counts of a picture
abbrev pub is_shown : Scale → (line : ℕ) → Admission → Bool
is_shown scale line a = (a.arrival.line == line) && (leb scale.from a.arrival.at && ltb a.arrival.at scale.to)

-- the arrivals of a line in the counts of a picture
abbrev pub shown_arrivals : Scale → List Admission → (line : ℕ) → List Admission
shown_arrivals scale admissions line = filter (is_shown scale line) admissions

-- one in the lane of a name
abbrev pub admission_line : Scale → (name : List ℕ) (middle : ℕ) → Admission → List ℕ
admission_line scale name middle a = arrival_line scale name middle a.arrival a.lost

-- bars, with further words in the title of each
abbrev pub bar_lines : Scale → (name : List ℕ) (middle : ℕ) → (words : Bar → List ℕ) → List Bar → List ℕ
bar_lines scale name middle words bars = flat_map (λ bar. bar_line scale name middle (words bar) bar) bars

-- a lane with its bars and arrivals
abbrev pub lane_text : Scale → (name : List ℕ) (middle : ℕ) → (words : Bar → List ℕ) → List Bar → List Admission → List ℕ
lane_text scale name middle words bars admissions =
    lane_line scale name middle ++ bar_lines scale name middle words bars ++ flat_map (admission_line scale name middle) admissions

-- the lane of a task, in the row behind all that stand above it; the bars of its own code name the first and the last item in them
unfoldable pub task_lane : Drawing → (task : ℕ) → List ℕ
task_lane d task =
    lane_text d.scale (get_or d.image.tasks task []) (row_middle (tasks_above d.levels task (length d.image.tasks)))
    (bar_words d.image d.addresses d.scale.from) (d.bars task)
    (shown_arrivals d.scale d.admissions task)

-- those of the first tasks, so many of them
unfoldable pub task_lanes : Drawing → ℕ → List ℕ
task_lanes d zero = []
task_lanes d (suc task) = task_lanes d task ++ task_lane d task

-- the lane of a counter, in the row behind those of all tasks and of the counters before it
unfoldable pub counter_lane : Drawing → (counter : ℕ) → List ℕ
counter_lane d counter =
    lane_text d.scale (get_or d.image.counters counter []) (row_middle (length d.image.tasks + counter)) (λ bar. []) (d.bars (length d.image.tasks + counter))
    (shown_arrivals d.scale d.admissions (counter_line counter))

-- those of the first counters, so many of them
unfoldable pub counter_lanes : Drawing → ℕ → List ℕ
counter_lanes d zero = []
counter_lanes d (suc counter) = counter_lanes d counter ++ counter_lane d counter

-- the lane of kernel code, below all others
abbrev pub kernel_lane : Drawing → List ℕ
kernel_lane d =
    lane_line d.scale (codes "kernel") (row_middle (owned_lanes d.image))
    ++ flat_map (bar_line d.scale (codes "kernel") (row_middle (owned_lanes d.image)) []) (d.bars (owned_lanes d.image))

-- the name and the row of who acts
abbrev pub actor_name : Image → Actor → List ℕ
actor_name image (actor.Task task) = get_or image.tasks task []
actor_name image (actor.Counter counter) = get_or image.counters counter []

abbrev pub actor_row : Image → (levels : List ℕ) → Actor → ℕ
actor_row image levels (actor.Task task) = tasks_above levels task (length image.tasks)
actor_row image levels (actor.Counter counter) = length image.tasks + counter

-- it is one of the image's
abbrev pub has_actor : Image → Actor → Bool
has_actor image (actor.Task task) = ltb task (length image.tasks)
has_actor image (actor.Counter counter) = ltb counter (length image.counters)

-- and so is the task that is woken or activated
abbrev pub has_object : Image → Sign → Bool
has_object image (sign.Wakes task) = ltb task (length image.tasks)
has_object image (sign.Activates task) = ltb task (length image.tasks)
has_object image (sign.Expires alarm) = true

-- a mark is of the image, in the counts of a picture
abbrev pub is_marked : Image → Scale → Mark → Bool
is_marked image scale mark =
    (leb scale.from mark.at && ltb mark.at scale.to) && (has_actor image mark.actor && has_object image mark.sign)

-- the height of the edge of a row's bars, so many pixels from its middle, on the side of another row
abbrev pub bar_edge : (row other height : ℕ) → ℕ
bar_edge row other height = if ltb row other then row_middle row + height else row_middle row - height

-- a line from the bars of who acts to those of a task, of which that of a Ready one is lower
abbrev pub arrow_between : Image → (levels : List ℕ) → Scale → (at : ℕ) → Actor → (does : List ℕ) → (task : ℕ) → List ℕ
arrow_between image levels scale at by does task =
    arrow_line scale at (actor_name image by) (bar_edge (actor_row image levels by) (tasks_above levels task (length image.tasks)) 12) does (get_or image.tasks task [])
    (bar_edge (tasks_above levels task (length image.tasks)) (actor_row image levels by) 6)

-- what is drawn of a mark at a count
abbrev pub sign_line : Image → (levels : List ℕ) → Scale → (at : ℕ) → Actor → Sign → List ℕ
sign_line image levels scale at by (sign.Wakes task) = arrow_between image levels scale at by (codes " wakes ") task
sign_line image levels scale at by (sign.Activates task) = arrow_between image levels scale at by (codes " activates ") task
sign_line image levels scale at by (sign.Expires alarm) = expiry_line scale at alarm (row_middle (actor_row image levels by))

abbrev pub mark_line : Image → (levels : List ℕ) → Scale → Mark → List ℕ
mark_line image levels scale mark = sign_line image levels scale mark.at mark.actor mark.sign

-- those of the image in the counts of the picture
abbrev pub mark_lines : Image → (levels : List ℕ) → Scale → List Mark → List ℕ
mark_lines image levels scale marks = flat_map (mark_line image levels scale) (filter (is_marked image scale) marks)

-- The text: the axis, a lane for each task, that of the highest level on top, one for each counter, a lane for kernel code, the marks, and what they mean.
abbrev pub picture_text : Drawing → List ℕ
picture_text d =
    head_lines d.scale (owned_lanes d.image + 1) ++ axis_lines d.scale (owned_lanes d.image + 1) ++ task_lanes d (length d.image.tasks)
    ++ counter_lanes d (length d.image.counters) ++ kernel_lane d ++ mark_lines d.image d.levels d.scale d.marks ++ legend_lines d.scale (owned_lanes d.image + 1) ++ codes "</svg>\n"

-- A text is the picture of a run from one count to below another: the run gets there, each lane has the bars of what it shows, arrivals are
-- marked as they were kept or lost, and so are wakings, activations and expiries.
pub record IsPictureOf (image : Image) (arrivals : List Arrival) (from to : ℕ) (text : List ℕ) : Type 0 where
  pub whole : run_end image arrivals to ≡ ends.Whole
  pub samples : List Sample
  pub counted : length samples ≡ to
  pub are_samples : AreSamples image arrivals 0 samples
  pub levels : List ℕ
  pub are_levels : AreSampledLevels image arrivals to levels
  pub bars : (lane : ℕ) → List Bar
  pub are_bars : (lane : ℕ) → lane ≤ owned_lanes image → AreBars (look_of image samples lane) from to (bars lane)
  pub is : text ≡ picture_text (record {
    image = image;
    admissions = run_admissions image arrivals samples from (to - from);
    marks = run_marks image arrivals samples from (to - from);
    addresses = run_addresses image arrivals samples from (to - from);
    levels = levels;
    scale = picture_scale image from to;
    bars = bars;
  })

-- the picture of a run, or where and why it stops in front of the last count
abbrev pub IsPicture : Image → List Arrival → (from to : ℕ) → Picture → Type 0
IsPicture image arrivals from to (picture.Text text) = IsPictureOf image arrivals from to text.items
IsPicture image arrivals from to (picture.Stopped halt) = run_end image arrivals to ≡ ends.Stopped halt.pc halt.stop
