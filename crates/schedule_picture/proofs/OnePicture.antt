-- A run has one picture from one count to below another.
use Rattle.std.proofs.Common.{◌≡◌, ◌≤◌, ◌<◌, ◌+◌, ◌-◌, ◌∙◌, ◌++◌, zero, suc, ℕ, List, [], Some, length, get_or, refl, sym, ap, subst, arith}
use Rattle.sloth_base.specs.declared.service.Arrival.{Arrival}
use Rattle.sloth_base.specs.declared.image.Image.{Image}
use Rattle.sloth_base.specs.Machine.{State}
use Rattle.sloth_base.specs.Owners.{counter_line}
use Rattle.sloth_runner.specs.TaskStates.{task_levels}
use Rattle.run_samples.specs.declared.admissions.Admission.{Admission}
use Rattle.run_samples.specs.declared.samples.Sample.{Sample}
use Rattle.run_samples.specs.Admissions.{run_admissions}
use Rattle.run_samples.specs.Samples.{AreSampledLevels}
use Rattle.run_samples.proofs.OneSample.{one-samples}
use Rattle.lane_drawing.specs.declared.drawing.Bar.{Bar}
use Rattle.lane_drawing.specs.declared.scale.Scale.{Scale}
use Rattle.lane_drawing.specs.Bars.{AreBars}
use Rattle.std.specs.Prelude.{codes}
use Rattle.std.specs.List.{flat_map}
use Rattle.lane_drawing.specs.Drawing.{head_lines, axis_lines, lane_line, bar_line, row_middle, legend_lines}
use Rattle.lane_drawing.proofs.Growing.{one_bars}
use Rattle.schedule_picture.specs.LaneLooks.{owned_lanes, look_of}
use Rattle.schedule_picture.specs.Picture.{Drawing, IsPictureOf, picture_scale, lane_text, shown_arrivals, tasks_above, task_lane, task_lanes, counter_lane, counter_lanes, mark_lines, picture_text}
use Rattle.schedule_picture.specs.Items.{bar_words}
use Rattle.schedule_picture.specs.Marks.{run_marks, run_addresses}
use Rattle.schedule_picture.specs.declared.marks.Mark.{Mark}

-- the levels of a count
one_levels : (image : Image) (A : List Arrival) (k : ℕ) (xs ys : List ℕ) → AreSampledLevels image A k xs → AreSampledLevels image A k ys → xs ≡ ys
one_levels image A k xs ys h i =
    let found : Some h.state ≡ Some i.state = sym h.after ∙ i.after in
    let state : h.state ≡ i.state = cc in
    h.are ∙ ap (λ (s : State). task_levels image s) state ∙ sym i.are

module _ (image : Image) (A : List Admission) (marks : List Mark) (addresses levels : List ℕ) (scale : Scale) where
  -- the drawing with these bars in its lanes
  abbrev drawing : ((lane : ℕ) → List Bar) → Drawing
  drawing bars = record { image = image; admissions = A; marks = marks; addresses = addresses; levels = levels; scale = scale; bars = bars }

  -- a lane of a task is told by its own bars
  same_task : (b c : (lane : ℕ) → List Bar) (task : ℕ) → b task ≡ c task → task_lane (drawing b) task ≡ task_lane (drawing c) task
  unfolding task_lane
  same_task b c task e =
      ap (λ bars. lane_text scale (get_or image.tasks task []) (row_middle (tasks_above levels task (length image.tasks))) (bar_words image addresses scale.from) bars (shown_arrivals scale A task)) e

  same_lanes : (b c : (lane : ℕ) → List Bar) (k : ℕ) → ((lane : ℕ) → lane < k → b lane ≡ c lane) → task_lanes (drawing b) k ≡ task_lanes (drawing c) k
  unfolding task_lanes
  same_lanes b c zero same = refl
  same_lanes b c (suc k) same =
      ap (λ l. l ++ task_lane (drawing b) k) (same_lanes b c k (λ lane below. same lane (omega (arith, below))))
      ∙ ap (λ t. task_lanes (drawing c) k ++ t) (same_task b c k (same k (omega arith)))

  -- and so is one of a counter
  same_counter : (b c : (lane : ℕ) → List Bar) (counter : ℕ) → b (length image.tasks + counter) ≡ c (length image.tasks + counter)
      → counter_lane (drawing b) counter ≡ counter_lane (drawing c) counter
  unfolding counter_lane
  same_counter b c counter e =
      ap (λ bars. lane_text scale (get_or image.counters counter []) (row_middle (length image.tasks + counter)) (λ bar. []) bars (shown_arrivals scale A (counter_line counter))) e

  same_counters : (b c : (lane : ℕ) → List Bar) (k : ℕ) → ((lane : ℕ) → lane < length image.tasks + k → b lane ≡ c lane)
      → counter_lanes (drawing b) k ≡ counter_lanes (drawing c) k
  unfolding counter_lanes
  same_counters b c zero same = refl
  same_counters b c (suc k) same =
      ap (λ l. l ++ counter_lane (drawing b) k) (same_counters b c k (λ lane below. same lane (omega (arith, below))))
      ∙ ap (λ t. counter_lanes (drawing c) k ++ t) (same_counter b c k (same (length image.tasks + k) (omega arith)))

  -- a drawing is told by the bars of its lanes
  same_text : (b c : (lane : ℕ) → List Bar) → ((lane : ℕ) → lane ≤ owned_lanes image → b lane ≡ c lane) → picture_text (drawing b) ≡ picture_text (drawing c)
  same_text b c same =
      let n = length image.tasks in
      let m = length image.counters in
      let lanes : task_lanes (drawing b) n ≡ task_lanes (drawing c) n = same_lanes b c n (λ lane below. same lane (omega (arith, below))) in
      let counters : counter_lanes (drawing b) m ≡ counter_lanes (drawing c) m = same_counters b c m (λ lane below. same lane (omega (arith, below))) in
      let T : List ℕ → List ℕ → List Bar → List ℕ = λ tasks counted bars.
      head_lines scale (n + m + 1) ++ axis_lines scale (n + m + 1) ++ tasks ++ counted
      ++ (lane_line scale (codes "kernel") (row_middle (n + m)) ++ flat_map (bar_line scale (codes "kernel") (row_middle (n + m)) []) bars)
      ++ mark_lines image levels scale marks ++ legend_lines scale (n + m + 1) ++ codes "</svg>\n" in
      ap (λ l. T l (counter_lanes (drawing b) m) (b (n + m))) lanes ∙ ap (λ l. T (task_lanes (drawing c) n) l (b (n + m))) counters
      ∙ ap (T (task_lanes (drawing c) n) (counter_lanes (drawing c) m)) (same (n + m) (omega arith))

pub one_picture : (image : Image) (A : List Arrival) (from to : ℕ) (text other : List ℕ) → IsPictureOf image A from to text → IsPictureOf image A from to other
    → text ≡ other
one_picture image A from to text other h i =
    let scale = picture_scale image from to in
    let samples : h.samples ≡ i.samples = one-samples image A 0 h.samples i.samples h.are_samples i.are_samples (h.counted ∙ sym i.counted) in
    let levels : h.levels ≡ i.levels = one_levels image A to h.levels i.levels h.are_levels i.are_levels in
    let same : (lane : ℕ) → lane ≤ owned_lanes image → h.bars lane ≡ i.bars lane =
    λ lane few.
    let B : List Sample → Type 0 = λ xs. AreBars (look_of image xs lane) from to (h.bars lane) in
    one_bars (look_of image i.samples lane) from to (h.bars lane) (i.bars lane) (subst B samples (h.are_bars lane few)) (i.are_bars lane few) in
    let shown : List Sample → List Admission = λ xs. run_admissions image A xs from (to - from) in
    let marked : List Sample → List Mark = λ xs. run_marks image A xs from (to - from) in
    let stands : List Sample → List ℕ = λ xs. run_addresses image A xs from (to - from) in
    h.is ∙ ap (λ l. picture_text (drawing image (shown h.samples) (marked h.samples) (stands h.samples) l scale h.bars)) levels
    ∙ ap (λ xs. picture_text (drawing image (shown xs) (marked xs) (stands xs) i.levels scale h.bars)) samples
    ∙ same_text image (shown i.samples) (marked i.samples) (stands i.samples) i.levels scale h.bars i.bars same ∙ sym i.is
