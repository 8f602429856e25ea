-- One name, one task and one lane more.
use Rattle.std.proofs.Common.{◌≡◌, ◌∙◌, ◌+◌, ℕ, List, [], ◌++◌, length, get_or, refl, ap}
use Rattle.std.specs.Prelude.{max, cond, codes}
use Rattle.std.specs.List.{flat_map}
use Rattle.std.proofs.Math.Numerals.{add-one}
use Rattle.lane_drawing.specs.Drawing.{is_above, head_lines, axis_lines, lane_line, bar_line, row_middle, legend_lines}
use Rattle.lane_drawing.specs.declared.drawing.Bar.{Bar}
use Rattle.schedule_picture.specs.Picture.{Drawing, longest_length, tasks_above, task_lane, task_lanes, counter_lane, counter_lanes, mark_lines, picture_text}

pub no_names : (names : List (List ℕ)) → longest_length names 0 ≡ 6
unfolding longest_length
no_names names = refl

pub one_name_more : (names : List (List ℕ)) (k : ℕ) → longest_length names (k + 1) ≡ max (longest_length names k) (length (get_or names k []))
unfolding longest_length
one_name_more names k = ap (longest_length names) (add-one k)

pub no_tasks : (levels : List ℕ) (task : ℕ) → tasks_above levels task 0 ≡ 0
unfolding tasks_above
no_tasks levels task = refl

pub one_task_more : (levels : List ℕ) (task k : ℕ) → tasks_above levels task (k + 1) ≡ tasks_above levels task k + cond (is_above levels k task) 1 0
unfolding tasks_above
one_task_more levels task k = ap (tasks_above levels task) (add-one k)

pub no_lanes : (d : Drawing) → task_lanes d 0 ≡ []
unfolding task_lanes
no_lanes d = refl

pub one_lane_more : (d : Drawing) (k : ℕ) → task_lanes d (k + 1) ≡ task_lanes d k ++ task_lane d k
unfolding task_lanes
one_lane_more d k = ap (task_lanes d) (add-one k)

pub no_counters : (d : Drawing) → counter_lanes d 0 ≡ []
unfolding counter_lanes
no_counters d = refl

pub one_counter_more : (d : Drawing) (k : ℕ) → counter_lanes d (k + 1) ≡ counter_lanes d k ++ counter_lane d k
unfolding counter_lanes
one_counter_more d k = ap (counter_lanes d) (add-one k)

-- eight parts, each behind those before it
eight : (a b c e k m l z t1 t2 t3 t4 t5 t6 t7 t8 : List ℕ) → t1 ≡ a → t2 ≡ t1 ++ b → t3 ≡ t2 ++ c → t4 ≡ t3 ++ e → t5 ≡ t4 ++ k → t6 ≡ t5 ++ m
    → t7 ≡ t6 ++ l → t8 ≡ t7 ++ z → t8 ≡ a ++ b ++ c ++ e ++ k ++ m ++ l ++ z
eight a b c e k m l z t1 t2 t3 t4 t5 t6 t7 t8 h1 h2 h3 h4 h5 h6 h7 h8 =
    h8 ∙ ap (λ t. t ++ z) (h7 ∙ ap (λ t. t ++ l) (h6 ∙ ap (λ t. t ++ m) (h5 ∙ ap (λ t. t ++ k) (h4 ∙ ap (λ t. t ++ e) (h3 ∙ ap (λ t. t ++ c) (h2 ∙ ap (λ t. t ++ b) h1))))))

-- the text is whole behind the lanes, the lane of kernel code, the marks, the legend and the last line
pub whole_text : (d : Drawing) (n m middle : ℕ) (bars : List Bar) (t1 t2 t3 t4 t5 t6 t7 t8 : List ℕ) → n ≡ length d.image.tasks → m ≡ length d.image.counters
    → middle ≡ row_middle (n + m) → bars ≡ d.bars (n + m) → t1 ≡ head_lines d.scale (n + m + 1) → t2 ≡ t1 ++ axis_lines d.scale (n + m + 1)
    → t3 ≡ t2 ++ task_lanes d n → t4 ≡ t3 ++ counter_lanes d m
    → t5 ≡ t4 ++ (lane_line d.scale (codes "kernel") middle ++ flat_map (bar_line d.scale (codes "kernel") middle []) bars)
    → t6 ≡ t5 ++ mark_lines d.image d.levels d.scale d.marks → t7 ≡ t6 ++ legend_lines d.scale (n + m + 1) → t8 ≡ t7 ++ codes "</svg>\n" → t8 ≡ picture_text d
whole_text d n m middle bars t1 t2 t3 t4 t5 t6 t7 t8 tasks counters low shown h1 h2 h3 h4 h5 h6 h7 h8 =
    let M : List ℕ = mark_lines d.image d.levels d.scale d.marks in
    let K : ℕ → List Bar → List ℕ = λ y x. lane_line d.scale (codes "kernel") y ++ flat_map (bar_line d.scale (codes "kernel") y []) x in
    let W : ℕ → ℕ → List ℕ = λ a b.
    head_lines d.scale (a + b + 1) ++ axis_lines d.scale (a + b + 1) ++ task_lanes d a ++ counter_lanes d b ++ K (row_middle (a + b)) (d.bars (a + b))
    ++ M ++ legend_lines d.scale (a + b + 1) ++ codes "</svg>\n" in
    let kernel : K middle bars ≡ K (row_middle (n + m)) (d.bars (n + m)) = ap (λ y. K y bars) low ∙ ap (λ x. K (row_middle (n + m)) x) shown in
    eight (head_lines d.scale (n + m + 1)) (axis_lines d.scale (n + m + 1)) (task_lanes d n) (counter_lanes d m) (K (row_middle (n + m)) (d.bars (n + m)))
    M (legend_lines d.scale (n + m + 1)) (codes "</svg>\n") t1 t2 t3 t4 t5 t6 t7 t8 h1 h2 h3 h4 (h5 ∙ ap (λ x. t4 ++ x) kernel) h6 h7 h8
    ∙ ap (λ a. W a m) tasks ∙ ap (λ b. W (length d.image.tasks) b) counters
