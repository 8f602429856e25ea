-- The drawing of a picture: SVG 1.1, a line for each element.
use Rattle.std.specs.Prelude.{ℕ, ◌+◌, ◌-◌, ◌*◌, ◌/◌, ◌==◌, ltb, Bool, ◌||◌, ◌&&◌, List, [], ◌∷◌, ◌++◌, codes, decimal, slice_index}
use Rattle.std.specs.List.{flat_map, range_with_len}
use Rattle.lane_drawing.specs.declared.drawing.Bar.{Bar}
use Rattle.lane_drawing.specs.declared.drawing.Look.{Look}
use Rattle.lane_drawing.specs.declared.drawing.Look.TheVariants as look
use Rattle.lane_drawing.specs.declared.scale.Scale.{Scale}
use Rattle.lane_drawing.specs.Scale.{place, pixels, axis_step, first_multiple, last_multiple}

-- ---- bars

-- the class of a look, which has its colours
abbrev pub look_class : Look → List ℕ
look_class look.Runs = codes "run"
look_class look.Served = codes "ser"
look_class look.Preempted = codes "pre"
look_class look.Ready = codes "ready"
look_class look.Waiting = codes "wait"
look_class look.Tick = codes "t"
look_class look.Kernel = codes "k"

-- the word of a look
abbrev pub look_word : Look → List ℕ
look_word look.Runs = codes "runs"
look_word look.Served = codes "runs kernel code"
look_word look.Preempted = codes "preempted"
look_word look.Ready = codes "ready"
look_word look.Waiting = codes "waiting"
look_word look.Tick = codes "ticks"
look_word look.Kernel = codes "code"

-- the height of a bar, in pixels
abbrev pub look_height : Look → ℕ
look_height look.Runs = 24
look_height look.Served = 24
look_height look.Preempted = 12
look_height look.Ready = 12
look_height look.Waiting = 2
look_height look.Tick = 16
look_height look.Kernel = 12

-- a bar in the lane of a name whose middle is so many pixels from the top, up to the counts in its title
unfoldable pub bar_front : Scale → (name : List ℕ) (middle : ℕ) → Bar → List ℕ
bar_front scale name middle bar =
    codes "<rect class=\"" ++ look_class bar.look
    ++ codes "\" x=\"" ++ pixels (place scale bar.from)
    ++ codes "\" y=\"" ++ decimal (middle - look_height bar.look / 2)
    ++ codes "\" width=\"" ++ pixels (place scale bar.to - place scale bar.from)
    ++ codes "\" height=\"" ++ decimal (look_height bar.look)
    ++ codes "\"><title>" ++ name ++ codes " " ++ look_word bar.look ++ codes ", " ++ decimal bar.from ++ codes " to " ++ decimal (bar.to - 1)

-- the whole, with further words in its title
unfoldable pub bar_line : Scale → (name : List ℕ) (middle : ℕ) (words : List ℕ) → Bar → List ℕ
bar_line scale name middle words bar = bar_front scale name middle bar ++ words ++ codes "</title></rect>\n"

-- ---- lanes

-- The middle of a row, in pixels from the top. A row is 40 pixels high: a bar of 24 in its middle, with room for marks above and below.
abbrev pub row_middle : ℕ → ℕ
row_middle row = 64 + 40 * row

-- the name of a lane, and the line below it
unfoldable pub lane_line : Scale → (name : List ℕ) (middle : ℕ) → List ℕ
lane_line scale name middle =
    codes "<text class=\"n\" x=\"" ++ decimal (scale.left - 12) ++ codes "\" y=\"" ++ decimal (middle + 5) ++ codes "\" text-anchor=\"end\">" ++ name
    ++ codes "</text><path class=\"g\" d=\"M" ++ decimal scale.left ++ codes " " ++ decimal (middle + 20) ++ codes "h1020\"/>\n"

-- a task stands above another: on a higher level, or on the same with a lesser number
abbrev pub is_above : (levels : List ℕ) (task other : ℕ) → Bool
is_above levels task other =
    ltb (slice_index levels other) (slice_index levels task) || ((slice_index levels other == slice_index levels task) && ltb task other)

-- ---- the frame

-- how far the lanes begin from the left, for the length of the longest name: 8 pixels for each letter, all of one width
abbrev pub left_margin : (longest : ℕ) → ℕ
left_margin longest = 24 + 8 * longest

-- the first line, with the size in pixels: so many rows behind the axis, and the legend
unfoldable pub head_line : Scale → (rows : ℕ) → List ℕ
head_line scale rows =
    codes "<svg xmlns=\"http://www.w3.org/2000/svg\" width=\"" ++ decimal (scale.left + 1052) ++ codes "\" height=\"" ++ decimal (122 + 40 * rows)
    ++ codes "\" viewBox=\"0 0 " ++ decimal (scale.left + 1052) ++ codes " " ++ decimal (122 + 40 * rows)
    ++ codes "\" font-family=\"system-ui, sans-serif\" font-size=\"13\">\n"

-- lines, one behind the other
abbrev pub all_lines : List (List ℕ) → List ℕ
all_lines lines = flat_map (λ line. line) lines

-- how each class looks, on light and on dark screens, that paper has the whole width, what is behind all, and the unit of the axis, above its end
abbrev pub style_lines : List ℕ
style_lines = all_lines (
    codes "<style>\n"
    ∷ codes "text,.a{fill:#1a2433}\n"
    ∷ codes ".n{font-family:ui-monospace,monospace}\n"
    ∷ codes ".p{fill:#fff}\n"
    ∷ codes ".g{stroke:#d8dee6}\n"
    ∷ codes ".run{fill:#2266aa}\n"
    ∷ codes ".pre,.ser{fill:#9dbfe0;stroke:#2266aa;stroke-width:.6}\n"
    ∷ codes ".ready{fill:none;stroke:#2266aa;stroke-width:1.4;stroke-dasharray:4 3}\n"
    ∷ codes ".wait{fill:#8a94a3}\n"
    ∷ codes ".l{fill:none;stroke:#c2241a}\n"
    ∷ codes ".t,.m{fill:#1a2433;stroke:#1a2433}\n"
    ∷ codes ".m{stroke-width:.7}\n"
    ∷ codes ".k{fill:#c2571a}\n"
    ∷ codes "@media screen and (prefers-color-scheme:dark){\n"
    ∷ codes "text,.a{fill:#e6ebf2}\n"
    ∷ codes ".p{fill:#12161c}\n"
    ∷ codes ".g{stroke:#2c3542}\n"
    ∷ codes ".run{fill:#5aa2e6}\n"
    ∷ codes ".pre,.ser{fill:#2f4d6e;stroke:#5aa2e6}\n"
    ∷ codes ".ready{stroke:#5aa2e6}\n"
    ∷ codes ".wait{fill:#7b8796}\n"
    ∷ codes ".l{stroke:#ff8a7a}\n"
    ∷ codes ".t,.m{fill:#e6ebf2;stroke:#e6ebf2}\n"
    ∷ codes ".k{fill:#e08a4d}\n"
    ∷ codes "}\n"
    ∷ codes "@media print{svg{width:100%;height:auto}}\n"
    ∷ codes "</style>\n"
    ∷ codes "<rect class=\"p\" width=\"100%\" height=\"100%\"/>\n"
    ∷ codes "<text x=\"100%\" y=\"16\" dx=\"-32\" text-anchor=\"end\" font-size=\"11\">instructions</text>\n"
    ∷ []
    )

-- which counts are shown, above the axis
unfoldable pub title_line : Scale → List ℕ
title_line scale =
    codes "<text x=\"" ++ decimal scale.left ++ codes "\" y=\"16\">counts " ++ decimal scale.from ++ codes " to " ++ decimal scale.to ++ codes "</text>\n"

-- all that stands before the axis
abbrev pub head_lines : Scale → (rows : ℕ) → List ℕ
head_lines scale rows = head_line scale rows ++ style_lines ++ title_line scale

-- a count on the axis, with a line down through so many rows
unfoldable pub count_line : Scale → (rows count : ℕ) → List ℕ
count_line scale rows count =
    codes "<path class=\"g\" d=\"M" ++ pixels (place scale count) ++ codes " 38V" ++ decimal (44 + 40 * rows)
    ++ codes "\"/><text x=\"" ++ pixels (place scale count) ++ codes "\" y=\"32\" text-anchor=\"middle\" font-size=\"11\">" ++ decimal count
    ++ codes "</text>\n"

-- the line of a multiple of the axis' step
unfoldable pub axis_line : Scale → (rows i : ℕ) → List ℕ
axis_line scale rows i = count_line scale rows (i * axis_step scale)

-- the axis: each multiple of its step that is a count of the picture, or the one behind all
abbrev pub axis_lines : Scale → (rows : ℕ) → List ℕ
axis_lines scale rows = flat_map (axis_line scale rows) (range_with_len (first_multiple scale) (last_multiple scale + 1 - first_multiple scale))

-- where the legend stands, below so many rows
unfoldable pub legend_line : Scale → (rows : ℕ) → List ℕ
legend_line scale rows = codes "<g transform=\"translate(" ++ decimal scale.left ++ codes " " ++ decimal (60 + 40 * rows) ++ codes ")\">\n"

-- what the looks and the marks mean
abbrev pub legend_lines : Scale → (rows : ℕ) → List ℕ
legend_lines scale rows = legend_line scale rows ++ all_lines (
    codes "<rect class=\"run\" x=\"0\" y=\"0\" width=\"28\" height=\"24\"/><text x=\"36\" y=\"16\">runs</text>\n"
    ∷ codes "<rect class=\"ser\" x=\"96\" y=\"0\" width=\"28\" height=\"24\"/><text x=\"132\" y=\"16\">runs kernel code</text>\n"
    ∷ codes "<rect class=\"pre\" x=\"262\" y=\"6\" width=\"28\" height=\"12\"/><text x=\"298\" y=\"16\">preempted</text>\n"
    ∷ codes "<rect class=\"ready\" x=\"390\" y=\"6\" width=\"28\" height=\"12\"/><text x=\"426\" y=\"16\">ready</text>\n"
    ∷ codes "<rect class=\"wait\" x=\"488\" y=\"11\" width=\"28\" height=\"2\"/><text x=\"524\" y=\"16\">waiting</text>\n"
    ∷ codes "<rect class=\"k\" x=\"596\" y=\"6\" width=\"28\" height=\"12\"/><text x=\"632\" y=\"16\">kernel code</text>\n"
    ∷ codes "<path class=\"a\" d=\"M8 44l-4 -6h8z\"/><text x=\"20\" y=\"44\">arrival</text>\n"
    ∷ codes "<path class=\"l\" d=\"M100 44l-4 -6h8z\"/><text x=\"112\" y=\"44\">lost arrival</text>\n"
    ∷ codes "<rect class=\"t\" x=\"226\" y=\"32\" width=\"1\" height=\"16\"/><text x=\"236\" y=\"44\">tick</text>\n"
    ∷ codes "<path class=\"a\" d=\"M304 36l4 4l-4 4l-4 -4z\"/><text x=\"316\" y=\"44\">alarm expires</text>\n"
    ∷ codes "<path class=\"m\" d=\"M440 30v20m-3 -6l3 6l3 -6z\"/><text x=\"452\" y=\"44\">activates, wakes</text>\n"
    ∷ codes "</g>\n"
    ∷ []
    )
