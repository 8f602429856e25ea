-- The first arrival that comes too soon for a load.
use Rattle.std.specs.Prelude.{ℕ, ◌+◌, ◌-◌, ◌==◌, ◌&&◌, not, Bool, true, false, cond, ltb, List, [], ◌∷◌, length, replicate, set, get_or, Option, Some, None, unwrap_or}
use Rattle.std.specs.Option.{option_map}
use Rattle.sloth_base.specs.declared.service.Arrival.{Arrival}
use Rattle.sloth_base.specs.MemoryMap.{line_count}
use Rattle.text_pieces.specs.Lines.{lines}
use Rattle.trace_text.specs.ArrivalsText.{is_comment}
use Rattle.load_text.specs.declared.load_line.Entry.{Entry}
use Rattle.load_text.specs.Loads.{distance}
use Rattle.run_load.specs.declared.soon.EarlyArrival.{EarlyArrival}

-- of each line the moment of its last arrival, if one came
abbrev pub Lasts : Type 0
Lasts = List (Option ℕ)

abbrev pub no_lasts : Lasts
no_lasts = replicate line_count None

-- how far an arrival is behind the one of its line before it, if there is one
abbrev pub gap : Lasts → Arrival → Option ℕ
gap lasts a = option_map (λ before. a.at - before) (get_or lasts a.line None)

-- it comes too soon: its line never arrives, or it is less far behind than the load says
abbrev pub is_soon : (distance gap : Option ℕ) → Bool
is_soon (Some d) (Some g) = ltb g d
is_soon (Some d) None = false
is_soon None g = true

-- an arrival, of this place
abbrev pub soon : Lasts → (place : ℕ) → Arrival → EarlyArrival
soon lasts place a = record { place = place; line = a.line; gap = unwrap_or (gap lasts a) 0 }

-- the first that does, of these from this place on
abbrev pub first_soon : List Entry → Lasts → (place : ℕ) → List Arrival → Option EarlyArrival
first_soon load lasts place [] = None
first_soon load lasts place (a ∷ arrivals) =
    cond (is_soon (distance load a.line) (gap lasts a)) (Some (soon lasts place a))
    (first_soon load (set lasts a.line (Some a.at)) (place + 1) arrivals)

-- ---- lines of a text

-- The number of the line, among so many, at which the arrival of this place stands; these are the last of them. Comments are no arrivals.
abbrev pub line_among : (all place : ℕ) → List (List ℕ) → ℕ
line_among all place [] = 0
line_among all place (line ∷ behind) =
    cond (not (is_comment line) && (place == 0)) (all - length behind) (line_among all (cond (is_comment line) place (place - 1)) behind)

-- that in a text
abbrev pub line_at : (text : List ℕ) → (place : ℕ) → ℕ
line_at text place = line_among (length (lines text)) place (lines text)
