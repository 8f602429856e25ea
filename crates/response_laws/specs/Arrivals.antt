-- How many arrivals fall into a window of moments, and into a busy period.
use Rattle.std.specs.Prelude.{ℕ, ◌+◌, ◌≤◌, ◌≡◌, ◌==◌, ◌&&◌, List, [], ◌∷◌, ◌++◌, Bool, false, cond, leb, ltb, Some}
use Rattle.std.specs.List.{AllByRecursion}
use Rattle.sloth_base.specs.declared.config.Config.{Config}
use Rattle.sloth_base.specs.declared.app.App.{App}
use Rattle.sloth_base.specs.declared.service.Arrival.{Arrival}
use Rattle.sloth_base.specs.declared.service.Stamped.{Stamped}
use Rattle.sloth_base.specs.Events.{is_boot}
use Rattle.load_text.specs.declared.load_line.Entry.{Entry}
use Rattle.load_text.specs.Loads.{distance, KeepDistances, arrivals_within}
use Rattle.osek_scheduler.specs.InTime.{InTime, is_admit}
use Rattle.osek_scheduler.specs.Runs.{OsekRun}
use Rattle.run_counts.specs.Stages.{Stage, charged, run_stages}
use Rattle.response_laws.specs.Sums.{count}
use Rattle.response_laws.specs.Turns.{at_admission}
use Rattle.response_laws.specs.Bounded.{BeginsWithin}
use Rattle.response_laws.specs.Response.{HasPace}

-- ---- windows

-- the moment is not before `low`, and before `high`
abbrev pub is_inside : (low high moment : ℕ) → Bool
is_inside low high moment = leb low moment && ltb moment high

-- how many of these pass a test, at moments inside
abbrev pub passing_inside : {X : Type 0} → (test : X → Bool) → (moment : X → ℕ) → (low high : ℕ) → List X → ℕ
passing_inside test moment low high [] = 0
passing_inside test moment low high (x ∷ xs) = cond (test x && is_inside low high (moment x)) 1 0 + passing_inside test moment low high xs

-- how many arrivals of the line are inside
abbrev pub arrivals_inside : (low high line : ℕ) → List Arrival → ℕ
arrivals_inside low high line arrivals = passing_inside (λ (a : Arrival). a.line == line) (λ a. a.at) low high arrivals

-- no distance is 0
abbrev pub HasDistances : List Entry → Type 0
HasDistances load = (line : ℕ) → (distance load line ≡ Some 0) → ⊥

-- Arrivals that keep a load: in `counts` moments that follow one another there are of a line at most as many as distances fill them.
abbrev pub ArrivalsAreFew : Type 0
ArrivalsAreFew = (load : List Entry) (arrivals : List Arrival) (low counts line : ℕ) → HasDistances load → KeepDistances load arrivals
    → arrivals_inside low (low + counts) line arrivals ≤ arrivals_within load counts line

-- ---- busy periods

-- each event but boot and admissions, with the counts in front of it, has at most this many
abbrev pub AreCharged : (heaviest : ℕ) → List Stage → Type 0
AreCharged heaviest run = AllByRecursion (λ x. is_admit x.stamped ≡ false → is_boot x.stamped.event ≡ false → charged x ≤ heaviest) run

-- the moments of admissions in a busy period whose stages begin within so many counts: an event in front of it, and one behind it
abbrev pub admission_window : (late heaviest counts : ℕ) → ℕ
admission_window late heaviest counts = counts + heaviest + late

-- In every run whose arrivals keep a load, stages that begin within so many counts behind one, this included, admit at most as many arrivals of a line
-- as distances fill these counts and an event in front and behind.
abbrev pub AdmissionsAreFew : Type 0
AdmissionsAreFew = (config : Config) (app : App) (load : List Entry) (n late more heaviest : ℕ) (arrivals : List Arrival) (events : List Stamped)
    → OsekRun config app events → InTime config n arrivals events → HasPace n late more events → more ≤ heaviest
    → AreCharged heaviest (run_stages config app events) → HasDistances load → KeepDistances load arrivals
    → (line counts : ℕ) (before : List Stage) (first : Stage) (period behind : List Stage)
    → run_stages config app events ≡ before ++ ((first ∷ period) ++ behind) → AllByRecursion (BeginsWithin counts first) period
    → count (at_admission line) (first ∷ period) ≤ arrivals_within load (admission_window late heaviest counts) line
