-- How much of its part of the stacks a task takes.
use Rattle.std.proofs.Common.{◌≡◌, ℕ, ◌+◌, ◌*◌, ◌<◌, ◌≤◌, List, [], ◌∷◌, length, refl, arith}
use Rattle.std.specs.Prelude.{map}
use Rattle.sloth_base.specs.Named.{function}
use Rattle.sloth_region.specs.Layout.{context_bytes}
use Rattle.code_rules.specs.Code.{HasCall, IsCalledBy}
use Rattle.osek_scheduler.specs.State.{Frame}
use Rattle.sloth_base.specs.Named.{body_of}
use Rattle.sim_relation.specs.Build.{Build, HasFittingPlaces, outer_bytes, frame_bytes}
use Rattle.sim_relation.specs.Position.{AreOuterFrames, AreFrames}

-- for its first frame
pub first_room : (b : Build) → HasFittingPlaces b → (t : ℕ) → t < length b.config.tasks
    → b.low t + context_bytes + 4 * (function b.app (body_of b.app.funcs t)).frame_words ≤ b.top t
first_room b fits t h = let r = fits.room t h (body_of b.app.funcs t) [] refl in omega arith

-- ---- frames that stand

abbrev pub funcs_of : List Frame → List ℕ
funcs_of frames = map (λ (x : Frame). x.func) frames

outer_top : (b : Build) (ram : List ℕ) (outer : List Frame) (place top : ℕ) → AreOuterFrames b ram outer place top → place + outer_bytes b.app (funcs_of outer) ≡ top
outer_top b ram [] place top h = omega (arith, h)
outer_top b ram (frame ∷ outer) place top h =
    let rest = outer_top b ram outer (place + 4 + 4 * length frame.words) top h.3 in
    let words = h.1 in
    omega arith

-- the frames of a task reach from its x2 up to the top of its part
pub frames_top : (b : Build) (ram : List ℕ) (frame : Frame) (outer : List Frame) (place top : ℕ) → AreFrames b ram frame outer place top
    → place + frame_bytes b.app frame.func (funcs_of outer) ≡ top
frames_top b ram frame outer place top h =
    let rest = outer_top b ram outer (place + 4 * length frame.words) top h.2 in
    let words = h.0 in
    omega arith

-- a function that the innermost one calls has room for its frame, and a context below it
pub called_room : (b : Build) → HasFittingPlaces b → (ram : List ℕ) (t : ℕ) → t < length b.config.tasks → (frame : Frame) (outer : List Frame) (place : ℕ)
    → AreFrames b ram frame outer place (b.top t) → IsCalledBy b.app t frame.func (funcs_of outer) → (callee : ℕ) → HasCall b.app frame.func callee
    → b.low t + context_bytes + (4 + 4 * (function b.app callee).frame_words) ≤ place
called_room b fits ram t h frame outer place stood called callee calls =
    let r = fits.room t h callee (frame.func ∷ funcs_of outer) (calls, called) in
    let e = frames_top b ram frame outer place (b.top t) stood in
    omega arith
