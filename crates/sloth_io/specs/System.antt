-- Calls of the system on files, and what they do to the file of a name.
use Rattle.std.specs.Prelude.{◌≡◌, ◌++◌, ℕ, List, [], ◌∷◌, Option, None, Some, Bool, true, false, not, ◌||◌, ◌&&◌}
use Rattle.std.specs.List.{list_all}
use Rattle.std.specs.Option.{option_map}
use Rattle.std.specs.Str.{bytes_eq}
use Rattle.sloth_io.specs.declared.replaced_files.Found.{Found}

-- A call with its names, what it gave, and the bytes of a file that was opened to be read (those that are left), to be written, or closed, where it tells
-- them; and whether it was done.
pub data Call : Type 0 where
  Looked : List ℕ → Option Found → Call
  Followed : List ℕ → Option Found → Call
  Opened : List ℕ → Option (Option (List ℕ)) → Call
  Tried : List ℕ → Bool → Call
  Made : List ℕ → ℕ → Option (Option (List ℕ)) → Call
  Emptied : List ℕ → Option (Option (List ℕ)) → Call
  Moded : ℕ → Bool → Call
  Synced : Bool → Call
  Closed : Option (List ℕ) → Call
  Renamed : (from to : List ℕ) → Bool → Call
  Removed : List ℕ → Bool → Call
  FolderSynced : List ℕ → Call

-- the calls after further ones; a system that does not tell them goes on so
abbrev pub added : Option (List Call) → List Call → Option (List Call)
added calls further = option_map (λ before. before ++ further) calls

-- a call that leaves the file of this name as it is, if there is one
abbrev pub leaves_file : List ℕ → Call → Bool
leaves_file name (Emptied other _) = not (bytes_eq other name)
leaves_file name (Renamed from to done) = not (done && (bytes_eq from name || bytes_eq to name))
leaves_file name (Removed other _) = not (bytes_eq other name)
leaves_file name _ = true

-- a call that leaves each file as it is that is there
abbrev pub leaves_files : Call → Bool
leaves_files (Emptied _ _) = false
leaves_files (Renamed _ _ _) = false
leaves_files (Removed _ _) = false
leaves_files _ = true

-- further calls were made, which leave each file as it is that is there
abbrev pub LeavesFiles : Option (List Call) → Option (List Call) → Type 0
LeavesFiles old new = (further : List Call) × (new ≡ added old further) × (list_all leaves_files further ≡ true)

-- or the file of this name
abbrev pub LeavesFile : List ℕ → Option (List Call) → Option (List Call) → Type 0
LeavesFile name old new = (further : List Call) × (new ≡ added old further) × (list_all (leaves_file name) further ≡ true)
