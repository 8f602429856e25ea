-- How a file is made to hold bytes, by the calls of the system.
use Rattle.std.specs.Prelude.{◌≡◌, ◌≢◌, ◌==◌, ◌++◌, ◌<◌, ◌&&◌, ◌||◌, not, ℕ, List, [], ◌∷◌, Option, None, Some, Bool, true, false, nat_lt, bit_and, if◌then◌else◌, codes}
use Rattle.std.specs.Io.KnownBytes.{Appends}
use Rattle.sloth_io.specs.declared.replaced_files.Found.{Found}
use Rattle.sloth_io.specs.System.{Call, Looked, Followed, Tried, Made, Emptied, Moded, Synced, Closed, Renamed, FolderSynced, added, leaves_file}
use Rattle.std.specs.List.{list_all}

-- something stands there that is no plain file, as a terminal or a link, or a plain file that has another name too: it is written where it is
abbrev pub is_written_there : Option Found → Bool
is_written_there None = false
is_written_there (Some found) = not found.plain || nat_lt 1 found.names

-- it is a link that root did not make
abbrev pub is_users_link : Option Found → Bool
is_users_link None = false
is_users_link (Some found) = found.link && not (found.owner == 0)

-- both belong to one user
abbrev pub has_owner : Option Found → Option Found → Bool
has_owner (Some found) (Some own) = found.owner == own.owner
has_owner _ _ = false

-- a link is followed that belongs to root or to the user of this process, to whom `own` belongs
abbrev pub may_follow : Option Found → Option Found → Bool
may_follow found own = not (is_users_link found) || has_owner found own

-- the calls that tell whose a link is: what stands under this name belongs to the user of the process
abbrev pub owner_calls : Option Found → Option Found → List Call
owner_calls found own = if is_users_link found then Followed (codes "/proc/self") own ∷ [] else []

-- a file that is there can be opened to write it
abbrev pub tried_calls : List ℕ → Option Found → List Call
tried_calls name None = []
tried_calls name (Some found) = Tried name true ∷ []

-- the mode of a new file until it is written: its owner's alone, where it is to replace another
abbrev pub first_mode : Option Found → ℕ
first_mode None = 438
first_mode (Some found) = 384

-- it gets the permissions of the one that it is to replace
abbrev pub mode_calls : Option Found → Bool → List Call
mode_calls None done = []
mode_calls (Some found) done = Moded (bit_and found.mode 511) done ∷ []

-- a file was written, given its permissions, put on its disk and closed
abbrev pub filling_calls : Option Found → Option (List ℕ) → List Call
filling_calls found to = mode_calls found true ++ Synced true ∷ Closed to ∷ []

-- a new file was filled beside the one of a name, and took its name
abbrev pub calls_in_place : Option Found → (name beside : List ℕ) → Option (List ℕ) → List Call
calls_in_place found name beside to = filling_calls found to ++ Renamed beside name true ∷ FolderSynced name ∷ []

-- it was made before that
abbrev pub calls_beside : Option Found → (name beside : List ℕ) → (from to : Option (List ℕ)) → List Call
calls_beside found name beside from to = Made beside (first_mode found) (Some from) ∷ calls_in_place found name beside to

-- the file of a name was emptied and filled where it is
abbrev pub calls_there : List ℕ → (from to : Option (List ℕ)) → List Call
calls_there name from to = Emptied name (Some from) ∷ filling_calls None to

-- the calls by which the file of a name was made to hold what an open file held as it was closed
abbrev pub replacing_calls : (found own : Option Found) → (name : List ℕ) → (from to : Option (List ℕ)) → List Call
replacing_calls found own name from to =
    Looked name found
    ∷ (if is_written_there found then owner_calls found own ++ calls_there name from to
    else tried_calls name found ++ calls_beside found name (name ++ codes ".new") from to)

-- The file of a name was replaced by exactly these calls: the open file took these bytes and no others. A link was followed only where that may be.
abbrev pub IsReplaced : Option (List Call) → Option (List Call) → (name bytes : List ℕ) → Type 0
IsReplaced old new name bytes =
    (found own : Option Found) × (from to : Option (List ℕ)) × Appends from to bytes × (new ≡ added old (replacing_calls found own name from to))
    × (is_written_there found ≡ true → may_follow found own ≡ true)

-- it was not: unless it was to be written where it is, the file of that name is as it was
abbrev pub IsUnreplaced : Option (List Call) → Option (List Call) → (name : List ℕ) → Type 0
IsUnreplaced old new name =
    (found : Option Found) × (further : List Call) × (new ≡ added old (Looked name found ∷ further))
    × (is_written_there found ≡ false → list_all (leaves_file name) further ≡ true)
