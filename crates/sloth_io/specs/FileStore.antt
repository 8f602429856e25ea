-- Files of the system.
use Rattle.std.specs.Prelude.{◌≡◌, ◌+◌, ◌≤◌, ◌<◌, ℕ, min, List, [], ◌∷◌, ◌++◌, length, Option, None, Some, Result, Ok, Err, Bool, false, not, ◌&&◌, ◌==◌}
use Rattle.std.specs.Io.KnownBytes.{Appends, Consumes, IsAtEnd}
use Rattle.sloth_io.specs.Store.{Files}
use Rattle.sloth_io.specs.declared.store.StoreFault.{StoreFault}
use Rattle.sloth_io.specs.declared.store.StoreFault.TheVariants.{Failed, TooLong, Memory}
use Rattle.sloth_io.specs.declared.file_store.SystemFiles.{SystemFiles}
use Rattle.sloth_io.specs.declared.replaced_files.Found.{Found}

-- a store that does not tell its files, with these counts, these reads and writes, and these names of which it said that they are of one file
abbrev pub untold_files : ℕ → ℕ → ℕ → (reads writes same : List (List ℕ × List ℕ)) → Files
untold_files failed_reads overlong_reads failed_writes reads writes same = record {
  tells = false;
  sure = false;
  holds = λ _. None;
  space = λ _. None;
  failed_reads = failed_reads;
  overlong_reads = overlong_reads;
  failed_writes = failed_writes;
  reads = reads;
  writes = writes;
  same = same;
}

-- what files of the system show
abbrev pub shown_files : {S : Type 0} → SystemFiles S → Files
shown_files store = untold_files store.failed_reads store.overlong_reads store.failed_writes store.reads.items store.writes.items store.same.items

-- what they show behind a read with this outcome, which delivered these bytes where it was done
abbrev pub files_after_read : {T : Type 0} → Result T StoreFault → List ℕ → List ℕ → Files → Files
files_after_read (Ok _) name bytes old = record old { reads = old.reads ++ (name, bytes) ∷ [] }
files_after_read (Err Failed) name bytes old = record old { failed_reads = min (old.failed_reads + 1) 18446744073709551615 }
files_after_read (Err TooLong) name bytes old = record old { overlong_reads = min (old.overlong_reads + 1) 18446744073709551615 }
files_after_read (Err Memory) name bytes old = old

-- how many bytes the last call took from a file or was to write to it
abbrev pub taken_bytes : {S : Type 0} → SystemFiles S → ℕ
taken_bytes store = store.taken

-- some bytes stand behind the old ones
abbrev pub HasPrefix : List ℕ → List ℕ → Type 0
HasPrefix old new = (bytes : List ℕ) × (new ≡ old ++ bytes)

-- they are at most `limit`
abbrev pub HasPrefixWithin : ℕ → List ℕ → List ℕ → Type 0
HasPrefixWithin limit old new = (bytes : List ℕ) × (new ≡ old ++ bytes) × (length bytes ≤ limit)

-- they are more than `limit`
abbrev pub HasPrefixBeyond : ℕ → List ℕ → List ℕ → Type 0
HasPrefixBeyond limit old new = (bytes : List ℕ) × (new ≡ old ++ bytes) × (limit < length bytes)

-- the bytes are all that was left of a file, if it tells them
abbrev pub IsWholeRest : Option (List ℕ) → Option (List ℕ) → List ℕ → Type 0
IsWholeRest old new bytes = Consumes old new bytes × IsAtEnd new

-- some open file, if it tells its bytes, took all of these behind what it held
abbrev pub IsGivenTo : {F : Type 0} → (F → Option (List ℕ)) → List ℕ → Type 0
IsGivenTo {F} contents bytes = (from to : F) × Appends (contents from) (contents to) bytes

-- both are one plain file: it has one device and one number there
abbrev pub is_one_plain_file : Option Found → Option Found → Bool
is_one_plain_file (Some one) (Some other) = one.plain && not (one.number == 0) && one.number == other.number && one.device == other.device
is_one_plain_file _ _ = false
