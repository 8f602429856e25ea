-- What a store shows, and what its calls do.
use Rattle.std.specs.Prelude.{◌≡◌, ◌≢◌, ◌≤◌, ◌<◌, ◌⊎◌, ℕ, List, [], ◌∷◌, ◌++◌, length, drop, Option, Some, None, Bool, true, false, IsTrue}
use Rattle.sloth_io.specs.Counts.{Rose}
use Rattle.sloth_io.specs.Slots.{is_space_for}

-- What each named file holds, where the store tells that, three counts, and what its calls moved: the bytes that each read that was done
-- delivered, and those of each write that was done, with the file's name, in the order of the calls; and the pairs of names of which it said that
-- they are of one file. A sure store has no call that is to fail: what its files hold, their space and want of memory are the only causes.
pub record Files : Type 0 where
  pub tells : Bool
  pub sure : Bool
  pub holds : List ℕ → Option (List ℕ)
  pub space : List ℕ → Option ℕ
  pub failed_reads : ℕ
  pub overlong_reads : ℕ
  pub failed_writes : ℕ
  pub reads : List (List ℕ × List ℕ)
  pub writes : List (List ℕ × List ℕ)
  pub same : List (List ℕ × List ℕ)

-- a read changes no file, and not the count of failed writes
pub record KeepsFiles (old new : Files) : Type 0 where
  pub tells : new.tells ≡ old.tells
  pub sure : new.sure ≡ old.sure
  pub holds : (name : List ℕ) → new.holds name ≡ old.holds name
  pub space : (name : List ℕ) → new.space name ≡ old.space name
  pub failed_reads : old.failed_reads ≤ new.failed_reads
  pub overlong_reads : old.overlong_reads ≤ new.overlong_reads
  pub failed_writes : new.failed_writes ≡ old.failed_writes
  pub writes : new.writes ≡ old.writes
  pub same : new.same ≡ old.same

-- a write changes no file's space, none of the counts of reads, and delivers nothing
pub record KeepsReads (old new : Files) : Type 0 where
  pub tells : new.tells ≡ old.tells
  pub sure : new.sure ≡ old.sure
  pub space : (name : List ℕ) → new.space name ≡ old.space name
  pub failed_reads : new.failed_reads ≡ old.failed_reads
  pub overlong_reads : new.overlong_reads ≡ old.overlong_reads
  pub failed_writes : old.failed_writes ≤ new.failed_writes
  pub reads : new.reads ≡ old.reads
  pub same : new.same ≡ old.same

-- exactly these were read, each with its file's name, in this order
abbrev pub AreDelivered : Files → Files → List (List ℕ × List ℕ) → Type 0
AreDelivered old new deliveries = new.reads ≡ old.reads ++ deliveries

-- what a store showed at first, with what was read since
abbrev pub call_files : Files → Files → Files
call_files old new = record old { reads = drop (length old.reads) new.reads }

-- the bytes that were delivered, which are at most `limit` and the file's, where the store tells it, stand behind the old ones
abbrev pub IsAppended : Files → Files → List ℕ → ℕ → List ℕ → List ℕ → Type 0
IsAppended before after name limit old new =
    (bytes : List ℕ) × (new ≡ old ++ bytes) × (length bytes ≤ limit) × (IsTrue before.tells → before.holds name ≡ Some bytes)
    × AreDelivered before after ((name, bytes) ∷ [])

-- a read failed in a store that is not sure, or the store tells that there is no such file
abbrev pub IsMissing : Files → Files → List ℕ → Type 0
IsMissing old new name =
    (Rose old.failed_reads new.failed_reads × (old.sure ≡ false)) ⊎ (IsTrue old.tells × (old.holds name ≡ None))

-- an overlong read is counted; where the store tells its files, this one is there and longer than `limit`
abbrev pub IsTooLong : Files → Files → List ℕ → ℕ → Type 0
IsTooLong old new name limit =
    Rose old.overlong_reads new.overlong_reads
    × (IsTrue old.tells → (bytes : List ℕ) × (old.holds name ≡ Some bytes) × (limit < length bytes))

-- a failed write of so many bytes is counted, and no write was done; a sure store has no space for them in the file
abbrev pub IsUnwritten : Files → Files → List ℕ → ℕ → Type 0
IsUnwritten old new name size =
    Rose old.failed_writes new.failed_writes × (IsTrue old.sure → is_space_for (old.space name) size ≡ false) × (new.writes ≡ old.writes)

-- the file holds these bytes, where the store tells it
abbrev pub Holds : Files → List ℕ → List ℕ → Type 0
Holds files name bytes = IsTrue files.tells → files.holds name ≡ Some bytes

-- a store that tells its files has one file of each name; of another store two names may be of one file
abbrev pub MayBeOneFile : Files → List ℕ → List ℕ → Type 0
MayBeOneFile files one other = IsTrue files.tells → one ≡ other

-- the store was asked whether two names are of one file: what it said is kept where it said yes, and nothing else has changed
abbrev pub said_same : Bool → List ℕ → List ℕ → Files → Files
said_same true one other files = record files { same = files.same ++ (one, other) ∷ [] }
said_same false one other files = files

-- it said yes, and that is all that it said
abbrev pub IsSaidSame : Files → Files → List ℕ → List ℕ → Type 0
IsSaidSame old new one other = MayBeOneFile old one other × (new.same ≡ old.same ++ (one, other) ∷ [])

-- one write was done: these bytes were given for the file, which holds them, where the store tells it
abbrev pub IsFileWritten : Files → Files → List ℕ → List ℕ → Type 0
IsFileWritten old new name bytes = Holds new name bytes × (new.writes ≡ old.writes ++ (name, bytes) ∷ [])

-- each file of another name holds what it held
abbrev pub KeepsOthers : Files → Files → List ℕ → Type 0
KeepsOthers old new name = (other : List ℕ) → other ≢ name → new.holds other ≡ old.holds other
