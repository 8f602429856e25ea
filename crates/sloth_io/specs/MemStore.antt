-- A store in memory.
use Rattle.std.specs.Prelude.{◌≡◌, ◌≤◌, ◌==◌, ◌&&◌, ℕ, not, List, [], ◌∷◌, ◌++◌, length, map}
use Rattle.std.specs.Prelude.{Option, Some, None, Result, Ok, Err, Bool, true, false, if◌then◌else◌, nat_lt}
use Rattle.std.specs.List.{list_any}
use Rattle.sloth_io.specs.Slots.{file_of, bytes_named, space_named}
use Rattle.sloth_io.specs.Slots.{has_space}
use Rattle.sloth_io.specs.Counts.{next_call}
use Rattle.sloth_io.specs.Store.{Files}
use Rattle.sloth_io.specs.declared.store.StoreFault.{StoreFault}
use Rattle.sloth_io.specs.declared.store.StoreFault.TheVariants.{Failed, TooLong, Memory}
use Rattle.sloth_io.specs.declared.mem_store.MemStore.{MemStore}
use Rattle.sloth_io.specs.declared.mem_store.MemFile.{MemFile}

-- the files of a store
abbrev pub files_of : MemStore → List MemFile
files_of store = map file_of store.slots.items

-- the next call, counted over reads and writes, is to fail
abbrev pub is_next_call_failed : MemStore → Bool
is_next_call_failed store = list_any (λ call. call == next_call store.calls) store.fails.items

-- why a file is not read, for what it holds
abbrev pub length_fault : Option (List ℕ) → ℕ → Option StoreFault
length_fault None limit = Some Failed
length_fault (Some bytes) limit = if nat_lt limit (length bytes) then Some TooLong else None

-- why the next read of a file is refused, but for want of memory
abbrev pub read_fault : MemStore → List ℕ → ℕ → Option StoreFault
read_fault store name limit =
    if is_next_call_failed store then Some Failed else length_fault (bytes_named name (files_of store)) limit

-- the same, where it is known whether the call is to fail and what the file holds
abbrev pub fault_by : Bool → Option (List ℕ) → ℕ → Option StoreFault
fault_by fails held limit = if fails then Some Failed else length_fault held limit

-- the bytes of the file, at most `limit`, stand behind the old ones
abbrev pub IsDelivered : Option (List ℕ) → ℕ → List ℕ → List ℕ → Type 0
IsDelivered held limit old new = (bytes : List ℕ) × (held ≡ Some bytes) × (new ≡ old ++ bytes) × (length bytes ≤ limit)

-- a read was refused as too long
abbrev pub is_overlong : {T : Type 0} → Result T StoreFault → Bool
is_overlong (Ok _) = false
is_overlong (Err Failed) = false
is_overlong (Err TooLong) = true
is_overlong (Err Memory) = false

-- what was read, behind a read with this outcome, which delivered these bytes where it was done
abbrev pub reads_after : {T : Type 0} → Result T StoreFault → List ℕ → List ℕ → List (List ℕ × List ℕ) → List (List ℕ × List ℕ)
reads_after (Ok _) name bytes reads = reads ++ (name, bytes) ∷ []
reads_after (Err _) name bytes reads = reads

-- the read is refused as too long
abbrev pub is_too_long : Option StoreFault → Bool
is_too_long None = false
is_too_long (Some Failed) = false
is_too_long (Some TooLong) = true
is_too_long (Some Memory) = false

-- no call is to fail
abbrev pub is_sure : List ℕ → Bool
is_sure [] = true
is_sure (_ ∷ _) = false

-- the next write is done
abbrev pub is_next_write_done : MemStore → List ℕ → ℕ → Bool
is_next_write_done store name size = not (is_next_call_failed store) && has_space name size (files_of store)

-- what the store shows
abbrev pub shown_files : MemStore → Files
shown_files store = record {
  tells = true;
  sure = is_sure store.fails.items;
  holds = λ name. bytes_named name (files_of store);
  space = λ name. space_named name (files_of store);
  failed_reads = store.failed_reads;
  overlong_reads = store.overlong_reads;
  failed_writes = store.failed_writes;
  reads = store.reads.items;
  writes = store.writes.items;
  same = store.same.items;
}

-- a store of these files with these failing calls, which was not yet called
pub record IsFreshStore (files : List MemFile) (fails : List ℕ) (store : MemStore) : Type 0 where
  pub files_told : files_of store ≡ files
  pub failing_calls : store.fails.items ≡ fails
  pub calls : store.calls ≡ 0
  pub failed_reads : store.failed_reads ≡ 0
  pub overlong_reads : store.overlong_reads ≡ 0
  pub failed_writes : store.failed_writes ≡ 0
  pub reads : store.reads.items ≡ []
  pub writes : store.writes.items ≡ []
  pub same : store.same.items ≡ []

-- one call was counted
pub record IsStoreCalled (old new : MemStore) : Type 0 where
  pub failing_calls : new.fails.items ≡ old.fails.items
  pub calls : new.calls ≡ next_call old.calls
