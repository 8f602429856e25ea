-- A sink in memory.
use Rattle.std.specs.Prelude.{◌≡◌, ◌+◌, ◌==◌, ◌&&◌, ℕ, List, [], ◌∷◌, ◌++◌, length, take}
use Rattle.std.specs.Prelude.{Option, Some, None, Bool, if◌then◌else◌, nat_le, is_none}
use Rattle.sloth_io.specs.Counts.{next_call}
use Rattle.sloth_io.specs.Buffered.{pieces_in}
use Rattle.sloth_io.specs.Sink.{Output}
use Rattle.sloth_io.specs.declared.mem_sink.MemSink.{MemSink}

-- the bytes that a sink took
abbrev pub taken_by : MemSink → List ℕ
taken_by sink = sink.buffer.bytes.items

-- how many bytes it takes before a call fails, where no call is to fail for its number
abbrev pub told_space : ℕ → List (ℕ × ℕ) → Option ℕ
told_space space [] = Some space
told_space space (_ ∷ _) = None

-- the pieces that were put, in their order, those of calls that failed too
abbrev pub put_pieces : MemSink → List (List ℕ)
put_pieces sink = pieces_in sink.pieces.items

-- what the sink shows
abbrev pub shown_output : MemSink → Output
shown_output sink = record {
  taken = Some (taken_by sink);
  space = told_space sink.buffer.space sink.fails.items;
  faults = sink.faults;
}

-- how many bytes the call of this number takes before it fails, by the first pair of that number
abbrev pub limit_of : ℕ → List (ℕ × ℕ) → Option ℕ
limit_of call [] = None
limit_of call (pair ∷ rest) = if pair.0 == call then Some pair.1 else limit_of call rest

-- how many bytes the next call takes before it fails, if it is to fail
abbrev pub next_limit : MemSink → Option ℕ
next_limit sink = limit_of (next_call sink.calls) sink.fails.items

-- what a call with this limit takes of a piece
abbrev pub part_of : Option ℕ → List ℕ → List ℕ
part_of None piece = piece
part_of (Some limit) piece = take limit piece

-- there is space for a piece more
abbrev pub has_space : MemSink → List ℕ → Bool
has_space sink piece = nat_le (length (taken_by sink) + length piece) sink.buffer.space

-- the next call takes the piece and does not fail
abbrev pub is_next_piece_taken : MemSink → List ℕ → Bool
is_next_piece_taken sink piece = has_space sink piece && is_none (next_limit sink)

-- what the sink holds after the next call; a part for which there is no space is not taken at all
abbrev pub bytes_after_call : MemSink → List ℕ → List ℕ
bytes_after_call sink piece =
    let part = part_of (next_limit sink) piece in if has_space sink part then taken_by sink ++ part else taken_by sink

-- a sink of this space with these failing calls, which was not yet called
pub record IsFreshSink (space : ℕ) (fails : List (ℕ × ℕ)) (sink : MemSink) : Type 0 where
  pub taken : taken_by sink ≡ []
  pub space_reserved : sink.buffer.space ≡ space
  pub failing_calls : sink.fails.items ≡ fails
  pub calls : sink.calls ≡ 0
  pub faults : sink.faults ≡ 0
  pub pieces : put_pieces sink ≡ []

-- one call was counted
pub record IsSinkCalled (old new : MemSink) : Type 0 where
  pub space_reserved : new.buffer.space ≡ old.buffer.space
  pub failing_calls : new.fails.items ≡ old.fails.items
  pub calls : new.calls ≡ next_call old.calls
