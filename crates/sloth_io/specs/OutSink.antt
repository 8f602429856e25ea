-- Standard output.
use Rattle.std.specs.Prelude.{◌≡◌, ℕ, List, [], ◌++◌, None, Some, false}
use Rattle.sloth_io.specs.Buffered.{bytes_in, pieces_in}
use Rattle.sloth_io.specs.Sink.{Output}
use Rattle.sloth_io.specs.declared.out_sink.OutSink.{OutSink}

-- the bytes that were put, in their order, those of calls that failed too
abbrev pub accepted_bytes : {P : Type 0} → OutSink P → List ℕ
accepted_bytes sink = bytes_in sink.accepted.items

-- the same, piece by piece
abbrev pub put_pieces : {P : Type 0} → OutSink P → List (List ℕ)
put_pieces sink = pieces_in sink.accepted.items

-- the bytes that the system took of those that it was given, in their order
abbrev pub given_bytes : {P : Type 0} → OutSink P → List ℕ
given_bytes sink = bytes_in sink.to.to.given.items

-- what standard output shows: the bytes that were put, and how many calls have failed
abbrev pub shown_output : {P : Type 0} → OutSink P → Output
shown_output sink = record { taken = Some (accepted_bytes sink); space = None; faults = sink.faults }

-- the bytes that were taken and are not yet written
abbrev pub held_back_bytes : {P : Type 0} → OutSink P → List ℕ
held_back_bytes sink = sink.to.backlog

-- no call has failed, and nothing is held back: what was put was given
abbrev pub IsPassedOn : {P : Type 0} → OutSink P → Type 0
IsPassedOn sink = (sink.broken ≡ false) × (held_back_bytes sink ≡ [])

-- these are the last bytes of a text
abbrev pub EndsWith : List ℕ → List ℕ → Type 0
EndsWith text last = (front : List ℕ) × (text ≡ front ++ last)
