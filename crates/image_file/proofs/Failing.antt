-- How a file fails, from where a part of it does.
use Rattle.std.proofs.Common.{ℕ, List, ◌≡◌, Option, None, Some, Err, refl}
use Rattle.std.specs.Prelude.{Bool, true, false, IfNone}
use Rattle.std.specs.Option.{ok_or}
use Rattle.std.specs.Bool.{then_some}
use Rattle.image_file.specs.Limits.{header_size}
use Rattle.image_file.specs.Parts.{Parts, PartsStand}
use Rattle.image_file.specs.Faults.{IsImageErrorOf, HasMagic}
use Rattle.image_file.specs.Reading.{HasSizes, IsNamesError, NoNames, IsPartsError}
use Rattle.image_file.specs.declared.header.Sizes.{Sizes}
use Rattle.image_file.proofs.Parted.{body_of}
use Rattle.image_file.specs.declared.read.ImageFault.{ImageFault}
use Rattle.image_file.specs.declared.read.ImageFault.TheVariants as fault
use Rattle.image_file.specs.declared.read.FileError.{FileError}
use Rattle.image_file.specs.declared.read.FileError.TheVariants as failure

-- names that are missing are a fault of the parts, where without them none stand there
pub names_fail : (f : FileError ImageFault) (file : List ℕ) (at count place : ℕ) (s : Sizes)
    → (NoNames file at count → (p : Parts) (rest : List ℕ) → ¬ (PartsStand file place s p rest)) → IsNamesError f file at count → IsPartsError f file place s
names_fail (failure.Fault fault.I1) file at count place s none h = absurd h
names_fail (failure.Fault fault.I2) file at count place s none h = none h
names_fail (failure.Fault fault.I3) file at count place s none h = absurd h
names_fail (failure.Fault fault.I4) file at count place s none h = absurd h
names_fail (failure.Fault fault.I5) file at count place s none h = absurd h
names_fail failure.Memory file at count place s none h = h

-- parts that are missing behind the header are a fault of the file
pub parts_fail : (f : FileError ImageFault) (file : List ℕ) (s : Sizes) → HasMagic file → HasSizes file s → IsPartsError f file (header_size s.counters) s → IsImageErrorOf f file
parts_fail (failure.Fault fault.I1) file s magic has h = absurd h
parts_fail (failure.Fault fault.I2) file s magic has h = (magic, λ p rest parts. h p rest (body_of file s p rest has parts))
parts_fail (failure.Fault fault.I3) file s magic has h = absurd h
parts_fail (failure.Fault fault.I4) file s magic has h = absurd h
parts_fail (failure.Fault fault.I5) file s magic has h = absurd h
parts_fail failure.Memory file s magic has h = h

-- what `ok_or` passed on as an error is the fault, and there was nothing
pub missing : {T : Type 0} {P : Type 0} (found : Option T) (wanted told : ImageFault) → Err told ≡ ok_or found wanted → IfNone found P → P × (told ≡ wanted)
missing None wanted told same none = (none, cc)
missing (Some x) wanted told same none = absurd (cc)

-- nothing is given where the test fails
pub none_unless : {T : Type 0} {P : Type 0} (test : Bool) (x : T) → (test ≡ false → P) → IfNone (then_some test x) P
none_unless true x fails = tt
none_unless false x fails = fails refl
