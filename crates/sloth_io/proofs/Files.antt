-- The files of a store in memory.
use Rattle.std.proofs.Common.{◌≡◌, ◌≢◌, ◌<◌, ◌⊎◌, ℕ, zero, suc, List, [], ◌∷◌, map, length, Some, None, Bool, true, false, cond, refl, sym, ◌∙◌, ap, arith, get_or, inl, inr}
use Rattle.std.specs.Str.{bytes_eq}
use Rattle.std.proofs.Math.ListN.{set}
use Rattle.std.proofs.lemmas.Slice.Eq.{bytes_eq-Decides}
use Rattle.sloth_io.specs.Slots.{IsFilePlace, bytes_named, file_named, file_of, has_space, space_named, files_with}
use Rattle.sloth_io.specs.declared.mem_store.MemFile.{MemFile}
use Rattle.sloth_io.specs.declared.mem_store.Slot.{Slot}

-- a file of these parts
abbrev pub mem_file : List ℕ → List ℕ → ℕ → MemFile
mem_file name bytes space = record { name = name; bytes = bytes; space = space }

either : (b : Bool) → (b ≡ true) ⊎ (b ≡ false)
either true = inl refl
either false = inr refl

differ : (b : Bool) (x y : List ℕ) → bytes_eq x y ≡ b → x ≢ y → b ≡ false
differ true x y e n = absurd (n ((bytes_eq-Decides x y).0 e))
differ false x y e n = refl

-- the first slot of a name stands at its place
pub place_by : (name : List ℕ) (slots : List Slot) (i : ℕ) (s : Slot) → i < length slots → s ≡ get_or slots i s → bytes_eq s.name name ≡ true
    → ((k : ℕ) (d : Slot) → k < i → bytes_eq (get_or slots k d).name name ≡ false) → IsFilePlace name (map file_of slots) i
place_by name [] i s lt e here before = absurd (omega arith)
place_by name (f ∷ fs) zero s lt e here before = rw (← e) here
place_by name (f ∷ fs) (suc i) s lt e here before =
    (before 0 s (omega arith), place_by name fs i s (omega arith) e here (λ k d h. before (suc k) d (omega arith)))

-- where no slot has the name, there is no such file
pub absent : (name : List ℕ) (slots : List Slot)
    → ((k : ℕ) (d : Slot) → k < length slots → bytes_eq (get_or slots k d).name name ≡ false) → file_named name (map file_of slots) ≡ None
absent name [] h = refl
absent name (f ∷ fs) h =
    let off : bytes_eq f.name name ≡ false = h 0 f (omega arith) in rw off (absent name fs (λ k d lt. h (suc k) d (omega arith)))

-- the file at its place is the file of the name
pub found_at : (name : List ℕ) (slots : List Slot) (k : ℕ) (s : Slot) → IsFilePlace name (map file_of slots) k → s ≡ get_or slots k s
    → file_named name (map file_of slots) ≡ Some (file_of s)
found_at name [] k s h e = absurd h
found_at name (f ∷ fs) zero s h e = rw h (ap (λ x. Some (file_of x)) (sym e))
found_at name (f ∷ fs) (suc k) s h e = let off : bytes_eq f.name name ≡ false = h.0 in rw off (found_at name fs k s h.1 e)

-- the slot at its place is written, or kept as it is
pub replaced : (name bytes : List ℕ) (slots : List Slot) (k : ℕ) (s t : Slot) (done : Bool) → IsFilePlace name (map file_of slots) k
    → s ≡ get_or slots k s → file_of t ≡ cond done (record (file_of s) { bytes = bytes }) (file_of s)
    → map file_of (set slots k t) ≡ cond done (files_with name bytes (map file_of slots)) (map file_of slots)
replaced name bytes [] k s t done h e q = absurd h
replaced name bytes (f ∷ fs) zero s t true h e q =
    rw h (ap (λ x. x ∷ map file_of fs) (q ∙ ap (λ x. record (file_of x) { bytes = bytes }) e))
replaced name bytes (f ∷ fs) zero s t false h e q = ap (λ x. x ∷ map file_of fs) (q ∙ ap file_of e)
replaced name bytes (f ∷ fs) (suc k) s t true h e q =
    let off : bytes_eq f.name name ≡ false = h.0 in rw off (ap (λ x. file_of f ∷ x) (replaced name bytes fs k s t true h.1 e q))
replaced name bytes (f ∷ fs) (suc k) s t false h e q = ap (λ x. file_of f ∷ x) (replaced name bytes fs k s t false h.1 e q)

-- the written file holds the bytes
pub bytes_named-written : (name bytes : List ℕ) (size : ℕ) (files : List MemFile) → has_space name size files ≡ true
    → bytes_named name (files_with name bytes files) ≡ Some bytes
bytes_named-written name bytes size [] h = cc
bytes_named-written name bytes size (f ∷ fs) h =
    elim (either (bytes_eq f.name name)) [
      | inl on ↦ rw (on, on) refl
      | inr off ↦ rw (off, off) (bytes_named-written name bytes size fs (rw off at h))
    ]

-- and each other file what it held
pub bytes_named-written_other : (name bytes other : List ℕ) (files : List MemFile) → other ≢ name
    → bytes_named other (files_with name bytes files) ≡ bytes_named other files
bytes_named-written_other name bytes other [] n = refl
bytes_named-written_other name bytes other (f ∷ fs) n =
    elim (either (bytes_eq f.name name)) [
      | inl on ↦
          let same : f.name ≡ name = (bytes_eq-Decides f.name name).0 on in
          let off : bytes_eq f.name other ≡ false = differ (bytes_eq f.name other) f.name other refl (λ q. n (sym q ∙ same)) in
          rw (on, off) refl
      | inr off ↦
          elim (either (bytes_eq f.name other)) [
            | inl is ↦ rw (off, is) refl
            | inr not_it ↦ rw (off, not_it) (bytes_named-written_other name bytes other fs n)
          ]
    ]

-- a file with these bytes in place of its own, or as it is
pub as_replaced : (name bytes old new : List ℕ) (space kept : ℕ) (done : Bool) → new ≡ cond done bytes old → kept ≡ space
    → mem_file name new kept ≡ cond done (mem_file name bytes space) (mem_file name old space)
as_replaced name bytes old new space kept true e q = rw (e, q) refl
as_replaced name bytes old new space kept false e q = rw (e, q) refl

-- a write changes no file's space
pub space_named-written : (name bytes other : List ℕ) (files : List MemFile)
    → space_named other (files_with name bytes files) ≡ space_named other files
space_named-written name bytes other [] = refl
space_named-written name bytes other (f ∷ fs) =
    elim (either (bytes_eq f.name name)) [
      | inl on ↦
          rw on (
          elim (either (bytes_eq f.name other)) [
            | inl is ↦ rw is refl
            | inr not_it ↦ rw not_it refl
          ]
          )
      | inr off ↦
          rw off (
          elim (either (bytes_eq f.name other)) [
            | inl is ↦ rw is refl
            | inr not_it ↦ rw not_it (space_named-written name bytes other fs)
          ]
          )
    ]
