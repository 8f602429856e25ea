-- Bytes are one row of operations at most.
use Rattle.std.proofs.Common.{◌≡◌, ℕ, List, [], ◌∷◌, ◌++◌, All, get_or, refl, sym, ap, ◌∙◌, arith}
use Rattle.std.specs.List.{flat_map}
use Rattle.std.proofs.lemmas.List.Elements.{All-head, All-tail}
use Rattle.image_file.specs.Fields.{four_bytes}
use Rattle.image_file.proofs.Unique.{Splits, four}
use Rattle.symbol_image.specs.Fields.{negative_leb, signed_leb, unsigned_leb}
use Rattle.symbol_image.specs.LineMachine.{AdvanceLine, AdvancePc, Copy, EndSequence, HasMatrix, IsOperation, MatrixRow, Operation, RetreatLine, SetAddress, SetFile, at_first, matrix_of, operation_bytes}
use Rattle.symbol_image.proofs.Groups.{negative, signed, signs_differ, unsigned}

-- an operation is determined by its bytes
operation : (x y : Operation) (r s : List ℕ) → IsOperation x → IsOperation y → operation_bytes x ++ r ≡ operation_bytes y ++ s → Splits x y r s
operation Copy Copy r s p q e = let t : r ≡ s = cc in (refl, t)
operation EndSequence EndSequence r s p q e = let t : r ≡ s = cc in (refl, t)
operation (AdvancePc m) (AdvancePc n) r s p q e =
    let t : unsigned_leb m ++ r ≡ unsigned_leb n ++ s = cc in
    let h : Splits m n r s = unsigned m n r s p q t in
    (ap AdvancePc h.0, h.1)
operation (AdvanceLine m) (AdvanceLine n) r s p q e =
    let t : signed_leb m ++ r ≡ signed_leb n ++ s = cc in
    let h : Splits m n r s = signed m n r s p q t in
    (ap AdvanceLine h.0, h.1)
operation (RetreatLine m) (RetreatLine n) r s p q e =
    let t : negative_leb m ++ r ≡ negative_leb n ++ s = cc in
    let h : Splits m n r s = negative m n r s p.1 q.1 t in
    (ap RetreatLine h.0, h.1)
operation (AdvanceLine m) (RetreatLine n) r s p q e =
    let t : signed_leb m ++ r ≡ negative_leb n ++ s = cc in
    absurd (signs_differ m n r s p q.0 q.1 t)
operation (RetreatLine m) (AdvanceLine n) r s p q e =
    let t : signed_leb n ++ s ≡ negative_leb m ++ r = cc in
    absurd (signs_differ n m s r q p.0 p.1 t)
operation (SetFile m) (SetFile n) r s p q e =
    let t : unsigned_leb m ++ r ≡ unsigned_leb n ++ s = cc in
    let h : Splits m n r s = unsigned m n r s p q t in
    (ap SetFile h.0, h.1)
operation (SetAddress m) (SetAddress n) r s p q e =
    let t : four_bytes m ++ r ≡ four_bytes n ++ s = cc in
    let h : Splits m n r s = four m n r s p q t in
    (ap SetAddress h.0, h.1)
operation x y r s p q e =
    let first : get_or (operation_bytes x ++ r) 0 0 ≡ get_or (operation_bytes y ++ s) 0 0 = ap (λ b. get_or b 0 0) e in
    let second : get_or (operation_bytes x ++ r) 1 0 ≡ get_or (operation_bytes y ++ s) 1 0 = ap (λ b. get_or b 1 0) e in
    absurd (omega arith)

some : (x : Operation) (r : List ℕ) → [] ≡ operation_bytes x ++ r → ⊥
some Copy r e = cc
some (AdvancePc n) r e = cc
some (AdvanceLine n) r e = cc
some (RetreatLine n) r e = cc
some (SetFile n) r e = cc
some EndSequence r e = cc
some (SetAddress n) r e = cc

operations : (xs ys : List Operation) → All IsOperation xs → All IsOperation ys → flat_map operation_bytes xs ≡ flat_map operation_bytes ys → xs ≡ ys
operations [] [] p q e = refl
operations [] (y ∷ ys) p q e = absurd (some y _ e)
operations (x ∷ xs) [] p q e = absurd (some x _ (sym e))
operations (x ∷ xs) (y ∷ ys) p q e =
    let h : Splits x y (flat_map operation_bytes xs) (flat_map operation_bytes ys) =
    operation x y _ _ (All-head IsOperation x xs p) (All-head IsOperation y ys q) e in
    let head : x ≡ y = h.0 in
    let tail : xs ≡ ys = operations xs ys (All-tail IsOperation x xs p) (All-tail IsOperation y ys q) h.1 in
    cc

pub one_matrix : (program : List ℕ) (one other : List MatrixRow) → HasMatrix program one → HasMatrix program other → one ≡ other
one_matrix program one other m n =
    m.makes ∙ (ap (matrix_of at_first) (operations m.operations n.operations m.in_range n.in_range (sym m.are ∙ n.are)) ∙ sym n.makes)
