-- The parts of a text, one by one.
use Rattle.std.proofs.Common.{◌≡◌, ◌+◌, ◌<◌, ◌≤◌, ◌==◌, ℕ, suc, List, [], ◌∷◌, Option, Some, None, Result, Ok, Err, Bool, true, false, cond, if◌then◌else◌, length, take, drop, nat_lt, not, refl, sym, ◌∙◌, ap, arith, ⊎_elim}
use Rattle.std.proofs.lemmas.Bool.{ltb-true, lt-ltb, le-ltb, cases_lt}
use Rattle.std.proofs.lemmas.List.{length-drop}
use Rattle.std.specs.List.{position_or_len}
use Rattle.debug_session.specs.declared.replies.Request.{Request}
use Rattle.debug_session.specs.declared.replies.Request.TheVariants as asks
use Rattle.debug_ways.specs.declared.standing.Step.{Step}
use Rattle.debug_session.specs.Words.{front, has, behind}
use Rattle.debug_session.specs.Actions.{parts_of, with_byte, part_step, on_step, parts_request, chosen_request}

-- the parts behind the first one
abbrev pub further_parts : ℕ → Option (List ℕ) → List (List ℕ)
further_parts mark None = []
further_parts mark (Some text) = parts_of mark text

-- the parts of a text where the first mark stands at a place
abbrev cut-at : (mark byte : ℕ) → List ℕ → ℕ → List (List ℕ)
cut-at mark byte text k = take k (byte ∷ text) ∷ further_parts mark (if nat_lt k (length (byte ∷ text)) then Some (drop (k + 1) (byte ∷ text)) else None)

cut-first : (mark byte : ℕ) (text : List ℕ) → [] ∷ parts_of mark text ≡ cut-at mark byte text 0
cut-first mark byte text =
    let one : suc 0 ≡ 0 + 1 = omega arith in
    let some : nat_lt 0 (length (byte ∷ text)) ≡ true = lt-ltb 0 (length (byte ∷ text)) (omega arith) in
    ap (λ k. [] ∷ parts_of mark (drop k (byte ∷ text))) one
    ∙ sym (ap (λ b. [] ∷ further_parts mark (if b then Some (drop (0 + 1) (byte ∷ text)) else None)) some)

one-further : (n : ℕ) (byte : ℕ) (text : List ℕ) → nat_lt n (length text) ≡ nat_lt (suc n) (length (byte ∷ text))
one-further n byte text =
    ⊎_elim (λ (l : n < length text). lt-ltb n (length text) l ∙ sym (lt-ltb (suc n) (length (byte ∷ text)) (omega arith)))
    (λ (le : length text ≤ n). le-ltb n (length text) le ∙ sym (le-ltb (suc n) (length (byte ∷ text)) (omega arith)))
    (cases_lt n (length text))

cut-later : (mark byte : ℕ) (text : List ℕ) (n : ℕ)
    → (byte ∷ take n text) ∷ further_parts mark (if nat_lt n (length text) then Some (drop (n + 1) text) else None) ≡ cut-at mark byte text (1 + n)
cut-later mark byte text n =
    let one : suc n ≡ 1 + n = omega arith in
    let more : suc (n + 1) ≡ suc n + 1 = omega arith in
    ap (λ k. (byte ∷ take n text) ∷ further_parts mark (if nat_lt n (length text) then Some (drop k (byte ∷ text)) else None)) more
    ∙ ap (λ b. (byte ∷ take n text) ∷ further_parts mark (if b then Some (drop (suc n + 1) (byte ∷ text)) else None)) (one-further n byte text)
    ∙ ap (cut-at mark byte text) one

by-mark : (mark byte : ℕ) (text : List ℕ) (b : Bool) → (byte == mark) ≡ b → parts_of mark text ≡ front mark text ∷ further_parts mark (behind mark text)
    → parts_of mark (byte ∷ text) ≡ front mark (byte ∷ text) ∷ further_parts mark (behind mark (byte ∷ text))
by-mark mark byte text true is rest =
    ap (λ b. if b then [] ∷ parts_of mark text else with_byte byte (parts_of mark text)) is ∙ cut-first mark byte text
    ∙ sym (ap (λ b. cut-at mark byte text (cond (not b) (1 + position_or_len (λ x. x == mark) text) 0)) is)
by-mark mark byte text false is rest =
    ap (λ b. if b then [] ∷ parts_of mark text else with_byte byte (parts_of mark text)) is ∙ ap (with_byte byte) rest
    ∙ cut-later mark byte text (position_or_len (λ x. x == mark) text)
    ∙ sym (ap (λ b. cut-at mark byte text (cond (not b) (1 + position_or_len (λ x. x == mark) text) 0)) is)

-- the first part is what stands in front of the first mark, and the others are those of what stands behind it
pub first_part : (mark : ℕ) (text : List ℕ) → parts_of mark text ≡ front mark text ∷ further_parts mark (behind mark text)
first_part mark [] = refl
first_part mark (byte ∷ text) = by-mark mark byte text (byte == mark) refl (first_part mark text)

shorter-by : (text rest : List ℕ) (at : ℕ) (b : Bool) → nat_lt at (length text) ≡ b → (if b then Some (drop (at + 1) text) else None) ≡ Some rest → length rest < length text
shorter-by text rest at true there is =
    let e : drop (at + 1) text ≡ rest = cc in
    let l = ltb-true at (length text) there in
    let d = length-drop (at + 1) text in
    let s = ap length e in
    omega (arith, l, d, s)
shorter-by text rest at false there is = cc

-- what stands behind a mark is shorter
pub behind_shorter : (mark : ℕ) (text rest : List ℕ) → behind mark text ≡ Some rest → length rest < length text
behind_shorter mark text rest is = shorter-by text rest (position_or_len (λ byte. byte == mark) text) (has mark text) refl is

-- ---- the actions of parts

-- what the parts of a text ask by its first part
by-part : (tasks : ℕ) (only : Bool) (rest part : List ℕ) (chosen : Option Step) (more : Option (List ℕ)) → part ≡ front 59 rest → behind 59 rest ≡ more
    → parts_request tasks only (parts_of 59 rest) chosen ≡ on_step (part_step tasks part chosen) (λ next. parts_request tasks only (further_parts 59 more) next)
by-part tasks only rest part chosen more is follows =
    ap (λ ps. parts_request tasks only ps chosen) (first_part 59 rest)
    ∙ ap (λ m. on_step (part_step tasks (front 59 rest) chosen) (λ next. parts_request tasks only (further_parts 59 m) next)) follows
    ∙ sym (ap (λ p. on_step (part_step tasks p chosen) (λ next. parts_request tasks only (further_parts 59 more) next)) is)

-- the first part is at fault
pub part_refused : (tasks fault : ℕ) (only : Bool) (rest part : List ℕ) (chosen : Option Step) (told : Result (Option Step) ℕ) (all : Request) → part ≡ front 59 rest
    → told ≡ part_step tasks part chosen → told ≡ Err fault → parts_request tasks only (parts_of 59 rest) chosen ≡ all → asks.Fault fault ≡ all
part_refused tasks fault only rest part chosen told all is by fails before =
    sym (ap (λ r. on_step r (λ next. parts_request tasks only (further_parts 59 (behind 59 rest)) next)) (sym by ∙ fails))
    ∙ sym (by-part tasks only rest part chosen (behind 59 rest) is refl) ∙ before

-- it is not
pub part_passed : (tasks : ℕ) (only : Bool) (rest part further : List ℕ) (chosen step : Option Step) (told : Result (Option Step) ℕ) (all : Request) → part ≡ front 59 rest
    → behind 59 rest ≡ Some further → told ≡ part_step tasks part chosen → told ≡ Ok step → parts_request tasks only (parts_of 59 rest) chosen ≡ all
    → parts_request tasks only (parts_of 59 further) step ≡ all
part_passed tasks only rest part further chosen step told all is follows by passes before =
    sym (ap (λ r. on_step r (λ next. parts_request tasks only (parts_of 59 further) next)) (sym by ∙ passes))
    ∙ sym (by-part tasks only rest part chosen (Some further) is follows) ∙ before

-- it is the last one
pub part_last : (tasks : ℕ) (only : Bool) (rest part : List ℕ) (chosen step : Option Step) (told : Result (Option Step) ℕ) (all : Request) → part ≡ front 59 rest
    → behind 59 rest ≡ None → told ≡ part_step tasks part chosen → told ≡ Ok step → parts_request tasks only (parts_of 59 rest) chosen ≡ all
    → chosen_request only step ≡ all
part_last tasks only rest part chosen step told all is none by passes before =
    sym (ap (λ r. on_step r (chosen_request only)) (sym by ∙ passes)) ∙ sym (by-part tasks only rest part chosen None is none) ∙ before
