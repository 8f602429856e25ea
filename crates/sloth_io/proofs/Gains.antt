-- What sinks take, piece after piece.
use Rattle.std.proofs.Common.{◌≡◌, ◌<◌, ◌+◌, ℕ, min, List, [], ◌∷◌, ◌++◌, length, Option, Some, None, refl, sym, ◌∙◌, ap, subst, arith}
use Rattle.std.proofs.Common.{append_assoc, append-nil, take, drop, Bool, true, false, cond}
use Rattle.std.specs.Prelude.{◌&&◌, nat_le, is_none}
use Rattle.std.proofs.lemmas.List.{take-append-drop, length-append}
use Rattle.sloth_io.specs.MemSink.{limit_of, part_of, told_space}
use Rattle.sloth_io.specs.Sink.{Output, longer_bytes, output_with, failed_output, GainsPart, HasNoSpace, FailsToPassOn}

longer-longer : (taken : Option (List ℕ)) (one other : List ℕ) → longer_bytes (longer_bytes taken one) other ≡ longer_bytes taken (one ++ other)
longer-longer None one other = refl
longer-longer (Some taken) one other = ap (λ x. Some x) (append_assoc taken one other)

longer-nil : (taken : Option (List ℕ)) → longer_bytes taken [] ≡ taken
longer-nil None = refl
longer-nil (Some taken) = ap (λ x. Some x) (append-nil taken)

-- two pieces, one after the other
pub gains-gains : (old : Output) (one other : List ℕ) → output_with (output_with old one) other ≡ output_with old (one ++ other)
gains-gains old one other =
    ap (λ (t : Option (List ℕ)). record { taken = t; space = old.space; faults = old.faults }) (longer-longer old.taken one other)

pub gains-nil : (old : Output) → output_with old [] ≡ old
gains-nil old = ap (λ (t : Option (List ℕ)). record { taken = t; space = old.space; faults = old.faults }) (longer-nil old.taken)

-- where there is no space for a piece behind a front, there is none for a text that begins with both
no-space-behind : (taken : Option (List ℕ)) (space : Option ℕ) (front piece more all : List ℕ) → all ≡ front ++ (piece ++ more)
    → HasNoSpace (longer_bytes taken front) space piece → HasNoSpace taken space all
no-space-behind taken None front piece more all e h = tt
no-space-behind None (Some space) front piece more all e h = tt
no-space-behind (Some taken) (Some space) front piece more all e h =
    let whole : length all ≡ length front + (length piece + length more) =
    ap length e ∙ length-append front (piece ++ more) ∙ ap (λ n. length front + n) (length-append piece more) in
    let before : length (taken ++ front) ≡ length taken + length front = length-append taken front in
    let full : space < length (taken ++ front) + length piece = h in
    omega (arith, whole, before, full)

-- a part of a piece, after a front of a text, is a part of the text
pub part-behind : (before between after : Output) (front piece more all : List ℕ) → between ≡ output_with before front
    → GainsPart between after piece → all ≡ front ++ (piece ++ more) → GainsPart before after all
part-behind before between after front piece more all h p e =
    let N : Output → Type 0 = λ x. HasNoSpace x.taken x.space piece in (
      front ++ p.0,
      p.1 ++ more,
      e ∙ ap (λ x. front ++ (x ++ more)) p.2 ∙ ap (λ x. front ++ x) (append_assoc p.0 p.1 more) ∙ sym (append_assoc front p.0 (p.1 ++ more)),
      p.3 ∙ ap (λ x. failed_output (output_with x p.0)) h ∙ ap failed_output (gains-gains before front p.0),
      no-space-behind before.taken before.space front piece more all e (subst N h p.4),
    )

-- a text that was taken and could not be handed on: all of it is the part that was taken
pub part-whole : (old mid new : Output) (text : List ℕ) → mid ≡ output_with old text → FailsToPassOn mid new → GainsPart old new text
part-whole old mid new text took failed =
    let untold : old.space ≡ None = sym (ap (λ (x : Output). x.space) took) ∙ failed.0 in
    let none : HasNoSpace old.taken old.space text = subst (λ (s : Option ℕ). HasNoSpace old.taken s text) (sym untold) tt in
    (text, [], sym (append-nil text), failed.1 ∙ ap failed_output took, none)

-- what a sink in memory shows
abbrev pub sink_shown : List ℕ → ℕ → List (ℕ × ℕ) → ℕ → Output
sink_shown taken space calls faults = record { taken = Some taken; space = told_space space calls; faults = faults }

-- a failed call that took this much
after-failure : (new took : List ℕ) (kept space faults after : ℕ) (calls : List (ℕ × ℕ)) → new ≡ took → kept ≡ space
    → after ≡ min (faults + 1) 18446744073709551615 → sink_shown new kept calls after ≡ failed_output (sink_shown took space calls faults)
after-failure new took kept space faults after calls e k f =
    ap (λ x. sink_shown x kept calls after) e ∙ ap (λ s. sink_shown took s calls after) k ∙ ap (λ n. sink_shown took space calls n) f

-- a call that is to fail, or for which there is no space, takes some first part of its piece
pub part-taken : (limit : Option ℕ) (done : Bool) (old new piece : List ℕ) (space kept call faults after : ℕ) (calls : List (ℕ × ℕ))
    → new ≡ cond done (old ++ part_of limit piece) old → done ≡ nat_le (length old + length (part_of limit piece)) space → kept ≡ space
    → limit ≡ limit_of call calls → (done && is_none limit) ≡ false → after ≡ min (faults + 1) 18446744073709551615
    → GainsPart (sink_shown old space calls faults) (sink_shown new kept calls after) piece
part-taken None true old new piece space kept call faults after calls e d k l failed f = cc
part-taken None false old new piece space kept call faults after [] e d k l failed f = (
  [],
  piece,
  refl,
  after-failure new (old ++ []) kept space faults after [] (e ∙ sym (append-nil old)) k f,
  grind (arith, d),
)
part-taken None false old new piece space kept call faults after (x ∷ rest) e d k l failed f =
    ([], piece, refl, after-failure new (old ++ []) kept space faults after (x ∷ rest) (e ∙ sym (append-nil old)) k f, tt)
part-taken (Some limit) true old new piece space kept call faults after [] e d k l failed f = cc
part-taken (Some limit) true old new piece space kept call faults after (x ∷ rest) e d k l failed f = (
  take limit piece,
  drop limit piece,
  sym (take-append-drop limit piece),
  after-failure new (old ++ take limit piece) kept space faults after (x ∷ rest) e k f,
  tt,
)
part-taken (Some limit) false old new piece space kept call faults after [] e d k l failed f = cc
part-taken (Some limit) false old new piece space kept call faults after (x ∷ rest) e d k l failed f =
    ([], piece, refl, after-failure new (old ++ []) kept space faults after (x ∷ rest) (e ∙ sym (append-nil old)) k f, tt)
