-- Reading line after line, up to the first fault, whatever a line says.
use Rattle.std.proofs.Common.{◌≡◌, ◌∙◌, inl, inr, ⊎_elim, ℕ, ◌+◌, ◌<◌, List, [], ◌∷◌, ◌++◌, Some, None, map, take, get_or, length, add-one, arith, refl, sym, ap, subst}
use Rattle.std.specs.Prelude.{Bool, filter}
use Rattle.std.proofs.lemmas.List.{length-take-le, length-map, map-append, get_or-map}
use Rattle.std.proofs.lemmas.List.Elements.{filter-append}
use Rattle.std.proofs.Math.Seq.{take-suc}
use Rattle.std.proofs.Common.{length-append}
use Rattle.std.specs.Borrow.{Bor}
use Rattle.text_pieces.specs.Names.{referent}
use Rattle.sloth_base.specs.declared.refusal.Refusal.{Refusal}
use Rattle.sloth_base.specs.declared.refusal.BuildError.{BuildError}
use Rattle.sloth_base.specs.declared.refusal.BuildError.TheVariants.{Refused, Memory}
use Rattle.sloth_base.specs.Order.{IsLeast, NoFault, ErrorIs}
use Rattle.sloth_base.specs.Search.{SomeFrom, Somewhere, merge, lesser}
use Rattle.sloth_base.proofs.Kept.{Loop, loop_more}

-- The lines that say something say a value each; the faults of a line are told by the values before it and by its number.
module _ {V : Type 0} (says : List ℕ → Bool) (value : List ℕ → V) (Fault : List V → ℕ → List ℕ → Refusal → Type 0)
    (own_line : (before : List V) (n : ℕ) (line : List ℕ) (r : Refusal) → Fault before n line r → r.line ≡ n) where
  -- the values of these lines
  abbrev pub values : List (List ℕ) → List V
  values ls = map value (filter says ls)

  -- the faults of a line, which these lines stand before
  abbrev pub At : List (List ℕ) → List ℕ → Refusal → Type 0
  At front line r = Fault (values front) (length front + 1) line r

  values-append : (xs ys : List (List ℕ)) → values (xs ++ ys) ≡ values xs ++ values ys
  values-append xs ys = ap (map value) (filter-append says xs ys) ∙ map-append value (filter says xs) (filter says ys)

  -- those of one line more
  pub values-more : (ls : List (List ℕ)) (i : ℕ) (line : List ℕ) → i < length ls → line ≡ get_or ls i line
      → values (take i ls) ++ values (line ∷ []) ≡ values (take (i + 1) ls)
  values-more ls i line h e =
      let t : take (i + 1) ls ≡ take i ls ++ line ∷ [] = rw add-one (take-suc ls i line h ∙ ap (λ y. take i ls ++ y ∷ []) (sym e)) in
      sym (ap values t ∙ values-append (take i ls) (line ∷ []))

  later : (front ls : List (List ℕ)) (r : Refusal) → SomeFrom At front ls r → length front < r.line
  later front [] r h = absurd h
  later front (line ∷ ls) r (inl f) = let e = own_line (values front) (length front + 1) line r f in omega (arith, e)
  later front (line ∷ ls) r (inr f) =
      let ih = later (front ++ line ∷ []) ls r f in
      let l : length (front ++ line ∷ []) ≡ length front + 1 = length-append front (line ∷ []) in omega (arith, ih, l)

  -- the least fault of the first line that has one is that of all
  first-fault : (ls : List (List ℕ)) (i : ℕ) (line : List ℕ) (r : Refusal) → i < length ls → line ≡ get_or ls i line
      → IsLeast (At (take i ls) line) r → Loop At ls i None → IsLeast (Somewhere At ls) r
  unfolding merge lesser
  first-fault ls i line r h e least loop =
      let more = loop_more At ls i line None (Some r) (Some r) h e least refl loop in
      let here = own_line (values (take i ls)) (length (take i ls) + 1) line r least.is_fault in
      let before : length (take i ls) ≡ i = length-take-le i ls (omega (arith, h)) in
      let one_more : length (take (i + 1) ls) ≡ i + 1 = length-take-le (i + 1) ls (omega (arith, h)) in
      record {
        is_fault = more.own r refl;
        is_least = λ s f. ⊎_elim (λ g. let l = later (take (i + 1) ls) _ s g in inl (omega (arith, l, here, before, one_more))) (λ b. b) (more.all s f);
      }

  -- a line in its place, behind these values
  pub record IsNext (ls : List (List ℕ)) (i : ℕ) (before : List V) (line : List ℕ) : Type 0 where
    pub inside : i < length ls
    pub line_is : line ≡ get_or ls i line
    pub behind : before ≡ values (take i ls)
    pub sound : Loop At ls i None

  pub next-of : (parts : List (Bor (List ℕ))) (i : ℕ) (before : List V) (d : Bor (List ℕ)) → i < length parts
      → before ≡ values (take i (map referent parts)) → Loop At (map referent parts) i None
      → IsNext (map referent parts) i before (get_or parts i d).now
  next-of parts i before d h behind sound = record {
    inside = omega (arith, h, length-map parts referent);
    line_is = sym (get_or-map referent parts i d (get_or parts i d).now h);
    behind = behind;
    sound = sound;
  }

  -- a fact of the faults of a line, in the words of all lines
  in-place : (Fact : (Refusal → Type 0) → Type 0) (ls : List (List ℕ)) (i : ℕ) (before : List V) (line : List ℕ) → IsNext ls i before line
      → Fact (Fault before (i + 1) line) → Fact (At (take i ls) line)
  in-place Fact ls i before line next h =
      let inside = next.inside in
      let place : i ≡ length (take i ls) = sym (length-take-le i ls (omega (arith, inside))) in
      subst (λ (xs : List V). Fact (Fault xs (length (take i ls) + 1) line)) next.behind
      (subst (λ (k : ℕ). Fact (Fault before (k + 1) line)) place h)

  -- a line without a fault
  pub one-sound : (ls : List (List ℕ)) (i : ℕ) (before : List V) (line : List ℕ) → IsNext ls i before line
      → NoFault (Fault before (i + 1) line) → Loop At ls (i + 1) None
  unfolding merge
  one-sound ls i before line next h =
      loop_more At ls i line None None None next.inside next.line_is (in-place NoFault ls i before line next h) refl next.sound

  -- the error of a line is that of all lines
  pub first-error : (ls : List (List ℕ)) (i : ℕ) (before : List V) (line : List ℕ) (e : BuildError) → IsNext ls i before line
      → ErrorIs (Fault before (i + 1) line) e → ErrorIs (Somewhere At ls) e
  first-error ls i before line Memory next h = tt
  first-error ls i before line (Refused r) next h =
      first-fault ls i line r next.inside next.line_is (in-place (λ F. IsLeast F r) ls i before line next h) next.sound
