-- The lines of bodies and of their items rise.
use Rattle.std.proofs.Common.{◌≡◌, ◌≤◌, ◌+◌, ◌∙◌, inl, inr, ℕ, suc, Bool, true, false, cond, List, [], ◌∷◌, ◌++◌, Option, Some, None, length, map, take, refl, sym, ap, arith}
use Rattle.std.specs.Prelude.{◌||◌, ◌&&◌, not, if◌then◌else◌}
use Rattle.std.specs.List.{prefix_len, take_while}
use Rattle.std.proofs.lemmas.List.Sums.{fold-append}
use Rattle.sloth_base.specs.declared.app.Func.{Func}
use Rattle.sloth_base.specs.declared.app.Item.{Item}
use Rattle.sloth_base.specs.declared.app.Op.{Op}
use Rattle.sloth_base.specs.declared.config.Config.{Config}
use Rattle.sloth_base.specs.declared.refusal.Code.TheVariants as code
use Rattle.sloth_base.specs.declared.refusal.Part.TheVariants as part
use Rattle.sloth_base.specs.declared.refusal.Refusal.{Refusal}
use Rattle.sloth_base.specs.Cases.{fault_at}
use Rattle.sloth_base.specs.Search.{SomeFrom}
use Rattle.asm_lines.specs.Forms.{is_body_end, is_body_start, is_outer}
use Rattle.asm_lines.specs.declared.forms.Mnemonic.{Mnemonic}
use Rattle.asm_lines.specs.declared.forms.Mnemonic.TheVariants as m
use Rattle.asm_lines.specs.Faults.{FaultAt, after_line, is_a1, is_end_inside, same_bool}
use Rattle.asm_lines.specs.declared.source_line.SourceLine.{SourceLine}
use Rattle.asm_lines.specs.declared.source_line.SourceLine.TheVariants.{Empty, Shapeless, Statement, Unknown}
use Rattle.asm_scopes.specs.Bodies.{BodyText, bodies_from}
use Rattle.asm_scopes.specs.Statements.{closes_body, label_names, opens_body}
use Rattle.asm_scopes.specs.declared.scope.Scope.{Scope}
use Rattle.asm_parse.specs.Apps.{func_of, item_by, items_from}
use Rattle.asm_parse.specs.Operations.{op_of}

-- ---- what rises

-- the lines of items, from one on up to another
abbrev pub ItemsRise : (from : ℕ) → List Item → (to : ℕ) → Type 0
ItemsRise from [] to = from ≤ to
ItemsRise from (i ∷ items) to = (from ≤ i.line) × ItemsRise i.line items to

-- a body, whose header has a line not before this one, and what follows its items
pub record BodyRises (from : ℕ) (f : Func) (Rest : ℕ → Type 0) : Type 0 where
  pub above : from ≤ f.line
  pub to : ℕ
  pub items : ItemsRise f.line f.items to
  pub rest : Rest to

-- the lines of bodies
abbrev pub BodiesRise : (from : ℕ) → List Func → (to : ℕ) → Type 0
BodiesRise from [] to = from ≤ to
BodiesRise from (f ∷ funcs) to = BodyRises from f (λ next. BodiesRise next funcs to)

-- ---- no body opens within a body

-- none opens before the next one that closes
abbrev Within : List SourceLine → Type 0
Within [] = Unit {0}
Within (l ∷ ls) = (closes_body l ≡ false → (opens_body l ≡ false) × Within ls)

-- so behind each one that opens
abbrev Nested : List SourceLine → Type 0
Nested [] = Unit {0}
Nested (l ∷ ls) = (opens_body l ≡ true → Within ls) × Nested ls

-- what stands in a body does not open one
inner : (m : Mnemonic) → is_outer m ≡ false → is_body_start m ≡ false
inner m.Task e = absurd (cc)
inner m.Func e = absurd (cc)
inner m.Data e = refl
inner _ e = refl

same : (b : Bool) → same_bool b true ≡ false → b ≡ false
same false e = refl
same true e = absurd (cc)

-- a line inside that is not misplaced does not open a body
placed : (l : SourceLine) → is_a1 true l ≡ false → opens_body l ≡ false
placed Empty e = refl
placed Shapeless e = refl
placed Unknown e = refl
placed (Statement m os) e = inner m (same (is_outer m) e)

-- behind a line that opens a body, and behind one in it that does not close it, is the inside of a body
opened : (inside : Bool) (l : SourceLine) → opens_body l ≡ true → after_line inside l ≡ true
opened inside Empty e = absurd (cc)
opened inside Shapeless e = absurd (cc)
opened inside Unknown e = absurd (cc)
opened inside (Statement m os) e = ap (λ b. b || (inside && not (is_body_end m))) e

still : (l : SourceLine) → closes_body l ≡ false → opens_body l ≡ false → after_line true l ≡ true
still Empty e o = refl
still Shapeless e o = refl
still Unknown e o = refl
still (Statement m os) e o = ap (λ b. b || not (is_body_end m)) o ∙ ap (λ b. not b) e

not-true : (b : Bool) → (b ≡ true → ⊥) → b ≡ false
not-true false h = refl
not-true true h = absurd (h refl)

pub nested : (inside : Bool) (before ls : List SourceLine) → is_end_inside before ≡ inside → ((r : Refusal) → SomeFrom FaultAt before ls r → ⊥)
    → (inside ≡ true → Within ls) × Nested ls
nested inside before [] e h = (λ is. tt, tt)
nested inside before (l ∷ ls) e h =
    let next = after_line inside l in
    let after : is_end_inside (before ++ l ∷ []) ≡ next = fold-append after_line false before (l ∷ []) ∙ ap (λ b. after_line b l) e in
    let rest = nested next (before ++ l ∷ []) ls after (λ r f. h r (inr f)) in
    let fine : is_a1 inside l ≡ false =
    not-true (is_a1 inside l) (λ is. h (fault_at part.Src (length before + 1) code.A1) (inl (inl (ap (λ b. is_a1 b l) e ∙ is, refl)))) in (
      λ is closes.
          let opens : opens_body l ≡ false = placed l (ap (λ b. is_a1 b l) (sym is) ∙ fine) in
          (opens, rest.0 (ap (λ b. after_line b l) is ∙ still l closes opens)),
      (λ opens. rest.0 (opened inside l opens), rest.1),
    )

-- ---- so lines rise

-- an item that a line is, in front of others
item-rises : (n from to : ℕ) (o : Option Op) (items : List Item) → from ≤ n → ItemsRise from items to → ItemsRise n items to → ItemsRise from (item_by n o ++ items) to
item-rises n from to None items le one other = one
item-rises n from to (Some o) items le one other = (le, other)

module _ (config : Config) (scope : Scope) where
  items_rise : (labels : List (List ℕ)) (n from to : ℕ) (ls : List SourceLine) → from ≤ n → n + length ls ≤ to → ItemsRise from (items_from config scope labels n ls) to
  items_rise labels n from to [] above below = omega (arith, above, below)
  items_rise labels n from to (l ∷ ls) above below =
      item-rises n from to (op_of config scope labels l) (items_from config scope labels (n + 1) ls) above
      (items_rise labels (n + 1) from to ls (omega (arith, above)) (omega (arith, below)))
      (items_rise labels (n + 1) n to ls (omega arith) (omega (arith, below)))

  -- the bodies of these lines rise
  abbrev Rising : (n from to : ℕ) → List SourceLine → Type 0
  Rising n from to ls = BodiesRise from (map (func_of config scope) (bodies_from n ls)) to

  abbrev body_lines : List SourceLine → List SourceLine
  body_lines ls = take_while (λ x. not (closes_body x)) ls

  passed : (from to : ℕ) (b : Bool) (body : BodyText) (bodies : List BodyText) → b ≡ false → BodiesRise from (map (func_of config scope) bodies) to
      → BodiesRise from (map (func_of config scope) (if b then body ∷ bodies else bodies)) to
  passed from to false body bodies e h = h
  passed from to true body bodies e h = absurd (cc)

  -- so do those of these lines, also those that begin behind lines of a body
  abbrev Both : (to n : ℕ) → List SourceLine → Type 0
  Both to n ls =
      ((from : ℕ) → from ≤ n → Rising n from to ls) × (Within ls → (from : ℕ) → from ≤ n + length (body_lines ls) → Rising n from to ls)

  abbrev own : (n : ℕ) → SourceLine → List SourceLine → BodyText
  own n l ls = record { line = n; header = l; lines = body_lines ls }

  opens : (to n from : ℕ) (l : SourceLine) (ls : List SourceLine) → from ≤ n → (b : Bool) → (b ≡ true → Within ls) → Both to (n + 1) ls
      → BodiesRise from (map (func_of config scope) (if b then own n l ls ∷ bodies_from (n + 1) ls else bodies_from (n + 1) ls)) to
  opens to n from l ls le false within rest = rest.0 from (omega (arith, le))
  opens to n from l ls le true within rest =
      let next = n + 1 + length (body_lines ls) in
      record {
        above = le;
        to = next;
        items = items_rise (label_names (body_lines ls)) (n + 1) n next (body_lines ls) (omega arith) (omega arith);
        rest = rest.1 (within refl) next (omega arith);
      }

  abbrev line_count : List SourceLine → ℕ
  line_count ls = prefix_len (λ x. not (closes_body x)) ls

  closes : (to n from : ℕ) (l : SourceLine) (ls : List SourceLine) (b : Bool) → (b ≡ false → (opens_body l ≡ false) × Within ls)
      → from ≤ n + length (take (cond (not b) (1 + line_count ls) 0) (l ∷ ls)) → Both to (n + 1) ls → (from ≤ n → Rising n from to (l ∷ ls)) → Rising n from to (l ∷ ls)
  closes to n from l ls true within le rest outside = outside (omega (arith, le))
  closes to n from l ls false within le rest outside =
      let o = within refl in
      let next : 1 + line_count ls ≡ suc (line_count ls) = omega arith in
      let long = ap (λ k. length (take k (l ∷ ls))) next in
      passed from to (opens_body l) (own n l ls) (bodies_from (n + 1) ls) o.0 (rest.1 o.1 from (omega (arith, le, long)))

  rising : (to n : ℕ) (ls : List SourceLine) → n + length ls ≤ to → Nested ls → Both to n ls
  rising to n [] below h = (λ from le. omega (arith, le, below), λ w from le. omega (arith, le, below))
  rising to n (l ∷ ls) below h =
      let rest = rising to (n + 1) ls (omega (arith, below)) h.1 in
      let outside : (from : ℕ) → from ≤ n → Rising n from to (l ∷ ls) = λ from le. opens to n from l ls le (opens_body l) h.0 rest in
      (outside, λ w from le. closes to n from l ls (closes_body l) w le rest (outside from))

  -- those of a source without a fault
  pub bodies_rise : (ls : List SourceLine) → ((r : Refusal) → SomeFrom FaultAt [] ls r → ⊥)
      → BodiesRise 1 (map (func_of config scope) (bodies_from 1 ls)) (1 + length ls)
  bodies_rise ls h = (rising (1 + length ls) 1 ls (omega arith) (nested false [] ls refl h).1).0 1 (omega arith)
