-- The items and labels of a body whose lines were read, and whose names exist.
use Rattle.std.proofs.Common.{suc, ◌≡◌, ◌∙◌, ap, sym, refl, subst, ⊎_elim, ◌⊎◌, inl, inr, ℕ, ◌+◌, ◌≤◌, Bool, true, false, cond, List, [], ◌∷◌, ◌++◌, length, map, Option, Some, None, arith, count_by}
use Rattle.std.specs.Prelude.{◌==◌, if◌then◌else◌, All, filter}
use Rattle.std.specs.List.{AllByRecursion}
use Rattle.std.proofs.lemmas.Bool.{leb-true, or_parts}
use Rattle.std.proofs.lemmas.Bool.Decides.{eqb_tells}
use Rattle.std.proofs.lemmas.List.{length-append}
use Rattle.std.proofs.lemmas.List.Elements.{All-nil, All-cons, All-append}
use Rattle.std.proofs.lemmas.List.Sums.{sum_by-cons}
use Rattle.sloth_base.specs.declared.app.App.{App}
use Rattle.sloth_base.specs.declared.app.Func.{Func}
use Rattle.sloth_base.specs.declared.app.Item.{Item}
use Rattle.sloth_base.specs.declared.app.Label.{Label}
use Rattle.sloth_base.specs.declared.app.Op.{Op}
use Rattle.sloth_base.specs.declared.config.Config.{Config}
use Rattle.asm_lines.specs.declared.operands.Operand.{Operand}
use Rattle.asm_lines.specs.declared.source_line.SourceLine.{SourceLine}
use Rattle.asm_lines.specs.declared.source_line.SourceLine.TheVariants.{Statement}
use Rattle.asm_lines.specs.declared.forms.Mnemonic.TheVariants as m
use Rattle.asm_scopes.specs.declared.scope.Kind.TheVariants as kind
use Rattle.asm_scopes.specs.declared.scope.Scope.{Scope}
use Rattle.asm_scopes.specs.Statements.{is_item, is_label, name_of, label_names, written_name}
use Rattle.asm_scopes.specs.Scopes.{is_lacking, any_unknown, has_unknown}
use Rattle.asm_parse.specs.Operations.{op_of, resource_number, behind_first}
use Rattle.asm_parse.specs.Apps.{item_by, count_op, items_from, held_resource_by, holds_of, label_holds, label_of, labels_from}
use Rattle.code_rules.specs.AppRange.{IsOp, IsResource}
use Rattle.asm_parse.proofs.Known.{IsKnown}
use Rattle.asm_parse.proofs.Operands.{Names, some_of, all_names}
use Rattle.asm_parse.proofs.Read.{IsRead}
use Rattle.asm_parse.proofs.OpsRange.{ranged}

-- a label, or another line
pub label_or : (P : SourceLine → Type 0) → ((os : List Operand) → P (Statement m.Label os)) → ((l : SourceLine) → is_label l ≡ false → P l) → (l : SourceLine) → P l
label_or P f g (Statement m.Label os) = f os
label_or P f g (Statement k os) = g (Statement k os) refl
label_or P f g l = g l refl

not_first : (j : ℕ) → 1 ≤ j → (if j == 0 then kind.Declared else kind.Resource) ≡ kind.Resource
not_first j h = ⊎_elim (λ t. absurd (let e = t.1 in omega (arith, e, h))) (λ t. rw t.0 refl) (eqb_tells j 0)

length_item : (n : ℕ) (o : Option Op) → length (item_by n o) ≡ count_op o
length_item n None = refl
length_item n (Some o) = refl

module _ (config : Config) (scope : Scope) (labels : List (List ℕ)) where
  -- the labels of a body have the names that its lines say
  pub names_of_labels : (n items : ℕ) (ls : List SourceLine) → map (λ (l : Label). l.name) (labels_from config scope labels n items ls) ≡ label_names ls
  names_of_labels n items [] = refl
  names_of_labels n items (l ∷ ls) = by (is_label l) (names_of_labels (n + 1) (items + count_op (op_of config scope labels l)) ls)
    where
      rest : List Label
      rest = labels_from config scope labels (n + 1) (items + count_op (op_of config scope labels l)) ls

      here : Label
      here = record { name = name_of l; line = n; item = items; holds = label_holds scope l }

      by : (b : Bool) → map (λ (l : Label). l.name) rest ≡ label_names ls
          → map (λ (l : Label). l.name) ((if b then here ∷ [] else []) ++ rest) ≡ map name_of (cond b (l ∷ filter is_label ls) (filter is_label ls))
      by true e = ap (λ (names : List (List ℕ)). name_of l ∷ names) e
      by false e = e

module _ (config : Config) (app : App) (f : Func) (scope : Scope) (labels : List (List ℕ)) (known : IsKnown config app f scope labels) where
  -- a line that was read, whose names exist
  abbrev pub IsSound : SourceLine → Type 0
  IsSound l = IsRead l × (has_unknown scope labels l ≡ false)

  -- ---- items

  -- a line is an item in range, or none
  abbrev OpIn : SourceLine → Type 0
  OpIn l = (o : Op) × (op_of config scope labels l ≡ Some o) × IsOp config app f o

  abbrev IsOpOf : SourceLine → Type 0
  IsOpOf l = ((is_item l ≡ true) × OpIn l) ⊎ ((is_item l ≡ false) × (op_of config scope labels l ≡ None))

  op_range : (l : SourceLine) → IsSound l → IsOpOf l
  op_range (Statement m.Data os) h = inr (refl, refl)
  op_range (Statement m.Task os) h = inr (refl, refl)
  op_range (Statement m.Func os) h = inr (refl, refl)
  op_range (Statement m.End os) h = inr (refl, refl)
  op_range (Statement m.Label os) h = inr (refl, refl)
  op_range (Statement k os) h = inl (refl, ranged config app f scope labels known k os refl h.0.0 h.0.2 h.0.1 h.1)
  op_range l h = inr (refl, refl)

  -- items in range, as many as these lines say
  abbrev Ranges : List Item → List SourceLine → Type 0
  Ranges items ls = All (λ (item : Item). IsOp config app f item.op) items × (length items ≡ count_by is_item ls)

  pub items_range : (n : ℕ) (ls : List SourceLine) → AllByRecursion IsSound ls → Ranges (items_from config scope labels n ls) ls
  items_range n [] h = (All-nil (λ (item : Item). IsOp config app f item.op), refl)
  items_range n (l ∷ ls) h = by (op_of config scope labels l) refl (op_range l h.0) (items_range (n + 1) ls h.1)
    where
      rest : List Item
      rest = items_from config scope labels (n + 1) ls

      count : (b : Bool) (k : ℕ) → is_item l ≡ b → k ≡ cond b 1 0 + count_by is_item ls → k ≡ count_by is_item (l ∷ ls)
      count b k e h = h ∙ ap (λ c. cond c 1 0 + count_by is_item ls) (sym e) ∙ sym (sum_by-cons (λ x. cond (is_item x) 1 0) l ls)

      by : (o : Option Op) → op_of config scope labels l ≡ o → IsOpOf l → Ranges rest ls → Ranges (item_by n (op_of config scope labels l) ++ rest) (l ∷ ls)
      by o e (inl x) (a, c) =
          rw x.1.1 (All-cons (λ (item : Item). IsOp config app f item.op) (record { line = n; op = x.1.0 }) rest x.1.2 a, count true (suc (length rest)) x.0 (omega (arith, c)))
      by o e (inr x) (a, c) = rw x.1 (a, count false (length rest) x.0 (omega (arith, c)))

  -- ---- labels

  holds_range : (os : List Operand) → AllByRecursion (Names scope labels kind.Resource) os → All (IsResource config) (holds_of scope os)
  holds_range [] h = All-nil (IsResource config)
  holds_range (x ∷ os) h =
      subst (λ x. All (IsResource config) (held_resource_by scope (written_name x) ++ holds_of scope os)) (sym h.0.1)
      (All-cons (IsResource config) (resource_number scope h.0.0) (holds_of scope os) (known.resource h.0.0 h.0.2) (holds_range os h.1))

  label_range : (os : List Operand) → IsSound (Statement m.Label os) → All (IsResource config) (holds_of scope (behind_first os))
  label_range os h = some_of (λ os. IsSound (Statement m.Label os) → All (IsResource config) (holds_of scope (behind_first os)))
      (λ a os h. holds_range os (all_names scope labels kind.Resource m.Label 1 os (λ j l. (refl, not_first j l)) h.0.1.1
      (or_parts (is_lacking scope labels kind.Declared (written_name a)) (any_unknown scope labels m.Label 1 os) h.1).1))
      os (leb-true 1 (length os) h.0.0) h

  -- a label before an item, or behind the last of so many
  abbrev pub IsPlacedIn : ℕ → Label → Type 0
  IsPlacedIn total l = (l.item ≤ total) × All (IsResource config) l.holds

  pub labels_range : (total n items : ℕ) (ls : List SourceLine) → AllByRecursion IsSound ls → items + length (items_from config scope labels n ls) ≤ total
      → All (IsPlacedIn total) (labels_from config scope labels n items ls)
  labels_range total n items [] h few = All-nil (IsPlacedIn total)
  labels_range total n items (l ∷ ls) h few =
      All-append (IsPlacedIn total) (label_of scope n items l) (labels_from config scope labels (n + 1) (items + count_op (op_of config scope labels l)) ls)
      (label_or (λ l. IsSound l → All (IsPlacedIn total) (label_of scope n items l))
      (λ os s. All-cons (IsPlacedIn total) (record { name = name_of (Statement m.Label os); line = n; item = items; holds = holds_of scope (behind_first os) }) []
      (omega (arith, few), label_range os s) (All-nil (IsPlacedIn total)))
      (λ l e s. subst (λ b. All (IsPlacedIn total) (cond b (record { name = name_of l; line = n; item = items; holds = label_holds scope l } ∷ []) [])) (sym e) (All-nil (IsPlacedIn total)))
      l h.0)
      (labels_range total (n + 1) (items + count_op (op_of config scope labels l)) ls h.1
      (let c = length_item n (op_of config scope labels l) in
      let a = length-append (item_by n (op_of config scope labels l)) (items_from config scope labels (n + 1) ls) in
      omega (arith, few, c, a)))
