-- Lines with other lists at their labels say the same task code, but for these lists.
use Rattle.std.proofs.Common.{◌≡◌, ℕ, ◌+◌, Bool, true, false, not, List, [], ◌∷◌, ◌++◌, map, filter, cond, refl, sym, ap, ◌∙◌}
use Rattle.std.specs.List.{take_while, flat_map}
use Rattle.std.proofs.lemmas.Bool.{false≢true, true≢false}
use Rattle.std.proofs.lemmas.List.{map-append}
use Rattle.std.proofs.lemmas.List.Sums.{take_while-cons}
use Rattle.sloth_base.specs.declared.config.Config.{Config}
use Rattle.sloth_base.specs.declared.app.App.{App}
use Rattle.sloth_base.specs.declared.app.Func.{Func}
use Rattle.sloth_base.specs.declared.app.Item.{Item}
use Rattle.sloth_base.specs.declared.app.Label.{Label}
use Rattle.asm_lines.specs.declared.operands.Operand.TheVariants.{Name}
use Rattle.asm_lines.specs.declared.source_line.SourceLine.{SourceLine}
use Rattle.asm_lines.specs.declared.source_line.SourceLine.TheVariants.{Empty, Shapeless, Unknown, Statement}
use Rattle.asm_lines.specs.declared.forms.Mnemonic.TheVariants as m
use Rattle.asm_scopes.specs.declared.scope.Scope.{Scope}
use Rattle.asm_scopes.specs.Statements.{is_data, is_label, opens_body, closes_body, first_name, name_of, number_of, label_names}
use Rattle.asm_scopes.specs.Bodies.{BodyText, bodies_from, bodies_of, body_name, is_called_body, function_names, called_names}
use Rattle.asm_scopes.specs.Scopes.{scope_of}
use Rattle.asm_parse.specs.Operations.{op_of}
use Rattle.asm_parse.specs.Apps.{item_by, item_of, items_from, label_of, label_holds, labels_from, count_op, body_task, func_of, symbol_of, app_of}
use Rattle.holds_infer.specs.Filling.{bare_label, bare_func, bare_app}
use Rattle.holds_infer.specs.LabelLines.{resource_names}
use Rattle.holds_infer.specs.Relabel.{func_holds, all_holds, label_statement, first_list, other_lists, relabeled_lines}
use Rattle.holds_infer.proofs.InPlace.{AreInPlace}

-- ---- lines without the resources of their labels

abbrev pub strip : SourceLine → SourceLine
strip (Statement m.Label os) = Statement m.Label (Name (first_name os) ∷ [])
strip l = l

abbrev pub strip_all : List SourceLine → List SourceLine
strip_all ls = map strip ls

strip_closes : (l : SourceLine) → closes_body (strip l) ≡ closes_body l
strip_closes (Statement m.Label os) = refl
strip_closes _ = refl

strip_opens : (l : SourceLine) → opens_body (strip l) ≡ opens_body l
strip_opens (Statement m.Label os) = refl
strip_opens _ = refl

strip_opener : (l : SourceLine) → opens_body l ≡ true → strip l ≡ l
strip_opener (Statement m.Label os) e = absurd (false≢true e)
strip_opener _ e = refl

strip_op : (config : Config) (scope : Scope) (names : List (List ℕ)) (l : SourceLine) → op_of config scope names (strip l) ≡ op_of config scope names l
strip_op config scope names (Statement m.Label os) = refl
strip_op config scope names _ = refl

strip_data : (l : SourceLine) (ls : List SourceLine) → filter is_data (strip l ∷ ls) ≡ filter is_data (l ∷ ls)
strip_data (Statement m.Label os) ls = refl
strip_data _ ls = refl

bare_label_of : (scope : Scope) (n items : ℕ) (l : SourceLine) → map bare_label (label_of scope n items (strip l)) ≡ map bare_label (label_of scope n items l)
bare_label_of scope n items (Statement m.Label os) = refl
bare_label_of scope n items _ = refl

strip_names : (l : SourceLine) (ls : List SourceLine) → label_names (strip l ∷ ls) ≡ label_names (l ∷ ls)
strip_names (Statement m.Label os) ls = refl
strip_names _ ls = refl

-- ---- the same of all lines

pub names_same : (ls : List SourceLine) → label_names (strip_all ls) ≡ label_names ls
names_same [] = refl
names_same (l ∷ ls) = strip_names l (strip_all ls) ∙ more (is_label l) (names_same ls)
  where
    more : (b : Bool) → label_names (strip_all ls) ≡ label_names ls
        → map name_of (cond b (l ∷ filter is_label (strip_all ls)) (filter is_label (strip_all ls))) ≡ map name_of (cond b (l ∷ filter is_label ls) (filter is_label ls))
    more true ih = ap (λ x. name_of l ∷ x) ih
    more false ih = ih

pub data_same : (ls : List SourceLine) → filter is_data (strip_all ls) ≡ filter is_data ls
data_same [] = refl
data_same (l ∷ ls) = strip_data l (strip_all ls) ∙ ap (λ x. cond (is_data l) (l ∷ x) x) (data_same ls)

items_same : (config : Config) (scope : Scope) (names : List (List ℕ)) (n : ℕ) (ls : List SourceLine)
    → items_from config scope names n (strip_all ls) ≡ items_from config scope names n ls
items_same config scope names n [] = refl
items_same config scope names n (l ∷ ls) =
    ap (λ o. item_by n o ++ items_from config scope names (n + 1) (strip_all ls)) (strip_op config scope names l)
    ∙ ap (λ x. item_of config scope names n l ++ x) (items_same config scope names (n + 1) ls)

labels_same : (config : Config) (scope : Scope) (names : List (List ℕ)) (n items : ℕ) (ls : List SourceLine)
    → map bare_label (labels_from config scope names n items (strip_all ls)) ≡ map bare_label (labels_from config scope names n items ls)
labels_same config scope names n items [] = refl
labels_same config scope names n items (l ∷ ls) =
    map-append bare_label (label_of scope n items (strip l)) (labels_from config scope names (n + 1) (items + count_op (op_of config scope names (strip l))) (strip_all ls))
    ∙ ap (λ o. map bare_label (label_of scope n items (strip l)) ++ map bare_label (labels_from config scope names (n + 1) (items + count_op o) (strip_all ls)))
    (strip_op config scope names l)
    ∙ ap (λ x. x ++ map bare_label (labels_from config scope names (n + 1) (items + count_op (op_of config scope names l)) (strip_all ls))) (bare_label_of scope n items l)
    ∙ ap (λ x. map bare_label (label_of scope n items l) ++ x) (labels_same config scope names (n + 1) (items + count_op (op_of config scope names l)) ls)
    ∙ sym (map-append bare_label (label_of scope n items l) (labels_from config scope names (n + 1) (items + count_op (op_of config scope names l)) ls))

abbrev pub strip_body : BodyText → BodyText
strip_body body = record { line = body.line; header = body.header; lines = strip_all body.lines }

abbrev pub go : SourceLine → Bool
go x = not (closes_body x)

lines_while : (ls : List SourceLine) → take_while go (strip_all ls) ≡ strip_all (take_while go ls)
lines_while [] = refl
lines_while (l ∷ ls) =
    take_while-cons go (strip l) (strip_all ls)
    ∙ ap (λ b. cond (not b) (strip l ∷ take_while go (strip_all ls)) []) (strip_closes l) ∙ by (closes_body l) (lines_while ls)
    ∙ ap strip_all (sym (take_while-cons go l ls))
  where
    by : (b : Bool) → take_while go (strip_all ls) ≡ strip_all (take_while go ls) → cond (not b) (strip l ∷ take_while go (strip_all ls)) [] ≡ strip_all (cond (not b) (l ∷ take_while go ls) [])
    by true ih = refl
    by false ih = ap (λ x. strip l ∷ x) ih

-- the body that begins at line n
abbrev made : ℕ → SourceLine → List SourceLine → BodyText
made n header lines = record { line = n; header = header; lines = take_while go lines }

pub bodies_same : (n : ℕ) (ls : List SourceLine) → bodies_from n (strip_all ls) ≡ map strip_body (bodies_from n ls)
bodies_same n [] = refl
bodies_same n (l ∷ ls) =
    ap (λ b. cond b (made n (strip l) (strip_all ls) ∷ bodies_from (n + 1) (strip_all ls)) (bodies_from (n + 1) (strip_all ls))) (strip_opens l)
    ∙ by (opens_body l) refl (bodies_same (n + 1) ls)
  where
    by : (b : Bool) → opens_body l ≡ b → bodies_from (n + 1) (strip_all ls) ≡ map strip_body (bodies_from (n + 1) ls)
        → cond b (made n (strip l) (strip_all ls) ∷ bodies_from (n + 1) (strip_all ls)) (bodies_from (n + 1) (strip_all ls))
        ≡ map strip_body (cond b (made n l ls ∷ bodies_from (n + 1) ls) (bodies_from (n + 1) ls))
    by true e ih =
        ap (λ h. made n h (strip_all ls) ∷ bodies_from (n + 1) (strip_all ls)) (strip_opener l e)
        ∙ ap (λ x. record { line = n; header = l; lines = x } ∷ bodies_from (n + 1) (strip_all ls)) (lines_while ls)
        ∙ ap (λ x. record { line = n; header = l; lines = strip_all (take_while go ls) } ∷ x) ih
    by false e ih = ih

-- ---- names

pub function_names_same : (bs : List BodyText) → function_names (map strip_body bs) ≡ function_names bs
function_names_same [] = refl
function_names_same (b ∷ bs) = ap (λ x. body_name b ∷ x) (function_names_same bs)

pub called_names_same : (bs : List BodyText) → called_names (map strip_body bs) ≡ called_names bs
called_names_same [] = refl
called_names_same (b ∷ bs) = by (is_called_body b) (called_names_same bs)
  where
    by : (c : Bool) → called_names (map strip_body bs) ≡ called_names bs → map body_name (cond c (strip_body b ∷ filter is_called_body (map strip_body bs)) (filter is_called_body (map strip_body bs)))
        ≡ map body_name (cond c (b ∷ filter is_called_body bs) (filter is_called_body bs))
    by true ih = ap (λ x. body_name b ∷ x) ih
    by false ih = ih

pub scope_same : (config : Config) (ls : List SourceLine) → scope_of config (strip_all ls) (bodies_of (strip_all ls)) ≡ scope_of config ls (bodies_of ls)
scope_same config ls =
    let e = bodies_same 1 ls in
    ap (λ bs. scope_of config (strip_all ls) bs) e
    ∙ ap (λ fs. record (scope_of config (strip_all ls) (map strip_body (bodies_of ls))) { functions = fs }) (function_names_same (bodies_of ls))
    ∙ ap (λ cs. record (scope_of config (strip_all ls) (bodies_of ls)) { called = cs }) (called_names_same (bodies_of ls))
    ∙ ap (λ ds. record (scope_of config ls (bodies_of ls)) { symbols = map name_of ds }) (data_same ls)

-- ---- bodies

func_same : (config : Config) (scope : Scope) (b : BodyText) → bare_func (func_of config scope (strip_body b)) ≡ bare_func (func_of config scope b)
func_same config scope b =
    let P : List (List ℕ) → List Item → List Label → Func = λ names items labels. record { name = body_name b; line = b.line; task = body_task scope b; frame_words = number_of b.header; items = items; labels = labels } in
    let names = names_same b.lines in
    ap (λ ns. P ns (items_from config scope ns (b.line + 1) (strip_all b.lines)) (map bare_label (labels_from config scope ns (b.line + 1) 0 (strip_all b.lines)))) names
    ∙ ap (λ xs. P [] xs (map bare_label (labels_from config scope (label_names b.lines) (b.line + 1) 0 (strip_all b.lines)))) (items_same config scope (label_names b.lines) (b.line + 1) b.lines)
    ∙ ap (λ xs. P [] (items_from config scope (label_names b.lines) (b.line + 1) b.lines) xs) (labels_same config scope (label_names b.lines) (b.line + 1) 0 b.lines)

funcs_same : (config : Config) (scope : Scope) (bs : List BodyText) → map bare_func (map (func_of config scope) (map strip_body bs)) ≡ map bare_func (map (func_of config scope) bs)
funcs_same config scope [] = refl
funcs_same config scope (b ∷ bs) =
    ap (λ f. f ∷ map bare_func (map (func_of config scope) (map strip_body bs))) (func_same config scope b)
    ∙ ap (λ fs. bare_func (func_of config scope b) ∷ fs) (funcs_same config scope bs)

-- the task code of stripped lines, but for the lists
stripped_app : (config : Config) (ls : List SourceLine) → bare_app (app_of config (strip_all ls)) ≡ bare_app (app_of config ls)
stripped_app config ls =
    let A : Scope → List BodyText → List SourceLine → App = λ scope bs ds. record { funcs = map bare_func (map (func_of config scope) bs); symbols = map symbol_of ds } in
    ap (λ scope. A scope (bodies_of (strip_all ls)) (filter is_data (strip_all ls))) (scope_same config ls)
    ∙ ap (λ bs. A (scope_of config ls (bodies_of ls)) bs (filter is_data (strip_all ls))) (bodies_same 1 ls)
    ∙ ap (λ ds. A (scope_of config ls (bodies_of ls)) (map strip_body (bodies_of ls)) ds) (data_same ls)
    ∙ ap (λ fs. record { funcs = fs; symbols = map symbol_of (filter is_data ls) }) (funcs_same config (scope_of config ls (bodies_of ls)) (bodies_of ls))

pub strip_statement : (l : SourceLine) (names : List (List ℕ)) → is_label l ≡ true → strip (label_statement (name_of l) names) ≡ strip l
strip_statement (Statement m.Label os) names e = refl
strip_statement _ names e = absurd (false≢true e)

pub strip_relabel : (config : Config) (hs : List (List ℕ)) (ls : List SourceLine) → strip_all (relabeled_lines config hs ls) ≡ strip_all ls
strip_relabel config hs [] = refl
strip_relabel config hs (l ∷ ls) = by (is_label l) refl (strip_relabel config (other_lists hs) ls) (strip_relabel config hs ls)
  where
    by : (b : Bool) → is_label l ≡ b → strip_all (relabeled_lines config (other_lists hs) ls) ≡ strip_all ls → strip_all (relabeled_lines config hs ls) ≡ strip_all ls
        → strip_all (cond b (label_statement (name_of l) (resource_names config (first_list hs)) ∷ relabeled_lines config (other_lists hs) ls) (l ∷ relabeled_lines config hs ls)) ≡ strip l ∷ strip_all ls
    by true e one two =
        ap (λ x. x ∷ strip_all (relabeled_lines config (other_lists hs) ls)) (strip_statement l (resource_names config (first_list hs)) e)
        ∙ ap (λ x. strip l ∷ x) one
    by false e one two = ap (λ x. strip l ∷ x) two

-- the core: other lists at the labels change the lists of the task code alone
pub relabel_fills : (config : Config) (hs : List (List ℕ)) (ls : List SourceLine) → bare_app (app_of config (relabeled_lines config hs ls)) ≡ bare_app (app_of config ls)
relabel_fills config hs ls =
    sym (stripped_app config (relabeled_lines config hs ls)) ∙ ap (λ x. bare_app (app_of config x)) (strip_relabel config hs ls) ∙ stripped_app config ls

-- ---- the lists of the task code are those of the lines that are labels

holds_from : (config : Config) (scope : Scope) (names : List (List ℕ)) (n items : ℕ) (ls : List SourceLine)
    → map (λ (l : Label). l.holds) (labels_from config scope names n items ls) ≡ map (label_holds scope) (filter is_label ls)
holds_from config scope names n items [] = refl
holds_from config scope names n items (l ∷ ls) = by (is_label l) (labels_from config scope names (n + 1) (items + count_op (op_of config scope names l)) ls)
    (holds_from config scope names (n + 1) (items + count_op (op_of config scope names l)) ls)
  where
    by : (b : Bool) (rest : List Label) → map (λ (x : Label). x.holds) rest ≡ map (label_holds scope) (filter is_label ls)
        → map (λ (x : Label). x.holds) (cond b (record { name = name_of l; line = n; item = items; holds = label_holds scope l } ∷ []) [] ++ rest)
        ≡ map (label_holds scope) (cond b (l ∷ filter is_label ls) (filter is_label ls))
    by true rest ih = ap (λ x. label_holds scope l ∷ x) ih
    by false rest ih = ih

funcs_hold : (config : Config) (scope : Scope) (bs : List BodyText)
    → flat_map func_holds (map (func_of config scope) bs) ≡ flat_map (λ (b : BodyText). map (label_holds scope) (filter is_label b.lines)) bs
funcs_hold config scope [] = refl
funcs_hold config scope (b ∷ bs) =
    ap (λ x. x ++ flat_map func_holds (map (func_of config scope) bs)) (holds_from config scope (label_names b.lines) (b.line + 1) 0 b.lines)
    ∙ ap (λ x. map (label_holds scope) (filter is_label b.lines) ++ x) (funcs_hold config scope bs)

module _ (H : SourceLine → List ℕ) where
  abbrev F : BodyText → List (List ℕ)
  F b = map H (filter is_label b.lines)

  abbrev held : List SourceLine → List (List ℕ)
  held ls = map H (filter is_label ls)

  abbrev front : Bool → List SourceLine → List (List ℕ)
  front inside ls = cond inside (held (take_while go ls)) []

  -- a line of a body that is no label and does not end it
  passes : (n : ℕ) (l : SourceLine) (ls : List SourceLine) → go l ≡ true → is_label l ≡ false → opens_body l ≡ false
      → held (take_while go ls) ++ flat_map F (bodies_from (n + 1) ls) ≡ held ls
      → held (take_while go (l ∷ ls)) ++ flat_map F (bodies_from n (l ∷ ls)) ≡ held (l ∷ ls)
  passes n l ls g e o ih =
      ap (λ x. held x ++ flat_map F (bodies_from n (l ∷ ls))) (take_while-cons go l ls ∙ ap (λ b. cond b (l ∷ take_while go ls) []) g)
      ∙ ap (λ b. map H (cond b (l ∷ filter is_label (take_while go ls)) (filter is_label (take_while go ls))) ++ flat_map F (bodies_from n (l ∷ ls))) e
      ∙ ap (λ b. held (take_while go ls) ++ flat_map F (cond b (record { line = n; header = l; lines = take_while go ls } ∷ bodies_from (n + 1) ls) (bodies_from (n + 1) ls))) o
      ∙ ih ∙ sym (ap (λ b. map H (cond b (l ∷ filter is_label ls) (filter is_label ls))) e)

  pub gathered : (inside : Bool) (n : ℕ) (ls : List SourceLine) → AreInPlace inside ls → front inside ls ++ flat_map F (bodies_from n ls) ≡ held ls
  gathered true n [] h = refl
  gathered false n [] h = refl
  gathered true n (Empty ∷ ls) h = passes n Empty ls refl refl refl (gathered true (n + 1) ls h.1)
  gathered false n (Empty ∷ ls) h = gathered false (n + 1) ls h.1
  gathered true n (Shapeless ∷ ls) h = absurd (true≢false h.0)
  gathered false n (Shapeless ∷ ls) h = absurd (true≢false h.0)
  gathered true n (Unknown ∷ ls) h = passes n Unknown ls refl refl refl (gathered true (n + 1) ls h.1)
  gathered false n (Unknown ∷ ls) h = absurd (true≢false h.0)
  gathered true n (Statement m.Data os ∷ ls) h = absurd (true≢false h.0)
  gathered true n (Statement m.Task os ∷ ls) h = absurd (true≢false h.0)
  gathered true n (Statement m.Func os ∷ ls) h = absurd (true≢false h.0)
  gathered true n (Statement m.End os ∷ ls) h =
      ap (λ x. held x ++ flat_map F (bodies_from (n + 1) ls)) (take_while-cons go (Statement m.End os) ls) ∙ gathered false (n + 1) ls h.1
  gathered true n (Statement m.Label os ∷ ls) h =
      ap (λ x. held x ++ flat_map F (bodies_from (n + 1) ls)) (take_while-cons go (Statement m.Label os) ls)
      ∙ ap (λ x. H (Statement m.Label os) ∷ x) (gathered true (n + 1) ls h.1)
  gathered true n (l ∷ ls) h = passes n l ls refl refl refl (gathered true (n + 1) ls h.1)
  gathered false n (Statement m.Data os ∷ ls) h = gathered false (n + 1) ls h.1
  gathered false n (Statement m.Task os ∷ ls) h = gathered true (n + 1) ls h.1
  gathered false n (Statement m.Func os ∷ ls) h = gathered true (n + 1) ls h.1
  gathered false n (l ∷ ls) h = absurd (true≢false h.0)

-- the lists of the task code of lines in place
pub holds_are : (config : Config) (ls : List SourceLine) → AreInPlace false ls
    → all_holds (app_of config ls) ≡ map (label_holds (scope_of config ls (bodies_of ls))) (filter is_label ls)
holds_are config ls h =
    let scope = scope_of config ls (bodies_of ls) in
    funcs_hold config scope (bodies_of ls) ∙ gathered (label_holds scope) false 1 ls h
