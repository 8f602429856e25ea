-- The lists of relabelled lines.
use Rattle.std.proofs.Common.{◌≡◌, ℕ, suc, ◌<◌, Bool, true, false, ◌&&◌, inl, inr, List, [], ◌∷◌, ◌++◌, length, map, filter, take, drop, get_or, cond, refl, sym, ap, ◌∙◌, subst, arith, length-append}
use Rattle.std.specs.Prelude.{◌==◌, All, IsTrue, unwrap_or, codes}
use Rattle.std.specs.List.{flat_map}
use Rattle.std.specs.Str.{bytes_eq}
use Rattle.std.proofs.lemmas.Bool.{false≢true, eqb-true}
use Rattle.std.proofs.lemmas.List.{length-map, get_or-map, take_at, drop_at}
use Rattle.std.proofs.lemmas.Slice.Eq.{bytes_eq-Decides}
use Rattle.text_pieces.proofs.Places.{position_at}
use Rattle.sloth_base.specs.ConfigRange.{InRange, res_scheduler_name, scheduler_number}
use Rattle.sloth_base.specs.declared.config.Config.{Config}
use Rattle.sloth_base.specs.declared.app.App.{App}
use Rattle.sloth_base.specs.declared.app.Func.{Func}
use Rattle.sloth_base.specs.declared.app.Label.{Label}
use Rattle.sloth_base.specs.Named.{no_label}
use Rattle.code_rules.specs.AppRange.{IsResource}
use Rattle.asm_lines.specs.declared.operands.Operand.TheVariants.{Name}
use Rattle.asm_lines.specs.declared.source_line.SourceLine.{SourceLine}
use Rattle.asm_lines.specs.declared.source_line.SourceLine.TheVariants.{Statement}
use Rattle.asm_lines.specs.declared.forms.Mnemonic.TheVariants as m
use Rattle.asm_lines.specs.Faults.{is_a1, after_line}
use Rattle.asm_scopes.specs.declared.scope.Scope.{Scope}
use Rattle.asm_scopes.specs.Statements.{is_label, name_of}
use Rattle.asm_scopes.specs.Bodies.{bodies_of}
use Rattle.asm_scopes.specs.Scopes.{scope_of, is_scheduler}
use Rattle.asm_parse.specs.Operations.{number_of, resource_number}
use Rattle.asm_parse.specs.Apps.{holds_of, label_holds, app_of}
use Rattle.holds_infer.specs.Filling.{bare_func, bare_app}
use Rattle.sloth_base.specs.ConfigRange.{resource_name}
use Rattle.holds_infer.specs.LabelLines.{resource_names}
use Rattle.holds_infer.specs.Relabel.{func_holds, all_holds, label_statement, first_list, other_lists, relabeled_lines}
use Rattle.holds_infer.proofs.InPlace.{AreInPlace}
use Rattle.holds_infer.proofs.Bare.{body_same, count_same}
use Rattle.holds_infer.proofs.Relabels.{relabel_fills, holds_are}

-- ---- a resource's name is that of its number

module _ (config : Config) (range : InRange config) (scope : Scope) (named : scope.resources ≡ config.resources) (schedules : scope.has_scheduler ≡ config.res_scheduler) where
  below_32 : (r : ℕ) → r < scheduler_number → (r == scheduler_number) ≡ false
  below_32 r l = by (r == scheduler_number) refl
    where
      by : (b : Bool) → (r == scheduler_number) ≡ b → (r == scheduler_number) ≡ false
      by true e = let s = eqb-true r 32 e in absurd (omega (arith, l, s))
      by false e = e

  alone : (r : ℕ) → r < length config.resources → IsTrue config.res_scheduler → (b : Bool) → bytes_eq (get_or config.resources r []) (codes "RES_SCHEDULER") ≡ b
      → bytes_eq (get_or config.resources r []) (codes "RES_SCHEDULER") ≡ false
  alone r l e false q = q
  alone r l e true q = absurd (range.scheduler_alone e r [] l ((bytes_eq-Decides (get_or config.resources r []) (codes "RES_SCHEDULER")).0 q))

  no_scheduler : (r : ℕ) → r < length config.resources → is_scheduler scope (get_or config.resources r []) ≡ false
  no_scheduler r l = by config.res_scheduler refl
    where
      by : (b : Bool) → config.res_scheduler ≡ b → is_scheduler scope (get_or config.resources r []) ≡ false
      by false e = ap (λ b. b && bytes_eq (get_or config.resources r []) (codes "RES_SCHEDULER")) (schedules ∙ e)
      by true e =
          ap (λ b. b && bytes_eq (get_or config.resources r []) (codes "RES_SCHEDULER")) (schedules ∙ e)
          ∙ alone r l e (bytes_eq (get_or config.resources r []) (codes "RES_SCHEDULER")) refl

  declared_number : (r : ℕ) → r < length config.resources → resource_number scope (resource_name config r) ≡ r
  declared_number r l =
      let few = range.few_resources in
      ap (λ b. resource_number scope (cond b res_scheduler_name (get_or config.resources r []))) (below_32 r (omega (arith, l, few)))
      ∙ ap (λ b. cond b 32 (number_of scope.resources (get_or config.resources r []))) (no_scheduler r l)
      ∙ ap (λ (ns : List (List ℕ)). number_of ns (get_or config.resources r [])) named
      ∙ ap (λ o. unwrap_or o 0) (position_at config.resources range.resource_names.distinct r [] l)

  scheduler_back : IsTrue config.res_scheduler → resource_number scope (resource_name config scheduler_number) ≡ scheduler_number
  scheduler_back h =
      ap (λ b. cond (b && bytes_eq res_scheduler_name (codes "RES_SCHEDULER")) 32 (number_of scope.resources res_scheduler_name)) (schedules ∙ h)
      ∙ ap (λ b. cond b 32 (number_of scope.resources res_scheduler_name)) ((bytes_eq-Decides res_scheduler_name (codes "RES_SCHEDULER")).1 refl)

  number_back : (r : ℕ) → IsResource config r → resource_number scope (resource_name config r) ≡ r
  number_back r (inl l) = declared_number r l
  number_back r (inr h) = subst (λ (x : ℕ). resource_number scope (resource_name config x) ≡ x) (sym h.0) (scheduler_back h.1)

  names_back : (held : List ℕ) → All (IsResource config) held → holds_of scope (map Name (resource_names config held)) ≡ held
  names_back [] h = refl
  names_back (r ∷ held) h =
      ap (λ x. x ∷ holds_of scope (map Name (resource_names config held))) (number_back r (h 0 r (omega arith)))
      ∙ ap (λ xs. r ∷ xs) (names_back held (λ k d l. h (suc k) d (omega (arith, l))))

  label_back : (name held : List ℕ) → All (IsResource config) held → label_holds scope (label_statement name (resource_names config held)) ≡ held
  label_back name held h = names_back held h

  -- the lists of the labels' lines are these
  pub lists_back : (hs : List (List ℕ)) (ls : List SourceLine) → length hs ≡ length (filter is_label ls) → All (λ held. All (IsResource config) held) hs
      → map (label_holds scope) (filter is_label (relabeled_lines config hs ls)) ≡ hs
  lists_back [] [] n h = refl
  lists_back (x ∷ hs) [] n h = absurd (omega (arith, n))
  lists_back hs (l ∷ ls) n h = by (is_label l) refl hs n h (λ xs c k. lists_back xs ls c k)
    where
      by : (b : Bool) → is_label l ≡ b → (hs : List (List ℕ)) → length hs ≡ length (cond (is_label l) (l ∷ filter is_label ls) (filter is_label ls))
          → All (λ held. All (IsResource config) held) hs
          → ((xs : List (List ℕ)) → length xs ≡ length (filter is_label ls) → All (λ held. All (IsResource config) held) xs
          → map (label_holds scope) (filter is_label (relabeled_lines config xs ls)) ≡ xs)
          → map (label_holds scope) (filter is_label (cond b (label_statement (name_of l) (resource_names config (first_list hs)) ∷ relabeled_lines config (other_lists hs) ls) (l ∷ relabeled_lines config hs ls))) ≡ hs
      by true e [] n h ih = let k = ap (λ b. length (cond b (l ∷ filter is_label ls) (filter is_label ls))) e in absurd (omega (arith, n, k))
      by true e (x ∷ hs) n h ih =
          let k = ap (λ b. length (cond b (l ∷ filter is_label ls) (filter is_label ls))) e in
          ap (λ y. y ∷ map (label_holds scope) (filter is_label (relabeled_lines config hs ls))) (label_back (name_of l) x (h 0 x (omega arith)))
          ∙ ap (λ ys. x ∷ ys) (ih hs (omega (arith, n, k)) (λ i d less. h (suc i) d (omega (arith, less))))
      by false e hs n h ih =
          ap (λ b. map (label_holds scope) (cond b (l ∷ filter is_label (relabeled_lines config hs ls)) (filter is_label (relabeled_lines config hs ls)))) e
          ∙ ih hs (n ∙ ap (λ b. length (cond b (l ∷ filter is_label ls) (filter is_label ls))) e) h

label_place : (inside : Bool) (l : SourceLine) → is_label l ≡ true → (names : List (List ℕ))
    → (is_a1 inside (label_statement (name_of l) names) ≡ is_a1 inside l) × (after_line inside (label_statement (name_of l) names) ≡ after_line inside l)
label_place inside (Statement m.Label os) e names = (refl, refl)
label_place inside _ e names = absurd (false≢true e)

-- relabelled lines stand where the lines stood
pub in_place : (config : Config) (inside : Bool) (hs : List (List ℕ)) (ls : List SourceLine) → AreInPlace inside ls → AreInPlace inside (relabeled_lines config hs ls)
in_place config inside hs [] h = tt
in_place config inside hs (l ∷ ls) h = by (is_label l) refl (in_place config (after_line inside l) (other_lists hs) ls h.1) (in_place config (after_line inside l) hs ls h.1)
  where
    by : (b : Bool) → is_label l ≡ b → AreInPlace (after_line inside l) (relabeled_lines config (other_lists hs) ls) → AreInPlace (after_line inside l) (relabeled_lines config hs ls)
        → AreInPlace inside (cond b (label_statement (name_of l) (resource_names config (first_list hs)) ∷ relabeled_lines config (other_lists hs) ls) (l ∷ relabeled_lines config hs ls))
    by true e one two =
        let w = label_place inside l e (resource_names config (first_list hs)) in
        (w.0 ∙ h.0, subst (λ (b : Bool). AreInPlace b (relabeled_lines config (other_lists hs) ls)) (sym w.1) one)
    by false e one two = (h.0, two)

-- ---- task code is known by its lists

split_lists : (xs ys us vs : List (List ℕ)) → length xs ≡ length us → xs ++ ys ≡ us ++ vs → (xs ≡ us) × (ys ≡ vs)
split_lists xs ys us vs n e = (
  sym (take_at xs ys (length xs) refl) ∙ ap (take (length xs)) e ∙ take_at us vs (length xs) (sym n),
  sym (drop_at xs ys (length xs) refl) ∙ ap (drop (length xs)) e ∙ drop_at us vs (length xs) (sym n),
)

func_by_lists : (f g : Func) → bare_func f ≡ bare_func g → func_holds f ≡ func_holds g → f ≡ g
func_by_lists f g e h = body_same f g e (λ k l.
    let m : k < length g.labels = let n = count_same f g e in omega (arith, n, l) in
    sym (get_or-map (λ (x : Label). x.holds) f.labels k no_label [] l) ∙ ap (λ (xs : List (List ℕ)). get_or xs k []) h
    ∙ get_or-map (λ (x : Label). x.holds) g.labels k no_label [] m)

funcs_by_lists : (fs gs : List Func) → map bare_func fs ≡ map bare_func gs → flat_map func_holds fs ≡ flat_map func_holds gs → fs ≡ gs
funcs_by_lists [] [] e h = refl
funcs_by_lists [] (g ∷ gs) e h = absurd (let n = ap length e in omega (arith, n))
funcs_by_lists (f ∷ fs) [] e h = absurd (let n = ap length e in omega (arith, n))
funcs_by_lists (f ∷ fs) (g ∷ gs) e h =
    let first : bare_func f ≡ bare_func g = cc in
    let rest : map bare_func fs ≡ map bare_func gs = cc in
    let count : length (func_holds f) ≡ length (func_holds g) =
    length-map f.labels (λ (x : Label). x.holds) ∙ count_same f g first ∙ sym (length-map g.labels (λ (x : Label). x.holds)) in
    let parts = split_lists (func_holds f) (flat_map func_holds fs) (func_holds g) (flat_map func_holds gs) count h in
    ap (λ x. x ∷ fs) (func_by_lists f g first parts.0) ∙ ap (λ xs. g ∷ xs) (funcs_by_lists fs gs rest parts.1)

pub app_by_lists : (app other : App) → bare_app app ≡ bare_app other → all_holds app ≡ all_holds other → app ≡ other
app_by_lists app other e h =
    ap (λ fs. record { funcs = fs; symbols = app.symbols }) (funcs_by_lists app.funcs other.funcs (ap (λ (x : App). x.funcs) e) h)
    ∙ ap (λ (x : App). record { funcs = other.funcs; symbols = x.symbols }) e

count_lists : (fs gs : List Func) → map bare_func fs ≡ map bare_func gs → length (flat_map func_holds fs) ≡ length (flat_map func_holds gs)
count_lists [] [] e = refl
count_lists [] (g ∷ gs) e = absurd (let n = ap length e in omega (arith, n))
count_lists (f ∷ fs) [] e = absurd (let n = ap length e in omega (arith, n))
count_lists (f ∷ fs) (g ∷ gs) e =
    let first : bare_func f ≡ bare_func g = cc in
    let rest : map bare_func fs ≡ map bare_func gs = cc in
    let a = length-append (func_holds f) (flat_map func_holds fs) in
    let b = length-append (func_holds g) (flat_map func_holds gs) in
    let c = length-map f.labels (λ (x : Label). x.holds) in
    let d = length-map g.labels (λ (x : Label). x.holds) in
    let n = count_same f g first in
    let ih = count_lists fs gs rest in
    omega (arith, a, b, c, d, n, ih)

-- the lines that get the lists of this task code say this task code
pub relabelled_app : (config : Config) → InRange config → (ls : List SourceLine) → AreInPlace false ls → (app : App) → bare_app (app_of config ls) ≡ bare_app app
    → All (λ held. All (IsResource config) held) (all_holds app) → app_of config (relabeled_lines config (all_holds app) ls) ≡ app
relabelled_app config range ls placed app filled known =
    let hs = all_holds app in
    let ms = relabeled_lines config hs ls in
    let count : length hs ≡ length (filter is_label ls) =
    sym (count_lists (app_of config ls).funcs app.funcs (ap (λ (x : App). x.funcs) filled))
    ∙ ap length (holds_are config ls placed)
    ∙ length-map (filter is_label ls) (label_holds (scope_of config ls (bodies_of ls))) in
    app_by_lists (app_of config ms) app (relabel_fills config hs ls ∙ filled)
    (holds_are config ms (in_place config false hs ls placed)
    ∙ lists_back config range (scope_of config ms (bodies_of ms)) refl refl hs ls count known)
