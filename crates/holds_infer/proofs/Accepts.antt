-- The text with the lists that keep the rules is accepted.
use Rattle.std.proofs.Common.{◌≡◌, ℕ, suc, ◌+◌, ◌<◌, Bool, true, false, not, ◌&&◌, ◌||◌, inl, inr, List, [], ◌∷◌, ◌++◌, length, map, get_or, cond, Some, refl, sym, ap, ◌∙◌, subst, arith, ⊎_elim}
use Rattle.std.specs.Prelude.{◌==◌, All, codes}
use Rattle.std.specs.List.{list_any, list_all, flat_map}
use Rattle.std.specs.Str.{bytes_eq}
use Rattle.std.proofs.lemmas.Bool.{false≢true, eqb-true, cases_lt, le-ltb}
use Rattle.std.proofs.lemmas.List.{get_or_past}
use Rattle.std.proofs.lemmas.List.Sums.{list_all-from_AllPass, AllPass-from_list_all, fold-append}
use Rattle.std.proofs.lemmas.List.Folds.{list_any_at}
use Rattle.std.proofs.lemmas.Slice.Eq.{bytes_eq-Decides}
use Rattle.sloth_base.specs.ConfigRange.{InRange, res_scheduler_name, scheduler_number}
use Rattle.sloth_base.specs.ImageRange.{IsWord, IsName, begins_word, continues_word}
use Rattle.sloth_base.specs.declared.config.Config.{Config}
use Rattle.sloth_base.specs.declared.app.App.{App}
use Rattle.sloth_base.specs.declared.app.Func.{Func}
use Rattle.sloth_base.specs.declared.app.Label.{Label}
use Rattle.sloth_base.specs.declared.refusal.Code.TheVariants as code
use Rattle.sloth_base.specs.declared.refusal.Part.TheVariants.{Src}
use Rattle.sloth_base.specs.Order.{NoFault}
use Rattle.sloth_base.specs.Search.{SomeFrom}
use Rattle.sloth_base.proofs.Nowhere.{case_false}
use Rattle.std.proofs.lemmas.List.Elements.{All-append, All-map}
use Rattle.sloth_base.specs.Named.{no_function}
use Rattle.sloth_base.specs.Limits.{name_limit}
use Rattle.code_rules.specs.AppRange.{IsResource, AppInRange}
use Rattle.code_rules.specs.WellFormed.{WellFormed}
use Rattle.text_pieces.specs.Bytes.{is_name}
use Rattle.asm_lines.specs.declared.operands.Operand.{Operand}
use Rattle.asm_lines.specs.declared.operands.Operand.TheVariants.{Name}
use Rattle.asm_lines.specs.declared.source_line.SourceLine.{SourceLine}
use Rattle.asm_lines.specs.declared.source_line.SourceLine.TheVariants.{Statement}
use Rattle.asm_lines.specs.declared.forms.Mnemonic.TheVariants as m
use Rattle.asm_lines.specs.Faults.{is_a1, after_line, is_end_inside, FaultAt, SourceFault, SourceLinesFault, source_lines}
use Rattle.asm_scopes.specs.declared.scope.Scope.{Scope}
use Rattle.asm_scopes.specs.declared.scope.Kind.TheVariants as kind
use Rattle.asm_scopes.specs.Statements.{is_label, name_of, written_name}
use Rattle.asm_scopes.specs.Bodies.{bodies_of}
use Rattle.asm_scopes.specs.Scopes.{any_unknown, is_scheduler, is_lacking, kind_of, scope_of}
use Rattle.asm_parse.specs.NameFaults.{has_long_name, NameFault}
use Rattle.asm_parse.specs.Apps.{app_of}
use Rattle.asm_parse.specs.AppTexts.{AppText, SourceTextFault}
use Rattle.asm_parse.proofs.Fit.{FitsName}
use Rattle.asm_parse.proofs.Read.{IsRead}
use Rattle.asm_parse.proofs.LinesRead.{all_read}
use Rattle.sloth_source.specs.SourceText.{HasApp, SourceText}
use Rattle.holds_infer.specs.Filling.{bare_app, SameButLists}
use Rattle.sloth_base.specs.ConfigRange.{resource_name}
use Rattle.holds_infer.specs.LabelLines.{resource_names}
use Rattle.holds_infer.specs.Relabel.{func_holds, all_holds, relabeled_lines}
use Rattle.holds_infer.proofs.InPlace.{AreInPlace}
use Rattle.holds_infer.specs.FilledText.{filled_text}
use Rattle.holds_infer.proofs.Spreading.{all_none}
use Rattle.holds_infer.proofs.Written.{AreWritten}
use Rattle.holds_infer.proofs.Texts.{AreNamed, text_filled}
use Rattle.holds_infer.proofs.Refill.{relabelled_app}
use Rattle.holds_infer.proofs.Faultless.{AreGood, source_spared, names_spared}

-- ---- names

word_name : (t : List ℕ) → IsWord t → is_name t ≡ true
unfolding is_name
word_name [] h = absurd h
word_name (b ∷ t) h =
    ap (λ c. c && list_all continues_word (b ∷ t)) h.0
    ∙ ap (λ c. c && list_all continues_word t) (goes b h.0)
    ∙ list_all-from_AllPass continues_word t h.1
  where
    goes : (b : ℕ) → begins_word b ≡ true → continues_word b ≡ true
    goes b e = grind arith

module _ (config : Config) (range : InRange config) where
  name_of_resource : (r : ℕ) → IsResource config r → IsName (resource_name config r)
  name_of_resource r (inl l) = by (r == scheduler_number) refl
    where
      by : (c : Bool) → (r == scheduler_number) ≡ c → IsName (cond c res_scheduler_name (get_or config.resources r []))
      by true e = let s = eqb-true r 32 e in let few = range.few_resources in absurd (omega (arith, l, s, few))
      by false e = range.resource_names.each r [] l
  name_of_resource r (inr h) = subst (λ (x : ℕ). IsName (resource_name config x)) (sym h.0) (record { word = (refl, AllPass-from_list_all continues_word (69 ∷ 83 ∷ 95 ∷ 83 ∷ 67 ∷ 72 ∷ 69 ∷ 68 ∷ 85 ∷ 76 ∷ 69 ∷ 82 ∷ []) refl); short = omega arith })

  written_names : (held : List ℕ) → All (IsResource config) held → AreWritten (resource_names config held)
  written_names [] h = tt
  written_names (r ∷ held) h =
      (word_name (resource_name config r) (name_of_resource r (h 0 r (omega arith))).word, written_names held (λ k d l. h (suc k) d (omega (arith, l))))

  short_names : (held : List ℕ) → All (IsResource config) held → list_any (λ x. has_long_name (written_name x)) (map Name (resource_names config held)) ≡ false
  short_names [] h = refl
  short_names (r ∷ held) h =
      let s = (name_of_resource r (h 0 r (omega arith))).short in
      ap (λ b. b || list_any (λ x. has_long_name (written_name x)) (map Name (resource_names config held))) (le-ltb name_limit (length (resource_name config r)) s)
      ∙ short_names held (λ k d l. h (suc k) d (omega (arith, l)))

  module _ (scope : Scope) (named : scope.resources ≡ config.resources) (schedules : scope.has_scheduler ≡ config.res_scheduler) where
    or_right : (a b : Bool) → b ≡ true → (a || b) ≡ true
    or_right true b e = refl
    or_right false b e = e

    or_first : (a b : Bool) → a ≡ true → (a || b) ≡ true
    or_first true b e = refl
    or_first false b e = absurd (false≢true e)

    known_resource : (r : ℕ) → IsResource config r → (is_scheduler scope (resource_name config r) || list_any (bytes_eq (resource_name config r)) scope.resources) ≡ true
    known_resource r (inl l) = by (r == scheduler_number) refl
      where
        by : (c : Bool) → (r == scheduler_number) ≡ c
            → (is_scheduler scope (cond c res_scheduler_name (get_or config.resources r [])) || list_any (bytes_eq (cond c res_scheduler_name (get_or config.resources r []))) scope.resources) ≡ true
        by true e = let s = eqb-true r 32 e in let few = range.few_resources in absurd (omega (arith, l, s, few))
        by false e =
            let name = get_or config.resources r [] in
            or_right (is_scheduler scope name) (list_any (bytes_eq name) scope.resources)
            (ap (list_any (bytes_eq name)) named ∙ list_any_at (bytes_eq name) config.resources r [] l ((bytes_eq-Decides name name).1 refl))
    known_resource r (inr h) = subst (λ (x : ℕ). (is_scheduler scope (resource_name config x) || list_any (bytes_eq (resource_name config x)) scope.resources) ≡ true) (sym h.0)
        (or_first (is_scheduler scope res_scheduler_name) (list_any (bytes_eq res_scheduler_name) scope.resources)
        (ap (λ b. b && bytes_eq res_scheduler_name (codes "RES_SCHEDULER")) (schedules ∙ h.1) ∙ (bytes_eq-Decides res_scheduler_name (codes "RES_SCHEDULER")).1 refl))

    label_kind : (i : ℕ) → 0 < i → kind_of m.Label i ≡ kind.Resource
    label_kind i l = by (i == 0) refl
      where
        by : (c : Bool) → (i == 0) ≡ c → cond c kind.Declared kind.Resource ≡ kind.Resource
        by true e = let z = eqb-true i 0 e in absurd (omega (arith, l, z))
        by false e = refl

    all_exist : (labels : List (List ℕ)) (held : List ℕ) → All (IsResource config) held → (i : ℕ) → 0 < i
        → any_unknown scope labels m.Label i (map Name (resource_names config held)) ≡ false
    all_exist labels [] h i l = refl
    all_exist labels (r ∷ held) h i l =
        ap (λ k. is_lacking scope labels k (Some (resource_name config r)) || any_unknown scope labels m.Label (i + 1) (map Name (resource_names config held))) (label_kind i l)
        ∙ ap (λ b. not b || any_unknown scope labels m.Label (i + 1) (map Name (resource_names config held))) (known_resource r (h 0 r (omega arith)))
        ∙ all_exist labels held (λ k d n. h (suc k) d (omega (arith, n))) (i + 1) (omega arith)

    pub good_names : (held : List ℕ) → All (IsResource config) held → AreGood scope (resource_names config held)
    good_names held h = record { exist = λ labels i l. all_exist labels held h i l; short = short_names held h }

-- ---- lines without a fault

placed_from : (front ls : List SourceLine) → NoFault (SomeFrom FaultAt front ls) → AreInPlace (is_end_inside front) ls
placed_from front [] none = tt
placed_from front (l ∷ ls) none = (
  case_false Src (is_a1 (is_end_inside front) l) (length front + 1) code.A1 (λ r f. none r (inl (inl f))),
  subst (λ (b : Bool). AreInPlace b ls) (fold-append after_line false front (l ∷ [])) (placed_from (front ++ l ∷ []) ls (λ r f. none r (inr f))),
)

named_line : (l : SourceLine) → IsRead l → is_label l ≡ true → is_name (name_of l) ≡ true
named_line (Statement m.Label []) h e = absurd (false≢true h.0)
named_line (Statement m.Label (o ∷ os)) h e = by o h.1.0
  where
    by : (o : Operand) → FitsName o → is_name (name_of (Statement m.Label (o ∷ os))) ≡ true
    by (Name n) w = word_name n w
    by _ w = absurd w
named_line _ h e = absurd (false≢true e)

all_named : (ls : List SourceLine) → All IsRead ls → AreNamed ls
all_named [] h = tt
all_named (l ∷ ls) h = (named_line l (h 0 l (omega arith)), all_named ls (λ k d n. h (suc k) d (omega (arith, n))))

-- ---- the text

module _ (config : Config) (range : InRange config) (text : List ℕ) (before app : App) (has : HasApp text config before) (filled : SameButLists before app)
    (known : All (λ held. All (IsResource config) held) (all_holds app)) where
  abbrev ls : List SourceLine
  ls = source_lines text

  abbrev out : List ℕ
  out = filled_text text config app

  lines_none : NoFault (SourceLinesFault text)
  lines_none r f = has.no_fault r (inl f)

  names_none : NoFault (NameFault config (source_lines text))
  names_none r f = has.no_fault r (inr (lines_none, f))

  held_known : (k : ℕ) → All (IsResource config) (get_or (all_holds app) k [])
  held_known k = ⊎_elim (λ l. known k [] l) (λ l. subst (All (IsResource config)) (sym (get_or_past (all_holds app) k [] l)) (all_none (IsResource config))) (cases_lt k (length (all_holds app)))

  out_lines : source_lines (filled_text text config app) ≡ relabeled_lines config (all_holds app) (source_lines text)
  out_lines = text_filled config text app (λ k. written_names config range (get_or (all_holds app) k []) (held_known k)) (all_named (source_lines text) (all_read text lines_none))

  pub out_has_app : HasApp (filled_text text config app) config app
  out_has_app = record { no_fault = no_fault; says = says }
    where
      lines_spared : NoFault (SourceFault (relabeled_lines config (all_holds app) (source_lines text)))
      lines_spared = source_spared config (all_holds app) (source_lines text) lines_none

      all_spared : NoFault (NameFault config (relabeled_lines config (all_holds app) (source_lines text)))
      all_spared = names_spared config (all_holds app) (source_lines text)
          (λ k. good_names config range (scope_of config (source_lines text) (bodies_of (source_lines text))) refl refl (get_or (all_holds app) k []) (held_known k)) names_none

      no_fault : NoFault (SourceTextFault config (filled_text text config app))
      no_fault r (inl f) = lines_spared r (subst (λ (x : List SourceLine). SourceFault x r) out_lines f)
      no_fault r (inr f) = all_spared r (subst (λ (x : List SourceLine). NameFault config x r) out_lines f.1)

      says : AppText (filled_text text config app) config app
      says =
          sym (ap (app_of config) out_lines
          ∙ relabelled_app config range (source_lines text) (placed_from [] (source_lines text) (λ r f. lines_none r (inl f))) app (ap bare_app (sym has.says) ∙ filled) known)

-- where the lists keep the rules, the text is accepted
pub out_accepted : (config : Config) (text : List ℕ) (before app : App) → HasApp text config before → SameButLists before app → WellFormed config app
    → All (λ held. All (IsResource config) held) (all_holds app) → SourceText (filled_text text config app) config app
out_accepted config text before app has filled whole known = record {
  has_app = out_has_app config whole.in_range.configuration text before app has filled known;
  no_cycle = whole.no_cycle;
  no_fault = whole.no_fault;
}

-- ---- the lists of task code in range are lists of resources

lists_known : (config : Config) (fs : List Func) → ((b : ℕ) → b < length fs → All (λ (l : Label). All (IsResource config) l.holds) (get_or fs b no_function).labels)
    → All (λ held. All (IsResource config) held) (flat_map func_holds fs)
lists_known config [] h = all_none (λ held. All (IsResource config) held)
lists_known config (f ∷ fs) h =
    All-append (λ held. All (IsResource config) held) (func_holds f) (flat_map func_holds fs)
    (All-map (λ held. All (IsResource config) held) (λ (l : Label). l.holds) f.labels (h 0 (omega arith)))
    (lists_known config fs (λ b l. h (suc b) (omega (arith, l))))

pub range_known : (config : Config) (app : App) → AppInRange config app → All (λ held. All (IsResource config) held) (all_holds app)
range_known config app h = lists_known config app.funcs (λ b l k d n. ((h.bodies b no_function l).labels k d n).holds)
