-- What does not speak of the lists of labels holds of both of two task codes that differ in them alone.
use Rattle.std.proofs.Common.{◌≡◌, ℕ, ◌<◌, ◌≤◌, inl, inr, List, [], ◌∷◌, length, map, sum, get_or, refl, sym, ap, ◌∙◌, subst}
use Rattle.std.specs.Prelude.{All}
use Rattle.std.proofs.lemmas.List.{get_or_default}
use mathlib.Core.List.{map-map}
use Rattle.sloth_base.specs.declared.config.Config.{Config}
use Rattle.sloth_base.specs.declared.app.App.{App}
use Rattle.sloth_base.specs.declared.app.Func.{Func}
use Rattle.sloth_base.specs.declared.app.Item.{Item}
use Rattle.sloth_base.specs.declared.app.Label.{Label}
use Rattle.sloth_base.specs.declared.app.Symbol.{Symbol}
use Rattle.sloth_base.specs.declared.app.Op.{Op}
use Rattle.sloth_base.specs.declared.app.Op.TheVariants as op
use Rattle.sloth_base.specs.ImageRange.{AreNames}
use Rattle.sloth_base.specs.Named.{no_function, function, no_label, label_of, item_of, IsBodyOf}
use Rattle.sloth_base.specs.Limits.{body_limit, item_limit, symbol_limit, data_limit, frame_limit}
use Rattle.code_rules.specs.AppRange.{AppInRange, IsBody, IsOp}
use Rattle.code_rules.specs.Code.{IsItem, HasCall, IsCallChain, Reaches, TaskReaches, ReachesTaking, ReachesPause}
use Rattle.call_graph.specs.declared.lists.Ranks.{Ranks}
use Rattle.call_graph.specs.Ranks.{RanksOf}
use Rattle.holds_infer.specs.Filling.{bare_label, bare_func, SameButLists}
use Rattle.holds_infer.specs.BodyFilling.{HasResourceLists}
use Rattle.holds_infer.proofs.Bare.{functions_same, count_functions, place_same, count_same, items_same}

module _ (app other : App) (e : SameButLists app other) where
  body_alike : (b : ℕ) → bare_func (function app b) ≡ bare_func (function other b)
  body_alike b = functions_same app other e b

  known_there : (b : ℕ) → b < length app.funcs → b < length other.funcs
  known_there b l = subst (λ (n : ℕ). b < n) (count_functions app other e) l

  item_there : (f i : ℕ) (o : Op) → IsItem app f i o → IsItem other f i o
  item_there f i o h = record {
    known = known_there f h.known;
    inside = subst (λ (x : Func). i < length x.items) (body_alike f) h.inside;
    is = ap (λ (x : Func). (item_of x i).op) (sym (body_alike f)) ∙ h.is;
  }

  pub calls_there : (f g : ℕ) → HasCall app f g → HasCall other f g
  calls_there f g h = (h.0, item_there f h.0 (op.Invoke g) h.1)

  chain_there : (f g : ℕ) (between : List ℕ) → IsCallChain app f between g → IsCallChain other f between g
  chain_there f g [] h = calls_there f g h
  chain_there f g (k ∷ between) h = (calls_there f k h.0, chain_there k g between h.1)

  reaches_there : (f g : ℕ) → Reaches app f g → Reaches other f g
  reaches_there f g (inl h) = inl h
  reaches_there f g (inr h) = inr (h.0, chain_there f g h.0 h.1)

  pub body_there : (t f : ℕ) → IsBodyOf app t f → IsBodyOf other t f
  body_there t f h = (known_there f h.0, ap (λ (x : Func). x.task) (sym (body_alike f)) ∙ h.1)

  pub task_there : (t f : ℕ) → TaskReaches app t f → TaskReaches other t f
  task_there t f h = (h.0, body_there t h.0 h.1, reaches_there h.0 f h.2)

  pub taking_there : (f r : ℕ) → ReachesTaking app f r → ReachesTaking other f r
  taking_there f r h = (h.0, h.1, h.2, reaches_there f h.0 h.3, item_there h.0 h.1 _ h.4)

  pub pause_there : (f : ℕ) → ReachesPause app f → ReachesPause other f
  pause_there f h = (h.0, h.1, h.2, h.3, h.4, reaches_there f h.0 h.5, item_there h.0 h.1 _ h.6, h.7)

-- the ranks of one are those of the other
pub ranks_there : (app other : App) → SameButLists app other → (ranks : Ranks) → RanksOf app ranks → RanksOf other ranks
ranks_there app other e ranks h =
    let back : SameButLists other app = sym e in
    let count = count_functions app other e in
    record {
      covers = record {
        rank = h.covers.rank ∙ count;
        resources = h.covers.resources ∙ count;
        pauses = h.covers.pauses ∙ count;
        users = h.covers.users ∙ count;
      };
      above = λ f g c. h.above f g (calls_there other app back f g c);
      resources = λ f r l.
          let d = h.resources f r (known_there other app back f l) in
          (λ t. taking_there app other e f r (d.0 t), λ x. d.1 (taking_there other app back f r x));
      pauses = λ f l.
          let d = h.pauses f (known_there other app back f l) in
          (λ t. pause_there app other e f (d.0 t), λ x. d.1 (pause_there other app back f x));
      users = λ f t l.
          let d = h.users f t (known_there other app back f l) in
          (λ x. task_there app other e t f (d.0 x), λ x. d.1 (task_there other app back t f x));
    }

-- ---- what is in range

map_bare : {Y : Type 0} (h : Func → Y) → ((f : Func) → h (bare_func f) ≡ h f) → (fs : List Func) → map h (map bare_func fs) ≡ map h fs
map_bare h same [] = refl
map_bare h same (f ∷ fs) = ap (λ y. y ∷ map h (map bare_func fs)) (same f) ∙ ap (λ ys. h f ∷ ys) (map_bare h same fs)

module _ (config : Config) (app other : App) (e : SameButLists app other)
    (resources : (b : ℕ) → b < length other.funcs → HasResourceLists config (function other b)) where
  mapped : {Y : Type 0} (h : Func → Y) → ((f : Func) → h (bare_func f) ≡ h f) → map h app.funcs ≡ map h other.funcs
  mapped h same = sym (map_bare h same app.funcs) ∙ ap (λ (x : App). map h x.funcs) e ∙ map_bare h same other.funcs

  symbols_same : app.symbols ≡ other.symbols
  symbols_same = ap (λ (x : App). x.symbols) e

  symbol_there : (y : ℕ) → y < length app.symbols → y < length other.symbols
  symbol_there y l = subst (λ (ys : List Symbol). y < length ys) symbols_same l

  op_there : (f g : Func) → length f.labels ≡ length g.labels → (o : Op) → IsOp config app f o → IsOp config other g o
  op_there f g n (op.Load w rd y offset) h = (h.0, symbol_there y h.1, h.2)
  op_there f g n (op.Store w rs y offset) h = (h.0, h.1, symbol_there y h.2, h.3)
  op_there f g n (op.LoadAt w rd y index mask) h = (h.0, symbol_there y h.1, h.2, h.3)
  op_there f g n (op.StoreAt w rs y index mask) h = (h.0, h.1, symbol_there y h.2, h.3, h.4)
  op_there f g n (op.Branch kind a b k) h = (h.0, h.1, subst (λ (m : ℕ). k < m) n h.2)
  op_there f g n (op.Jump k) h = subst (λ (m : ℕ). k < m) n h
  op_there f g n (op.Invoke k) h = (
    subst (λ (m : ℕ). k < m) (count_functions app other e) h.0,
    ap (λ (x : Func). x.task) (sym (functions_same app other e k)) ∙ h.1,
  )
  op_there f g n _ h = h

  names_of : (g : Func) → map (λ (l : Label). l.name) (bare_func g).labels ≡ map (λ (l : Label). l.name) g.labels
  names_of g = map-map (λ (l : Label). l.name) bare_label g.labels

  place_at : (f g : Func) → bare_func f ≡ bare_func g → (k : ℕ) → (label_of f k).item ≡ (label_of g k).item
  place_at f g same k = place_same f g same k

  body_in : (f g : Func) → bare_func f ≡ bare_func g → HasResourceLists config g → IsBody config app f → IsBody config other g
  body_in f g same held h =
      let count = count_same f g same in
      let items = items_same f g same in
      record {
        frame = subst (λ (x : Func). x.frame_words ≤ frame_limit) same h.frame;
        label_names = subst AreNames (names_of g) (subst (λ (x : Func). AreNames (map (λ (l : Label). l.name) x.labels)) same (subst AreNames (sym (names_of f)) h.label_names));
        labels = λ k d l.
            let m : k < length f.labels = subst (λ (n : ℕ). k < n) (sym count) l in
            record { place = placed f g same items count k d l m (h.labels k d m).place; holds = held k d l };
        items = λ i d l. subst (λ (xs : List Item). IsOp config other g (get_or xs i d).op) items
            (op_there f g count (get_or f.items i d).op (h.items i d (subst (λ (xs : List Item). i < length xs) (sym items) l)));
      }
    where
      placed : (f g : Func) → bare_func f ≡ bare_func g → f.items ≡ g.items → length f.labels ≡ length g.labels → (k : ℕ) (d : Label) → k < length g.labels → k < length f.labels
          → (get_or f.labels k d).item ≤ length f.items → (get_or g.labels k d).item ≤ length g.items
      placed f g same items count k d l m p =
          let here : (get_or f.labels k d).item ≡ (get_or g.labels k d).item =
          ap (λ (x : Label). x.item) (get_or_default f.labels k d no_label m) ∙ place_at f g same k
          ∙ ap (λ (x : Label). x.item) (sym (get_or_default g.labels k d no_label l)) in
          subst (λ (n : ℕ). n ≤ length g.items) here (subst (λ (xs : List Item). (get_or f.labels k d).item ≤ length xs) items p)

  pub range_there : AppInRange config app → AppInRange config other
  range_there h = record {
    configuration = h.configuration;
    limits = record {
      few_bodies = subst (λ (n : ℕ). n ≤ body_limit) (count_functions app other e) h.limits.few_bodies;
      few_items = subst (λ (ns : List ℕ). sum ns ≤ item_limit) (mapped (λ f. length f.items) (λ f. refl)) h.limits.few_items;
      few_symbols = subst (λ (ys : List Symbol). length ys ≤ symbol_limit) symbols_same h.limits.few_symbols;
      few_bytes = subst (λ (ys : List Symbol). sum (map (λ y. length y.bytes) ys) ≤ data_limit) symbols_same h.limits.few_bytes;
    };
    func_names = subst AreNames (mapped (λ f. f.name) (λ f. refl)) h.func_names;
    symbol_names = subst (λ (ys : List Symbol). AreNames (map (λ y. y.name) ys)) symbols_same h.symbol_names;
    symbols = subst (λ (ys : List Symbol). All (λ y. 0 < length y.bytes) ys) symbols_same h.symbols;
    tasks = record {
      body = λ t d. let b = h.tasks.body t d in (b.0, body_there app other e t b.0 b.1);
      one = λ t f g x y. h.tasks.one t f g (body_there other app (sym e) t f x) (body_there other app (sym e) t g y);
      declared = λ t f x. h.tasks.declared t f (body_there other app (sym e) t f x);
    };
    bodies = λ b d l.
        let m : b < length app.funcs = subst (λ (n : ℕ). b < n) (sym (count_functions app other e)) l in
        subst (IsBody config other) (get_or_default other.funcs b no_function d l)
        (body_in (function app b) (function other b) (functions_same app other e b) (resources b l) (h.bodies b no_function m));
  }
