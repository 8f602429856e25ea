-- A symbol is used where `shares` says that a task uses it.
use Rattle.std.proofs.Common.{ℕ, inl, inr, false, true, List, [], ◌∷◌, ◌++◌, refl, sym, subst}
use Rattle.std.proofs.lemmas.Bool.{false≢true}
use Rattle.std.proofs.lemmas.List.Folds.{list_any_at}
use Rattle.sloth_base.specs.declared.config.Config.{Config}
use Rattle.sloth_base.specs.declared.app.App.{App}
use Rattle.sloth_base.specs.Named.{function, operation, no_item, IsBodyOf}
use Rattle.code_rules.specs.Code.{HasCall, IsCallChain, Reaches, TaskReaches}
use Rattle.call_graph.proofs.Itself.{item_found, body_is, is_body}
use Rattle.osek_blocking.specs.Walks.{Position, place}
use Rattle.shares_text.specs.Accesses.{symbol_of, IsCalledFrom, Uses}
use Rattle.shares_text.specs.declared.unused.Kind.TheVariants as kind
use Rattle.shares_text.specs.Uses.{is_use, IsUsed}
use Rattle.shares_text.specs.UnusedText.{SymbolsAgree}

module _ (app : App) where
  -- ---- calls from places are chains

  longer : (b g f : ℕ) (between : List ℕ) → IsCallChain app b between g → HasCall app g f → IsCallChain app b (between ++ g ∷ []) f
  longer b g f [] h c = (h, c)
  longer b g f (x ∷ between) h c = (h.0, longer x g f between h.1 c)

  further : (b g f : ℕ) → Reaches app b g → HasCall app g f → Reaches app b f
  further b g f (inl e) c = inr ([], subst (λ x. HasCall app x f) (sym e) c)
  further b g f (inr x) c = inr (x.0 ++ g ∷ [], longer b g f x.0 x.1 c)

  reached : (t f : ℕ) (outer : Position) → IsCalledFrom app t f outer → TaskReaches app t f
  reached t f [] h = (f, h, inl refl)
  reached t f (caller ∷ outer) h = let r = reached t caller.func outer h.1 in (r.0, r.1, further r.0 caller.func f r.2 (caller.item, h.0))

  -- ---- and chains are calls from places

  called_along : (t b f : ℕ) (outer : Position) → IsCalledFrom app t b outer → (between : List ℕ) → IsCallChain app b between f
      → (way : Position) × IsCalledFrom app t f way
  called_along t b f outer h [] c = (place b c.0 ∷ outer, (c.1, h))
  called_along t b f outer h (g ∷ between) c = called_along t g f (place b c.0.0 ∷ outer) (c.0.1, h) between c.1

  called : (t b f : ℕ) → IsBodyOf app t b → Reaches app b f → (way : Position) × IsCalledFrom app t f way
  called t b f body (inl e) = ([], subst (IsBodyOf app t) e body)
  called t b f body (inr x) = called_along t b f [] body x.0 x.1

  -- ---- symbols

  module _ (config : Config) (y : ℕ) where
    from_use : IsUsed config app kind.Symbol y → (t : ℕ) × Uses app y t
    from_use (inl e) = absurd (false≢true e)
    from_use (inr u) =
        let t = u.1.0 in
        let r = u.1.1 in
        let way = called t r.0 u.0 r.1 r.2 in
        let x = item_found (λ item. is_use config kind.Symbol y item.op) (function app u.0).items u.2 in
        (t, (place u.0 x.0, way.0, record { called = way.1; inside = x.1; accesses = body_is y (symbol_of (operation app u.0 x.0)) x.2 }))

    is_used : (t : ℕ) → Uses app y t → IsUsed config app kind.Symbol y
    is_used t u =
        let here = u.0 in
        inr (
          here.func,
          (t, reached t here.func u.1 u.2.called),
          list_any_at (λ item. is_use config kind.Symbol y item.op) (function app here.func).items here.item no_item u.2.inside (is_body y _ u.2.accesses),
        )

pub symbols_agree : SymbolsAgree
symbols_agree config app y = (from_use app config y, is_used app config y)
