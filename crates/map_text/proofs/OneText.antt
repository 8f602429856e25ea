-- Texts have one list of lines at most.
use Rattle.std.proofs.Common.{◌≡◌, ◌∙◌, ℕ, zero, suc, List, ◌++◌, [], ◌∷◌, cond, length, get_or, refl, sym, ap, subst, arith}
use Rattle.std.proofs.lemmas.List.{ext_get_or}
use Rattle.sloth_base.specs.declared.app.App.{App}
use Rattle.sloth_base.specs.declared.config.Config.{Config}
use Rattle.sloth_base.specs.declared.limits.Bounds.{Bounds}
use Rattle.sloth_region.specs.declared.region.Extent.{Extent}
use Rattle.sloth_region.specs.declared.region.Map.{Map}
use Rattle.code_rules.specs.WellFormed.{WellFormed}
use Rattle.sloth_source.proofs.Unique.{one_meaning}
use Rattle.stack_bounds.specs.Bounds.{AreBounds, AreStacked, CallsInTurn, IsGreatest, stacked_bytes, total, used_bytes}
use Rattle.stack_bounds.proofs.Parts.{one_greatest}
use Rattle.mem_map.specs.Planned.{IsPlanned}
use Rattle.mem_map.specs.Stacks.{address_behind_data}
use Rattle.mem_map.specs.StackParts.{is_extended}
use Rattle.mem_map.specs.Zones.{stack_of}
use Rattle.mem_map.proofs.OnePlan.{AreAlike, one_plan}
use Rattle.map_text.specs.MapText.{OneText, lines_of, map_text}
use Rattle.map_text.specs.Rows.{map_rows, own_rows, extent_row, shared_rows, starts_of}
use Rattle.map_text.specs.PieceRows.{rows_between}
use Rattle.map_text.specs.declared.piece_starts.Kind.TheVariants as kind
use Rattle.map_text.specs.declared.piece_starts.Row.{Row}
use Rattle.map_text.specs.declared.piece_starts.Start.{Start}

-- ---- rows

module _ (config : Config) (m : Map) (tops : List ℕ) (words : Extent) where
  -- the map with other tops and words
  abbrev pub other : Map
  other = record m { tops = tops; words = words }

  starts_alike : starts_of config other ≡ starts_of config m
  unfolding starts_of
  starts_alike = refl

  own_alike : (k : ℕ) → own_rows config other k ≡ own_rows config m k
  unfolding own_rows
  own_alike zero = refl
  own_alike (suc t) = ap (λ l. l ++ cond (is_extended config.tasks t) (extent_row kind.Stack t (stack_of m t) ∷ []) []) (own_alike t)

  pub rows_alike : map_rows config other ≡ map_rows config m
  rows_alike =
      ap (λ (l : List Start). rows_between l (address_behind_data m) ++ shared_rows config m ++ own_rows config other (length config.tasks)) starts_alike
      ∙ ap (λ (l : List Row). rows_between (starts_of config m) (address_behind_data m) ++ shared_rows config m ++ l) (own_alike (length config.tasks))

pub same_rows : (config : Config) (m n : Map) → AreAlike m n → map_rows config m ≡ map_rows config n
same_rows config m n h =
    let whole : m ≡ record n { tops = m.tops; words = m.words } =
    ap (λ x. record m { extents = x }) h.extents ∙ ap (λ x. record m { extents = n.extents; places = x }) h.places
    ∙ ap (λ x. record m { extents = n.extents; places = n.places; stacks = x }) h.stacks
    ∙ ap (λ x. record m { extents = n.extents; places = n.places; stacks = n.stacks; idle = x }) h.idle
    ∙ ap (λ x. record m { extents = n.extents; places = n.places; stacks = n.stacks; idle = n.idle; handlers = x }) h.handlers in
    ap (map_rows config) whole ∙ rows_alike config n m.tops m.words

-- ---- bounds

pub same_bounds : (config : Config) (app : App) (a b : Bounds) → WellFormed config app → AreBounds config app a → AreBounds config app b → a ≡ b
same_bounds config app a b well p q =
    let count = p.count in
    let bytes : a.bytes ≡ b.bytes =
    ext_get_or 0 a.bytes b.bytes (p.count ∙ sym q.count)
    (λ t l.
    let body = well.in_range.tasks.body t (omega (arith, l, count)) in
    one_greatest (CallsInTurn app body.0) (used_bytes app body.0) (get_or a.bytes t 0) (get_or b.bytes t 0) (p.bytes t body.0 body.1) (q.bytes t body.0 body.1)) in
    let G : List ℕ → Type 0 = λ l. IsGreatest (AreStacked config app) (total (λ t. get_or l t 0)) a.shared in
    let shared : a.shared ≡ b.shared = one_greatest (AreStacked config app) (stacked_bytes b) a.shared b.shared (subst G bytes p.shared) q.shared in
    ap (λ x. record { bytes = x; shared = a.shared }) bytes ∙ ap (λ x. record { bytes = b.bytes; shared = x }) shared

-- ---- the text

same_text : (config : Config) (app : App) (a b : Bounds) (m n : Map) → WellFormed config app → AreBounds config app a → AreBounds config app b
    → IsPlanned config app a m → IsPlanned config app b n → map_text config app a m ≡ map_text config app b n
same_text config app a b m n well p q is_m is_n =
    let bounds = same_bounds config app a b well p q in
    let P : Bounds → Type 0 = λ x. IsPlanned config app x m in
    let rows = same_rows config m n (one_plan config app well.in_range b m n (subst P bounds is_m) is_n) in
    ap (λ x. map_text config app x m) bounds ∙ ap (λ (r : List Row). lines_of config app b r) rows

pub one_text : OneText
one_text oil src one two h k =
    let same = one_meaning oil src h.config k.config h.app k.app h.accepted k.accepted in
    let B : Config → Type 0 = λ c. AreBounds c h.app h.bounds in
    let C : App → Type 0 = λ x. AreBounds k.config x h.bounds in
    let P : Config → Type 0 = λ c. IsPlanned c h.app h.bounds h.has_map.plan in
    let Q : App → Type 0 = λ x. IsPlanned k.config x h.bounds h.has_map.plan in
    h.has_map.is ∙ ap (λ c. map_text c h.app h.bounds h.has_map.plan) same.0 ∙ ap (λ x. map_text k.config x h.bounds h.has_map.plan) same.1
    ∙ same_text k.config k.app h.bounds k.bounds h.has_map.plan k.has_map.plan k.well_formed (subst C same.1 (subst B same.0 h.are_bounds)) k.are_bounds
    (subst Q same.1 (subst P same.0 h.has_map.planned)) k.has_map.planned
    ∙ sym k.has_map.is
