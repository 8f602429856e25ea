-- What the ways of a body lead to.
use Rattle.std.proofs.Common.{◌≡◌, ℕ, ◌+◌, ◌<◌, ◌≤◌, Bool, true, false, ◌⊎◌, inl, inr, List, length, get_or, cond, Option, Some, None, refl, ap, sym, ◌∙◌, subst, arith, ⊎_elim}
use Rattle.std.proofs.lemmas.Bool.{cases_lt, true≢false, false≢true}
use Rattle.std.proofs.lemmas.List.{get_or_past}
use Rattle.sloth_base.specs.declared.app.Func.{Func}
use Rattle.sloth_base.specs.declared.app.Op.{Op}
use Rattle.sloth_base.specs.declared.app.Op.TheVariants as op
use Rattle.sloth_base.specs.Named.{item_of, label_of}
use Rattle.code_rules.specs.Code.{is_followed, way}
use Rattle.walk_sums.specs.declared.graph.Ways.{Ways}
use Rattle.walk_sums.specs.Graph.{ways_of, HasWay, AreInside, no_ways}
use Rattle.walk_sums.specs.Activations.{is_plain}
use Rattle.walk_sums.specs.Links.{open_way, goes_past, next_way, label_way, item_ways}

-- ---- operations

-- what is behind an operation is reached from it: it is a call of a function that is passed, or a path goes on
pub past_cases : (passed : List Bool) (o : Op) → goes_past passed o ≡ true
    → ((g : ℕ) × (o ≡ op.Invoke g) × (get_or passed g false ≡ true)) ⊎ ((is_plain o ≡ true) × (is_followed o ≡ true))
past_cases passed (op.Invoke g) e = inl (g, refl, e)
past_cases passed op.Return e = absurd (false≢true e)
past_cases passed (op.Alu kind rd a b) e = inr (refl, e)
past_cases passed (op.AluImm kind rd a n) e = inr (refl, e)
past_cases passed (op.Lui rd n) e = inr (refl, e)
past_cases passed (op.Li rd v) e = inr (refl, e)
past_cases passed (op.FrameLoad rd word) e = inr (refl, e)
past_cases passed (op.FrameStore rs word) e = inr (refl, e)
past_cases passed (op.Load w rd y offset) e = inr (refl, e)
past_cases passed (op.Store w rs y offset) e = inr (refl, e)
past_cases passed (op.LoadAt w rd y index mask) e = inr (refl, e)
past_cases passed (op.StoreAt w rs y index mask) e = inr (refl, e)
past_cases passed (op.Branch kind a b k) e = inr (refl, e)
past_cases passed (op.Jump k) e = inr (refl, e)
past_cases passed (op.Serve call) e = inr (refl, e)

pub plain_past : (passed : List Bool) (o : Op) → is_plain o ≡ true → is_followed o ≡ true → goes_past passed o ≡ true
plain_past passed (op.Invoke g) p e = absurd (false≢true p)
plain_past passed op.Return p e = absurd (false≢true p)
plain_past passed _ p e = e

pub way_plain : (o : Op) (k : ℕ) → way o ≡ Some k → is_plain o ≡ true
way_plain (op.Invoke g) k e = absurd cc
way_plain op.Return k e = absurd cc
way_plain _ k e = refl

-- ---- ways

some_is : (a b : ℕ) → Some a ≡ Some b → a ≡ b
some_is a b e = cc

opened : (open_items : List Bool) (k j : ℕ) → open_way open_items k ≡ Some j → (k ≡ j) × (get_or open_items j false ≡ true)
opened open_items k j e = by (get_or open_items k false) refl e
  where
    by : (b : Bool) → get_or open_items k false ≡ b → cond b (Some k) None ≡ Some j → (k ≡ j) × (get_or open_items j false ≡ true)
    by true is h = let same = some_is k j h in (same, subst (λ v. get_or open_items v false ≡ true) same is)
    by false is h = absurd cc

to_open : (open_items : List Bool) (j : ℕ) → get_or open_items j false ≡ true → open_way open_items j ≡ Some j
to_open open_items j e = ap (λ b. cond b (Some j) None) e

module _ (f : Func) (passed going open_items : List Bool) (ways : List Ways) (count : length ways ≡ length f.items)
    (exact : (i : ℕ) → i < length f.items → ways_of ways i ≡ item_ways f passed going open_items i) where
  -- where item i leads to item j
  abbrev pub LeadsOn : (i j : ℕ) → Type 0
  LeadsOn i j = ((goes_past passed (item_of f i).op ≡ true) × (j ≡ i + 1)) ⊎ ((k : ℕ) × (way (item_of f i).op ≡ Some k) × (j ≡ (label_of f k).item))

  pub record Led (i j : ℕ) : Type 0 where
    pub inside : i < length f.items
    pub goes : get_or going i false ≡ true
    pub is_open : get_or open_items j false ≡ true
    pub on : LeadsOn i j

  pub led : (i j : ℕ) → HasWay ways i j → Led i j
  led i j g = by (cases_lt i (length f.items))
    where
      next : (b : Bool) → get_or going i false ≡ b → i < length f.items → (cond b (record { next = next_way f passed open_items i; jump = label_way f open_items (way (item_of f i).op) }) no_ways).next ≡ Some j → Led i j
      next false is lt e = absurd cc
      next true is lt e = past (goes_past passed (item_of f i).op) refl e
        where
          past : (b : Bool) → goes_past passed (item_of f i).op ≡ b → cond b (open_way open_items (i + 1)) None ≡ Some j → Led i j
          past false p h = absurd cc
          past true p h = let o = opened open_items (i + 1) j h in record { inside = lt; goes = is; is_open = o.1; on = inl (p, sym o.0) }

      jump : (b : Bool) → get_or going i false ≡ b → i < length f.items → (cond b (record { next = next_way f passed open_items i; jump = label_way f open_items (way (item_of f i).op) }) no_ways).jump ≡ Some j → Led i j
      jump false is lt e = absurd cc
      jump true is lt e = to (way (item_of f i).op) refl e
        where
          to : (o : Option ℕ) → way (item_of f i).op ≡ o → label_way f open_items o ≡ Some j → Led i j
          to None w h = absurd cc
          to (Some k) w h = let o = opened open_items (label_of f k).item j h in record { inside = lt; goes = is; is_open = o.1; on = inr (k, w, sym o.0) }

      by : (i < length f.items) ⊎ (length f.items ≤ i) → Led i j
      by (inl lt) = ⊎_elim
          (λ e. next (get_or going i false) refl lt (sym (ap (λ w. w.next) (exact i lt)) ∙ e))
          (λ e. jump (get_or going i false) refl lt (sym (ap (λ w. w.jump) (exact i lt)) ∙ e)) g
      by (inr le) =
          let none = get_or_past ways i no_ways (omega (arith, le, count)) in
          ⊎_elim
          (λ e. absurd (let n = sym (ap (λ w. w.next) none) ∙ e in no_way j n))
          (λ e. absurd (let n = sym (ap (λ w. w.jump) none) ∙ e in no_way j n)) g
        where
          no_way : (j : ℕ) → None ≡ Some j → ⊥
          no_way j e = cc

  pub leads : (i j : ℕ) → Led i j → HasWay ways i j
  leads i j l = by l.on
    where
      is : ways_of ways i ≡ record { next = next_way f passed open_items i; jump = label_way f open_items (way (item_of f i).op) }
      is = exact i l.inside ∙ ap (λ b. cond b (record { next = next_way f passed open_items i; jump = label_way f open_items (way (item_of f i).op) }) no_ways) l.goes

      by : LeadsOn i j → HasWay ways i j
      by (inl h) =
          inl (ap (λ w. w.next) is ∙ ap (λ b. cond b (open_way open_items (i + 1)) None) h.0 ∙ ap (open_way open_items) (sym h.1) ∙ to_open open_items j l.is_open)
      by (inr h) = inr (ap (λ w. w.jump) is ∙ ap (label_way f open_items) h.1 ∙ ap (open_way open_items) (sym h.2) ∙ to_open open_items j l.is_open)

  -- to an item that is there
  pub inside : length open_items ≡ length f.items → AreInside ways
  inside same i j g = by (cases_lt j (length f.items))
    where
      by : (j < length f.items) ⊎ (length f.items ≤ j) → j < length ways
      by (inl lt) = omega (arith, lt, count)
      by (inr le) = absurd (true≢false (sym (led i j g).is_open ∙ get_or_past open_items j false (omega (arith, le, same))))
