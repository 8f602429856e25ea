-- What holds of each way of calls into a function: of the ways of two, and of those through one more call.
use Rattle.std.proofs.Common.{◌≡◌, ℕ, ◌<◌, ◌≤◌, ◌⊎◌, inl, inr, Bool, true, false, ◌||◌, ◌&&◌, cond, max, min, List, [], ◌∷◌, ◌++◌, map, refl, sym, ap, ◌∙◌, subst, arith}
use Rattle.std.specs.Prelude.{◌==◌, not, bit_or, bit_and}
use Rattle.std.specs.Bool.{Decides}
use Rattle.std.specs.Int.{bit_at}
use Rattle.std.proofs.lemmas.Bool.{false≢true, or_left, or_right, or_cases, and_parts, cases_eq, cases_lt}
use Rattle.std.proofs.lemmas.List.{map-append}
use Rattle.std.proofs.lemmas.Nat.Bits.{bit_at_and, bit_at-lt}
use Rattle.sloth_base.specs.declared.config.Config.{Config}
use Rattle.sloth_base.specs.declared.app.App.{App}
use Rattle.sloth_base.specs.Limits.{ceiling_count}
use Rattle.sloth_base.specs.Named.{declaration}
use Rattle.code_rules.specs.Code.{is_in}
use Rattle.code_rules.specs.WellFormed.{held_list_before}
use Rattle.osek_scheduler.specs.Priority.{greatest, ceiling, highest_priority}
use Rattle.osek_scheduler.specs.Apart.{static_priority}
use Rattle.osek_scheduler.proofs.Stacks.{is_in-append}
use Rattle.call_graph.specs.Bits.{is_member}
use Rattle.call_graph.proofs.Sets.{has_or}
use Rattle.osek_blocking.specs.Walks.{Position, place}
use Rattle.osek_blocking.specs.Sections.{held_list_along, priority_at}
use Rattle.shares_text.specs.declared.contexts.Context.{Context}
use Rattle.shares_text.specs.declared.sites.Held.{Held}
use Rattle.shares_text.specs.Sites.{IsHeld}
use Rattle.shares_text.specs.Contexts.{through, joined, no_context, IsContextOf}

-- ---- sets

min_one : (a b : ℕ) → a < 2 → b < 2 → (min a b == 1) ≡ ((a == 1) && (b == 1))
min_one a b h k = by (cases_eq a 1)
  where
    by : (a ≡ 1) ⊎ (a ≡ 1 → ⊥) → (min a b == 1) ≡ ((a == 1) && (b == 1))
    by (inl e) = let m : min a b ≡ b = omega (arith, e, k) in ap (λ x. x == 1) m ∙ sym (ap (λ x. (x == 1) && (b == 1)) e)
    by (inr n) =
        let z : a ≡ 0 = omega (arith, h, n) in
        let m : min a b ≡ 0 = omega (arith, z) in
        ap (λ x. x == 1) m ∙ sym (ap (λ x. (x == 1) && (b == 1)) z)

pub has_and : (a b r : ℕ) → is_member (bit_and a b) r ≡ (is_member a r && is_member b r)
unfolding is_member
has_and a b r = ap (λ x. x == 1) (bit_at_and a b r) ∙ min_one (bit_at a r) (bit_at b r) (bit_at-lt a r) (bit_at-lt b r)

-- ---- priorities

greatest-append : (xs ys : List ℕ) → greatest (xs ++ ys) ≡ max (greatest xs) (greatest ys)
greatest-append [] ys = omega arith
greatest-append (x ∷ xs) ys = let e = greatest-append xs ys in omega (arith, e)

-- what an innermost function adds to the current priority
pub priority_inside : (config : Config) (app : App) (t f i : ℕ) (outer : Position)
    → priority_at config app t (place f i ∷ outer) ≡ max (greatest (map (ceiling config) (held_list_before app f i))) (priority_at config app t outer)
priority_inside config app t f i outer =
    let new = greatest (map (ceiling config) (held_list_before app f i)) in
    let old = greatest (map (ceiling config) (held_list_along app outer)) in
    let e =
    ap greatest (map-append (ceiling config) (held_list_along app outer) (held_list_before app f i))
    ∙ greatest-append (map (ceiling config) (held_list_along app outer)) (map (ceiling config) (held_list_before app f i)) in
    grouped (static_priority config t) (greatest (map (ceiling config) (held_list_along app outer ++ held_list_before app f i))) old new
    (cond (declaration config t).non (highest_priority config) 0) e
  where
    grouped : (d all old new r : ℕ) → all ≡ max old new → max d (max all r) ≡ max new (max d (max old r))
    grouped d all old new r e = omega (arith, e)

-- ---- contexts

module _ (config : Config) (app : App) (t : ℕ) where
  -- the ways that are these, one for one
  pub same_ways : (P Q : Position → Type 0) (c : Context) → ((outer : Position) → P outer → Q outer) → ((outer : Position) → Q outer → P outer)
      → IsContextOf config app t P c → IsContextOf config app t Q c
  same_ways P Q c to from h = record {
    reached = (λ e. let w = h.reached.0 e in (w.0, to w.0 w.1), λ w. h.reached.1 (w.0, from w.0 w.1));
    held = λ r e few. let d = h.held r e few in (λ m outer q. d.0 m outer (from outer q), λ all. d.1 (λ outer p. all outer (to outer p)));
    attained = λ e. let w = h.attained e in (w.0, to w.0 w.1, w.2);
    none_less = λ e outer q. h.none_less e outer (from outer q);
  }

  -- there is none
  pub no_ways : (P : Position → Type 0) → ((outer : Position) → P outer → ⊥) → IsContextOf config app t P no_context
  no_ways P none = record {
    reached = (λ e. absurd (false≢true e), λ w. absurd (none w.0 w.1));
    held = λ r e few. absurd (false≢true e);
    attained = λ e. absurd (false≢true e);
    none_less = λ e outer p. absurd (none outer p);
  }

  -- the ways through a call at item i of function f
  abbrev pub Through : (f i : ℕ) → (Position → Type 0) → Position → Type 0
  Through f i P way = (outer : Position) × P outer × (way ≡ place f i ∷ outer)

  pub through_is : (f i : ℕ) (own : Held) (P : Position → Type 0) (c : Context) → IsHeld config (held_list_before app f i) own
      → IsContextOf config app t P c → IsContextOf config app t (Through f i P) (through c own)
  through_is f i own P c is h = record {
    reached = (λ e. let w = h.reached.0 e in (place f i ∷ w.0, (w.0, w.1, refl)), λ w. h.reached.1 (w.1.0, w.1.1));
    held = λ r e few. decided r e few;
    attained = λ e.
        let w = h.attained e in
        (place f i ∷ w.0, (w.0, w.1, refl), inside w.0 ∙ ap (λ p. max own.top p) w.2);
    none_less = λ e way w.
        let le = h.none_less e w.0 w.1 in
        let at = inside w.0 in
        let same = ap (priority_at config app t) w.2 in
        omega (arith, le, at, same);
  }
    where
      inside : (outer : Position) → priority_at config app t (place f i ∷ outer) ≡ max own.top (priority_at config app t outer)
      inside outer = priority_inside config app t f i outer ∙ ap (λ x. max x (priority_at config app t outer)) (sym is.top)

      along : (r : ℕ) (outer : Position)
          → is_in r (held_list_along app (place f i ∷ outer)) ≡ (is_in r (held_list_along app outer) || is_in r (held_list_before app f i))
      along r outer = is_in-append r (held_list_along app outer) (held_list_before app f i)

      decided : (r : ℕ) → c.reached ≡ true → r < ceiling_count
          → Decides (is_member (bit_or c.held own.members) r) ((way : Position) → Through f i P way → is_in r (held_list_along app way) ≡ true)
      decided r e few = (forth, back)
        where
          same : is_member own.members r ≡ is_in r (held_list_before app f i)
          same = is.members r (omega (arith, few))

          d : Decides (is_member c.held r) ((outer : Position) → P outer → is_in r (held_list_along app outer) ≡ true)
          d = h.held r e few

          forth : is_member (bit_or c.held own.members) r ≡ true → (way : Position) → Through f i P way → is_in r (held_list_along app way) ≡ true
          forth m way w = ap (λ x. is_in r (held_list_along app x)) w.2 ∙ (along r w.0 ∙ by (or_cases (is_member c.held r) (is_member own.members r) (sym (has_or c.held own.members r) ∙ m)))
            where
              by : (is_member c.held r ≡ true) ⊎ (is_member own.members r ≡ true) → (is_in r (held_list_along app w.0) || is_in r (held_list_before app f i)) ≡ true
              by (inl a) = or_left (is_in r (held_list_along app w.0)) (is_in r (held_list_before app f i)) (d.0 a w.0 w.1)
              by (inr b) = or_right (is_in r (held_list_along app w.0)) (is_in r (held_list_before app f i)) (sym same ∙ b)

          back : ((way : Position) → Through f i P way → is_in r (held_list_along app way) ≡ true) → is_member (bit_or c.held own.members) r ≡ true
          back all = has_or c.held own.members r ∙ by (is_in r (held_list_before app f i)) refl
            where
              by : (b : Bool) → is_in r (held_list_before app f i) ≡ b → (is_member c.held r || is_member own.members r) ≡ true
              by true k = or_right (is_member c.held r) (is_member own.members r) (same ∙ k)
              by false k =
                  or_left (is_member c.held r) (is_member own.members r)
                  (d.1 (λ outer p. left outer (sym (along r outer) ∙ all (place f i ∷ outer) (outer, p, refl))))
                where
                  left : (outer : Position) → (is_in r (held_list_along app outer) || is_in r (held_list_before app f i)) ≡ true
                      → is_in r (held_list_along app outer) ≡ true
                  left outer both = at (or_cases (is_in r (held_list_along app outer)) (is_in r (held_list_before app f i)) both)
                    where
                      at : (is_in r (held_list_along app outer) ≡ true) ⊎ (is_in r (held_list_before app f i) ≡ true) → is_in r (held_list_along app outer) ≡ true
                      at (inl a) = a
                      at (inr b) = absurd (false≢true (sym k ∙ b))

  -- the ways of both
  abbrev pub Either : (P Q : Position → Type 0) → Position → Type 0
  Either P Q outer = P outer ⊎ Q outer

  pub joined_is : (P Q : Position → Type 0) (one other : Context) → IsContextOf config app t P one → IsContextOf config app t Q other
      → IsContextOf config app t (Either P Q) (joined one other)
  joined_is P Q one other h k = by one.reached other.reached refl refl
    where
      J : Bool → Bool → Context
      J a b = cond (not b) one (cond (not a) other (record { reached = true; held = bit_and one.held other.held; least = min other.least one.least }))

      is_joined : J one.reached other.reached ≡ joined one other
      is_joined = refl

      only_one : other.reached ≡ false → IsContextOf config app t (Either P Q) one
      only_one none =
          same_ways P (Either P Q) one (λ outer p. inl p) (λ outer w. left outer w) h
        where
          left : (outer : Position) → Either P Q outer → P outer
          left outer (inl p) = p
          left outer (inr q) = absurd (false≢true (sym none ∙ k.reached.1 (outer, q)))

      only_other : one.reached ≡ false → IsContextOf config app t (Either P Q) other
      only_other none =
          same_ways Q (Either P Q) other (λ outer q. inr q) (λ outer w. right outer w) k
        where
          right : (outer : Position) → Either P Q outer → Q outer
          right outer (inl p) = absurd (false≢true (sym none ∙ h.reached.1 (outer, p)))
          right outer (inr q) = q

      both : one.reached ≡ true → other.reached ≡ true
          → IsContextOf config app t (Either P Q) (record { reached = true; held = bit_and one.held other.held; least = min other.least one.least })
      both a b = record {
        reached = (λ e. let w = h.reached.0 a in (w.0, inl w.1), λ w. refl);
        held = λ r e few. (
          λ m outer w. members r few (and_parts (is_member one.held r) (is_member other.held r) (sym (has_and one.held other.held r) ∙ m)) outer w,
          λ all. has_and one.held other.held r
              ∙ (ap (λ x. x && is_member other.held r) ((h.held r a few).1 (λ outer p. all outer (inl p))) ∙ (k.held r b few).1 (λ outer q. all outer (inr q))),
        );
        attained = λ e. least (cases_lt one.least other.least);
        none_less = λ e outer w. above outer w;
      }
        where
          members : (r : ℕ) → r < ceiling_count → (is_member one.held r ≡ true) × (is_member other.held r ≡ true) → (outer : Position) → Either P Q outer
              → is_in r (held_list_along app outer) ≡ true
          members r few m outer (inl p) = (h.held r a few).0 m.0 outer p
          members r few m outer (inr q) = (k.held r b few).0 m.1 outer q

          least : (one.least < other.least) ⊎ (other.least ≤ one.least)
              → (outer : Position) × Either P Q outer × (priority_at config app t outer ≡ min other.least one.least)
          least (inl lt) = let w = h.attained a in (w.0, inl w.1, w.2 ∙ omega (arith, lt))
          least (inr le) = let w = k.attained b in (w.0, inr w.1, w.2 ∙ omega (arith, le))

          above : (outer : Position) → Either P Q outer → min other.least one.least ≤ priority_at config app t outer
          above outer (inl p) = let le = h.none_less a outer p in omega (arith, le)
          above outer (inr q) = let le = k.none_less b outer q in omega (arith, le)

      by : (a b : Bool) → one.reached ≡ a → other.reached ≡ b → IsContextOf config app t (Either P Q) (joined one other)
      by a false e f = subst (IsContextOf config app t (Either P Q)) (sym (ap (λ x. J one.reached x) f)) (only_one f)
      by false true e f = subst (IsContextOf config app t (Either P Q)) (sym (ap (λ x. J one.reached x) f ∙ ap (λ x. J x true) e)) (only_other e)
      by true true e f = subst (IsContextOf config app t (Either P Q)) (sym (ap (λ x. J one.reached x) f ∙ ap (λ x. J x true) e)) (both e f)
