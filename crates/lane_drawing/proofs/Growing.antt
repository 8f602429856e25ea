-- The bars of a lane grow with each count that it shows.
use Rattle.std.proofs.Common.{◌≡◌, ◌≤◌, ◌<◌, ◌+◌, ◌∙◌, inl, inr, ℕ, List, [], ◌∷◌, ◌++◌, Option, None, Some, refl, sym, ap, subst, arith}
use Rattle.std.proofs.lemmas.Bool.Decides.{leb_tells}
use Rattle.std.proofs.lemmas.List.{append-nil}
use Rattle.lane_drawing.specs.declared.drawing.Bar.{Bar}
use Rattle.lane_drawing.specs.declared.drawing.Look.{Look}
use Rattle.lane_drawing.specs.Bars.{IsEmpty, IsBar, AreBars}
use Rattle.lane_drawing.specs.Strips.{Lane, bar_of, last_bar, EndBelow, HasEndedBars, IsStrip}

module _ (looks : ℕ → Option Look) where
  -- nothing is shown up to a count, nor at it
  empty-more : (from k : ℕ) → IsEmpty looks from k → looks k ≡ None → IsEmpty looks from (k + 1)
  empty-more from k before here count a b = elim (leb_tells k count) [
    | inl t ↦ (let l = t.1 in let same : count ≡ k = omega (arith, b, l) in ap looks same ∙ here)
    | inr t ↦ before count a t.1
  ]

  -- a bar that ends below a count is one of those up to the next
  bar-more : (from k : ℕ) (bar : Bar) → bar.to < k → IsBar looks from k bar → IsBar looks from (k + 1) bar
  bar-more from k bar below is = record {
    behind = is.behind;
    nothing_between = is.nothing_between;
    some = is.some;
    within = omega (arith, below);
    equal = is.equal;
    longest = λ b. is.longest below;
  }

  -- what is shown at a count, behind nothing
  piece-more : (from k : ℕ) (look : Option Look) → from ≤ k → IsEmpty looks from k → looks k ≡ look → AreBars looks from (k + 1) (bar_of look k (k + 1))
  piece-more from k None a before here = empty-more from k before here
  piece-more from k (Some look) a before here = (
    record {
      behind = a;
      nothing_between = before;
      some = omega arith;
      within = omega arith;
      equal = λ count b c. (let same : count ≡ k = omega (arith, b, c) in ap looks same ∙ here);
      longest = λ b. absurd (omega (arith, b));
    },
    λ count b c. absurd (omega (arith, b, c)),
  )

  -- behind bars that end below the count
  idle-more : (bars : List Bar) (from k : ℕ) (look : Option Look) → from ≤ k → AreBars looks from k bars → EndBelow k bars → looks k ≡ look
      → AreBars looks from (k + 1) (bars ++ bar_of look k (k + 1))
  idle-more [] from k look a are below here = piece-more from k look a are here
  idle-more (bar ∷ bars) from k look a are below here =
      (bar-more from k bar below.0 are.0, idle-more bars bar.to k look (omega (arith, below.0)) are.1 below.1 here)

  -- ---- behind a bar that ends at the count

  -- bars in front of another end below its end
  room : (bars : List Bar) (from k : ℕ) (last : Bar) → AreBars looks from k (bars ++ last ∷ []) → from < k
  room [] from k last are = (let a = are.0.behind in let b = are.0.some in let c = are.0.within in omega (arith, a, b, c))
  room (bar ∷ bars) from k last are =
      let a = are.0.behind in let b = are.0.some in let c = room bars bar.to k last are.1 in omega (arith, a, b, c)

  -- what is shown at the count is something else
  turn-more : (bars : List Bar) (from k : ℕ) (last : Bar) (look : Option Look) → AreBars looks from k (bars ++ last ∷ []) → last.to ≡ k → looks k ≡ look
      → (Some last.look ≡ look → ⊥) → AreBars looks from (k + 1) ((bars ++ last ∷ []) ++ bar_of look k (k + 1))
  turn-more [] from k last look are ends here other = (
    record {
      behind = are.0.behind;
      nothing_between = are.0.nothing_between;
      some = are.0.some;
      within = omega (arith, ends);
      equal = are.0.equal;
      longest = λ below same. other (sym same ∙ (ap looks ends ∙ here));
    },
    piece-more last.to k look (omega (arith, ends)) are.1 here,
  )
  turn-more (bar ∷ bars) from k last look are ends here other =
      (bar-more from k bar (room bars bar.to k last are.1) are.0, turn-more bars bar.to k last look are.1 ends here other)

  -- a bar of a look from one count to below another
  abbrev bar : Look → (from to : ℕ) → Bar
  bar look from to = record { look = look; from = from; to = to }

  -- it is the same
  same-more : (bars : List Bar) (from since k : ℕ) (look : Look) → AreBars looks from k (bars ++ bar look since k ∷ []) → looks k ≡ Some look
      → AreBars looks from (k + 1) (bars ++ bar look since (k + 1) ∷ [])
  same-more [] from since k look are here = (
    record {
      behind = are.0.behind;
      nothing_between = are.0.nothing_between;
      some = (let s = are.0.some in omega (arith, s));
      within = omega arith;
      equal = λ count a b. elim (leb_tells k count) [
        | inl t ↦ (let l = t.1 in let same : count ≡ k = omega (arith, b, l) in ap looks same ∙ here)
        | inr t ↦ are.0.equal count a t.1
      ];
      longest = λ below. absurd (omega (arith, below));
    },
    λ count a b. absurd (omega (arith, a, b)),
  )
  same-more (b ∷ bars) from since k look are here =
      (bar-more from k b (room bars b.to k (bar look since k) are.1) are.0, same-more bars b.to since k look are.1 here)

  -- all bars end at the count or below it
  end-below : (bars : List Bar) (from k : ℕ) → AreBars looks from k bars → EndBelow (k + 1) bars
  end-below [] from k are = tt
  end-below (b ∷ bars) from k are = (let w = are.0.within in omega (arith, w), end-below bars b.to k are.1)

  apart-more : (bars : List Bar) (from k : ℕ) (look : Option Look) → AreBars looks from k bars → HasEndedBars (k + 1) look bars
  apart-more bars from k None are = end-below bars from k are
  apart-more bars from k (Some look) are = tt

  -- ---- a strip

  -- it shows the same as before
  goes-on : (from since k : ℕ) (shown : Option Look) (bars : List Bar) → from ≤ k → AreBars looks from k (bars ++ bar_of shown since k)
      → HasEndedBars k shown bars → looks k ≡ shown
      → AreBars looks from (k + 1) (bars ++ bar_of shown since (k + 1)) × HasEndedBars (k + 1) shown bars
  goes-on from since k None bars a are apart here =
      let whole : AreBars looks from k bars = subst (λ l. AreBars looks from k l) (append-nil bars) are in
      (idle-more bars from k None a whole apart here, end-below bars from k whole)
  goes-on from since k (Some look) bars a are apart here = (same-more bars from since k look are here, tt)

  -- it shows something else
  turns : (from since k : ℕ) (shown look : Option Look) (bars : List Bar) → from ≤ k → AreBars looks from k (bars ++ bar_of shown since k)
      → HasEndedBars k shown bars → looks k ≡ look → (shown ≡ look → ⊥)
      → AreBars looks from (k + 1) ((bars ++ bar_of shown since k) ++ bar_of look k (k + 1)) × HasEndedBars (k + 1) look (bars ++ bar_of shown since k)
  turns from since k None look bars a are apart here other =
      let whole : AreBars looks from k bars = subst (λ l. AreBars looks from k l) (append-nil bars) are in
      let more : AreBars looks from (k + 1) (bars ++ bar_of look k (k + 1)) = idle-more bars from k look a whole apart here in
      (subst (λ l. AreBars looks from (k + 1) (l ++ bar_of look k (k + 1))) (sym (append-nil bars)) more, apart-more (bars ++ []) from k look are)
  turns from since k (Some shown) look bars a are apart here other =
      (turn-more bars from k (bar shown since k) look are refl here other, apart-more (bars ++ bar shown since k ∷ []) from k look are)

  -- a strip at the next count
  pub strip_goes_on : (from k : ℕ) (strip : Lane) → from ≤ k → IsStrip looks from k strip → looks k ≡ strip.shown → IsStrip looks from (k + 1) strip
  strip_goes_on from k strip a is here =
      let more = goes-on from strip.since k strip.shown strip.bars a is.are_bars is.apart here in record { are_bars = more.0; apart = more.1 }

  pub strip_turns : (from k : ℕ) (old new : Lane) → from ≤ k → IsStrip looks from k old → looks k ≡ new.shown → (old.shown ≡ new.shown → ⊥)
      → new.bars ≡ old.bars ++ last_bar old k → new.since ≡ k → IsStrip looks from (k + 1) new
  strip_turns from k old new a is here other bars since =
      let more = turns from old.since k old.shown new.shown old.bars a is.are_bars is.apart here other in record {
        are_bars = subst (λ l. AreBars looks from (k + 1) (l ++ bar_of new.shown new.since (k + 1))) (sym bars)
            (subst (λ s. AreBars looks from (k + 1) ((old.bars ++ last_bar old k) ++ bar_of new.shown s (k + 1))) (sym since) more.0);
        apart = subst (λ l. HasEndedBars (k + 1) new.shown l) (sym bars) more.1;
      }

  -- the bars of a strip that ends at a count
  pub strip_bars : (from k : ℕ) (strip : Lane) → IsStrip looks from k strip → AreBars looks from k (strip.bars ++ last_bar strip k)
  strip_bars from k strip is = is.are_bars

-- ---- other looks

-- those that show the same at the counts from one to below another have the same bars
pub same_bars : (looks others : ℕ → Option Look) (from to : ℕ) (bars : List Bar) → ((count : ℕ) → from ≤ count → count < to → looks count ≡ others count)
    → AreBars looks from to bars → AreBars others from to bars
same_bars looks others from to [] same are = λ count a b. sym (same count a b) ∙ are count a b
same_bars looks others from to (bar ∷ bars) same are = (
  record {
    behind = are.0.behind;
    nothing_between = λ count a b. (let w = are.0.within in let s = are.0.some in sym (same count a (omega (arith, b, w, s))) ∙ are.0.nothing_between count a b);
    some = are.0.some;
    within = are.0.within;
    equal = λ count a b. (let w = are.0.within in let f = are.0.behind in sym (same count (omega (arith, a, f)) (omega (arith, b, w))) ∙ are.0.equal count a b);
    longest = λ below look. (let f = are.0.behind in let s = are.0.some in are.0.longest below (same bar.to (omega (arith, f, s)) below ∙ look));
  },
  same_bars looks others bar.to to bars (λ count a b. (let f = are.0.behind in let s = are.0.some in same count (omega (arith, a, f, s)) b)) are.1,
)

pub same_strip : (looks others : ℕ → Option Look) (from k : ℕ) (strip : Lane) → ((count : ℕ) → from ≤ count → count < k → looks count ≡ others count)
    → IsStrip looks from k strip → IsStrip others from k strip
same_strip looks others from k strip same is = record { are_bars = same_bars looks others from k _ same is.are_bars; apart = is.apart }

-- ---- one list of bars

module _ (looks : ℕ → Option Look) where
  not_in_front : (from to : ℕ) (a b : Bar) → IsBar looks from to a → IsBar looks from to b → a.from < b.from → ⊥
  not_in_front from to a b x y l =
      let nothing = y.nothing_between a.from x.behind l in
      let something = x.equal a.from (omega arith) x.some in
      let clash : None ≡ Some a.look = sym nothing ∙ something in cc

  same_look : (from to : ℕ) (a b : Bar) → IsBar looks from to a → IsBar looks from to b → a.from ≡ b.from → a.look ≡ b.look
  same_look from to a b x y e =
      let s = y.some in
      let one = x.equal a.from (omega arith) x.some in
      let other = y.equal a.from (omega (arith, e)) (omega (arith, e, s)) in
      let both : Some a.look ≡ Some b.look = sym one ∙ other in cc

  not_shorter : (from to : ℕ) (a b : Bar) → IsBar looks from to a → IsBar looks from to b → a.from ≡ b.from → a.to < b.to → ⊥
  not_shorter from to a b x y e l =
      let w = y.within in
      let s = x.some in
      x.longest (omega (arith, l, w)) (y.equal a.to (omega (arith, e, s)) l ∙ ap Some (sym (same_look from to a b x y e)))

  -- two bars behind the same count are one
  one_bar : (from to : ℕ) (a b : Bar) → IsBar looks from to a → IsBar looks from to b → a ≡ b
  one_bar from to a b x y =
      let f : a.from ≡ b.from = elim (leb_tells a.from b.from) [
        | inl t ↦ elim (leb_tells b.from a.from) [
          | inl u ↦ (let l = t.1 in let m = u.1 in omega (arith, l, m))
          | inr u ↦ absurd (not_in_front from to a b x y u.1)
        ]
        | inr t ↦ absurd (not_in_front from to b a y x t.1)
      ] in
      let e : a.to ≡ b.to = elim (leb_tells a.to b.to) [
        | inl t ↦ elim (leb_tells b.to a.to) [
          | inl u ↦ (let l = t.1 in let m = u.1 in omega (arith, l, m))
          | inr u ↦ absurd (not_shorter from to a b x y f u.1)
        ]
        | inr t ↦ absurd (not_shorter from to b a y x (sym f) t.1)
      ] in
      ap (λ l. record { look = l; from = a.from; to = a.to }) (same_look from to a b x y f)
      ∙ ap (λ n. record { look = b.look; from = n; to = a.to }) f
      ∙ ap (λ n. record { look = b.look; from = b.from; to = n }) e

  -- nothing is shown where a bar stands
  not_empty : (from to : ℕ) (a : Bar) → IsBar looks from to a → IsEmpty looks from to → ⊥
  not_empty from to a x empty =
      let w = x.within in
      let s = x.some in
      let clash : None ≡ Some a.look = sym (empty a.from x.behind (omega (arith, w, s))) ∙ x.equal a.from (omega arith) s in cc

  pub one_bars : (from to : ℕ) (a b : List Bar) → AreBars looks from to a → AreBars looks from to b → a ≡ b
  one_bars from to [] [] x y = refl
  one_bars from to [] (b ∷ bs) x y = absurd (not_empty from to b y.0 x)
  one_bars from to (a ∷ more) [] x y = absurd (not_empty from to a x.0 y)
  one_bars from to (a ∷ more) (b ∷ bs) x y =
      let first : a ≡ b = one_bar from to a b x.0 y.0 in
      let rest : more ≡ bs = one_bars a.to to more bs x.1 (subst (λ (k : Bar). AreBars looks k.to to bs) (sym first) y.1) in
      ap (λ l. a ∷ l) rest ∙ ap (λ k. k ∷ bs) first
