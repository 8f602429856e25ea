-- Sets of tasks and of resources.
use Rattle.std.proofs.Common.{◌≡◌, ℕ, ◌<◌, ◌≤◌, ◌⊎◌, inl, inr, Bool, true, false, ◌&&◌, refl, ap, sym, ◌∙◌, arith}
use Rattle.std.specs.Prelude.{◌==◌, ltb}
use Rattle.std.specs.Int.{bit_at}
use Rattle.std.proofs.lemmas.Bool.{cases_lt, lt-ltb, ltb-true, eq-eqb, ne_eqb}
use Rattle.std.proofs.lemmas.Nat.Bits.{bit_at_ones, bit_at_ones_above}
use Rattle.sloth_base.specs.Limits.{ceiling_count}
use Rattle.call_graph.specs.Bits.{is_member}
use Rattle.call_graph.proofs.Sets.{has_none}

-- the empty set
pub no_member : (r : ℕ) → is_member 0 r ≡ false
no_member r = has_none r

pub no_member_below : (b : Bool) (r : ℕ) → is_member 0 r ≡ (ltb r 0 && b)
no_member_below b r = has_none r ∙ sym (at (ltb r 0) refl)
  where
    at : (t : Bool) → ltb r 0 ≡ t → (ltb r 0 && b) ≡ false
    at false e = ap (λ x. x && b) e
    at true e = let lt = ltb-true r 0 e in absurd (omega (arith, lt))

pub all_members : (r : ℕ) → is_member 8589934591 r ≡ ltb r ceiling_count
unfolding is_member
all_members r = by (cases_lt r 33)
  where
    not_below : 33 ≤ r → (b : Bool) → ltb r 33 ≡ b → ltb r 33 ≡ false
    not_below le false e = e
    not_below le true e = let lt = ltb-true r 33 e in absurd (omega (arith, le, lt))

    by : (r < 33) ⊎ (33 ≤ r) → (bit_at 8589934591 r == 1) ≡ ltb r 33
    by (inl lt) = eq-eqb (bit_at 8589934591 r) 1 (bit_at_ones 33 r lt) ∙ sym (lt-ltb r 33 lt)
    by (inr le) =
        let z : bit_at 8589934591 r ≡ 0 = bit_at_ones_above 33 r le in
        ne_eqb (bit_at 8589934591 r) 1 (λ e. absurd (omega (arith, z, e))) ∙ sym (not_below le (ltb r 33) refl)
