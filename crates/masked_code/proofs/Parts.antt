-- A constant is the sum of its two parts.
use Rattle.std.proofs.Common.{◌≡◌, ℕ, ◌+◌, ◌*◌, ◌/◌, ◌%◌, ◌^◌, ◌<◌, ◌≤◌, ap, ◌∙◌, arith}
use Rattle.std.specs.Prelude.{◌-◌, ltb, pos, negsuc, ◌-ℤ◌}
use Rattle.std.proofs.lemmas.Int.{ints}
use Rattle.std.proofs.lemmas.Bool.{cond_both, ltb-true, ltb-false}
use Rattle.sloth_base.specs.Arithmetic.{complement, plus, hi, lo}

above : (m : ℕ) → m < 4096 → 2048 ≤ m → complement (pos m -ℤ pos 4096) ≡ 4294963200 + m
above m h l =
    let e : pos m -ℤ pos 4096 ≡ negsuc (4095 - m) = omega (arith, ints) in
    let f : 4294967295 - (4095 - m) ≡ 4294963200 + m = omega arith in
    ap complement e ∙ f

pub hi_lo : (v : ℕ) → v < 2 ^ 32 → plus (hi v * 2 ^ 12) (lo v) ≡ v
unfolding hi lo
hi_lo v h =
    let m = v % 4096 in
    cond_both (ltb (v % 4096) 2048) (pos (v % 4096)) (pos (v % 4096) -ℤ pos 4096) (λ z. plus ((v + 2048) / 4096 % 1048576 * 4096) z ≡ v) (λ e. let l = ltb-true (v % 4096) 2048 e in omega arith) (λ e.
    let l = ltb-false (v % 4096) 2048 e in
    let f : complement (pos (v % 4096) -ℤ pos 4096) ≡ 4294963200 + v % 4096 = above (v % 4096) (omega arith) l in
    let g : ((v + 2048) / 4096 % 1048576 * 4096 + (4294963200 + v % 4096)) % 4294967296 ≡ v = omega arith in
    ap (λ x. ((v + 2048) / 4096 % 1048576 * 4096 + x) % 4294967296) f ∙ g)
