-- Where continues lead.
use Rattle.std.proofs.Common.{◌≡◌, ◌≤◌, ◌-◌, ℕ, List, Bool, true, false, if◌then◌else◌, sym, ap, subst}
use Rattle.debug_ways.specs.Runs.{Run}
use Rattle.debug_ways.specs.Ways.{IsLeast, IsGreatest, ends_ahead, ends_back, guards_before, least_behind, greatest_below}
use Rattle.debug_ways.proofs.Searching.{found_least, found_greatest}
use Rattle.debug_ways.specs.declared.points.Point.{Point}
use Rattle.debug_ways.specs.declared.standing.Standing.{Standing}
use Rattle.debug_ways.specs.Causes.{Wish, is_guard, wish_tests, passage}
use Rattle.debug_ways.specs.Standing.{continued, interrupted, passed, points_wish}

-- the count of a continue that no interrupt stops
goes : (run : Run) (points : List Point) (backwards : Bool) (standing : Standing) → standing.interrupted ≡ false
    → (continued run points backwards standing).count ≡ (passage backwards (points_wish points) run standing.count).count
goes run points backwards standing on =
    ap (λ b. (if b then interrupted standing 0 else passed run backwards standing (passage backwards (points_wish points) run standing.count)).count) on

pub passage_to_the_least : (wish : Wish) (run : Run) (from : ℕ) → from ≤ run.end → is_guard wish (run.look from) ≡ false
    → IsLeast (ends_ahead run (wish_tests wish)) from run.end (passage false wish run from).count
passage_to_the_least wish run from within unguarded =
    let hit : ℕ → Bool = ends_ahead run (wish_tests wish) in
    let e : (passage false wish run from).count ≡ least_behind hit (run.end - from) from =
    ap (λ b. if b then from else least_behind hit (run.end - from) from) unguarded in
    let P : ℕ → Type 0 = λ n. IsLeast hit from run.end n in
    subst P (sym e) (found_least hit from run.end within)

pub passage_to_the_greatest : (wish : Wish) (run : Run) (from : ℕ) → guards_before run (wish_tests wish) from ≡ false
    → IsGreatest (ends_back run (wish_tests wish)) from (passage true wish run from).count
passage_to_the_greatest wish run from unguarded =
    let hit : ℕ → Bool = ends_back run (wish_tests wish) in
    let e : (passage true wish run from).count ≡ greatest_below hit from = ap (λ b. if b then from else greatest_below hit from) unguarded in
    let P : ℕ → Type 0 = λ n. IsGreatest hit from n in
    subst P (sym e) (found_greatest hit from)

pub ahead_to_the_least : (run : Run) (points : List Point) (standing : Standing) → standing.interrupted ≡ false → standing.count ≤ run.end
    → is_guard (points_wish points) (run.look standing.count) ≡ false
    → IsLeast (ends_ahead run (wish_tests (points_wish points))) standing.count run.end (continued run points false standing).count
ahead_to_the_least run points standing on within unguarded =
    let P : ℕ → Type 0 = λ n. IsLeast (ends_ahead run (wish_tests (points_wish points))) standing.count run.end n in
    subst P (sym (goes run points false standing on)) (passage_to_the_least (points_wish points) run standing.count within unguarded)

pub back_to_the_greatest : (run : Run) (points : List Point) (standing : Standing) → standing.interrupted ≡ false
    → guards_before run (wish_tests (points_wish points)) standing.count ≡ false
    → IsGreatest (ends_back run (wish_tests (points_wish points))) standing.count (continued run points true standing).count
back_to_the_greatest run points standing on unguarded =
    let P : ℕ → Type 0 = λ n. IsGreatest (ends_back run (wish_tests (points_wish points))) standing.count n in
    subst P (sym (goes run points true standing on)) (passage_to_the_greatest (points_wish points) run standing.count unguarded)
