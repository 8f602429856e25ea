-- One more extent of a run.
use Rattle.std.proofs.Common.{◌≡◌, ◌≤◌, ◌<◌, ◌+◌, ◌-◌, subst, ℕ, suc, List, [], ◌∷◌, ◌++◌, length, get_or, drop, sym, ap, ◌∙◌, arith}
use Rattle.std.proofs.lemmas.List.{append_assoc, append-nil, length-append, drop_more, drop_all}
use Rattle.sloth_region.specs.declared.region.Extent.{Extent}
use Rattle.sloth_region.specs.Region.{Area, aligned, first_free_address}
use Rattle.sloth_region.proofs.Placed.{first_free-append}
use Rattle.mem_map.specs.Run.{run, room_for, AreRun}
use Rattle.std.specs.Prelude.{All}
use Rattle.mem_map.proofs.Running.{IsWord, aligns, are_run}

room_step : (free base len rest end end' ff all k : ℕ) → ff ≡ base + len → base ≤ free + k → free + all ≤ end → all ≡ k + len + rest → end' ≡ end → ff + rest ≤ end'
room_step free base len rest end end' ff all k a b c d e = omega (arith, a, b, c, d, e)

-- what a loop keeps: what is placed, with the run of the lengths that are left, is the whole run, for which there is room
pub record Kept (align : ℕ) (first now : Area) (done : List Extent) (rest : List ℕ) (target : List Extent) : Type 0 where
  pub gives : done ++ run align (first_free_address now.base now.placed) rest ≡ target
  pub is : now ≡ record first { placed = first.placed ++ done }
  pub room : first_free_address now.base now.placed + room_for align rest ≤ now.end
  pub few : length now.placed + length rest ≤ 96

-- one extent more
pub step : (align : ℕ) (first was now : Area) (done more : List Extent) (lengths : List ℕ) (i : ℕ) (e : Extent) (target : List Extent) → IsWord align → i < length lengths
    → e ≡ record { base = aligned (first_free_address was.base was.placed) align; len = get_or lengths i 0 } → now ≡ record was { placed = was.placed ++ e ∷ [] } → more ≡ done ++ e ∷ []
    → Kept align first was done (drop i lengths) target → Kept align first now more (drop (i + 1) lengths) target
step align first was now done more lengths i e target w h is n m kept =
    let free : ℕ = first_free_address was.base was.placed in
    let rest : List ℕ = drop (i + 1) lengths in
    let cut : drop i lengths ≡ get_or lengths i 0 ∷ rest = drop_more lengths i 0 h in
    let ends : first_free_address now.base now.placed ≡ e.base + e.len = ap (λ (a : Area). first_free_address a.base a.placed) n ∙ first_free-append was.base was.placed e in
    let base : e.base ≡ aligned free align = ap (λ (x : Extent). x.base) is in
    let len : e.len ≡ get_or lengths i 0 = ap (λ (x : Extent). x.len) is in
    let a = aligns free align w in
    let b : e.base ≤ free + (align - 1) = omega (arith, base, a.1) in
    let total : room_for align (drop i lengths) ≡ (align - 1) + e.len + room_for align rest = ap (room_for align) cut ∙ ap (λ k. (align - 1) + k + room_for align rest) (sym len) in
    let longer : length now.placed ≡ length was.placed + 1 = ap (λ (x : Area). length x.placed) n ∙ length-append was.placed (e ∷ []) in
    let shorter : length (drop i lengths) ≡ suc (length rest) = ap length cut in
    let f = kept.few in
    record {
      gives =
          ap (λ l. l ++ run align (first_free_address now.base now.placed) rest) m
          ∙ ap (λ k. (done ++ e ∷ []) ++ run align k rest) ends
          ∙ append_assoc done (e ∷ []) (run align (e.base + e.len) rest)
          ∙ ap (λ (x : Extent). done ++ (x ∷ run align (x.base + x.len) rest)) is
          ∙ ap (λ l. done ++ run align free l) (sym cut)
          ∙ kept.gives;
      is =
          n ∙ ap (λ (x : Area). record x { placed = x.placed ++ e ∷ [] }) kept.is
          ∙ ap (λ l. record first { placed = l }) (append_assoc first.placed done (e ∷ []))
          ∙ ap (λ l. record first { placed = first.placed ++ l }) (sym m);
      room = room_step free e.base e.len (room_for align rest) was.end now.end (first_free_address now.base now.placed) (room_for align (drop i lengths)) (align - 1) ends b kept.room total (ap (λ (x : Area). x.end) n);
      few = omega (arith, longer, shorter, f);
    }

-- behind the last one the run is done
pub finish : (align : ℕ) (first now : Area) (done : List Extent) (lengths : List ℕ) (i : ℕ) → IsWord align → All (λ len. 1 ≤ len) lengths → length lengths ≤ i
    → first_free_address first.base first.placed + room_for align lengths ≤ first.end
    → Kept align first now done (drop i lengths) (run align (first_free_address first.base first.placed) lengths) → AreRun align (first_free_address first.base first.placed) first.end lengths done
finish align first now done lengths i w some all room kept =
    let start : ℕ = first_free_address first.base first.placed in
    let is : done ≡ run align start lengths =
    sym (append-nil done) ∙ sym (ap (λ l. done ++ run align (first_free_address now.base now.placed) l) (drop_all i lengths all)) ∙ kept.gives in
    let P : List Extent → Type 0 = λ l. AreRun align start first.end lengths l in
    subst P (sym is) (are_run align start first.end lengths w some room)
