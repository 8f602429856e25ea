-- The lengths of the stacks, one more at a time.
use Rattle.std.proofs.Common.{◌≡◌, ℕ, suc, ◌+◌, ◌<◌, ◌≤◌, ⊎_elim, List, [], ◌∷◌, ◌++◌, get_or, true, false, cond, sym, ap, ◌∙◌, subst, arith}
use Rattle.std.proofs.lemmas.Bool.{cases_eq}
use Rattle.std.proofs.lemmas.List.{append-nil, get_or_append_left, length-append}
use Rattle.std.proofs.lemmas.List.Elements.{All-append, All-cons, All-nil}
use Rattle.std.proofs.Math.Seq.{get_or-append_seam}
use Rattle.sloth_base.specs.declared.config.TaskDecl.{TaskDecl}
use Rattle.sloth_base.specs.declared.limits.Bounds.{Bounds}
use Rattle.stack_bounds.specs.Bounds.{bytes_of}
use Rattle.mem_map.specs.Run.{room_for}
use Rattle.mem_map.specs.StackParts.{is_extended, own_before, first_own}
use Rattle.mem_map.specs.Stacks.{lengths_before, AreStackLengths}
use Rattle.mem_map.proofs.StackNumbers.{skipped, rises}

room_more : (lengths : List ℕ) (len : ℕ) → room_for 16 (lengths ++ len ∷ []) ≡ room_for 16 lengths + 15 + len
room_more [] len = omega arith
room_more (l ∷ lengths) len = let r = room_more lengths len in omega (arith, r)

module _ (tasks : List TaskDecl) (bounds : Bounds) (end : ℕ) (lengths : List ℕ) (h : AreStackLengths tasks bounds end lengths) where
  -- behind a basic task
  pub same : is_extended tasks end ≡ false → AreStackLengths tasks bounds (suc end) lengths
  same basic =
      let s = skipped tasks end basic in
      let c = h.count in
      let r = h.room in
      record {
        is = h.is ∙ sym (append-nil (lengths_before tasks bounds end)) ∙ ap (λ b. lengths_before tasks bounds end ++ cond b (bytes_of bounds end ∷ []) []) (sym basic);
        count = omega (arith, s, c);
        shared = h.shared;
        own = λ t l e. ⊎_elim
            (λ is. let P : ℕ → Type 0 = λ x. is_extended tasks x ≡ false in absurd (let f = sym (subst P (sym is) basic) ∙ e in cc))
            (λ ne. h.own t (omega (arith, l, ne)) e)
            (cases_eq t end);
        some = h.some;
        room = omega (arith, r);
      }

  -- behind an extended one
  pub more : (len : ℕ) → is_extended tasks end ≡ true → len ≡ bytes_of bounds end → 1 ≤ len → len ≤ 8572 → AreStackLengths tasks bounds (suc end) (lengths ++ len ∷ [])
  more len extended is some small =
      let one_more : own_before tasks (suc end) ≡ own_before tasks end + 1 = counted extended in
      let c = h.count in
      let r = h.room in
      let longer = length-append lengths (len ∷ []) in
      let m = room_more lengths len in
      record {
        is = ap (λ l. l ++ len ∷ []) h.is ∙ ap (λ k. lengths_before tasks bounds end ++ k ∷ []) is
            ∙ ap (λ b. lengths_before tasks bounds end ++ cond b (bytes_of bounds end ∷ []) []) (sym extended);
        count = omega (arith, longer, c, one_more);
        shared = λ l. get_or_append_left lengths (len ∷ []) 0 0 (omega (arith, c, l)) ∙ h.shared l;
        own = λ t l e. ⊎_elim
            (λ here.
            let P : ℕ → Type 0 = λ x. get_or (lengths ++ len ∷ []) (first_own tasks + own_before tasks x) 0 ≡ bytes_of bounds x in
            let Q : ℕ → Type 0 = λ k. get_or (lengths ++ len ∷ []) k 0 ≡ bytes_of bounds end in
            subst P (sym here) (subst Q c (get_or-append_seam lengths len [] 0 ∙ is)))
            (λ ne.
            let before : t < end = omega (arith, l, ne) in
            let below = rises tasks t end before e in
            get_or_append_left lengths (len ∷ []) 0 (first_own tasks + own_before tasks t) (omega (arith, c, below)) ∙ h.own t before e)
            (cases_eq t end);
        some = All-append (λ x. 1 ≤ x) lengths (len ∷ []) h.some (All-cons (λ x. 1 ≤ x) len [] some (All-nil (λ x. 1 ≤ x)));
        room = omega (arith, r, m, small);
      }
    where
      counted : is_extended tasks end ≡ true → own_before tasks (suc end) ≡ own_before tasks end + 1
      counted e = ap (λ b. own_before tasks end + cond b 1 0) e
