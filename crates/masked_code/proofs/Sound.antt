-- Code in place does what is owed of it, whatever lines arrive before each instruction.
use Rattle.std.proofs.Common.{◌≡◌, ℕ, zero, suc, ◌+◌, ◌-◌, ◌*◌, ◌%◌, ◌<◌, ◌≤◌, List, [], ◌∷◌, ◌++◌, length, get_or, refl, sym, ap, ◌∙◌, subst, arith, Option, Some, None, inl, inr, ⊎_elim}
use Rattle.std.specs.Prelude.{true, false, set}
use Rattle.std.proofs.lemmas.List.{length-set}
use Rattle.sloth_base.specs.declared.app.Width.TheVariants as width
use Rattle.sloth_base.specs.Machine.{Core, State}
use Rattle.sloth_base.specs.Lines.{flag_of}
use Rattle.sloth_base.specs.Arrive.{core_arrive, state_arrive}
use Rattle.sloth_base.specs.MemoryMap.{memory_base, memory_bytes, line_count}
use Rattle.rv32_instr.specs.declared.encoding.Effect.{Effect}
use Rattle.rv32_instr.specs.declared.encoding.Effect.TheVariants.{Nothing, Write, Branch, Jump, Load, Store, Csr, Environment, Return}
use Rattle.rv32_instr.specs.declared.InstrKind.{InstrKind}
use Rattle.rv32_instr.specs.Encode.{Encode}
use Rattle.rv32_instr.specs.Table.{Decode}
use Rattle.rv32_instr.specs.Ram.{with_word}
use Rattle.rv32_instr.specs.Effect.{effect}
use Rattle.rv32_instr.specs.Execute.{Next, Going, step, touched, perform, touched_line_by, next_behind, next_at_target, with_register, changed_core, csr_access}
use Rattle.masked_code.specs.Trace.{Trace, touched_lines}
use Rattle.masked_code.specs.Masked.{OnGoing, Masked}
use Rattle.masked_code.specs.Place.{offset_state, InPlace}
use Rattle.masked_code.proofs.Owes.{◌▸◌, IsApart, Pending, Enabled, Level, Raised, Cleared, Switched, Levelled, Ways, OwesOne, Owes}
use Rattle.masked_code.proofs.Arrivals.{arrive-append, arrive-set, length-arrive, of_line, not_line, are_of, parted, found_of_line, stored_parted, taken, left}
use Rattle.masked_code.proofs.Words.{get_or-with_word, word_at-agree}
use Rattle.masked_code.proofs.Longest.{longest, LeavesFew, leaves_few}
use Rattle.masked_code.proofs.Masked.{masked_here, masked_step, masked_map}
use Rattle.masked_code.proofs.Machine.{Here, step_at, touched_at, next_at, jump_at}
use Rattle.masked_code.proofs.Perform.{load_word, store_word, load_word_quiet, store_word_quiet, load_pending, load_enabled, load_level, load_touches, load_quiet, store_pending, store_enabled, store_level, store_touches, raise_quiet, store_quiet, flag-zero, flag-other, with_register-arrive, changed_changes}

-- the bytes from `from` up to `to` are the same
pub record Agree (from to : ℕ) (r s : List ℕ) : Type 0 where
  pub by : (i : ℕ) → from ≤ i → i < to → get_or r i 0 ≡ get_or s i 0

-- what holds at the end, where these arrivals wait at the start
abbrev pub Ended : (List ℕ → State → State → Type 0) → State → List ℕ → Trace → State → Type 0
Ended E start waiting trace end =
    (last : State) × E (touched_lines trace) (state_arrive (taken trace waiting) start) last × (end ≡ state_arrive (left trace waiting) last)

-- one more touch before
touch_before : (E : List ℕ → State → State → Type 0) (start : State) (m w a : List ℕ) (l : ℕ) → m ≡ w ++ a → (t : Trace) (x : State) → Ended (λ u. E (l ∷ u)) (state_arrive (of_line l m) start) (not_line l m) t x → Ended E start w ((a, Some l) ∷ t) x
touch_before E start m w a l e t x h =
    let both : Ended E start w ((a, Some l) ∷ t) x ≡ Ended E start w ((a, Some l) ∷ t) x = refl in
    let P : List ℕ → Type 0 = λ n. (last : State) × E (l ∷ touched_lines t) (state_arrive (of_line l n ++ taken t (not_line l n)) start) last × (x ≡ state_arrive (left t (not_line l n)) last) in
    let f : state_arrive (taken t (not_line l m)) (state_arrive (of_line l m) start) ≡ state_arrive (of_line l m ++ taken t (not_line l m)) start =
    ap (λ p. record start { core = record start.core { pending = p } }) (sym (arrive-append (of_line l m) (taken t (not_line l m)) start.core.pending))
    in
    subst P e (h.0, subst (λ s. E (l ∷ touched_lines t) s h.0) f h.1, h.2)

module _ (from to : ℕ) (ram : List ℕ) (inside : to ≤ memory_bytes) where
  -- the state of a routine whose code is as in `ram`
  pub record Inside (c : Core) : Type 0 where
    pub masked : c.mie ≡ false
    pub there : c.controller ≡ true
    pub lines : length c.pending ≡ line_count
    pub same : Agree from to ram c.ram

  with_register_inside : (c : Core) (rd v : ℕ) → Inside c → Inside (with_register c rd v)
  with_register_inside c zero v i = i
  with_register_inside c (suc rd) v i = record { masked = i.masked; there = i.there; lines = i.lines; same = i.same }

  stored_inside : (c : Core) (o v : ℕ) → IsApart from to o → Inside c → Inside (record c { ram = with_word c.ram o v })
  stored_inside c o v h i = record {
    masked = i.masked;
    there = i.there;
    lines = i.lines;
    same = record { by = λ k a b. i.same.by k a b ∙ sym (get_or-with_word c.ram o v k (⊎_elim (λ x. inr (omega arith)) (λ x. inl (omega arith)) h)) };
  }

  arrive_inside : (c : Core) (a : List ℕ) → Inside c → Inside (core_arrive a c)
  arrive_inside c a i = record { masked = i.masked; there = i.there; lines = length-arrive a c.pending ∙ i.lines; same = i.same }

  pending_inside : (c : Core) (l v : ℕ) → Inside c → Inside (record c { pending = set c.pending l v })
  pending_inside c l v i = record { masked = i.masked; there = i.there; lines = length-set c.pending l v ∙ i.lines; same = i.same }

  here_in : (c : Core) (o : ℕ) (kind : InstrKind) (code : List InstrKind) → from ≤ o → o + 4 ≤ to → Inside c → InPlace ram o (kind ∷ code) → Here c.ram o kind
  here_in c o kind code l h i p =
      (ap Decode (sym (word_at-agree ram c.ram o (λ k a b. i.same.by k (omega arith) (omega arith)))) ∙ p.0, omega arith)

  -- how a proof of one instruction goes on
  abbrev pub ways : ℕ → List InstrKind → (List ℕ → State → State → Type 0) → State → Core → Ways
  ways o code E start c = record {
    next = λ now. Owes from to (o + 4) code 0 E start now;
    touch = λ line lines now. Owes from to (o + 4) code 0 (λ touched. E (line ∷ touched)) (state_arrive lines start) now;
    skip = λ passed now. Owes from to (o + 4) code passed E start now;
    done = λ end. E [] start end;
  }

  -- the code behind it does what is owed of it
  abbrev pub Rest : ℕ → ℕ → List InstrKind → Type 1
  Rest n o code = (skip u : ℕ) (c : Core) (w : List ℕ) (E : List ℕ → State → State → Type 0) (start : State) → longest code skip ≤ n → u ≡ o + 4 + 4 * skip → Inside c → Owes from to (o + 4) code skip E start c → Masked n (offset_state u (core_arrive w c)) (Ended E start w)

  module _ (n o : ℕ) (code : List InstrKind) (aligned : o % 4 ≡ 0) (fits : o + 4 ≤ to) (rest : Rest n o code) (E : List ℕ → State → State → Type 0) (start : State) (w a : List ℕ) where
    -- an instruction that touches no line, and then the one at u
    onward : (skip u : ℕ) (d : Core) (x : Next) (t : Option ℕ) → longest code skip ≤ n → u ≡ o + 4 + 4 * skip → x ≡ Going (offset_state u (core_arrive (w ++ a) d)) → t ≡ None → Inside d → Owes from to (o + 4) code skip E start d → OnGoing x (λ next. Masked n next (λ trace end. Ended E start w ((a, t) ∷ trace) end))
    onward skip u d x t few eu e f i h =
        subst (λ y. OnGoing y (λ next. Masked n next (λ trace end. Ended E start w ((a, t) ∷ trace) end))) (sym e)
        (subst (λ y. Masked n (offset_state u (core_arrive (w ++ a) d)) (λ trace end. Ended E start w ((a, y) ∷ trace) end)) (sym f) (rest skip u d (w ++ a) E start few eu i h))

    quiet : longest code 0 ≤ n → (d : Core) (x : Next) (t : Option ℕ) → x ≡ next_behind (memory_base + o) (core_arrive (w ++ a) d) → t ≡ None → Inside d → Owes from to (o + 4) code 0 E start d → OnGoing x (λ next. Masked n next (λ trace end. Ended E start w ((a, t) ∷ trace) end))
    quiet few d x t e f i h = onward 0 (o + 4) d x t few (omega arith) (e ∙ next_at o (core_arrive (w ++ a) d) (omega arith)) f i h

    -- an instruction that touches a line
    touch : longest code 0 ≤ n → (l : ℕ) (d : Core) (x : Next) (t : Option ℕ) → x ≡ next_behind (memory_base + o) (core_arrive (not_line l (w ++ a)) d) → t ≡ Some l → Inside d → Owes from to (o + 4) code 0 (λ touched. E (l ∷ touched)) (state_arrive (of_line l (w ++ a)) start) d → OnGoing x (λ next. Masked n next (λ trace end. Ended E start w ((a, t) ∷ trace) end))
    touch few l d x t e f i h =
        subst (λ y. OnGoing y (λ next. Masked n next (λ trace end. Ended E start w ((a, t) ∷ trace) end))) (sym (e ∙ next_at o (core_arrive (not_line l (w ++ a)) d) (omega arith)))
        (subst (λ y. Masked n (offset_state (o + 4) (core_arrive (not_line l (w ++ a)) d)) (λ trace end. Ended E start w ((a, y) ∷ trace) end)) (sym f)
        (masked_map n (offset_state (o + 4) (core_arrive (not_line l (w ++ a)) d)) _ _ (touch_before E start (w ++ a) w a l refl)
        (rest 0 (o + 4) d (not_line l (w ++ a)) (λ touched. E (l ∷ touched)) (state_arrive (of_line l (w ++ a)) start) few (omega arith) i h)))

    one : (e : Effect) (word : ℕ) (c : Core) → LeavesFew n o code e → Inside c → OwesOne from to o e c (ways o code E start c) → OnGoing (perform e word (memory_base + o) (core_arrive (w ++ a) c)) (λ next. Masked n next (λ trace end. Ended E start w ((a, touched_line_by e) ∷ trace) end))
    unfolding perform touched_line_by
    one Nothing word c few i h = quiet few c _ None refl refl i h
    one (Write rd value) word c few i (◌▸◌ {named} said h) =
        let pc = memory_base + o in
        let now = core_arrive (w ++ a) c in
        quiet few (with_register c rd named) _ None (ap (λ v. next_behind pc (with_register now rd v)) said.is ∙ ap (next_behind pc) (with_register-arrive c rd named (w ++ a))) refl (with_register_inside c rd named i) h
    one (Branch true target) word c few i h =
        let u = o + 4 + 4 * h.passed in
        let now = core_arrive (w ++ a) c in
        onward h.passed u c _ None (few.1 h.passed h.lands) refl (ap (λ y. next_at_target y now) h.lands ∙ jump_at u now (omega arith)) refl i (h.when_taken refl)
    one (Branch false target) word c few i h = quiet few.0 c _ None refl refl i (h.when_not (λ e. absurd (cc)))
    one (Jump rd target) word c few i (◌▸◌ {named} said h) =
        let u = o + 4 + 4 * h.passed in
        let now = core_arrive (w ++ a) c in
        let next = with_register c rd named in
        onward h.passed u next _ None (few h.passed h.lands)
        refl
        (ap (λ v. next_at_target target (with_register now rd v)) said.is ∙ ap (next_at_target target) (with_register-arrive c rd named (w ++ a))
        ∙ ap (λ y. next_at_target y (core_arrive (w ++ a) next)) h.lands ∙ jump_at u (core_arrive (w ++ a) next) (omega arith))
        refl (with_register_inside c rd named i) h.goes_on
    one (Load width.Word rd address) word c few i (◌▸◌ {named} said h) =
        let pc = memory_base + o in
        let now = core_arrive (w ++ a) c in
        quiet few (with_register c rd named) _ _ (load_word now rd address said.place word pc said.there ∙ ap (λ v. next_behind pc (with_register now rd v)) said.is ∙ ap (next_behind pc) (with_register-arrive c rd named (w ++ a))) (load_word_quiet rd address said.place said.there) (with_register_inside c rd named i) h
    one (Load width.ByteU rd address) word c few i (◌▸◌ {named = Pending l} said h) =
        let place = said.there in
        let pc = memory_base + o in
        let m = w ++ a in
        let now = core_arrive m c in
        let own = core_arrive (of_line l m) c in
        let v = get_or own.pending l 0 in
        let below = place.1 in
        let long = i.lines in
        touch few l (with_register own rd v) _ _ (load_pending now rd address l word pc i.there place ∙ ap (λ v. next_behind pc (with_register now rd v)) (found_of_line l m c.pending (omega arith)) ∙ ap (λ p. next_behind pc (with_register (record c { pending = p }) rd v)) (sym (parted l m c.pending)) ∙ ap (next_behind pc) (with_register-arrive own rd v (not_line l m))) (load_touches rd address l place) (with_register_inside own rd v (arrive_inside c (of_line l m) i)) (h (of_line l m) (are_of l m))
    one (Load width.ByteU rd address) word c few i (◌▸◌ {named = Enabled l} said h) =
        let place = said.there in
        let pc = memory_base + o in
        let now = core_arrive (w ++ a) c in
        let v = get_or c.enabled l 0 in
        let e = place.0 in
        quiet few (with_register c rd v) _ _ (load_enabled now rd address l word pc i.there place ∙ ap (next_behind pc) (with_register-arrive c rd v (w ++ a))) (load_quiet rd address (omega arith)) (with_register_inside c rd v i) h
    one (Load width.ByteU rd address) word c few i (◌▸◌ {named = Level l} said h) =
        let place = said.there in
        let pc = memory_base + o in
        let now = core_arrive (w ++ a) c in
        let v = get_or c.levels l 0 in
        let e = place.0 in
        quiet few (with_register c rd v) _ _ (load_level now rd address l word pc i.there place ∙ ap (next_behind pc) (with_register-arrive c rd v (w ++ a))) (load_quiet rd address (omega arith)) (with_register_inside c rd v i) h
    one (Load width.Byte rd address) word c few i h = absurd h
    one (Load width.Half rd address) word c few i h = absurd h
    one (Load width.HalfU rd address) word c few i h = absurd h
    one (Store width.Word address value) word c few i (◌▸◌ {named = place} said h) =
        let pc = memory_base + o in
        let now = core_arrive (w ++ a) c in
        quiet few (record c { ram = with_word c.ram place value }) _ _ (store_word now address place value word pc said.there) (store_word_quiet address place value said.there) (stored_inside c place value said.apart i) h
    one (Store width.Byte address value) word c few i (◌▸◌ {named = Raised l} said h) =
        let place = said.there.0 in
        let ne = said.there.1 in
        let pc = memory_base + o in
        let m = w ++ a in
        let now = core_arrive m c in
        quiet few (record c { pending = set c.pending l 1 }) _ _ (store_pending now address l value word pc i.there place ∙ ap (λ v. next_behind pc (record now { pending = set now.pending l v })) (flag-other (value % 256) ne) ∙ ap (λ p. next_behind pc (record c { pending = p })) (sym (arrive-set m c.pending l))) (raise_quiet address value ne) (pending_inside c l 1 i) h
    one (Store width.Byte address value) word c few i (◌▸◌ {named = Cleared l} said h) =
        let place = said.there.0 in
        let z = said.there.1 in
        let pc = memory_base + o in
        let m = w ++ a in
        let now = core_arrive m c in
        let own = core_arrive (of_line l m) c in
        touch few l (record own { pending = set own.pending l 0 }) _ _ (store_pending now address l value word pc i.there place ∙ ap (λ v. next_behind pc (record now { pending = set now.pending l v })) (flag-zero (value % 256) z) ∙ ap (λ p. next_behind pc (record c { pending = p })) (stored_parted l 0 m c.pending)) (store_touches address l value place z) (pending_inside own l 0 (arrive_inside c (of_line l m) i)) (h (of_line l m) (are_of l m))
    one (Store width.Byte address value) word c few i (◌▸◌ {named = Switched l} said h) =
        let place = said.there in
        let pc = memory_base + o in
        let now = core_arrive (w ++ a) c in
        let e = place.0 in
        quiet few (record c { enabled = set c.enabled l (flag_of (value % 256)) }) _ _ (store_enabled now address l value word pc i.there place) (store_quiet address value (omega arith)) (record { masked = i.masked; there = i.there; lines = i.lines; same = i.same }) h
    one (Store width.Byte address value) word c few i (◌▸◌ {named = Levelled l} said h) =
        let place = said.there in
        let pc = memory_base + o in
        let now = core_arrive (w ++ a) c in
        let e = place.0 in
        quiet few (record c { levels = set c.levels l (value % 256) }) _ _ (store_level now address l value word pc i.there place) (store_quiet address value (omega arith)) (record { masked = i.masked; there = i.there; lines = i.lines; same = i.same }) h
    one (Store width.Half address value) word c few i h = absurd h
    one (Store width.ByteU address value) word c few i h = absurd h
    one (Store width.HalfU address value) word c few i h = absurd h
    one (Csr rd csr change) word c few i (◌▸◌ {named = old} said h) =
        let pc = memory_base + o in
        let m = w ++ a in
        let now = core_arrive m c in
        let d = changed_core change csr old c in
        let ch = changed_changes m c change csr old in
        let inside_d : Inside d = record { masked = said.masked; there = ch.controller_is ∙ i.there; lines = ap length ch.pending_is ∙ i.lines; same = subst (λ r. Agree from to ram r) (sym ch.ram_is) i.same } in
        quiet few (with_register d rd old) _ None (ap (λ y. csr_access y rd change csr word pc now) said.is ∙ ap (λ y. next_behind pc (with_register y rd old)) ch.arrives ∙ ap (next_behind pc) (with_register-arrive d rd old m)) refl (with_register_inside d rd old inside_d) h
    one Environment word c few i h = absurd h
    one Return word c few i h =
        let last : State = record { pc = c.mepc; core = record c { ilevel = c.plevel; mie = c.mpie; mpie = true } } in
        masked_here n (state_arrive (w ++ a) last) (λ trace end. Ended E start w ((a, None) ∷ trace) end) (last, h, refl)

-- code whose first `skip` instructions are passed
module _ (from to : ℕ) (ram : List ℕ) (inside : to ≤ memory_bytes) where
  -- what is owed of code in place holds of the stretch that it runs, whatever arrives before each of its instructions
  pub run : (code : List InstrKind) (skip n o u : ℕ) (c : Core) (w : List ℕ) (E : List ℕ → State → State → Type 0) (start : State) → longest code skip ≤ n → u ≡ o + 4 * skip → o % 4 ≡ 0 → from ≤ o → o + 4 * length code ≤ to → InPlace ram o code → Inside from to ram inside c → Owes from to o code skip E start c → Masked n (offset_state u (core_arrive w c)) (Ended E start w)
  run [] skip n o u c w E start en eu al lo hi p i h = absurd h
  run (kind ∷ code) (suc skip) n o u c w E start en eu al lo hi p i h =
      run code skip n (o + 4) u c w E start en (omega arith) (omega arith) (omega arith) (omega arith) p.1 i h
  run (kind ∷ code) zero n o u c w E start en eu al lo hi p i h =
      let n1 = n - 1 in
      let en1 : suc n1 ≡ n = omega arith in
      let euo : o ≡ u = omega arith in
      let here = here_in from to ram inside c o kind code lo (omega arith) i p in
      let rest : Rest from to ram inside n1 o code = λ skip u c w E start few eu i h. run code skip n1 (o + 4) u c w E start few eu (omega arith) (omega arith) (omega arith) p.1 i h in
      subst (λ k. Masked k (offset_state u (core_arrive w c)) (Ended E start w)) en1 (subst (λ v. Masked (suc n1) (offset_state v (core_arrive w c)) (Ended E start w)) euo
      (masked_step n1 (offset_state o (core_arrive w c)) (Ended E start w) i.masked (λ a.
      let m = w ++ a in
      let e1 : core_arrive a (core_arrive w c) ≡ core_arrive m c = ap (λ q. record c { pending = q }) (sym (arrive-append w a c.pending)) in
      let e2 = ap (λ x. step (offset_state o x)) e1 ∙ step_at o (core_arrive m c) kind here in
      let e3 = ap (λ x. touched (offset_state o x)) e1 ∙ touched_at o (core_arrive m c) kind here.0 in
      subst (λ x. OnGoing x (λ next. Masked n1 next (λ trace end. Ended E start w ((a, touched (offset_state o (core_arrive a (core_arrive w c)))) ∷ trace) end))) (sym e2)
      (subst (λ x. OnGoing (perform (effect kind (memory_base + o) c.registers) (Encode kind) (memory_base + o) (core_arrive m c)) (λ next. Masked n1 next (λ trace end. Ended E start w ((a, x) ∷ trace) end))) (sym e3)
      (one from to ram inside n1 o code al (omega arith) rest E start w a (effect kind (memory_base + o) c.registers) (Encode kind) c (leaves_few n1 o code (omega arith) kind c.registers (omega arith)) i h)))))
