-- Runs that go on, and runs that stop.
use Rattle.std.proofs.Common.{◌≡◌, ◌≤◌, ◌<◌, ◌+◌, ℕ, zero, suc, List, [], ◌∷◌, ◌++◌, Option, Some, None, refl, sym, ◌∙◌, ap, arith, add-one, append-nil}
use Rattle.sloth_base.specs.declared.service.Arrival.{Arrival}
use Rattle.sloth_base.specs.declared.numbers.Step.{Step}
use Rattle.sloth_base.specs.Machine.{State}
use Rattle.rv32_instr.specs.declared.encoding.Stop.{Stop}
use Rattle.rv32_machine.specs.Advance.{StepOutcome, Goes, Halts}
use Rattle.rv32_machine.specs.Run.{Moment, Stopping, state_with_arrivals, moment, on_goes, moment_of, run_from, state_after_from, stop_from, stopping}

shifted : (k count : ℕ) → suc k + count ≡ k + (count + 1)
shifted k count = omega arith

-- the state after one more instruction
after-go
    : (o : StepOutcome) (f h : Step → State → Option State) (m n : State) → on_goes o None f ≡ Some m
    → ((s : Step) (t : State) → f s t ≡ Some m → h s t ≡ Some n) → on_goes o None h ≡ Some n
after-go (Halts e) f h m n q k = cc
after-go (Goes s t) f h m n q k = k s t q

after-suc
    : (k : ℕ) (arrivals : List Arrival) (count : ℕ) (start m n : State) (s : Step) → state_after_from k arrivals count start ≡ Some m
    → moment arrivals (k + count) m ≡ Goes s n → state_after_from (suc k) arrivals count start ≡ Some n
unfolding state_after_from
after-suc zero arrivals count start m n s h g =
    let e : start ≡ m = cc in
    let c : 0 + count ≡ count = omega arith in
    let g' : moment arrivals count start ≡ Goes s n = ap (λ x. moment arrivals count x) e ∙ ap (λ x. moment arrivals x m) (sym c) ∙ g in
    rw g' refl
after-suc (suc k) arrivals count start m n s h g =
    after-go
    (moment arrivals count start)
    (λ s t. state_after_from k arrivals (count + 1) t)
    (λ s t. state_after_from (suc k) arrivals (count + 1) t)
    m
    n
    h
    (λ s' t q. after-suc k arrivals (count + 1) t m n s q (ap (λ x. moment arrivals x m) (sym (shifted k count)) ∙ g))

pub after_more
    : (k : ℕ) (arrivals : List Arrival) (start m n : State) (s : Step) → state_after_from k arrivals 0 start ≡ Some m
    → moment arrivals k m ≡ Goes s n → state_after_from (k + 1) arrivals 0 start ≡ Some n
after_more k arrivals start m n s h g =
    let c : k + 0 ≡ k = omega arith in
    rw add-one (after-suc k arrivals 0 start m n s h (ap (λ x. moment arrivals x m) c ∙ g))

-- the moments of a run that goes on by one
run-go
    : (o : StepOutcome) (f : Step → State → Option State) (x : Step → State → Moment) (g h : State → List Moment) (m : State) (es : List Moment)
    → on_goes o None f ≡ Some m → ((s : Step) (t : State) → f s t ≡ Some m → g t ≡ h t ++ es)
    → on_goes o [] (λ s t. x s t ∷ g t) ≡ on_goes o [] (λ s t. x s t ∷ h t) ++ es
run-go (Halts e) f x g h m es q k = cc
run-go (Goes s t) f x g h m es q k = ap (λ ms. x s t ∷ ms) (k s t q)

run-suc
    : (k : ℕ) (arrivals : List Arrival) (count : ℕ) (start m n : State) (s : Step) → state_after_from k arrivals count start ≡ Some m
    → moment arrivals (k + count) m ≡ Goes s n
    → run_from (suc k) arrivals count start ≡ run_from k arrivals count start ++ moment_of arrivals (k + count) m s n ∷ []
unfolding state_after_from run_from
run-suc zero arrivals count start m n s h g =
    let e : start ≡ m = cc in
    let c : 0 + count ≡ count = omega arith in
    let g' : moment arrivals count start ≡ Goes s n = ap (λ x. moment arrivals count x) e ∙ ap (λ x. moment arrivals x m) (sym c) ∙ g in
    rw g' (ap (λ x. moment_of arrivals count x s n ∷ []) e ∙ ap (λ x. moment_of arrivals x m s n ∷ []) (sym c))
run-suc (suc k) arrivals count start m n s h g =
    run-go
    (moment arrivals count start)
    (λ s t. state_after_from k arrivals (count + 1) t)
    (λ s t. moment_of arrivals count start s t)
    (λ t. run_from (suc k) arrivals (count + 1) t)
    (λ t. run_from k arrivals (count + 1) t)
    m
    (moment_of arrivals (suc k + count) m s n ∷ [])
    h
    (λ s' t q.
    run-suc k arrivals (count + 1) t m n s q (ap (λ x. moment arrivals x m) (sym (shifted k count)) ∙ g)
    ∙ ap (λ x. run_from k arrivals (count + 1) t ++ moment_of arrivals x m s n ∷ []) (sym (shifted k count)))

pub run_more
    : (k : ℕ) (arrivals : List Arrival) (start m n : State) (s : Step) → state_after_from k arrivals 0 start ≡ Some m
    → moment arrivals k m ≡ Goes s n
    → run_from (k + 1) arrivals 0 start ≡ run_from k arrivals 0 start ++ moment_of arrivals k m s n ∷ []
run_more k arrivals start m n s h g =
    let c : k + 0 ≡ k = omega arith in
    let one : k + 1 ≡ suc k = omega arith in
    ap (λ x. run_from x arrivals 0 start) one
    ∙ run-suc k arrivals 0 start m n s h (ap (λ x. moment arrivals x m) c ∙ g)
    ∙ ap (λ x. run_from k arrivals 0 start ++ moment_of arrivals x m s n ∷ []) c

-- a run that stops shows no more
halts-suc
    : (n k : ℕ) (arrivals : List Arrival) (count : ℕ) (start m : State) (e : Stop) → k < n → state_after_from k arrivals count start ≡ Some m
    → moment arrivals (k + count) m ≡ Halts e → run_from n arrivals count start ≡ run_from k arrivals count start
unfolding state_after_from run_from
halts-suc zero k arrivals count start m e lt h g = absurd (omega arith)
halts-suc (suc n) zero arrivals count start m e lt h g =
    let q : start ≡ m = cc in
    let c : 0 + count ≡ count = omega arith in
    let g' : moment arrivals count start ≡ Halts e = ap (λ x. moment arrivals count x) q ∙ ap (λ x. moment arrivals x m) (sym c) ∙ g in
    rw g' refl
halts-suc (suc n) (suc k) arrivals count start m e lt h g =
    run-go
    (moment arrivals count start)
    (λ s t. state_after_from k arrivals (count + 1) t)
    (λ s t. moment_of arrivals count start s t)
    (λ t. run_from n arrivals (count + 1) t)
    (λ t. run_from k arrivals (count + 1) t)
    m
    []
    h
    (λ s t q.
    halts-suc n k arrivals (count + 1) t m e (omega arith) q (ap (λ x. moment arrivals x m) (sym (shifted k count)) ∙ g)
    ∙ sym (append-nil (run_from k arrivals (count + 1) t)))
    ∙ append-nil (on_goes (moment arrivals count start) [] (λ s t. moment_of arrivals count start s t ∷ run_from k arrivals (count + 1) t))

pub run_halts
    : (n k : ℕ) (arrivals : List Arrival) (start m : State) (e : Stop) → k < n → state_after_from k arrivals 0 start ≡ Some m
    → moment arrivals k m ≡ Halts e → run_from n arrivals 0 start ≡ run_from k arrivals 0 start
run_halts n k arrivals start m e lt h g =
    let c : k + 0 ≡ k = omega arith in
    halts-suc n k arrivals 0 start m e lt h (ap (λ x. moment arrivals x m) c ∙ g)

-- where a run stops
stop-go
    : (o : StepOutcome) (f : Step → State → Option State) (x : Option Stopping) (h : State → Option Stopping) (m : State) (r : Option Stopping)
    → on_goes o None f ≡ Some m → ((s : Step) (t : State) → f s t ≡ Some m → h t ≡ r) → on_goes o x (λ s t. h t) ≡ r
stop-go (Halts e) f x h m r q k = cc
stop-go (Goes s t) f x h m r q k = k s t q

stop-suc
    : (n k : ℕ) (arrivals : List Arrival) (count : ℕ) (start m : State) (e : Stop) → k < n → state_after_from k arrivals count start ≡ Some m
    → moment arrivals (k + count) m ≡ Halts e
    → stop_from n arrivals count start ≡ stopping (state_with_arrivals arrivals (k + count) m) (Halts e)
unfolding state_after_from stop_from
stop-suc zero k arrivals count start m e lt h g = absurd (omega arith)
stop-suc (suc n) zero arrivals count start m e lt h g =
    let q : start ≡ m = cc in
    let c : 0 + count ≡ count = omega arith in
    let g' : moment arrivals count start ≡ Halts e = ap (λ x. moment arrivals count x) q ∙ ap (λ x. moment arrivals x m) (sym c) ∙ g in
    rw g' (ap (λ x. stopping (state_with_arrivals arrivals count x) (Halts e)) q ∙ ap (λ x. stopping (state_with_arrivals arrivals x m) (Halts e)) (sym c))
stop-suc (suc n) (suc k) arrivals count start m e lt h g =
    stop-go
    (moment arrivals count start)
    (λ s t. state_after_from k arrivals (count + 1) t)
    (stopping (state_with_arrivals arrivals count start) (moment arrivals count start))
    (λ t. stop_from n arrivals (count + 1) t)
    m
    (stopping (state_with_arrivals arrivals (suc k + count) m) (Halts e))
    h
    (λ s t q.
    stop-suc n k arrivals (count + 1) t m e (omega arith) q (ap (λ x. moment arrivals x m) (sym (shifted k count)) ∙ g)
    ∙ ap (λ x. stopping (state_with_arrivals arrivals x m) (Halts e)) (sym (shifted k count)))

pub stop_halts
    : (n k : ℕ) (arrivals : List Arrival) (start m : State) (e : Stop) → k < n → state_after_from k arrivals 0 start ≡ Some m
    → moment arrivals k m ≡ Halts e → stop_from n arrivals 0 start ≡ stopping (state_with_arrivals arrivals k m) (Halts e)
stop_halts n k arrivals start m e lt h g =
    let c : k + 0 ≡ k = omega arith in
    stop-suc n k arrivals 0 start m e lt h (ap (λ x. moment arrivals x m) c ∙ g)
    ∙ ap (λ x. stopping (state_with_arrivals arrivals x m) (Halts e)) c

pub stop_none
    : (k : ℕ) (arrivals : List Arrival) (count : ℕ) (start m : State) → state_after_from k arrivals count start ≡ Some m
    → stop_from k arrivals count start ≡ None
unfolding state_after_from stop_from
stop_none zero arrivals count start m h = refl
stop_none (suc k) arrivals count start m h =
    stop-go
    (moment arrivals count start)
    (λ s t. state_after_from k arrivals (count + 1) t)
    (stopping (state_with_arrivals arrivals count start) (moment arrivals count start))
    (λ t. stop_from k arrivals (count + 1) t)
    m
    None
    h
    (λ s t q. stop_none k arrivals (count + 1) t m q)

-- the front of a longer run
front-go
    : (o : StepOutcome) (x : Step → State → Moment) (g h : State → List Moment) → ((t : State) → (rest : List Moment) × (g t ≡ h t ++ rest))
    → (rest : List Moment) × (on_goes o [] (λ s t. x s t ∷ g t) ≡ on_goes o [] (λ s t. x s t ∷ h t) ++ rest)
front-go (Halts e) x g h k = ([], refl)
front-go (Goes s t) x g h k = let q = k t in (q.0, ap (λ ms. x s t ∷ ms) q.1)

pub run_front
    : (n k : ℕ) (arrivals : List Arrival) (count : ℕ) (start : State) → k ≤ n
    → (rest : List Moment) × (run_from n arrivals count start ≡ run_from k arrivals count start ++ rest)
unfolding run_from
run_front n zero arrivals count start le = (run_from n arrivals count start, refl)
run_front zero (suc k) arrivals count start le = absurd (omega arith)
run_front (suc n) (suc k) arrivals count start le =
    front-go
    (moment arrivals count start)
    (λ s t. moment_of arrivals count start s t)
    (λ t. run_from n arrivals (count + 1) t)
    (λ t. run_from k arrivals (count + 1) t)
    (λ t. run_front n k arrivals (count + 1) t (omega arith))
