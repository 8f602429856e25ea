-- The lengths of the texts.
use Rattle.std.proofs.Common.{◌≡◌, ℕ, zero, suc, ◌+◌, ◌*◌, ◌-◌, ◌%◌, ◌^◌, ◌<◌, ◌≤◌, Bool, true, false, List, [], ◌++◌, length, length-append, arith}
use Rattle.std.specs.Prelude.{◌==◌, if◌then◌else◌, decimal, codes}
use Rattle.std.specs.List.{flat_map, range_with_len}
use Rattle.std.proofs.lemmas.Fmt.{length-decimal-le}
use Rattle.sloth_base.specs.Limits.{task_limit, file_limit}
use Rattle.app_gen.specs.Draws.{draw}
use Rattle.app_gen.specs.Pieces.{number_behind, has_event}
use Rattle.app_gen.specs.Oil.{is_non, event_object, resource_object, resource_objects, schedule_of, autostart_of, event_attribute, task_object, oil_text}
use Rattle.app_gen.specs.Source.{setting_text, waking_text, first_body, waiting_text, body_head, adding_text, body_end, numbered_body, body, source_text}

short-decimal : (n : ℕ) → n < 2 ^ 32 → length (decimal n) ≤ 10
short-decimal n h = length-decimal-le 10 n (omega arith) (omega (arith, h)) (omega (arith, h))

short-number_behind : (t : List ℕ) (n : ℕ) → n < 2 ^ 32 → length (number_behind t n) ≤ length t + 10
unfolding number_behind
short-number_behind t n h = let d = short-decimal n h in let l = length-append t (decimal n) in omega (arith, d, l)

short-if : (b : Bool) (t e : List ℕ) (most : ℕ) → length t ≤ most → length e ≤ most → length (if b then t else e) ≤ most
short-if true t e most h g = h
short-if false t e most h g = g

length-three : (a b c : List ℕ) → length (a ++ b ++ c) ≡ length a + length b + length c
length-three a b c = omega (arith, length-append {A = ℕ})

length-five : (a b c d e : List ℕ) → length (a ++ b ++ c ++ d ++ e) ≡ length a + length b + length c + length d + length e
length-five a b c d e = omega (arith, length-append {A = ℕ})

-- the texts of numbers that are small
short-each : (f : ℕ → List ℕ) (a n : ℕ) → ((i : ℕ) → i < a + n → length (f i) ≤ 512) → length (flat_map f (range_with_len a n)) ≤ 512 * n
short-each f a zero h = omega arith
short-each f a (suc n) h =
    let here = h a (omega arith) in
    let l = length-append (f a) (flat_map f (range_with_len (a + 1) n)) in
    let ih = short-each f (a + 1) n (λ i l. h i (omega (arith, l))) in omega (arith, here, l, ih)

short-event : (i : ℕ) → i < 2 ^ 32 → length (event_object i) ≤ 512
unfolding event_object
short-event i h =
    let n = short-number_behind (codes "EVENT E") i h in
    short-if (has_event i) (number_behind (codes "EVENT E") i ++ codes " { MASK = AUTO; };\n") [] 512 (omega (arith, n, length-append {A = ℕ})) (omega arith)

short-resource : (k : ℕ) → k < 2 ^ 32 → length (resource_object k) ≤ 512
unfolding resource_object
short-resource k h = let n = short-number_behind (codes "RESOURCE R") k h in omega (arith, n, length-append {A = ℕ})

short-schedule : (i : ℕ) → length (schedule_of i) ≤ 50
unfolding schedule_of
short-schedule i = short-if (is_non i) (codes "NON") (codes "FULL") 50 (omega arith) (omega arith)

short-autostart : (i : ℕ) → length (autostart_of i) ≤ 50
unfolding autostart_of
short-autostart i = short-if (i == 0) (codes "TRUE { APPMODE = OSDEFAULTAPPMODE; }") (codes "FALSE") 50 (omega arith) (omega arith)

short-attribute : (i : ℕ) → i < 2 ^ 32 → length (event_attribute i) ≤ 50
unfolding event_attribute
short-attribute i h =
    let n = short-number_behind (codes " EVENT = E") i h in
    short-if (has_event i) (number_behind (codes " EVENT = E") i ++ codes ";") [] 50 (omega (arith, n, length-append {A = ℕ})) (omega arith)

short-task : (i : ℕ) → i + 1 < 2 ^ 32 → length (task_object i) ≤ 512
unfolding task_object
short-task i h =
    let name = short-number_behind (codes "TASK T") i (omega (arith, h)) in
    let priority = short-number_behind (codes " { PRIORITY = ") (i + 1) h in
    let schedule = short-schedule i in
    let autostart = short-autostart i in
    let resource = short-number_behind (codes "; RESOURCE = R") (i % 4) (omega arith) in
    let event = short-attribute i (omega (arith, h)) in
    omega (arith, name, priority, schedule, autostart, resource, event, length-append {A = ℕ})

short-resources : length resource_objects ≤ 2048
short-resources =
    let a = short-resource 0 (omega arith) in
    let b = short-resource 1 (omega arith) in
    let c = short-resource 2 (omega arith) in
    let d = short-resource 3 (omega arith) in omega (arith, a, b, c, d, length-append {A = ℕ})

pub short-oil : (n : ℕ) → n ≤ task_limit → length (oil_text n) ≤ file_limit
unfolding oil_text
short-oil n h =
    let events = short-each event_object 0 n (λ i l. short-event i (omega (arith, l, h))) in
    let resources = short-resources in
    let tasks = short-each task_object 0 n (λ i l. short-task i (omega (arith, l, h))) in
    let all = length-five (codes "OIL_VERSION = \"2.5\";\nCPU c {\nOS o { STATUS = EXTENDED; };\n") (flat_map event_object (range_with_len 0 n)) resource_objects
    (flat_map task_object (range_with_len 0 n)) (codes "};\n") in
    omega (arith, h, events, resources, tasks, all)

short-sets : (j : ℕ) → j < 2 ^ 32 → length (setting_text j) ≤ 100
unfolding setting_text
short-sets j h =
    let task = short-number_behind (codes "SetEvent T") j h in
    let event = short-number_behind (codes ", E") j h in
    short-if (has_event j) (number_behind (codes "SetEvent T") j ++ number_behind (codes ", E") j ++ codes "\n") [] 100
    (omega (arith, task, event, length-append {A = ℕ})) (omega arith)

short-wakes : (j : ℕ) → j < 2 ^ 32 → length (waking_text j) ≤ 512
unfolding waking_text
short-wakes j h =
    let task = short-number_behind (codes "ActivateTask T") j h in
    let event = short-sets j h in omega (arith, task, event, length-append {A = ℕ})

short-waits : (i : ℕ) → i < 2 ^ 32 → length (waiting_text i) ≤ 100
unfolding waiting_text
short-waits i h =
    let first = short-number_behind (codes "WaitEvent E") i h in
    let second = short-number_behind (codes "\nClearEvent E") i h in
    short-if (has_event i) (number_behind (codes "WaitEvent E") i ++ number_behind (codes "\nClearEvent E") i ++ codes "\n") [] 100
    (omega (arith, first, second, length-append {A = ℕ})) (omega arith)

short-begins : (i number : ℕ) → i < 2 ^ 32 → number < 2 ^ 32 → length (body_head i number) ≤ 100
unfolding body_head
short-begins i number h g =
    let task = short-number_behind (codes "task T") i h in
    let value = short-number_behind (codes ", 2\nli t0, ") number g in omega (arith, task, value, length-append {A = ℕ})

short-adds : (i : ℕ) → i < 2 ^ 30 → length (adding_text i) ≤ 200
unfolding adding_text
short-adds i h =
    let taken = short-number_behind (codes "GetResource R") (i % 4) (omega arith) in
    let stored = short-number_behind (codes "sw t1, tab+") (4 * i) (omega (arith, h)) in
    let released = short-number_behind (codes "\nReleaseResource R") (i % 4) (omega arith) in
    omega (arith, taken, stored, released, length-append {A = ℕ})

-- a draw is a word
fits : (seed k : ℕ) → seed < 2 ^ 32 → draw seed k < 2 ^ 32
unfolding draw
fits seed zero h = h
fits seed (suc k) h = omega arith

short-body : (seed i : ℕ) → seed < 2 ^ 32 → i < 2 ^ 30 → length (body seed i) ≤ 512
unfolding numbered_body body_end
short-body seed i h g =
    let first = short-begins i (draw seed i) (omega (arith, g)) (fits seed i h) in
    let added = short-adds i g in
    let waited = short-waits i (omega (arith, g)) in omega (arith, first, added, waited, length-append {A = ℕ})

short-first : (n : ℕ) → 1 ≤ n → n ≤ task_limit → length (first_body n) ≤ 20000
unfolding first_body
short-first n h g =
    let others = short-each waking_text 1 (n - 1) (λ j l. short-wakes j (omega (arith, l, g))) in
    let all = length-three (codes "task T0\nlabel loop\n") (flat_map waking_text (range_with_len 1 (n - 1))) (codes "j loop\nend\n") in omega (arith, g, others, all)

pub short-source : (seed n : ℕ) → seed < 2 ^ 32 → 1 ≤ n → n ≤ task_limit → length (source_text seed n) ≤ file_limit
unfolding source_text
short-source seed n f h g =
    let first = short-first n h g in
    let others = short-each (body seed) 1 (n - 1) (λ i l. short-body seed i f (omega (arith, l, g))) in
    let all = length-three (codes "data tab, 256\n") (first_body n) (flat_map (body seed) (range_with_len 1 (n - 1))) in
    omega (arith, g, first, others, all)
