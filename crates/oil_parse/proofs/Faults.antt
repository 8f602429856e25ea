-- The machine's faults are the grammar's.
use Rattle.std.proofs.Common.{◌≡◌, ℕ, Bool, true, false, cond, ltb, List, [], ◌∷◌, ◌++◌, Option, Some, None, refl, ap, sym, ◌∙◌, subst, suc, zero, ◌⊎◌, inl, inr, ⊎_elim, append_assoc, ◌↔◌}
use Rattle.std.proofs.lemmas.List.{append-nil}
use Rattle.sloth_base.specs.declared.refusal.Refusal.{Refusal}
use Rattle.sloth_base.specs.declared.refusal.Part.TheVariants.{Oil}
use Rattle.sloth_base.specs.declared.refusal.Code.TheVariants as code
use Rattle.oil_parse.specs.Tokens.{Lexeme}
use Rattle.oil_parse.specs.declared.machine.Key.TheVariants.{Cpu}
use Rattle.oil_parse.specs.declared.machine.Shape.{Shape}
use Rattle.oil_parse.specs.declared.machine.Shape.TheVariants.{Word, Number, Text, Open, Close, Equals, Semicolon, Colon}
use Rattle.oil_parse.specs.declared.machine.Construct.TheVariants.{Object, Attr, File}
use Rattle.oil_parse.specs.declared.machine.Expect.{Expect}
use Rattle.oil_parse.specs.declared.machine.Expect.TheVariants.{Start, Ending, Describing, Closing, CpuName, CpuOpen, Objects, ObjectName, ObjectTail, Attrs, AttrIs, AttrValue, AttrTail, Done}
use Rattle.oil_parse.specs.Shapes.{shape}
use Rattle.oil_parse.specs.declared.tree.OilTree.{OilTree}
use Rattle.oil_parse.specs.Grammar.{IsImplementation, IsHead, IsFile, file}
use Rattle.oil_parse.specs.Faults.{IsViable, InCpu, IsTooBig, last_line, EndFault, GrammarFault}
use Rattle.oil_parse.specs.Steps.{next, closed_construct}
use Rattle.oil_parse.specs.Machine.{nothing_built}
use Rattle.oil_parse.proofs.Steps.{step, TooBig, MachineFault}
use Rattle.oil_parse.proofs.Steps.{none_done, step_append, step_none}
use Rattle.oil_parse.proofs.Sound.{file_read}
use Rattle.oil_parse.proofs.Complete.{Takes, cpu_takes, file_takes}
use Rattle.oil_parse.proofs.Finish.{finish}

pub viable : (ts : List Lexeme) (e : Expect) → step (Some Start) ts ≡ Some e → IsViable ts
viable ts e h =
    let f = finish e in
    let r = file_read (ts ++ f.0) (step_append (Some Start) ts f.0 ∙ (ap (λ o. step o f.0) h ∙ f.1)) in
    (f.0, r.0, r.1)

pub file_done : (ts : List Lexeme) (tree : OilTree) → IsFile ts tree → step (Some Start) ts ≡ Some Done
file_done ts tree f = (file_takes f nothing_built).1.leads

some_step : (o : Option Expect) (more : List Lexeme) → step o more ≡ Some Done → (e : Expect) × (o ≡ Some e)
some_step None more h = absurd (none_done more h)
some_step (Some e) more h = (e, refl)

pub viable_step : (ts : List Lexeme) → IsViable ts → (e : Expect) × (step (Some Start) ts ≡ Some e)
viable_step ts v = some_step (step (Some Start) ts) v.0 (sym (step_append (Some Start) ts v.0) ∙ file_done (ts ++ v.0) v.1 v.2)

-- the states behind the word CPU, that right behind it apart
abbrev is_later : Expect → Bool
is_later CpuOpen = true
is_later Objects = true
is_later ObjectName = true
is_later ObjectTail = true
is_later (Attrs d) = true
is_later (AttrIs d) = true
is_later (AttrValue d) = true
is_later (AttrTail d) = true
is_later Done = true
is_later (Ending Object) = true
is_later (Ending (Attr d)) = true
is_later (Ending File) = true
is_later (Describing Object) = true
is_later (Describing (Attr d)) = true
is_later (Describing File) = true
is_later (Closing Object) = true
is_later (Closing (Attr d)) = true
is_later (Closing File) = true
is_later _ = false

abbrev is_after : Expect → Bool
is_after CpuName = true
is_after e = is_later e

abbrev leads_later : Option Expect → Bool
leads_later None = true
leads_later (Some e) = is_later e

later_closed : (d : ℕ) → is_later (Ending (closed_construct d)) ≡ true
later_closed zero = refl
later_closed (suc d) = refl

later_next : (e : Expect) (x : Shape) → is_after e ≡ true → leads_later (next e x) ≡ true
unfolding next
later_next CpuName (Word k) a = refl
later_next CpuOpen Open a = refl
later_next Objects Close a = refl
later_next ObjectName (Word k) a = refl
later_next ObjectTail Open a = refl
later_next (Attrs d) Close a = later_closed d
later_next (AttrIs d) Equals a = refl
later_next (AttrValue d) Text a = refl
later_next (AttrTail d) Open a = elim (ltb d 8) as (λ u. leads_later (cond u (Some (Attrs (suc d))) None) ≡ true) [ true ↦ refl | false ↦ refl ]
later_next Done Open a = refl
later_next (Ending Object) Colon a = refl
later_next (Ending (Attr d)) Colon a = refl
later_next (Ending File) Colon a = refl
later_next (Describing Object) Text a = refl
later_next (Describing (Attr d)) Text a = refl
later_next (Describing File) Text a = refl
later_next (Closing Object) Semicolon a = refl
later_next (Closing (Attr d)) Semicolon a = refl
later_next (Closing File) Semicolon a = refl
later_next _ _ a = cc

later_is_after : (e : Expect) → is_later e ≡ true → is_after e ≡ true
later_is_after CpuName h = refl
later_is_after _ h = h

-- from behind the word CPU no tokens lead back to it
later_from : (o : Option Expect) (ts : List Lexeme) → leads_later o ≡ true → leads_later (step o ts) ≡ true
later_from o [] h = h
later_from None (t ∷ ts) h = refl
later_from (Some e) (t ∷ ts) h = later_from (next e (shape t)) ts (later_next e (shape t) (later_is_after e h))

-- Behind the word CPU the state is one of these.
cpu_after : (rest : List Lexeme) (e : Expect) → step (Some CpuName) rest ≡ Some e → is_after e ≡ true
cpu_after [] e h = let q : CpuName ≡ e = cc in subst (λ (x : Expect). is_after x ≡ true) q refl
cpu_after (t ∷ rest) e h =
    later_is_after e (subst (λ (o : Option Expect). leads_later o ≡ true) h (later_from (next CpuName (shape t)) rest (later_next CpuName (shape t) refl)))

-- the front of a file up to its word CPU
abbrev up_to : List Lexeme → List Lexeme → Lexeme → List Lexeme
up_to hs xs c = hs ++ (xs ++ c ∷ [])

up_to_cpu : (hs xs : List Lexeme) (c : Lexeme) → IsHead hs → IsImplementation xs → shape c ≡ Word Cpu → step (Some Start) (up_to hs xs c) ≡ Some CpuName
up_to_cpu hs xs c h s k =
    let w : Takes CpuName (record nothing_built { cpu_line = c.line }) [] CpuName (record nothing_built { cpu_line = c.line }) = record { leads = refl; builds = refl } in
    (cpu_takes h s c nothing_built k w).leads

joined : (hs xs rest : List Lexeme) (c : Lexeme) → hs ++ (xs ++ c ∷ rest) ≡ up_to hs xs c ++ rest
joined hs xs rest c = simp append_assoc

pub in_cpu_after : (ts : List Lexeme) (e : Expect) → InCpu ts → step (Some Start) ts ≡ Some e → is_after e ≡ true
in_cpu_after ts e i h =
    cpu_after i.2 e (sym (ap (λ o. step o i.2) (up_to_cpu i.0 i.1 i.3 i.5 i.6 i.7)) ∙ (sym (step_append (Some Start) (up_to i.0 i.1 i.3) i.2)
    ∙ (sym (ap (step (Some Start)) (i.4 ∙ joined i.0 i.1 i.2 i.3)) ∙ h)))

-- of two fronts of one list, one is a front of the other
parted : (a b c d : List Lexeme) → a ++ b ≡ c ++ d → ((m : List Lexeme) × (a ≡ c ++ m)) ⊎ ((m : List Lexeme) × (c ≡ a ++ m))
parted [] b c d e = inr (c, refl)
parted (x ∷ a) b [] d e = inl (x ∷ a, refl)
parted (x ∷ a) b (y ∷ c) d e =
    let p : x ≡ y = cc in
    let q : a ++ b ≡ c ++ d = cc in
    ⊎_elim (λ r. inl (r.0, ap (λ z. z ∷ a) p ∙ ap (λ z. y ∷ z) r.1)) (λ r. inr (r.0, ap (λ z. z ∷ c) (sym p) ∙ ap (λ z. x ∷ z) r.1)) (parted a b c d q)

after_file : {ts : List Lexeme} {tree : OilTree} → IsFile ts tree → (front more : List Lexeme) (e : Expect) → ts ≡ front ++ more → step (Some Start) front ≡ Some e → is_later e ≡ true → InCpu front
after_file (file c n o z hs xs us f h s k w q a y g) front more e p t l =
    ⊎_elim
    (λ r. (hs, xs, r.0, c, r.1 ∙ sym (joined hs xs r.0 c), h, s, k))
    (λ r.
    let back : step (Some e) r.0 ≡ Some CpuName
    = sym (step_append (Some Start) front r.0 ∙ ap (λ o. step o r.0) t) ∙ (ap (step (Some Start)) (sym r.1) ∙ up_to_cpu hs xs c h s k) in
    let u : leads_later (step (Some e) r.0) ≡ true = later_from (Some e) r.0 l in
    let v : false ≡ true = subst (λ (x : Option Expect). leads_later x ≡ true) back u in cc)
    (parted front more (up_to hs xs c) (n ∷ o ∷ (us ++ z ∷ f)) (sym p ∙ joined hs xs (n ∷ o ∷ (us ++ z ∷ f)) c))

after_in_cpu : (front : List Lexeme) (e : Expect) → step (Some Start) front ≡ Some e → is_later e ≡ true → InCpu front
after_in_cpu front e t l = let v = viable front e t in after_file v.2 front v.0 e refl t l

too_big_is : (e : Expect) (x : Shape) (t : Lexeme) (r : Refusal) → TooBig e x t r → (is_later e ≡ true) × IsTooBig x × (r ≡ record { part = Oil; line = t.line; code = code.O4 })
too_big_is (AttrValue d) (Number v) t r h = (refl, h.0, h.1)
too_big_is _ _ t r h = absurd h

too_big_to : (e : Expect) (x : Shape) (t : Lexeme) (r : Refusal) (e' : Expect) → is_after e ≡ true → IsTooBig x → next e x ≡ Some e' → r ≡ record { part = Oil; line = t.line; code = code.O4 } → TooBig e x t r
unfolding next
too_big_to (AttrValue d) (Number v) t r e' a b h q = (b, q)
too_big_to _ (Number v) t r e' a b h q = cc
too_big_to _ _ t r e' a b h q = absurd b

last_of : (front : List Lexeme) (n : ℕ) (t : Lexeme) → last_line n (front ++ t ∷ []) ≡ t.line
last_of [] n t = refl
last_of (b ∷ front) n t = last_of front b.line t

-- the machine's fault of a token, by what comes next
abbrev pub FaultBy : Option Expect → Expect → Lexeme → List Lexeme → Refusal → Type 0
FaultBy o e t ts r = elim o [ None ↦ r ≡ record { part = Oil; line = t.line; code = code.O5 } | Some e' ↦ TooBig e (shape t) t r ⊎ MachineFault e' t.line ts r ]

one_more : (front : List Lexeme) (t : Lexeme) (e : Expect) → step (Some Start) front ≡ Some e → step (Some Start) (front ++ t ∷ []) ≡ next e (shape t)
one_more front t e h = step_append (Some Start) front (t ∷ []) ∙ ap (λ o. step o (t ∷ [])) h

pub to_grammar : (ts front : List Lexeme) (e : Expect) (r : Refusal) → step (Some Start) front ≡ Some e → MachineFault e (last_line 1 front) ts r → GrammarFault (front ++ ts) r
to_grammar [] front e r h f =
    let g : EndFault front r = record {
      allowed = viable front e h;
      unfinished = λ tree i. let d = file_done front tree i in f.0 (let q : e ≡ Done = cc in q);
      is = f.1;
    } in
    subst (λ (x : List Lexeme). GrammarFault x r) (sym (append-nil front)) (inr (inr g))
to_grammar (t ∷ ts) front e r h f =
    let P : Option Expect → Type 0 = λ o. next e (shape t) ≡ o → FaultBy o e t ts r → GrammarFault (front ++ t ∷ ts) r in
    (elim (next e (shape t)) as P [
      | None ↦ λ q g. inr (inl (record {
        before = front;
        at = t;
        behind = ts;
        place = refl;
        allowed = viable front e h;
        refused = λ v. let s = viable_step (front ++ t ∷ []) v in let z = one_more front t e h in cc;
        is = g;
      }))
      | Some e' ↦ λ q g. ⊎_elim
          (λ b. let k = too_big_is e (shape t) t r b in inl (record {
            before = front;
            at = t;
            behind = ts;
            place = refl;
            inside = after_in_cpu front e h k.0;
            allowed = viable (front ++ t ∷ []) e' (one_more front t e h ∙ q);
            too_big = k.1;
            is = k.2;
          }))
          (λ m. subst (λ (x : List Lexeme). GrammarFault x r) (append_assoc front (t ∷ []) ts)
          (to_grammar ts (front ++ t ∷ []) e' r (one_more front t e h ∙ q) (subst (λ (n : ℕ). MachineFault e' n ts r) (sym (last_of front 1 t)) m)))
          g
    ]) refl f

-- A fault behind some tokens is one of them all.
fault_behind : (before rest : List Lexeme) (e : Expect) (n : ℕ) (e1 : Expect) (r : Refusal) → step (Some e) before ≡ Some e1 → MachineFault e1 (last_line n before) rest r
    → MachineFault e n (before ++ rest) r
fault_behind [] rest e n e1 r h f = let q : e ≡ e1 = cc in subst (λ (x : Expect). MachineFault x n rest r) (sym q) f
fault_behind (t ∷ before) rest e n e1 r h f =
    let P : Option Expect → Type 0 = λ o. step o before ≡ Some e1 → FaultBy o e t (before ++ rest) r in
    (elim (next e (shape t)) as P [
      | None ↦ λ g. absurd (let z = step_none before in let y : ◌≡◌ {A = Option Expect} None (Some e1) = cc in cc)
      | Some e' ↦ λ g. inr (fault_behind before rest e' t.line e1 r g f)
    ]) h

pub from_grammar : (ts : List Lexeme) (r : Refusal) → GrammarFault ts r → MachineFault Start 1 ts r
from_grammar ts r (inl f) =
    let a = viable_step (f.before ++ f.at ∷ []) f.allowed in
    let b = some_front f.before (f.at ∷ []) a.0 a.1 in
    let q : next b.0 (shape f.at) ≡ Some a.0 = sym (one_more f.before f.at b.0 b.1) ∙ a.1 in
    let k = too_big_to b.0 (shape f.at) f.at r a.0 (in_cpu_after f.before b.0 f.inside b.1) f.too_big q f.is in
    subst (λ (x : List Lexeme). MachineFault Start 1 x r) (sym f.place)
    (fault_behind f.before (f.at ∷ f.behind) Start 1 b.0 r b.1 (subst (λ (o : Option Expect). FaultBy o b.0 f.at f.behind r) (sym q) (inl k)))
  where
    some_front : (front more : List Lexeme) (e : Expect) → step (Some Start) (front ++ more) ≡ Some e → (e1 : Expect) × (step (Some Start) front ≡ Some e1)
    some_front front more e h = some_of (step (Some Start) front) more e (sym (step_append (Some Start) front more) ∙ h)
      where
        some_of : (o : Option Expect) (more : List Lexeme) (e : Expect) → step o more ≡ Some e → (e1 : Expect) × (o ≡ Some e1)
        some_of None more e h = absurd (let z = step_none more in let y : ◌≡◌ {A = Option Expect} None (Some e) = cc in cc)
        some_of (Some e1) more e h = (e1, refl)
from_grammar ts r (inr (inl f)) =
    let a = viable_step f.before f.allowed in
    let q : next a.0 (shape f.at) ≡ None = stuck (next a.0 (shape f.at)) (λ e' z. f.refused (viable (f.before ++ f.at ∷ []) e' (one_more f.before f.at a.0 a.1 ∙ z))) in
    subst (λ (x : List Lexeme). MachineFault Start 1 x r) (sym f.place)
    (fault_behind f.before (f.at ∷ f.behind) Start 1 a.0 r a.1 (subst (λ (o : Option Expect). FaultBy o a.0 f.at f.behind r) (sym q) f.is))
  where
    stuck : (o : Option Expect) → ((e' : Expect) → o ≡ Some e' → ⊥) → o ≡ None
    stuck None n = refl
    stuck (Some e') n = absurd (n e' refl)
from_grammar ts r (inr (inr f)) =
    let a = viable_step ts f.allowed in
    subst (λ (x : List Lexeme). MachineFault Start 1 x r) (append-nil ts)
    (fault_behind ts [] Start 1 a.0 r a.1
    ((λ d. let s : step (Some Start) ts ≡ Some Done = a.1 ∙ ap Some d in let w = file_read ts s in f.unfinished w.0 w.1), f.is))

pub same_faults : (ts : List Lexeme) (r : Refusal) → GrammarFault ts r ↔ MachineFault Start 1 ts r
same_faults ts r = (from_grammar ts r, to_grammar ts [] Start r refl)
