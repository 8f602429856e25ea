-- What is read is in range.
use Rattle.std.proofs.Common.{◌≡◌, ◌∙◌, inl, inr, ℕ, ◌+◌, ◌≤◌, Bool, true, false, not, List, [], ◌∷◌, ◌++◌, Some, None, cond, refl, sym, ap, subst}
use Rattle.std.specs.Prelude.{◌==◌, nat_lt, is_some, unwrap_or}
use Rattle.std.specs.List.{All, list_any}
use Rattle.std.proofs.lemmas.Bool.{ltb-false, or_parts}
use Rattle.std.proofs.lemmas.Bool.Decides.{Decides-eqb, Decides-like, same_from_decides}
use Rattle.std.proofs.lemmas.List.Elements.{All-nil, All-cons, All-append}
use Rattle.sloth_base.specs.declared.refusal.Part.TheVariants.{Load}
use Rattle.sloth_base.specs.declared.refusal.Code.TheVariants.{L2, L3, L4}
use Rattle.sloth_base.specs.Owners.{IsOwned}
use Rattle.sloth_base.specs.Order.{NoFault}
use Rattle.sloth_base.proofs.Nowhere.{case_false}
use Rattle.sloth_base.proofs.Owners.{task_owned}
use Rattle.trace_text.specs.ArrivalsText.{owners_read, named_among}
use Rattle.trace_text.proofs.Kept.{found-below, line-owned, some-of, without}
use Rattle.load_text.specs.declared.load_line.Entry.{Entry}
use Rattle.load_text.specs.declared.load_line.Form.{Form}
use Rattle.load_text.specs.declared.load_line.Form.TheVariants as form
use Rattle.load_text.specs.LoadText.{load_limit, is_entry, form_of, number_of, owner_text, owner_by, owner_of, entry_of, is_of, is_form, is_said, is_outside, is_l2, is_l3, is_l4, LineFault}
use Rattle.load_text.specs.Loads.{said, IsNumber, AreApart, IsLoad}

-- ---- owners

task-owned : (tasks counters : List (List ℕ)) (name : List ℕ) (k : ℕ) → named_among 256 tasks name ≡ Some k → IsOwned (owners_read tasks counters) k
task-owned tasks counters name k e =
    task_owned (owners_read tasks counters) k (found-below (named_among 256 tasks name) 256 tasks name refl k e).1

-- the owner of a name has a line
owner-owned : (tasks counters : List (List ℕ)) (f : Form) (name : List ℕ) (k : ℕ) → owner_by tasks counters f name ≡ Some k → IsOwned (owners_read tasks counters) k
owner-owned tasks counters form.Every name k e = line-owned tasks counters name k e
owner-owned tasks counters form.Work name k e = task-owned tasks counters name k e
owner-owned tasks counters form.Deadline name k e = task-owned tasks counters name k e

-- ---- entries of one form and owner

-- an entry of which nothing is said, put behind: what is said of another one's form and owner stays None unless they are the same
said-append : (f : Form) (owner : ℕ) (load : List Entry) (new : Entry) → said f owner load ≡ None → is_of f owner new ≡ false → said f owner (load ++ new ∷ []) ≡ None
said-append f owner [] new h e = ap (λ b. cond b (Some new.number) None) e
said-append f owner (entry ∷ load) new h e = by (is_of f owner entry) (λ k. said-append f owner load new k e) h
  where
    by : (b : Bool) → (said f owner load ≡ None → said f owner (load ++ new ∷ []) ≡ None) → cond b (Some entry.number) (said f owner load) ≡ None
        → cond b (Some entry.number) (said f owner (load ++ new ∷ [])) ≡ None
    by true later k = cc
    by false later k = later k

-- of the same form and owner is meant both ways
form-both : (f g : Form) → is_form f g ≡ is_form g f
form-both form.Every form.Every = refl
form-both form.Every form.Work = refl
form-both form.Every form.Deadline = refl
form-both form.Work form.Every = refl
form-both form.Work form.Work = refl
form-both form.Work form.Deadline = refl
form-both form.Deadline form.Every = refl
form-both form.Deadline form.Work = refl
form-both form.Deadline form.Deadline = refl

flips : (x y : ℕ) → (x == y) ≡ (y == x)
flips x y = same_from_decides (x == y) (y == x) (Decides-eqb x y) (Decides-like (y == x) sym sym (Decides-eqb y x))

-- a new entry stands behind the others, of which each is apart from it
apart-append : (load : List Entry) (new : Entry) → AreApart load → list_any (is_of new.form new.owner) load ≡ false → AreApart (load ++ new ∷ [])
apart-append [] new h e = (refl, tt)
apart-append (entry ∷ load) new h e =
    let parts = or_parts (is_of new.form new.owner entry) (list_any (is_of new.form new.owner) load) e in
    (said-append entry.form entry.owner load new h.0 (of-both entry new parts.0), apart-append load new h.1 parts.1)
  where
    -- `==` of two numbers, either way
    of-both : (a b : Entry) → is_of b.form b.owner a ≡ false → is_of a.form a.owner b ≡ false
    of-both a b k = rw (form-both b.form a.form, flips b.owner a.owner) k

-- ---- one entry more

module _ (tasks counters : List (List ℕ)) (before : List Entry) (n : ℕ) (line : List ℕ) (none : NoFault (LineFault tasks counters before n line)) (is : is_entry line ≡ true) where
  in-range : (nat_lt (number_of line) 1 ≡ false) × (nat_lt load_limit (number_of line) ≡ false)
  in-range =
      let l4 = case_false Load (is_l4 line) n L4 (λ r f. none r (inr (inr (inr f)))) in
      or_parts (nat_lt (number_of line) 1) (nat_lt load_limit (number_of line)) (without (is_entry line) (is_outside line) is l4)

  pub number-fits : number_of line ≤ load_limit
  number-fits = ltb-false load_limit (number_of line) in-range.1

  owner-is : (k : ℕ) × (owner_of tasks counters line ≡ Some k)
  owner-is =
      let l2 = case_false Load (is_l2 tasks counters line) n L2 (λ r f. none r (inr (inl f))) in
      some-of (owner_of tasks counters line) (without (is_entry line) (not (is_some (owner_of tasks counters line))) is l2)

  -- none of the entries before is of its form and owner
  is-new : list_any (is_of (form_of line) owner-is.0) before ≡ false
  is-new =
      let l3 = case_false Load (is_l3 tasks counters before line) n L3 (λ r f. none r (inr (inr (inl f)))) in
      ap (is_said before (form_of line)) (sym owner-is.1) ∙ without (is_entry line) (is_said before (form_of line) (owner_of tasks counters line)) is l3

  pub one-more : IsLoad (owners_read tasks counters) before → IsLoad (owners_read tasks counters) (before ++ entry_of tasks counters line ∷ [])
  one-more h =
      let entry = entry_of tasks counters line in
      let owner : entry.owner ≡ owner-is.0 = ap (λ o. unwrap_or o 0) owner-is.1 in
      let single : (P : Entry → Type 0) → P entry → All P (entry ∷ []) = λ P p. All-cons P entry [] p (All-nil P) in
      record {
        numbers = All-append IsNumber before (entry ∷ []) h.numbers (single IsNumber (ltb-false (number_of line) 1 in-range.0, number-fits));
        owned = All-append (λ e. IsOwned (owners_read tasks counters) e.owner) before (entry ∷ []) h.owned
            (single (λ e. IsOwned (owners_read tasks counters) e.owner)
            (subst (IsOwned (owners_read tasks counters)) (sym owner) (owner-owned tasks counters (form_of line) (owner_text line) owner-is.0 owner-is.1)));
        apart = apart-append before entry h.apart (subst (λ k. list_any (is_of (form_of line) k) before ≡ false) (sym owner) is-new);
      }
