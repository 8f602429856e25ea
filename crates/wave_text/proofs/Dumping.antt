-- A dump that gets entries, one behind the other.
use Rattle.std.proofs.Common.{◌≡◌, ◌+◌, ◌∙◌, ℕ, zero, suc, List, [], ◌∷◌, ◌++◌, Option, Some, None, refl, sym, ap, subst, arith, append_assoc, append-nil, ⊎_elim}
use Rattle.std.specs.Prelude.{Bool, true, false, if◌then◌else◌}
use Rattle.std.proofs.lemmas.Bool.Decides.{eqb_tells}
use Rattle.std.proofs.lemmas.List.{flat_map_more}
use Rattle.std.proofs.Math.Numerals.{add-one}
use Rattle.wave_text.specs.declared.dump.Moment.{Moment}
use Rattle.wave_text.specs.declared.dump.Dump.{Dump}
use Rattle.wave_text.specs.declared.signals.Scope.{Scope}
use Rattle.wave_text.specs.declared.signals.Width.{Width}
use Rattle.wave_text.specs.Changes.{DumpEntry, same_value, change_entries, scope_changes, moment_entries, with_moment, stands_behind}
use Rattle.wave_text.specs.Signals.{first_code, signal_width, signal_value, KeepValues}
use Rattle.wave_text.specs.Text.{entry_line, entry_lines}
use Rattle.wave_text.specs.Waves.{HasNewEntries}

-- ---- entries in two parts

pub lines-append : (es fs : List DumpEntry) → entry_lines (es ++ fs) ≡ entry_lines es ++ entry_lines fs
lines-append [] fs = refl
lines-append (e ∷ es) fs = ap (λ l. entry_line e ++ l) (lines-append es fs) ∙ sym (append_assoc (entry_line e) (entry_lines es) (entry_lines fs))

standing : (count : ℕ) (fs : List DumpEntry) → with_moment count true fs ≡ fs
standing count [] = refl
standing count (f ∷ fs) = refl

moment-append : (count : ℕ) (s : Bool) (es fs : List DumpEntry)
    → with_moment count s (es ++ fs) ≡ with_moment count s es ++ with_moment count (stands_behind s es) fs
moment-append count s [] fs = refl
moment-append count s (e ∷ es) fs =
    sym (append_assoc (moment_entries count s) (e ∷ es) fs) ∙ ap (λ l. (moment_entries count s ++ e ∷ es) ++ l) (sym (standing count fs))

stands-append : (s : Bool) (es fs : List DumpEntry) → stands_behind s (es ++ fs) ≡ stands_behind (stands_behind s es) fs
stands-append s [] fs = refl
stands-append s (e ∷ es) [] = refl
stands-append s (e ∷ es) (f ∷ fs) = refl

-- ---- a dump

pub gets-none : (d : Dump) → HasNewEntries d d []
gets-none d = record { text = sym (append-nil d.text.items); count = refl; stamped = refl }

pub gets-both : (a b c : Dump) (es fs : List DumpEntry) → HasNewEntries a b es → HasNewEntries b c fs → HasNewEntries a c (es ++ fs)
gets-both a b c es fs h k =
    let front : List ℕ = entry_lines (with_moment a.count a.stamped es) in
    let W : ℕ → Bool → List ℕ = λ n s. entry_lines (with_moment n s fs) in
    let more : W b.count b.stamped ≡ W a.count (stands_behind a.stamped es) = ap (λ n. W n b.stamped) h.count ∙ ap (W a.count) h.stamped in
    record {
      text = k.text ∙ ap (λ t. t ++ W b.count b.stamped) h.text ∙ ap (λ l. (a.text.items ++ front) ++ l) more
          ∙ append_assoc a.text.items front (W a.count (stands_behind a.stamped es))
          ∙ ap (λ l. a.text.items ++ l)
          (sym (ap entry_lines (moment-append a.count a.stamped es fs) ∙ lines-append (with_moment a.count a.stamped es) (with_moment a.count (stands_behind a.stamped es) fs)));
      count = k.count ∙ h.count;
      stamped = k.stamped ∙ ap (λ s. stands_behind s fs) h.stamped ∙ sym (stands-append a.stamped es fs);
    }

-- a signal that keeps its value
pub gets-same : (d : Dump) (code : ℕ) (w : Width) (x y : Option ℕ) → same_value x y ≡ true → HasNewEntries d d (change_entries code w x y)
gets-same d code w x y same =
    let P : Bool → Type 0 = λ b. HasNewEntries d d (if b then [] else DumpEntry.change code w y ∷ []) in
    subst P (sym same) (gets-none d)

-- one that changes, behind the moment's line
pub gets-change : (a b c : Dump) (code : ℕ) (w : Width) (x y : Option ℕ) → same_value x y ≡ false
    → b.text.items ≡ a.text.items ++ entry_lines (moment_entries a.count a.stamped) → c.text.items ≡ b.text.items ++ entry_line (DumpEntry.change code w y)
    → c.count ≡ a.count → c.stamped ≡ true → HasNewEntries a c (change_entries code w x y)
gets-change a b c code w x y differs stood text count stamped =
    let P : Bool → Type 0 = λ d. HasNewEntries a c (if d then [] else DumpEntry.change code w y ∷ []) in
    subst P (sym differs) (record {
      text = text ∙ ap (λ t. t ++ entry_line (DumpEntry.change code w y)) stood ∙ flat_map_more entry_line a.text.items (moment_entries a.count a.stamped) (DumpEntry.change code w y);
      count = count;
      stamped = stamped;
    })

-- the same, with its values by other names
pub gets-values : (b c : Dump) (code : ℕ) (w : Width) (x y v z : Option ℕ) → x ≡ v → y ≡ z → HasNewEntries b c (change_entries code w x y) → HasNewEntries b c (change_entries code w v z)
gets-values b c code w x y v z e d h =
    let P : Option ℕ → Type 0 = λ o. HasNewEntries b c (change_entries code w o y) in
    let Q : Option ℕ → Type 0 = λ o. HasNewEntries b c (change_entries code w v o) in
    subst Q d (subst P e h)

-- ---- a scope

pub gets-no-tasks : (d : Dump) (s : Scope) (old new : Option Moment) → HasNewEntries d d (scope_changes s old new 0)
unfolding scope_changes
gets-no-tasks d s old new = gets-none d

task-more : (s : Scope) (old new : Option Moment) (k : ℕ)
    → scope_changes s old new (k + 1) ≡ scope_changes s old new k ++ change_entries (first_code s + k) (signal_width s) (signal_value s old k) (signal_value s new k)
unfolding scope_changes
task-more s old new k = ap (scope_changes s old new) (add-one k)

pub gets-task : (a b c : Dump) (s : Scope) (old new : Option Moment) (k code : ℕ) (w : Width) (x y : Option ℕ) → HasNewEntries a b (scope_changes s old new k)
    → code ≡ first_code s → w ≡ signal_width s → x ≡ signal_value s old k → y ≡ signal_value s new k → HasNewEntries b c (change_entries (code + k) w x y) → HasNewEntries a c (scope_changes s old new (k + 1))
gets-task a b c s old new k code w x y h at wide from to i =
    let P : List DumpEntry → Type 0 = HasNewEntries a c in
    let G : ℕ → Type 0 = λ n. HasNewEntries b c (change_entries (n + k) w x y) in
    let H : Width → Type 0 = λ v. HasNewEntries b c (change_entries (first_code s + k) v x y) in
    let own : HasNewEntries b c (change_entries (first_code s + k) (signal_width s) (signal_value s old k) (signal_value s new k)) =
    gets-values b c (first_code s + k) (signal_width s) x y (signal_value s old k) (signal_value s new k) from to (subst H wide (subst G at i)) in
    subst P (sym (task-more s old new k)) (gets-both a b c (scope_changes s old new k) (change_entries (first_code s + k) (signal_width s) (signal_value s old k) (signal_value s new k)) h own)

-- signals that keep their values
same-value : (x : Option ℕ) → same_value x x ≡ true
same-value None = refl
same-value (Some n) = ⊎_elim (λ h. h.0) (λ h. absurd (h.1 refl)) (eqb_tells n n)

no-changes : (s : Scope) (old new : Option Moment) (k : ℕ) → KeepValues s k old new → scope_changes s old new k ≡ []
unfolding scope_changes
no-changes s old new zero keeps = refl
no-changes s old new (suc k) keeps =
    let same : same_value (signal_value s old k) (signal_value s new k) ≡ true =
    ap (same_value (signal_value s old k)) (sym (keeps k (omega arith))) ∙ same-value (signal_value s old k) in
    ap (λ l. l ++ change_entries (first_code s + k) (signal_width s) (signal_value s old k) (signal_value s new k)) (no-changes s old new k (λ t l. keeps t (omega arith)))
    ∙ ap (λ b. if b then [] else DumpEntry.change (first_code s + k) (signal_width s) (signal_value s new k) ∷ []) same

pub gets-kept : (d : Dump) (s : Scope) (old new : Option Moment) (k : ℕ) → KeepValues s k old new → HasNewEntries d d (scope_changes s old new k)
gets-kept d s old new k keeps = let P : List DumpEntry → Type 0 = HasNewEntries d d in subst P (sym (no-changes s old new k keeps)) (gets-none d)
