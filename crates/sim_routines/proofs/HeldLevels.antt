-- The levels that are saved for the resources of a task, as it takes one more and releases the last.
use Rattle.std.proofs.Common.{◌≡◌, ℕ, ◌≤◌, List, [], ◌∷◌, ◌++◌, sym, ap, ◌∙◌, arith, true, false, max, map, inl, inr}
use Rattle.std.specs.Prelude.{◌==◌, ◌⊎◌}
use Rattle.std.proofs.lemmas.Bool.{eqb-true, false≢true, or_cases, or_left, or_right}
use Rattle.sloth_base.specs.PriorityLevels.{level_of}
use Rattle.sloth_region.specs.Layout.{saved_level}
use Rattle.rv32_instr.specs.Ram.{word_at}
use Rattle.osek_scheduler.specs.State.{Task}
use Rattle.sloth_base.specs.Named.{declaration}
use Rattle.code_rules.specs.Code.{is_in}
use Rattle.osek_scheduler.specs.Priority.{greatest, ceiling, current_priority}
use Rattle.code_rules.specs.Code.{is_last, without_last}
use Rattle.sim_relation.specs.Build.{Build}
use Rattle.sim_relation.specs.ServiceWords.{AreHeldWords, base_priority}

-- the priority at which a task runs that took these resources, from this one on
abbrev pub with_held : Build → ℕ → List ℕ → ℕ
with_held b priority [] = priority
with_held b priority (r ∷ held) = with_held b (max priority (ceiling b.config r)) held

with_greatest : (b : Build) (priority : ℕ) (held : List ℕ) → with_held b priority held ≡ max priority (greatest (map (ceiling b.config) held))
with_greatest b priority [] = omega arith
with_greatest b priority (r ∷ held) = let e = with_greatest b (max priority (ceiling b.config r)) held in omega arith

-- it is the current priority
pub current_is : (b : Build) (t : ℕ) (own : Task) → current_priority b.config (declaration b.config t) own ≡ with_held b (base_priority b t own) own.held
current_is b t own = let e = with_greatest b (base_priority b t own) own.held in omega arith

-- one more resource raises the priority to its ceiling at least
pub with_one_more : (b : Build) (priority : ℕ) (held : List ℕ) (r : ℕ) → with_held b priority (held ++ r ∷ []) ≡ max (with_held b priority held) (ceiling b.config r)
with_one_more b priority [] r = omega arith
with_one_more b priority (q ∷ held) r = with_one_more b (max priority (ceiling b.config q)) held r

-- one more is taken
pub words_push : (b : Build) (ram : List ℕ) (priority : ℕ) (held : List ℕ) (r : ℕ) → AreHeldWords b ram priority held
    → word_at ram (saved_level r) ≡ level_of b.config (with_held b priority held) → AreHeldWords b ram priority (held ++ r ∷ [])
words_push b ram priority [] r h e = (e, tt)
words_push b ram priority (q ∷ held) r h e = (h.0, words_push b ram (max priority (ceiling b.config q)) held r h.1 e)

-- the last one is released
pub record Popped (b : Build) (ram : List ℕ) (priority : ℕ) (held : List ℕ) (r : ℕ) : Type 0 where
  pub words : AreHeldWords b ram priority (without_last held)
  pub level : word_at ram (saved_level r) ≡ level_of b.config (with_held b priority (without_last held))
  pub among : is_in r held ≡ true

-- behind the release of the last one the words of the others stand, and its word is the level to go back to
pub words_pop : (b : Build) (ram : List ℕ) (priority : ℕ) (held : List ℕ) (r : ℕ) → is_last r held ≡ true → AreHeldWords b ram priority held → Popped b ram priority held r
words_pop b ram priority [] r l h = absurd (false≢true l)
words_pop b ram priority (q ∷ []) r l h =
    let e : q ≡ r = eqb-true q r l in
    record {
      words = tt;
      level = ap (λ x. word_at ram (saved_level x)) (sym e) ∙ h.0;
      among = or_left (q == r) false l;
    }
words_pop b ram priority (q ∷ p ∷ held) r l h =
    let rest = words_pop b ram (max priority (ceiling b.config q)) (p ∷ held) r l h.1 in
    record { words = (h.0, rest.words); level = rest.level; among = or_right (q == r) (is_in r (p ∷ held)) rest.among }

-- a ceiling of what is held is at most the current priority
at_most_greatest : (b : Build) (held : List ℕ) (r : ℕ) → is_in r held ≡ true → ceiling b.config r ≤ greatest (map (ceiling b.config) held)
at_most_greatest b [] r h = absurd (false≢true h)
at_most_greatest b (q ∷ held) r h = by (at_most_greatest b held r) (or_cases (q == r) (is_in r held) h)
  where
    by : (is_in r held ≡ true → ceiling b.config r ≤ greatest (map (ceiling b.config) held)) → ((q == r) ≡ true) ⊎ (is_in r held ≡ true)
        → ceiling b.config r ≤ greatest (map (ceiling b.config) (q ∷ held))
    by tail (inl e) = let same : ceiling b.config q ≡ ceiling b.config r = ap (ceiling b.config) (eqb-true q r e) in omega arith
    by tail (inr e) = let rest = tail e in omega arith

-- a task that holds a resource has at least its ceiling
pub holds_at_least : (b : Build) (t : ℕ) (own : Task) (r : ℕ) → is_in r own.held ≡ true → ceiling b.config r ≤ current_priority b.config (declaration b.config t) own
holds_at_least b t own r h = let e = at_most_greatest b own.held r h in omega arith
