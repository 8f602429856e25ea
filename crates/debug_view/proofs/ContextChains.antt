-- The walk along the chain of contexts finds each Active task that is preempted.
use Rattle.std.proofs.Common.{◌≡◌, ◌≢◌, ℕ, ◌+◌, ◌-◌, ◌%◌, ◌<◌, ◌≤◌, ◌==◌, List, [], ◌∷◌, length, Some, true, sym, ap, ◌∙◌, subst, arith, ⊎_elim, eqb}
use Rattle.std.specs.Prelude.{is_some}
use Rattle.std.specs.Option.{unwrap_or}
use Rattle.std.proofs.lemmas.Bool.{and_from, eq-eqb, eqb-true, ne_eqb, or_cases}
use Rattle.sloth_base.specs.Arithmetic.{sum32}
use Rattle.sloth_base.specs.Machine.{State}
use Rattle.sloth_base.specs.MemoryMap.{memory_base, memory_bytes}
use Rattle.sloth_base.specs.declared.app.Width.TheVariants as width
use Rattle.sloth_region.specs.Layout.{context_below, context_cur}
use Rattle.code_rules.specs.Code.{is_in}
use Rattle.rv32_instr.specs.Memory.{Memory, loaded_number, memory_of}
use Rattle.rv32_instr.specs.Ram.{word_at}
use Rattle.osek_scheduler.specs.State.{System}
use Rattle.masked_code.proofs.Machine.{word_allowed, word_loaded}
use Rattle.sim_relation.specs.Build.{Build, HasFittingPlaces}
use Rattle.sim_relation.specs.Context.{IsContextChain, IsSaved}
use Rattle.sim_relation.specs.Stands.{AreFalling}
use Rattle.sim_relation.proofs.Below.{chain_starts}
use Rattle.sim_relation.proofs.Tops.{below_other, falling_active, falling_tail, not_below}
use Rattle.osek_scheduler.specs.Valid.{AreDistinct}
use Rattle.osek_machine.proofs.Rooms.{at_most}
use Rattle.debug_view.specs.Contexts.{is_link, is_word, chain_context, unless_bad, loaded_word, word_or_zero}
use Rattle.debug_view.proofs.Linking.{link_found, link_more}

-- ---- there are no more Active tasks than tasks

distinct : (b : Build) (s : System) (stack : List ℕ) → AreFalling b s stack → AreDistinct stack
distinct b s [] f = tt
distinct b s (t ∷ below) f = (not_below b s t below f, distinct b s below (falling_tail b s t below f))

pub few_active : (b : Build) (s : System) (stack : List ℕ) → AreFalling b s stack → length stack ≤ length b.config.tasks
few_active b s stack f = at_most stack (length b.config.tasks) (distinct b s stack f) (λ u k. (falling_active b s stack f u k).declared)

-- ---- words of RAM

module _ (state : State) where
  abbrev memory : Memory
  memory = memory_of state.core

  pub word_there : (o : ℕ) → o % 4 ≡ 0 → o + 4 ≤ memory_bytes → loaded_word memory (memory_base + o) ≡ Some (word_at state.core.ram o)
  word_there o even inside =
      ap (λ r. unless_bad r (loaded_number memory (memory_base + o) width.Word)) (word_allowed state.core o even inside)
      ∙ ap (λ v. Some v) (word_loaded state.core o)

  pub number_there : (o : ℕ) → o % 4 ≡ 0 → o + 4 ≤ memory_bytes → word_or_zero memory (memory_base + o) ≡ word_at state.core.ram o
  number_there o even inside = ap (λ w. unwrap_or w 0) (word_there o even inside)

  pub is_there : (o : ℕ) → o % 4 ≡ 0 → o + 4 ≤ memory_bytes → is_word memory (memory_base + o) ≡ true
  is_there o even inside = ap (λ w. is_some w) (word_there o even inside)

  pub further : (place offset : ℕ) → place + offset < 2147483648 → sum32 (memory_base + place) offset ≡ memory_base + (place + offset)
  further place offset l = omega (arith, l)

  linked : (place : ℕ) → place % 4 ≡ 0 → place + 128 ≤ memory_bytes → is_link memory (memory_base + place) ≡ true
  linked place even inside =
      and_from _ _ (is_there place even (omega (arith, inside)))
      (ap (λ a. is_word memory a) (further place context_below (omega (arith, inside))) ∙ is_there (place + 12) (omega (arith, even)) (omega (arith, inside)))

  module _ (b : Build) (s : System) (fits : HasFittingPlaces b) where
    -- the context of a task in the chain
    pub record IsFound (left place t : ℕ) : Type 0 where
      pub at : ℕ
      pub found : chain_context memory left (memory_base + place) t ≡ Some (memory_base + at)
      pub saved : IsSaved b state.core.ram s t at
      pub even : at % 4 ≡ 0
      pub inside : at + 128 ≤ memory_bytes

    pub walk : (stack : List ℕ) (place left t : ℕ) → AreFalling b s stack → IsContextChain b state.core.ram s stack place → length stack ≤ left
        → is_in t stack ≡ true → IsFound left place t
    walk [] place left t falling chain few there = cc
    walk (u ∷ below) place left t falling chain few there =
        let starts = chain_starts b state.core.ram s (u ∷ below) place fits falling chain in
        let even = starts.aligned in
        let inside = starts.inside in
        let link = linked place even inside in
        let named : word_or_zero memory (sum32 (memory_base + place) context_cur) ≡ u + 1 =
        ap (λ a. word_or_zero memory a) (further place context_cur (omega (arith, inside)))
        ∙ number_there (place + 8) (omega (arith, even)) (omega (arith, inside)) ∙ chain.0.current in
        ⊎_elim
        (λ (e : eqb u t ≡ true).
        let same = eqb-true u t e in
        record {
          at = place;
          found = link_found memory left (memory_base + place) t (omega (arith, few)) link (ap (λ n. n == t + 1) named ∙ eq-eqb (u + 1) (t + 1) (omega (arith, same)));
          saved = subst (λ v. IsSaved b state.core.ram s v place) same chain.0;
          even = even;
          inside = inside;
        })
        (λ (k : is_in t below ≡ true).
        let next = chain.1.0 in
        let rest = walk below next (left - 1) t (falling_tail b s u below falling) chain.1.2 (omega (arith, few)) k in
        let other : t ≢ u = below_other b s u below falling t k in
        let address : word_or_zero memory (sum32 (memory_base + place) context_below) ≡ memory_base + next =
        ap (λ a. word_or_zero memory a) (further place context_below (omega (arith, inside)))
        ∙ number_there (place + 12) (omega (arith, even)) (omega (arith, inside)) ∙ chain.1.1 in
        let more = link_more memory left (memory_base + place) t (omega (arith, few)) link
        (ap (λ n. n == t + 1) named ∙ ne_eqb (u + 1) (t + 1) (λ e. other (omega (arith, e)))) in
        record {
          at = rest.at;
          found = sym more ∙ ap (λ a. chain_context memory (left - 1) a t) address ∙ rest.found;
          saved = rest.saved;
          even = rest.even;
          inside = rest.inside;
        })
        (or_cases (eqb u t) (is_in t below) there)
