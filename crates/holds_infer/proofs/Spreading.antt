-- Lists spread along the ways of a body.
use Rattle.std.proofs.Common.{◌≡◌, ℕ, zero, suc, ◌+◌, ◌*◌, ◌<◌, ◌≤◌, Bool, true, false, not, ◌⊎◌, inl, inr, List, [], ◌∷◌, ◌++◌, length, set, get_or, cond, Option, Some, None, refl, sym, ap, ◌∙◌, subst, arith, ⊎_elim}
use Rattle.std.specs.Prelude.{is_some, MatchBool, All}
use Rattle.std.proofs.lemmas.Bool.{cases_eq, cases_lt, true≢false, false≢true}
use Rattle.std.proofs.Math.ListN.{get_or-map}
use Rattle.std.proofs.lemmas.List.{get_or-set_same, get_or-set_other, get_or_past, length-set, length-map, map-set, length_push}
use Rattle.std.proofs.lemmas.List.Elements.{All-push}
use Rattle.std.proofs.lemmas.List.Sums.{sum_by-set}
use Rattle.sloth_base.specs.declared.config.Config.{Config}
use Rattle.sloth_base.specs.declared.app.App.{App}
use Rattle.sloth_base.specs.declared.app.Func.{Func}
use Rattle.sloth_base.specs.declared.app.Call.{Call}
use Rattle.sloth_base.specs.declared.app.Item.{Item}
use Rattle.sloth_base.specs.declared.app.Op.{Op}
use Rattle.sloth_base.specs.declared.app.Op.TheVariants as op
use Rattle.sloth_base.specs.declared.service.Service.{Service}
use Rattle.sloth_base.specs.declared.service.Service.TheVariants as service
use Rattle.sloth_base.specs.Named.{item_of}
use Rattle.code_rules.specs.AppRange.{IsResource, IsOp, AreOperands}
use Rattle.code_rules.specs.Code.{way, is_in, without_last, held_behind, held_after, held_list_at, IsPathStep}
use Rattle.task_verify.specs.Ways.{next_of, jump_of, IsMarkVisit, unmarked_count}
use Rattle.task_verify.proofs.Paths.{next_goes, jump_goes, goes_from_inside}
use Rattle.task_verify.proofs.Searches.{taken, gone_on, begun, ended, next_inside, jump_inside}
use Rattle.holds_infer.specs.Filling.{bare_func}
use Rattle.holds_infer.specs.RightLists.{HasRightLists}
use Rattle.holds_infer.specs.Places.{PlaceLists, list_or, list_at}
use Rattle.holds_infer.specs.Spread.{list_behind, list_after, marks, IsListVisit, AreTrueLists, AreSpreading, AreLists}
use Rattle.holds_infer.proofs.Held.{held_first, held_falls, held_turns}
use Rattle.holds_infer.proofs.Bare.{item_same, goes_same}

-- ---- marks

pub mark_at : (lists : PlaceLists) (i : ℕ) → get_or (marks lists) i false ≡ is_some (get_or lists i None)
mark_at lists i = get_or-map is_some lists i None

pub visits : (old new : PlaceLists) (pending kept : List ℕ) (at : ℕ) (held : List ℕ) → IsListVisit old new pending kept at held
    → IsMarkVisit (marks old) (marks new) pending kept at
visits old new pending kept at held p =
    subst (λ b. MatchBool b ((marks new ≡ marks old) × (kept ≡ pending)) ((marks new ≡ set (marks old) at true) × (kept ≡ pending ++ at ∷ []))) (sym (mark_at old at))
    (by (is_some (get_or old at None)) p)
  where
    by : (b : Bool) → MatchBool b ((new ≡ old) × (kept ≡ pending)) ((new ≡ set old at (Some held)) × (kept ≡ pending ++ at ∷ []))
        → MatchBool b ((marks new ≡ marks old) × (kept ≡ pending)) ((marks new ≡ set (marks old) at true) × (kept ≡ pending ++ at ∷ []))
    by true w = (ap marks w.0, w.1)
    by false w = (ap marks w.0 ∙ map-set is_some old at (Some held), w.1)

-- ---- one item on

behind_same : (s : Service) (r : ℕ) (held : List ℕ) → (s ≡ service.GetResource → is_in r held ≡ false) → list_behind s r held ≡ held_behind s r held
behind_same service.GetResource r held free = ap (λ b. cond b held (held ++ r ∷ [])) (free refl)
behind_same service.ReleaseResource r held free = refl
behind_same _ r held free = refl

after_same : (o : Op) (held : List ℕ) → ((call : Call) → o ≡ op.Serve call → call.service ≡ service.GetResource → is_in call.object held ≡ false)
    → list_after o held ≡ held_after o held
after_same (op.Serve call) held free = behind_same call.service call.object held (free call refl)
after_same _ held free = refl

way_keeps : (o : Op) (k : ℕ) (held : List ℕ) → way o ≡ Some k → list_after o held ≡ held
way_keeps (op.Branch kind a b l) k held e = refl
way_keeps (op.Jump l) k held e = refl
way_keeps _ k held e = absurd cc

-- what is held where an item of a body with right lists goes on
pub held_on : (g : Func) → HasRightLists g → (i j : ℕ) → IsPathStep g i j → list_after (item_of g i).op (held_list_at g i) ≡ held_list_at g j
held_on g right i j (inl a) =
    let l = goes_from_inside g i j (inl a) in
    let next = a.1 in
    let up : suc i ≡ j = omega (arith, next) in
    after_same (item_of g i).op (held_list_at g i) (λ call e s. right.taking i call l e s)
    ∙ sym (held_falls g right i a.0) ∙ ap (held_list_at g) up
held_on g right i j (inr a) =
    let l = goes_from_inside g i j (inr a) in
    way_keeps (item_of g i).op a.0 (held_list_at g i) a.1 ∙ sym (held_turns g right i a.0 l a.1) ∙ ap (held_list_at g) (sym a.2)

-- ---- lists

pub placed_lists : (P : ℕ → List ℕ → Type 0) (old new : PlaceLists) (pending kept : List ℕ) (at : ℕ) (held : List ℕ)
    → IsListVisit old new pending kept at held → (is_some (get_or old at None) ≡ false → P at held)
    → ((i : ℕ) (list : List ℕ) → get_or old i None ≡ Some list → P i list)
    → (i : ℕ) (list : List ℕ) → get_or new i None ≡ Some list → P i list
placed_lists P old new pending kept at held p own before i list e = by (is_some (get_or old at None)) refl p
  where
    by : (b : Bool) → is_some (get_or old at None) ≡ b → MatchBool b ((new ≡ old) × (kept ≡ pending)) ((new ≡ set old at (Some held)) × (kept ≡ pending ++ at ∷ []))
        → P i list
    by true t w = before i list (sym (ap (λ (x : PlaceLists). get_or x i None) w.0) ∙ e)
    by false t w =
        let there : get_or (set old at (Some held)) i None ≡ Some list = sym (ap (λ (x : PlaceLists). get_or x i None) w.0) ∙ e in
        ⊎_elim
        (λ same. ⊎_elim
        (λ inside.
        let here : Some held ≡ Some list =
        sym (get_or-set_same old at (Some held) None inside)
        ∙ ap (λ (x : ℕ). get_or (set old at (Some held)) x None) (sym same) ∙ there in
        let is : held ≡ list = cc in
        subst (λ (x : ℕ). P x list) (sym same) (subst (P at) is (own t)))
        (λ past.
        let none : None ≡ Some list =
        sym (get_or_past (set old at (Some held)) i None (let n = length-set old at (Some held) in omega (arith, n, past, same))) ∙ there in
        absurd cc)
        (cases_lt at (length old)))
        (λ differ. before i list (sym (get_or-set_other old at i (Some held) None differ) ∙ there))
        (cases_eq i at)

-- an item of the body and its list, and the list behind it
pub record Leaving (f : Func) (lists : PlaceLists) (x : ℕ) (behind : List ℕ) : Type 0 where
  pub inside : x < length f.items
  pub marked : is_some (get_or lists x None) ≡ true
  pub is : behind ≡ list_after (item_of f x).op (list_at lists x)

pub listed : (o : Option (List ℕ)) → is_some o ≡ true → o ≡ Some (list_or o)
listed None e = absurd (false≢true e)
listed (Some held) e = refl

-- the list that is given to the place where it goes on is the one that is held there
pub leaves_true : (f : Func) (lists : PlaceLists) (x j : ℕ) (behind : List ℕ) → Leaving f lists x behind → AreTrueLists f lists → IsPathStep f x j
    → (g : Func) → bare_func f ≡ bare_func g → HasRightLists g → behind ≡ held_list_at g j
leaves_true f lists x j behind leaving all goes g same right =
    let here : list_at lists x ≡ held_list_at g x = all g same right x (list_at lists x) (listed (get_or lists x None) leaving.marked) in
    leaving.is ∙ ap (list_after (item_of f x).op) here
    ∙ ap (λ (y : Item). list_after y.op (held_list_at g x)) (item_same f g same x)
    ∙ held_on g right x j (goes_same f g same x j goes)

-- a visit from there keeps the lists true
pub visit_true : (f : Func) (lists old new : PlaceLists) (pending kept : List ℕ) (x at : ℕ) (behind : List ℕ)
    → Leaving f lists x behind → AreTrueLists f lists → IsPathStep f x at ⊎ (x ≡ at) → ((i : ℕ) → is_some (get_or lists i None) ≡ true → is_some (get_or old i None) ≡ true)
    → IsListVisit old new pending kept at behind → AreTrueLists f old → AreTrueLists f new
visit_true f lists old new pending kept x at behind leaving true_lists goes keeps placed before g same right =
    placed_lists (λ i list. list ≡ held_list_at g i) old new pending kept at behind placed own (before g same right)
  where
    own : is_some (get_or old at None) ≡ false → behind ≡ held_list_at g at
    own fresh = ⊎_elim
        (λ w. leaves_true f lists x at behind leaving true_lists w g same right)
        (λ itself. absurd (true≢false (sym (keeps at (subst (λ (y : ℕ). is_some (get_or lists y None) ≡ true) itself leaving.marked)) ∙ fresh)))
        goes

-- ---- resources

pub all_none : {X : Type 0} (P : X → Type 0) → All P []
all_none P k d l = absurd (omega (arith, l))

tail_of : {X : Type 0} (P : X → Type 0) (x : X) (xs : List X) → All P (x ∷ xs) → All P xs
tail_of P x xs h k d l = h (suc k) d (omega (arith, l))

onto : {X : Type 0} (P : X → Type 0) (x : X) (xs : List X) → P x → All P xs → All P (x ∷ xs)
onto P x xs h t zero d l = h
onto P x xs h t (suc k) d l = t k d (omega (arith, l))

pub all_but_last : (P : ℕ → Type 0) (xs : List ℕ) → All P xs → All P (without_last xs)
all_but_last P [] h = h
all_but_last P (x ∷ []) h = all_none P
all_but_last P (x ∷ y ∷ ys) h = onto P x (without_last (y ∷ ys)) (h 0 x (omega arith)) (all_but_last P (y ∷ ys) (tail_of P x (y ∷ ys) h))

behind_known : (P : ℕ → Type 0) (s : Service) (r : ℕ) (held : List ℕ) → (s ≡ service.GetResource → P r) → All P held → All P (list_behind s r held)
behind_known P service.GetResource r held is h = by (is_in r held)
  where
    by : (b : Bool) → All P (cond b held (held ++ r ∷ []))
    by true = h
    by false = All-push P held r h (is refl)
behind_known P service.ReleaseResource r held is h = all_but_last P held h
behind_known P _ r held is h = h

pub got : (config : Config) (app : App) (f : Func) (call : Call) → IsOp config app f (op.Serve call) → call.service ≡ service.GetResource → IsResource config call.object
got config app f call is e =
    let P : Service → Type 0 = λ s. AreOperands config s call.object call.mask in
    (subst P e is).0

pub after_known : (config : Config) (app : App) (f : Func) (o : Op) (held : List ℕ) → IsOp config app f o → All (IsResource config) held
    → All (IsResource config) (list_after o held)
after_known config app f (op.Serve call) held is h = behind_known (IsResource config) call.service call.object held (got config app f call is) h
after_known config app f _ held is h = h

-- ---- a turn of the loop

pub placed_keeps : (old new : PlaceLists) (pending kept : List ℕ) (at : ℕ) (held : List ℕ) → IsListVisit old new pending kept at held
    → (i : ℕ) → is_some (get_or old i None) ≡ true → is_some (get_or new i None) ≡ true
placed_keeps old new pending kept at held p i m = by (is_some (get_or old at None)) refl p
  where
    by : (b : Bool) → is_some (get_or old at None) ≡ b → MatchBool b ((new ≡ old) × (kept ≡ pending)) ((new ≡ set old at (Some held)) × (kept ≡ pending ++ at ∷ []))
        → is_some (get_or new i None) ≡ true
    by true e w = ap (λ (x : PlaceLists). is_some (get_or x i None)) w.0 ∙ m
    by false e w = ap (λ (x : PlaceLists). is_some (get_or x i None)) w.0 ∙ ⊎_elim
        (λ same. absurd (true≢false (sym m ∙ ap (λ (x : ℕ). is_some (get_or old x None)) same ∙ e)))
        (λ differ. ap is_some (get_or-set_other old at i (Some held) None differ) ∙ m)
        (cases_eq i at)

-- what is known as item x is taken from the places that are kept
pub record Turn (f : Func) (lists mid new : PlaceLists) (pending rest more kept : List ℕ) (x : ℕ) (behind : List ℕ) : Type 0 where
  pub spreading : AreSpreading f lists pending
  pub taken_from : pending ≡ rest ++ x ∷ []
  pub behind_is : behind ≡ list_after (item_of f x).op (list_at lists x)
  pub next : IsListVisit lists mid rest more (next_of f x) behind
  pub jump : IsListVisit mid new more kept (jump_of f x) behind

pub turned : (f : Func) (lists mid new : PlaceLists) (pending rest more kept : List ℕ) (x : ℕ) (behind : List ℕ)
    → Turn f lists mid new pending rest more kept x behind → AreSpreading f new kept
turned f lists mid new pending rest more kept x behind t =
    let s = t.spreading in
    let o = taken f (marks lists) pending rest x t.taken_from s.searching in
    let there : is_some (get_or lists x None) ≡ true = sym (mark_at lists x) ∙ o.here in
    let leaving : Leaving f lists x behind = record { inside = o.known; marked = there; is = t.behind_is } in
    let mid_true = visit_true f lists lists mid rest more x (next_of f x) behind leaving s.true_lists (next_goes f x (next_of f x) refl) (λ i m. m) t.next s.true_lists in
    record {
      searching = gone_on f (marks lists) (marks mid) (marks new) rest more kept x (next_inside f x o.known) (jump_inside f x o.known)
          (visits lists mid rest more (next_of f x) behind t.next) (visits mid new more kept (jump_of f x) behind t.jump) o;
      true_lists = visit_true f lists mid new more kept x (jump_of f x) behind leaving s.true_lists (jump_goes f x (jump_of f x) refl)
          (placed_keeps lists mid rest more (next_of f x) behind t.next) t.jump mid_true;
      resources = λ config app ops.
          let here : All (IsResource config) (list_at lists x) = s.resources config app ops x (list_at lists x) (listed (get_or lists x None) there) in
          let known : All (IsResource config) behind =
          subst (All (IsResource config)) (sym t.behind_is) (after_known config app f (item_of f x).op (list_at lists x) (ops x o.known) here) in
          placed_lists (λ i list. All (IsResource config) list) mid new more kept (jump_of f x) behind t.jump (λ _. known)
          (placed_lists (λ i list. All (IsResource config) list) lists mid rest more (next_of f x) behind t.next (λ _. known) (s.resources config app ops));
    }

pub taken_inside : (f : Func) (lists : PlaceLists) (pending rest : List ℕ) (x : ℕ) → pending ≡ rest ++ x ∷ []
    → AreSpreading f lists pending → (x < length f.items) × (length lists ≡ length f.items)
taken_inside f lists pending rest x e s =
    let o = taken f (marks lists) pending rest x e s.searching in (o.known, sym (length-map lists is_some) ∙ o.count)

pub spread_begun : (f : Func) (lists new : PlaceLists) (pending kept : List ℕ) → length lists ≡ length f.items → 0 < length f.items
    → ((i : ℕ) → get_or lists i None ≡ None) → pending ≡ [] → IsListVisit lists new pending kept 0 [] → AreSpreading f new kept
spread_begun f lists new pending kept count some clear none placed =
    let n = length-map lists is_some in
    let no_list : (i : ℕ) (list : List ℕ) → get_or lists i None ≡ Some list → ⊥ = λ i list e. let w : None ≡ Some list = sym (clear i) ∙ e in absurd cc in
    record {
      searching = begun f (marks lists) (marks new) pending kept (n ∙ count) (omega (arith, n, count, some))
          (λ i l. mark_at lists i ∙ ap is_some (clear i)) none (visits lists new pending kept 0 [] placed);
      true_lists = λ g same right. placed_lists (λ i list. list ≡ held_list_at g i) lists new pending kept 0 [] placed (λ _. sym (held_first g right))
          (λ i list e. absurd (no_list i list e));
      resources = λ config app ops. placed_lists (λ i list. All (IsResource config) list) lists new pending kept 0 [] placed (λ _. all_none (IsResource config))
          (λ i list e. absurd (no_list i list e));
    }

-- where nothing is kept any more, all that is reached has its list
pub spread_done : (f : Func) (lists : PlaceLists) (pending : List ℕ) → length pending ≡ 0 → AreSpreading f lists pending → AreLists f lists
spread_done f lists pending none s = record {
  count = sym (length-map lists is_some) ∙ s.searching.count;
  reached = λ i l r. (ended f (marks lists) pending none s.searching i).1 r;
  true_lists = s.true_lists;
  resources = s.resources;
}

-- ---- the cost of a visit

pub visit_costs : (old new : List Bool) (pending kept : List ℕ) (at : ℕ) → at < length old → IsMarkVisit old new pending kept at
    → 2 * unmarked_count new + length kept ≤ 2 * unmarked_count old + length pending
visit_costs old new pending kept at l v = by (get_or old at false) refl v
  where
    by : (b : Bool) → get_or old at false ≡ b → MatchBool b ((new ≡ old) × (kept ≡ pending)) ((new ≡ set old at true) × (kept ≡ pending ++ at ∷ []))
        → 2 * unmarked_count new + length kept ≤ 2 * unmarked_count old + length pending
    by true e w = let a = ap unmarked_count w.0 in let b = ap (λ x. length x) w.1 in omega (arith, a, b)
    by false e w =
        let a = ap unmarked_count w.0 in
        let b = ap (λ x. length x) w.1 in
        let c = length_push pending at in
        let d = sum_by-set (λ b. cond (not b) 1 0) old at true false l in
        let f = ap {B = ℕ} (λ b. cond (not b) 1 0) e in
        omega (arith, a, b, c, d, f)
