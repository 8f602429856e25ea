-- The one list of services: each stands in it at its number.
use Rattle.std.proofs.Common.{◌≡◌, ◌∙◌, ℕ, zero, suc, ◌+◌, ◌<◌, ◌≤◌, List, [], ◌∷◌, Bool, true, length, Some, refl, sym, ap, subst, arith}
use Rattle.std.specs.Prelude.{◌==◌, ◌&&◌, Option, None, IfNone, IfSome, slice_get}
use Rattle.std.specs.List.{list_all}
use Rattle.std.proofs.lemmas.Bool.{and_parts, eqb-true}
use Rattle.sloth_base.specs.declared.service.ObjectKind.{ObjectKind}
use Rattle.sloth_base.specs.declared.service.ObjectKind.TheVariants as object
use Rattle.sloth_base.specs.declared.service.Service.{Service}
use Rattle.sloth_base.specs.declared.service.Service.TheVariants as service
use Rattle.sloth_base.specs.ServiceCodes.{code_of, services, service_of, is_service, service_name, service_named, IsObjectNumber}

-- a service is that of its number
pub of_code : (s : Service) → service_of (code_of s) ≡ Some s
of_code service.ActivateTask = refl
of_code s = refl

some_same : (a b : Service) → Some a ≡ Some b → a ≡ b
some_same a b e = cc

-- services of one number are the same
pub same_code : (a b : Service) → code_of a ≡ code_of b → a ≡ b
same_code a b e = some_same a b (sym (of_code a) ∙ (ap service_of e ∙ of_code b))

pub same_service : (a b : Service) → is_service a b ≡ true → a ≡ b
same_service a b e = same_code a b (eqb-true (code_of a) (code_of b) e)

-- a place in a list holds an item that is there
place_within : (xs : List Service) (k : ℕ) (s : Service) → slice_get xs k ≡ Some s → k < length xs
place_within [] k s e = absurd cc
place_within (x ∷ xs) zero s e = omega arith
place_within (x ∷ xs) (suc k) s e = let lt = place_within xs k s e in omega (arith, lt)

-- behind a list there is nothing
none_behind : (xs : List Service) (k : ℕ) → slice_get xs k ≡ None → length xs ≤ k
none_behind [] k e = omega arith
none_behind (x ∷ xs) zero e = absurd cc
none_behind (x ∷ xs) (suc k) e = let le = none_behind xs k e in omega (arith, le)

all_at : (test : Service → Bool) (xs : List Service) (k : ℕ) (s : Service) → list_all test xs ≡ true → slice_get xs k ≡ Some s → test s ≡ true
all_at test [] k s h e = absurd cc
all_at test (x ∷ xs) zero s h e = subst (λ y. test y ≡ true) (some_same x s e) (and_parts (test x) (list_all test xs) h).0
all_at test (x ∷ xs) (suc k) s h e = all_at test xs k s (and_parts (test x) (list_all test xs) h).1 e

-- these services have the numbers from a first one on
abbrev are_numbered : ℕ → List Service → Bool
are_numbered first [] = true
are_numbered first (s ∷ rest) = (code_of s == first) && are_numbered (suc first) rest

-- a place in such a list holds the service of its number
numbered_at : (xs : List Service) (first k : ℕ) (s : Service) → are_numbered first xs ≡ true → slice_get xs k ≡ Some s → code_of s ≡ k + first
numbered_at [] first k s h e = absurd cc
numbered_at (x ∷ xs) first zero s h e =
    let is : code_of s ≡ first =
    ap code_of (sym (some_same x s e)) ∙ eqb-true (code_of x) first (and_parts (code_of x == first) (are_numbered (suc first) xs) h).0 in
    omega (arith, is)
numbered_at (x ∷ xs) first (suc k) s h e =
    let is = numbered_at xs (suc first) k s (and_parts (code_of x == first) (are_numbered (suc first) xs) h).1 e in
    omega (arith, is)

-- the service of a number has it
pub of_number : (code : ℕ) (o : Option Service) → o ≡ service_of code → IfSome o (λ s. code_of s ≡ code)
of_number code None e = tt
of_number code (Some s) e = let is = numbered_at services 0 code s refl (sym e) in omega (arith, is)

-- behind the last number there is none
pub no_number : (code : ℕ) (o : Option Service) → o ≡ service_of code → IfNone o (16 ≤ code)
no_number code None e = none_behind services code (sym e)
no_number code (Some s) e = tt

-- a service is that of its name
pub of_name : (s : Service) → service_named (service_name s) ≡ Some s
unfolding service_named
of_name service.ActivateTask = refl
of_name s = refl

-- no object has a number above 32
pub object_number_few : (kind : ObjectKind) (number : ℕ) → IsObjectNumber kind number → number ≤ 32
object_number_few object.Nothing number h = omega (arith, h)
object_number_few object.Task number h = omega (arith, h)
object_number_few object.Resource number h = h
object_number_few object.Alarm number h = omega (arith, h)
