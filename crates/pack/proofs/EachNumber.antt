-- A test of each number of a range, taken one after the other. Assumes nothing.
use Rattle.std.specs.Prelude.{◌≡◌, ℕ, ◌+◌, ◌-◌, ◌<◌, Bool, true, false, Option, Some, None, option_map, IfSome, IsSomeAnd, MatchBool, IsTrue}
use denote.Param.Members.{Mut, Called}
use Rattle.std.specs.Iterator.Runs.{Run, ItemsCountUp, AllItemsGive, AnyItemGives, CallKeepsClosure}
use Rattle.std.proofs.Common.{sym, arith}
use Rattle.pack.specs.Layout.{every_below}
use Rattle.pack.proofs.Below.{every_from, every_fails}

if_some : {A : Type 0} (P : A → Type 0) (o : Option A) → IsSomeAnd o P → IfSome o P
if_some P None some = absurd some
if_some P (Some x) some = some

-- what the test says of the number a + k is said at k
module _ {S F : Type 0} {steps : S → Option ℕ → S → Type 0} (g : Mut F (ℕ × Unit {0}) Bool) (f : F) (p : Run steps) (a b : ℕ) (test : ℕ → Bool)
    (counts : ItemsCountUp p a b) (keeps : CallKeepsClosure g f)
    (tells : (k x : ℕ) (r : Bool) → x ≡ a + k → x < b → Called g f (x, tt) r f → r ≡ test k) where
  told_at : (k : ℕ) (o : Option ℕ) (r : Bool) → option_map (λ y. y) o ≡ Some (a + k) → k < b - a → IfSome o (λ x. Called g f (x, tt) r f) → r ≡ test k
  told_at k None r some below told = cc
  told_at k (Some x) r some below told = let e : x ≡ a + k = cc in tells k x r e (omega arith) told

  pub each_number : (r : Bool) → MatchBool r (IsTrue p.whole × AllItemsGive p g f true) (AnyItemGives p g f false) → r ≡ every_below test (b - a)
  each_number true told =
      sym (every_from test (b - a) (λ k below. sym (told_at k (p.at k) true (counts.3 k (omega (arith, counts.1 told.0))) below (told.1 keeps k))))
  each_number false told =
      let some = told keeps in
      sym (every_fails test (b - a) some.0 (omega (arith, counts.0))
      (sym (told_at some.0 (p.at some.0) false (counts.3 some.0 some.1) (omega (arith, counts.0)) (if_some (λ x. Called g f (x, tt) false f) (p.at some.0) some.2))))
