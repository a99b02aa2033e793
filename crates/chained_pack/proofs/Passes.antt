-- Tests of the records of a chain, each taken with its front. Assumes nothing.
use Rattle.std.specs.Prelude.{◌≡◌, ℕ, zero, suc, ◌-◌, ◌<◌, Bool, true, false, List, [], ◌∷◌, map, length, Some, None, Option, option_map, MatchOption, MatchBool, ◌≢◌}
use Rattle.std.specs.List.{AllWithin, HoldsAt}
use Rattle.std.proofs.Common.{sym, refl, ap, ◌∙◌, arith}
use Rattle.std.proofs.lemmas.Bool.{cond-true, cond-false, and_left, and_right, and_from}
use Rattle.chained_pack.specs.Chains.{chain_from, each_of, first_pass}
use Rattle.chained_pack.specs.Format.{head_of, directory, records_from}
use Rattle.chained_pack.specs.declared.layout.RecordHead.{RecordHead}
use Rattle.chained_pack.proofs.Walks.{from_more, at_zero}

abbrev pub with_heads : List ℕ → List ℕ → List (ℕ × RecordHead)
with_heads b is = map (λ j. (j, head_of b j)) is

-- what is left of a chain, at its end and at a record
pub records_none : (b : List ℕ) (most i : ℕ) → i ≡ 0 → records_from b most i ≡ []
records_none b most i none = at_zero (directory b).next (map (λ j. (j, head_of b j))) most i none

pub records_past : (b : List ℕ) (most i : ℕ) → most ≡ 0 → records_from b most i ≡ []
unfolding chain_from
records_past b most i none = ap (λ (f : ℕ). with_heads b (chain_from (directory b).next f i)) none

pub records_more : (b : List ℕ) (most i : ℕ) → 0 < most → (i ≢ 0) → records_from b most i ≡ (i, head_of b i) ∷ records_from b (most - 1) ((directory b).next i)
records_more b most i some more =
    let left : most ≡ suc (most - 1) = omega arith in
    ap (λ (f : ℕ). with_heads b (chain_from (directory b).next f i)) left ∙ ap (with_heads b) (from_more (directory b).next (most - 1) i more)

module _ (b : List ℕ) (T : ℕ × RecordHead → Bool) (test : ℕ → Bool) (same : (j : ℕ) → T (j, head_of b j) ≡ test j) where
  all_fail : (is : List ℕ) → AllWithin (λ x. T x ≡ false) (with_heads b is) 0 (length (with_heads b is)) → first_pass test is ≡ None
  unfolding first_pass
  all_fail [] none = refl
  all_fail (i ∷ is) none =
      cond-false (test i) _ _ (sym (same i) ∙ none 0 (i, head_of b i) (omega arith) (omega arith))
      ∙ all_fail is (λ k d low high. none (suc k) d (omega arith) (omega arith))

  first_hit : (is : List ℕ) (x : ℕ × RecordHead) (i : ℕ) → T x ≡ true → i < length (with_heads b is) → HoldsAt (λ y. y ≡ x) (with_heads b is) i
      → AllWithin (λ y. T y ≡ false) (with_heads b is) 0 i → first_pass test is ≡ Some x.0
  unfolding first_pass
  first_hit [] x i hit low at before = absurd (omega arith)
  first_hit (j ∷ js) x zero hit low at before =
      let here : (j, head_of b j) ≡ x = at x in
      cond-true (test j) _ _ (sym (same j) ∙ ap T here ∙ hit) ∙ ap (λ (y : ℕ × RecordHead). Some y.0) here
  first_hit (j ∷ js) x (suc i) hit low at before =
      cond-false (test j) _ _ (sym (same j) ∙ before 0 (j, head_of b j) (omega arith) (omega arith))
      ∙ first_hit js x i hit (omega arith) at (λ k d l h. before (suc k) d (omega arith) (omega arith))

  pub found_first : (is : List ℕ) (r : Option (ℕ × RecordHead))
      → MatchOption r (AllWithin (λ x. T x ≡ false) (with_heads b is) 0 (length (with_heads b is)))
      (λ x. (T x ≡ true) × (i : ℕ) × (i < length (with_heads b is)) × HoldsAt (λ y. y ≡ x) (with_heads b is) i × AllWithin (λ y. T y ≡ false) (with_heads b is) 0 i)
      → option_map (λ x. x.0) r ≡ first_pass test is
  found_first is None none = sym (all_fail is none)
  found_first is (Some x) some = sym (first_hit is x some.1 some.0 some.2 some.3 some.4)

  all_pass : (is : List ℕ) → AllWithin (λ x. T x ≡ true) (with_heads b is) 0 (length (with_heads b is)) → each_of test is ≡ true
  unfolding each_of
  all_pass [] all = refl
  all_pass (i ∷ is) all =
      and_from (test i) (each_of test is) (sym (same i) ∙ all 0 (i, head_of b i) (omega arith) (omega arith))
      (all_pass is (λ k d low high. all (suc k) d (omega arith) (omega arith)))

  one_fails : (is : List ℕ) (k : ℕ) → k < length (with_heads b is) → HoldsAt (λ x. T x ≡ false) (with_heads b is) k → each_of test is ≡ false
  unfolding each_of
  one_fails [] k low at = absurd (omega arith)
  one_fails (i ∷ is) zero low at = and_left (test i) (each_of test is) (sym (same i) ∙ at (i, head_of b i))
  one_fails (i ∷ is) (suc k) low at = and_right (test i) (each_of test is) (one_fails is k (omega arith) at)

  pub each_passes : (is : List ℕ) (r : Bool)
      → MatchBool r (AllWithin (λ x. T x ≡ true) (with_heads b is) 0 (length (with_heads b is)))
      ((k : ℕ) × (k < length (with_heads b is)) × HoldsAt (λ x. T x ≡ false) (with_heads b is) k)
      → r ≡ each_of test is
  each_passes is true all = sym (all_pass is all)
  each_passes is false some = sym (one_fails is some.0 some.1 some.2)
