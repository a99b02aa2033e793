-- Chains, by the lists of their records. Assumes nothing.
use Rattle.std.specs.Prelude.{◌≡◌, ℕ, zero, suc, ◌+◌, ◌-◌, ◌<◌, ◌≤◌, Bool, true, false, ◌⊎◌, List, [], ◌∷◌, length, Some, None, Option, ◌==◌, ◌≢◌, nat_eq}
use Rattle.std.proofs.Common.{inl, inr, ◌∙◌}
use Rattle.std.proofs.Math.Logic.{⊎_elim}
use Rattle.std.proofs.Math.Path.{refl, sym, ap, subst}
use native.Mathlib.Omega.{arith}
use Rattle.std.proofs.lemmas.Bool.{cond-true, cond-false, cases_Bool, cases_eq, eq-eqb, ne_eqb, eqb-true, false≢true, and_parts, and_from, or_cases, or_left, or_right}
use Rattle.drive.specs.Search.{some_of}
use Rattle.chained_pack.specs.Laws.{Apart}
use Rattle.chained_pack.specs.Chains.{chain_from, end_from, each_of, first_pass, record_below}

pub cases_option : (o : Option ℕ) → (o ≡ None) ⊎ ((x : ℕ) × (o ≡ Some x))
cases_option None = inl refl
cases_option (Some x) = inr (x, refl)

-- lists of records
module _ (test : ℕ → Bool) where
  pub each_at : (is : List ℕ) (x : ℕ) → each_of test is ≡ true → some_of (nat_eq x) is ≡ true → test x ≡ true
  unfolding each_of
  each_at [] x all here = absurd (false≢true here)
  each_at (i ∷ is) x all here =
      let parts = and_parts (test i) (each_of test is) all in
      ⊎_elim (λ e. ap test (eqb-true x i e) ∙ parts.0) (λ later. each_at is x parts.1 later) (or_cases (x == i) (some_of (nat_eq x) is) here)

  pub each_from : (is : List ℕ) → ((x : ℕ) → some_of (nat_eq x) is ≡ true → test x ≡ true) → each_of test is ≡ true
  unfolding each_of
  each_from [] all = refl
  each_from (i ∷ is) all =
      and_from (test i) (each_of test is) (all i (or_left (i == i) (some_of (nat_eq i) is) (eq-eqb i i refl)))
      (each_from is (λ x later. all x (or_right (x == i) (some_of (nat_eq x) is) later)))

  pub first_some : (is : List ℕ) (x : ℕ) → first_pass test is ≡ Some x → (test x ≡ true) × (some_of (nat_eq x) is ≡ true)
  unfolding first_pass
  first_some [] x found = let z : ◌≡◌ {A = ℕ} 0 1 = cc in absurd (omega arith)
  first_some (i ∷ is) x found =
      ⊎_elim
      (λ yes'.
      let here : Some i ≡ Some x = sym (cond-true (test i) (Some i) (first_pass test is) yes') ∙ found in
      let same : i ≡ x = cc in
      (ap test (sym same) ∙ yes', or_left (x == i) (some_of (nat_eq x) is) (eq-eqb x i (sym same))))
      (λ no'.
      let rest = first_some is x (sym (cond-false (test i) (Some i) (first_pass test is) no') ∙ found) in
      (rest.0, or_right (x == i) (some_of (nat_eq x) is) rest.1))
      (cases_Bool (test i))

  pub first_none : (is : List ℕ) (x : ℕ) → first_pass test is ≡ None → some_of (nat_eq x) is ≡ true → test x ≡ false
  unfolding first_pass
  first_none [] x none here = absurd (false≢true here)
  first_none (i ∷ is) x none here =
      ⊎_elim
      (λ yes'.
      let hit : Some i ≡ None = sym (cond-true (test i) (Some i) (first_pass test is) yes') ∙ none in
      let z : ◌≡◌ {A = ℕ} 0 1 = cc in absurd (omega arith))
      (λ no'. ⊎_elim
      (λ e. ap test (eqb-true x i e) ∙ no')
      (λ later. first_none is x (sym (cond-false (test i) (Some i) (first_pass test is) no') ∙ none) later)
      (or_cases (x == i) (some_of (nat_eq x) is) here))
      (cases_Bool (test i))

  pub record_some : (n x : ℕ) → record_below test n ≡ Some x → (test x ≡ true) × (1 ≤ x) × (x ≤ n)
  unfolding record_below
  record_some zero x found = let z : ◌≡◌ {A = ℕ} 0 1 = cc in absurd (omega arith)
  record_some (suc n) x found =
      ⊎_elim
      (λ yes'.
      let here : Some (n + 1) ≡ Some x = sym (cond-true (test (n + 1)) (Some (n + 1)) (record_below test n) yes') ∙ found in
      let same : n + 1 ≡ x = cc in
      (ap test (sym same) ∙ yes', omega arith, omega arith))
      (λ no'.
      let rest = record_some n x (sym (cond-false (test (n + 1)) (Some (n + 1)) (record_below test n) no') ∙ found) in
      (rest.0, rest.1, omega (arith, rest.2)))
      (cases_Bool (test (n + 1)))

  pub record_none : (n x : ℕ) → record_below test n ≡ None → 1 ≤ x → x ≤ n → test x ≡ false
  unfolding record_below
  record_none zero x none low high = absurd (omega arith)
  record_none (suc n) x none low high =
      ⊎_elim
      (λ yes'.
      let hit : Some (n + 1) ≡ None = sym (cond-true (test (n + 1)) (Some (n + 1)) (record_below test n) yes') ∙ none in
      let z : ◌≡◌ {A = ℕ} 0 1 = cc in absurd (omega arith))
      (λ no'. ⊎_elim
      (λ e. ap test e ∙ no')
      (λ ne. record_none n x (sym (cond-false (test (n + 1)) (Some (n + 1)) (record_below test n) no') ∙ none) low (omega arith))
      (cases_eq x (n + 1)))
      (cases_Bool (test (n + 1)))

-- a chain, followed record by record
module _ (next : ℕ → ℕ) where
  pub from_zero : (f : ℕ) → chain_from next f 0 ≡ []
  unfolding chain_from
  from_zero zero = refl
  from_zero (suc f) = refl

  pub from_more : (f i : ℕ) → (i ≢ 0) → chain_from next (suc f) i ≡ i ∷ chain_from next f (next i)
  unfolding chain_from
  from_more f i some = cond-false (i == 0) [] (i ∷ chain_from next f (next i)) (ne_eqb i 0 some)

  pub end_zero : (f : ℕ) → end_from next f 0 ≡ 0
  unfolding end_from
  end_zero zero = refl
  end_zero (suc f) = refl

  pub end_more : (f i : ℕ) → (i ≢ 0) → end_from next (suc f) i ≡ end_from next f (next i)
  unfolding end_from
  end_more f i some = cond-false (i == 0) 0 (end_from next f (next i)) (ne_eqb i 0 some)

  -- a function of what is left of a chain, when s of at most n records were followed
  module _ {Y : Type 0} (F : List ℕ → Y) where
    pub at_more : (n s i : ℕ) → s < n → (i ≢ 0) → F (chain_from next (n - s) i) ≡ F (i ∷ chain_from next (n - (s + 1)) (next i))
    at_more n s i below some =
        let left : n - s ≡ suc (n - (s + 1)) = omega arith in
        ap (λ (f : ℕ). F (chain_from next f i)) left ∙ ap F (from_more (n - (s + 1)) i some)

    pub at_zero : (f i : ℕ) → i ≡ 0 → F (chain_from next f i) ≡ F []
    at_zero f i none = ap (λ (j : ℕ). F (chain_from next f j)) none ∙ ap F (from_zero f)

    pub at_none : (n s i : ℕ) → n ≤ s → F (chain_from next (n - s) i) ≡ F []
    unfolding chain_from
    at_none n s i past =
        let left : n - s ≡ 0 = omega arith in ap (λ (f : ℕ). F (chain_from next f i)) left

  pub length_from : (f i : ℕ) → length (chain_from next f i) ≤ f
  unfolding chain_from
  length_from zero i = omega arith
  length_from (suc f) i =
      ⊎_elim
      (λ e. let none = ap length (at_zero (λ l. l) (suc f) i e) in omega arith)
      (λ ne. let more = ap length (from_more f i ne) in omega (arith, length_from f (next i)))
      (cases_eq i 0)

  -- records of a chain that comes to its end
  same_length : (f g i : ℕ) → end_from next f i ≡ 0 → end_from next g i ≡ 0 → length (chain_from next f i) ≡ length (chain_from next g i)
  unfolding end_from chain_from
  same_length zero g i ef eg = sym (at_zero length g i ef)
  same_length (suc f) zero i ef eg = at_zero length (suc f) i eg
  same_length (suc f) (suc g) i ef eg =
      ⊎_elim
      (λ e. at_zero length (suc f) i e ∙ sym (at_zero length (suc g) i e))
      (λ ne.
      ap length (from_more f i ne)
      ∙ ap suc (same_length f g (next i) (sym (end_more f i ne) ∙ ef) (sym (end_more g i ne) ∙ eg))
      ∙ sym (ap length (from_more g i ne)))
      (cases_eq i 0)

  shorter : (f i x : ℕ) → end_from next f i ≡ 0 → some_of (nat_eq x) (chain_from next f i) ≡ true
      → (g : ℕ) × (end_from next g x ≡ 0) × (length (chain_from next g x) ≤ length (chain_from next f i))
  unfolding chain_from
  shorter zero i x ends here = absurd (false≢true here)
  shorter (suc f) i x ends here =
      ⊎_elim
      (λ e. absurd (false≢true (sym (at_zero (some_of (nat_eq x)) (suc f) i e) ∙ here)))
      (λ ne.
      let more = from_more f i ne in
      ⊎_elim
      (λ e. let same : x ≡ i = eqb-true x i e in (suc f, ap (end_from next (suc f)) same ∙ ends, omega (arith, ap (λ (j : ℕ). length (chain_from next (suc f) j)) same)))
      (λ later.
      let rest = shorter f (next i) x (sym (end_more f i ne) ∙ ends) later in
      (rest.0, rest.1, omega (arith, ap length more, rest.2)))
      (or_cases (x == i) (some_of (nat_eq x) (chain_from next f (next i))) (sym (ap (some_of (nat_eq x)) more) ∙ here)))
      (cases_eq i 0)

  -- a chain that comes to its end never returns to a record
  no_return : (f i : ℕ) → end_from next (suc f) i ≡ 0 → (i ≢ 0) → some_of (nat_eq i) (chain_from next f (next i)) ≡ false
  no_return f i ends ne =
      ⊎_elim
      (λ again.
      let back = shorter f (next i) i (sym (end_more f i ne) ∙ ends) again in
      let same = same_length (suc f) back.0 i ends back.1 in
      absurd (omega (arith, ap length (from_more f i ne), same, back.2)))
      (λ never. never)
      (cases_Bool (some_of (nat_eq i) (chain_from next f (next i))))

  pub apart_from : (f i : ℕ) → end_from next f i ≡ 0 → Apart (chain_from next f i)
  unfolding chain_from
  apart_from zero i ends = tt
  apart_from (suc f) i ends =
      ⊎_elim
      (λ e. subst Apart (sym (at_zero (λ l. l) (suc f) i e)) tt)
      (λ ne. subst Apart (sym (from_more f i ne)) (no_return f i ends ne, apart_from f (next i) (sym (end_more f i ne) ∙ ends)))
      (cases_eq i 0)
