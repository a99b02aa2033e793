-- How many of the records 1 to n pass a test. Assumes nothing.
use Rattle.std.specs.Prelude.{◌≡◌, ℕ, zero, suc, ◌+◌, ◌≤◌, Bool, true, false, cond, ◌||◌, List, [], ◌∷◌, length, ◌==◌, ◌≢◌, nat_eq}
use Rattle.std.proofs.Math.Logic.{⊎_elim}
use Rattle.std.proofs.Math.Path.{refl}
use Rattle.std.proofs.Common.{sym, ap, ap₂, ◌∙◌, add-zero}
use native.Mathlib.Omega.{arith}
use Rattle.std.proofs.lemmas.Bool.{cond-true, cond-false, cases_Bool, cases_eq, both_ways, eq-eqb, ne_eqb, and_parts, and_from, or_from, or_left, or_right}
use Rattle.drive.specs.Search.{some_of}
use Rattle.std.proofs.Math.Bool.{or-false, or_assoc}
use Rattle.pack.specs.Layout.{every_below}
use Rattle.chained_pack.specs.Laws.{Apart}

pub count_to : (ℕ → Bool) → ℕ → ℕ
count_to test zero = 0
count_to test (suc n) = count_to test n + cond (test (n + 1)) 1 0

module _ (test : ℕ → Bool) where
  pub count_none : (n : ℕ) → ((i : ℕ) → test i ≡ false) → count_to test n ≡ 0
  unfolding count_to
  count_none zero none = refl
  count_none (suc n) none =
      omega (arith, count_none n none, cond-false {A = ℕ} (test (n + 1)) 1 0 (none (n + 1)))

  pub count_le : (n : ℕ) → count_to test n ≤ n
  unfolding count_to
  count_le zero = omega arith
  count_le (suc n) =
      ⊎_elim
      (λ yes'. omega (arith, count_le n, cond-true {A = ℕ} (test (n + 1)) 1 0 yes'))
      (λ no'. omega (arith, count_le n, cond-false {A = ℕ} (test (n + 1)) 1 0 no'))
      (cases_Bool (test (n + 1)))

  pub count_every : (n : ℕ) → every_below (λ j. test (j + 1)) n ≡ true → count_to test n ≡ n
  unfolding count_to every_below
  count_every zero all = refl
  count_every (suc n) all =
      let parts = and_parts (every_below (λ j. test (j + 1)) n) (test (n + 1)) all in
      omega (arith, count_every n parts.0, cond-true {A = ℕ} (test (n + 1)) 1 0 parts.1)

  pub every_counted : (n : ℕ) → count_to test n ≡ n → every_below (λ j. test (j + 1)) n ≡ true
  unfolding count_to every_below
  every_counted zero all = refl
  every_counted (suc n) all =
      ⊎_elim
      (λ yes'. and_from (every_below (λ j. test (j + 1)) n) (test (n + 1)) (every_counted n (omega (arith, cond-true {A = ℕ} (test (n + 1)) 1 0 yes'))) yes')
      (λ no'. absurd (omega (arith, count_le n, cond-false {A = ℕ} (test (n + 1)) 1 0 no')))
      (cases_Bool (test (n + 1)))

pub count_same : (M N : ℕ → Bool) (n : ℕ) → ((i : ℕ) → 1 ≤ i → i ≤ n → N i ≡ M i) → count_to N n ≡ count_to M n
unfolding count_to
count_same M N zero same = refl
count_same M N (suc n) same =
    ap₂ (λ (a : ℕ) (b : Bool). a + cond b 1 0) (count_same M N n (λ i low high. same i low (omega arith))) (same (n + 1) (omega arith) (omega arith))

-- one record more
pub count_one : (M N : ℕ → Bool) (n x : ℕ) → 1 ≤ x → x ≤ n → M x ≡ false → N x ≡ true → ((i : ℕ) → (i ≢ x) → N i ≡ M i) → count_to N n ≡ count_to M n + 1
unfolding count_to
count_one M N zero x low high out in' same = absurd (omega arith)
count_one M N (suc n) x low high out in' same =
    ⊎_elim
    (λ e.
    let below = count_same M N n (λ i l h. same i (omega arith)) in
    omega (arith, below, cond-false {A = ℕ} (M (n + 1)) 1 0 (ap M (sym e) ∙ out), cond-true {A = ℕ} (N (n + 1)) 1 0 (ap N (sym e) ∙ in')))
    (λ ne.
    let below = count_one M N n x low (omega arith) out in' same in
    let here : cond {A = ℕ} (N (n + 1)) 1 0 ≡ cond (M (n + 1)) 1 0 = ap (λ (b : Bool). cond b 1 0) (same (n + 1) (λ e. ne (sym e))) in
    omega arith)
    (cases_eq x (n + 1))

-- the records of a list more
pub count_list : (is : List ℕ) (M : ℕ → Bool) (n : ℕ) → Apart is
    → ((x : ℕ) → some_of (nat_eq x) is ≡ true → (1 ≤ x) × (x ≤ n) × (M x ≡ false))
    → count_to (λ j. M j || some_of (nat_eq j) is) n ≡ count_to M n + length is
count_list [] M n apart new =
    count_same M (λ j. M j || false) n (λ i l h. or-false (M i)) ∙ sym (add-zero (count_to M n))
count_list (i ∷ is) M n apart new =
    let here = new i (or_left (i == i) (some_of (nat_eq i) is) (eq-eqb i i refl)) in
    let M' : ℕ → Bool = λ j. M j || nat_eq j i in
    let regroup = count_same (λ j. M' j || some_of (nat_eq j) is) (λ j. M j || (j == i || some_of (nat_eq j) is)) n (λ j l h. sym (or_assoc (M j) (j == i) (some_of (nat_eq j) is))) in
    let rest = count_list is M' n apart.1 (λ x later.
    let old = new x (or_right (x == i) (some_of (nat_eq x) is) later) in
    (old.0, old.1, or_from (M x) (x == i) old.2 (ne_eqb x i (λ e. both_ways (some_of (nat_eq i) is) apart.0 (ap (λ (j : ℕ). some_of (nat_eq j) is) (sym e) ∙ later))))) in
    let one = count_one M M' n i here.0 here.1 here.2 (or_right (M i) (i == i) (eq-eqb i i refl))
    (λ j ne. ap (λ (b : Bool). M j || b) (ne_eqb j i ne) ∙ or-false (M j)) in
    omega (arith, regroup, rest, one)
