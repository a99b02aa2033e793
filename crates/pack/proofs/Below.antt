-- A test at each number below a bound. Assumes nothing.
use Rattle.std.proofs.Common.{◌≡◌, ℕ, zero, suc, ◌+◌, ◌<◌, Bool, true, false, ◌&&◌, sym, refl, ap, ◌∙◌, ⊎_elim, not-suc-le-zero, add-one, arith}
use Rattle.std.proofs.lemmas.Bool.{and_left, and_right, and_from, and_parts, cases_eq}
use Rattle.pack.specs.Layout.{every_below}

module _ (test : ℕ → Bool) where
  pub every_none : every_below test 0 ≡ true
  unfolding every_below
  every_none = refl

  pub every_step : (n : ℕ) → every_below test (n + 1) ≡ (every_below test n && test n)
  unfolding every_below
  every_step n = ap (every_below test) (add-one n)

  pub every_more : (n : ℕ) → every_below test n ≡ true → test n ≡ true → every_below test (n + 1) ≡ true
  unfolding every_below
  every_more n all here = ap (every_below test) (add-one n) ∙ and_from (every_below test n) (test n) all here

  -- one that fails
  pub every_fails : (n i : ℕ) → i < n → test i ≡ false → every_below test n ≡ false
  unfolding every_below
  every_fails zero i below fails = absurd (not-suc-le-zero below)
  every_fails (suc n) i below fails =
      ⊎_elim
      (λ e. and_right (every_below test n) (test n) (ap test (sym e) ∙ fails))
      (λ ne. and_left (every_below test n) (test n) (every_fails n i (omega arith) fails))
      (cases_eq i n)

  -- what the test says of each
  pub every_at : (n i : ℕ) → every_below test n ≡ true → i < n → test i ≡ true
  unfolding every_below
  every_at zero i all below = absurd (not-suc-le-zero below)
  every_at (suc n) i all below =
      let parts = and_parts (every_below test n) (test n) all in
      ⊎_elim (λ e. ap test e ∙ parts.1) (λ ne. every_at n i parts.0 (omega arith)) (cases_eq i n)

  pub every_from : (n : ℕ) → ((i : ℕ) → i < n → test i ≡ true) → every_below test n ≡ true
  unfolding every_below
  every_from zero each = refl
  every_from (suc n) each =
      and_from (every_below test n) (test n) (every_from n (λ i below. each i (omega arith))) (each n (omega arith))
