-- Measuring a chain record by record. Assumes nothing.
use Rattle.std.proofs.Common.{◌≡◌, ℕ, suc, ◌+◌, ◌-◌, ◌%◌, ◌<◌, ◌≤◌, Bool, true, false, ◌&&◌, eqb, leb, length, sym, ap, ◌∙◌, ap₂, ⊎_elim, arith}
use Rattle.std.proofs.lemmas.Bool.{cases_lt, eq-eqb, ne_eqb, le-leb, lt-leb, and_left, and_right, and_from}
use Rattle.chained_pack.specs.Chains.{Directory, chain_from, end_from, each_of, chain_of, belongs, chain_clear}
use Rattle.chained_pack.proofs.Walks.{at_more, at_zero, end_more, end_zero}

module _ (d : Directory) (k : ℕ) where
  -- what is left to be clear, from an index on
  pub clear_from : ℕ → ℕ → Bool
  clear_from f i = leb i d.count && each_of (belongs d k) (chain_from d.next f i) && eqb (end_from d.next f i) 0

  -- s records were measured, and index i comes next
  pub record Measured (s i : ℕ) : Type 0 where
    pub left : clear_from (d.count - s) i ≡ chain_clear d k
    pub far : s + length (chain_from d.next (d.count - s) i) ≡ length (chain_of d k)

  pub at_first : Measured 0 (d.first k)
  unfolding clear_from
  at_first =
      let all : d.count - 0 ≡ d.count = omega arith in
      record {
        left = ap (λ (f : ℕ). leb (d.first k) d.count && each_of (belongs d k) (chain_from d.next f (d.first k)) && eqb (end_from d.next f (d.first k)) 0) all;
        far = omega (arith, ap (λ (f : ℕ). length (chain_from d.next f (d.first k))) all);
      }

  end_at_more : (n s i : ℕ) → s < n → (i ≡ 0 → ⊥) → end_from d.next (n - s) i ≡ end_from d.next (n - (s + 1)) (d.next i)
  end_at_more n s i below some =
      let left : n - s ≡ suc (n - (s + 1)) = omega arith in
      ap (λ (f : ℕ). end_from d.next f i) left ∙ end_more d.next (n - (s + 1)) i some

  module _ (s i : ℕ) (m : Measured s i) where
    pub measured_all : i ≡ 0 → (chain_clear d k ≡ true) × (s ≡ length (chain_of d k))
    unfolding clear_from each_of
    measured_all e =
        let f = d.count - s in
        let clear : clear_from f i ≡ true =
        and_from (leb i d.count && each_of (belongs d k) (chain_from d.next f i)) (eqb (end_from d.next f i) 0)
        (and_from (leb i d.count) (each_of (belongs d k) (chain_from d.next f i)) (le-leb i d.count (omega arith)) (at_zero d.next (each_of (belongs d k)) f i e))
        (eq-eqb (end_from d.next f i) 0 (ap (end_from d.next f) e ∙ end_zero d.next f)) in
        (sym m.left ∙ clear, omega (arith, m.far, at_zero d.next length f i e))

    module _ (some : i ≡ 0 → ⊥) where
      pub past_use : d.count < i → chain_clear d k ≡ false
      unfolding clear_from
      past_use past =
          let f = d.count - s in
          sym m.left
          ∙ and_left (leb i d.count && each_of (belongs d k) (chain_from d.next f i)) (eqb (end_from d.next f i) 0)
          (and_left (leb i d.count) (each_of (belongs d k) (chain_from d.next f i)) (lt-leb i d.count past))

      pub too_many : d.count ≤ s → chain_clear d k ≡ false
      unfolding clear_from end_from
      too_many end =
          let f = d.count - s in
          let none : f ≡ 0 = omega arith in
          sym m.left
          ∙ and_right (leb i d.count && each_of (belongs d k) (chain_from d.next f i)) (eqb (end_from d.next f i) 0)
          (ne_eqb (end_from d.next f i) 0 (λ e. some (sym (ap (λ (g : ℕ). end_from d.next g i) none) ∙ e)))

      pub wrong_chain : (d.track i % 64 ≡ k → ⊥) → chain_clear d k ≡ false
      unfolding clear_from each_of
      wrong_chain wrong =
          ⊎_elim
          (λ below.
          let f = d.count - s in
          let rest = chain_from d.next (d.count - (s + 1)) (d.next i) in
          sym m.left
          ∙ and_left (leb i d.count && each_of (belongs d k) (chain_from d.next f i)) (eqb (end_from d.next f i) 0)
          (and_right (leb i d.count) (each_of (belongs d k) (chain_from d.next f i))
          (at_more d.next (each_of (belongs d k)) d.count s i below some
          ∙ and_left (belongs d k i) (each_of (belongs d k) rest)
          (and_left (eqb (d.track i % 64) k) (leb (d.next i) d.count) (ne_eqb (d.track i % 64) k wrong)))))
          too_many
          (cases_lt s d.count)

      pub measured_more : s < d.count → i ≤ d.count → d.track i % 64 ≡ k → Measured (s + 1) (d.next i)
      unfolding clear_from each_of
      measured_more below within own =
          let f = d.count - s in
          let rest = chain_from d.next (d.count - (s + 1)) (d.next i) in
          let each : each_of (belongs d k) (chain_from d.next f i) ≡ (leb (d.next i) d.count && each_of (belongs d k) rest) =
          at_more d.next (each_of (belongs d k)) d.count s i below some
          ∙ ap (λ (b : Bool). (b && leb (d.next i) d.count) && each_of (belongs d k) rest) (eq-eqb (d.track i % 64) k own) in
          let step : clear_from f i ≡ clear_from (d.count - (s + 1)) (d.next i) =
          ap₂ (λ (a b : Bool). a && b)
          (ap₂ (λ (a b : Bool). a && b) (le-leb i d.count within) each)
          (ap (λ (j : ℕ). eqb j 0) (end_at_more d.count s i below some)) in
          record {
            left = sym step ∙ m.left;
            far = omega (arith, m.far, at_more d.next length d.count s i below some);
          }
