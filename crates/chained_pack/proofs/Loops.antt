-- A chain that does not come to its end passes a record twice. Assumes nothing.
use Rattle.std.proofs.Common.{◌≡◌, ℕ, zero, suc, ◌+◌, ◌≤◌, Bool, true, false, ◌||◌, eqb, length, sym, refl, ap, ◌∙◌, subst, ⊎_elim, arith}
use Rattle.std.proofs.lemmas.Bool.{cases_eq, eqb-true, false≢true, or_cases}
use Rattle.drive.specs.Search.{some_of}
use Rattle.chained_pack.specs.Chains.{Directory, chain_from, end_from}
use Rattle.chained_pack.specs.Laws.{InUse, Apart, Loopless}
use Rattle.chained_pack.proofs.Counting.{count_none, count_le, count_list}
use Rattle.chained_pack.proofs.Walks.{at_zero, from_more, end_zero, end_more, apart_from}

module _ (next : ℕ → ℕ) where
  end_stays : (f i : ℕ) → end_from next f i ≡ 0 → end_from next (suc f) i ≡ 0
  unfolding end_from
  end_stays zero i ends = ap (end_from next 1) ends
  end_stays (suc f) i ends =
      ⊎_elim
      (λ e. ap (end_from next (suc (suc f))) e)
      (λ ne. end_more next (suc f) i ne ∙ end_stays f (next i) (sym (end_more next f i ne) ∙ ends))
      (cases_eq i 0)

  endless_length : (f i : ℕ) → (end_from next f i ≡ 0 → ⊥) → length (chain_from next (suc f) i) ≡ suc f
  unfolding end_from chain_from
  endless_length zero i endless = ap length (from_more next 0 i endless)
  endless_length (suc f) i endless =
      let ne : i ≡ 0 → ⊥ = λ e. endless (ap (end_from next (suc f)) e ∙ end_zero next (suc f)) in
      ap length (from_more next (suc f) i ne) ∙ ap suc (endless_length f (next i) (λ e. endless (end_more next f i ne ∙ e)))

-- records of a chain whose indexes are of records in use
in-use-from : (d : Directory) → ((i : ℕ) → InUse d i → d.next i ≤ d.count) → (f i x : ℕ) → i ≤ d.count → some_of (eqb x) (chain_from d.next f i) ≡ true → (1 ≤ x) × (x ≤ d.count)
unfolding chain_from
in-use-from d bound zero i x low here = absurd (false≢true here)
in-use-from d bound (suc f) i x low here =
    ⊎_elim
    (λ e. absurd (false≢true (sym (at_zero d.next (some_of (eqb x)) (suc f) i e) ∙ here)))
    (λ ne. ⊎_elim
    (λ e. let same : x ≡ i = eqb-true x i e in (omega arith, omega arith))
    (λ later. in-use-from d bound f (d.next i) x (bound i (omega arith, low)) later)
    (or_cases (eqb x i) (some_of (eqb x) (chain_from d.next f (d.next i))) (sym (ap (some_of (eqb x)) (from_more d.next f i ne)) ∙ here)))
    (cases_eq i 0)

pub loopless : Loopless
loopless d k first bound =
    let n = d.count in
    let i = d.first k in
    let more : n + 1 ≡ suc n = omega arith in (
      λ ends. subst (λ (f : ℕ). Apart (chain_from d.next f i)) (sym more) (apart_from d.next (suc n) i (end_stays d.next n i ends)),
      λ apart. ⊎_elim
          (λ e. e)
          (λ endless.
          let none : ℕ → Bool = λ _. false in
          let here = subst (λ (f : ℕ). Apart (chain_from d.next f i)) more apart in
          let many = count_list (chain_from d.next (suc n) i) none n here
          (λ x on. let use' = in-use-from d bound (suc n) i x first on in (use'.0, use'.1, refl)) in
          absurd (omega (arith, many, count_none none n (λ _. refl), count_le (λ j. none j || some_of (eqb j) (chain_from d.next (suc n) i)) n, endless_length d.next n i endless)))
          (cases_eq (end_from d.next n i) 0),
    )
