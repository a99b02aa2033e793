-- What clear chains are: each record in use lies on the chain of its track, and on no other. Assumes nothing.
use Rattle.std.specs.Prelude.{◌≡◌, ℕ, zero, suc, ◌+◌, ◌-◌, ◌%◌, ◌<◌, ◌≤◌, Bool, true, false, ◌&&◌, ◌||◌, length, ◌==◌, nat_eq, nat_le}
use Rattle.std.proofs.Math.Logic.{⊎_elim}
use Rattle.std.proofs.Math.Path.{refl, ap}
use Rattle.std.proofs.Common.{sym, ◌∙◌, mod-lt, lit<}
use native.Mathlib.Omega.{arith}
use Rattle.std.proofs.lemmas.Bool.{cases_Bool, cases_eq, both_ways, eq-eqb, ne_eqb, eqb-true, false≢true, and_parts, or_cases, or_left, or_right, leb-true}
use Rattle.drive.specs.Search.{some_of}
use Rattle.pack.specs.Layout.{every_below}
use Rattle.pack.proofs.Below.{every_at}
use Rattle.chained_pack.specs.Chains.{Directory, chain_from, end_from, each_of, chain_of, every_record, belongs, chain_clear, on_chain}
use Rattle.chained_pack.proofs.Counting.{count_to, count_none, count_same, count_list, count_every, every_counted}
use Rattle.chained_pack.proofs.Walks.{each_at, at_zero, from_more, apart_from}

pub record_at : (d : Directory) (test : ℕ → Bool) (i : ℕ) → every_record d test ≡ true → 1 ≤ i → i ≤ d.count → test i ≡ true
record_at d test i all low high =
    let here : i - 1 + 1 ≡ i = omega arith in
    ap test (sym here) ∙ every_at (λ j. test (j + 1)) d.count (i - 1) all (omega arith)

module _ (d : Directory) (k : ℕ) where
  pub first_within : chain_clear d k ≡ true → d.first k ≤ d.count
  first_within clear =
      let outer = and_parts (nat_le (d.first k) d.count && each_of (belongs d k) (chain_of d k)) (end_from d.next d.count (d.first k) == 0) clear in
      leb-true (d.first k) d.count (and_parts (nat_le (d.first k) d.count) (each_of (belongs d k) (chain_of d k)) outer.0).0

  pub own_records : chain_clear d k ≡ true → each_of (belongs d k) (chain_of d k) ≡ true
  own_records clear =
      let outer = and_parts (nat_le (d.first k) d.count && each_of (belongs d k) (chain_of d k)) (end_from d.next d.count (d.first k) == 0) clear in
      (and_parts (nat_le (d.first k) d.count) (each_of (belongs d k) (chain_of d k)) outer.0).1

  pub comes_to_end : chain_clear d k ≡ true → end_from d.next d.count (d.first k) ≡ 0
  comes_to_end clear =
      eqb-true (end_from d.next d.count (d.first k)) 0
      (and_parts (nat_le (d.first k) d.count && each_of (belongs d k) (chain_of d k)) (end_from d.next d.count (d.first k) == 0) clear).1

  within_from : (f i x : ℕ) → i ≤ d.count → each_of (belongs d k) (chain_from d.next f i) ≡ true → some_of (nat_eq x) (chain_from d.next f i) ≡ true → (1 ≤ x) × (x ≤ d.count)
  unfolding chain_from each_of
  within_from zero i x low all here = absurd (false≢true here)
  within_from (suc f) i x low all here =
      ⊎_elim
      (λ e. absurd (false≢true (sym (at_zero d.next (some_of (nat_eq x)) (suc f) i e) ∙ here)))
      (λ ne.
      let more = from_more d.next f i ne in
      let parts = and_parts (belongs d k i) (each_of (belongs d k) (chain_from d.next f (d.next i))) (sym (ap (each_of (belongs d k)) more) ∙ all) in
      ⊎_elim
      (λ e. let same : x ≡ i = eqb-true x i e in (omega arith, omega arith))
      (λ later. within_from f (d.next i) x (leb-true (d.next i) d.count (and_parts (d.track i % 64 == k) (nat_le (d.next i) d.count) parts.0).1) parts.1 later)
      (or_cases (x == i) (some_of (nat_eq x) (chain_from d.next f (d.next i))) (sym (ap (some_of (nat_eq x)) more) ∙ here)))
      (cases_eq i 0)

  -- what is on a clear chain
  module _ (clear : chain_clear d k ≡ true) (x : ℕ) (on : on_chain d k x ≡ true) where
    belongs_here : belongs d k x ≡ true
    belongs_here = each_at (belongs d k) (chain_of d k) x (own_records clear) on

    pub on_track : d.track x % 64 ≡ k
    on_track = eqb-true (d.track x % 64) k (and_parts (d.track x % 64 == k) (nat_le (d.next x) d.count) belongs_here).0

    pub on_next : d.next x ≤ d.count
    on_next = leb-true (d.next x) d.count (and_parts (d.track x % 64 == k) (nat_le (d.next x) d.count) belongs_here).1

    pub on_use : (1 ≤ x) × (x ≤ d.count)
    on_use = within_from d.count (d.first k) x (first_within clear) (own_records clear) on

-- whether a record lies on one of the chains below k, and how many records these have
pub on_below : Directory → ℕ → ℕ → Bool
on_below d zero x = false
on_below d (suc k) x = on_below d k x || on_chain d k x

pub lengths_below : Directory → ℕ → ℕ
lengths_below d zero = 0
lengths_below d (suc k) = lengths_below d k + length (chain_of d k)

module _ (d : Directory) where
  pub lengths_none : lengths_below d 0 ≡ 0
  unfolding lengths_below
  lengths_none = refl

  pub lengths_more : (k : ℕ) → lengths_below d (k + 1) ≡ lengths_below d k + length (chain_of d k)
  unfolding lengths_below
  lengths_more k = let next : k + 1 ≡ suc k = omega arith in ap (lengths_below d) next

  below_track : (k x : ℕ) → every_below (chain_clear d) k ≡ true → on_below d k x ≡ true → (d.track x % 64 < k) × (on_chain d (d.track x % 64) x ≡ true)
  unfolding on_below every_below
  below_track zero x clear on = absurd (false≢true on)
  below_track (suc k) x clear on =
      let parts = and_parts (every_below (chain_clear d) k) (chain_clear d k) clear in
      ⊎_elim
      (λ before. let rest = below_track k x parts.0 before in (omega (arith, rest.0), rest.1))
      (λ here. let track = on_track d k parts.1 x here in (omega arith, ap (λ (n : ℕ). on_chain d n x) track ∙ here))
      (or_cases (on_below d k x) (on_chain d k x) on)

  below_from : (k j x : ℕ) → j < k → on_chain d j x ≡ true → on_below d k x ≡ true
  unfolding on_below
  below_from zero j x below on = absurd (omega arith)
  below_from (suc k) j x below on =
      ⊎_elim
      (λ e. or_right (on_below d k x) (on_chain d k x) (ap (λ (n : ℕ). on_chain d n x) (sym e) ∙ on))
      (λ ne. or_left (on_below d k x) (on_chain d k x) (below_from k j x (omega arith) on))
      (cases_eq j k)

  counted : (k : ℕ) → every_below (chain_clear d) k ≡ true → count_to (on_below d k) d.count ≡ lengths_below d k
  unfolding on_below every_below lengths_below
  counted zero clear = count_none (on_below d 0) d.count (λ i. refl)
  counted (suc k) clear =
      let parts = and_parts (every_below (chain_clear d) k) (chain_clear d k) clear in
      count_list (chain_of d k) (on_below d k) d.count (apart_from d.next d.count (d.first k) (comes_to_end d k parts.1))
      (λ x on.
      let use' = on_use d k parts.1 x on in (
        use'.0,
        use'.1,
        ⊎_elim
            (λ before. absurd (omega (arith, (below_track k x parts.0 before).0, on_track d k parts.1 x on)))
            (λ none. none)
            (cases_Bool (on_below d k x)),
      ))
      ∙ ap (λ (n : ℕ). n + length (chain_of d k)) (counted k parts.0)

  -- none is left over exactly if the chains have as many records as are in use
  pub none_left : every_below (chain_clear d) 64 ≡ true → every_record d (λ i. on_chain d (d.track i % 64) i) ≡ (lengths_below d 64 == d.count)
  none_left clear =
      let same : (i : ℕ) → on_below d 64 i ≡ on_chain d (d.track i % 64) i = λ i. ⊎_elim
      (λ on. on ∙ sym (below_track 64 i clear on).1)
      (λ off. off ∙ ⊎_elim
      (λ on. absurd (both_ways (on_below d 64 i) off (below_from 64 (d.track i % 64) i (mod-lt (d.track i) (lit< tt)) on)))
      (λ none. sym none)
      (cases_Bool (on_chain d (d.track i % 64) i)))
      (cases_Bool (on_below d 64 i)) in
      let total = sym (count_same (λ i. on_chain d (d.track i % 64) i) (on_below d 64) d.count (λ i l h. same i)) ∙ counted 64 clear in
      ⊎_elim
      (λ all. all ∙ sym (eq-eqb (lengths_below d 64) d.count (sym total ∙ count_every (λ i. on_chain d (d.track i % 64) i) d.count all)))
      (λ some. some ∙ sym (ne_eqb (lengths_below d 64) d.count (λ e. both_ways (every_record d (λ i. on_chain d (d.track i % 64) i)) some (every_counted (λ i. on_chain d (d.track i % 64) i) d.count (total ∙ e)))))
      (cases_Bool (every_record d (λ i. on_chain d (d.track i % 64) i)))
