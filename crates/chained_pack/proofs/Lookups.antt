-- What is found along a chain, and by whom. Assumes nothing.
use Rattle.std.proofs.Common.{◌≡◌, ℕ, ◌+◌, ◌-◌, ◌%◌, ◌<◌, ◌≤◌, true, not, eqb, Some, None, Option, sym, refl, ap, ◌∙◌, ap₂, ⊎_elim, mod-lt, arith, lit<}
use Rattle.std.proofs.lemmas.Bool.{cases_Bool, cases_eq, cases_order, both_ways, eq-eqb, eqb-true, and_parts, and_from, ne_eqb, false≢true, not-true, not_from_false}
use Rattle.pack.specs.Layout.{every_below}
use Rattle.pack.proofs.Below.{every_at, every_from}
use Rattle.chained_pack.specs.Chains.{Directory, chain_of, each_of, every_record, chain_clear, chains_clear, on_chain, is_at, alike, places_once, record_of, found_on, is_index, is_first}
use Rattle.chained_pack.specs.Laws.{Orderly}
use Rattle.chained_pack.proofs.Sound.{record_at, comes_to_end, first_within, on_track, on_next, on_use}
use Rattle.chained_pack.proofs.Walks.{apart_from, cases_option, each_at, each_from, first_some, first_none, record_some, record_none}

module _ (d : Directory) (clear : chains_clear d ≡ true) where
  parts : (every_below (chain_clear d) 64 ≡ true) × (every_record d (λ i. on_chain d (d.track i % 64) i) ≡ true)
  parts = and_parts (every_below (chain_clear d) 64) (every_record d (λ i. on_chain d (d.track i % 64) i)) clear

  pub clear_at : (k : ℕ) → k < 64 → chain_clear d k ≡ true
  clear_at k below = every_at (chain_clear d) 64 k parts.0 below

  pub first_in_use : (k : ℕ) → k < 64 → d.first k ≤ d.count
  first_in_use k below = first_within d k (clear_at k below)

  -- a record in use, on its chain
  module _ (i : ℕ) (low : 1 ≤ i) (high : i ≤ d.count) where
    pub on_own : on_chain d (d.track i % 64) i ≡ true
    on_own = record_at d (λ j. on_chain d (d.track j % 64) j) i parts.1 low high

    pub next_in_use : d.next i ≤ d.count
    next_in_use = on_next d (d.track i % 64) (clear_at (d.track i % 64) (mod-lt (d.track i) (lit< tt))) i on_own

  -- what a search along the chain of track t finds
  module _ (t p : ℕ) where
    found_is : (x : ℕ) → found_on d t p ≡ Some x → (is_at d t p x ≡ true) × (1 ≤ x) × (x ≤ d.count)
    found_is x found =
        let hit = first_some (is_at d t p) (chain_of d (t % 64)) x found in
        let use' = on_use d (t % 64) (clear_at (t % 64) (mod-lt t (lit< tt))) x hit.1 in
        (hit.0, use'.0, use'.1)

    found_none : (x : ℕ) → found_on d t p ≡ None → 1 ≤ x → x ≤ d.count → is_at d t p x ≡ true → ⊥
    found_none x none low high at =
        let track = eqb-true (d.track x) t (and_parts (eqb (d.track x) t) (eqb (d.place x) p) at).0 in
        both_ways (is_at d t p x)
        (first_none (is_at d t p) (chain_of d (t % 64)) x none (ap (λ (n : ℕ). on_chain d (n % 64) x) (sym track) ∙ on_own x low high)) at

  -- two records of one place
  twice_at : (t p i j : ℕ) → is_at d t p i ≡ true → is_at d t p j ≡ true → alike d i j ≡ true
  twice_at t p i j at_i at_j =
      let a = and_parts (eqb (d.track i) t) (eqb (d.place i) p) at_i in
      let b = and_parts (eqb (d.track j) t) (eqb (d.place j) p) at_j in
      and_from (eqb (d.track j) (d.track i)) (eqb (d.place j) (d.place i))
      (eq-eqb (d.track j) (d.track i) (eqb-true (d.track j) t b.0 ∙ sym (eqb-true (d.track i) t a.0)))
      (eq-eqb (d.place j) (d.place i) (eqb-true (d.place j) p b.1 ∙ sym (eqb-true (d.place i) p a.1)))

  once_before : places_once d ≡ true → (i j : ℕ) → 1 ≤ j → j < i → i ≤ d.count → alike d i j ≡ true → ⊥
  once_before once i j low below high same =
      let i' : i - 1 + 1 ≡ i = omega arith in
      let j' : j - 1 + 1 ≡ j = omega arith in
      let row = every_at (λ m. every_below (λ n. not (alike d (m + 1) (n + 1))) m) d.count (i - 1) once (omega arith) in
      let cell = every_at (λ n. not (alike d (i - 1 + 1) (n + 1))) (i - 1) (j - 1) row (omega arith) in
      both_ways (alike d i j) (not-true (alike d i j) (ap₂ (λ (m n : ℕ). not (alike d m n)) (sym i') (sym j') ∙ cell)) same

  pub one_record : places_once d ≡ true → (t p i j : ℕ) → 1 ≤ i → i ≤ d.count → 1 ≤ j → j ≤ d.count → is_at d t p i ≡ true → is_at d t p j ≡ true → i ≡ j
  one_record once t p i j li hi lj hj at_i at_j =
      ⊎_elim (λ e. e) (λ ne. ⊎_elim
      (λ lt. absurd (once_before once j i li lt hj (twice_at t p j i at_j at_i)))
      (λ gt. absurd (once_before once i j lj gt hi (twice_at t p i j at_i at_j)))
      ne) (cases_order i j)

  -- in a lawful pack the search along the chain finds the record of the place
  pub found_record : places_once d ≡ true → (t p : ℕ) → found_on d t p ≡ record_of d t p
  found_record once t p =
      ⊎_elim
      (λ none. ⊎_elim
      (λ none'. none ∙ sym none')
      (λ some.
      let at = record_some (is_at d t p) d.count some.0 some.1 in
      absurd (found_none t p some.0 none at.1 at.2 at.0))
      (cases_option (record_of d t p)))
      (λ found.
      let here = found_is t p found.0 found.1 in
      ⊎_elim
      (λ none'. absurd (both_ways (is_at d t p found.0) (record_none (is_at d t p) d.count found.0 none' here.1 here.2) here.0))
      (λ some.
      let at = record_some (is_at d t p) d.count some.0 some.1 in
      found.1 ∙ ap Some (one_record once t p found.0 some.0 here.1 here.2 at.1 at.2 here.0 at.0) ∙ sym some.1)
      (cases_option (record_of d t p)))
      (cases_option (found_on d t p))

  -- a record has its own track and place
  own_at : (x : ℕ) → is_at d (d.track x) (d.place x) x ≡ true
  own_at x =
      and_from (eqb (d.track x) (d.track x)) (eqb (d.place x) (d.place x)) (eq-eqb (d.track x) (d.track x) refl) (eq-eqb (d.place x) (d.place x) refl)

  index_is : (i : ℕ) (o : Option ℕ) → is_index i o ≡ true → o ≡ Some i
  index_is i (Some j) same = ap Some (eqb-true j i same)
  index_is i None same = absurd (false≢true same)

  -- no place is recorded twice exactly if each record is the first of its place on its chain
  pub each_first : every_below (λ k. each_of (is_first d) (chain_of d k)) 64 ≡ places_once d
  each_first =
      ⊎_elim
      (λ all.
      let first' : (i : ℕ) → 1 ≤ i → i ≤ d.count → found_on d (d.track i) (d.place i) ≡ Some i = λ i low high.
      index_is i (found_on d (d.track i) (d.place i))
      (each_at (is_first d) (chain_of d (d.track i % 64)) i
      (every_at (λ k. each_of (is_first d) (chain_of d k)) 64 (d.track i % 64) all (mod-lt (d.track i) (lit< tt)))
      (on_own i low high)) in
      all ∙ sym (every_from (λ i. every_below (λ j. not (alike d (i + 1) (j + 1))) i) d.count (λ i hi.
      every_from (λ j. not (alike d (i + 1) (j + 1))) i (λ j hj. ⊎_elim
      (λ same.
      let both = and_parts (eqb (d.track (j + 1)) (d.track (i + 1))) (eqb (d.place (j + 1)) (d.place (i + 1))) same in
      let a = first' (i + 1) (omega arith) (omega arith) in
      let b = first' (j + 1) (omega arith) (omega arith) in
      let one : Some (i + 1) ≡ Some (j + 1) =
      sym a ∙ ap₂ (found_on d) (sym (eqb-true (d.track (j + 1)) (d.track (i + 1)) both.0)) (sym (eqb-true (d.place (j + 1)) (d.place (i + 1)) both.1)) ∙ b in
      let equal : i + 1 ≡ j + 1 = cc in
      absurd (omega arith))
      (λ other. not_from_false (alike d (i + 1) (j + 1)) other)
      (cases_Bool (alike d (i + 1) (j + 1)))))))
      (λ some. ⊎_elim
      (λ once. absurd (both_ways (every_below (λ k. each_of (is_first d) (chain_of d k)) 64) some
      (every_from (λ k. each_of (is_first d) (chain_of d k)) 64 (λ k below.
      each_from (is_first d) (chain_of d k) (λ x on.
      let use' = on_use d k (clear_at k below) x on in
      let here = own_at x in
      ⊎_elim
      (λ none. absurd (found_none (d.track x) (d.place x) x none use'.0 use'.1 here))
      (λ found.
      let at = found_is (d.track x) (d.place x) found.0 found.1 in
      ap (is_index x) found.1
      ∙ eq-eqb found.0 x (one_record once (d.track x) (d.place x) found.0 x at.1 at.2 use'.0 use'.1 at.0 here))
      (cases_option (found_on d (d.track x) (d.place x))))))))
      (λ twice. some ∙ sym twice)
      (cases_Bool (places_once d)))
      (cases_Bool (every_below (λ k. each_of (is_first d) (chain_of d k)) 64))

  pub orderly : places_once d ≡ true → Orderly d
  orderly once = record {
    chained = λ i k use' below. ⊎_elim
        (λ e. ap (λ (n : ℕ). on_chain d n i) (sym e) ∙ on_own i use'.0 use'.1 ∙ sym (eq-eqb (d.track i % 64) k e))
        (λ ne. ⊎_elim
        (λ on. absurd (ne (on_track d k (clear_at k below) i on)))
        (λ off. off ∙ sym (ne_eqb (d.track i % 64) k ne))
        (cases_Bool (on_chain d k i)))
        (cases_eq (d.track i % 64) k);
    used = λ k i below on. on_use d k (clear_at k below) i on;
    apart = λ k below. apart_from d.next d.count (d.first k) (comes_to_end d k (clear_at k below));
    once = λ i j ui uj track place. one_record once (d.track i) (d.place i) i j ui.0 ui.1 uj.0 uj.1 (own_at i)
        (ap₂ (λ (t p : ℕ). is_at d t p j) track place ∙ own_at j);
    own = λ i use'. ⊎_elim
        (λ none. absurd (both_ways (is_at d (d.track i) (d.place i) i) (record_none (is_at d (d.track i) (d.place i)) d.count i none use'.0 use'.1) (own_at i)))
        (λ some.
        let at = record_some (is_at d (d.track i) (d.place i)) d.count some.0 some.1 in
        some.1 ∙ ap Some (one_record once (d.track i) (d.place i) some.0 i at.1 at.2 use'.0 use'.1 at.0 (own_at i)))
        (cases_option (record_of d (d.track i) (d.place i)));
    found = found_record once;
  }
