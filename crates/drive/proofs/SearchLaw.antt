-- What a search found, in the track's own words, is the answer. Assumes nothing.
use Rattle.std.proofs.Common.{◌≡◌, ℕ, zero, suc, ◌+◌, ◌<◌, Bool, true, false, not, ◌||◌, List, [], ◌∷◌, length, get_or, Some, None, Ok, Err, sym, refl, ap, ap₂, ◌∙◌, subst, ⊎_elim, zero-add, not-suc-le-zero, arith, rules, Decides}
use Rattle.std.specs.Bool.{one_answer}
use Rattle.std.proofs.Math.Bool.{or-false}
use Rattle.std.proofs.lemmas.Bool.{cond-true, cond-false, cases_eq, or_cases, or_left, or_right, false≢true, not-true, not_from_false}
use Rattle.std.proofs.lemmas.List.FromFn.{length-map-range_with_len, get_or-map-range_with_len}
use Rattle.std.proofs.lemmas.List.Folds.{list_any_at, Any-from_list_any}
use Rattle.drive.specs.Disk.{Disk, is_good, same_id}
use Rattle.drive.specs.Search.{ids, matches, is_spoiled, first_from, some_of, told, searched, Holds, Found, MissingBelow, Missing}
use Rattle.drive.specs.declared.geometry.Track.{Track}
use Rattle.drive.specs.declared.sector.IdField.{IdField}
use Rattle.drive.specs.declared.sector.SectorId.{SectorId}

module _ {X : Type 0} (test : X → Bool) where
  first_at : (n : ℕ) (xs : List X) (p : ℕ) → p < length xs → ((k : ℕ) (z : X) → k < p → test (get_or xs k z) ≡ false) → ((z : X) → test (get_or xs p z) ≡ true) → first_from test n xs ≡ Some (n + p)
  first_at n [] p within before here = absurd (not-suc-le-zero within)
  first_at n (x ∷ xs) zero within before here = cond-true (test x) _ _ (here x) ∙ ap Some (omega arith)
  first_at n (x ∷ xs) (suc p) within before here =
      cond-false (test x) _ _ (before 0 x (omega arith))
      ∙ first_at (n + 1) xs p (omega arith) (λ k z below. before (suc k) z (omega arith)) here
      ∙ ap Some (omega arith)

  first_none : (n : ℕ) (xs : List X) → ((k : ℕ) (z : X) → k < length xs → test (get_or xs k z) ≡ false) → first_from test n xs ≡ None
  first_none n [] none = refl
  first_none n (x ∷ xs) none =
      cond-false (test x) _ _ (none 0 x (omega arith)) ∙ first_none (n + 1) xs (λ k z below. none (suc k) z (omega arith))

-- the test on IDs decides whether they are one
decides_id : (x y : SectorId) → Decides (same_id x y) (x ≡ y)
decides_id = search rules

module _ (d : Disk) (t : Track) where
  -- a track has sixty IDs, and each is its place's
  length_ids : length (ids d t) ≡ 60
  unfolding ids
  length_ids = length-map-range_with_len (λ p. (d.sector t p).id) 0 60

  id_at : (p : ℕ) (z : IdField) → p < 60 → get_or (ids d t) p z ≡ (d.sector t p).id
  unfolding ids
  id_at p z small = get_or-map-range_with_len (λ q. (d.sector t q).id) 0 60 p p z small (zero-add p)

  module _ (argument : SectorId) where
    holds_decides : (q : ℕ) → Decides (matches argument (d.sector t q).id) (Holds d t argument q)
    holds_decides q = search rules

    misses : (q : ℕ) (z : IdField) → q < 60 → (Holds d t argument q → ⊥) → matches argument (get_or (ids d t) q z) ≡ false
    misses q z small none =
        ap (matches argument) (id_at q z small)
        ∙ one_answer _ false (holds_decides q) (λ e. absurd (false≢true e), λ h. absurd (none h))

    pub found_answer : (p : ℕ) → Found d t argument p → Ok p ≡ searched argument (ids d t)
    found_answer p f =
        let small = f.place in
        let long = length_ids in
        ap (told (some_of is_spoiled (ids d t))) (sym (first_at (matches argument) 0 (ids d t) p (omega arith)
        (λ q z below. misses q z (omega arith) (f.first q below))
        (λ z. ap (matches argument) (id_at p z small) ∙ (holds_decides p).1 f.here) ∙ ap Some (zero-add p)))

    spoiled_decides : Decides (some_of is_spoiled (ids d t)) ((q : ℕ) × (q < 60) × (is_good (d.sector t q).id.condition ≡ false))
    spoiled_decides =
        let long = length_ids in (
          λ e.
              let some = Any-from_list_any is_spoiled (ids d t) e in
              let q = some.0 in
              let within = some.2 in
              let small : q < 60 = omega arith in
              (q, small, not-true _ (ap is_spoiled (sym (id_at q some.1 small) ∙ some.3) ∙ some.4)),
          λ s.
              let q = s.0 in
              let small = s.1 in
              let z = (d.sector t q).id in
              list_any_at is_spoiled (ids d t) q z (omega arith) (ap is_spoiled (id_at q z small) ∙ not_from_false _ s.2),
        )

    pub missing_answer : (passed : Bool) → Missing d t argument passed → Err record { passed_spoiled = passed } ≡ searched argument (ids d t)
    missing_answer passed m =
        let long = length_ids in
        ap₂ told (one_answer passed _ m.spoiled spoiled_decides)
        (sym (first_none (matches argument) 0 (ids d t) (λ q z below. misses q z (omega arith) (m.none q (omega arith)))))

    -- one place further
    passes : (i : ℕ) (passed now : Bool) → MissingBelow i d t argument passed → (Holds d t argument i → ⊥) → now ≡ (passed || not (is_good (d.sector t i).id.condition)) → MissingBelow (i + 1) d t argument now
    passes i passed now m miss is = record {
      none = λ q below h. ⊎_elim (λ same. miss (subst (Holds d t argument) same h)) (λ other. m.none q (omega arith) h) (cases_eq q i);
      spoiled = (
        λ e. ⊎_elim
            (λ before. let s = m.spoiled.0 before in let below = s.1 in (s.0, omega arith, s.2))
            (λ here. (i, omega arith, not-true _ here))
            (or_cases passed _ (sym is ∙ e)),
        λ s.
            let below = s.1 in
            is ∙ ⊎_elim
            (λ same. or_right passed _ (not_from_false _ (ap (λ q. is_good (d.sector t q).id.condition) (sym same) ∙ s.2)))
            (λ other. or_left passed _ (m.spoiled.1 (s.0, omega arith, s.2)))
            (cases_eq s.0 i),
      );
    }

    module _ (i : ℕ) (passed : Bool) (m : MissingBelow i d t argument passed) (f : IdField) (here : f ≡ (d.sector t i).id) where
      pub passes_spoiled : false ≡ is_good f.condition → MissingBelow (i + 1) d t argument true
      passes_spoiled bad =
          let bad' : is_good (d.sector t i).id.condition ≡ false = ap (λ (x : IdField). is_good x.condition) (sym here) ∙ sym bad in
          passes i passed true m (λ h. absurd (false≢true (sym bad' ∙ h.good))) (sym (or_right passed _ (not_from_false _ bad')))

      pub passes_other : true ≡ is_good f.condition → false ≡ same_id f.id argument → MissingBelow (i + 1) d t argument passed
      passes_other good other =
          passes i passed passed m
          (λ h. absurd (false≢true (other ∙ (decides_id f.id argument).1 (ap (λ (x : IdField). x.id) here ∙ h.same))))
          (sym (ap (λ (b : Bool). passed || not b) (ap (λ (x : IdField). is_good x.condition) (sym here) ∙ sym good) ∙ or-false passed))
