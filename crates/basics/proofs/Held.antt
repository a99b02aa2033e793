-- Laws of the marks that a table holds. Assumes nothing.
use Rattle.std.proofs.Common.{◌≡◌, ℕ, ◌+◌, ◌<◌, Bool, true, false, not, ◌&&◌, ltb, List, [], ◌∷◌, ◌++◌, length, get_or, set, Ok, Decides, sym, refl, ap, ◌∙◌}
use Rattle.std.proofs.lemmas.List.Filters.{FiltersInPlace, FiltersInPlace-more_set}
use Rattle.std.proofs.lemmas.List.{get_or_default}
use Rattle.std.proofs.lemmas.Bool.{cond-true, cond-false, lt-ltb, or_parts, not_from_false}
use Rattle.std.proofs.lemmas.Map.Views.{any-filter_same}
use Rattle.basics.specs.Marks.{has, without, entered, entering}

module _ {T : Type 0} (alike : T → T → Bool) (n : ℕ) (x : T) (ys : List T) (new : false ≡ has alike x ys) (free : length ys < n) where
  -- a new mark where an entry is free
  pub entering_new : Ok tt ≡ entering alike n x ys
  entering_new = sym (cond-false (has alike x ys) _ _ (sym new) ∙ cond-true (ltb (length ys) n) _ _ (lt-ltb (length ys) n free))

  pub entered_new : ys ++ x ∷ [] ≡ entered alike n x ys
  entered_new = sym (cond-false (has alike x ys) _ _ (sym new) ∙ cond-true (ltb (length ys) n) _ _ (lt-ltb (length ys) n free))

-- a mark that stays is moved down, read at any default
pub keeping_moved : {T : Type 0} (p : T → Bool) (xs ys : List T) (k i : ℕ) (d : T) → FiltersInPlace p xs ys k i → i < length ys → p (get_or ys i d) ≡ true → FiltersInPlace p xs (set ys k (get_or ys i d)) (k + 1) (i + 1)
keeping_moved p xs ys k i d kept within pass =
    FiltersInPlace-more_set {x = get_or ys i d} kept within pass (get_or_default ys i d (get_or ys i d) within)

module _ {T : Type 0} (alike : T → T → Bool) where
  -- taking out a mark that is not there
  pub without_none : (x : T) (ys : List T) → has alike x ys ≡ false → without alike x ys ≡ ys
  without_none x [] none = refl
  without_none x (y ∷ ys) none =
      let parts = or_parts (alike y x) (has alike x ys) none in
      cond-true (not (alike y x)) _ _ (not_from_false (alike y x) parts.0) ∙ ap (λ (l : List _). y ∷ l) (without_none x ys parts.1)

  -- what is still there after a mark was taken out
  pub has_without : (decides : (x y : T) → Decides (alike x y) (x ≡ y)) (x y : T) (ys : List T) → has alike x (without alike y ys) ≡ (not (alike x y) && has alike x ys)
  has_without decides x y ys =
      any-filter_same (λ z. alike z x) (λ z. not (alike z y)) (not (alike x y)) (λ z is. ap (λ (w : T). not (alike w y)) ((decides z x).0 is)) ys
