-- A table of marks, by the list of marks that it holds, the oldest first.
--   has        whether a list of marks has a mark, by the marks' own test
--   without    the list with a mark taken out
--   entered    the marks after one was to be entered: as before if it is there or no entry is free, else one more, the newest
--   entering   what the table answers to that
--   where_there   an answer, where the mark falls on something that is there
use Rattle.std.specs.Prelude.{ℕ, Bool, cond, not, List, [], ◌∷◌, ◌++◌, length, Ok, Err, filter, Result, nat_lt}
use Rattle.std.specs.List.{list_any}
use Rattle.basics.specs.declared.refusal.Refusal.{Refusal}
use Rattle.basics.specs.declared.refusal.Refusal.TheVariants.{NoSuchPlace, MarksFull}

module _ {T : Type 0} (alike : T → T → Bool) where
  abbrev pub has : T → List T → Bool
  has x ys = list_any (λ y. alike y x) ys

  abbrev pub without : T → List T → List T
  without x ys = filter (λ y. not (alike y x)) ys

  -- at most n marks
  abbrev pub entered : ℕ → T → List T → List T
  entered n x ys = cond (has x ys) ys (cond (nat_lt (length ys) n) (ys ++ x ∷ []) ys)

  abbrev pub entering : ℕ → T → List T → Result (Unit {0}) Refusal
  entering n x ys = cond (has x ys) (Ok tt) (cond (nat_lt (length ys) n) (Ok tt) (Err MarksFull))

abbrev pub where_there : Bool → Result (Unit {0}) Refusal → Result (Unit {0}) Refusal
where_there there answer = cond there answer (Err NoSuchPlace)
