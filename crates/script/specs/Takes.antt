-- Words taken from a line one after another.
--   after              goes on from what was read, if anything was
--   taken              what f reads from the first word, with the words behind it
--   first              goes on from what f reads from the first word, with the words behind it
--   end                what is said, if no word is left
--   left, named_left   what a taking function answers: what was read, and the words of the text that is left
use Rattle.std.specs.Prelude.{ℕ, List, [], ◌∷◌, Some, None, Ok, Err, Option, Result}
use Rattle.std.specs.Borrow.{Bor}
use Rattle.std.specs.Option.{option_map}
use Rattle.script.specs.Words.{words}

abbrev pub after : {X R : Type 0} → Option X → (X → Option R) → Option R
after None k = None
after (Some x) k = k x

abbrev pub taken : {X : Type 0} → (List ℕ → Option X) → List (List ℕ) → Option (X × List (List ℕ))
taken f [] = None
taken f (w ∷ ws) = option_map (λ x. (x, ws)) (f w)

abbrev pub first : {X R : Type 0} → (List ℕ → Option X) → (X → List (List ℕ) → Option R) → List (List ℕ) → Option R
first f k ws = after (taken f ws) (λ p. k p.0 p.1)

abbrev pub end : {R : Type 0} → R → List (List ℕ) → Option R
end r [] = Some r
end r (w ∷ ws) = None

abbrev pub left : {X E : Type 0} → Result (X × Bor (List ℕ)) E → Option (X × List (List ℕ))
left (Ok p) = Some (p.0, words p.1.now)
left (Err e) = None

abbrev pub named_left : {E : Type 0} → Result (Bor (List ℕ) × Bor (List ℕ)) E → Option (List ℕ × List (List ℕ))
named_left (Ok p) = Some (p.0.now, words p.1.now)
named_left (Err e) = None
