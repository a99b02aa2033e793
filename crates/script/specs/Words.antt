-- The words of a line, and the lines of a text.
--   words        of a line: what stands between spaces, where that is not empty
--   unreturned   a line without the carriage return at its end
--   lines        of a text: what stands between line feeds, without carriage returns at the ends
use Rattle.std.specs.Prelude.{ℕ, cond, List, [], ◌∷◌, length, map, nat_lt, ◌==◌}
use Rattle.std.specs.List.{filter, slice_split}

unfoldable pub words : List ℕ → List (List ℕ)
words t = filter (λ w. nat_lt 0 (length w)) (slice_split (λ b. b == 32) t)

unfoldable pub unreturned : List ℕ → List ℕ
unreturned [] = []
unreturned (b ∷ []) = cond (b == 13) [] (b ∷ [])
unreturned (b ∷ (d ∷ bs)) = b ∷ unreturned (d ∷ bs)

unfoldable pub lines : List ℕ → List (List ℕ)
lines t = map unreturned (slice_split (λ b. b == 10) t)
