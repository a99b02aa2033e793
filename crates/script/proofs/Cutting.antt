-- A text cut at a byte, and what its words and lines are then.
use Rattle.std.proofs.Common.{◌≡◌, ℕ, ◌<◌, ◌≤◌, false, cond, eqb, ltb, lt-ltb, List, [], ◌∷◌, ◌++◌, map, length, get_or, drop, Option, Some, None, sym, refl, ap, ◌∙◌, arith, lit<, ne_eqb}
use Rattle.std.specs.Borrow.{Bor}
use Rattle.std.specs.List.{All, filter, slice_split}
use Rattle.std.proofs.lemmas.Bool.{cond-true}
use Rattle.std.proofs.lemmas.List.Elements.{All-from_get_or}
use Rattle.std.proofs.lemmas.List.Splits.{slice_split_none, slice_split_at}
use Rattle.std.specs.Option.{unwrap_or, MatchOption, IfSome}
use Rattle.std.specs.Str.Pattern.{CutsPrefixes, FindsCharPrefix, IsTrimStartMatches}
use Rattle.std.proofs.lemmas.Str.Pattern.{drop_at_char}
use Rattle.script.specs.Words.{words, unreturned, lines}

-- no byte c
abbrev pub Free : ℕ → List ℕ → Type 0
Free c xs = (i : ℕ) → i < length xs → get_or xs i 0 ≡ c → ⊥

others : (c : ℕ) (xs : List ℕ) → Free c xs → All (λ b. eqb b c ≡ false) xs
others c xs h = All-from_get_or (λ b. eqb b c ≡ false) xs 0 (λ i l. ne_eqb (get_or xs i 0) c (h i l))

pub words_none : words [] ≡ []
unfolding words
words_none = refl

pub words_empty : (t : List ℕ) → length t ≤ 0 → words t ≡ []
words_empty [] h = words_none
words_empty (b ∷ t) h = absurd (omega arith)

filled : List (List ℕ) → List (List ℕ)
filled ws = filter (λ w. ltb 0 (length w)) ws

filled_one : (xs : List ℕ) (ws : List (List ℕ)) → 0 < length xs → filled (xs ∷ ws) ≡ xs ∷ filled ws
unfolding filled
filled_one xs ws some = cond-true _ _ _ (lt-ltb 0 (length xs) some)

pub words_free : (xs : List ℕ) → Free 32 xs → 0 < length xs → words xs ≡ xs ∷ []
unfolding words filled
words_free xs free some = ap filled (slice_split_none _ xs (others 32 xs free)) ∙ filled_one xs [] some

pub words_cut : (xs ys : List ℕ) → Free 32 xs → 0 < length xs → words (xs ++ (32 ∷ ys)) ≡ xs ∷ words ys
unfolding words filled
words_cut xs ys free some = ap filled (slice_split_at _ xs 32 ys (others 32 xs free) refl) ∙ filled_one xs (slice_split (λ b. eqb b 32) ys) some

-- a space in front
pub words_space : (ys : List ℕ) → words (32 ∷ ys) ≡ words ys
unfolding words
words_space ys = refl

-- spaces cut off the front of a text
spaces_cut : (s : List ℕ) (ns : List ℕ) (r : List ℕ) → CutsPrefixes (FindsCharPrefix 32) s ns r → words r ≡ words s
spaces_cut s [] r e = ap words e
spaces_cut s (n ∷ ns) r (m, cuts, at, e) =
    ap words e ∙ sym (words_space (drop n m)) ∙ sym (ap words (drop_at_char 32 m 0 n at (lit< tt))) ∙ spaces_cut s ns m cuts

abbrev pub Unspaced : List ℕ → Type 0
Unspaced r = (rest : List ℕ) → r ≡ 32 ∷ rest → ⊥

unspaced : (r : List ℕ) (o : Option ℕ) → FindsCharPrefix 32 r o → IfSome o (λ n. n ≡ 0) → Unspaced r
unfolding lib.Utf8.encode
unspaced r None h z = h
unspaced r (Some n) h z = let e : n ≡ 1 = h.ends in absurd (omega arith)

pub trimmed : (s r : List ℕ) → IsTrimStartMatches (FindsCharPrefix 32) s r → (words r ≡ words s) × Unspaced r
trimmed s r ((ns, cuts), (o, h, z)) = (spaces_cut s ns r cuts, unspaced r o h z)

-- the first word of a text with no space in front, and what follows
pub first_word : (t : List ℕ) (o : Option (Bor (List ℕ) × Bor (List ℕ))) (d : Bor (List ℕ) × Bor (List ℕ)) → Unspaced t → 0 < length t
    → MatchOption o (Free 32 t) (λ p. (t ≡ p.0.now ++ (32 ∷ p.1.now)) × Free 32 p.0.now) → d.0.now ≡ t → d.1.now ≡ [] → words t ≡ (unwrap_or o d).0.now ∷ words (unwrap_or o d).1.now
first_word t None d plain some free e z = words_free t free some ∙ (λ i. sym e i ∷ (sym words_none ∙ ap words (sym z)) i)
first_word t (Some (f, b)) d plain some (cut, free) e z = ap words cut ∙ words_cut f.now b.now free (front f.now cut)
  where
    front : (xs : List ℕ) → t ≡ xs ++ (32 ∷ b.now) → 0 < length xs
    front [] c = absurd (plain b.now c)
    front (x ∷ xs) c = omega arith

pub unreturned_cut : (xs : List ℕ) → unreturned (xs ++ (13 ∷ [])) ≡ xs
unfolding unreturned
unreturned_cut [] = refl
unreturned_cut (b ∷ []) = refl
unreturned_cut (b ∷ (d ∷ xs)) = ap (λ (l : List ℕ). b ∷ l) (unreturned_cut (d ∷ xs))

pub unreturned_same : (xs : List ℕ) → ((front : List ℕ) → xs ≡ front ++ (13 ∷ []) → ⊥) → unreturned xs ≡ xs
unfolding unreturned
unreturned_same [] h = refl
unreturned_same (b ∷ []) h = ap (λ t. cond t [] (b ∷ [])) (ne_eqb b 13 (λ e. h [] (ap (λ (x : ℕ). x ∷ []) e)))
unreturned_same (b ∷ (d ∷ xs)) h =
    ap (λ (l : List ℕ). b ∷ l) (unreturned_same (d ∷ xs) (λ front e. h (b ∷ front) (ap (λ (l : List ℕ). b ∷ l) e)))

-- a line with its carriage return cut off, if there is one
pub unreturned_or : (line : Bor (List ℕ)) (o : Option (Bor (List ℕ))) → MatchOption o ((front : List ℕ) → line.now ≡ front ++ (13 ∷ []) → ⊥) (λ x. line.now ≡ x.now ++ (13 ∷ [])) → (unwrap_or o line).now ≡ unreturned line.now
unreturned_or line None h = sym (unreturned_same line.now h)
unreturned_or line (Some x) h = sym (ap unreturned h ∙ unreturned_cut x.now)

pub lines_free : (xs : List ℕ) → Free 10 xs → lines xs ≡ unreturned xs ∷ []
unfolding lines
lines_free xs free = ap (map unreturned) (slice_split_none _ xs (others 10 xs free))

pub lines_cut : (xs ys : List ℕ) → Free 10 xs → lines (xs ++ (10 ∷ ys)) ≡ unreturned xs ∷ lines ys
unfolding lines
lines_cut xs ys free = ap (map unreturned) (slice_split_at _ xs 10 ys (others 10 xs free) refl)
