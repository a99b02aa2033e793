-- Words without spaces, and lines without ends.
use Rattle.std.proofs.Common.{◌≡◌, ℕ, zero, suc, ◌<◌, ◌≤◌, Bool, true, ◌&&◌, leb, leb-true, List, [], ◌∷◌, ◌++◌, length, get_or, refl, ap, ◌∙◌, subst, arith, length-append}
use Rattle.std.proofs.lemmas.Bool.{and_parts}
use Rattle.std.proofs.lemmas.List.{get_or_push}
use Rattle.std.specs.Str.Parse.{AllDigits}
use Rattle.std.specs.Char.{digit_value}
use Rattle.script.specs.Printings.{spaced}
use Rattle.script.specs.Words.{words, unreturned}
use Rattle.script.proofs.Cutting.{Free, words_free, words_cut, unreturned_same}

pub free_cons : (c b : ℕ) (xs : List ℕ) → (b ≡ c → ⊥) → Free c xs → Free c (b ∷ xs)
free_cons c b xs h free zero l e = h e
free_cons c b xs h free (suc i) l e = free i (omega arith) e

pub free_append : (c : ℕ) (xs ys : List ℕ) → Free c xs → Free c ys → Free c (xs ++ ys)
free_append c [] ys h k = k
free_append c (x ∷ xs) ys h k = free_cons c x (xs ++ ys) (h 0 (omega arith)) (free_append c xs ys (λ i l e. h (suc i) (omega arith) e) k)

-- every byte is a small letter, or comes after these
abbrev pub letters : List ℕ → Bool
letters [] = true
letters (x ∷ xs) = leb 97 x && letters xs

pub free_letters : (c : ℕ) (xs : List ℕ) → c < 97 → letters xs ≡ true → Free c xs
free_letters c [] small h = λ i l e. omega arith
free_letters c (x ∷ xs) small h =
    let p = and_parts (leb 97 x) (letters xs) h in
    free_cons c x xs (λ e. omega (arith, leb-true 97 x p.0)) (free_letters c xs small p.1)

pub free_digits : (c : ℕ) (ds : List ℕ) → 16 ≤ digit_value c → AllDigits 16 ds → Free c ds
free_digits c [] h d = λ i l e. omega arith
free_digits c (x ∷ xs) h d =
    free_cons c x xs (λ e. let z : digit_value c < 16 = subst (λ (v : ℕ). digit_value v < 16) e d.0 in omega arith) (free_digits c xs h d.1)

-- a word that is not empty, without a byte
abbrev pub Clean : ℕ → List ℕ → Type 0
Clean c w = Free c w × (0 < length w)

abbrev pub AllClean : ℕ → List (List ℕ) → Type 0
AllClean c [] = Unit {0}
AllClean c (w ∷ ws) = Clean c w × AllClean c ws

pub words_spaced : (w : List ℕ) (vs : List (List ℕ)) → AllClean 32 (w ∷ vs) → words (spaced w vs) ≡ w ∷ vs
words_spaced w [] clean = words_free w clean.0.0 clean.0.1
words_spaced w (v ∷ vs) clean = words_cut w (spaced v vs) clean.0.0 clean.0.1 ∙ ap (λ ws. w ∷ ws) (words_spaced v vs clean.1)

pub free_spaced : (c : ℕ) (w : List ℕ) (vs : List (List ℕ)) → (32 ≡ c → ⊥) → AllClean c (w ∷ vs) → Free c (spaced w vs)
free_spaced c w [] h clean = clean.0.0
free_spaced c w (v ∷ vs) h clean = free_append c w (32 ∷ spaced v vs) clean.0.0 (free_cons c 32 (spaced v vs) h (free_spaced c v vs h clean.1))

pub unreturned_free : (xs : List ℕ) → Free 13 xs → unreturned xs ≡ xs
unreturned_free xs free = unreturned_same xs (λ front e.
    free (length front) (omega (arith, ap length e, length-append front (13 ∷ []))) (ap (λ (l : List ℕ). get_or l (length front) 0) e ∙ get_or_push front 13 0 (length front) refl))
