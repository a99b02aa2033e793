-- Keys read one by one.
use Rattle.std.proofs.Common.{◌≡◌, ℕ, zero, suc, ◌+◌, List, [], ◌∷◌, ◌++◌, length, set, Some, None, Option, sym, refl, ap, ◌∙◌, append_assoc, append-nil, arith, length-append}
use Rattle.std.specs.Option.{option_map}
use Rattle.script.specs.declared.line.Keys.{Keys}
use Rattle.script.specs.Figures.{byte}
use Rattle.script.specs.Readings.{every, padded, keys_of}
use Rattle.script.specs.Takes.{after}

abbrev pub keys_are : ℕ → List ℕ → Keys
keys_are n ks = record { count = n; keys = ks }

-- the keys of the words that are left, after some
unfoldable pub keys_from : ℕ → List ℕ → List (List ℕ) → Option Keys
keys_from n ks [] = Some (keys_are n ks)
keys_from n ks (w ∷ ws) = after (byte w) (λ k. keys_from (n + 1) (set ks n k) ws)

set_next : (n : ℕ) (xs : List ℕ) (k : ℕ) → set (padded n xs) (length xs) k ≡ padded n (xs ++ (k ∷ []))
unfolding padded
set_next zero xs k = refl
set_next (suc n) [] k = refl
set_next (suc n) (x ∷ xs) k = ap (λ (l : List ℕ). x ∷ l) (set_next n xs k)

all : List ℕ → List ℕ → Keys
all xs more = keys_are (length (xs ++ more)) (padded 32 (xs ++ more))

all_more : (xs : List ℕ) (k : ℕ) (o : Option (List ℕ)) → option_map (all (xs ++ (k ∷ []))) o ≡ option_map (all xs) (option_map (λ ks. k ∷ ks) o)
unfolding all
all_more xs k None = refl
all_more xs k (Some more) = ap (λ (l : List ℕ). Some (keys_are (length l) (padded 32 l))) (append_assoc xs (k ∷ []) more)

abbrev From : List (List ℕ) → Type 0
From ws = (xs : List ℕ) → keys_from (length xs) (padded 32 xs) ws ≡ option_map (all xs) (every byte ws)

from_after : (ws : List (List ℕ)) → From ws → (xs : List ℕ) (o : Option ℕ) → after o (λ k. keys_from (length xs + 1) (set (padded 32 xs) (length xs) k) ws) ≡ option_map (all xs) (after o (λ k. option_map (λ ks. k ∷ ks) (every byte ws)))
from_after ws h xs None = refl
from_after ws h xs (Some k) =
    let e : length xs + 1 ≡ length (xs ++ (k ∷ [])) = omega (arith, length-append xs (k ∷ [])) in
    (λ i. keys_from (e i) (set_next 32 xs k i) ws) ∙ h (xs ++ (k ∷ [])) ∙ all_more xs k (every byte ws)

from_all : (ws : List (List ℕ)) → From ws
unfolding keys_from every all
from_all [] xs = ap (λ (l : List ℕ). Some (keys_are (length l) (padded 32 l))) (sym (append-nil xs))
from_all (w ∷ ws) xs = from_after ws (from_all ws) xs (byte w)

pub keys_start : (ks : List ℕ) (ws : List (List ℕ)) → ks ≡ padded 32 [] → keys_from 0 ks ws ≡ keys_of ws
unfolding keys_of all
keys_start ks ws e = ap (λ (l : List ℕ). keys_from 0 l ws) e ∙ from_all ws []

pub keys_end : (n : ℕ) (ks : List ℕ) (ws : List (List ℕ)) → ws ≡ [] → keys_from n ks ws ≡ Some (keys_are n ks)
unfolding keys_from
keys_end n ks ws e = ap (keys_from n ks) e

pub keys_more : (n k : ℕ) (ks w : List ℕ) (ws rest : List (List ℕ)) → ws ≡ w ∷ rest → Some k ≡ byte w → keys_from (n + 1) (set ks n k) rest ≡ keys_from n ks ws
unfolding keys_from
keys_more n k ks w ws rest e read = sym (ap (keys_from n ks) e ∙ ap (λ (o : Option ℕ). after o (λ k. keys_from (n + 1) (set ks n k) rest)) (sym read))

pub keys_none : (n : ℕ) (ks w : List ℕ) (ws rest : List (List ℕ)) → ws ≡ w ∷ rest → None ≡ byte w → keys_from n ks ws ≡ None
unfolding keys_from
keys_none n ks w ws rest e read = ap (keys_from n ks) e ∙ ap (λ (o : Option ℕ). after o (λ k. keys_from (n + 1) (set ks n k) rest)) (sym read)
