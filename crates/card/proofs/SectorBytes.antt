-- The bytes of words, place by place. Assumes nothing.
use Rattle.std.proofs.Common.{◌≡◌, ℕ, zero, suc, ◌+◌, ◌-◌, ◌*◌, ◌/◌, ◌%◌, ◌<◌, ◌≤◌, List, [], ◌∷◌, ◌++◌, length, get_or, take, drop, set, replicate, sym, refl, ap, ◌∙◌, ⊎_elim, not-suc-le-zero, arith}
use Rattle.std.proofs.lemmas.List.{length-set, get_or-set_same, get_or-set_other, ext_get_or, take-replicate, drop-replicate}
use Rattle.std.proofs.lemmas.Bool.{cases_eq}
use Rattle.card.specs.Acts.{bytes_of, padded}

pub length_bytes : (ws : List ℕ) → length (bytes_of ws) ≡ 2 * length ws
unfolding bytes_of
length_bytes [] = refl
length_bytes (w ∷ ws) = let rest = length_bytes ws in omega arith

pub high_byte : (ws : List ℕ) (i : ℕ) → i < length ws → get_or (bytes_of ws) (2 * i) 0 ≡ get_or ws i 0 / 256
unfolding bytes_of
high_byte [] i within = absurd (not-suc-le-zero within)
high_byte (w ∷ ws) zero within = refl
high_byte (w ∷ ws) (suc i) within =
    ap (λ (k : ℕ). get_or (w / 256 ∷ w % 256 ∷ bytes_of ws) k 0) twice ∙ high_byte ws i (omega arith)
  where
    twice : 2 * suc i ≡ suc (suc (2 * i))
    twice = omega arith

pub low_byte : (ws : List ℕ) (i : ℕ) → i < length ws → get_or (bytes_of ws) (2 * i + 1) 0 ≡ get_or ws i 0 % 256
unfolding bytes_of
low_byte [] i within = absurd (not-suc-le-zero within)
low_byte (w ∷ ws) zero within = refl
low_byte (w ∷ ws) (suc i) within =
    ap (λ (k : ℕ). get_or (w / 256 ∷ w % 256 ∷ bytes_of ws) k 0) twice ∙ low_byte ws i (omega arith)
  where
    twice : 2 * suc i + 1 ≡ suc (suc (2 * i + 1))
    twice = omega arith

-- one word more is written out
module _ (ws b : List ℕ) (i h l : ℕ) (long : length b ≡ 256) (within : i < length ws) (small : i < 128) (high : h ≡ get_or ws i 0 / 256) (low : l ≡ get_or ws i 0 % 256) where
  pub bytes_more : ((k : ℕ) → k < 2 * i → get_or b k 0 ≡ get_or (bytes_of ws) k 0)
      → (k : ℕ) → k < 2 * (i + 1) → get_or (set (set b (2 * i) h) (2 * i + 1) l) k 0 ≡ get_or (bytes_of ws) k 0
  bytes_more below k before =
      let b' = set b (2 * i) h in
      let long' : 2 * i + 1 < length b' = rw (length-set b (2 * i) h) (omega arith) in
      ⊎_elim
      (λ at. ap (λ (j : ℕ). get_or (set b' (2 * i + 1) l) j 0) at
      ∙ get_or-set_same b' (2 * i + 1) l 0 long' ∙ low ∙ sym (low_byte ws i within) ∙ ap (λ (j : ℕ). get_or (bytes_of ws) j 0) (sym at))
      (λ other. get_or-set_other b' (2 * i + 1) k l 0 other
      ∙ ⊎_elim
      (λ at. ap (λ (j : ℕ). get_or b' j 0) at ∙ get_or-set_same b (2 * i) h 0 (omega arith)
      ∙ high ∙ sym (high_byte ws i within) ∙ ap (λ (j : ℕ). get_or (bytes_of ws) j 0) (sym at))
      (λ apart. get_or-set_other b (2 * i) k h 0 apart ∙ below k (omega arith))
      (cases_eq k (2 * i)))
      (cases_eq k (2 * i + 1))

pub bytes_all : (ws b : List ℕ) (i : ℕ) → length b ≡ 256 → length ws ≡ 128 → 128 ≤ i → ((k : ℕ) → k < 2 * i → get_or b k 0 ≡ get_or (bytes_of ws) k 0) → b ≡ bytes_of ws
bytes_all ws b i long words past same =
    ext_get_or 0 b (bytes_of ws) (long ∙ sym (length_bytes ws ∙ ap (λ (n : ℕ). 2 * n) words)) (λ k h. same k (omega arith))

take_over : (b : List ℕ) (m n : ℕ) (c : List ℕ) → length b ≡ m → take (m + n) (b ++ c) ≡ b ++ take n c
take_over [] m n c len = ap (λ (k : ℕ). take k c) none where
  none : m + n ≡ n
  none = omega arith
take_over (x ∷ b) m n c len =
    ap (λ (k : ℕ). take k (x ∷ (b ++ c))) one ∙ ap (λ (l : List ℕ). x ∷ l) (take_over b (length b) n c refl)
  where
    one : m + n ≡ suc (length b + n)
    one = omega arith

-- words followed by zeros up to a whole sector are the words padded
bytes_append : (xs ys : List ℕ) → bytes_of (xs ++ ys) ≡ bytes_of xs ++ bytes_of ys
unfolding bytes_of
bytes_append [] ys = refl
bytes_append (x ∷ xs) ys = ap (λ (l : List ℕ). x / 256 ∷ x % 256 ∷ l) (bytes_append xs ys)

bytes_zeros : (n : ℕ) → bytes_of (replicate n 0) ≡ replicate (2 * n) 0
unfolding bytes_of
bytes_zeros zero = refl
bytes_zeros (suc n) = ap (λ (l : List ℕ). 0 ∷ 0 ∷ l) (bytes_zeros n) ∙ ap (λ (k : ℕ). replicate k 0) twice where
  twice : suc (suc (2 * n)) ≡ 2 * suc n
  twice = omega arith

padded_is : (xs : List ℕ) (n : ℕ) → length xs ≡ n → n ≤ 128 → bytes_of (xs ++ replicate (128 - n) 0) ≡ padded (bytes_of xs)
unfolding padded
padded_is xs n long small =
    let bytes = bytes_of xs in
    let size : length bytes ≡ 2 * n = length_bytes xs ∙ ap (λ (k : ℕ). 2 * k) long in
    let count : 2 * (128 - n) ≡ 256 - 2 * n = omega arith in
    bytes_append xs (replicate (128 - n) 0) ∙ ap (λ (l : List ℕ). bytes ++ l) (bytes_zeros (128 - n) ∙ ap (λ (k : ℕ). replicate k 0) count)
    ∙ sym (front_and_zeros bytes (2 * n) size (omega arith))
  where
    front_and_zeros : (b : List ℕ) (m : ℕ) → length b ≡ m → m ≤ 256 → take 256 (b ++ replicate 256 0) ≡ b ++ replicate (256 - m) 0
    front_and_zeros b m len few =
        let rest : 256 - m ≤ 256 = omega arith in
        let whole : m + (256 - m) ≡ 256 = omega arith in
        ap (λ (k : ℕ). take k (b ++ replicate 256 0)) (sym whole) ∙ take_over b m (256 - m) (replicate 256 0) len
        ∙ ap (λ (l : List ℕ). b ++ l) (take-replicate (256 - m) 256 0 rest)

-- a buffer of zeros whose first n words were filled in
pub filled_is : (xs : List ℕ) (n : ℕ) → length xs ≡ n → n ≤ 128 → bytes_of (xs ++ drop n (replicate 128 0)) ≡ padded (bytes_of xs)
filled_is xs n long small = ap (λ (l : List ℕ). bytes_of (xs ++ l)) (drop-replicate n 128 0) ∙ padded_is xs n long small
