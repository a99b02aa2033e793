-- Parts of a list of bytes, read place by place. Assumes nothing.
use Rattle.std.specs.Prelude.{◌≡◌, ℕ, ◌+◌, ◌-◌, ◌<◌, ◌≤◌, List, ◌++◌, length, take, drop, replicate, slice_index, slice_index_or}
use Rattle.std.proofs.Common.{sym, ap, ap₂, ◌∙◌, add-zero, arith, lit<}
use borrow.Rule.Slice.PartMut.{put_mid}
use Rattle.std.proofs.Math.Seq.{paste}
use Rattle.std.proofs.lemmas.List.Edits.{paste-paste}
use Rattle.std.proofs.lemmas.Slice.{put_mid-paste}
use Rattle.std.proofs.lemmas.List.{length-drop, length-append, get_or-take, get_or-drop, get_or_append_left, get_or-append_right, length-take-le, ext_get_or, length-replicate}
use Rattle.pack.specs.Layout.{id_of}

-- an ID whose five bytes are the same is the same
pub id_from : (r b : List ℕ) (i j : ℕ) → ((k : ℕ) → k < 5 → slice_index r (i + k) ≡ slice_index b (j + k)) → id_of r i ≡ id_of b j
id_from r b i j same =
    let first : slice_index_or r i 0 ≡ slice_index_or b j 0 = simp add-zero at (same 0 (lit< tt)) in
    rw (first, same 1 (lit< tt), same 2 (lit< tt), same 3 (lit< tt), same 4 (lit< tt))

-- a part of n bytes from i on, place by place
pub get_d_part : (b : List ℕ) (i n k : ℕ) → k < n → slice_index (take n (drop i b)) k ≡ slice_index b (i + k)
get_d_part b i n k within = get_or-take n (drop i b) k 0 within ∙ get_or-drop i b k 0

pub length_part : (b : List ℕ) (i n : ℕ) → i + n ≤ length b → length (take n (drop i b)) ≡ n
length_part b i n within = length-take-le n (drop i b) (rw (length-drop i b) (omega arith))

-- two parts that agree at each place
pub part_same : (b c : List ℕ) (i j n : ℕ) → i + n ≤ length b → j + n ≤ length c → ((k : ℕ) → k < n → slice_index b (i + k) ≡ slice_index c (j + k)) → take n (drop i b) ≡ take n (drop j c)
part_same b c i j n bi cj same =
    ext_get_or 0 (take n (drop i b)) (take n (drop j c)) (length_part b i n bi ∙ sym (length_part c j n cj))
    (λ k h.
    let within : k < n = omega (arith, length_part b i n bi) in
    get_d_part b i n k within ∙ same k within ∙ sym (get_d_part c j n k within))

-- what a paste of a whole list s at a place leaves
module _ (b s : List ℕ) (i n : ℕ) (long : length s ≡ n) (within : i + n ≤ length b) where
  front : length (take i b) ≡ i
  front = length-take-le i b (omega arith)

  middle : length (take n s) ≡ n
  middle = length-take-le n s (omega arith)

  pub get_or-paste_below : (j : ℕ) → j < i → slice_index (paste b i s n) j ≡ slice_index b j
  get_or-paste_below j h =
      get_or_append_left (take i b ++ take n s) (drop (i + n) b) 0 j (rw (length-append (take i b) (take n s)) (omega (arith, front)))
      ∙ get_or_append_left (take i b) (take n s) 0 j (omega (arith, front)) ∙ get_or-take i b j 0 h

  pub get_or-paste_in : (k : ℕ) → k < n → slice_index (paste b i s n) (i + k) ≡ slice_index s k
  get_or-paste_in k h =
      get_or_append_left (take i b ++ take n s) (drop (i + n) b) 0 (i + k) (rw (length-append (take i b) (take n s)) (omega (arith, front, middle)))
      ∙ get_or-append_right (take i b) (take n s) i (i + k) 0 front (omega arith)
      ∙ ap (λ (m : ℕ). slice_index (take n s) m) (omega arith) ∙ get_or-take n s k 0 h

  pub get_or-paste_above : (j : ℕ) → i + n ≤ j → slice_index (paste b i s n) j ≡ slice_index b j
  get_or-paste_above j h =
      get_or-append_right (take i b ++ take n s) (drop (i + n) b) (i + n) j 0 (rw (length-append (take i b) (take n s)) (omega (arith, front, middle))) h
      ∙ get_or-drop (i + n) b (j - (i + n)) 0 ∙ ap (λ (m : ℕ). slice_index b m) (omega arith)

  pub length_pasted : length (paste b i s n) ≡ length b
  length_pasted =
      length-append (take i b ++ take n s) (drop (i + n) b)
      ∙ rw (length-append (take i b) (take n s), front, middle, length-drop (i + n) b) (omega arith)

-- eight bytes copied and 256 zeros filled in behind them, as one paste
pub head_and_zeros : (b head x y : List ℕ) (at : ℕ) → at + 264 ≤ length b → length head ≡ 8 → x ≡ head
    → y ≡ replicate (length (take (at + 264 - (at + 8)) (drop (at + 8) (put_mid at (at + 8 - at) b x)))) 0
    → put_mid (at + 8) (at + 264 - (at + 8)) (put_mid at (at + 8 - at) b x) y ≡ paste b at (head ++ replicate 256 0) 264
head_and_zeros b head x y at within eight is_head is_fill =
    let room : at + 8 ≤ length b = omega arith in
    let first : put_mid at (at + 8 - at) b x ≡ paste b at head 8 = put_mid-paste at (at + 8 - at) b x head 8 is_head (omega arith) (sym eight) in
    let long : length (paste b at head 8) ≡ length b = length_pasted b head at 8 eight room in
    let count : at + 264 - (at + 8) ≡ 256 = omega arith in
    let part : length (take (at + 264 - (at + 8)) (drop (at + 8) (put_mid at (at + 8 - at) b x))) ≡ 256 =
    ap₂ (λ (n : ℕ) (l : List ℕ). length (take n (drop (at + 8) l))) count first
    ∙ length_part (paste b at head 8) (at + 8) 256 (rw long (omega arith)) in
    let zeros : y ≡ replicate 256 0 = is_fill ∙ ap (λ (n : ℕ). replicate n 0) part in
    put_mid-paste (at + 8) (at + 264 - (at + 8)) (put_mid at (at + 8 - at) b x) y (replicate 256 0) 256 zeros (omega arith) (sym (length-replicate {A = ℕ} 256 0))
    ∙ ap (λ (l : List ℕ). paste l (at + 8) (replicate 256 0) 256) first
    ∙ paste-paste b at head (replicate 256 0) 8 256 (sym eight) (sym (length-replicate {A = ℕ} 256 0)) (omega arith)
