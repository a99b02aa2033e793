-- The fields of a record, read place by place. Assumes nothing.
use Rattle.std.proofs.Common.{◌≡◌, ℕ, ◌+◌, ◌*◌, ◌<◌, ◌≤◌, List, get_or, take, drop, ap, ◌∙◌, add-zero, zero-add, arith, lit<}
use Rattle.pack.proofs.Bytes.{get_d_part}
use Rattle.chained_pack.specs.Format.{head_at}
use Rattle.chained_pack.specs.declared.layout.RecordHead.{RecordHead}

made : ℕ → ℕ → ℕ → ℕ → ℕ → ℕ → ℕ → RecordHead
made a b c d p x y = record { next = a * 256 + b; track = c * 256 + d; place = p; id_condition = x; data_condition = y }

-- a front whose seven bytes are the same is the same
pub head_from : (r b : List ℕ) (i j : ℕ) → ((k : ℕ) → k < 7 → get_or r (i + k) 0 ≡ get_or b (j + k) 0) → head_at r i ≡ head_at b j
unfolding made
head_from r b i j same =
    let at0 : get_or r i 0 ≡ get_or b j 0 = simp add-zero at (same 0 (lit< tt)) in
    let at3 : get_or r (i + 2 + 1) 0 ≡ get_or b (j + 2 + 1) 0 =
    ap (λ (n : ℕ). get_or r n 0) (omega arith) ∙ same 3 (lit< tt) ∙ ap (λ (n : ℕ). get_or b n 0) (omega arith) in
    rw (at0, same 1 (lit< tt), same 2 (lit< tt), at3, same 4 (lit< tt), same 5 (lit< tt), same 6 (lit< tt))

-- the front of a part
pub head_part : (b : List ℕ) (at n : ℕ) → 7 ≤ n → head_at (take n (drop at b)) 0 ≡ head_at b at
head_part b at n size =
    head_from (take n (drop at b)) b 0 at (λ k small. ap (λ (j : ℕ). get_or (take n (drop at b)) j 0) (zero-add k) ∙ get_d_part b at n k (omega arith))
