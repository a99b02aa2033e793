-- Data put into a pack: a condition byte cleared, and 256 bytes pasted behind it. Assumes nothing.
use Rattle.std.specs.Prelude.{◌≡◌, ℕ, ◌+◌, ◌<◌, ◌≤◌, ◌⊎◌, List, length, take, drop, ◌≢◌, slice_index, slice_index_or, slice_set}
use Rattle.std.proofs.Common.{⊎_elim, sym, ◌∙◌, arith}
use Rattle.std.proofs.Math.Seq.{paste}
use Rattle.std.proofs.lemmas.List.{length-set, get_or-set_same, get_or-set_other, ext_get_or}
use Rattle.pack.proofs.Bytes.{get_d_part, length_part, get_or-paste_below, get_or-paste_in, get_or-paste_above, length_pasted}

-- the condition byte stands at c, and the data begins at d
module _ (b new : List ℕ) (c d : ℕ) (size : length new ≡ 256) (order : c < d) (within : d + 256 ≤ length b) where
  room : d + 256 ≤ length (slice_set b c 0)
  room = rw (length-set b c 0) within

  pub length-put : length (paste (slice_set b c 0) d new 256) ≡ length b
  length-put = length_pasted (slice_set b c 0) new d 256 size room ∙ length-set b c 0

  pub kept_put : (j : ℕ) → (j ≢ c) → (j < d) ⊎ (d + 256 ≤ j) → slice_index (paste (slice_set b c 0) d new 256) j ≡ slice_index b j
  kept_put j ne outside =
      ⊎_elim
      (λ below. get_or-paste_below (slice_set b c 0) new d 256 size room j below)
      (λ above. get_or-paste_above (slice_set b c 0) new d 256 size room j above)
      outside
      ∙ get_or-set_other b c j 0 0 ne

  pub cleared_put : slice_index_or (paste (slice_set b c 0) d new 256) c 0 ≡ 0
  cleared_put = get_or-paste_below (slice_set b c 0) new d 256 size room c order ∙ get_or-set_same b c 0 0 (omega arith)

  pub entered_put : take 256 (drop d (paste (slice_set b c 0) d new 256)) ≡ new
  entered_put =
      let part = length_part (paste (slice_set b c 0) d new 256) d 256 (rw length-put within) in
      ext_get_or 0 _ new (part ∙ sym size)
      (λ k h.
      let small : k < 256 = omega (arith, part) in
      get_d_part (paste (slice_set b c 0) d new 256) d 256 k small ∙ get_or-paste_in (slice_set b c 0) new d 256 size room k small)
