use Rattle.std.proofs.Common.{◌≡◌, ℕ, ◌/◌, ◌%◌, List, [], ◌∷◌, get_or, refl, ap, ◌∙◌, arith}
use Rattle.pack.specs.Fresh.{zero_data, fresh_head, fresh_record}
use Rattle.pack.proofs.Bytes.{head_and_zeros}
use Rattle.pack.proofs.plain_pack.fresh.put_fresh.Goals as goal

pub returns : goal.returns
unfolding fresh_record zero_data
returns c =
    let t = c.args.track in
    let s = c.args.sector in
    let high : t.cylinder / 256 % 256 ≡ t.cylinder / 256 = omega arith in
    let head =
    c.copy_from_slice.ensures.after
    ∙ ap (λ (l : List ℕ). 0 ∷ 0 ∷ 0 ∷ get_or l 0 0 ∷ get_or l 1 0 ∷ t.head ∷ s ∷ 0 ∷ []) c.to_be_bytes.ensures
    ∙ ap (λ (h : ℕ). 0 ∷ 0 ∷ 0 ∷ h ∷ t.cylinder % 256 ∷ t.head ∷ s ∷ 0 ∷ []) high in
    head_and_zeros c.args.pack.now (fresh_head t s) c.copy_from_slice.new.self c.fill.new.self
    c.args.at c.requires refl head (c.fill.ensures.after (λ y e. e))
