use Rattle.std.proofs.Common.{◌≡◌, ◌+◌, ◌*◌, ◌/◌, ◌%◌, ℕ, List, get_or, set, ap, ◌∙◌, arith}
use Rattle.std.proofs.lemmas.List.{length-set}
use Rattle.card.proofs.SectorBytes.{bytes_more, bytes_all}
use Rattle.card.proofs.sectors.sector_bytes.Goals as goal

pub loop-i-preserved : goal.loop-i-preserved
loop-i-preserved c =
    let b = c.loop-i.bytes in
    let i = c.loop-i.i in
    let w = get_or c.args.words.now i 0 in
    let fits = c.fits-words i in
    let both = c.to_be_bytes.ensures in
    let h = get_or c.to_be_bytes.result 0 0 in
    let l = get_or c.to_be_bytes.result 1 0 in
    let top : w / 256 % 256 ≡ w / 256 = omega arith in
    let high : h ≡ w / 256 = ap (λ (x : List ℕ). get_or x 0 0) both ∙ top in
    let low : l ≡ w % 256 = ap (λ (x : List ℕ). get_or x 1 0) both in (
      length-set (set b (2 * i) h) (2 * i + 1) l ∙ length-set b (2 * i) h ∙ c.loop-i.invariant.0,
      bytes_more c.args.words.now b i h l c.loop-i.invariant.0 (omega arith) (omega arith) high low c.loop-i.invariant.1,
    )

pub returns : goal.returns
returns c = bytes_all c.args.words.now c.loop-i.bytes c.loop-i.i c.loop-i.invariant.0 c.told-words (omega arith) c.loop-i.invariant.1
