use Rattle.std.proofs.Common.{ℕ, ◌-◌, length, get_or, take, drop, ap, ap₂, ◌∙◌, arith}
use Rattle.chained_pack.specs.Format.{head_at}
use Rattle.chained_pack.proofs.Fields.{head_part}
use Rattle.chained_pack.proofs.image.Image.head.Goals as goal

pub returns : goal.returns
returns c =
    let b = c.args.self.bytes.now in
    let at = c.start.result in
    let part = take (length b - at) (drop at b) in
    ap₂ (λ (n t : ℕ). record { next = n; track = t; place = get_or part 4 0; id_condition = get_or part 5 0; data_condition = get_or part 6 0 })
    c.from_be_bytes.ensures c.from_be_bytes-2.ensures
    ∙ head_part b at (length b - at) (omega arith)
    ∙ ap (head_at b) c.start.ensures
