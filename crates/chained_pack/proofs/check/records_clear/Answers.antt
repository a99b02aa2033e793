use Rattle.std.proofs.Common.{◌≡◌, ℕ, ◌+◌, ◌-◌, Bool, ap, ◌∙◌, rules, arith}
use Rattle.std.proofs.iter.runs.Sources.{inclusive_listed}
use Rattle.pack.specs.Layout.{every_below}
use Rattle.pack.proofs.EachNumber.{each_number}
use Rattle.chained_pack.specs.Format.{directory}
use Rattle.chained_pack.specs.Lawful.{record_clear}
use Rattle.chained_pack.proofs.check.records_clear.Goals as goal

pub returns : goal.returns
returns c =
    let b = c.args.image.bytes.now in
    let test : ℕ → Bool = λ j. record_clear b (j + 1) in
    let run = c.all.ensures.runs in
    let listed = rw run.1 at (inclusive_listed run.0 run.0.seen) in
    let all : listed.1 - listed.0 ≡ (directory b).count = omega (arith, listed.2, listed.3, c.new.ensures.start, c.new.ensures.end, c.count.ensures) in
    each_number _ _ run.0 listed.0 listed.1 test (listed.4 c.new.ensures.exhausted).0 (λ x r f' called. search rules)
    (λ k x r at below called. let here : x ≡ k + 1 = omega (arith, listed.2, c.new.ensures.start) in let same = ap (record_clear b) here in search rules) c.all.result run.2
    ∙ ap (every_below test) all
