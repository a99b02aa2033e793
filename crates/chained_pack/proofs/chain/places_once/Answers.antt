use Rattle.std.proofs.Common.{◌≡◌, ℕ, ◌-◌, Bool, ap, ◌∙◌, rules, arith}
use Rattle.std.proofs.iter.runs.Sources.{range_listed}
use Rattle.pack.specs.Layout.{every_below}
use Rattle.pack.proofs.EachNumber.{each_number}
use Rattle.chained_pack.specs.Chains.{chain_of, each_of, is_first}
use Rattle.chained_pack.specs.Format.{directory}
use Rattle.chained_pack.proofs.Lookups.{each_first}
use Rattle.chained_pack.proofs.chain.places_once.Goals as goal

pub returns : goal.returns
returns c =
    let d = directory c.args.chains.image.bytes.now in
    let test : ℕ → Bool = λ k. each_of (is_first d) (chain_of d k) in
    let run = c.all.ensures.runs in
    let listed = rw run.1 at (range_listed run.0 run.0.seen) in
    let all : listed.1 - listed.0 ≡ 64 = omega (arith, listed.2, listed.3) in
    each_number _ _ run.0 listed.0 listed.1 test listed.4 (λ x r f' called. search rules)
    (λ k x r at below called. let here : x ≡ k = omega (arith, listed.2) in let same = ap test here in search rules) c.all.result run.2
    ∙ ap (every_below test) all ∙ each_first d c.args.chains.clear
