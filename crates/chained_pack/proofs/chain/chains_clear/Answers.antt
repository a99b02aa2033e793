use Rattle.std.proofs.Common.{◌≡◌, ℕ, ◌+◌, ◌%◌, ◌≤◌, Bool, true, ◌&&◌, eqb, sym, ap, ◌∙◌, ap₂, arith}
use Rattle.std.proofs.lemmas.Bool.{and_left}
use Rattle.pack.proofs.Below.{every_none, every_more, every_fails}
use Rattle.pack.specs.Layout.{every_below}
use Rattle.chained_pack.specs.Chains.{every_record, chain_clear, on_chain}
use Rattle.chained_pack.specs.Format.{directory}
use Rattle.chained_pack.proofs.Sound.{lengths_below, lengths_none, lengths_more, none_left}
use Rattle.chained_pack.proofs.Walks.{length_from}
use Rattle.chained_pack.proofs.chain.chains_clear.Goals as goal

-- a chain has no more records than a count of two bytes can say
short : (c : goal.In-Some) → c.in-Some.length ≤ 65535
short c =
    let d = directory c.args.image.bytes.now in
    omega (arith, c.in-Some.ensures.1, length_from d.next d.count (d.first c.loop-chain.chain), c.count.ensures)

pub loop-chain-init : goal.loop-chain-init
loop-chain-init c =
    let d = directory c.args.image.bytes.now in
    (every_none (chain_clear d), sym (lengths_none d), omega arith)

pub overflow_add-records : goal.overflow_add-records
overflow_add-records c = omega (arith, short c, c.loop-chain.invariant.2)

pub returns-in_default : goal.returns-in_default
returns-in_default c =
    let d = directory c.args.image.bytes.now in
    sym (and_left (every_below (chain_clear d) 64) (every_record d (λ i. on_chain d (d.track i % 64) i))
    (every_fails (chain_clear d) 64 c.loop-chain.chain c.loop-chain-test.true c.in_default.ensures))

pub loop-chain-preserved : goal.loop-chain-preserved
loop-chain-preserved c =
    let d = directory c.args.image.bytes.now in
    let k = c.loop-chain.chain in (
      every_more (chain_clear d) k c.loop-chain.invariant.0 c.in-Some.ensures.0,
      ap₂ (λ (a b : ℕ). a + b) c.loop-chain.invariant.1 c.in-Some.ensures.1 ∙ sym (lengths_more d k),
      omega (arith, short c, c.loop-chain.invariant.2),
    )

pub returns : goal.returns
returns c =
    let d = directory c.args.image.bytes.now in
    let all : c.loop-chain.chain ≡ 64 = omega arith in
    let clear : every_below (chain_clear d) 64 ≡ true = ap (every_below (chain_clear d)) (sym all) ∙ c.loop-chain.invariant.0 in
    ap₂ eqb (c.loop-chain.invariant.1 ∙ ap (lengths_below d) all) (c.from-used.ensures ∙ c.count.ensures)
    ∙ sym (none_left d clear)
    ∙ sym (ap (λ (b : Bool). b && every_record d (λ i. on_chain d (d.track i % 64) i)) clear)
