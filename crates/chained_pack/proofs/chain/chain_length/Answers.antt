use Rattle.std.proofs.Common.{◌+◌, ◌%◌, sym, ap, ◌∙◌, subst, arith}
use Rattle.chained_pack.specs.Format.{directory}
use Rattle.chained_pack.proofs.Lengths.{Measured, at_first, measured_all, past_use, too_many, wrong_chain, measured_more}
use Rattle.chained_pack.specs.declared.layout.RecordHead.{RecordHead}
use Rattle.chained_pack.proofs.chain.chain_length.Goals as goal

pub loop-records-init : goal.loop-records-init
loop-records-init c =
    subst (Measured (directory c.args.image.bytes.now) c.args.chain 0) (sym c.first-index.ensures) (at_first (directory c.args.image.bytes.now) c.args.chain)

pub returns-then-index-eq0 : goal.returns-then-index-eq0
returns-then-index-eq0 c =
    measured_all (directory c.args.image.bytes.now) c.args.chain c.loop-records.records c.loop-records.index c.loop-records.invariant c.if-index-eq0.true

pub returns-then-index-used : goal.returns-then-index-used
returns-then-index-used c =
    past_use (directory c.args.image.bytes.now) c.args.chain c.loop-records.records c.loop-records.index c.loop-records.invariant c.if-index-eq0.false
    (omega (arith, c.count-used.ensures))

pub returns-then-front-chain : goal.returns-then-front-chain
returns-then-front-chain c =
    wrong_chain (directory c.args.image.bytes.now) c.args.chain c.loop-records.records c.loop-records.index c.loop-records.invariant c.if-index-eq0.false
    (λ e. c.if-front-chain.true (ap (λ (h : RecordHead). h.track % 64) c.head-front.ensures ∙ e))

pub loop-records-preserved : goal.loop-records-preserved
loop-records-preserved c =
    let d = directory c.args.image.bytes.now in
    subst (Measured d c.args.chain (c.loop-records.records + 1)) (sym (ap (λ (h : RecordHead). h.next) c.head-front.ensures))
    (measured_more d c.args.chain c.loop-records.records c.loop-records.index c.loop-records.invariant c.if-index-eq0.false
    (omega (arith, c.count-used.ensures)) (omega (arith, c.count-used.ensures))
    (sym (ap (λ (h : RecordHead). h.track % 64) c.head-front.ensures) ∙ c.if-front-chain.false))

pub returns-else-front-chain : goal.returns-else-front-chain
returns-else-front-chain c =
    too_many (directory c.args.image.bytes.now) c.args.chain c.loop-records.records c.loop-records.index c.loop-records.invariant c.if-index-eq0.false
    (omega (arith, c.count-used.ensures))
