use Rattle.std.proofs.Common.{◌≡◌, ℕ, ◌%◌, Bool, true, false, ◌&&◌, eqb, refl, rules}
use borrow.Author.Tests.{tests}
use Rattle.std.proofs.lemmas.Iterator.{first_from_find}
use Rattle.std.proofs.lemmas.Iterator.Consumers.{YieldsList-from_first}
use Rattle.chained_pack.specs.Chains.{chain_of, is_at}
use Rattle.chained_pack.specs.Format.{directory, records_from}
use Rattle.chained_pack.specs.declared.layout.RecordHead.{RecordHead}
use Rattle.chained_pack.proofs.Passes.{found_first}
use Rattle.chained_pack.proofs.chain.find.Goals as goal

pub returns : goal.returns
returns c =
    let b = c.args.chains.image.bytes.now in
    let d = directory b in
    let t = c.args.track in
    let T : ℕ × RecordHead → Bool = λ x. eqb x.1.track t && eqb x.1.place c.args.place in
    let of_chain = c.of_chain.ensures in
    let rest : records_from c.of_chain.result.chains.image.bytes.now c.of_chain.result.most c.of_chain.result.index ≡ records_from b d.count (d.first (t % 64)) = rw (of_chain.0, of_chain.1.0, of_chain.1.1) in
    let found =
    first_from_find c.find.new.self _ _ (λ x. T x ≡ true) (λ x. T x ≡ false) c.find.ensures.ran
    (YieldsList-from_first (λ x. x) (λ s. records_from s.chains.image.bytes.now s.most s.index) (records_from b d.count (d.first (t % 64))) rest)
    (λ x q called. search (rules, tests)) (λ x q called. search (rules, tests)) in
    let first = found_first b T (is_at d t c.args.place) (λ j. refl) (chain_of d (t % 64)) c.find.result found in
    search rules
