use Rattle.std.proofs.Common.{◌≡◌, ℕ, Bool, true, false, refl, rules}
use borrow.Author.Tests.{tests}
use Rattle.std.proofs.lemmas.Iterator.{cases_from_all}
use Rattle.std.proofs.lemmas.Iterator.Consumers.{YieldsList-from_first}
use Rattle.chained_pack.specs.Chains.{chain_of, is_first, is_index, found_on}
use Rattle.chained_pack.specs.Format.{directory, records_from}
use Rattle.chained_pack.specs.declared.layout.RecordHead.{RecordHead}
use Rattle.chained_pack.proofs.Passes.{each_passes}
use Rattle.chained_pack.proofs.chain.chain_single.Goals as goal

pub returns : goal.returns
returns c =
    let b = c.args.chains.image.bytes.now in
    let d = directory b in
    let T : ℕ × RecordHead → Bool = λ x. is_index x.0 (found_on d x.1.track x.1.place) in
    let of_chain = c.of_chain.ensures in
    let rest : records_from c.of_chain.result.chains.image.bytes.now c.of_chain.result.most c.of_chain.result.index ≡ records_from b d.count (d.first c.args.chain) = rw (of_chain.0, of_chain.1.0, of_chain.1.1) in
    let cases =
    cases_from_all c.all.new.self _ _ (λ x. T x ≡ true) (λ x. T x ≡ false) c.all.ensures.ran
    (YieldsList-from_first (λ x. x) (λ s. records_from s.chains.image.bytes.now s.most s.index) (records_from b d.count (d.first c.args.chain)) rest)
    (λ x q called. search (rules, tests)) (λ x q called. search (rules, tests)) in
    each_passes b T (is_first d) (λ j. refl) (chain_of d c.args.chain) c.all.result cases
