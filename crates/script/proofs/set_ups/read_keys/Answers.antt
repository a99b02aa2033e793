use Rattle.std.proofs.Common.{◌≡◌, ◌+◌, length, set, sym, refl, ap, ◌∙◌, arith, length-set, rules}
use Rattle.std.proofs.lemmas.List.{set_past}
use Rattle.std.proofs.lemmas.Result.{err_from_is_err_and}
use Rattle.std.specs.Result.{result_ok}
use Rattle.script.specs.Readings.{padded}
use Rattle.script.specs.Words.{words}
use Rattle.script.proofs.Keying.{keys_from, keys_start, keys_end, keys_more, keys_none}
use Rattle.script.proofs.set_ups.read_keys.Goals as goal
use Rattle.script.proofs.set_ups.read_keys.Goals.{then-count-lt32, else-count-lt32}

pub loop-word-init : goal.loop-word-init
unfolding padded
loop-word-init c = (search rules, keys_start _ _ refl, refl, omega arith)

pub returns-in_err-key : goal.returns-in_err-key
returns-in_err-key c =
    let p = err_from_is_err_and c.from_residual.result c.from_residual.ensures.1 in
    ap result_ok p.1 ∙ sym (sym c.loop-word.invariant.1 ∙ keys_none _ _ _ _ _ c.in-Some.ensures.words c.in_err-key.ensures)

pub loop-word-preserved : goal.loop-word-preserved
loop-word-preserved c =
    let keys : c.if-count-lt32.keys ≡ set c.loop-word.keys c.loop-word.count c.in_ok-key.key = elim c.if-count-lt32.branch [
      | then-count-lt32 w ↦ w.keys-is
      | else-count-lt32 w ↦ w.keys-is ∙ sym (set_past c.loop-word.keys c.loop-word.count c.in_ok-key.key (omega (arith, w.if-count-lt32.false)))
    ] in (
      search rules,
      ap (λ ks. keys_from (c.loop-word.count + 1) ks (words c.in-Some.more.now)) keys
          ∙ keys_more c.loop-word.count c.in_ok-key.key c.loop-word.keys c.in-Some.word.now (words c.loop-word.rest.now) (words c.in-Some.more.now) c.in-Some.ensures.words c.in_ok-key.ensures
          ∙ c.loop-word.invariant.1,
      ap length keys ∙ length-set c.loop-word.keys c.loop-word.count c.in_ok-key.key ∙ c.loop-word.invariant.2,
      omega (arith, c.loop-word.invariant.3, c.in-Some.ensures.shorter),
    )

pub returns : goal.returns
returns c = sym (sym c.loop-word.invariant.1 ∙ keys_end c.loop-word.count c.loop-word.keys (words c.loop-word.rest.now) c.in_default.ensures.words)
