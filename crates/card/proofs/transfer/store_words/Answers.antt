use Rattle.std.proofs.Common.{◌≡◌, ◌<◌, ℕ, List, length, get_or, map, w16, refl, ap, ◌∙◌, sym, arith}
use Rattle.std.specs.Int.{from_be_bytes}
use Rattle.std.proofs.lemmas.List.{length-map, get_or-map}
use Rattle.card.specs.Acts.{world}
use Rattle.card.proofs.Spares.{not_spared}
use Rattle.card.proofs.Transfers.{storing_more, storing_stops, storing_all}
use Rattle.card.proofs.transfer.store_words.Goals as goal

-- word i, and that it is one of them
word_is : (ws : List (List ℕ)) (i n : ℕ) (d : List ℕ) → i < length ws → n ≡ from_be_bytes w16 (get_or ws i d)
    → (i < length (map (from_be_bytes w16) ws)) × (get_or (map (from_be_bytes w16) ws) i 0 ≡ n)
word_is ws i n d within is = (simp length-map within, get_or-map (from_be_bytes w16) ws i d 0 within ∙ sym is)

pub returns-in-Err : goal.returns-in-Err
returns-in-Err g c =
    let word = word_is c.args.words.now c.loop-i.i c.from_be_bytes.result _ c.loop-i-test.true c.from_be_bytes.ensures in
    record {
      moved = λ v d.
          storing_stops (map (from_be_bytes w16) c.args.words.now) c.args.address c.args.key c.args.residual.now
          (world v d (g.S.Storage.meaning c.args.storage.now)) v d (g.S.Storage.meaning c.loop-i.storage) c.loop-i.i c.loop-i.residual
          (c.loop-i.invariant.moved v d) word.0 _ word.1 c.in-Err.fault (g.S.Storage.meaning c.store.new.self) c.in-Err.ensures.verdict c.store.ensures.after;
      kept = λ v d spared. c.in-Err.ensures.refused refl ∙ (c.loop-i.invariant.kept v d spared).1;
      lent = c.store.ensures.loan ∙ c.loop-i.invariant.lent;
    }

pub loop-i-preserved : goal.loop-i-preserved
loop-i-preserved g c =
    let word = word_is c.args.words.now c.loop-i.i c.from_be_bytes.result _ c.loop-i-test.true c.from_be_bytes.ensures in
    let within = word.0 in
    record {
      moved = λ v d.
          storing_more (map (from_be_bytes w16) c.args.words.now) c.args.address c.args.key c.args.residual.now
          (world v d (g.S.Storage.meaning c.args.storage.now)) v d (g.S.Storage.meaning c.loop-i.storage) c.loop-i.i c.loop-i.residual
          (c.loop-i.invariant.moved v d) within _ word.1 tt (g.S.Storage.meaning c.store.new.self) c.in-Ok.ensures.verdict c.store.ensures.after;
      kept = λ v d spared.
          let before = c.loop-i.invariant.kept v d spared in
          absurd (not_spared (map (from_be_bytes w16) c.args.words.now) c.args.address c.args.key c.args.residual.now v d
          (g.S.Storage.meaning c.loop-i.storage) (g.S.Storage.meaning c.args.storage.now) c.loop-i.i tt before.0 (ap (λ s. g.S.Storage.meaning s) before.1) (omega arith)
          c.in-Ok.ensures.verdict spared);
      lent = c.store.ensures.loan ∙ c.loop-i.invariant.lent;
    }

pub returns : goal.returns
returns g c = record {
  moved = λ v d.
      storing_all (map (from_be_bytes w16) c.args.words.now) c.args.address c.args.key c.args.residual.now
      (world v d (g.S.Storage.meaning c.args.storage.now)) (world v d (g.S.Storage.meaning c.loop-i.storage)) c.loop-i.i c.loop-i.residual
      (c.loop-i.invariant.moved v d) (simp length-map c.loop-i-test.false);
  kept = λ v d spared. (c.loop-i.invariant.kept v d spared).1;
  lent = c.loop-i.invariant.lent;
}
