use Rattle.std.proofs.Common.{◌≡◌, ℕ, ◌+◌, ◌*◌, ◌<◌, true, List, None, Option, sym, ap, ◌∙◌, arith}
use Rattle.std.proofs.lemmas.Bool.{cond-true}
use Rattle.drive.specs.Disk.{on_drive}
use Rattle.drive.specs.declared.geometry.Track.{Track}
use Rattle.pack.proofs.Numbers.{on_parts}
use Rattle.chained_pack.specs.Chains.{found_on, record_of}
use Rattle.chained_pack.specs.Format.{directory, heads_of, track_number, record_for}
use Rattle.chained_pack.specs.Lawful.{is_lawful}
use Rattle.chained_pack.proofs.ChainedDisk.{within_pack}
use Rattle.chained_pack.proofs.Lookups.{found_record}
use Rattle.chained_pack.proofs.Parts.{clear_parts, heads_high, track_small}
use Rattle.chained_pack.proofs.chained.ChainedPack.index_of.Goals as goal

-- a track on the drive has a number below 909
small : (b s : List ℕ) (t : Track) (x : ℕ) → is_lawful b ≡ true → s ≡ b → x ≡ heads_of s → (place : ℕ) → on_drive x t place ≡ true → t.cylinder * x + t.head < 909
small b s t x lawful same heads place on =
    let high = heads_high b (clear_parts b lawful).header in
    let here : heads_of s ≡ heads_of b = ap heads_of same in
    let parts = on_parts x t place on in
    track_small t.cylinder t.head x parts.cylinder parts.head (omega arith)

pub overflow_mul-number : goal.overflow_mul-number
overflow_mul-number c =
    omega (
      arith,
      small c.args.self.now.bytes.items c.chains-chains.result.image.bytes.now c.args.track c.heads-heads.result c.args.self.now.lawful
          c.chains-chains.ensures c.heads-heads.ensures c.args.place (sym c.if-not-has_place.ensures),
    )

pub overflow_add-number : goal.overflow_add-number
overflow_add-number c =
    omega (
      arith,
      small c.args.self.now.bytes.items c.chains-chains.result.image.bytes.now c.args.track c.heads-heads.result c.args.self.now.lawful
          c.chains-chains.ensures c.heads-heads.ensures c.args.place (sym c.if-not-has_place.ensures),
    )

-- what the chain gives is the record of the place
looked_up : (b s : List ℕ) (t : Track) (place x : ℕ) (r : Option ℕ) → is_lawful b ≡ true → x ≡ heads_of b → on_drive x t place ≡ true
    → s ≡ b → r ≡ found_on (directory s) (t.cylinder * x + t.head) place → r ≡ record_for b t place
looked_up b s t place x r lawful heads on same found =
    let p = clear_parts b lawful in
    found
    ∙ ap (λ (l : List ℕ). found_on (directory l) (t.cylinder * x + t.head) place) same
    ∙ found_record (directory b) p.chains p.once (t.cylinder * x + t.head) place
    ∙ ap (λ (h : ℕ). record_of (directory b) (t.cylinder * h + t.head) place) heads
    ∙ sym (cond-true (on_drive (heads_of b) t place) (record_of (directory b) (track_number (heads_of b) t) place) None (ap (λ (h : ℕ). on_drive h t place) (sym heads) ∙ on))

pub returns : goal.returns
returns c =
    let b = c.args.self.now.bytes.items in
    let p = clear_parts b c.args.self.now.lawful in
    let heads = c.heads-heads.ensures ∙ ap heads_of c.chains-chains.ensures in
    let found = looked_up b c.chains-chains.result.image.bytes.now c.args.track c.args.place c.heads-heads.result c.find.result c.args.self.now.lawful heads
    (sym c.if-not-has_place.ensures) c.chains-chains.ensures c.find.ensures in
    record {
      found = found;
      within = within_pack b c.args.track c.args.place c.args.self.now.bytes.len p.long c.args.self.now.bytes.ok.0 c.find.result found;
    }
