-- What a lawful pack has. Assumes nothing.
use Rattle.std.specs.Prelude.{◌≡◌, ℕ, ◌+◌, ◌*◌, ◌<◌, ◌≤◌, Bool, true, false, cond, not, ◌&&◌, ◌||◌, List, length, is_some, Some, None, Option, ◌==◌, nat_le, slice_index, refl}
use Rattle.std.proofs.Common.{⊎_elim, ap, ◌∙◌, arith}
use Rattle.std.proofs.Math.Arith.{digits_lt}
use Rattle.std.proofs.lemmas.Bool.{cond-true, false≢true, and_parts, or_cases, eqb-true, leb-true}
use Rattle.basics.specs.declared.refusal.Refusal.{Refusal}
use Rattle.basics.specs.declared.refusal.Refusal.TheVariants.{Length, Header, Record, Chain, Double}
use Rattle.chained_pack.specs.Chains.{chains_clear, places_once}
use Rattle.chained_pack.specs.Format.{heads_of, directory}
use Rattle.chained_pack.specs.Lawful.{room, length_clear, text_clear, header_clear, records_clear, chained_fault, is_lawful}

pub record Clear (b : List ℕ) : Type 0 where
  pub long : length_clear b ≡ true
  pub header : header_clear b ≡ true
  pub records : records_clear b ≡ true
  pub chains : chains_clear (directory b) ≡ true
  pub once : places_once (directory b) ≡ true

-- a test that does not give the fault was passed
passed : (t : Bool) (x : Refusal) (rest : Option Refusal) → cond t rest (Some x) ≡ None → (t ≡ true) × (rest ≡ None)
passed true x rest none = (refl, none)
passed false x rest none = let z : ◌≡◌ {A = ℕ} 0 1 = cc in absurd (omega arith)

pub no_fault : (b : List ℕ) → chained_fault b ≡ None → Clear b
no_fault b none =
    let l = passed (length_clear b) Length _ none in
    let h = passed (header_clear b) Header _ l.1 in
    let r = passed (records_clear b) Record _ h.1 in
    let c = passed (chains_clear (directory b)) Chain _ r.1 in
    let d = passed (places_once (directory b)) Double _ c.1 in
    record { long = l.0; header = h.0; records = r.0; chains = c.0; once = d.0 }

none_from : (o : Option Refusal) → not (is_some o) ≡ true → o ≡ None
none_from None none = refl
none_from (Some x) none = absurd (false≢true none)

module _ (b : List ℕ) where
  pub clear_parts : is_lawful b ≡ true → Clear b
  clear_parts lawful = no_fault b (none_from (chained_fault b) lawful)

  pub clear_from_lem : Clear b → is_lawful b ≡ true
  clear_from_lem c =
      ap (λ (o : Option Refusal). not (is_some o))
      (cond-true (length_clear b) _ _ c.long ∙ cond-true (header_clear b) _ _ c.header ∙ cond-true (records_clear b) _ _ c.records
      ∙ cond-true (chains_clear (directory b)) _ _ c.chains ∙ cond-true (places_once (directory b)) _ _ c.once)

  pub room_for_used : length_clear b ≡ true → 136 + (directory b).count * 268 ≤ length b
  room_for_used long =
      let a = and_parts (length b == 136 + room b * 268 && nat_le (room b) 65535) (nat_le (directory b).count (room b)) long in
      let c = and_parts (length b == 136 + room b * 268) (nat_le (room b) 65535) a.0 in
      let whole = eqb-true (length b) (136 + room b * 268) c.0 in
      let used = leb-true (directory b).count (room b) a.1 in
      omega (arith, whole, used)

  heads_cases : header_clear b ≡ true → (2 ≤ heads_of b) × (heads_of b ≤ 3)
  heads_cases header =
      let a = and_parts (text_clear b && (heads_of b == 2 || heads_of b == 3)) (slice_index b 5 == 0) header in
      let c = and_parts (text_clear b) (heads_of b == 2 || heads_of b == 3) a.0 in
      ⊎_elim
      (λ two. let e = eqb-true (heads_of b) 2 two in (omega arith, omega arith))
      (λ three. let e = eqb-true (heads_of b) 3 three in (omega arith, omega arith))
      (or_cases (heads_of b == 2) (heads_of b == 3) c.1)

  pub heads_low : header_clear b ≡ true → 2 ≤ heads_of b
  heads_low header = (heads_cases header).0

  pub heads_high : header_clear b ≡ true → heads_of b ≤ 3
  heads_high header = (heads_cases header).1

-- the number of a track on the drive
pub track_small : (c d h : ℕ) → c < 303 → d < h → h ≤ 3 → c * h + d < 909
track_small c d h hc hd high = let tracks : c * h + d < 303 * h = digits_lt hc hd in omega arith
