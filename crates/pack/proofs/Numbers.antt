-- The numbers of places: within the pack, and one for each place. Assumes nothing.
use Rattle.std.specs.Prelude.{◌≡◌, ℕ, ◌+◌, ◌*◌, ◌/◌, ◌%◌, ◌<◌, ◌≤◌, Bool, true, ◌&&◌, ltb, ◌==◌, nat_lt}
use Rattle.std.proofs.Common.{sym, ap, ap₂, ◌∙◌, arith}
use Rattle.std.proofs.Math.Arith.{digits_lt, digits_div, digits_mod}
use Rattle.std.proofs.lemmas.Bool.{and_parts, ltb-true, lt-ltb, eqb-true, eq-eqb, and_from}
use Rattle.drive.specs.Disk.{on_drive, same_track}
use Rattle.drive.specs.declared.geometry.Track.{Track}
use Rattle.pack.specs.Plain.{place_number}

-- the place after a place begins within the pack
pub place_within : (h c d p : ℕ) → c < 303 → d < h → p < 60 → ((c * h + d) * 60 + p) * 264 + 264 ≤ h * 4799520
place_within h c d p hc hd hp = let tracks : c * h + d < 303 * h = digits_lt hc hd in omega arith

pub record On (h : ℕ) (t : Track) (p : ℕ) : Type 0 where
  pub cylinder : t.cylinder < 303
  pub head : t.head < h
  pub place : p < 60

pub on_parts : (h : ℕ) (t : Track) (p : ℕ) → on_drive h t p ≡ true → On h t p
on_parts h t p on =
    let outer = and_parts (nat_lt t.cylinder 303 && nat_lt t.head h) (nat_lt p 60) on in
    let inner = and_parts (nat_lt t.cylinder 303) (nat_lt t.head h) outer.0 in
    record {
      cylinder = ltb-true t.cylinder 303 inner.0;
      head = ltb-true t.head h inner.1;
      place = ltb-true p 60 outer.1;
    }

-- two tracks on the drive with one number are one track
pub one_track : (h : ℕ) (t u : Track) → t.head < h → u.head < h → u.cylinder * h + u.head ≡ t.cylinder * h + t.head → same_track u t ≡ true
one_track h t u ht hu track =
    let head : u.head ≡ t.head = sym (digits_mod u.cylinder hu) ∙ ap (λ (n : ℕ). n % h) track ∙ digits_mod t.cylinder ht in
    let cylinder : u.cylinder ≡ t.cylinder = sym (digits_div u.cylinder hu) ∙ ap (λ (n : ℕ). n / h) track ∙ digits_div t.cylinder ht in
    and_from (u.cylinder == t.cylinder) (u.head == t.head) (eq-eqb u.cylinder t.cylinder cylinder) (eq-eqb u.head t.head head)

-- two places on the drive with one number are one place
pub one_place : (h : ℕ) (t u : Track) (p q : ℕ) → On h t p → On h u q → place_number h u q ≡ place_number h t p → (same_track u t && q == p) ≡ true
one_place h t u p q a b same =
    let place : q ≡ p =
    sym (digits_mod (u.cylinder * h + u.head) b.place) ∙ ap (λ (n : ℕ). n % 60) same ∙ digits_mod (t.cylinder * h + t.head) a.place in
    let track : u.cylinder * h + u.head ≡ t.cylinder * h + t.head =
    sym (digits_div (u.cylinder * h + u.head) b.place) ∙ ap (λ (n : ℕ). n / 60) same ∙ digits_div (t.cylinder * h + t.head) a.place in
    and_from (same_track u t) (q == p) (one_track h t u a.head b.head track) (eq-eqb q p place)

-- a place that is the same as one on the drive is on the drive, and has its number
module _ (h : ℕ) (t u : Track) (p q : ℕ) (same : (same_track u t && q == p) ≡ true) where
  track_parts : (u.cylinder ≡ t.cylinder) × (u.head ≡ t.head)
  track_parts =
      let parts = and_parts (u.cylinder == t.cylinder) (u.head == t.head) (and_parts (same_track u t) (q == p) same).0 in
      (eqb-true u.cylinder t.cylinder parts.0, eqb-true u.head t.head parts.1)

  place_part : q ≡ p
  place_part = eqb-true q p (and_parts (same_track u t) (q == p) same).1

  pub same_on : on_drive h u q ≡ on_drive h t p
  same_on =
      ap₂ (λ (a b : Bool). a && b)
      (ap₂ (λ (a b : ℕ). nat_lt a 303 && nat_lt b h) track_parts.0 track_parts.1)
      (ap (λ (n : ℕ). ltb n 60) place_part)

  pub same_number : place_number h u q ≡ place_number h t p
  same_number =
      ap₂ (λ (a b : ℕ). a * 60 + b) (ap₂ (λ (a b : ℕ). a * h + b) track_parts.0 track_parts.1) place_part

pub on_from : (h : ℕ) (t : Track) (p : ℕ) → t.cylinder < 303 → t.head < h → p < 60 → on_drive h t p ≡ true
on_from h t p c d k =
    and_from (nat_lt t.cylinder 303 && nat_lt t.head h) (nat_lt p 60)
    (and_from (nat_lt t.cylinder 303) (nat_lt t.head h) (lt-ltb t.cylinder 303 c) (lt-ltb t.head h d))
    (lt-ltb p 60 k)

-- each place of a track on the drive is on it
pub same_track_on : (h : ℕ) (t u : Track) (q : ℕ) → same_track u t ≡ true → q < 60 → on_drive h t 0 ≡ true → on_drive h u q ≡ true
same_track_on h t u q same small on =
    let o = on_parts h t 0 on in
    let parts = and_parts (u.cylinder == t.cylinder) (u.head == t.head) same in
    let cylinder = eqb-true u.cylinder t.cylinder parts.0 in
    let head = eqb-true u.head t.head parts.1 in
    on_from h u q (omega arith) (omega arith) small
